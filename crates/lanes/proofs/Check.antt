-- The check of a linear word program against its meaning on blocks: the program and the meaning run side by side on sums of named bits,
-- in all slots, and where the sums are the same (a computed test) the numbers are (`law`). Assumes nothing.
use mathlib.Core.Path.{◌≡◌, ◌∙◌}
use mathlib.Core.List.{List, [], ◌∷◌, map}
use mathlib.Core.Bool.{Bool, true, ◌&&◌}
use Prim.Native.Nat.{ℕ, zero, suc, ◌*◌, ◌/◌, ◌%◌, ◌≤◌, ◌<◌}
use native.Mathlib.Nat.{not-suc-le-zero, eq-or-lt_of_le, le_of_suc-le-suc}
use mathlib.Core.Logic.{◌⊎◌, inl, inr}
use lib.Dec.{T, lit≤}
use lib.ListN.{get_or}
use Rattle.fips197.specs.Bytes.{Fit}
use Rattle.fips197.specs.Aes.{bit, from_bits, range}
use Rattle.fips197.proofs.Bits.{bit_lt, bit_cons_zero, bit_cons_suc}
use Rattle.fips197.proofs.Linear.{Sum, den, Related, all_ok, numbers, value_of, zero_bit, both_left, both_right, xor_r, or_r, mask_r, shr_r, shl_r}
use Rattle.fips197.proofs.Linear.{low_r, const_r, bit_times_r, input, inputs, same, agree}
use Rattle.fips197.proofs.Layers.{Bytes, related8}
use Rattle.lanes.specs.Layout.{Width, w32, w64, bits, slots, place}
use Rattle.lanes.specs.Programs.{Ops}

pub narrow : (w : Width) → bits w ≤ 64
narrow w32 = lit≤ tt
narrow w64 = lit≤ tt

module _ (ws : List ℕ) where
  abbrev pub related_words : Width → Ops (Related (value_of ws))
  related_words w = record {
    const = const_r ws (bits w);
    xor = xor_r ws;
    or = or_r ws;
    mask = mask_r ws;
    shr = shr_r ws;
    shl = shl_r ws (bits w);
    low = λ a n. low_r ws n a;
    bit_times = bit_times_r ws (bits w);
  }

  -- ---- a lane of related words
  abbrev pub column : ℕ → List (Related (value_of ws)) → List Sum
  column k xs = map (λ x. get_or x.sym.sums k []) xs

  abbrev pub gathered : ℕ → List (Related (value_of ws)) → ℕ
  gathered k xs = from_bits (map (bit k) (numbers (value_of ws) xs))

  pub gather_at : (k : ℕ) (xs : List (Related (value_of ws))) → T (all_ok (value_of ws) xs)
      → (q : ℕ) → bit q (gathered k xs) ≡ den (value_of ws) (get_or (column k xs) q [])
  gather_at k [] t q = zero_bit q
  gather_at k (x ∷ xs) t zero =
      bit_cons_zero (gathered k xs) (bit k x.word) (bit_lt k x.word) ∙ x.holds (both_left x.sym.ok (all_ok (value_of ws) xs) t) k
  gather_at k (x ∷ xs) t (suc q) =
      bit_cons_suc q (gathered k xs) (bit k x.word) (bit_lt k x.word) ∙ gather_at k xs (both_right x.sym.ok (all_ok (value_of ws) xs) t) q

  -- the number whose bit p is bit k of xs at p
  abbrev pub gather_r : ℕ → List (Related (value_of ws)) → Related (value_of ws)
  gather_r k xs = record {
    word = gathered k xs;
    sym = record { ok = all_ok (value_of ws) xs; sums = column k xs };
    holds = λ t q. gather_at k xs t q;
  }

  -- the block in slot b
  abbrev pub slot_r : Width → List (Related (value_of ws)) → ℕ → List (Related (value_of ws))
  slot_r w xs b = map (λ n. gather_r (place w (n % 4) (n / 4) b) xs) (range 0 16)

-- ---- the same block in every slot below n
module _ (ρ : ℕ → ℕ) where
  abbrev pub same_below : ℕ → (ℕ → List (Related ρ)) → (ℕ → List (Related ρ)) → Bool
  same_below zero f g = true
  same_below (suc n) f g = ◌&&◌ (same ρ (f n) (g n)) (same_below n f g)

  pub agree_below : (n : ℕ) (f g : ℕ → List (Related ρ)) → T (same_below n f g) → (b : ℕ) → b < n → numbers ρ (f b) ≡ numbers ρ (g b)
  agree_below zero f g t b h = absurd (not-suc-le-zero h)
  agree_below (suc n) f g t b h = pick (agree_below n f g (both_right (same ρ (f n) (g n)) (same_below n f g) t) b) (eq-or-lt_of_le (le_of_suc-le-suc h))
    where
      pick : (b < n → numbers ρ (f b) ≡ numbers ρ (g b)) → ((b ≡ n) ⊎ (b < n)) → numbers ρ (f b) ≡ numbers ρ (g b)
      pick ih (inl e) = rw e (agree ρ (f n) (g n) (both_left (same ρ (f n) (g n)) (same_below n f g) t))
      pick ih (inr l) = ih l

-- ---- a program on words (or bytes) by their places, and a meaning: from the same, and from the slots of the words in eights, the block of
-- slot b
abbrev pub Program : Type 1
Program = (A : Type 0) → Ops A → (ℕ → A) → List A

abbrev pub Meaning : Type 1
Meaning = (A : Type 0) → Bytes A → (ℕ → A) → (ℕ → ℕ → List A) → ℕ → List A

-- the inputs have W bits: as many as a word, or eight
module _ (W : ℕ) (few : W ≤ 64) (w : Width) (P : Program) (M : Meaning) (ws : List ℕ) (fit : Fit W ws) where
  abbrev pub word : ℕ → Related (value_of ws)
  word p = input W few ws fit p

  abbrev pub done : ℕ → List (Related (value_of ws))
  done = slot_r ws w (P (Related (value_of ws)) (related_words ws w) word)

  abbrev pub meant : ℕ → List (Related (value_of ws))
  meant = M (Related (value_of ws)) (related8 ws) word (λ g b. slot_r ws w (inputs W few ws fit (8 * g) 8) b)

  pub law_of : T (same_below (value_of ws) (slots w) done meant) → (b : ℕ) → b < slots w → numbers (value_of ws) (done b) ≡ numbers (value_of ws) (meant b)
  law_of t = agree_below (value_of ws) (slots w) done meant t

pub law : (w : Width) (P : Program) (M : Meaning) (ws : List ℕ) (fit : Fit (bits w) ws)
    → T (same_below (value_of ws) (slots w) (done (bits w) (narrow w) w P M ws fit) (meant (bits w) (narrow w) w P M ws fit))
    → (b : ℕ) → b < slots w → numbers (value_of ws) (done (bits w) (narrow w) w P M ws fit b) ≡ numbers (value_of ws) (meant (bits w) (narrow w) w P M ws fit b)
law w = law_of (bits w) (narrow w) w
