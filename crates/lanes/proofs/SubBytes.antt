-- What the S-box circuits compute: bit k of a circuit's words is the circuit on bits k (the same text read at `Lane k`), and a computed test
-- over 256 bytes says what that is. The test runs the circuit on `Bool`, which is quicker than on numbers. Assumes nothing.
use mathlib.Core.Path.{◌≡◌, refl, sym, ap, ap₂, ◌∙◌, fun_ext}
use mathlib.Core.List.{List, [], ◌∷◌, map}
use mathlib.Core.Bool.{Bool, true, false, ◌&&◌, xor}
use Prim.Native.Nat.{ℕ, zero, suc, ◌/◌, ◌%◌, ◌^◌, ◌<◌}
use lib.Dec.{T, eqb, eqb→eq, lit<}
use lib.Bits.{bit_xor, bit_and, xor_lt}
use lib.ListN.{get_or}
use Rattle.fips197.specs.Aes.{bit, from_bits, range, affine, inv_affine, sbox, inv_sbox, sub_bytes, inv_sub_bytes}
use Rattle.fips197.proofs.Bits.{bit_lt, bit_cases, xor_bit, and_bit, bit_cons_zero, bit_cons_suc}
use Rattle.fips197.proofs.Linear.{zero_bit}
use Rattle.fips197.proofs.Tables.{below, below_at, inverses, looked, sbox_at, inv_sbox_at}
use Rattle.fips197.proofs.Blocks.{reads}
use Rattle.lanes.specs.Layout.{Width, place, lane, slot}
use Rattle.lanes.specs.Schedule.{add63}
use Rattle.lanes.specs.Leaves.{Does, all, bare_sub_bytes, inv_bare_sub_bytes}
use Rattle.lanes.specs.Programs.{on8}
use Rattle.lanes.specs.Circuits.{Circuit, sub_program, inv_sub_program, on_words}
use Rattle.lanes.proofs.Packing.{lane_lt}

-- sub_bytes and inv_sub_bytes on words
unfoldable pub sub_words : List ℕ → List ℕ
sub_words ws = on_words (λ A. sub_program) ws

unfoldable pub inv_sub_words : List ℕ → List ℕ
inv_sub_words ws = on_words (λ A. inv_sub_program) ws

-- ---- a bit, true or false
abbrev digit : Bool → ℕ
digit true = 1
digit false = 0

xor_digit : (a b : Bool) → bit_xor (digit a) (digit b) ≡ digit (xor a b)
unfolding xor
xor_digit true true = refl
xor_digit true false = refl
xor_digit false true = refl
xor_digit false false = refl

and_digit : (a b : Bool) → bit_and (digit a) (digit b) ≡ digit (◌&&◌ a b)
and_digit true true = refl
and_digit true false = refl
and_digit false b = refl

-- ---- a word, and its bit k
record Lane (k : ℕ) : Type 0 where
  word : ℕ
  value : Bool
  holds : bit k word ≡ digit value

module _ (k : ℕ) where
  abbrev xor_l : Lane k → Lane k → Lane k
  xor_l a b = record {
    word = bit_xor a.word b.word;
    value = xor a.value b.value;
    holds = xor_bit k a.word b.word ∙ ap₂ bit_xor a.holds b.holds ∙ xor_digit a.value b.value;
  }

  abbrev and_l : Lane k → Lane k → Lane k
  and_l a b = record {
    word = bit_and a.word b.word;
    value = ◌&&◌ a.value b.value;
    holds = and_bit k a.word b.word ∙ ap₂ bit_and a.holds b.holds ∙ and_digit a.value b.value;
  }

  values : (xs : List (Lane k)) → map (bit k) (map (λ x. x.word) xs) ≡ map digit (map (λ x. x.value) xs)
  values [] = refl
  values (x ∷ xs) = ap₂ ◌∷◌ x.holds (values xs)

  abbrev one : List ℕ → ℕ → Lane k
  one ws p = record {
    word = get_or ws p 0;
    value = eqb (bit k (get_or ws p 0)) 1;
    holds = bit_cases (λ (v : ℕ). v ≡ digit (eqb v 1)) refl refl (bit k (get_or ws p 0)) (bit_lt k (get_or ws p 0));
  }

-- the bits of a number that is given by its bits
bits_from : (k : ℕ) (ws : List ℕ) (q : ℕ) → bit q (from_bits (map (bit k) ws)) ≡ get_or (map (bit k) ws) q 0
bits_from k [] q = zero_bit q
bits_from k (x ∷ xs) zero = bit_cons_zero (from_bits (map (bit k) xs)) (bit k x) (bit_lt k x)
bits_from k (x ∷ xs) (suc q) = bit_cons_suc q (from_bits (map (bit k) xs)) (bit k x) (bit_lt k x) ∙ bits_from k xs q

-- ---- a circuit does to each lane what its table says
module _ (P : Circuit) where
  abbrev on_bools : (ℕ → ℕ) → List Bool
  on_bools b = on8 (P Bool xor ◌&&◌) (λ p. eqb (b p) 1)

  -- the circuit on the bits of a number
  abbrev on_bits : (ℕ → ℕ) → ℕ
  on_bits b = from_bits (map digit (on_bools b))

  -- both hold by computation at each circuit: eight words come out, and the two operations go through a lane
  abbrev Lanewise : Type 0
  Lanewise = (k : ℕ) (ws : List ℕ) →
      (reads 0 8 (on_words P ws) ≡ map (λ x. x.word) (on8 (P (Lane k) (xor_l k) (and_l k)) (one k ws)))
      × (map (λ x. x.value) (on8 (P (Lane k) (xor_l k) (and_l k)) (one k ws)) ≡ on_bools (λ p. get_or (map (bit k) (reads 0 8 ws)) p 0))

module _ (P : Circuit) (f : ℕ → ℕ) (h : Lanewise P) (table : (x : ℕ) → x < 2 ^ 8 → on_bits P (λ p. bit p x) ≡ f x) where
  lane_law : (k : ℕ) (ws : List ℕ) → lane k (on_words P ws) ≡ f (lane k ws)
  lane_law k ws =
      ap (λ (l : List ℕ). from_bits (map (bit k) l)) (h k ws).0
      ∙ ap from_bits (values k (on8 (P (Lane k) (xor_l k) (and_l k)) (one k ws)))
      ∙ ap (λ (l : List Bool). from_bits (map digit l)) (h k ws).1
      ∙ ap (on_bits P) (sym (fun_ext (bits_from k (reads 0 8 ws))))
      ∙ table (lane k ws) (lane_lt k ws)

  -- and so to each slot
  slot_law : (w : Width) (ws : List ℕ) (b : ℕ) → slot w (on_words P ws) b ≡ map f (slot w ws b)
  unfolding slot
  slot_law w ws b = over (range 0 16)
    where
      over : (ns : List ℕ) → map (λ n. lane (place w (n % 4) (n / 4) b) (on_words P ws)) ns ≡ map f (map (λ n. lane (place w (n % 4) (n / 4) b) ws) ns)
      over [] = refl
      over (n ∷ ns) = ap₂ ◌∷◌ (lane_law (place w (n % 4) (n / 4) b) ws) (over ns)

-- ---- the two tables, which look the inverse up
abbrev bare_sbox : ℕ → ℕ
bare_sbox x = bit_xor (sbox x) 0x63

abbrev inv_bare_sbox : ℕ → ℕ
inv_bare_sbox x = inv_sbox (bit_xor x 0x63)

abbrev right : Circuit → (ℕ → ℕ) → ℕ → Bool
right P g x = eqb (on_bits P (λ p. bit p x)) (g x)

right_at : (P : Circuit) (g : ℕ → ℕ) → T (below (right P g) 256) → (x : ℕ) → x < 2 ^ 8 → on_bits P (λ p. bit p x) ≡ g x
right_at P g t x h = eqb→eq (on_bits P (λ p. bit p x)) (g x) (below_at (right P g) 256 t x h)

sub_right : T (below (right (λ A. sub_program) (λ x. bit_xor (affine (looked x)) 0x63)) 256)
unfolding xor affine looked inverses
sub_right = tt

inv_sub_right : T (below (right (λ A. inv_sub_program) (λ x. looked (inv_affine (bit_xor x 0x63)))) 256)
unfolding xor inv_affine looked inverses
inv_sub_right = tt

sub_table : (x : ℕ) → x < 2 ^ 8 → on_bits (λ A. sub_program) (λ p. bit p x) ≡ bare_sbox x
sub_table x h =
    right_at (λ A. sub_program) (λ x. bit_xor (affine (looked x)) 0x63) sub_right x h
    ∙ ap (λ (y : ℕ). bit_xor y 0x63) (sym (sbox_at x h))

inv_sub_table : (x : ℕ) → x < 2 ^ 8 → on_bits (λ A. inv_sub_program) (λ p. bit p x) ≡ inv_bare_sbox x
inv_sub_table x h =
    right_at (λ A. inv_sub_program) (λ x. looked (inv_affine (bit_xor x 0x63))) inv_sub_right x h
    ∙ sym (inv_sbox_at (bit_xor x 0x63) (xor_lt 8 x 0x63 h (lit< tt)))

pub sub_law : (w : Width) (ws : List ℕ) → Does w (all bare_sub_bytes) ws (sub_words ws)
unfolding slot sub_words bare_sub_bytes add63 sub_bytes
sub_law w ws = record { each = λ b h. slot_law (λ A. sub_program) bare_sbox (λ k ws. (refl, refl)) sub_table w ws b }

pub inv_sub_law : (w : Width) (ws : List ℕ) → Does w (all inv_bare_sub_bytes) ws (inv_sub_words ws)
unfolding slot inv_sub_words inv_bare_sub_bytes add63 inv_sub_bytes
inv_sub_law w ws = record { each = λ b h. slot_law (λ A. inv_sub_program) inv_bare_sbox (λ k ws. (refl, refl)) inv_sub_table w ws b }
