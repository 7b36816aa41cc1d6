-- Packing and unpacking: what the code's loading, swaps and storing do to the slots; and the layout's own packing, the inverse of
-- unpacking, both ways round. Assumes nothing.
use mathlib.Core.Path.{◌≡◌, refl, sym, ap, ap₂, ◌∙◌}
use mathlib.Core.List.{List, [], ◌∷◌, ◌++◌, map, append_assoc}
use Prim.Native.Nat.{ℕ, zero, suc, ◌+◌, ◌*◌, ◌/◌, ◌%◌, ◌^◌, ◌≤◌, ◌<◌}
use native.Mathlib.Nat.{zero-lt-suc, pow-suc}
use native.Mathlib.Omega.{arith}
use lib.Dec.{lit≤, lit<}
use lib.ListN.{get_or, take, drop, length, length-drop, length-append, drop_of_length-le}
use lib.Seq.{get_or-drop, take_all, take_at, drop_at}
use Rattle.fips197.specs.Bytes.{Fit, Block}
use Rattle.fips197.specs.Aes.{bit, from_bits, range, sixteen}
use Rattle.fips197.proofs.Bits.{bit_lt}
use Rattle.fips197.proofs.Linear.{Related, value_of, input, inputs, agree, agree_lists}
use Rattle.fips197.proofs.Blocks.{reads, reads_part, reads_all, block_is, fit_append, fit_reads, fit_map}
use Rattle.lanes.specs.Layout.{Width, w32, w64, bits, slots, row_width, quarter_row, place, lane, slot, lane_byte, pack, each_slot, join}
use Rattle.lanes.specs.Schedule.{words_at, stored}
use Rattle.lanes.specs.Leaves.{Packs, unpacked}
use Rattle.lanes.specs.Programs.{words, at, upper, lower, swaps_program, load_program, broadcast_program, store_program}
use Rattle.lanes.proofs.Check.{narrow, related_words, gather_r, slot_r, law_of}

-- ---- bitslice
unfoldable pub pack_words : Width → List ℕ → List ℕ
pack_words w l = swaps_program (words w) w (λ p. get_or (load_program (words w) w (λ i. get_or l i 0)) p 0)

-- sixteen numbers from place i on
abbrev sixteen_from : {A : Type 0} → (ℕ → A) → ℕ → List A
sixteen_from a i = map (λ n. a (i + n)) (range 0 16)

pack_slots : (w : Width) (l : List ℕ) → Fit 8 l → (b : ℕ) → b < slots w → slot w (pack_words w l) b ≡ sixteen_from (λ i. get_or l i 0) (16 * b)
unfolding slot pack_words
pack_slots w32 l fit = law_of 8 (lit≤ tt) w32 (λ A o a. swaps_program o w32 (at o w32 (load_program o w32 a))) (λ A o a s b. sixteen_from a (16 * b)) l fit tt
pack_slots w64 l fit = law_of 8 (lit≤ tt) w64 (λ A o a. swaps_program o w64 (at o w64 (load_program o w64 a))) (λ A o a s b. sixteen_from a (16 * b)) l fit tt

sixteen_from_take : (l : List ℕ) (i : ℕ) → i + 16 ≤ length l → sixteen_from (λ i. get_or l i 0) i ≡ take 16 (drop i l)
sixteen_from_take l i h = go 16 0 ∙ reads_part (drop i l) 16 0 (omega (arith, length-drop i l))
  where
    go : (n k : ℕ) → map (λ n. get_or l (i + n) 0) (range k n) ≡ reads k n (drop i l)
    go zero k = refl
    go (suc n) k = ap₂ ◌∷◌ (sym (get_or-drop i l k 0)) (go n (suc k))

-- block b of the bytes goes to slot b
pub pack_law : (w : Width) (l : List ℕ) → Fit 8 l → length l ≡ 16 * slots w → (b : ℕ) → b < slots w → slot w (pack_words w l) b ≡ sixteen l b
pack_law w l fit e b h = pack_slots w l fit b h ∙ sixteen_from_take l (16 * b) (long w e b h)
  where
    long : (w : Width) {n : ℕ} → n ≡ 16 * slots w → (b : ℕ) → b < slots w → 16 * b + 16 ≤ n
    long w32 e b h = omega arith
    long w64 e b h = omega arith

-- delta_swap_2, where the words that it takes are known by equations
pub swap_after : (w : Width) (n m : ℕ) {a b x y a' b' : ℕ} → (a ≡ a') × (b ≡ b')
    → (x ≡ upper (words w) w n m a b) × (y ≡ lower (words w) w n m a b) → (x ≡ upper (words w) w n m a' b') × (y ≡ lower (words w) w n m a' b')
swap_after w n m (p, q) (e, f) = (e ∙ ap₂ (upper (words w) w n m) p q, f ∙ ap₂ (lower (words w) w n m) p q)

-- bitslice, where the words before the swaps are known by an equation
pub packs : (w : Width) {l t r : List ℕ} → Fit 8 l → length l ≡ 16 * slots w → t ≡ load_program (words w) w (λ i. get_or l i 0)
    → r ≡ swaps_program (words w) w (λ p. get_or t p 0) → Packs w l r
unfolding pack_words
packs w {l} {t} {r} fit e p q =
    let z : r ≡ pack_words w l = q ∙ ap (λ (t : List ℕ). swaps_program (words w) w (λ p. get_or t p 0)) p in
    record { each = λ b h. ap (λ (x : List ℕ). slot w x b) z ∙ pack_law w l fit e b h }

-- one block in every slot
broadcast_slots : (w : Width) (l : List ℕ) → Fit 8 l → (b : ℕ) → b < slots w
    → slot w (swaps_program (words w) w (λ p. get_or (broadcast_program (words w) w (λ i. get_or l i 0)) p 0)) b ≡ sixteen_from (λ i. get_or l i 0) 0
unfolding slot
broadcast_slots w32 l fit =
    law_of 8 (lit≤ tt) w32 (λ A o a. swaps_program o w32 (at o w32 (broadcast_program o w32 a))) (λ A o a s b. sixteen_from a 0) l fit tt
broadcast_slots w64 l fit =
    law_of 8 (lit≤ tt) w64 (λ A o a. swaps_program o w64 (at o w64 (broadcast_program o w64 a))) (λ A o a s b. sixteen_from a 0) l fit tt

pub broadcasts : (w : Width) {l t r : List ℕ} → Fit 8 l → length l ≡ 16 → t ≡ broadcast_program (words w) w (λ i. get_or l i 0)
    → r ≡ swaps_program (words w) w (λ p. get_or t p 0) → (b : ℕ) → b < slots w → slot w r b ≡ l
broadcasts w {l} {t} {r} fit e p q b h =
    ap (λ (x : List ℕ). slot w x b) (q ∙ ap (λ (t : List ℕ). swaps_program (words w) w (λ p. get_or t p 0)) p)
    ∙ broadcast_slots w l fit b h ∙ sixteen_from_take l 0 (omega arith) ∙ take_all 16 l (omega arith)

-- ---- inv_bitslice
unfoldable pub swap_words : Width → List ℕ → List ℕ
swap_words w ws = swaps_program (words w) w (λ p. get_or ws p 0)

abbrev join_of : {A : Type 0} → List (List A) → List A
join_of [] = []
join_of (l ∷ ls) = l ++ join_of ls

module _ (w : Width) (ws : List ℕ) (fit : Fit (bits w) ws) where
  abbrev swapped_r : ℕ → Related (value_of ws)
  swapped_r p = at (related_words ws w) w (swaps_program (related_words ws w) w (input (bits w) (narrow w) ws fit)) p

  abbrev states_r : List (Related (value_of ws))
  states_r = inputs (bits w) (narrow w) ws fit 0 8

  -- the bytes from the swapped words
  abbrev stored_r : List (Related (value_of ws))
  stored_r = join_of (each_slot w (store_program (related_words ws w) w swapped_r))

-- the bytes from the swapped words are the slots one after the other
pub unpack_law : (w : Width) {ws : List ℕ} → Fit (bits w) ws
    → join (each_slot w (store_program (words w) w (λ p. get_or (swap_words w ws) p 0))) ≡ join (each_slot w (slot w ws))
unfolding slot swap_words
unpack_law w32 {ws} fit = agree (value_of ws) (stored_r w32 ws fit) (join_of (each_slot w32 (slot_r ws w32 (states_r w32 ws fit)))) tt
unpack_law w64 {ws} fit = agree (value_of ws) (stored_r w64 ws fit) (join_of (each_slot w64 (slot_r ws w64 (states_r w64 ws fit)))) tt

-- inv_bitslice, where the swapped words are known by an equation
pub unpacks : (w : Width) {s t : List ℕ} → Fit (bits w) s → t ≡ swaps_program (words w) w (λ p. get_or s p 0)
    → join (each_slot w (store_program (words w) w (λ p. get_or t p 0))) ≡ unpacked w s
unfolding swap_words unpacked
unpacks w fit e = ap (λ (t : List ℕ). join (each_slot w (store_program (words w) w (λ p. get_or t p 0)))) e ∙ unpack_law w fit

-- sixteen bytes written into a buffer after those that are there
pub next_part : (p q x : List ℕ) (n : ℕ) → length p ≡ n → take n (p ++ q) ++ (x ++ drop 16 (drop n (p ++ q))) ≡ p ++ x ++ drop 16 q
next_part p q x n e = rw (take_at p q n e, drop_at p q n e) (sym (append_assoc p x (drop 16 q)))

pub store_length : (w : Width) (t : ℕ → ℕ) (b : ℕ) → length (store_program (words w) w t b) ≡ 16
store_length w32 t b = refl
store_length w64 t b = refl

-- the parts of a buffer, one slot after the other; x b are the bytes of slot b
module _ (x : ℕ → List ℕ) (e : (b : ℕ) → length (x b) ≡ 16) (o : List ℕ) where
  pub four_parts : length o ≡ 64 → {a b c d : List ℕ} → a ≡ x 0 → b ≡ x 1 → c ≡ x 2 → d ≡ x 3 → (o₁ o₂ o₃ : List ℕ)
      → o₁ ≡ a ++ drop 16 o → o₂ ≡ take 16 o₁ ++ (b ++ drop 16 (drop 16 o₁)) → o₃ ≡ take 32 o₂ ++ (c ++ drop 16 (drop 32 o₂))
      → take 48 o₃ ++ (d ++ drop 16 (drop 48 o₃)) ≡ join (each_slot w64 x)
  four_parts n ea eb ec ed o₁ o₂ o₃ e₁ e₂ e₃ =
      let q : List ℕ = drop 16 o in
      let f₁ : o₁ ≡ x 0 ++ q = e₁ ∙ rw ea in
      let f₂ : o₂ ≡ x 0 ++ x 1 ++ drop 16 q = e₂ ∙ rw (f₁, eb) (next_part (x 0) q (x 1) 16 (e 0)) in
      let f₃ : o₃ ≡ x 0 ++ x 1 ++ x 2 ++ drop 16 (drop 16 q) =
      e₃ ∙ rw (f₂, ec) (next_part (x 0 ++ x 1) (drop 16 q) (x 2) 32 (rw (length-append, e 0, e 1))) in
      let z : drop 16 (drop 16 (drop 16 q)) ≡ [] = drop_of_length-le (drop 16 (drop 16 q)) {i = 16} (simp length-drop (omega arith)) in
      let l : length (x 0 ++ x 1 ++ x 2) ≡ 48 = rw (length-append, length-append, e 0, e 1, e 2) in
      rw (f₃, ed) (next_part (x 0 ++ x 1 ++ x 2) (drop 16 (drop 16 q)) (x 3) 48 l ∙ rw z (simp append_assoc))

-- ---- the layout's own packing
-- the words of some bytes in the order of their lanes
abbrev packed_r : (w : Width) (l : List ℕ) → (ℕ → ℕ → Related (value_of l)) → List (Related (value_of l))
packed_r w l a = map (λ p. gather_r l p (map in_lane (range 0 (bits w)))) (range 0 8)
  where
    in_lane : ℕ → Related (value_of l)
    in_lane k = a (k % quarter_row w) (k / row_width w % 4 + 4 * (k % row_width w / quarter_row w % 4))

-- unpacking undoes packing
module _ (w : Width) (f : ℕ → List ℕ) (fits : (b : ℕ) → Fit 8 (f b)) where
  -- the bytes of four blocks, one after the other
  abbrev bytes : List ℕ
  bytes = reads 0 16 (f 0) ++ reads 0 16 (f 1) ++ reads 0 16 (f 2) ++ reads 0 16 (f 3)

  bytes_fit : Fit 8 bytes
  bytes_fit = fit_append (fit_append (fit_append (fit_reads 0 16 (fits 0)) (fit_reads 0 16 (fits 1))) (fit_reads 0 16 (fits 2))) (fit_reads 0 16 (fits 3))

  abbrev byte_r : ℕ → ℕ → Related (value_of bytes)
  byte_r b n = input 8 (lit≤ tt) bytes bytes_fit (16 * b + n)

  -- all slots of the packed bytes, and the bytes
  abbrev repacked : List (List (Related (value_of bytes)))
  repacked = each_slot w (slot_r bytes w (packed_r w bytes byte_r))

  abbrev plain : List (List (Related (value_of bytes)))
  plain = each_slot w (λ b. map (byte_r b) (range 0 16))

slots_pack : (w : Width) (f : ℕ → List ℕ) → ((b : ℕ) → Fit 8 (f b)) → each_slot w (slot w (pack w (each_slot w f))) ≡ each_slot w (λ b. reads 0 16 (f b))
unfolding slot pack
slots_pack w32 f fits = agree_lists (value_of (bytes w32 f fits)) (repacked w32 f fits) (plain w32 f fits) tt
slots_pack w64 f fits = agree_lists (value_of (bytes w64 f fits)) (repacked w64 f fits) (plain w64 f fits) tt

pub each_at : {A : Type 0} (w : Width) (f : ℕ → A) (d : A) (b : ℕ) → b < slots w → get_or (each_slot w f) b d ≡ f b
each_at w32 f d zero h = refl
each_at w32 f d (suc zero) h = refl
each_at w32 f d (suc (suc b)) h = absurd (omega arith)
each_at w64 f d zero h = refl
each_at w64 f d (suc zero) h = refl
each_at w64 f d (suc (suc zero)) h = refl
each_at w64 f d (suc (suc (suc zero))) h = refl
each_at w64 f d (suc (suc (suc (suc b)))) h = absurd (omega arith)

pub each_same : {A : Type 0} (w : Width) (f g : ℕ → A) → ((b : ℕ) → b < slots w → f b ≡ g b) → each_slot w f ≡ each_slot w g
each_same w32 f g e = rw (e 0 (lit< tt), e 1 (lit< tt))
each_same w64 f g e = rw (e 0 (lit< tt), e 1 (lit< tt), e 2 (lit< tt), e 3 (lit< tt))

-- unpacking undoes packing: block b comes back from slot b
pub slot_pack : (w : Width) (f : ℕ → List ℕ) → ((b : ℕ) → Block (f b)) → (b : ℕ) → b < slots w → slot w (pack w (each_slot w f)) b ≡ f b
slot_pack w f bs b h =
    sym (each_at w (slot w (pack w (each_slot w f))) [] b h)
    ∙ ap (λ (l : List (List ℕ)). get_or l b []) (slots_pack w f (λ b. (bs b).bytes))
    ∙ each_at w (λ b. reads 0 16 (f b)) [] b h
    ∙ block_is (bs b)

-- packing undoes unpacking
module _ (w : Width) (ws : List ℕ) (fit : Fit (bits w) ws) where
  abbrev repacked_words : List (Related (value_of ws))
  repacked_words = packed_r w ws (λ b n. get_or (slot_r ws w (states_r w ws fit) b) n (input (bits w) (narrow w) ws fit 0))

pack_words_reads : (w : Width) (ws : List ℕ) → Fit (bits w) ws → pack w (each_slot w (slot w ws)) ≡ reads 0 8 ws
unfolding slot pack
pack_words_reads w32 ws fit = agree (value_of ws) (repacked_words w32 ws fit) (states_r w32 ws fit) tt
pack_words_reads w64 ws fit = agree (value_of ws) (repacked_words w64 ws fit) (states_r w64 ws fit) tt

pub pack_slot : (w : Width) {ws : List ℕ} → length ws ≡ 8 → Fit (bits w) ws → pack w (each_slot w (slot w ws)) ≡ ws
pack_slot w {ws} e fit = pack_words_reads w ws fit ∙ reads_all ws 8 e

-- so unpacking loses nothing: two states with the same slots are the same
pub slots_one : (w : Width) {ws vs : List ℕ} → length ws ≡ 8 → Fit (bits w) ws → length vs ≡ 8 → Fit (bits w) vs
    → ((b : ℕ) → b < slots w → slot w ws b ≡ slot w vs b) → ws ≡ vs
slots_one w {ws} {vs} e f e' f' h = sym (pack_slot w e f) ∙ ap (pack w) (each_same w (slot w ws) (slot w vs) h) ∙ pack_slot w e' f'

-- ---- packed words are eight, and fit
from_lt : (l : List ℕ) → ((p : ℕ) → get_or l p 0 < 2) → from_bits l < 2 ^ length l
from_lt [] h = zero-lt-suc 0
from_lt (b ∷ bs) h = omega (arith, from_lt bs (λ p. h (suc p)), h 0, pow-suc 2 (length bs))

pub pack_length : (w : Width) (bs : List (List ℕ)) → length (pack w bs) ≡ 8
unfolding pack
pack_length w bs = refl

pub pack_fits : (w : Width) (bs : List (List ℕ)) → Fit (bits w) (pack w bs)
unfolding pack
pack_fits w bs = fit_map (bits w) _ word_fits (range 0 8)
  where
    long : (w : Width) (f : ℕ → ℕ) → length (map f (range 0 (bits w))) ≡ bits w
    long w32 f = refl
    long w64 f = refl

    word_fits : (p : ℕ) → from_bits (map (λ k. bit p (lane_byte w bs k)) (range 0 (bits w))) < 2 ^ bits w
    word_fits p =
        let small : (q : ℕ) → get_or (map (λ k. bit p (lane_byte w bs k)) (range 0 (bits w))) q 0 < 2 =
        λ q. (fit_map 1 _ (λ k. bit_lt p (lane_byte w bs k)) (range 0 (bits w))).at q in
        rw (long w (λ k. bit p (lane_byte w bs k))) at (from_lt (map (λ k. bit p (lane_byte w bs k)) (range 0 (bits w))) small)

-- every lane is a byte
pub lane_lt : (k : ℕ) (ws : List ℕ) → lane k ws < 2 ^ 8
lane_lt k ws = from_lt (map (λ p. bit k (get_or ws p 0)) (range 0 8)) (λ q. (fit_map 1 _ (λ p. bit_lt k (get_or ws p 0)) (range 0 8)).at q)

-- every slot holds a block
pub slot_block : (w : Width) (ws : List ℕ) (b : ℕ) → Block (slot w ws b)
unfolding slot
slot_block w ws b = record {
  long = refl;
  bytes = fit_map 8 (λ n. lane (place w (n % 4) (n / 4) b) ws) (λ n. lane_lt (place w (n % 4) (n / 4) b) ws) (range 0 16);
}

-- so does every round key of a schedule, whatever its words are
pub stored_block : (w : Width) (l : List ℕ) (b r : ℕ) → Block (stored w l b r)
unfolding stored
stored_block w l b r = slot_block w (words_at l (8 * r)) b
