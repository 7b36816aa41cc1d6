-- The word programs of the fixsliced leaves, each written once over any words and both widths. Contracts of helper functions cite them at
-- numbers, where they are the code's own result by computation; proofs/ runs them on sums of named bits.
use Rattle.std.specs.Prelude.{List, [], ◌∷◌, map, ℕ, zero, suc, ◌+◌, ◌-◌, ◌*◌, ◌/◌, ◌%◌, ◌^◌, get_or}
use Rattle.std.specs.Int.Bits.{bit_xor, bit_and, bit_or}
use Rattle.fips197.specs.Aes.{range}
use Rattle.lanes.specs.Layout.{Width, w32, w64, bits, slots, row_width, quarter_row}
use Rattle.lanes.specs.Masks.{pack_rows, uniform_row, byte_repeat, low_halves}

-- what a linear program does with words: masks, shifts, remainders and the factor of a bit are constants
pub record Ops (A : Type 0) : Type 0 where
  pub const : ℕ → A
  pub xor : A → A → A
  pub or : A → A → A
  pub mask : A → ℕ → A
  pub shr : A → ℕ → A
  pub shl : A → ℕ → A
  pub low : A → ℕ → A
  pub bit_times : ℕ → ℕ → A → A

-- words of a width, as Rattle has them
abbrev pub words : Width → Ops ℕ
words w = record {
  const = λ m. m;
  xor = λ x y. bit_xor x y;
  or = λ x y. bit_or x y;
  mask = λ x m. bit_and x m;
  shr = λ x n. x / 2 ^ n;
  shl = λ x n. (x * 2 ^ n) % 2 ^ bits w;
  low = λ x n. x % 2 ^ n;
  bit_times = λ q m x. x / 2 ^ q % 2 * m;
}

-- a function of eight, at the places 0 to 7
abbrev pub Eight : Type 0 → Type 0 → Type 0
Eight A B = A → A → A → A → A → A → A → A → B

abbrev pub on8 : {A B : Type 0} → Eight A B → (ℕ → A) → B
on8 f a = f (a 0) (a 1) (a 2) (a 3) (a 4) (a 5) (a 6) (a 7)

-- each of eight
abbrev pub each8 : {A B : Type 0} → (A → B) → (ℕ → A) → List B
each8 f a = f (a 0) ∷ f (a 1) ∷ f (a 2) ∷ f (a 3) ∷ f (a 4) ∷ f (a 5) ∷ f (a 6) ∷ f (a 7) ∷ []

module _ {A : Type 0} (o : Ops A) (w : Width) where
  -- ---- word.rs and utils.rs: rotations and swaps
  -- ror
  abbrev pub ror : A → ℕ → A
  ror x n = o.or (o.shr x n) (o.shl x (bits w - n))

  -- ror_distance
  abbrev pub distance : ℕ → ℕ → ℕ
  distance rows cols = row_width w * rows + quarter_row w * cols

  -- delta_swap_1
  abbrev pub delta_swap1 : ℕ → ℕ → A → A
  delta_swap1 n m a = let t = o.mask (o.xor a (o.shr a n)) m in o.xor a (o.xor t (o.shl t n))

  -- delta_swap_2: the two new words
  abbrev pub upper : ℕ → ℕ → A → A → A
  upper n m a b = o.xor a (o.mask (o.xor a (o.shr b n)) m)

  abbrev pub lower : ℕ → ℕ → A → A → A
  lower n m a b = o.xor b (o.shl (o.mask (o.xor a (o.shr b n)) m) n)

  -- shift_rows_n on one word: n is 1, 2 or 3
  abbrev pub shift_word : ℕ → A → A
  shift_word zero x = x
  shift_word (suc zero) x = delta_swap1 (quarter_row w) (pack_rows w 0 0x33 0 0x33) (delta_swap1 (quarter_row w * 2) (pack_rows w 0 0x03 0x0f 0x0c) x)
  shift_word (suc (suc zero)) x = delta_swap1 (quarter_row w * 2) (pack_rows w 0 0x0f 0 0x0f) x
  shift_word (suc (suc (suc n))) x = delta_swap1 (quarter_row w) (pack_rows w 0 0x33 0 0x33) (delta_swap1 (quarter_row w * 2) (pack_rows w 0 0x0c 0x0f 0x03) x)

  -- xor_columns on one word: prev's word, and the word after SubBytes, rotated by three columns; n rows are turned
  abbrev pub column_of : A → A → A
  column_of prev turned =
      let rk = o.xor prev (o.mask turned (uniform_row w 0x03)) in
      o.xor (o.xor (o.xor rk (o.mask (o.shl rk (quarter_row w)) (uniform_row w 0xfc)))
      (o.mask (o.shl rk (quarter_row w * 2)) (uniform_row w 0xf0)))
      (o.mask (o.shl rk (quarter_row w * 3)) (uniform_row w 0xc0))

  abbrev pub column_word : ℕ → A → A → A
  column_word n prev cur = column_of prev (ror cur (distance n 3))

  -- sub_bytes_nots
  abbrev pub nots_program : (ℕ → A) → List A
  nots_program a =
      let n = o.const (2 ^ bits w - 1) in
      o.xor (a 0) n ∷ o.xor (a 1) n ∷ a 2 ∷ a 3 ∷ a 4 ∷ o.xor (a 5) n ∷ o.xor (a 6) n ∷ a 7 ∷ []

  -- add_round_constant_bit for the bits of a byte: bit p of it, in row 1 and column 3 of every slot of word p
  abbrev pub constant_program : A → List A
  constant_program x = each8 (λ p. o.bit_times p (pack_rows w 0 0xc0 0 0) x) (λ p. p)

  -- ---- mix_columns.rs
  -- rotate_rows_and_columns_r_c, and rotate_rows_r for c = 0; the columns that come from the next row are masked apart
  abbrev pub rotate : ℕ → ℕ → A → A
  rotate r zero x = ror x (distance r 0)
  rotate r (suc c) x =
      o.or (o.mask (ror x (distance r (suc c))) (uniform_row w (2 ^ (8 - 2 * suc c) - 1)))
      (o.mask (ror x (distance (r - 1) (suc c))) (uniform_row w (256 - 2 ^ (8 - 2 * suc c))))

  -- the words of two states added
  abbrev pub sums8 : (ℕ → A) → (ℕ → A) → List A
  sums8 a b =
      o.xor (a 0) (b 0) ∷
      o.xor (a 1) (b 1) ∷
      o.xor (a 2) (b 2) ∷
      o.xor (a 3) (b 3) ∷
      o.xor (a 4) (b 4) ∷
      o.xor (a 5) (b 5) ∷
      o.xor (a 6) (b 6) ∷
      o.xor (a 7) (b 7) ∷
      []

  -- a word of a list
  abbrev pub at : List A → ℕ → A
  at l p = get_or l p (o.const 0)

  -- mix_columns, form i. b: the state turned; c: both added; s: those turned once more
  abbrev pub mix_outer : (ℕ → A) → (ℕ → A) → (ℕ → A) → List A
  mix_outer b c s =
      o.xor (o.xor (b 0) (c 7)) (s 0) ∷
      o.xor (o.xor (o.xor (b 1) (c 0)) (c 7)) (s 1) ∷
      o.xor (o.xor (b 2) (c 1)) (s 2) ∷
      o.xor (o.xor (o.xor (b 3) (c 2)) (c 7)) (s 3) ∷
      o.xor (o.xor (o.xor (b 4) (c 3)) (c 7)) (s 4) ∷
      o.xor (o.xor (b 5) (c 4)) (s 5) ∷
      o.xor (o.xor (b 6) (c 5)) (s 6) ∷
      o.xor (o.xor (b 7) (c 6)) (s 7) ∷
      []

  abbrev pub first_rotates : ℕ → (ℕ → A) → List A
  first_rotates i a = each8 (rotate 1 i) a

  abbrev pub second_rotates : ℕ → (ℕ → A) → List A
  second_rotates i a = each8 (rotate 2 (2 * i % 4)) a

  abbrev pub mix_program : ℕ → (ℕ → A) → List A
  mix_program i a =
      let b = first_rotates i a in
      let c = sums8 a (at b) in
      mix_outer (at b) (at c) (at (second_rotates i (at c)))

  -- inv_mix_columns, form i
  abbrev pub inv_mix_d : (ℕ → A) → (ℕ → A) → List A
  inv_mix_d a c =
      o.xor (a 0) (c 7) ∷
      o.xor (o.xor (a 1) (c 0)) (c 7) ∷
      o.xor (a 2) (c 1) ∷
      o.xor (o.xor (a 3) (c 2)) (c 7) ∷
      o.xor (o.xor (a 4) (c 3)) (c 7) ∷
      o.xor (a 5) (c 4) ∷
      o.xor (a 6) (c 5) ∷
      o.xor (a 7) (c 6) ∷
      []

  abbrev pub inv_mix_e : (ℕ → A) → (ℕ → A) → List A
  inv_mix_e c d =
      o.xor (c 0) (d 6) ∷
      o.xor (o.xor (c 1) (d 6)) (d 7) ∷
      o.xor (o.xor (c 2) (d 0)) (d 7) ∷
      o.xor (o.xor (c 3) (d 1)) (d 6) ∷
      o.xor (o.xor (o.xor (c 4) (d 2)) (d 6)) (d 7) ∷
      o.xor (o.xor (c 5) (d 3)) (d 7) ∷
      o.xor (c 6) (d 4) ∷
      o.xor (c 7) (d 5) ∷
      []

  abbrev pub sums83 : (ℕ → A) → (ℕ → A) → (ℕ → A) → List A
  sums83 d e s =
      o.xor (o.xor (d 0) (e 0)) (s 0) ∷
      o.xor (o.xor (d 1) (e 1)) (s 1) ∷
      o.xor (o.xor (d 2) (e 2)) (s 2) ∷
      o.xor (o.xor (d 3) (e 3)) (s 3) ∷
      o.xor (o.xor (d 4) (e 4)) (s 4) ∷
      o.xor (o.xor (d 5) (e 5)) (s 5) ∷
      o.xor (o.xor (d 6) (e 6)) (s 6) ∷
      o.xor (o.xor (d 7) (e 7)) (s 7) ∷
      []

  abbrev pub inv_mix_program : ℕ → (ℕ → A) → List A
  inv_mix_program i a =
      let c = sums8 a (at (first_rotates i a)) in
      let d = inv_mix_d a (at c) in
      let e = inv_mix_e (at c) (at d) in
      sums83 (at d) (at e) (at (second_rotates i (at e)))

  -- ---- word.rs: packing
  abbrev pub swaps1 : Eight A (List A)
  swaps1 a0 a1 a2 a3 a4 a5 a6 a7 =
      let m = byte_repeat w 0x55 in
      lower 1 m a1 a0 ∷ upper 1 m a1 a0 ∷ lower 1 m a3 a2 ∷ upper 1 m a3 a2 ∷ lower 1 m a5 a4 ∷ upper 1 m a5 a4 ∷ lower 1 m a7 a6 ∷ upper 1 m a7 a6 ∷ []

  abbrev pub swaps2 : Eight A (List A)
  swaps2 a0 a1 a2 a3 a4 a5 a6 a7 =
      let m = byte_repeat w 0x33 in
      lower 2 m a2 a0 ∷ lower 2 m a3 a1 ∷ upper 2 m a2 a0 ∷ upper 2 m a3 a1 ∷ lower 2 m a6 a4 ∷ lower 2 m a7 a5 ∷ upper 2 m a6 a4 ∷ upper 2 m a7 a5 ∷ []

  abbrev pub swaps4 : Eight A (List A)
  swaps4 a0 a1 a2 a3 a4 a5 a6 a7 =
      let m = byte_repeat w 0x0f in
      lower 4 m a4 a0 ∷ lower 4 m a5 a1 ∷ lower 4 m a6 a2 ∷ lower 4 m a7 a3 ∷ upper 4 m a4 a0 ∷ upper 4 m a5 a1 ∷ upper 4 m a6 a2 ∷ upper 4 m a7 a3 ∷ []

  -- at 64 bits, between the two words of a block, the lower first: delta_swap_2 by n bits
  abbrev pub swap_pair : ℕ → List A → List A
  swap_pair n l = lower n (low_halves w n) (at l 1) (at l 0) ∷ upper n (low_halves w n) (at l 1) (at l 0) ∷ []

  -- bitslice_swaps
  abbrev pub swaps_program : (ℕ → A) → List A
  swaps_program a =
      let l = on8 swaps1 a in
      let m = on8 swaps2 (λ p. get_or l p (a 0)) in
      on8 swaps4 (λ p. get_or m p (a 0))

-- bytes to a word, little-endian: the byte at place i and the n after it
abbrev pub le_word : {A : Type 0} → Ops A → (ℕ → A) → ℕ → ℕ → A
le_word o a i zero = a i
le_word o a i (suc n) = o.or (le_word o a i n) (o.shl (a (i + suc n)) (8 * suc n))

-- as many as a word has
abbrev pub load_word : {A : Type 0} → Ops A → Width → (ℕ → A) → ℕ → A
load_word o w a i = le_word o a i (bits w / 8 - 1)

-- word c of the block that begins at place i: a column at 32 bits; at 64 bits the columns c and c + 2, by swaps between the block's halves
abbrev pub block_word : {A : Type 0} → Ops A → Width → (ℕ → A) → ℕ → ℕ → A
block_word o w32 a i c = load_word o w32 a (i + 4 * c)
block_word o w64 a i c =
    let halves = load_word o w64 a i ∷ load_word o w64 a (i + 8) ∷ [] in
    at o w64 (swap_pair o w64 32 (swap_pair o w64 16 (swap_pair o w64 8 halves))) c

-- the eight words before the swaps: word j is word j div slots of block j mod slots
abbrev pub load_program : {A : Type 0} → Ops A → Width → (ℕ → A) → List A
load_program o w a = each8 (λ j. block_word o w a (16 * (j % slots w)) (j / slots w)) (λ p. p)

-- the same where every slot has the same block
abbrev pub broadcast_program : {A : Type 0} → Ops A → Width → (ℕ → A) → List A
broadcast_program o w a = each8 (λ j. block_word o w a 0 (j / slots w)) (λ p. p)

-- the byte of a word at a bit
abbrev pub byte_at : {A : Type 0} → Ops A → A → ℕ → A
byte_at o x zero = o.low x 8
byte_at o x (suc n) = o.low (o.shr x (suc n)) 8

-- sixteen bytes of words, little-endian
abbrev pub le_bytes : {A : Type 0} → Ops A → Width → (ℕ → A) → List A
le_bytes o w a = map (λ n. byte_at o (a (n / (bits w / 8))) (8 * (n % (bits w / 8)))) (range 0 16)

-- the sixteen bytes of a block from its own words after the swaps, four columns or, at 64 bits, two words that are swapped back to halves
abbrev pub block_bytes : {A : Type 0} → Ops A → Width → (ℕ → A) → List A
block_bytes o w32 a = le_bytes o w32 a
block_bytes o w64 a = le_bytes o w64 (at o w64 (swap_pair o w64 8 (swap_pair o w64 16 (swap_pair o w64 32 (a 0 ∷ a 1 ∷ [])))))

-- those of slot b
abbrev pub store_program : {A : Type 0} → Ops A → Width → (ℕ → A) → ℕ → List A
store_program o w t b = block_bytes o w (λ c. t (slots w * c + b))
