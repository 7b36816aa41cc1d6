-- FIPS-197, sections 3 to 5, byte by byte, in the standard's order and names; section numbers are those of the edition of November 26, 2001.
-- A byte is a number below 256 and its bit i has the weight 2 ^ i; a block is a list of sixteen bytes.
use Rattle.std.specs.Prelude.{◌&&◌, cond, List, [], ◌∷◌, ◌++◌, map, ℕ, zero, suc, ◌+◌, ◌-◌, ◌*◌, ◌/◌, ◌%◌, ◌^◌, eqb, ltb, get_or, take, drop}
use Rattle.std.specs.Int.Bits.{bit_xor}

-- ---- 3: bytes, and the state

-- bit i of a number
abbrev pub bit : ℕ → ℕ → ℕ
bit i x = x / 2 ^ i % 2

-- the number with the given bits, lowest first
abbrev pub from_bits : List ℕ → ℕ
from_bits [] = 0
from_bits (b ∷ bs) = from_bits bs * 2 + b

-- the numbers i, i + 1, .., n of them
abbrev pub range : ℕ → ℕ → List ℕ
range i zero = []
range i (suc n) = i ∷ range (suc i) n

-- 3.4: byte n of a block stands in row n mod 4 and column n div 4; here rows and columns are counted modulo 4
abbrev pub cell : List ℕ → ℕ → ℕ → ℕ
cell s r c = get_or s (r % 4 + 4 * (c % 4)) 0

-- the block with f r c in row r, column c
abbrev pub block : (ℕ → ℕ → ℕ) → List ℕ
block f = map (λ n. f (n % 4) (n / 4)) (range 0 16)

-- ---- 4: the field of polynomials over GF(2) modulo x^8 + x^4 + x^3 + x + 1, as bytes

-- 4.1: the sum is bit_xor. 4.2.1: the product with {02}
unfoldable pub xtime : ℕ → ℕ
xtime x = bit_xor (x * 2 % 256) (bit 7 x * 0x1b)

-- the bits of a number below 2 ^ n, lowest first, up to the highest that is set
abbrev pub bits_of : ℕ → ℕ → List ℕ
bits_of zero c = []
bits_of (suc n) zero = []
bits_of (suc n) (suc c) = suc c % 2 ∷ bits_of n (suc c / 2)

-- the sum of x, x times {02}, x times {02} ^ 2, .., each where its bit is set
abbrev pub sum_where : List ℕ → ℕ → ℕ
sum_where [] x = 0
sum_where (b ∷ bs) x = bit_xor (cond (eqb b 1) x 0) (sum_where bs (xtime x))

-- 4.2: the product: the sum of x times {02} ^ i over the bits i that are set in c
unfoldable pub product : ℕ → ℕ → ℕ
product c x = sum_where (bits_of 8 c) x

-- 4.2: the inverse, as the 254th power: the product with it is {01} (`product_inverse`), and {00} goes to {00} (`inverse_zero`; proofs/Tables)
unfoldable pub inverse : ℕ → ℕ
inverse x =
    let x2 = product x x in
    let x3 = product x2 x in
    let x6 = product x3 x3 in
    let x12 = product x6 x6 in
    let x15 = product x12 x3 in
    let x30 = product x15 x15 in
    let x60 = product x30 x30 in
    let x63 = product x60 x3 in
    let x126 = product x63 x63 in
    let x127 = product x126 x in
    product x127 x127

-- ---- 5.1 and 5.3: the four transformations of the state, and their inverses

-- 5.1.1: bit i is the sum of bits i, i + 4, i + 5, i + 6, i + 7 (modulo 8) and of bit i of {63}
unfoldable pub affine : ℕ → ℕ
affine b = from_bits (map (λ i. (bit i b + bit ((i + 4) % 8) b + bit ((i + 5) % 8) b + bit ((i + 6) % 8) b + bit ((i + 7) % 8) b + bit i 0x63) % 2) (range 0 8))

-- 5.3.2: bit i is the sum of bits i + 2, i + 5, i + 7 (modulo 8) and of bit i of {05}; it undoes `affine` (`inv_affine_affine`; proofs/Tables)
unfoldable pub inv_affine : ℕ → ℕ
inv_affine b = from_bits (map (λ i. (bit ((i + 2) % 8) b + bit ((i + 5) % 8) b + bit ((i + 7) % 8) b + bit i 0x05) % 2) (range 0 8))

-- 5.1.1: the inverse, then the affine map
unfoldable pub sbox : ℕ → ℕ
sbox b = affine (inverse b)

-- 5.3.2
unfoldable pub inv_sbox : ℕ → ℕ
inv_sbox b = inverse (inv_affine b)

-- 5.1.1: each byte by the S-box
unfoldable pub sub_bytes : List ℕ → List ℕ
sub_bytes s = map sbox s

-- 5.3.2
unfoldable pub inv_sub_bytes : List ℕ → List ℕ
inv_sub_bytes s = map inv_sbox s

-- 5.1.2: row r goes r columns to the left
unfoldable pub shift_rows : List ℕ → List ℕ
shift_rows s = block (λ r c. cell s r (c + r))

-- 5.3.1: row r goes r columns to the right
unfoldable pub inv_shift_rows : List ℕ → List ℕ
inv_shift_rows s = block (λ r c. cell s r (c + (4 - r)))

-- 5.1.3, 5.3.3: each column times the polynomial that has the coefficient k in row 0, and l, m, n in the rows after it
abbrev pub columns_times : ℕ → ℕ → ℕ → ℕ → List ℕ → List ℕ
columns_times k l m n s = block (λ r c.
    bit_xor (bit_xor (product k (cell s r c)) (product l (cell s (r + 1) c)))
    (bit_xor (product m (cell s (r + 2) c)) (product n (cell s (r + 3) c))))

-- 5.1.3
unfoldable pub mix_columns : List ℕ → List ℕ
mix_columns = columns_times 0x02 0x03 0x01 0x01

-- 5.3.3
unfoldable pub inv_mix_columns : List ℕ → List ℕ
inv_mix_columns = columns_times 0x0e 0x0b 0x0d 0x09

-- 5.1.4, its own inverse: each byte plus the round key's
unfoldable pub add_round_key : List ℕ → List ℕ → List ℕ
add_round_key s k = block (λ r c. bit_xor (cell s r c) (cell k r c))

-- ---- 5.2: KeyExpansion. A word is a list of four bytes, a key Nk words

-- word i of some bytes
abbrev pub word_of : List ℕ → ℕ → List ℕ
word_of bs i = take 4 (drop (4 * i) bs)

unfoldable pub rot_word : List ℕ → List ℕ
rot_word w = get_or w 1 0 ∷ get_or w 2 0 ∷ get_or w 3 0 ∷ get_or w 0 0 ∷ []

unfoldable pub sub_word : List ℕ → List ℕ
sub_word w = sbox (get_or w 0 0) ∷ sbox (get_or w 1 0) ∷ sbox (get_or w 2 0) ∷ sbox (get_or w 3 0) ∷ []

unfoldable pub add_word : List ℕ → List ℕ → List ℕ
add_word v w =
    bit_xor (get_or v 0 0) (get_or w 0 0) ∷ bit_xor (get_or v 1 0) (get_or w 1 0) ∷
    bit_xor (get_or v 2 0) (get_or w 2 0) ∷ bit_xor (get_or v 3 0) (get_or w 3 0) ∷ []

-- the ten round constants, {02} ^ 0 to {02} ^ 9
unfoldable pub round_constants : List ℕ
round_constants = 0x01 ∷ 0x02 ∷ 0x04 ∷ 0x08 ∷ 0x10 ∷ 0x20 ∷ 0x40 ∷ 0x80 ∷ 0x1b ∷ 0x36 ∷ []

-- Rcon[j], for j from 1
unfoldable pub rcon : ℕ → List ℕ
rcon j = get_or round_constants (j - 1) 0 ∷ 0 ∷ 0 ∷ 0 ∷ []

-- what is added to the word Nk before, to give word i: temp is word i - 1
unfoldable pub key_temp : ℕ → ℕ → List ℕ → List ℕ
key_temp nk i temp =
    cond (eqb (i % nk) 0) (add_word (sub_word (rot_word temp)) (rcon (i / nk)))
    (cond (ltb 6 nk && eqb (i % nk) 4) (sub_word temp) temp)

-- n more words after the bytes ws, which hold words 0 to i - 1
unfoldable pub more_words : ℕ → ℕ → ℕ → List ℕ → List ℕ
more_words nk zero i ws = ws
more_words nk (suc n) i ws = more_words nk n (suc i) (ws ++ add_word (word_of ws (i - nk)) (key_temp nk i (word_of ws (i - 1))))

-- the number of rounds: 10 for Nk = 4, 14 for Nk = 8
abbrev pub rounds_for : ℕ → ℕ
rounds_for nk = nk + 6

-- the bytes of all 4 * (Nr + 1) words
unfoldable pub key_words : ℕ → List ℕ → List ℕ
key_words nk key = more_words nk (4 * (rounds_for nk + 1) - nk) nk key

-- round key r: words 4r to 4r + 3
abbrev pub sixteen : List ℕ → ℕ → List ℕ
sixteen bs r = take 16 (drop (16 * r) bs)

-- the Nr + 1 round keys of a key of Nk words
unfoldable pub key_expansion : ℕ → List ℕ → List (List ℕ)
key_expansion nk key = map (sixteen (key_words nk key)) (range 0 (rounds_for nk + 1))

-- ---- 5.1: Cipher, and 5.3: InvCipher, over any list of N + 1 round keys

-- rounds 1 to N: the last has no MixColumns
unfoldable pub rounds : List (List ℕ) → List ℕ → List ℕ
rounds [] s = s
rounds (k ∷ []) s = add_round_key (shift_rows (sub_bytes s)) k
rounds (k ∷ l ∷ ks) s = rounds (l ∷ ks) (add_round_key (mix_columns (shift_rows (sub_bytes s))) k)

unfoldable pub cipher : List (List ℕ) → List ℕ → List ℕ
cipher [] s = s
cipher (k ∷ ks) s = rounds ks (add_round_key s k)

-- the same rounds undone, N first
unfoldable pub inv_rounds : List (List ℕ) → List ℕ → List ℕ
inv_rounds [] s = s
inv_rounds (k ∷ []) s = inv_sub_bytes (inv_shift_rows (add_round_key s k))
inv_rounds (k ∷ l ∷ ks) s = inv_sub_bytes (inv_shift_rows (inv_mix_columns (add_round_key (inv_rounds (l ∷ ks) s) k)))

unfoldable pub inv_cipher : List (List ℕ) → List ℕ → List ℕ
inv_cipher [] s = s
inv_cipher (k ∷ ks) s = add_round_key (inv_rounds ks s) k
