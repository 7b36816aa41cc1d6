-- The layout: where the bytes of two or four blocks stand in eight words of 32 or 64 bits (docs/SCOPE.md, "Layout"; word.rs's picture).
use Rattle.std.specs.Prelude.{List, [], ◌∷◌, ◌++◌, map, ℕ, ◌+◌, ◌*◌, ◌/◌, ◌%◌, get_or}
use Rattle.fips197.specs.Aes.{bit, from_bits, range, block, cell}

pub data Width : Type 0 where
  w32 : Width
  w64 : Width

-- bits to a word
abbrev pub bits : Width → ℕ
bits w32 = 32
bits w64 = 64

-- blocks that eight words hold
abbrev pub slots : Width → ℕ
slots w32 = 2
slots w64 = 4

-- each quarter of a word is a row of the state
abbrev pub row_width : Width → ℕ
row_width w = bits w / 4

-- and each quarter of a row a column
abbrev pub quarter_row : Width → ℕ
quarter_row w = bits w / 16

-- THE RULE: bit p of the byte at row r, column c, slot b is bit `place w r c b` of word p
abbrev pub place : Width → ℕ → ℕ → ℕ → ℕ
place w r c b = row_width w * r + quarter_row w * c + b

-- the byte in lane k of eight words: bit p is bit k of word p
abbrev pub lane : ℕ → List ℕ → ℕ
lane k ws = from_bits (map (λ p. bit k (get_or ws p 0)) (range 0 8))

-- unpacking: the block in slot b of eight words
unfoldable pub slot : Width → List ℕ → ℕ → List ℕ
slot w ws b = block (λ r c. lane (place w r c b) ws)

-- the byte of some blocks that stands in lane k
abbrev pub lane_byte : Width → List (List ℕ) → ℕ → ℕ
lane_byte w bs k = cell (get_or bs (k % quarter_row w) []) (k / row_width w) (k % row_width w / quarter_row w)

-- packing: the eight words that hold some blocks, block b in slot b
unfoldable pub pack : Width → List (List ℕ) → List ℕ
pack w bs = map (λ p. from_bits (map (λ k. bit p (lane_byte w bs k)) (range 0 (bits w)))) (range 0 8)

-- f 0, f 1, .., one for each slot
abbrev pub each_slot : {A : Type 0} → Width → (ℕ → A) → List A
each_slot w f = map f (range 0 (slots w))

-- lists one after the other
abbrev pub join : List (List ℕ) → List ℕ
join [] = []
join (l ∷ ls) = l ++ join ls
