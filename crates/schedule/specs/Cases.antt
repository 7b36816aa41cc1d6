-- Cases P1 to P11 of docs/SCOPE.md, in one table. P5 to P8 speak of FIPS-197 alone and are stated beside it; to P5 belongs what the circuit
-- gives.
use Rattle.std.specs.Prelude.{◌≡◌, List, [], ◌∷◌, ℕ, get_or, set, replicate}
use Rattle.fips197.specs.Cases.{P5, P6, P7, P8}
use Rattle.lanes.specs.Layout.{w32, w64, pack}
use Rattle.lanes.specs.Masks.{double_bits}
use Rattle.lanes.specs.Schedule.{words_at, schedule_of}
use Rattle.lanes.specs.Leaves.{bare_sub_bytes}

-- n blocks of zeros, but for one byte of one block
abbrev one_byte : ℕ → ℕ → ℕ → ℕ → List (List ℕ)
one_byte n b i x = set (replicate n (replicate 16 0)) b (set (replicate 16 0) i x)

-- eight words of zeros, but for one
abbrev one_word : ℕ → ℕ → List ℕ
one_word p x = set (replicate 8 0) p x

-- a key of n zero bytes
abbrev zero_key : ℕ → List ℕ
zero_key n = replicate n 0

-- the table
pub record Cases : Type 0 where
  pub p1 : pack w32 (one_byte 2 0 0 0x01) ≡ one_word 0 0x00000001
  pub p2 : pack w32 (one_byte 2 1 15 0x80) ≡ one_word 7 0x80000000
  pub p3 : pack w64 (one_byte 4 2 6 0x04) ≡ one_word 2 0x0000004000000000
  pub p4 : pack w64 (one_byte 4 3 15 0x80) ≡ one_word 7 0x8000000000000000
  pub p5 : P5 × (bare_sub_bytes (0x00 ∷ 0x53 ∷ []) ≡ 0x00 ∷ 0x8e ∷ [])
  pub p6 : P6
  pub p7 : P7
  pub p8 : P8
  pub p9 : words_at (schedule_of w32 4 (zero_key 16)) 8 ≡ one_word 0 0x000000ff
  pub p10 :
      (words_at (schedule_of w32 8 (zero_key 32)) 8 ≡ 0xffffffff ∷ 0xffffffff ∷ 0 ∷ 0 ∷ 0 ∷ 0xffffffff ∷ 0xffffffff ∷ 0 ∷ [])
      × (get_or (schedule_of w32 8 (zero_key 32)) 16 0 ≡ 0x000000ff)
  pub p11 : double_bits 0xa5 ≡ 0xcc33
