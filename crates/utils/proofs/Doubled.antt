-- double_bits: a test over every byte. Assumes nothing.
use mathlib.Core.Path.{◌≡◌}
use Prim.Native.Nat.{ℕ, ◌*◌, ◌%◌, ◌^◌, ◌<◌}
use lib.Dec.{T, eqb, eqb→eq}
use lib.Bits.{bit_and, bit_or}
use Rattle.fips197.proofs.Tables.{below, below_at}
use Rattle.lanes.specs.Masks.{double_bits}

-- the code's three steps and the doubling
abbrev spread : ℕ → ℕ → ℕ → ℕ
spread n m x = bit_and (bit_or x (x * n % 2 ^ 64)) m

abbrev pub doubled : ℕ → ℕ
doubled x =
    let d = spread 2 0x5555 (spread 4 0x3333 (spread 16 0x0f0f x)) in
    bit_or d (d * 2 % 2 ^ 64)

right : T (below (λ x. eqb (doubled x) (double_bits x)) 256)
right = tt

pub doubled_is : (x : ℕ) → x < 2 ^ 8 → doubled x ≡ double_bits x
doubled_is x h = eqb→eq (doubled x) (double_bits x) (below_at (λ x. eqb (doubled x) (double_bits x)) 256 right x h)
