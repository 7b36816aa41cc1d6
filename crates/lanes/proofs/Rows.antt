-- Row shifts, the 63, and the rule by which a round key is read: blocks stay blocks, and each shift or sum is undone. Assumes nothing.
use mathlib.Core.Path.{◌≡◌, refl, ap₂, ◌∙◌}
use mathlib.Core.List.{List, [], ◌∷◌}
use Prim.Native.Nat.{ℕ, zero, suc, ◌%◌, ◌<◌}
use native.Mathlib.Omega.{arith}
use lib.Bits.{bit_xor, xor_lt, xor_zero_r}
use lib.Dec.{lit<, eqb}
use lib.ListN.{length-map}
use Rattle.fips197.specs.Bytes.{Block}
use Rattle.fips197.specs.Aes.{shift_rows, inv_shift_rows}
use Rattle.fips197.proofs.Bits.{xor_assoc}
use Rattle.fips197.proofs.Blocks.{chosen, block_is, fit_each, shift_block, inv_shift_block}
use Rattle.lanes.specs.Schedule.{add63, rows_shifted, rows_unshifted, read_key}

-- ---- blocks stay blocks
pub add63_block : {s : List ℕ} → Block s → Block (add63 s)
unfolding add63
add63_block {s} b = record { long = length-map s _ ∙ b.long; bytes = fit_each (λ x. bit_xor x 0x63) (λ x h. xor_lt 8 x 0x63 h (lit< tt)) s b.bytes }

pub shifted_block : {s : List ℕ} (n : ℕ) → Block s → Block (rows_shifted n s)
unfolding rows_shifted
shifted_block zero b = b
shifted_block (suc n) b = shift_block (shifted_block n b)

pub unshifted_block : {s : List ℕ} (n : ℕ) → Block s → Block (rows_unshifted n s)
unfolding rows_unshifted
unshifted_block zero b = b
unshifted_block (suc n) b = inv_shift_block (unshifted_block n b)

pub read_block : (n r : ℕ) {k : List ℕ} → Block k → Block (read_key n r k)
unfolding read_key
read_block n zero b = b
read_block n (suc r) b = chosen Block (eqb (suc r) n) (add63_block b) (shifted_block (suc r % 4) (add63_block b))

-- ---- what undoes what
pub add63_twice : (s : List ℕ) → add63 (add63 s) ≡ s
unfolding add63
add63_twice [] = refl
add63_twice (x ∷ s) = ap₂ ◌∷◌ (xor_assoc x 0x63 0x63 ∙ xor_zero_r x) (add63_twice s)

pub unshifted_shifted : {s : List ℕ} → Block s → (n : ℕ) → n < 4 → rows_unshifted n (rows_shifted n s) ≡ s
unfolding rows_shifted rows_unshifted shift_rows inv_shift_rows
unshifted_shifted b zero h = refl
unshifted_shifted b (suc zero) h = block_is b
unshifted_shifted b (suc (suc zero)) h = block_is b
unshifted_shifted b (suc (suc (suc zero))) h = block_is b
unshifted_shifted b (suc (suc (suc (suc n)))) h = absurd (omega arith)

pub shifted_unshifted : {s : List ℕ} → Block s → (n : ℕ) → n < 4 → rows_shifted n (rows_unshifted n s) ≡ s
unfolding rows_shifted rows_unshifted shift_rows inv_shift_rows
shifted_unshifted b zero h = refl
shifted_unshifted b (suc zero) h = block_is b
shifted_unshifted b (suc (suc zero)) h = block_is b
shifted_unshifted b (suc (suc (suc zero))) h = block_is b
shifted_unshifted b (suc (suc (suc (suc n)))) h = absurd (omega arith)
