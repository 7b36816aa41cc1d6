-- The rule of one round key: writing it and reading it undo each other, whichever key it is, so the reading loses nothing. Assumes nothing.
use mathlib.Core.Path.{◌≡◌, refl, ap, ◌∙◌}
use mathlib.Core.Bool.{Bool, true, false, cond}
use mathlib.Core.List.{List}
use Prim.Native.Nat.{ℕ, zero, suc, ◌%◌}
use native.Mathlib.Nat.{zero-lt-suc, mod-lt}
use lib.Dec.{eqb}
use Rattle.fips197.specs.Bytes.{Block}
use Rattle.fips197.proofs.Blocks.{chosen}
use Rattle.lanes.specs.Schedule.{add63, rows_shifted, rows_unshifted, read_key, write_key}
use Rattle.lanes.proofs.Rows.{add63_block, unshifted_block, add63_twice, shifted_unshifted, unshifted_shifted}

-- both ways of the rule, by the test whether it is the last key
choose_choose : (t : Bool) (f g h k : List ℕ → List ℕ) (s : List ℕ) → f (h s) ≡ s → g (k s) ≡ s → cond t (f (cond t (h s) (k s))) (g (cond t (h s) (k s))) ≡ s
choose_choose true f g h k s p q = p
choose_choose false f g h k s p q = q

module _ (n : ℕ) where
  pub write_block : (r : ℕ) {k : List ℕ} → Block k → Block (write_key n r k)
  unfolding write_key
  write_block zero b = b
  write_block (suc r) b = chosen Block (eqb (suc r) n) (add63_block b) (add63_block (unshifted_block (suc r % 4) b))

  pub read_write : (r : ℕ) {k : List ℕ} → Block k → read_key n r (write_key n r k) ≡ k
  unfolding read_key write_key
  read_write zero b = refl
  read_write (suc r) {k} b =
      let j : ℕ = suc r % 4 in
      choose_choose (eqb (suc r) n) add63 (λ s. rows_shifted j (add63 s)) add63 (λ s. add63 (rows_unshifted j s)) k (add63_twice k)
      (ap (rows_shifted j) (add63_twice (rows_unshifted j k)) ∙ shifted_unshifted b j (mod-lt (suc r) (zero-lt-suc 3)))

  pub write_read : (r : ℕ) {k : List ℕ} → Block k → write_key n r (read_key n r k) ≡ k
  unfolding read_key write_key
  write_read zero b = refl
  write_read (suc r) {k} b =
      let j : ℕ = suc r % 4 in
      choose_choose (eqb (suc r) n) add63 (λ s. add63 (rows_unshifted j s)) add63 (λ s. rows_shifted j (add63 s)) k (add63_twice k)
      (ap add63 (unshifted_shifted (add63_block b) j (mod-lt (suc r) (zero-lt-suc 3))) ∙ add63_twice k)
