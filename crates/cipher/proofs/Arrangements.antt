-- The arrangement of the code keeps the law, so the argument holds of it: round r has form r mod 4, no row shift is made up for before the last S-box,
-- and n mod 4 are there. Assumes nothing.
use mathlib.Core.Path.{◌≡◌, refl, ap, ◌∙◌, fun_ext}
use mathlib.Core.List.{List, map}
use Prim.Native.Nat.{ℕ, zero, suc, ◌+◌, ◌-◌, ◌%◌, ◌≤◌}
use native.Mathlib.Omega.{arith}
use Rattle.fips197.specs.Bytes.{Block}
use Rattle.fips197.specs.Aes.{range, add_round_key, cipher, inv_cipher}
use Rattle.fips197.proofs.Ciphers.{Blocks, none, more}
use Rattle.lanes.specs.Schedule.{rows_shifted, rows_unshifted, read_key}
use Rattle.lanes.specs.Leaves.{bare_sub_bytes, inv_bare_sub_bytes}
use Rattle.lanes.proofs.Rows.{read_block}
use Rattle.cipher.specs.Fixslice.{fix_round, fix_unround, rounds_to, undone_from}
use Rattle.cipher.proofs.Argument as argument

abbrev form : ℕ → ℕ
form r = r % 4

abbrev made : ℕ → ℕ
made r = 0

full : (n : ℕ) → 1 ≤ n → argument.Arranged n form made (n % 4)
full n h = record {
  some = h;
  form = λ r. omega arith;
  made = λ r. omega arith;
  last = omega arith;
  starts = refl;
  none = refl;
  law = λ r. omega arith;
  ends = omega arith;
}

-- the keys are read by docs/SCOPE.md's rule
read_full : (k : ℕ → List ℕ) (n r : ℕ) → argument.read_as form n r (k r) ≡ read_key n r (k r)
unfolding argument.read_as read_key
read_full k n zero = refl
read_full k n (suc r) = refl

-- and the rounds are those of the code
module _ (k : ℕ → List ℕ) where
  to_full : (m : ℕ) (x : List ℕ) → argument.arranged_to form made k m x ≡ rounds_to k m x
  unfolding argument.arranged_to rounds_to rows_shifted
  to_full zero x = refl
  to_full (suc m) x = ap (fix_round (suc m % 4) (k (suc m))) (to_full m x)

  from_full : (m : ℕ) (x : List ℕ) → argument.undone_as form made k m x ≡ undone_from k m x
  unfolding argument.undone_as undone_from rows_unshifted
  from_full zero x = refl
  from_full (suc m) x = from_full m (fix_unround (suc m % 4) (k (suc m)) x)

module _ (k : ℕ → List ℕ) (bs : (r : ℕ) → Block (k r)) (n : ℕ) where
  pub read_blocks : (m i : ℕ) → Blocks (map (λ r. read_key n r (k r)) (range i m))
  read_blocks zero i = none
  read_blocks (suc m) i = more (read_block n i (bs i)) (read_blocks m (suc i))

  pub encrypts : 1 ≤ n → {x : List ℕ} → Block x
      → add_round_key (bare_sub_bytes (rows_shifted (n % 4) (rounds_to k (n - 1) (add_round_key x (k 0))))) (k n)
      ≡ cipher (map (λ r. read_key n r (k r)) (range 0 (n + 1))) x
  unfolding argument.arranged_cipher
  encrypts h {x} b =
      rw (← to_full k (n - 1) (add_round_key x (k 0)))
      (argument.encrypts (full n h) k bs b
      ∙ ap (λ (f : ℕ → List ℕ). cipher (map f (range 0 (n + 1))) x) (fun_ext (read_full k n)))

  pub decrypts : 1 ≤ n → {x : List ℕ} → Block x
      → add_round_key (undone_from k (n - 1) (rows_unshifted (n % 4) (inv_bare_sub_bytes (add_round_key x (k n))))) (k 0)
      ≡ inv_cipher (map (λ r. read_key n r (k r)) (range 0 (n + 1))) x
  unfolding argument.arranged_inv_cipher
  decrypts h {x} b =
      rw (← from_full k (n - 1) (rows_unshifted (n % 4) (inv_bare_sub_bytes (add_round_key x (k n)))))
      (argument.decrypts (full n h) k bs b
      ∙ ap (λ (f : ℕ → List ℕ). inv_cipher (map f (range 0 (n + 1))) x) (fun_ext (read_full k n)))
