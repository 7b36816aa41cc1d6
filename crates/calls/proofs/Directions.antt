-- The door's test of its direction: it holds for neither 0 nor 1, and fails for both. Assumes nothing.
use mathlib.Core.Path.{◌≡◌, refl, sym, ◌∙◌}
use mathlib.Core.Bool.{true, false, not, ◌||◌, true≢false}
use Prim.Native.Nat.{ℕ, zero, suc, ◌≤◌, ◌<◌}
use native.Mathlib.Omega.{arith}
use borrow.Author.Tests.{ne_eqb}
use lib.Dec.{eqb, lit≤}

pub neither : (d : ℕ) → 1 < d → not (eqb d 0 || eqb d 1) ≡ true
neither d h = rw (ne_eqb d 0 (λ e. omega arith), ne_eqb d 1 (λ e. omega arith))

pub one_of : (d : ℕ) → d ≤ 1 → not (eqb d 0 || eqb d 1) ≡ false
one_of zero h = refl
one_of (suc zero) h = refl
one_of (suc (suc d)) h = absurd (omega arith)

pub was_one_of : (d : ℕ) → not (eqb d 0 || eqb d 1) ≡ false → d ≤ 1
was_one_of zero h = lit≤ tt
was_one_of (suc zero) h = lit≤ tt
was_one_of (suc (suc d)) h = absurd (true≢false (sym (neither (suc (suc d)) (omega arith)) ∙ h))
