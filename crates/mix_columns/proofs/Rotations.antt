-- The rotations at the columns that a form says. Assumes nothing.
use mathlib.Core.Path.{◌≡◌, refl, sym, subst}
use mathlib.Core.Logic.{◌⊎◌, inl, inr}
use Prim.Native.Nat.{ℕ, suc, ◌*◌, ◌%◌, ◌<◌}
use Rattle.lanes.specs.Layout.{Width}
use Rattle.lanes.specs.Programs.{words, rotate}
use Rattle.lanes.proofs.Linear.{four}

-- rotate_rows_and_columns_r_c, where c is n + 1 and known by an equation
pub turned : (w : Width) (rows n x : ℕ) {cols y : ℕ} → cols ≡ suc n → y ≡ rotate (words w) w rows (suc n) x → y ≡ rotate (words w) w rows cols x
turned w rows n x {cols} {y} e p = subst (λ (c : ℕ). y ≡ rotate (words w) w rows c x) (sym e) p

-- the columns of the second rotation: two for an odd form
pub odd : (form : ℕ) → form < 4 → (((form ≡ 0) ⊎ (form ≡ 2)) → ⊥) → 2 * form % 4 ≡ 2
odd = four (λ (i : ℕ). (((i ≡ 0) ⊎ (i ≡ 2)) → ⊥) → 2 * i % 4 ≡ 2) (λ h. absurd (h (inl refl))) (λ h. refl) (λ h. absurd (h (inr refl))) (λ h. refl)
