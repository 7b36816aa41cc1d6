-- A key of the table of sizes is one block or two, by the table's rows. Assumes nothing.
use mathlib.Core.Path.{◌≡◌, refl}
use mathlib.Core.Bool.{Bool, true, false}
use mathlib.Core.Logic.{◌⊎◌, inl, inr, ⊎_elim}
use Prim.Native.Nat.{ℕ, ◌*◌, ◌/◌}
use native.Mathlib.Omega.{arith}
use borrow.Author.Tests.{eqb-true}
use lib.Dec.{eqb}
use Rattle.lanes.specs.Sizes.{key_size}
use Rattle.schedule.specs.Steps.{SizedFor, Expands}

rows : (k : ℕ) → ((key_size k).nk ≡ 0 → ⊥) → (k ≡ 16) ⊎ (k ≡ 32)
unfolding key_size
rows k h = row (eqb k 16) (eqb k 32) refl refl
  where
    row : (a b : Bool) → eqb k 16 ≡ a → eqb k 32 ≡ b → (k ≡ 16) ⊎ (k ≡ 32)
    row true b p q = inl (eqb-true k 16 p)
    row false true p q = inr (eqb-true k 32 q)
    row false false p q = absurd (h (rw (p, q)))

-- a key of k bytes, and its schedule of l words
pub record KeyBlocks (k l : ℕ) : Type 0 where
  pub bytes : k ≡ 16 * (k / 16)
  pub nk_is : (key_size k).nk ≡ 4 * (k / 16)
  pub blocks : Expands (k / 16) l

pub key_blocks : (k l : ℕ) → SizedFor k l → KeyBlocks k l
unfolding key_size
key_blocks k l s =
    ⊎_elim
    (λ e. rw e (record { bytes = refl; nk_is = refl; blocks = record { some = omega arith; few = omega arith; words = rw e at s.words } }))
    (λ e. rw e (record { bytes = refl; nk_is = refl; blocks = record { some = omega arith; few = omega arith; words = rw e at s.words } }))
    (rows k s.keyed)
