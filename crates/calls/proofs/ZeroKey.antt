-- The test for a key of zeros says what its name says: it holds of zeros and of nothing else. And what expand and the door ask first, of the key: where it is
-- zeros they answer 6, and an answer 0 has a key that is taken. Assumes nothing.
use mathlib.Core.Path.{◌≡◌, refl, sym, ◌∙◌, ap, ap₂}
use mathlib.Core.Bool.{Bool, true, false, ◌&&◌, true≢false}
use mathlib.Core.List.{List, [], ◌∷◌}
use Prim.Native.Nat.{ℕ, zero, suc}
use native.Mathlib.Omega.{arith}
use borrow.Author.Tests.{eqb-true}
use lib.Dec.{eqb}
use lib.ListN.{length, replicate}
use Rattle.lanes.specs.Layout.{Width}
use Rattle.outcome.specs.Outcome.{Outcome, answers, refuse}
use Rattle.outcome.proofs.Laws.{is_not, was_not, stop, pass, passed}
use Rattle.calls.specs.Calls.{key_words_of, zero_key, Taken, expand_outcome, door_outcome}

-- zeros are refused, however many
pub zeros_are : (n : ℕ) → zero_key (replicate n 0) ≡ true
unfolding zero_key
zeros_are zero = refl
zeros_are (suc n) = zeros_are n

-- and what is refused is zeros
first_and_rest : (x : ℕ) (xs : List ℕ) (b : Bool) → eqb x 0 ≡ b → (b && zero_key xs) ≡ true → (x ≡ 0) × (zero_key xs ≡ true)
first_and_rest x xs true p e = (eqb-true x 0 p, e)
first_and_rest x xs false p e = absurd (true≢false (sym e))

pub zeros_only : (key : List ℕ) → zero_key key ≡ true → key ≡ replicate (length key) 0
unfolding zero_key
zeros_only [] e = refl
zeros_only (x ∷ xs) e = let h = first_and_rest x xs (eqb x 0) refl e in ap₂ ◌∷◌ h.0 (zeros_only xs h.1)

-- so a key that is not refused is not zeros
pub no_zeros : (key : List ℕ) → zero_key key ≡ false → (n : ℕ) → key ≡ replicate n 0 → ⊥
no_zeros key e n h = true≢false (sym (zeros_are n) ∙ sym (ap zero_key h) ∙ e)

-- ---- the two tests of a key
module _ (key : List ℕ) where
  module _ (keyed : key_words_of key ≡ 0 → ⊥) (zeros : zero_key key ≡ true) where
    pub expand_6 : (w : Width) (s : List ℕ) → answers 6 s ≡ expand_outcome w key s
    unfolding expand_outcome
    expand_6 w s = pass 1 s (is_not keyed) (stop 6 s _ zeros)

    pub door_6 : (d : ℕ) (i o : List ℕ) → answers 6 o ≡ door_outcome d key i o
    unfolding door_outcome
    door_6 d i o = pass 1 o (is_not keyed) (stop 6 o _ zeros)

  -- a key that is taken passes both, and what has passed both is taken
  pub key_passes : Taken key → (before : List ℕ) {rest out : Outcome (List ℕ)} → out ≡ rest
      → out ≡ refuse (eqb (key_words_of key) 0) 1 before (refuse (zero_key key) 6 before rest)
  key_passes k before e = pass 1 before (is_not k.right_length) (pass 6 before k.not_zero e)

  pub key_passed : (before : List ℕ) {rest : Outcome (List ℕ)} {x : List ℕ}
      → answers 0 x ≡ refuse (eqb (key_words_of key) 0) 1 before (refuse (zero_key key) 6 before rest) → Taken key × (answers 0 x ≡ rest)
  key_passed before e =
      let p = passed (eqb (key_words_of key) 0) 1 before (λ z. omega arith) e in
      let q = passed (zero_key key) 6 before (λ z. omega arith) p.1 in
      (record { right_length = was_not p.0; not_zero = q.0 }, q.1)
