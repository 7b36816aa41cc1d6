-- The laws of outcomes, once for every call: a test that holds stops with its number, one that fails passes on, two answers that meet a promise
-- are equal, and a refusal keeps what was there. Assumes nothing.
use mathlib.Core.Path.{◌≡◌, refl, sym, ◌∙◌}
use mathlib.Core.Bool.{Bool, true, false, not, true≢false}
use Prim.Native.Nat.{ℕ}
use borrow.Author.Tests.{eq-eqb, ne_eqb, eqb-true, eqb-false}
use lib.Dec.{eqb}
use Rattle.outcome.specs.Outcome.{Outcome, answers, refuse}

-- ---- the two kinds of tests: is a number, or is another
pub is : {a b : ℕ} → a ≡ b → eqb a b ≡ true
is {a} {b} e = eq-eqb a b e

pub is_not : {a b : ℕ} → (a ≡ b → ⊥) → eqb a b ≡ false
is_not {a} {b} h = ne_eqb a b h

pub differs : {a b : ℕ} → (a ≡ b → ⊥) → not (eqb a b) ≡ true
differs {a} {b} h = rw (ne_eqb a b h)

pub agrees : {a b : ℕ} → a ≡ b → not (eqb a b) ≡ false
agrees {a} {b} e = rw (eq-eqb a b e)

-- and back
pub was_not : {a b : ℕ} → eqb a b ≡ false → a ≡ b → ⊥
was_not {a} {b} e = eqb-false a b e

pub agreed : (a b : ℕ) → not (eqb a b) ≡ false → a ≡ b
agreed a b e = go (eqb a b) refl e
  where
    go : (t : Bool) → eqb a b ≡ t → not t ≡ false → a ≡ b
    go true p e = eqb-true a b p
    go false p e = absurd (true≢false e)

module _ {A : Type 0} where
  -- ---- through the chain
  pub stop : {test : Bool} (n : ℕ) (before : A) (rest : Outcome A) → test ≡ true → answers n before ≡ refuse test n before rest
  stop n before rest e = rw e

  pub pass : {test : Bool} (n : ℕ) (before : A) {rest out : Outcome A} → test ≡ false → out ≡ rest → out ≡ refuse test n before rest
  pass n before e h = rw e h

  -- ---- a promise settles the number and everything that is left
  pub same_number : {r r' : ℕ} {x x' : A} → answers r x ≡ answers r' x' → r ≡ r'
  same_number e = cc

  pub same_left : {r r' : ℕ} {x x' : A} → answers r x ≡ answers r' x' → x ≡ x'
  same_left e = cc

  pub settled : {out : Outcome A} {r r' : ℕ} {x x' : A} → answers r x ≡ out → answers r' x' ≡ out → (r ≡ r') × (x ≡ x')
  settled e e' = (same_number (e ∙ sym e'), same_left (e ∙ sym e'))

  -- an answer 0 has passed each test
  pub passed : (test : Bool) (n : ℕ) (before : A) {rest : Outcome A} {x : A} → (n ≡ 0 → ⊥) → answers 0 x ≡ refuse test n before rest
      → (test ≡ false) × (answers 0 x ≡ rest)
  passed true n before h e = absurd (h (sym (same_number e)))
  passed false n before h e = (refl, e)

  -- ---- every number but 0 leaves what was there
  pub record Keeps (before : A) (out : Outcome A) : Type 0 where
    pub keeps : (r : ℕ) (x : A) → answers r x ≡ out → (r ≡ 0 → ⊥) → x ≡ before

  pub refusal_keeps : (test : Bool) (n : ℕ) (before : A) {rest : Outcome A} → Keeps before rest → Keeps before (refuse test n before rest)
  refusal_keeps true n before k = record { keeps = λ r x e h. cc }
  refusal_keeps false n before k = k

  pub answer_keeps : (before x : A) → Keeps before (answers 0 x)
  answer_keeps before x = record { keeps = λ r y e h. absurd (h (cc)) }
