-- What a call answers and what it leaves behind. A call's promise is one equation, `answers r (what is left) ≡ its outcome`; an outcome is a chain
-- of refusals, each with its test, that ends in an answer.
use Rattle.std.specs.Prelude.{Bool, cond, ℕ}

-- the number that is answered, and what is left: a buffer, or a buffer and a count. What is lent as `&` cannot change
pub data Outcome (A : Type 0) : Type 0 where
  answers : ℕ → A → Outcome A

-- where the test holds, the call answers n and leaves everything as it was; else the rest decides
abbrev pub refuse : {A : Type 0} → Bool → ℕ → A → Outcome A → Outcome A
refuse test n before rest = cond test (answers n before) rest
