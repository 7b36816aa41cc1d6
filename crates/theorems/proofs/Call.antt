-- What a call is, and what holds of every call: two answers that meet its promise are equal, a refusal changes nothing, and which programs cannot
-- meet it. Stated once; Calls.antt has the five calls. Assumes nothing.
use mathlib.Core.Path.{◌≡◌, refl, sym, ◌∙◌}
use mathlib.Core.List.{List}
use Prim.Native.Nat.{ℕ}
use Rattle.outcome.specs.Outcome.{Outcome, answers}
use Rattle.outcome.proofs.Laws.{Keeps, settled, same_number, same_left}

-- a call: its arguments, and the one buffer that it may change
pub record Call : Type 1 where
  pub Args : Type 0
  -- arguments and a buffer that can be lent: bytes, and words of the width
  pub Fits : Args → List ℕ → Type 0
  -- and for which it is to be answered: the right lengths, and a key that is not all zeros
  pub Good : Args → List ℕ → Type 0
  -- what the code is proved to meet (crates/calls)
  pub promise : Args → List ℕ → Outcome (List ℕ)
  -- what the buffer then holds
  pub result : Args → List ℕ
  pub taken : (a : Args) (o : List ℕ) → Good a o → promise a o ≡ answers 0 (result a)
  pub only : (a : Args) (o x : List ℕ) → answers 0 x ≡ promise a o → Good a o
  pub keeping : (a : Args) (o : List ℕ) → Keeps o (promise a o)

-- a call that can be made and is to be answered
pub record Can (C : Call) (a : C.Args) (o : List ℕ) : Type 0 where
  pub fits : C.Fits a o
  pub good : C.Good a o

-- the same call where only some arguments come to be lent: a program that is wrong on these is wrong, however right it is on all others
abbrev pub among : (C : Call) → (C.Args → Type 0) → Call
among C S = record {
  Args = C.Args;
  Fits = λ a o. C.Fits a o × S a;
  Good = C.Good;
  promise = C.promise;
  result = C.result;
  taken = C.taken;
  only = C.only;
  keeping = C.keeping;
}

-- such a call was made, and x is what the buffer then holds
pub record Made (C : Call) (a : C.Args) (x : List ℕ) : Type 0 where
  pub buffer : List ℕ
  pub can : Can C a buffer
  pub number : ℕ
  pub answer : answers number x ≡ C.promise a buffer

module _ (C : Call) where
  -- ---- demand 1: one answer, and a refusal changes nothing
  pub answer_settled : (a : C.Args) (o : List ℕ) {r r' : ℕ} {x x' : List ℕ}
      → answers r x ≡ C.promise a o → answers r' x' ≡ C.promise a o → (r ≡ r') × (x ≡ x')
  answer_settled a o e e' = settled e e'

  pub refusal_changes_nothing : (a : C.Args) (o : List ℕ) {r : ℕ} {x : List ℕ} → answers r x ≡ C.promise a o → (r ≡ 0 → ⊥) → x ≡ o
  refusal_changes_nothing a o {r} {x} e h = (C.keeping a o).keeps r x e h

  -- 0 is answered exactly where it is to be: only then,
  pub answers_0_only : (a : C.Args) (o : List ℕ) {r : ℕ} {x : List ℕ} → answers r x ≡ C.promise a o → r ≡ 0 → C.Good a o
  answers_0_only a o {r} {x} e z = C.only a o x (rw z at e)

  -- and always then, with the result left
  pub answers_0 : {a : C.Args} {x : List ℕ} (m : Made C a x) → m.number ≡ 0
  answers_0 {a} m = same_number (m.answer ∙ C.taken a m.buffer m.can.good)

  pub leaves : {a : C.Args} {x : List ℕ} → Made C a x → x ≡ C.result a
  leaves {a} m = same_left (m.answer ∙ C.taken a m.buffer m.can.good)

  -- and such a call can be made
  pub can_make : {a : C.Args} {o x : List ℕ} → Can C a o → x ≡ C.result a → Made C a x
  can_make {a} {o} can e = record { buffer = o; can = can; number = 0; answer = rw e (sym (C.taken a o can.good)) }

  -- ---- programs
  -- a program is its answer for all arguments and buffers
  abbrev pub Program : Type 0
  Program = C.Args → List ℕ → Outcome (List ℕ)

  -- it agrees with the promise on calls that can be made and are to be answered; so one that refuses rightly is wrong all the same
  abbrev pub Meets : Program → Type 0
  Meets P = (a : C.Args) (o : List ℕ) → Can C a o → P a o ≡ C.promise a o

  abbrev pub Refuted : Program → Type 0
  Refuted P = Meets P → ⊥

  -- or on all calls that can be made, those that are to be refused too: one that answers these is wrong, however right it is on the others
  abbrev pub MeetsAll : Program → Type 0
  MeetsAll P = (a : C.Args) (o : List ℕ) → C.Fits a o → P a o ≡ C.promise a o

  -- one that answers 0 where the call is not to be answered, whatever it writes
  pub takes_too_much : {a : C.Args} {o : List ℕ} → C.Fits a o → (C.Good a o → ⊥)
      → (P : Program) {x : List ℕ} → P a o ≡ answers 0 x → MeetsAll P → ⊥
  takes_too_much {a} {o} fits h P {x} e m = h (C.only a o x (sym e ∙ m a o fits))

  agreed : {P : Program} → Meets P → {a : C.Args} {o : List ℕ} → Can C a o → P a o ≡ answers 0 (C.result a)
  agreed m {a} {o} can = m a o can ∙ C.taken a o can.good

  -- one that somewhere refuses
  pub refuses_one : {a : C.Args} {o : List ℕ} → Can C a o → (P : Program) {n : ℕ} {x : List ℕ} → P a o ≡ answers n x → (n ≡ 0 → ⊥) → Refuted P
  refuses_one can P e h m = h (same_number (sym e ∙ agreed m can))

  -- one that refuses everything, with whatever numbers
  pub refuses_everything : {a : C.Args} {o : List ℕ} → Can C a o
      → (number : C.Args → List ℕ → ℕ) → ((a : C.Args) (o : List ℕ) → number a o ≡ 0 → ⊥) → Refuted (λ a o. answers (number a o) o)
  refuses_everything {a} {o} can number h = refuses_one can (λ a o. answers (number a o) o) refl (h a o)

  -- one that somewhere answers 0 and writes what is not the result
  pub answers_another : {a : C.Args} {o : List ℕ} → Can C a o → (P : Program) {x : List ℕ} → P a o ≡ answers 0 x → (x ≡ C.result a → ⊥) → Refuted P
  answers_another can P e h m = h (same_left (sym e ∙ agreed m can))

  -- one that always answers 0 and writes g, which somewhere is not the result
  pub writes_another : {a : C.Args} {o : List ℕ} → Can C a o
      → (g : C.Args → List ℕ → List ℕ) → (g a o ≡ C.result a → ⊥) → Refuted (λ a o. answers 0 (g a o))
  writes_another can g h = answers_another can (λ a o. answers 0 (g a o)) refl h

  -- one that writes the same each time, where two results differ
  pub writes_the_same : {a b : C.Args} {o p : List ℕ} → Can C a o → Can C b p → (C.result a ≡ C.result b → ⊥)
      → (same : List ℕ) → Refuted (λ a o. answers 0 same)
  writes_the_same can can' h same m = h (sym (same_left (agreed m can)) ∙ same_left (agreed m can'))

  -- one that writes g, which somewhere goes by what the buffer held before
  pub writes_by_buffer : {a : C.Args} {o p : List ℕ} → Can C a o → Can C a p
      → (g : C.Args → List ℕ → List ℕ) → (g a o ≡ g a p → ⊥) → Refuted (λ a o. answers 0 (g a o))
  writes_by_buffer can can' g h m = h (same_left (agreed m can) ∙ sym (same_left (agreed m can')))
