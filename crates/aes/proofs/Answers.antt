-- What the code's tests say of the promises' tests, once over the width and the direction. Assumes nothing.
use mathlib.Core.Path.{◌≡◌, refl, sym, ◌∙◌, ap}
use mathlib.Core.Bool.{Bool, true, false, not, cond}
use mathlib.Core.List.{List, map}
use Prim.Native.Nat.{ℕ}
use native.Mathlib.Omega.{arith}
use Rattle.std.specs.Prelude.{Result, Ok, Err}
use Rattle.std.specs.Result.{IsErrAnd}
use borrow.Author.Tests.{eqb-true, eqb-false}
use lib.Dec.{eqb}
use lib.ListN.{length, length-map}
use Rattle.lanes.specs.Layout.{Width}
use Rattle.lanes.specs.Sizes.{Size, key_size, schedule_size}
use Rattle.lanes.specs.Schedule.{reading, schedule_of, crypted}
use Rattle.lanes.proofs.Sizes.{schedule_found}
use Rattle.cipher.specs.Fixslice.{Scheduled}
use Rattle.outcome.specs.Outcome.{Outcome, answers, refuse}
use Rattle.outcome.proofs.Laws.{is, is_not, differs, agrees, stop, pass}
use Rattle.calls.specs.Calls.{key_words_of, zero_key, Taken, schedule_words, rounds_of, keys_of, whole_blocks, expand_outcome, crypt_outcome}
use Rattle.calls.specs.Calls.{check_of, check_value, check_outcome}
use Rattle.calls.proofs.ZeroKey.{expand_6 as zero_key_6, key_passes}
use Rattle.calls.proofs.WholeBlocks.{blocks_pass}
use Rattle.aes.specs.KeySize.{found, size_for, rounds_for}
use Rattle.aes.specs.Refusal.{number}
use Rattle.aes.specs.declared.Size.{Size as Of}
use Rattle.aes.specs.declared.refusal.Refusal.{Refusal}
use Rattle.aes.specs.declared.refusal.Refusal.TheVariants.{Key, Schedule}

-- ---- what goes by the number of words goes by that of their values
pub valued : {A R : Type 0} (f : ℕ → R) (v : A → ℕ) (l : List A) {x : R} → x ≡ f (length l) → x ≡ f (length (map v l))
valued f v l p = p ∙ ap f (sym (length-map l v))

-- ---- the size of a key, and a schedule's rounds
-- a row that is none, and one that is
no_row : (z : Size) {e : Refusal} → found z ≡ Err e → (e ≡ Key) × (z.nk ≡ 0)
no_row z {e} h = go (eqb z.nk 0) refl h
  where
    go : (b : Bool) → eqb z.nk 0 ≡ b → cond {A = Result Of Refusal} b (Err Key) (Ok (record { rounds = z.rounds; words = z.words })) ≡ Err e
        → (e ≡ Key) × (z.nk ≡ 0)
    go true p h = (cc, eqb-true z.nk 0 p)
    go false p h = let f : ◌≡◌ {A = ℕ} 0 1 = cc in absurd (omega arith)

row : (z : Size) {s : Of} → found z ≡ Ok s → (z.nk ≡ 0 → ⊥) × (s ≡ record { rounds = z.rounds; words = z.words })
row z {s} h = go (eqb z.nk 0) refl h
  where
    go : (b : Bool) → eqb z.nk 0 ≡ b → cond {A = Result Of Refusal} b (Err Key) (Ok (record { rounds = z.rounds; words = z.words })) ≡ Ok s
        → (z.nk ≡ 0 → ⊥) × (s ≡ record { rounds = z.rounds; words = z.words })
    go true p h = let f : ◌≡◌ {A = ℕ} 0 1 = cc in absurd (omega arith)
    go false p h = (eqb-false z.nk 0 p, cc)

pub record Row (n : ℕ) (s : Of) : Type 0 where
  pub keyed : (key_size n).nk ≡ 0 → ⊥
  pub rounds : s.rounds ≡ (key_size n).rounds
  pub words : s.words ≡ (key_size n).words

pub no_key : (n : ℕ) {e : Refusal} → Err e ≡ size_for n → (e ≡ Key) × ((key_size n).nk ≡ 0)
unfolding size_for
no_key n h = no_row (key_size n) (sym h)

pub a_key : (n : ℕ) {s : Of} → Ok s ≡ size_for n → Row n s
unfolding size_for
a_key n h = let r = row (key_size n) (sym h) in record { keyed = r.0; rounds = ap (λ (s : Of). s.rounds) r.1; words = ap (λ (s : Of). s.words) r.1 }

-- ---- expand
module _ (w : Width) (key s : List ℕ) where
  -- at the exit of a `?`
  pub expand_refused : {e : Refusal} → Err e ≡ size_for (length key) → (r : Result (Unit {0}) Refusal) → IsErrAnd r (λ y. y ≡ e)
      → answers (number r) s ≡ expand_outcome w key s
  unfolding expand_outcome key_words_of
  expand_refused h (Ok x) f = elim f [ ]
  expand_refused h (Err y) f = let p = no_key (length key) h in rw (f ∙ p.0) (stop 1 s _ (is p.1))

  module _ {z : Of} (h : Ok z ≡ size_for (length key)) where
    keyed : (key_size (length key)).nk ≡ 0 → ⊥
    keyed = (a_key (length key) h).keyed

    pub expand_6 : true ≡ zero_key key → answers 6 s ≡ expand_outcome w key s
    unfolding key_words_of
    expand_6 t = zero_key_6 key keyed (sym t) w s

    module _ (t : false ≡ zero_key key) where
      taken : Taken key
      unfolding key_words_of
      taken = record { right_length = keyed; not_zero = sym t }

      pub expand_2 : (length s ≡ z.words → ⊥) → answers 2 s ≡ expand_outcome w key s
      unfolding expand_outcome schedule_words
      expand_2 n = key_passes key taken s (stop 2 s _ (differs (λ e. n (e ∙ sym (a_key (length key) h).words))))

      pub expand_0 : length s ≡ z.words → {x : List ℕ} → x ≡ schedule_of w (key_size (length key)).nk key → answers 0 x ≡ expand_outcome w key s
      unfolding expand_outcome key_words_of schedule_words
      expand_0 n e = key_passes key taken s (pass 2 s (agrees (n ∙ (a_key (length key) h).words)) (ap (answers 0) e))

-- ---- a schedule, by its length; m is the code's number of rounds
pub no_schedule : (n : ℕ) {e : Refusal} → Err e ≡ rounds_for n → (e ≡ Schedule) × ((schedule_size n).rounds ≡ 0)
unfolding rounds_for
no_schedule n {e} h = go (eqb (schedule_size n).rounds 0) refl (sym h)
  where
    go : (b : Bool) → eqb (schedule_size n).rounds 0 ≡ b → cond {A = Result ℕ Refusal} b (Err Schedule) (Ok (schedule_size n).rounds) ≡ Err e
        → (e ≡ Schedule) × ((schedule_size n).rounds ≡ 0)
    go true p h = (cc, eqb-true (schedule_size n).rounds 0 p)
    go false p h = let f : ◌≡◌ {A = ℕ} 0 1 = cc in absurd (omega arith)

pub record Rounds (n m : ℕ) : Type 0 where
  pub are : m ≡ (schedule_size n).rounds
  pub some : m ≡ 0 → ⊥

pub a_schedule : (n : ℕ) {m : ℕ} → Ok m ≡ rounds_for n → Rounds n m
unfolding rounds_for
a_schedule n {m} h = go (eqb (schedule_size n).rounds 0) refl (sym h)
  where
    go : (b : Bool) → eqb (schedule_size n).rounds 0 ≡ b → cond {A = Result ℕ Refusal} b (Err Schedule) (Ok (schedule_size n).rounds) ≡ Ok m → Rounds n m
    go true p h = let f : ◌≡◌ {A = ℕ} 0 1 = cc in absurd (omega arith)
    go false p h = let e : (schedule_size n).rounds ≡ m = cc in record { are = sym e; some = λ z. eqb-false (schedule_size n).rounds 0 p (e ∙ z) }

pub scheduled : (n : ℕ) {m : ℕ} → Ok m ≡ rounds_for n → Scheduled m n
scheduled n {m} h =
    let r = a_schedule n h in
    let f = schedule_found n (λ e. r.some (r.are ∙ e)) in
    record {
      words = f.at ∙ f.sized.words_are ∙ omega (arith, r.are);
      even = rw r.are f.sized.even;
      some = omega (arith, r.are, f.sized.rounds_are, f.sized.some);
    }

module _ (s : List ℕ) where
  -- with any other tests behind, at the exit of a `?`
  refused : {e : Refusal} → Err e ≡ rounds_for (length s) → (r : Result (Unit {0}) Refusal) → IsErrAnd r (λ y. y ≡ e) → (o : List ℕ) (rest : Outcome (List ℕ))
      → answers (number r) o ≡ refuse (eqb (schedule_size (length s)).rounds 0) 2 o rest
  refused h (Ok x) f o rest = elim f [ ]
  refused h (Err y) f o rest = let p = no_schedule (length s) h in rw (f ∙ p.0) (stop 2 o rest (is p.1))

  -- ---- a call on blocks
  module _ (c : List (List ℕ) → List ℕ → List ℕ) (w : Width) (i o : List ℕ) where
    pub crypt_refused : {e : Refusal} → Err e ≡ rounds_for (length s) → (r : Result (Unit {0}) Refusal) → IsErrAnd r (λ y. y ≡ e)
        → answers (number r) o ≡ crypt_outcome c w s i o
    unfolding crypt_outcome rounds_of
    crypt_refused h r f = refused h r f o _

    module _ {m : ℕ} (h : Ok m ≡ rounds_for (length s)) where
      none : eqb (schedule_size (length s)).rounds 0 ≡ false
      none = let r = a_schedule (length s) h in is_not (λ e. r.some (r.are ∙ e))

      pub crypt_3 : false ≡ whole_blocks (length i) → answers 3 o ≡ crypt_outcome c w s i o
      unfolding crypt_outcome rounds_of
      crypt_3 q = pass 2 o none (stop 3 o _ (ap not (sym q)))

      module _ (q : true ≡ whole_blocks (length i)) where
        pub crypt_4 : (length o ≡ length i → ⊥) → answers 4 o ≡ crypt_outcome c w s i o
        unfolding crypt_outcome rounds_of
        crypt_4 t = pass 2 o none (pass 3 o (ap not (sym q)) (stop 4 o _ (differs t)))

        pub crypt_0 : length o ≡ length i → {x : List ℕ} → x ≡ crypted c w m s i → answers 0 x ≡ crypt_outcome c w s i o
        unfolding crypt_outcome rounds_of keys_of
        crypt_0 t e = pass 2 o none (blocks_pass i o (record { whole = sym q; room = t }) o
            (ap (answers 0) (e ∙ ap (λ (n : ℕ). crypted c w n s i) (a_schedule (length s) h).are)))

  -- ---- the key check value
  module _ (w : Width) (o : List ℕ) where
    pub check_refused : {e : Refusal} → Err e ≡ rounds_for (length s) → (r : Result (Unit {0}) Refusal) → IsErrAnd r (λ y. y ≡ e)
        → answers (number r) o ≡ check_outcome w s o
    unfolding check_outcome rounds_of
    check_refused h r f = refused h r f o _

    module _ {m : ℕ} (h : Ok m ≡ rounds_for (length s)) where
      some : eqb (schedule_size (length s)).rounds 0 ≡ false
      some = let r = a_schedule (length s) h in is_not (λ e. r.some (r.are ∙ e))

      pub check_4 : (length o ≡ 3 → ⊥) → answers 4 o ≡ check_outcome w s o
      unfolding check_outcome rounds_of
      check_4 q = pass 2 o some (stop 4 o _ (differs q))

      pub check_0 : length o ≡ 3 → {x : List ℕ} → x ≡ check_of (reading w m s 0) → answers 0 x ≡ check_outcome w s o
      unfolding check_outcome check_value rounds_of keys_of
      check_0 q e = pass 2 o some (pass 4 o (agrees q)
          (ap (answers 0) (e ∙ ap (λ (n : ℕ). check_of (reading w n s 0)) (a_schedule (length s) h).are)))
