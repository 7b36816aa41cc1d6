-- The door: each answer from the tests that lead there; and the schedule of a key holds FIPS-197's round keys in every slot, so blocks under it are
-- FIPS-197's with the key. Assumes nothing.
use mathlib.Core.Path.{◌≡◌, sym, ◌∙◌, ap, ap₂}
use mathlib.Core.Bool.{true, false, not}
use mathlib.Core.List.{List, map}
use Prim.Native.Nat.{ℕ, zero, suc, ◌%◌, ◌^◌, ◌≤◌, ◌<◌}
use native.Mathlib.Nat.{mod-lt}
use native.Mathlib.Omega.{arith}
use Rattle.std.specs.Prelude.{Result, Ok, Err}
use Rattle.std.specs.Result.{IsErrAnd}
use lib.Dec.{lit<}
use lib.ListN.{length, get_or, replicate, get_or-replicate, length-replicate}
use Rattle.fips197.specs.Bytes.{Fit}
use Rattle.fips197.specs.Aes.{sixteen, key_expansion}
use Rattle.lanes.specs.Layout.{Width, w64, bits, slots, join}
use Rattle.lanes.specs.Sizes.{key_size}
use Rattle.lanes.specs.Schedule.{reading, schedule_of, each_block, blocks_in, crypted}
use Rattle.lanes.proofs.Sizes.{key_found}
use Rattle.lanes.proofs.Values.{values_are}
use Rattle.lanes.proofs.EqualParts.{joined_same}
use Rattle.schedule.proofs.Reading.{schedule_reads}
use Rattle.cipher.specs.Fixslice.{Scheduled}
use Rattle.outcome.specs.Outcome.{answers}
use Rattle.outcome.proofs.Laws.{is, differs, stop, pass}
use Rattle.calls.specs.Calls.{key_words_of, zero_key, Taken, whole_blocks, TakenBlocks, directed, expand_outcome, door_outcome}
use Rattle.calls.proofs.ZeroKey.{door_6 as zero_key_6, key_passes}
use Rattle.calls.proofs.WholeBlocks.{blocks_pass}
use Rattle.calls.proofs.Directions.{neither, one_of}
use Rattle.aes.specs.KeySize.{size_for}
use Rattle.aes.specs.Refusal.{number, direction_of, direction_number}
use Rattle.aes.specs.declared.Size.{Size}
use Rattle.aes.specs.declared.refusal.Refusal.{Refusal}
use Rattle.aes.specs.declared.refusal.Refusal.TheVariants.{Direction as WrongDirection}
use Rattle.aes.specs.declared.refusal.Direction.{Direction}
use Rattle.aes.specs.declared.refusal.Direction.TheVariants.{Encrypt, Decrypt}
use Rattle.aes.proofs.Answers.{no_key, a_key}
use Rattle.host.specs.Door.{under_key}

-- ---- the direction
no_direction : (d : ℕ) {e : Refusal} → Err e ≡ direction_of d → (e ≡ WrongDirection) × (1 < d)
no_direction zero h = let f : ◌≡◌ {A = ℕ} 0 1 = cc in absurd (omega arith)
no_direction (suc zero) h = let f : ◌≡◌ {A = ℕ} 0 1 = cc in absurd (omega arith)
no_direction (suc (suc d)) h = (cc, omega arith)

a_direction : (d : ℕ) {way : Direction} → Ok way ≡ direction_of d → (d ≡ direction_number way) × (d ≤ 1)
a_direction zero {way} h = let e : Encrypt ≡ way = cc in (ap direction_number e, omega arith)
a_direction (suc zero) {way} h = let e : Decrypt ≡ way = cc in (ap direction_number e, omega arith)
a_direction (suc (suc d)) h = let f : ◌≡◌ {A = ℕ} 0 1 = cc in absurd (omega arith)

-- ---- the answers
module _ (d : ℕ) (k i o : List ℕ) where
  -- at the exits of the two `?`
  pub key_refused : {e : Refusal} → Err e ≡ size_for (length k) → (r : Result (Unit {0}) Refusal) → IsErrAnd r (λ y. y ≡ e)
      → answers (number r) o ≡ door_outcome d k i o
  unfolding door_outcome key_words_of
  key_refused h (Ok x) f = elim f [ ]
  key_refused h (Err y) f = let p = no_key (length k) h in rw (f ∙ p.0) (stop 1 o _ (is p.1))

  module _ {z : Size} (h : Ok z ≡ size_for (length k)) where
    keyed : (key_size (length k)).nk ≡ 0 → ⊥
    keyed = (a_key (length k) h).keyed

    pub door_6 : true ≡ zero_key k → answers 6 o ≡ door_outcome d k i o
    unfolding key_words_of
    door_6 t = zero_key_6 k keyed (sym t) d i o

    module _ (t : false ≡ zero_key k) where
      taken : Taken k
      unfolding key_words_of
      taken = record { right_length = keyed; not_zero = sym t }

      pub door_3 : false ≡ whole_blocks (length i) → answers 3 o ≡ door_outcome d k i o
      unfolding door_outcome
      door_3 q = key_passes k taken o (stop 3 o _ (ap not (sym q)))

      module _ (q : true ≡ whole_blocks (length i)) where
        pub door_4 : (length o ≡ length i → ⊥) → answers 4 o ≡ door_outcome d k i o
        unfolding door_outcome
        door_4 r = key_passes k taken o (pass 3 o (ap not (sym q)) (stop 4 o _ (differs r)))

        module _ (r : length o ≡ length i) where
          lent : TakenBlocks i o
          lent = record { whole = sym q; room = r }

          pub direction_refused : {e : Refusal} → Err e ≡ direction_of d → (r : Result (Unit {0}) Refusal) → IsErrAnd r (λ y. y ≡ e)
              → answers (number r) o ≡ door_outcome d k i o
          unfolding door_outcome
          direction_refused g (Ok x) f = elim f [ ]
          direction_refused g (Err y) f =
              let p = no_direction d g in
              rw (f ∙ p.0) (key_passes k taken o (blocks_pass i o lent o (stop 5 o _ (neither d p.1))))

          pub door_0 : {way : Direction} → Ok way ≡ direction_of d → {x : List ℕ} → x ≡ under_key (direction_number way) k i
              → answers 0 x ≡ door_outcome d k i o
          unfolding door_outcome
          door_0 g e =
              let p = a_direction d g in
              key_passes k taken o (blocks_pass i o lent o (pass 5 o (one_of d p.1)
              (ap (answers 0) (e ∙ ap (λ (n : ℕ). under_key n k i) (sym p.0)))))

-- ---- blocks under the schedule of a key
module _ (key : List ℕ) (keyed : (key_size (length key)).nk ≡ 0 → ⊥) where
  -- what the cipher asks of it
  pub scheduled : {n k l : ℕ} → n ≡ (key_size (length key)).rounds → k ≡ l → l ≡ (key_size (length key)).words → Scheduled n k
  scheduled e f g =
      let z = (key_found (length key) keyed).sized in
      record { words = f ∙ g ∙ z.words_are ∙ omega (arith, e); even = rw e z.even; some = omega (arith, e, z.rounds_are, z.some) }

  module _ (fits : Fit 8 key) (c : List (List ℕ) → List ℕ → List ℕ) (i : List ℕ) where
    -- each slot reads as FIPS-197's round keys
    reads : (b : ℕ) → b < slots w64
        → reading w64 (key_size (length key)).rounds (schedule_of w64 (key_size (length key)).nk key) b ≡ key_expansion (key_size (length key)).nk key
    reads b h =
        let f = key_found (length key) keyed in
        ap (λ (n : ℕ). reading w64 n (schedule_of w64 (key_size (length key)).nk key) b) f.sized.rounds_are
        ∙ schedule_reads w64 (key_size (length key)).nk key f.sized.some f.at fits b h

    under_key_is : crypted c w64 (key_size (length key)).rounds (schedule_of w64 (key_size (length key)).nk key) i
        ≡ each_block w64 (λ slot. c (key_expansion (key_size (length key)).nk key)) (blocks_in i) i
    unfolding each_block
    under_key_is = ap join (joined_same
        (λ j. c (reading w64 (key_size (length key)).rounds (schedule_of w64 (key_size (length key)).nk key) (j % 4)) (sixteen i j))
        (λ j. c (key_expansion (key_size (length key)).nk key) (sixteen i j)) (blocks_in i) 0
        (λ j h. ap (λ (ks : List (List ℕ)). c ks (sixteen i j)) (reads (j % 4) (mod-lt j (lit< tt)))))

    -- in the direction d
    pub door_crypts : (d : ℕ) → directed d ≡ c → {n : ℕ} {s x : List ℕ} → n ≡ (key_size (length key)).rounds
        → s ≡ schedule_of w64 (key_size (length key)).nk key → x ≡ crypted c w64 n s i → x ≡ under_key d key i
    unfolding key_words_of
    door_crypts d way {n} {s} {x} e f g = rw way (g ∙ rw (e, f) under_key_is)

-- ---- the room for a schedule
pub room : (n : ℕ) {z : Size} → Ok z ≡ size_for n → (l : List ℕ) → l ≡ replicate 120 0 → z.words ≤ length l
room n h l e =
    let r = a_key n h in
    omega (arith, r.words, (key_found n r.keyed).sized.room, ap length e, length-replicate {A = ℕ} 120 0)

pub blank_is_zero : (l : List ℕ) (i : ℕ) → l ≡ replicate 120 0 → i < 120 → get_or l i 0 ≡ 0
blank_is_zero l i e h = ap (λ (x : List ℕ). get_or x i 0) e ∙ get_or-replicate 120 i 0 0 h

-- ---- the words of a schedule by their values
pub expand_valued : (w : Width) (key old : List ℕ) {new : List ℕ} {r n : ℕ} → Fit (bits w) old → Fit (bits w) new → n ≡ r
    → answers r (map (λ x. x % 2 ^ bits w) new) ≡ expand_outcome w key (map (λ x. x % 2 ^ bits w) old) → answers n new ≡ expand_outcome w key old
expand_valued w key old {new} f g p e =
    ap₂ answers p (sym (values_are (bits w) new g)) ∙ e ∙ ap (expand_outcome w key) (values_are (bits w) old f)
