-- From the contracts of the calls of host, `answers r x ≡ its outcome`, by the theorems of the calls: nothing else of crate host is known here.
-- Once over the width. Assumes nothing.
use mathlib.Core.Path.{◌≡◌, refl, sym, ◌∙◌, ap}
use mathlib.Core.List.{List, map}
use Prim.Native.Nat.{ℕ, ◌*◌, ◌/◌, ◌%◌, ◌^◌, ◌≤◌, ◌<◌}
use native.Mathlib.Omega.{arith}
use lib.Dec.{lit<, lit≤}
use lib.ListN.{length, take, drop, replicate}
use lib.Seq.{take_all, take-take}
use Rattle.fips197.specs.Bytes.{Fit}
use Rattle.fips197.specs.Aes.{sixteen}
use Rattle.sp800_38b.specs.Cmac.{double}
use Rattle.lanes.specs.Layout.{Width, bits}
use Rattle.lanes.specs.Schedule.{blocks_in}
use Rattle.lanes.proofs.EachBlock.{block_of}
use Rattle.lanes.proofs.Cuts.{blocks_are}
use Rattle.lanes.proofs.Values.{values_are}
use Rattle.cipher.proofs.Batches.{Way, forth, backwards}
use Rattle.outcome.specs.Outcome.{answers}
use Rattle.calls.specs.Calls.{Taken, schedule_words, rounds_of, whole_blocks, TakenBlocks, expand_outcome, crypt_outcome}
use Rattle.calls.specs.Calls.{encrypt_outcome, decrypt_outcome, check_outcome, door_outcome}
use Rattle.calls.proofs.WholeBlocks.{blocks_taken}
use Rattle.theorems.proofs.Call.{answers_0, answers_0_only, refusal_changes_nothing}
use Rattle.theorems.proofs.Calls.{expand_call, encrypt_call, decrypt_call, check_call, door_call}
use Rattle.theorems.proofs.Theorems.{Schedule, Crypts, Expands, Encrypts, Decrypts, Checks, Doors, message_data, door_0_length, door_0_message}
use Rattle.theorems.proofs.Theorems.{door_1_undoes_0, door_1_blocks, door_1_blocks_apart}
use Rattle.theorems.proofs.Theorems.{expand_refuses_zeros, door_refuses_zeros, expand_schedule, encrypt_length, encrypt_message}
use Rattle.theorems.proofs.Theorems.{decrypt_undoes_encrypt, check_is_slot_0}
use Rattle.theorems.proofs.Witness.{fit_replicate}
use Rattle.uses.specs.Promises.{Buffers, Back, DoorBack, Alone, ScheduleBack, Agrees, Refused, Destroyed}

-- ---- from an answer to a call that was made, where what was lent is right
doors : (d : ℕ) → d ≤ 1 → {key i o : List ℕ} → Fit 8 key → Fit 8 i → Fit 8 o → {r : ℕ} {x : List ℕ} → answers r x ≡ door_outcome d key i o
    → Taken key → TakenBlocks i o → Doors d key i x
doors d le {o = o} k b e {r} a p q = record {
  buffer = o;
  can = record { fits = record { key_bytes = k; input_bytes = b; buffer_bytes = e }; good = record { taken = p; blocks = q; direction = le } };
  number = r;
  answer = a;
}

crypts : (v : Way) {w : Width} {s i o : List ℕ} → Schedule w s → Fit 8 i → Fit 8 o → {r : ℕ} {x : List ℕ} → answers r x ≡ crypt_outcome v.go w s i o
    → TakenBlocks i o → Crypts v w s i x
crypts v {o = o} l b e {r} a q = record {
  buffer = o;
  can = record {
    fits = record { schedule_words_fit = l.words; input_bytes = b; buffer_bytes = e };
    good = record { scheduled = l.right_length; blocks = q };
  };
  number = r;
  answer = a;
}

-- one block is taken, with room for one
a_block : {i o : List ℕ} → length i ≡ 16 → length o ≡ 16 → TakenBlocks i o
a_block e f = record { whole = ap whole_blocks e ∙ blocks_taken 1 (lit≤ tt) (lit≤ tt); room = f ∙ sym e }

-- ---- the door
module _ (key i s o : List ℕ) (k : Fit 8 key) (b : Fit 8 i) (e : Fit 8 s) (f : Fit 8 o) where
  sealing : {r : ℕ} {x : List ℕ} → answers r x ≡ door_outcome 0 key i s → Taken key → Buffers i s o → Doors 0 key i x
  sealing a p q = doors 0 (lit≤ tt) k b e a p (record { whole = q.input; room = q.sealed })

  pub door_stops : {r : ℕ} {x : List ℕ} → answers r x ≡ door_outcome 0 key i s → (r ≡ 0 → ⊥) → DoorBack key i s o r o
  unfolding sealing doors
  door_stops a h = record { back = λ p q. absurd (h (answers_0 (door_call 0) (sealing a p q))) }

  pub door_back : {r₀ r : ℕ} {x y : List ℕ} → answers r₀ x ≡ door_outcome 0 key i s → answers r y ≡ door_outcome 1 key x o → DoorBack key i s o r y
  unfolding doors
  door_back {r₀} {r} {x} {y} a c = record { back = back }
    where
      back : Taken key → Buffers i s o → Back r i y
      back p q =
          let m = sealing a p q in
          let d = door_0_message m in
          let n : Doors 1 key x y = doors 1 (lit≤ tt) k d.bytes f c p (record { whole = d.taken; room = q.opened ∙ sym (door_0_length m) }) in
          record { answered = answers_0 (door_call 1) n; same = door_1_undoes_0 m n }

-- ---- a header alone: what was lent fits
pub record LentHeaders (key sealed opened alone : List ℕ) : Type 0 where
  pub key_bytes : Fit 8 key
  pub sealed_bytes : Fit 8 sealed
  pub opened_bytes : Fit 8 opened
  pub alone_bytes : Fit 8 alone

module _ {key sealed opened alone : List ℕ} (lent : LentHeaders key sealed opened alone) (at : ℕ) where
  opening : {r : ℕ} {x : List ℕ} → answers r x ≡ door_outcome 1 key sealed opened → Taken key → TakenBlocks sealed opened → Doors 1 key sealed x
  opening a p q = doors 1 (lit≤ tt) lent.key_bytes lent.sealed_bytes lent.opened_bytes a p q

  pub all_stops : {r : ℕ} {x : List ℕ} → answers r x ≡ door_outcome 1 key sealed opened → (r ≡ 0 → ⊥) → Alone key sealed opened at alone r x alone
  unfolding opening doors
  all_stops a h = record { same = λ p q u l t. absurd (h (answers_0 (door_call 1) (opening a p (record { whole = q; room = u })))) }

  -- there is no such header
  pub none_there : {x : List ℕ} → length sealed / 16 ≤ at → Alone key sealed opened at alone 3 x alone
  unfolding blocks_in
  none_there h = record { same = λ p q u l t. absurd (omega (arith, h, l)) }

  pub header_alone : {r₀ r n : ℕ} {x y : List ℕ} → n ≡ 16 → answers r₀ x ≡ door_outcome 1 key sealed opened
      → answers r y ≡ door_outcome 1 key (take n (drop (16 * at) sealed)) alone → Alone key sealed opened at alone r x y
  unfolding doors
  header_alone {r = r} {x = x} {y = y} e₁₆ a c = record { same = λ p q u l t. same p (record { whole = q; room = u }) l t }
    where
      same : Taken key → TakenBlocks sealed opened → at < blocks_in sealed → length alone ≡ 16 → (r ≡ 0) × (y ≡ sixteen x at)
      same p q l t =
          let d = block_of (message_data (record { taken = q.whole; bytes = lent.sealed_bytes })) at l in
          let one : Doors 1 key (sixteen sealed at) y =
          doors 1 (lit≤ tt) lent.key_bytes d.bytes lent.alone_bytes
          (c ∙ ap (λ (n : ℕ). door_outcome 1 key (take n (drop (16 * at) sealed)) alone) e₁₆) p (a_block d.long t) in
          let count : blocks_in (sixteen sealed at) ≡ 1 = blocks_are 1 (sixteen sealed at) d.long in
          let long : length y ≡ 16 = (door_1_blocks one).long ∙ omega (arith, count) in (
            answers_0 (door_call 1) one,
            sym (take_all 16 y (omega (arith, long)))
                ∙ door_1_blocks_apart 0 at (omega (arith, count)) l one (opening a p q) (take_all 16 (sixteen sealed at) (omega (arith, d.long))),
          )

-- direction 2
pub door_refuses : (key i o : List ℕ) {r : ℕ} {x : List ℕ} → answers r x ≡ door_outcome 2 key i o → Refused o r x
door_refuses key i o {r} a =
    let none : r ≡ 0 → ⊥ = λ z. let le : 2 ≤ 1 = (answers_0_only (door_call 2) (record { key = key; input = i }) o a z).direction in omega arith in
    record { refused = none; kept = refusal_changes_nothing (door_call 2) (record { key = key; input = i }) o a none }

-- a key of zeros
pub door_destroyed : (d : ℕ) (key i o : List ℕ) {r : ℕ} {x : List ℕ} → answers r x ≡ door_outcome d key i o → Destroyed key o r x
door_destroyed d key i o a = record { destroyed = λ p z. door_refuses_zeros key p z d i o a }

pub expand_destroyed : (w : Width) (key s : List ℕ) {r : ℕ} {x : List ℕ} → answers r x ≡ expand_outcome w key s → Destroyed key s r x
expand_destroyed w key s a = record { destroyed = λ p z. expand_refuses_zeros key p z w s a }

-- ---- by a schedule, at each width
-- the words of a schedule and the numbers that they are
pub expand_by_values : (w : Width) (key old : List ℕ) {new : List ℕ} {r : ℕ} → Fit (bits w) old → Fit (bits w) new
    → answers r new ≡ expand_outcome w key old → answers r (map (λ x. x % 2 ^ bits w) new) ≡ expand_outcome w key (map (λ x. x % 2 ^ bits w) old)
expand_by_values w key old {new} {r} f g e =
    ap (answers r) (values_are (bits w) new g) ∙ e ∙ ap (expand_outcome w key) (sym (values_are (bits w) old f))

-- the key, the room for its schedule, and blocks
record Good (key l i s o : List ℕ) : Type 0 where
  taken : Taken key
  room : length l ≡ schedule_words key
  full : Buffers i s o

module _ (w : Width) (key l i s o : List ℕ) (k : Fit 8 key) (g : Fit (bits w) l) (b : Fit 8 i) (e : Fit 8 s) (f : Fit 8 o) where
  expanding : {r : ℕ} {x : List ℕ} → answers r x ≡ expand_outcome w key l → Good key l i s o → Expands w key x
  expanding {r} a h = record {
    buffer = l;
    can = record { fits = record { key_bytes = k; buffer_words = g }; good = record { taken = h.taken; room = h.room } };
    number = r;
    answer = a;
  }

  encrypting : {r₀ r : ℕ} {x y : List ℕ} → answers r₀ x ≡ expand_outcome w key l → answers r y ≡ encrypt_outcome w x i s → Good key l i s o → Encrypts w x i y
  encrypting a c h = crypts forth (expand_schedule (expanding a h)) b e c (record { whole = h.full.input; room = h.full.sealed })

  pub expand_stops : {r : ℕ} {x : List ℕ} → answers r x ≡ expand_outcome w key l → (r ≡ 0 → ⊥) → ScheduleBack key l i s o r o
  unfolding expanding
  expand_stops a z = record { back = λ p q t. absurd (z (answers_0 (expand_call w) (expanding a (record { taken = p; room = q; full = t })))) }

  pub encrypt_stops : {r₀ r : ℕ} {x y : List ℕ} → answers r₀ x ≡ expand_outcome w key l → answers r y ≡ encrypt_outcome w x i s → (r ≡ 0 → ⊥)
      → ScheduleBack key l i s o r o
  unfolding encrypting crypts
  encrypt_stops a c z = record { back = λ p q t. absurd (z (answers_0 (encrypt_call w) (encrypting a c (record { taken = p; room = q; full = t })))) }

  pub schedule_back : {r₀ r₁ r : ℕ} {x y v : List ℕ} → answers r₀ x ≡ expand_outcome w key l → answers r₁ y ≡ encrypt_outcome w x i s
      → answers r v ≡ decrypt_outcome w x y o → ScheduleBack key l i s o r v
  unfolding crypts
  schedule_back {r = r} {x = x} {y = y} {v = v} a c u = record { back = λ p q t. back (record { taken = p; room = q; full = t }) }
    where
      back : Good key l i s o → Back r i v
      back h =
          let m = encrypting a c h in
          let t = encrypt_message m in
          let n : Decrypts w x y v =
          crypts backwards (expand_schedule (expanding a h)) t.bytes f u (record { whole = t.taken; room = h.full.opened ∙ sym (encrypt_length m) }) in
          record { answered = answers_0 (decrypt_call w) n; same = decrypt_undoes_encrypt m n }

-- ---- the check value and the encryptions that it is made of
-- what was lent fits
pub record Lent (w : Width) (schedule three first twice second : List ℕ) : Type 0 where
  pub words : Fit (bits w) schedule
  pub three_bytes : Fit 8 three
  pub first_bytes : Fit 8 first
  pub twice_bytes : Fit 8 twice
  pub second_bytes : Fit 8 second

-- what a call said of a block z that is zeros
pub of_zeros : (w : Width) (s f : List ℕ) {z x : List ℕ} {r : ℕ} → z ≡ replicate 16 0 → answers r x ≡ encrypt_outcome w s z f
    → answers r x ≡ encrypt_outcome w s (replicate 16 0) f
of_zeros w s f e a = a ∙ ap (λ (z : List ℕ). encrypt_outcome w s z f) e

module _ (w : Width) {s t f d o : List ℕ} (lent : Lent w s t f d o) where
  checking : {r : ℕ} {x : List ℕ} → answers r x ≡ check_outcome w s t → (rounds_of s ≡ 0 → ⊥) → length t ≡ 3 → Checks w s x
  checking {r} a p q = record {
    buffer = t;
    can = record { fits = record { schedule_words_fit = lent.words; buffer_bytes = lent.three_bytes }; good = record { scheduled = p; three = q } };
    number = r;
    answer = a;
  }

  -- an encryption of a block under s
  under : {i b : List ℕ} → Fit 8 i → Fit 8 b → {r : ℕ} {x : List ℕ} → answers r x ≡ encrypt_outcome w s i b → (rounds_of s ≡ 0 → ⊥)
      → length i ≡ 16 → length b ≡ 16 → Encrypts w s i x
  under y v a p q u = crypts forth (record { right_length = p; words = lent.words }) y v a (a_block q u)

  once : {r : ℕ} {x : List ℕ} → answers r x ≡ encrypt_outcome w s (replicate 16 0) f → (rounds_of s ≡ 0 → ⊥) → length f ≡ 16
      → Encrypts w s (replicate 16 0) x
  once a p u = under (fit_replicate 16 (lit< tt)) lent.first_bytes a p refl u

  pub check_stops : {r : ℕ} {x : List ℕ} → answers r x ≡ check_outcome w s t → (r ≡ 0 → ⊥) → Agrees s t f d o r x f o
  unfolding checking
  check_stops a n = record { agrees = λ p q u v t m. absurd (n (answers_0 (check_call w) (checking a p q))) }

  pub first_stops : {r : ℕ} {x y : List ℕ} → answers r y ≡ encrypt_outcome w s (replicate 16 0) f → (r ≡ 0 → ⊥) → Agrees s t f d o r x y o
  unfolding once under crypts
  first_stops a n = record { agrees = λ p q u v t m. absurd (n (answers_0 (encrypt_call w) (once a p u))) }

  pub check_agrees : {r₀ r₁ r : ℕ} {x y v : List ℕ} → answers r₀ x ≡ check_outcome w s t
      → answers r₁ y ≡ encrypt_outcome w s (replicate 16 0) f → answers r v ≡ encrypt_outcome w s d o → Agrees s t f d o r x y v
  unfolding under crypts
  check_agrees {r = r} {x = x} {y = y} {v = v} a b c = record { agrees = agrees }
    where
      agrees : (rounds_of s ≡ 0 → ⊥) → length t ≡ 3 → length f ≡ 16 → length o ≡ 16 → length d ≡ 16 → d ≡ double y → (r ≡ 0) × (x ≡ take 3 v)
      agrees p q lf lo ld m =
          let first : Encrypts w s (replicate 16 0) y = once b p lf in
          let n : Encrypts w s d v = under lent.twice_bytes lent.second_bytes c p ld lo in
          let whole : sixteen y 0 ≡ y = take_all 16 y (omega (arith, encrypt_length first)) in (
            answers_0 (encrypt_call w) n,
            check_is_slot_0 (checking a p q) first refl n (take_all 16 d (omega (arith, ld)) ∙ m ∙ ap double (sym whole)) ∙ take-take 3 16 v (lit≤ tt),
          )
