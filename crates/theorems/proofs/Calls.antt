-- The five calls: their arguments, when they are to be answered, and what they then leave. Assumes nothing.
use mathlib.Core.Path.{◌≡◌}
use mathlib.Core.Bool.{not, ◌||◌}
use mathlib.Core.List.{List}
use Prim.Native.Nat.{ℕ, ◌≤◌}
use native.Mathlib.Omega.{arith}
use lib.Dec.{eqb}
use lib.ListN.{length}
use Rattle.fips197.specs.Bytes.{Fit}
use Rattle.fips197.specs.Aes.{key_expansion, cipher, inv_cipher}
use Rattle.lanes.specs.Layout.{Width, w64, bits}
use Rattle.lanes.specs.Schedule.{schedule_of, each_block, blocks_in, crypted}
use Rattle.outcome.specs.Outcome.{answers}
use Rattle.outcome.proofs.Laws.{Keeps, is_not, agrees, was_not, agreed, passed, refusal_keeps, answer_keeps}
use Rattle.calls.specs.Calls.{key_words_of, zero_key, Taken, schedule_words, rounds_of, keys_of, whole_blocks, TakenBlocks, expand_outcome}
use Rattle.calls.specs.Calls.{crypt_outcome, check_value, check_outcome, directed, door_outcome}
use Rattle.calls.proofs.Directions.{one_of, was_one_of}
use Rattle.calls.proofs.ZeroKey.{key_passed}
use Rattle.calls.proofs.WholeBlocks.{blocks_passed}
use Rattle.theorems.proofs.Call.{Call}

-- ---- expand: a key that is not all zeros, and room for its schedule
pub record ExpandGood (key schedule : List ℕ) : Type 0 where
  pub taken : Taken key
  pub room : length schedule ≡ schedule_words key

pub record ExpandFits (w : Width) (key schedule : List ℕ) : Type 0 where
  pub key_bytes : Fit 8 key
  pub buffer_words : Fit (bits w) schedule

module _ (w : Width) (key s : List ℕ) where
  pub expand_taken : ExpandGood key s → expand_outcome w key s ≡ answers 0 (schedule_of w (key_words_of key) key)
  unfolding expand_outcome
  expand_taken g = rw (is_not g.taken.right_length, g.taken.not_zero, agrees g.room)

  pub expand_keeping : Keeps s (expand_outcome w key s)
  unfolding expand_outcome
  expand_keeping =
      refusal_keeps (eqb (key_words_of key) 0) 1 s
      (refusal_keeps (zero_key key) 6 s
      (refusal_keeps (not (eqb (length s) (schedule_words key))) 2 s (answer_keeps s (schedule_of w (key_words_of key) key))))

  pub expand_only_good : (x : List ℕ) → answers 0 x ≡ expand_outcome w key s → ExpandGood key s
  unfolding expand_outcome
  expand_only_good x e =
      let p = key_passed key s e in
      let q = passed (not (eqb (length s) (schedule_words key))) 2 s (λ z. omega arith) p.1 in
      record { taken = p.0; room = agreed (length s) (schedule_words key) q.0 }

abbrev pub expand_call : Width → Call
expand_call w = record {
  Args = List ℕ;
  Fits = ExpandFits w;
  Good = ExpandGood;
  promise = expand_outcome w;
  result = λ key. schedule_of w (key_words_of key) key;
  taken = expand_taken w;
  only = expand_only_good w;
  keeping = expand_keeping w;
}

-- ---- encrypt and decrypt: any words of the right number as a schedule, blocks, and room for as many
pub record CryptArgs : Type 0 where
  pub schedule : List ℕ
  pub input : List ℕ

pub record CryptGood (a : CryptArgs) (output : List ℕ) : Type 0 where
  pub scheduled : rounds_of a.schedule ≡ 0 → ⊥
  pub blocks : TakenBlocks a.input output

pub record CryptFits (w : Width) (a : CryptArgs) (output : List ℕ) : Type 0 where
  pub schedule_words_fit : Fit (bits w) a.schedule
  pub input_bytes : Fit 8 a.input
  pub buffer_bytes : Fit 8 output

abbrev pub crypt_result : (List (List ℕ) → List ℕ → List ℕ) → Width → CryptArgs → List ℕ
crypt_result c w a = crypted c w (rounds_of a.schedule) (keys_of a.schedule) a.input

module _ (c : List (List ℕ) → List ℕ → List ℕ) (w : Width) (a : CryptArgs) (o : List ℕ) where
  pub crypt_taken : CryptGood a o → crypt_outcome c w a.schedule a.input o ≡ answers 0 (crypt_result c w a)
  unfolding crypt_outcome
  crypt_taken g = rw (is_not g.scheduled, g.blocks.whole, agrees g.blocks.room)

  pub crypt_keeping : Keeps o (crypt_outcome c w a.schedule a.input o)
  unfolding crypt_outcome
  crypt_keeping =
      refusal_keeps (eqb (rounds_of a.schedule) 0) 2 o
      (refusal_keeps (not (whole_blocks (length a.input))) 3 o
      (refusal_keeps (not (eqb (length o) (length a.input))) 4 o (answer_keeps o (crypt_result c w a))))

  pub crypt_only : (x : List ℕ) → answers 0 x ≡ crypt_outcome c w a.schedule a.input o → CryptGood a o
  unfolding crypt_outcome
  crypt_only x e =
      let p = passed (eqb (rounds_of a.schedule) 0) 2 o (λ z. omega arith) e in
      let q = blocks_passed a.input o o p.1 in
      record { scheduled = was_not p.0; blocks = q.0 }

abbrev pub crypt_call : (List (List ℕ) → List ℕ → List ℕ) → Width → Call
crypt_call c w = record {
  Args = CryptArgs;
  Fits = CryptFits w;
  Good = CryptGood;
  promise = λ a. crypt_outcome c w a.schedule a.input;
  result = crypt_result c w;
  taken = crypt_taken c w;
  only = crypt_only c w;
  keeping = crypt_keeping c w;
}

abbrev pub encrypt_call : Width → Call
encrypt_call = crypt_call cipher

abbrev pub decrypt_call : Width → Call
decrypt_call = crypt_call inv_cipher

-- ---- the key check value: any words of the right number as a schedule, and three bytes
pub record CheckGood (schedule output : List ℕ) : Type 0 where
  pub scheduled : rounds_of schedule ≡ 0 → ⊥
  pub three : length output ≡ 3

pub record CheckFits (w : Width) (schedule output : List ℕ) : Type 0 where
  pub schedule_words_fit : Fit (bits w) schedule
  pub buffer_bytes : Fit 8 output

module _ (w : Width) (s o : List ℕ) where
  pub check_taken : CheckGood s o → check_outcome w s o ≡ answers 0 (check_value w s)
  unfolding check_outcome
  check_taken g = rw (is_not g.scheduled, agrees g.three)

  pub check_keeping : Keeps o (check_outcome w s o)
  unfolding check_outcome
  check_keeping = refusal_keeps (eqb (rounds_of s) 0) 2 o (refusal_keeps (not (eqb (length o) 3)) 4 o (answer_keeps o (check_value w s)))

  pub check_only : (x : List ℕ) → answers 0 x ≡ check_outcome w s o → CheckGood s o
  unfolding check_outcome
  check_only x e =
      let p = passed (eqb (rounds_of s) 0) 2 o (λ z. omega arith) e in
      let q = passed (not (eqb (length o) 3)) 4 o (λ z. omega arith) p.1 in
      record { scheduled = was_not p.0; three = agreed (length o) 3 q.0 }

abbrev pub check_call : Width → Call
check_call w = record {
  Args = List ℕ;
  Fits = CheckFits w;
  Good = CheckGood;
  promise = check_outcome w;
  result = check_value w;
  taken = check_taken w;
  only = check_only w;
  keeping = check_keeping w;
}

-- ---- the door, in one direction: a key that is not all zeros, blocks, and room for as many
pub record DoorArgs : Type 0 where
  pub key : List ℕ
  pub input : List ℕ

pub record DoorGood (d : ℕ) (a : DoorArgs) (output : List ℕ) : Type 0 where
  pub taken : Taken a.key
  pub blocks : TakenBlocks a.input output
  pub direction : d ≤ 1

pub record DoorFits (a : DoorArgs) (output : List ℕ) : Type 0 where
  pub key_bytes : Fit 8 a.key
  pub input_bytes : Fit 8 a.input
  pub buffer_bytes : Fit 8 output

abbrev pub door_result : ℕ → DoorArgs → List ℕ
door_result d a = each_block w64 (λ slot. directed d (key_expansion (key_words_of a.key) a.key)) (blocks_in a.input) a.input

module _ (d : ℕ) (a : DoorArgs) (o : List ℕ) where
  pub door_taken : DoorGood d a o → door_outcome d a.key a.input o ≡ answers 0 (door_result d a)
  unfolding door_outcome
  door_taken g = let k = g.taken in rw (is_not k.right_length, k.not_zero, g.blocks.whole, agrees g.blocks.room, one_of d g.direction)

  pub door_keeping : Keeps o (door_outcome d a.key a.input o)
  unfolding door_outcome
  door_keeping =
      refusal_keeps (eqb (key_words_of a.key) 0) 1 o
      (refusal_keeps (zero_key a.key) 6 o
      (refusal_keeps (not (whole_blocks (length a.input))) 3 o
      (refusal_keeps (not (eqb (length o) (length a.input))) 4 o
      (refusal_keeps (not (eqb d 0 || eqb d 1)) 5 o (answer_keeps o (door_result d a))))))

  pub door_only : (x : List ℕ) → answers 0 x ≡ door_outcome d a.key a.input o → DoorGood d a o
  unfolding door_outcome
  door_only x e =
      let p = key_passed a.key o e in
      let q = blocks_passed a.input o o p.1 in
      let t = passed (not (eqb d 0 || eqb d 1)) 5 o (λ z. omega arith) q.1 in
      record { taken = p.0; blocks = q.0; direction = was_one_of d t.0 }

abbrev pub door_call : ℕ → Call
door_call d = record {
  Args = DoorArgs;
  Fits = DoorFits;
  Good = DoorGood d;
  promise = λ a. door_outcome d a.key a.input;
  result = door_result d;
  taken = door_taken d;
  only = door_only d;
  keeping = door_keeping d;
}
