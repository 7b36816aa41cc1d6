-- What functions over the calls of host promise, where lengths and keys are right, and where a key is zeros: it follows from the contracts of crate host
-- alone.
use Rattle.std.specs.Prelude.{◌≡◌, true, List, ℕ, ◌<◌, length, take}
use Rattle.fips197.specs.Aes.{sixteen}
use Rattle.sp800_38b.specs.Cmac.{double}
use Rattle.lanes.specs.Schedule.{blocks_in}
use Rattle.calls.specs.Calls.{key_words_of, zero_key, Taken, schedule_words, rounds_of, whole_blocks}

-- blocks as a call takes them, and two buffers of as many bytes
pub record Buffers (i s o : List ℕ) : Type 0 where
  pub input : whole_blocks (length i) ≡ true
  pub sealed : length s ≡ length i
  pub opened : length o ≡ length i

-- the answer is 0 and what was opened is what was given
pub record Back (r : ℕ) (input opened : List ℕ) : Type 0 where
  pub answered : r ≡ 0
  pub same : opened ≡ input

-- through the door and back
pub record DoorBack (key input sealed opened : List ℕ) (r : ℕ) (left : List ℕ) : Type 0 where
  pub back : Taken key → Buffers input sealed opened → Back r input left

-- a header that is decrypted alone is as it is among all of them, whatever these are
pub record Alone (key sealed opened : List ℕ) (at : ℕ) (alone : List ℕ) (r : ℕ) (all one : List ℕ) : Type 0 where
  pub same : Taken key → whole_blocks (length sealed) ≡ true → length opened ≡ length sealed → at < blocks_in sealed → length alone ≡ 16
      → (r ≡ 0) × (one ≡ sixteen all at)

-- by a schedule and back
pub record ScheduleBack (key schedule input sealed opened : List ℕ) (r : ℕ) (left : List ℕ) : Type 0 where
  pub back : Taken key → length schedule ≡ schedule_words key → Buffers input sealed opened → Back r input left

-- the check value is the beginning of a second encryption, where this is of twice the block that came of zeros
pub record Agrees (schedule three first twice second : List ℕ) (r : ℕ) (check once again : List ℕ) : Type 0 where
  pub agrees : (rounds_of schedule ≡ 0 → ⊥) → length three ≡ 3 → length first ≡ 16 → length second ≡ 16 → length twice ≡ 16 → twice ≡ double once
      → (r ≡ 0) × (check ≡ take 3 again)

-- refused, and nothing is changed
pub record Refused (before : List ℕ) (r : ℕ) (left : List ℕ) : Type 0 where
  pub refused : r ≡ 0 → ⊥
  pub kept : left ≡ before

-- refused by 6 where the key is zeros, whatever else is wrong, and nothing is changed
pub record Destroyed (key before : List ℕ) (r : ℕ) (left : List ℕ) : Type 0 where
  pub destroyed : (key_words_of key ≡ 0 → ⊥) → zero_key key ≡ true → (r ≡ 6) × (left ≡ before)
