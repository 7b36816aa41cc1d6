-- WHAT EACH PUBLIC CALL PROMISES, from its arguments alone: docs/SCOPE.md's table, one link for each refusal, in its order.
use Rattle.std.specs.Prelude.{◌≡◌, Bool, true, false, not, ◌&&◌, ◌||◌, cond, List, [], ◌∷◌, ℕ, ◌%◌, leb, eqb, length, take}
use Rattle.fips197.specs.Aes.{key_expansion, cipher, inv_cipher}
use Rattle.sp800_38b.specs.Cmac.{zeros, cmac_of_block}
use Rattle.lanes.specs.Layout.{Width, w64}
use Rattle.lanes.specs.Sizes.{key_size, schedule_size}
use Rattle.lanes.specs.Schedule.{reading, schedule_of, each_block, blocks_in, crypted}
use Rattle.outcome.specs.Outcome.{Outcome, answers, refuse}

-- ---- what a key, a schedule and blocks are

-- the words of a key, FIPS-197's Nk; 0 where it is no key
unfoldable pub key_words_of : List ℕ → ℕ
key_words_of key = (key_size (length key)).nk

-- a key of zeros, which is what the purge leaves of one that it destroys
unfoldable pub zero_key : List ℕ → Bool
zero_key [] = true
zero_key (x ∷ xs) = eqb x 0 && zero_key xs

-- what the calls take as a key; no promise needs this, and theorems do
pub record Taken (key : List ℕ) : Type 0 where
  pub right_length : key_words_of key ≡ 0 → ⊥
  pub not_zero : zero_key key ≡ false

-- the words of its schedule
unfoldable pub schedule_words : List ℕ → ℕ
schedule_words key = (key_size (length key)).words

-- the rounds of a schedule; 0 where it is no schedule
unfoldable pub rounds_of : List ℕ → ℕ
rounds_of schedule = (schedule_size (length schedule)).rounds

-- the words of a schedule that hold its round keys: all of them
unfoldable pub keys_of : List ℕ → List ℕ
keys_of schedule = schedule

-- the round keys that it has for slot b: ANY words can be read so, and slots may differ
abbrev pub keys_in : Width → List ℕ → ℕ → List (List ℕ)
keys_in w schedule b = reading w (rounds_of schedule) (keys_of schedule) b

-- what the calls take as blocks: 16 to 65,536 bytes, a multiple of 16
unfoldable pub whole_blocks : ℕ → Bool
whole_blocks bytes = leb 16 bytes && leb bytes 65536 && eqb (bytes % 16) 0

-- and an output of as many bytes; no promise needs this, and theorems do
pub record TakenBlocks (input output : List ℕ) : Type 0 where
  pub whole : whole_blocks (length input) ≡ true
  pub room : length output ≡ length input

-- ---- the calls

-- expand: 1 for the key's length, 6 for a key of zeros, 2 for a schedule that is not as long as this key's
unfoldable pub expand_outcome : Width → List ℕ → List ℕ → Outcome (List ℕ)
expand_outcome w key schedule =
    refuse (eqb (key_words_of key) 0) 1 schedule
    (refuse (zero_key key) 6 schedule
    (refuse (not (eqb (length schedule) (schedule_words key))) 2 schedule
    (answers 0 (schedule_of w (key_words_of key) key))))

-- a call that takes blocks through Cipher or InvCipher: 2 for the schedule's length, 3 for the input's, 4 for an output of another length
unfoldable pub crypt_outcome : (List (List ℕ) → List ℕ → List ℕ) → Width → List ℕ → List ℕ → List ℕ → Outcome (List ℕ)
crypt_outcome c w schedule input output =
    refuse (eqb (rounds_of schedule) 0) 2 output
    (refuse (not (whole_blocks (length input))) 3 output
    (refuse (not (eqb (length output) (length input))) 4 output
    (answers 0 (crypted c w (rounds_of schedule) (keys_of schedule) input))))

-- encrypt and decrypt: block j by the round keys of slot j mod slots
abbrev pub encrypt_outcome : Width → List ℕ → List ℕ → List ℕ → Outcome (List ℕ)
encrypt_outcome = crypt_outcome cipher

abbrev pub decrypt_outcome : Width → List ℕ → List ℕ → List ℕ → Outcome (List ℕ)
decrypt_outcome = crypt_outcome inv_cipher

-- the key check value: the first three bytes of the CMAC, by Cipher under some round keys, of sixteen zero bytes
abbrev pub check_of : List (List ℕ) → List ℕ
check_of ks = take 3 (cmac_of_block (cipher ks) (zeros 16))

-- of a schedule, by those of slot 0; 2 for the schedule's length, 4 for the output's
unfoldable pub check_value : Width → List ℕ → List ℕ
check_value w schedule = check_of (keys_in w schedule 0)

unfoldable pub check_outcome : Width → List ℕ → List ℕ → Outcome (List ℕ)
check_outcome w schedule output =
    refuse (eqb (rounds_of schedule) 0) 2 output
    (refuse (not (eqb (length output) 3)) 4 output
    (answers 0 (check_value w schedule)))

-- the host door: FIPS-197 with the key, block by block, whatever the slot; direction 0 encrypts and 1 decrypts
abbrev pub directed : ℕ → List (List ℕ) → List ℕ → List ℕ
directed direction = cond (eqb direction 0) cipher inv_cipher

unfoldable pub door_outcome : ℕ → List ℕ → List ℕ → List ℕ → Outcome (List ℕ)
door_outcome direction key input output =
    refuse (eqb (key_words_of key) 0) 1 output
    (refuse (zero_key key) 6 output
    (refuse (not (whole_blocks (length input))) 3 output
    (refuse (not (eqb (length output) (length input))) 4 output
    (refuse (not (eqb direction 0 || eqb direction 1)) 5 output
    (answers 0 (each_block w64 (λ slot. directed direction (key_expansion (key_words_of key) key)) (blocks_in input) input))))))
