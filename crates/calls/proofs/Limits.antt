-- Both sides of each limit of docs/SCOPE.md, computed from the promises: the numbers that calls answer by the lengths of what they are lent and for keys
-- of zeros, and which is answered where several apply. Assumes nothing.
use mathlib.Core.Path.{◌≡◌, refl}
use mathlib.Core.List.{List, [], ◌∷◌, ◌++◌, map}
use Prim.Native.Nat.{ℕ, ◌+◌, ◌-◌}
use lib.ListN.{replicate}
use Rattle.fips197.specs.Aes.{range, cipher, inv_cipher}
use Rattle.lanes.specs.Layout.{w32, w64}
use Rattle.lanes.specs.Sizes.{key_size, schedule_size}
use Rattle.outcome.specs.Outcome.{Outcome, answers}
use Rattle.calls.specs.Calls.{key_words_of, zero_key, schedule_words, rounds_of, whole_blocks, expand_outcome, crypt_outcome, check_outcome, door_outcome}

abbrev number_of : Outcome (List ℕ) → ℕ
number_of (answers n x) = n

-- so many zeros
abbrev zeros : ℕ → List ℕ
zeros n = replicate n 0

-- expand, by the length of a key of ones, with 88 words, 120 and 87; a 17-byte key is 1 with any schedule
expands : ℕ → List ℕ
expands words = map (λ k. number_of (expand_outcome w32 (replicate k 1) (zeros words))) (0 ∷ 15 ∷ 16 ∷ 17 ∷ 24 ∷ 31 ∷ 32 ∷ 33 ∷ [])

expand_limits : (expands 88 ≡ 1 ∷ 1 ∷ 0 ∷ 1 ∷ 1 ∷ 1 ∷ 2 ∷ 1 ∷ [])
    × (expands 120 ≡ 1 ∷ 1 ∷ 2 ∷ 1 ∷ 1 ∷ 1 ∷ 0 ∷ 1 ∷ [])
    × (expands 87 ≡ 1 ∷ 1 ∷ 2 ∷ 1 ∷ 1 ∷ 1 ∷ 2 ∷ 1 ∷ [])
unfolding expands expand_outcome key_words_of zero_key schedule_words key_size
expand_limits = (refl, refl, refl)

-- keys of zeros, of each length from 0 to 40: 6 with any schedule, and 1 where they are no keys
zero_keys : ℕ → List ℕ
zero_keys words = map (λ k. number_of (expand_outcome w64 (zeros k) (zeros words))) (range 0 41)

refused_zeros : List ℕ
refused_zeros = replicate 16 1 ++ (6 ∷ replicate 15 1) ++ (6 ∷ replicate 8 1)

zero_key_limits : (zero_keys 88 ≡ refused_zeros) × (zero_keys 120 ≡ refused_zeros) × (zero_keys 87 ≡ refused_zeros)
unfolding zero_keys refused_zeros expand_outcome key_words_of zero_key schedule_words key_size
zero_key_limits = (refl, refl, refl)

-- one bit is enough not to be zeros, in whichever byte: a key of n bytes that is zero but for byte i
one_bit : ℕ → ℕ → List ℕ
one_bit n words = map (λ i. number_of (expand_outcome w64 (zeros i ++ (0x80 ∷ zeros (n - 1 - i))) (zeros words))) (range 0 n)

one_bit_limits : (one_bit 16 88 ≡ replicate 16 0) × (one_bit 32 120 ≡ replicate 32 0)
unfolding one_bit expand_outcome key_words_of zero_key schedule_words key_size
one_bit_limits = (refl, refl)

-- encrypt and decrypt, by the schedule's length, with right lengths of input and output and with wrong ones
crypts : ℕ → ℕ → List ℕ
crypts i o = map (λ s. number_of (crypt_outcome cipher w32 (zeros s) (zeros i) (zeros o))) (0 ∷ 87 ∷ 88 ∷ 89 ∷ 104 ∷ 119 ∷ 120 ∷ 121 ∷ [])

crypt_limits : (crypts 48 48 ≡ 2 ∷ 2 ∷ 0 ∷ 2 ∷ 2 ∷ 2 ∷ 0 ∷ 2 ∷ [])
    × (crypts 47 48 ≡ 2 ∷ 2 ∷ 3 ∷ 2 ∷ 2 ∷ 2 ∷ 3 ∷ 2 ∷ [])
    × (crypts 48 47 ≡ 2 ∷ 2 ∷ 4 ∷ 2 ∷ 2 ∷ 2 ∷ 4 ∷ 2 ∷ [])
unfolding crypts crypt_outcome rounds_of schedule_size whole_blocks
crypt_limits = (refl, refl, refl)

-- by the input's length, with an output of as many bytes, of a block more and of a block less; and the door with them
inputs : (ℕ → ℕ) → List ℕ → List ℕ
inputs out = map (λ i. number_of (crypt_outcome inv_cipher w64 (zeros 120) (zeros i) (zeros (out i))))

door_inputs : (ℕ → ℕ) → List ℕ → List ℕ
door_inputs out = map (λ i. number_of (door_outcome 1 (replicate 16 1) (zeros i) (zeros (out i))))

taken : List ℕ
taken = 16 ∷ 32 ∷ 48 ∷ 64 ∷ 80 ∷ 65520 ∷ 65536 ∷ []

refused : List ℕ
refused = 0 ∷ 1 ∷ 15 ∷ 17 ∷ 31 ∷ 33 ∷ 47 ∷ 63 ∷ 65 ∷ 65535 ∷ 65537 ∷ 65552 ∷ []

-- as a call by lengths answers them
record InputLimits (answered : (ℕ → ℕ) → List ℕ → List ℕ) : Type 0 where
  as_many : answered (λ i. i) taken ≡ replicate 7 0
  a_block_more : answered (λ i. i + 16) taken ≡ replicate 7 4
  a_block_less : answered (λ i. i - 16) taken ≡ replicate 7 4
  no_blocks : answered (λ i. i) refused ≡ replicate 12 3
  no_blocks_nor_room : answered (λ i. i + 16) refused ≡ replicate 12 3

input_limits : InputLimits inputs
unfolding inputs taken refused crypt_outcome rounds_of schedule_size whole_blocks
input_limits = record { as_many = refl; a_block_more = refl; a_block_less = refl; no_blocks = refl; no_blocks_nor_room = refl }

door_input_limits : InputLimits door_inputs
unfolding door_inputs taken refused door_outcome key_words_of zero_key key_size whole_blocks
door_input_limits = record { as_many = refl; a_block_more = refl; a_block_less = refl; no_blocks = refl; no_blocks_nor_room = refl }

-- the check value, by the output's length, under a schedule and under none
checks : ℕ → List ℕ
checks s = map (λ o. number_of (check_outcome w64 (zeros s) (zeros o))) (0 ∷ 2 ∷ 3 ∷ 4 ∷ [])

check_limits : (checks 88 ≡ 4 ∷ 4 ∷ 0 ∷ 4 ∷ []) × (checks 104 ≡ 2 ∷ 2 ∷ 2 ∷ 2 ∷ [])
unfolding checks check_outcome rounds_of schedule_size
check_limits = (refl, refl)

-- the door with a key of bytes x: all that is wrong at first, and one thing less each time; and its directions
doors : ℕ → List ℕ
doors x =
    number_of (door_outcome 2 (replicate 17 x) (zeros 63) (zeros 65)) ∷
    number_of (door_outcome 2 (replicate 16 x) (zeros 63) (zeros 65)) ∷
    number_of (door_outcome 2 (replicate 16 x) (zeros 64) (zeros 65)) ∷
    map (λ d. number_of (door_outcome d (replicate 32 x) (zeros 64) (zeros 64))) (2 ∷ 0xffffffff ∷ 1 ∷ 0 ∷ [])

door_limits : (doors 1 ≡ 1 ∷ 3 ∷ 4 ∷ 5 ∷ 5 ∷ 0 ∷ 0 ∷ []) × (doors 0 ≡ 1 ∷ 6 ∷ 6 ∷ 6 ∷ 6 ∷ 6 ∷ 6 ∷ [])
unfolding doors door_outcome key_words_of zero_key key_size whole_blocks
door_limits = (refl, refl)
