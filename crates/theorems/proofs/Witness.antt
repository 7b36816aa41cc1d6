-- Calls that can be made, and what they leave, computed: the key of FIPS-197's appendix A.1, and blocks of zeros but for their first byte, as many as
-- are taken. The wrong programs are refuted on these. Assumes nothing.
use mathlib.Core.Path.{◌≡◌, refl, sym, ◌∙◌, ap}
use mathlib.Core.Bool.{true, false}
use mathlib.Core.List.{List, [], ◌∷◌}
use Prim.Native.Nat.{ℕ, zero, suc, ◌+◌, ◌-◌, ◌*◌, ◌%◌, ◌^◌, ◌≤◌, ◌<◌}
use native.Mathlib.Nat.{zero-add}
use native.Mathlib.Omega.{arith}
use lib.Dec.{lit<}
use lib.ListN.{length, get_or, take, drop, replicate, length-replicate, length-drop, get_or-replicate}
use lib.Seq.{get_or-take, get_or-drop, length-take-le, ext_get_or}
use Rattle.fips197.specs.Bytes.{Fit, Data}
use Rattle.fips197.specs.Aes.{sixteen, key_expansion, xtime, product, inverse, affine, inv_affine, sbox, inv_sbox, sub_bytes, inv_sub_bytes, shift_rows}
use Rattle.fips197.specs.Aes.{inv_shift_rows, mix_columns, inv_mix_columns, add_round_key, cipher, inv_cipher}
use Rattle.fips197.proofs.Blocks.{fit_nil, fit_test, fit_cons}
use Rattle.fips197.proofs.Quick.{quick_cipher, quick_inv_cipher, cipher_quick, inv_cipher_quick}
use Rattle.appendices.proofs.Examples.{key_a1, round_keys_a1, expansion_a1, key_a3, round_keys_a3, expansion_a3}
use Rattle.sp800_38b.specs.Cmac.{zeros, xors, shift_left, r128, double, subkey1, cmac_of_block}
use Rattle.lanes.specs.Layout.{Width, w32, w64, bits, slots, slot}
use Rattle.lanes.specs.Sizes.{key_size, schedule_size}
use Rattle.lanes.specs.Schedule.{words_at, stored, add63, rows_shifted, read_key, reading, schedule_of, each_block, blocks_in}
use Rattle.lanes.proofs.EqualParts.{joined_at}
use Rattle.lanes.proofs.Cuts.{blocks_are}
use Rattle.schedule.proofs.Reading.{schedule_fits}
use Rattle.calls.specs.Calls.{key_words_of, zero_key, Taken, schedule_words, rounds_of, keys_of, keys_in, whole_blocks, TakenBlocks}
use Rattle.calls.proofs.WholeBlocks.{blocks_taken}
use Rattle.theorems.proofs.Call.{Call, Can, among, can_make}
use Rattle.theorems.proofs.Calls.{CryptArgs, DoorArgs, expand_call, crypt_call, check_call, door_call}
use Rattle.theorems.proofs.Theorems.{Expands, Key, Schedule, expand_rounds, expand_reads}

-- ---- blocks: k of them, of which the first begins with x, and then zeros
abbrev pub zero_block : List ℕ
zero_block = zeros 16

abbrev pub one_block : List ℕ
one_block = 1 ∷ replicate 15 0

unfoldable pub message : ℕ → ℕ → List ℕ
message k x = x ∷ replicate (16 * k - 1) 0

pub fit_replicate : {W y : ℕ} (n : ℕ) → y < 2 ^ W → Fit W (replicate n y)
fit_replicate {W} zero h = fit_nil W
fit_replicate {W} {y} (suc n) h = fit_cons y h (fit_replicate n h)

-- a part of zeros is zeros
zeros_part : (m n a : ℕ) → a + m ≤ n → take {A = ℕ} m (drop a (replicate n 0)) ≡ replicate m 0
zeros_part m n a h =
    let z : List ℕ = replicate n 0 in
    let l : length (take m (drop a z)) ≡ m = length-take-le m (drop a z) (rw (length-drop, length-replicate) (omega arith)) in
    ext_get_or 0 (take m (drop a z)) (replicate m 0) (l ∙ sym (length-replicate m 0)) (λ i y.
    let t : i < m = omega (arith, l) in
    get_or-take m (drop a z) i 0 t ∙ get_or-drop a z i 0 ∙ get_or-replicate n (a + i) 0 0 (omega arith) ∙ sym (get_or-replicate m i 0 0 t))

module _ (k : ℕ) (some : 1 ≤ k) (x : ℕ) where
  pub message_long : length (message k x) ≡ 16 * k
  unfolding message
  message_long = ap suc (length-replicate (16 * k - 1) 0) ∙ omega arith

  pub message_data : x < 256 → Data k (message k x)
  unfolding message
  message_data h = record { long = message_long; bytes = fit_cons x h (fit_replicate (16 * k - 1) (lit< tt)) }

  pub block_0 : sixteen (message k x) 0 ≡ x ∷ replicate 15 0
  unfolding message
  block_0 = ap (λ (l : List ℕ). x ∷ l) (zeros_part 15 (16 * k - 1) 0 (omega arith))

  -- every other block
  pub block_later : (j : ℕ) → 1 ≤ j → j < k → sixteen (message k x) j ≡ zero_block
  unfolding message
  block_later j h l =
      let e : 16 * j ≡ suc (16 * j - 1) = omega arith in
      ap (λ (n : ℕ). take 16 (drop n (x ∷ replicate (16 * k - 1) 0))) e ∙ zeros_part 16 (16 * k - 1) (16 * j - 1) (omega arith)

  pub message_taken : k ≤ 4096 → whole_blocks (length (message k x)) ≡ true
  message_taken most = ap whole_blocks message_long ∙ blocks_taken k some most

  pub message_blocks : blocks_in (message k x) ≡ k
  message_blocks = blocks_are k (message k x) message_long

-- the first byte of block b
abbrev pub first : List ℕ → ℕ → ℕ
first x b = get_or (sixteen x b) 0 0

-- block j of blocks that are all sixteen long
pub block_at : (w : Width) (f : ℕ → List ℕ → List ℕ) → ((b : ℕ) (x : List ℕ) → length (f b x) ≡ 16) → (k : ℕ) (i : List ℕ) (j : ℕ) → j < k
    → sixteen (each_block w f k i) j ≡ f (j % slots w) (sixteen i j)
unfolding each_block
block_at w f long k i j h =
    joined_at 16 (λ j. f (j % slots w) (sixteen i j)) k 0 (λ r y. long (r % slots w) (sixteen i r)) j h
    ∙ ap (λ (j : ℕ). f (j % slots w) (sixteen i j)) (zero-add j)

-- ---- sample keys and their schedules
pub record Sample : Type 0 where
  pub key : List ℕ
  pub keys : List (List ℕ)
  pub fits : Fit 8 key
  pub taken : Taken key
  pub expansion : key_expansion (key_words_of key) key ≡ keys

pub sample_key : (k : Sample) → Key k.key
sample_key k = record { taken = k.taken; bytes = k.fits }

-- the keys of appendices A.1 and A.3
pub words_a1 : key_words_of key_a1 ≡ 4
unfolding key_words_of key_size key_a1
words_a1 = refl

pub words_a3 : key_words_of key_a3 ≡ 8
unfolding key_words_of key_size key_a3
words_a3 = refl

pub fits_a1 : Fit 8 key_a1
unfolding key_a1
fits_a1 = fit_test 8 key_a1 tt

pub fits_a3 : Fit 8 key_a3
unfolding key_a3
fits_a3 = fit_test 8 key_a3 tt

pub not_zero_a1 : zero_key key_a1 ≡ false
unfolding zero_key key_a1
not_zero_a1 = refl

pub not_zero_a3 : zero_key key_a3 ≡ false
unfolding zero_key key_a3
not_zero_a3 = refl

unfoldable pub A1 : Sample
A1 = record {
  key = key_a1;
  keys = round_keys_a1;
  fits = fits_a1;
  taken = record { right_length = λ e. omega (arith, words_a1); not_zero = not_zero_a1 };
  expansion = ap (λ (n : ℕ). key_expansion n key_a1) words_a1 ∙ expansion_a1;
}

unfoldable pub A3 : Sample
A3 = record {
  key = key_a3;
  keys = round_keys_a3;
  fits = fits_a3;
  taken = record { right_length = λ e. omega (arith, words_a3); not_zero = not_zero_a3 };
  expansion = ap (λ (n : ℕ). key_expansion n key_a3) words_a3 ∙ expansion_a3;
}

-- a second key of sixteen bytes
pub words_ones : key_words_of (replicate 16 1) ≡ 4
unfolding key_words_of key_size
words_ones = refl

not_zero_ones : zero_key (replicate 16 1) ≡ false
unfolding zero_key
not_zero_ones = refl

pub ones : Sample
ones = record {
  key = replicate 16 1;
  keys = key_expansion (key_words_of (replicate 16 1)) (replicate 16 1);
  fits = fit_replicate 16 (lit< tt);
  taken = record { right_length = λ e. omega (arith, words_ones); not_zero = not_zero_ones };
  expansion = refl;
}

pub ones_key : ones.key ≡ replicate 16 1
unfolding ones
ones_key = refl

pub small : (w : Width) {y : ℕ} → y < 2 → y < 2 ^ bits w
small w32 h = omega arith
small w64 h = omega arith

module _ (w : Width) (k : Sample) where
  -- room for its schedule, all words y
  abbrev pub room : ℕ → List ℕ
  room y = replicate (schedule_words k.key) y

  pub can_expand : (y : ℕ) → y < 2 → Can (expand_call w) k.key (room y)
  can_expand y h = record {
    fits = record { key_bytes = k.fits; buffer_words = fit_replicate (schedule_words k.key) (small w h) };
    good = record { taken = k.taken; room = length-replicate (schedule_words k.key) y };
  }

  unfoldable pub words : List ℕ
  words = schedule_of w (key_words_of k.key) k.key

  pub expanded : Expands w k.key words
  unfolding words
  expanded = can_make (expand_call w) (can_expand 0 (lit< tt)) refl

  scheduled : rounds_of words ≡ 0 → ⊥
  scheduled e = omega (arith, expand_rounds expanded, e)

  words_fit : Fit (bits w) words
  unfolding words
  words_fit = schedule_fits w (key_words_of k.key) k.key

  -- in every slot it has the appendix's round keys
  pub keys_are : (b : ℕ) → b < slots w → keys_in w words b ≡ k.keys
  keys_are b h = expand_reads expanded b h ∙ k.expansion

  pub words_schedule : Schedule w words
  words_schedule = record { right_length = scheduled; words = words_fit }

  pub can_check : Can (check_call w) words (replicate 3 0)
  can_check = record {
    fits = record { schedule_words_fit = words_fit; buffer_bytes = fit_test 8 (replicate 3 0) tt };
    good = record { scheduled = scheduled; three = refl };
  }

-- ---- calls on k blocks, with a buffer of as many bytes y
abbrev pub on : ℕ → (C : Call) → (C.Args → List ℕ) → Call
on k C input = among C (λ a. length (input a) ≡ 16 * k)

abbrev pub crypt_args : ℕ → List ℕ → ℕ → CryptArgs
crypt_args k s x = record { schedule = s; input = message k x }

abbrev pub door_args : ℕ → Sample → ℕ → DoorArgs
door_args k t x = record { key = t.key; input = message k x }

module _ (k : ℕ) (some : 1 ≤ k) (most : k ≤ 4096) where
  room_for : (x y : ℕ) → TakenBlocks (message k x) (replicate (16 * k) y)
  room_for x y = record { whole = message_taken k some x most; room = length-replicate (16 * k) y ∙ sym (message_long k some x) }

  pub can_crypt : (c : List (List ℕ) → List ℕ → List ℕ) (w : Width) {s : List ℕ} → Schedule w s → (x y : ℕ) → x < 256 → y < 256
      → Can (on k (crypt_call c w) (λ a. a.input)) (crypt_args k s x) (replicate (16 * k) y)
  can_crypt c w p x y h l = record {
    fits = (
      record { schedule_words_fit = p.words; input_bytes = (message_data k some x h).bytes; buffer_bytes = fit_replicate (16 * k) l },
      message_long k some x,
    );
    good = record { scheduled = p.right_length; blocks = room_for x y };
  }

  pub can_door : (t : Sample) (d x y : ℕ) → d ≤ 1 → x < 256 → y < 256 → Can (on k (door_call d) (λ a. a.input)) (door_args k t x) (replicate (16 * k) y)
  can_door t d x y le h l = record {
    fits = (record { key_bytes = t.fits; input_bytes = (message_data k some x h).bytes; buffer_bytes = fit_replicate (16 * k) l }, message_long k some x);
    good = record { taken = t.taken; blocks = room_for x y; direction = le };
  }

-- ---- a schedule whose slots differ: slot 0 has a round key of zeros and ten of bytes 63, and slot 1 another first round key
unfoldable pub two_slots : List ℕ
two_slots = 2 ∷ replicate 87 0

unfoldable pub slot0_keys : List (List ℕ)
slot0_keys = zero_block ∷ replicate 10 (replicate 16 0x63)

unfoldable pub slot1_keys : List (List ℕ)
slot1_keys = one_block ∷ replicate 10 (replicate 16 0x63)

pub two_slots_schedule : (w : Width) → Schedule w two_slots
unfolding two_slots rounds_of schedule_size
two_slots_schedule w32 = record { right_length = λ e. omega (arith, e); words = fit_cons 2 (lit< tt) (fit_replicate 87 (lit< tt)) }
two_slots_schedule w64 = record { right_length = λ e. omega (arith, e); words = fit_cons 2 (lit< tt) (fit_replicate 87 (lit< tt)) }

pub slot_0_reads : (w : Width) → keys_in w two_slots 0 ≡ slot0_keys
unfolding two_slots slot0_keys rounds_of schedule_size keys_of reading read_key stored words_at slot add63 rows_shifted shift_rows
slot_0_reads w32 = refl
slot_0_reads w64 = refl

pub slot_1_reads : (w : Width) → keys_in w two_slots 1 ≡ slot1_keys
unfolding two_slots slot1_keys rounds_of schedule_size keys_of reading read_key stored words_at slot add63 rows_shifted shift_rows
slot_1_reads w32 = refl
slot_1_reads w64 = refl

-- ---- what they leave, computed: the first byte of a block
unfoldable pub first_round : List (List ℕ) → List ℕ → List ℕ
first_round ks x = add_round_key (mix_columns (shift_rows (sub_bytes (add_round_key x (get_or ks 0 []))))) (get_or ks 1 [])

-- the first round that InvCipher does: AddRoundKey with the last key, then InvShiftRows, InvSubBytes, AddRoundKey with the key before, InvMixColumns
unfoldable pub first_unround : List (List ℕ) → List ℕ → List ℕ
first_unround ks x =
    inv_mix_columns (add_round_key (inv_sub_bytes (inv_shift_rows (add_round_key x (get_or ks (length ks - 1) [])))) (get_or ks (length ks - 2) []))

pub first_round_length : (ks : List (List ℕ)) (x : List ℕ) → length (first_round ks x) ≡ 16
unfolding first_round add_round_key
first_round_length ks x = refl

pub first_unround_length : (ks : List (List ℕ)) (x : List ℕ) → length (first_unround ks x) ≡ 16
unfolding first_unround inv_mix_columns
first_unround_length ks x = refl

pub cipher_one : get_or (cipher round_keys_a1 one_block) 0 0 ≡ 0x7e
unfolding round_keys_a1 quick_cipher
cipher_one = ap (λ (l : List ℕ). get_or l 0 0) (cipher_quick round_keys_a1 one_block)

pub cipher_zero : get_or (cipher round_keys_a1 zero_block) 0 0 ≡ 0x7d
unfolding round_keys_a1 quick_cipher
cipher_zero = ap (λ (l : List ℕ). get_or l 0 0) (cipher_quick round_keys_a1 zero_block)

pub inv_cipher_one : get_or (inv_cipher round_keys_a1 one_block) 0 0 ≡ 0x49
unfolding round_keys_a1 quick_inv_cipher
inv_cipher_one = ap (λ (l : List ℕ). get_or l 0 0) (inv_cipher_quick round_keys_a1 one_block)

pub inv_cipher_zero : get_or (inv_cipher round_keys_a1 zero_block) 0 0 ≡ 0xad
unfolding round_keys_a1 quick_inv_cipher
inv_cipher_zero = ap (λ (l : List ℕ). get_or l 0 0) (inv_cipher_quick round_keys_a1 zero_block)

pub cipher_slot_0 : get_or (cipher slot0_keys zero_block) 0 0 ≡ 0x00
unfolding slot0_keys quick_cipher
cipher_slot_0 = ap (λ (l : List ℕ). get_or l 0 0) (cipher_quick slot0_keys zero_block)

pub cipher_slot_1 : get_or (cipher slot1_keys zero_block) 0 0 ≡ 0xb4
unfolding slot1_keys quick_cipher
cipher_slot_1 = ap (λ (l : List ℕ). get_or l 0 0) (cipher_quick slot1_keys zero_block)

pub inv_cipher_slot_0 : get_or (inv_cipher slot0_keys zero_block) 0 0 ≡ 0x00
unfolding slot0_keys quick_inv_cipher
inv_cipher_slot_0 = ap (λ (l : List ℕ). get_or l 0 0) (inv_cipher_quick slot0_keys zero_block)

pub inv_cipher_slot_1 : get_or (inv_cipher slot1_keys zero_block) 0 0 ≡ 0x01
unfolding slot1_keys quick_inv_cipher
inv_cipher_slot_1 = ap (λ (l : List ℕ). get_or l 0 0) (inv_cipher_quick slot1_keys zero_block)

pub round_one : get_or (first_round round_keys_a1 one_block) 0 0 ≡ 0xf4
unfolding first_round round_keys_a1 add_round_key mix_columns shift_rows sub_bytes sbox affine inverse product xtime
round_one = refl

pub unround_one : get_or (first_unround round_keys_a1 one_block) 0 0 ≡ 0xbb
unfolding first_unround round_keys_a1 add_round_key inv_mix_columns inv_shift_rows inv_sub_bytes inv_sbox inv_affine inverse product xtime
unround_one = refl

-- a CMAC of zeros by a cipher that stops after its first round
pub round_tag : get_or (cmac_of_block (first_round round_keys_a1) zero_block) 0 0 ≡ 0x52
unfolding first_round round_keys_a1 add_round_key mix_columns shift_rows sub_bytes sbox affine inverse product xtime
    cmac_of_block subkey1 double shift_left xors r128
round_tag = refl
