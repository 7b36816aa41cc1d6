-- PROGRAMS THAT ARE WRONG CANNOT MEET THE PROMISES: one that refuses everything, one that writes the same bytes each time, one that copies its
-- input, one that writes nothing and answers 0, one that does the first round and skips the rest, one that fills every slot from slot 0; of each
-- call, and of the door in both directions. Of the calls on blocks, for every number of blocks, and with them one that does the first batch only, one that
-- drops the part batch, and one that has slot 0's round keys for every block. Each is refuted on a call that can be made (Witness.antt). And the promises
-- of before requests c and d, and, at the end, one that takes a key of zeros. docs/PROMISES.md has the tables. Assumes nothing.
use mathlib.Core.Path.{◌≡◌, refl, sym, ◌∙◌, ap, ap₂}
use mathlib.Core.Bool.{not, ◌||◌}
use mathlib.Core.List.{List, [], ◌∷◌, ◌++◌}
use Prim.Native.Nat.{ℕ, zero, suc, ◌+◌, ◌-◌, ◌*◌, ◌/◌, ◌%◌, ◌≤◌, ◌<◌}
use native.Mathlib.Nat.{mod-lt, mod-eq_of_lt, div-add-mod}
use native.Mathlib.Omega.{arith}
use lib.Dec.{eqb, lit<, lit≤}
use lib.ListN.{length, get_or, take, drop, replicate, get_or-replicate, length-replicate}
use lib.Seq.{get_or-drop, get_or-append-add, get_or-take, length-take-le, drop_at}
use Rattle.fips197.specs.Bytes.{Fit}
use Rattle.fips197.specs.Aes.{sixteen, shift_rows, cipher, inv_cipher}
use Rattle.appendices.proofs.Examples.{key_a1, round_keys_a1, key_a3}
use Rattle.appendices.proofs.Cmac.{aes, zeros_a1, zeros_a3}
use Rattle.sp800_38b.specs.Cmac.{zeros, cmac_of_block}
use Rattle.lanes.specs.Layout.{Width, w32, w64, bits, slots, slot}
use Rattle.lanes.specs.Sizes.{key_size, schedule_size}
use Rattle.lanes.specs.Schedule.{words_at, stored, add63, rows_shifted, read_key, reading, schedule_of, each_block, blocks_in}
use Rattle.lanes.proofs.EachBlock.{some_slot, block_of}
use Rattle.lanes.proofs.Cuts.{each_length}
use Rattle.schedule.proofs.Reading.{schedule_length, schedule_one}
use Rattle.cipher.proofs.Batches.{Way, forth, backwards, crypted_long}
use Rattle.outcome.specs.Outcome.{Outcome, answers, refuse}
use Rattle.outcome.proofs.Laws.{same_number, same_left, is_not, differs, stop, pass}
use Rattle.calls.specs.Calls.{key_words_of, zero_key, schedule_words, rounds_of, keys_of, keys_in, whole_blocks, check_value, directed, door_outcome}
use Rattle.calls.proofs.Directions.{one_of}
use Rattle.calls.proofs.ZeroKey.{no_zeros, key_passes}
use Rattle.theorems.proofs.Call.{Call, Can, Program, MeetsAll, Refuted, can_make, refuses_one, refuses_everything, writes_another}
use Rattle.theorems.proofs.Call.{writes_the_same, answers_another, writes_by_buffer, takes_too_much}
use Rattle.theorems.proofs.Calls.{CryptArgs, DoorArgs, expand_call, crypt_call, check_call, door_call, crypt_result, door_result}
use Rattle.theorems.proofs.Theorems.{Schedule, Crypts, Doors, crypt_is, check_under_key, door_is, door_output, keys_of_key, round_keys}
use Rattle.theorems.proofs.Witness.{zero_block, one_block, message, message_long, message_data, message_blocks, block_0, block_later, first, block_at}
use Rattle.theorems.proofs.Witness.{Sample, A1, A3, ones, words_a1, words_a3, words_ones, ones_key, room, can_expand, words, expanded, keys_are}
use Rattle.theorems.proofs.Witness.{words_schedule, on, crypt_args, can_crypt, can_check, door_args, can_door, first_round, first_unround}
use Rattle.theorems.proofs.Witness.{first_round_length, first_unround_length, cipher_one, cipher_zero, inv_cipher_one, inv_cipher_zero, round_one}
use Rattle.theorems.proofs.Witness.{unround_one, round_tag, two_slots, slot0_keys, slot1_keys, two_slots_schedule, slot_0_reads, slot_1_reads}
use Rattle.theorems.proofs.Witness.{cipher_slot_0, cipher_slot_1, inv_cipher_slot_0, inv_cipher_slot_1, sample_key, fit_replicate, small}

-- whatever numbers a program refuses with
abbrev pub RefusesAll : Call → Type 0
RefusesAll C = (number : C.Args → List ℕ → ℕ) → ((a : C.Args) (o : List ℕ) → number a o ≡ 0 → ⊥) → Refuted C (λ a o. answers (number a o) o)

-- ---- a call on blocks: the programs that are wrong on k blocks, whatever they do on others
-- the first batch done, and the rest copied
abbrev pub first_batch_only : Width → (input result : List ℕ) → List ℕ
first_batch_only w i r = take (16 * slots w) r ++ drop (16 * slots w) i

-- the part batch dropped: what the buffer held there stays
abbrev pub full_bytes : Width → List ℕ → ℕ
full_bytes w i = 16 * (slots w * (blocks_in i / slots w))

abbrev pub part_dropped : Width → (input result buffer : List ℕ) → List ℕ
part_dropped w i r o = take (full_bytes w i) r ++ drop (full_bytes w i) o

-- of a call C on k blocks, `input` being its input, `step` the first round of every block and the rest skipped, `slot0` what slot 0 should hold everywhere
pub record WrongOn (k : ℕ) (w : Width) (C : Call) (input step slot0 : C.Args → List ℕ) : Type 0 where
  pub refuses_all : RefusesAll C
  pub writes_the_same : (same : List ℕ) → Refuted C (λ a o. answers 0 same)
  pub copies : Refuted C (λ a o. answers 0 (input a))
  pub writes_nothing : Refuted C (λ a o. answers 0 o)
  pub first_round_only_is_wrong : Refuted C (λ a o. answers 0 (step a))
  pub fills_from_slot_0 : 2 ≤ k → Refuted C (λ a o. answers 0 (slot0 a))
  pub first_batch_only_is_wrong : slots w < k → Refuted C (λ a o. answers 0 (first_batch_only w (input a) (C.result a)))
  pub drops_part : (k % slots w ≡ 0 → ⊥) → Refuted C (λ a o. answers 0 (part_dropped w (input a) (C.result a) o))

not_full : (a r : ℕ) {k : ℕ} → a + r ≡ k → (r ≡ 0 → ⊥) → a < k
not_full a zero e h = absurd (h refl)
not_full a (suc r) e h = omega (arith, e)

slot_1 : (w : Width) → 1 < slots w
slot_1 w32 = lit< tt
slot_1 w64 = lit< tt

-- two buffers of n elements, and the front of each written alike
fronts : (n m : ℕ) → m < n → (g : List ℕ) → length g ≡ m → g ++ drop m (replicate n 0) ≡ g ++ drop m (replicate n 1) → ⊥
fronts n m h g e p =
    let last : (y : ℕ) → get_or (g ++ drop m (replicate n y)) (length g + (n - 1 - m)) 0 ≡ y = λ y.
    get_or-append-add g (drop m (replicate n y)) (n - 1 - m) 0
    ∙ get_or-drop m (replicate n y) (n - 1 - m) 0
    ∙ get_or-replicate n (m + (n - 1 - m)) y 0 (omega arith) in
    let z : ◌≡◌ {A = ℕ} 0 1 = sym (last 0) ∙ ap (λ (l : List ℕ). get_or l (length g + (n - 1 - m)) 0) p ∙ last 1 in
    omega arith

-- ---- the direction of a call: what it does to a block, its first round, and the first bytes of those
record Direction : Type 0 where
  way : Way
  v : ℕ
  u : ℕ
  z : ℕ
  on_one : get_or (way.go A1.keys one_block) 0 0 ≡ v
  on_zero : get_or (way.go A1.keys zero_block) 0 0 ≡ u
  first_step : List (List ℕ) → List ℕ → List ℕ
  step_length : (ks : List (List ℕ)) (x : List ℕ) → length (first_step ks x) ≡ 16
  step_one : get_or (first_step A1.keys one_block) 0 0 ≡ z
  apart : v ≡ u → ⊥
  not_0 : v ≡ 0 → ⊥
  not_1 : v ≡ 1 → ⊥
  u_not_0 : u ≡ 0 → ⊥
  not_step : z ≡ v → ⊥
  -- and on zeros under the round keys of two slots that differ
  p : ℕ
  q : ℕ
  by_slot_0 : get_or (way.go slot0_keys zero_block) 0 0 ≡ p
  by_slot_1 : get_or (way.go slot1_keys zero_block) 0 0 ≡ q
  slots_differ : p ≡ q → ⊥

encryption : Direction
unfolding A1
encryption = record {
  way = forth;
  v = 0x7e;
  u = 0x7d;
  z = 0xf4;
  on_one = cipher_one;
  on_zero = cipher_zero;
  first_step = first_round;
  step_length = first_round_length;
  step_one = round_one;
  apart = λ e. omega arith;
  not_0 = λ e. omega arith;
  not_1 = λ e. omega arith;
  u_not_0 = λ e. omega arith;
  not_step = λ e. omega arith;
  p = 0x00;
  q = 0xb4;
  by_slot_0 = cipher_slot_0;
  by_slot_1 = cipher_slot_1;
  slots_differ = λ e. omega arith;
}

decryption : Direction
unfolding A1
decryption = record {
  way = backwards;
  v = 0x49;
  u = 0xad;
  z = 0xbb;
  on_one = inv_cipher_one;
  on_zero = inv_cipher_zero;
  first_step = first_unround;
  step_length = first_unround_length;
  step_one = unround_one;
  apart = λ e. omega arith;
  not_0 = λ e. omega arith;
  not_1 = λ e. omega arith;
  u_not_0 = λ e. omega arith;
  not_step = λ e. omega arith;
  p = 0x00;
  q = 0x01;
  by_slot_0 = inv_cipher_slot_0;
  by_slot_1 = inv_cipher_slot_1;
  slots_differ = λ e. omega arith;
}

-- ---- why: such a call does what its direction says to each of the k test blocks, under the key of appendix A.1
record BlockCall (d : Direction) (k : ℕ) (w : Width) (C : Call) (input step slot0 : C.Args → List ℕ) : Type 0 where
  some : 1 ≤ k
  args : ℕ → C.Args
  can : (x y : ℕ) → x < 256 → y < 256 → Can C (args x) (replicate (16 * k) y)
  given : (x : ℕ) → input (args x) ≡ message k x
  long : (x : ℕ) → x < 256 → length (C.result (args x)) ≡ 16 * k
  each : (x b : ℕ) → x < 256 → b < k → sixteen (C.result (args x)) b ≡ d.way.go A1.keys (sixteen (message k x) b)
  stepped : sixteen (step (args 1)) 0 ≡ d.first_step A1.keys one_block
  filled : 2 ≤ k → sixteen (slot0 (args 1)) 1 ≡ d.way.go A1.keys one_block

module _ {d : Direction} {k : ℕ} {w : Width} {C : Call} {input step slot0 : C.Args → List ℕ} (b : BlockCall d k w C input step slot0) where
  can_1 : Can C (b.args 1) (replicate (16 * k) 0)
  can_1 = b.can 1 0 (lit< tt) (lit< tt)

  -- what is left begins with v for the test blocks, and with u for zeros; every later block begins with u
  begins : first (C.result (b.args 1)) 0 ≡ d.v
  begins = ap (λ (l : List ℕ). get_or l 0 0) (b.each 1 0 (lit< tt) b.some ∙ ap (d.way.go A1.keys) (block_0 k b.some 1)) ∙ d.on_one

  begins_0 : first (C.result (b.args 0)) 0 ≡ d.u
  begins_0 = ap (λ (l : List ℕ). get_or l 0 0) (b.each 0 0 (lit< tt) b.some ∙ ap (d.way.go A1.keys) (block_0 k b.some 0)) ∙ d.on_zero

  later : (j : ℕ) → 1 ≤ j → j < k → first (C.result (b.args 1)) j ≡ d.u
  later j h l = ap (λ (l : List ℕ). get_or l 0 0) (b.each 1 j (lit< tt) l ∙ ap (d.way.go A1.keys) (block_later k b.some 1 j h l)) ∙ d.on_zero

  -- where a program writes g, block j of which does not begin as it should
  another : (g : C.Args → List ℕ → List ℕ) (j : ℕ) {t r : ℕ} → first (g (b.args 1) (replicate (16 * k) 0)) j ≡ t
      → first (C.result (b.args 1)) j ≡ r → (t ≡ r → ⊥) → Refuted C (λ a o. answers 0 (g a o))
  another g j is should ne = writes_another C can_1 g (λ e. ne (sym is ∙ ap (λ (l : List ℕ). first l j) e ∙ should))

  wrong_on : WrongOn k w C input step slot0
  wrong_on = record {
    refuses_all = refuses_everything C can_1;
    writes_the_same = writes_the_same C can_1 (b.can 0 0 (lit< tt) (lit< tt)) (λ e. d.apart (sym begins ∙ ap (λ (l : List ℕ). first l 0) e ∙ begins_0));
    copies = another (λ a o. input a) 0 (ap (λ (l : List ℕ). first l 0) (b.given 1) ∙ ap (λ (l : List ℕ). get_or l 0 0) (block_0 k b.some 1)) begins
        (λ e. d.not_1 (sym e));
    writes_nothing = another (λ a o. o) 0 (get_or-take 16 (replicate (16 * k) 0) 0 0 (lit< tt) ∙ get_or-replicate (16 * k) 0 0 0 (omega (arith, b.some))) begins
        (λ e. d.not_0 (sym e));
    first_round_only_is_wrong = another (λ a o. step a) 0 (ap (λ (l : List ℕ). get_or l 0 0) b.stepped ∙ d.step_one) begins d.not_step;
    fills_from_slot_0 = λ two. another (λ a o. slot0 a) 1 (ap (λ (l : List ℕ). get_or l 0 0) (b.filled two) ∙ d.on_one) (later 1 (lit≤ tt) two) d.apart;
    first_batch_only_is_wrong = first_only;
    drops_part = drops;
  }
    where
      first_only : slots w < k → Refuted C (λ a o. answers 0 (first_batch_only w (input a) (C.result a)))
      first_only more =
          let n : ℕ = 16 * slots w in
          let r : List ℕ = C.result (b.args 1) in
          let l : length (take n r) ≡ n = length-take-le n r (omega (arith, b.long 1 (lit< tt))) in
          another (λ a o. first_batch_only w (input a) (C.result a)) (slots w)
          (ap (λ (l : List ℕ). get_or (take 16 l) 0 0) (drop_at (take n r) (drop n (input (b.args 1))) n l)
          ∙ ap (λ (l : List ℕ). first l (slots w)) (b.given 1)
          ∙ ap (λ (l : List ℕ). get_or l 0 0) (block_later k b.some 1 (slots w) (some_slot w) more))
          (later (slots w) (some_slot w) more) (λ e. d.u_not_0 (sym e))

      drops : (k % slots w ≡ 0 → ⊥) → Refuted C (λ a o. answers 0 (part_dropped w (input a) (C.result a) o))
      drops part =
          let n : ℕ = full_bytes w (input (b.args 1)) in
          let count : blocks_in (input (b.args 1)) ≡ k = ap blocks_in (b.given 1) ∙ message_blocks k b.some 1 in
          let e : n ≡ 16 * (slots w * (k / slots w)) = ap (λ (m : ℕ). 16 * (slots w * (m / slots w))) count in
          let less : slots w * (k / slots w) < k = not_full (slots w * (k / slots w)) (k % slots w) (div-add-mod k (slots w)) part in
          let h : n < 16 * k = omega (arith, e, less) in
          writes_by_buffer C can_1 (b.can 1 1 (lit< tt) (lit< tt)) (λ a o. part_dropped w (input a) (C.result a) o)
          (λ p. fronts (16 * k) n h (take n (C.result (b.args 1))) (length-take-le n (C.result (b.args 1)) (omega (arith, h, b.long 1 (lit< tt)))) p)

mod_0 : (w : Width) → 0 % slots w ≡ 0
mod_0 w = mod-eq_of_lt (some_slot w)

-- ---- encrypt and decrypt, at each width, on k blocks
abbrev pub crypt_on : (List (List ℕ) → List ℕ → List ℕ) → ℕ → Width → Call
crypt_on c k w = on k (crypt_call c w) (λ a. a.input)

-- the first round of every block, and the rest skipped
abbrev pub first_round_only : (List (List ℕ) → List ℕ → List ℕ) → Width → CryptArgs → List ℕ
first_round_only step w a = each_block w (λ b. step (keys_in w a.schedule b)) (blocks_in a.input) a.input

-- what slot 0 should hold, in every slot
abbrev pub slot0_everywhere : (List (List ℕ) → List ℕ → List ℕ) → Width → CryptArgs → List ℕ
slot0_everywhere c w a = each_block w (λ b x. c (keys_in w a.schedule 0) (sixteen a.input 0)) (blocks_in a.input) a.input

-- every block by the round keys of slot 0
abbrev pub slot0_keyed : (List (List ℕ) → List ℕ → List ℕ) → Width → CryptArgs → List ℕ
slot0_keyed c w a = each_block w (λ b. c (keys_in w a.schedule 0)) (blocks_in a.input) a.input

-- the promise of before: one full batch, and every other length refused
abbrev pub crypt_before : (List (List ℕ) → List ℕ → List ℕ) → Width → CryptArgs → List ℕ → Outcome (List ℕ)
crypt_before c w a o =
    refuse (eqb (rounds_of a.schedule) 0) 2 o
    (refuse (not (eqb (length a.input) (16 * slots w))) 3 o
    (refuse (not (eqb (length o) (16 * slots w))) 4 o
    (answers 0 (crypt_result c w a))))

module _ (d : Direction) (w : Width) (k : ℕ) (some : 1 ≤ k) (most : k ≤ 4096) where
  abbrev go : List (List ℕ) → List ℕ → List ℕ
  go = d.way.go

  -- every block of an answer under a schedule has sixteen bytes
  long_under : (s : List ℕ) (b : ℕ) (x : List ℕ) → length (go (keys_in w s b) x) ≡ 16
  long_under s b x = crypted_long d.way w (rounds_of s) (keys_of s) b x

  -- block j of what a program makes of k blocks under a schedule, by f
  made : (f : ℕ → List ℕ → List ℕ) → ((b : ℕ) (x : List ℕ) → length (f b x) ≡ 16) → (x j : ℕ) → j < k
      → sixteen (each_block w f (blocks_in (message k x)) (message k x)) j ≡ f (j % slots w) (sixteen (message k x) j)
  made f long x j h =
      ap (λ (n : ℕ). sixteen (each_block w f n (message k x)) j) (message_blocks k some x) ∙ block_at w f long k (message k x) j h

  crypts : {s : List ℕ} → Schedule w s → (x : ℕ) → x < 256 → Crypts d.way w s (message k x) (crypt_result go w (crypt_args k s x))
  crypts p x h = can_make (crypt_call go w) (unrestricted (can_crypt k some most go w p x 0 h (lit< tt))) refl
    where
      unrestricted : {a : CryptArgs} {o : List ℕ} → Can (crypt_on go k w) a o → Can (crypt_call go w) a o
      unrestricted can = record { fits = can.fits.0; good = can.good }

  crypt_blocks : BlockCall d k w (crypt_on go k w) (λ a. a.input) (first_round_only d.first_step w) (slot0_everywhere go w)
  crypt_blocks = record {
    some = some;
    args = crypt_args k (words w A1);
    can = can_crypt k some most go w (words_schedule w A1);
    given = λ x. refl;
    long = λ x h. crypted_length x h;
    each = each;
    stepped =
        made (λ b. d.first_step (keys_in w (words w A1) b)) (λ b x. d.step_length _ x) 1 0 some
        ∙ ap₂ d.first_step (ap (keys_in w (words w A1)) (mod_0 w) ∙ keys_are w A1 0 (some_slot w)) (block_0 k some 1);
    filled = λ two.
        made (λ b x. go (keys_in w (words w A1) 0) (sixteen (message k 1) 0)) (λ b x. long_under (words w A1) 0 _) 1 1 two
        ∙ ap₂ go (keys_are w A1 0 (some_slot w)) (block_0 k some 1);
  }
    where
      each : (x b : ℕ) → x < 256 → b < k
          → sixteen (crypt_result go w (crypt_args k (words w A1) x)) b ≡ go A1.keys (sixteen (message k x) b)
      each x b h y =
          crypt_is d.way (crypts (words_schedule w A1) x h) b (rw (message_blocks k some x) y)
          ∙ ap (λ (ks : List (List ℕ)). go ks (sixteen (message k x) b)) (keys_are w A1 (b % slots w) (mod-lt b (some_slot w)))

      crypted_length : (x : ℕ) → x < 256 → length (crypt_result go w (crypt_args k (words w A1) x)) ≡ 16 * k
      crypted_length x h =
          each_length w (λ b. go (keys_in w (words w A1) b)) (long_under (words w A1)) (blocks_in (message k x)) (message k x)
          ∙ ap (λ (n : ℕ). 16 * n) (message_blocks k some x)

  crypt_wrong : WrongOn k w (crypt_on go k w) (λ a. a.input) (first_round_only d.first_step w) (slot0_everywhere go w)
  crypt_wrong = wrong_on crypt_blocks

  -- under a schedule whose slots differ, slot 0's round keys for every block
  crypt_slot_0_keyed : 2 ≤ k → Refuted (crypt_on go k w) (λ a o. answers 0 (slot0_keyed go w a))
  crypt_slot_0_keyed two =
      writes_another (crypt_on go k w) (can_crypt k some most go w (two_slots_schedule w) 0 0 (lit< tt) (lit< tt)) (λ a o. slot0_keyed go w a)
      (λ e. d.slots_differ (sym ours ∙ ap (λ (l : List ℕ). first l 1) e ∙ theirs))
    where
      zero_1 : sixteen (message k 0) 1 ≡ zero_block
      zero_1 = block_later k some 0 1 (lit≤ tt) two

      ours : first (slot0_keyed go w (crypt_args k two_slots 0)) 1 ≡ d.p
      ours =
          ap (λ (l : List ℕ). get_or l 0 0)
          (made (λ b. go (keys_in w two_slots 0)) (λ b x. long_under two_slots 0 x) 0 1 two
          ∙ ap₂ go (slot_0_reads w) zero_1) ∙ d.by_slot_0

      theirs : first (crypt_result go w (crypt_args k two_slots 0)) 1 ≡ d.q
      theirs =
          ap (λ (l : List ℕ). get_or l 0 0)
          (crypt_is d.way (crypts (two_slots_schedule w) 0 (lit< tt)) 1 (rw (message_blocks k some 0) two)
          ∙ ap₂ go (ap (keys_in w two_slots) (mod-eq_of_lt (slot_1 w)) ∙ slot_1_reads w) zero_1) ∙ d.by_slot_1

  -- and the promise of before, on every number of blocks that it refused
  crypt_as_before : (k ≡ slots w → ⊥) → Refuted (crypt_on go k w) (crypt_before go w)
  crypt_as_before other =
      let can = can_crypt k some most go w (words_schedule w A1) 0 0 (lit< tt) (lit< tt) in
      let ne : length (message k 0) ≡ 16 * slots w → ⊥ = λ e. other (omega (arith, sym (message_long k some 0) ∙ e)) in
      let o : List ℕ = replicate (16 * k) 0 in
      refuses_one (crypt_on go k w) can (crypt_before go w) (sym (pass 2 o (is_not can.good.scheduled) (stop 3 o _ (differs ne)))) (λ e. omega arith)

-- the number of blocks and the width; each is refuted on every number of blocks that it is wrong on
module _ (w : Width) (k : ℕ) (some : 1 ≤ k) (most : k ≤ 4096) where
  pub encrypt_wrong : WrongOn k w (crypt_on cipher k w) (λ a. a.input) (first_round_only first_round w) (slot0_everywhere cipher w)
  unfolding encryption
  encrypt_wrong = crypt_wrong encryption w k some most

  pub decrypt_wrong : WrongOn k w (crypt_on inv_cipher k w) (λ a. a.input) (first_round_only first_unround w) (slot0_everywhere inv_cipher w)
  unfolding decryption
  decrypt_wrong = crypt_wrong decryption w k some most

  pub encrypt_slot_0_keyed : 2 ≤ k → Refuted (crypt_on cipher k w) (λ a o. answers 0 (slot0_keyed cipher w a))
  unfolding encryption
  encrypt_slot_0_keyed = crypt_slot_0_keyed encryption w k some most

  pub decrypt_slot_0_keyed : 2 ≤ k → Refuted (crypt_on inv_cipher k w) (λ a o. answers 0 (slot0_keyed inv_cipher w a))
  unfolding decryption
  decrypt_slot_0_keyed = crypt_slot_0_keyed decryption w k some most

  pub encrypt_as_before : (k ≡ slots w → ⊥) → Refuted (crypt_on cipher k w) (crypt_before cipher w)
  unfolding encryption
  encrypt_as_before = crypt_as_before encryption w k some most

  pub decrypt_as_before : (k ≡ slots w → ⊥) → Refuted (crypt_on inv_cipher k w) (crypt_before inv_cipher w)
  unfolding decryption
  decrypt_as_before = crypt_as_before decryption w k some most

-- ---- the door, in each direction, on k blocks
abbrev pub door_on : ℕ → ℕ → Call
door_on k d = on k (door_call d) (λ a. a.input)

abbrev pub door_first_round_only : (List (List ℕ) → List ℕ → List ℕ) → DoorArgs → List ℕ
door_first_round_only step a = each_block w64 (λ b. step (round_keys a.key)) (blocks_in a.input) a.input

-- the promise of before: four blocks, and every other length refused
abbrev pub door_before : ℕ → DoorArgs → List ℕ → Outcome (List ℕ)
door_before d a o =
    refuse (eqb (key_words_of a.key) 0) 1 o
    (refuse (zero_key a.key) 6 o
    (refuse (not (eqb (length a.input) 64)) 3 o
    (refuse (not (eqb (length o) 64)) 4 o
    (refuse (not (eqb d 0 || eqb d 1)) 5 o (answers 0 (door_result d a))))))

abbrev pub door_slot0_everywhere : (List (List ℕ) → List ℕ → List ℕ) → DoorArgs → List ℕ
door_slot0_everywhere c a = each_block w64 (λ b x. c (round_keys a.key) (sixteen a.input 0)) (blocks_in a.input) a.input

module _ (n : ℕ) (le : n ≤ 1) (d : Direction) (is : directed n ≡ d.way.go) (k : ℕ) (some : 1 ≤ k) (most : k ≤ 4096) where
  -- what the door does to a block
  abbrev under : List ℕ → List ℕ
  under = d.way.go (round_keys A1.key)

  door_made : (x : ℕ) → x < 256 → Doors n A1.key (message k x) (door_result n (door_args k A1 x))
  door_made x h =
      let can = can_door k some most A1 n x 0 le h (lit< tt) in
      can_make (door_call n) (record { fits = can.fits.0; good = can.good }) refl

  door_blocks : BlockCall d k w64 (door_on k n) (λ a. a.input) (door_first_round_only d.first_step) (door_slot0_everywhere d.way.go)
  door_blocks = record {
    some = some;
    args = door_args k A1;
    can = λ x y h l. can_door k some most A1 n x y le h l;
    given = λ x. refl;
    long = λ x h. (door_output n d.way is (door_made x h)).long ∙ ap (λ (m : ℕ). 16 * m) (message_blocks k some x);
    each = each;
    stepped =
        made d w64 k some most (λ b. d.first_step (round_keys A1.key)) (λ b x. d.step_length _ x) 1 0 some
        ∙ ap₂ d.first_step A1.expansion (block_0 k some 1);
    filled = λ two.
        made d w64 k some most (λ b x. under (sixteen (message k 1) 0)) (λ b x. long) 1 1 two ∙ ap₂ d.way.go A1.expansion (block_0 k some 1);
  }
    where
      each : (x b : ℕ) → x < 256 → b < k
          → sixteen (door_result n (door_args k A1 x)) b ≡ d.way.go A1.keys (sixteen (message k x) b)
      each x b h y =
          door_is n d.way is (door_made x h) b (rw (message_blocks k some x) y)
          ∙ ap (λ (ks : List (List ℕ)). d.way.go ks (sixteen (message k x) b)) A1.expansion

      long : length (under (sixteen (message k 1) 0)) ≡ 16
      long = (d.way.go_block (keys_of_key (sample_key A1)) (block_of (message_data k some 1 (lit< tt)) 0 some)).long

  door_wrong : WrongOn k w64 (door_on k n) (λ a. a.input) (door_first_round_only d.first_step) (door_slot0_everywhere d.way.go)
  door_wrong = wrong_on door_blocks

module _ (k : ℕ) (some : 1 ≤ k) (most : k ≤ 4096) where
  pub door_0_wrong : WrongOn k w64 (door_on k 0) (λ a. a.input) (door_first_round_only first_round) (door_slot0_everywhere cipher)
  unfolding encryption
  door_0_wrong = door_wrong 0 (lit≤ tt) encryption refl k some most

  pub door_1_wrong : WrongOn k w64 (door_on k 1) (λ a. a.input) (door_first_round_only first_unround) (door_slot0_everywhere inv_cipher)
  unfolding decryption
  door_1_wrong = door_wrong 1 (lit≤ tt) decryption refl k some most

  -- the promise of before, on every number of blocks that it refused
  pub door_as_before : (d : ℕ) → d ≤ 1 → (k ≡ 4 → ⊥) → Refuted (door_on k d) (door_before d)
  door_as_before d le other =
      let can = can_door k some most A1 d 0 0 le (lit< tt) (lit< tt) in
      let ne : length (message k 0) ≡ 64 → ⊥ = λ e. other (omega (arith, sym (message_long k some 0) ∙ e)) in
      let o : List ℕ = replicate (16 * k) 0 in
      refuses_one (door_on k d) can (door_before d) (sym (key_passes A1.key A1.taken o (stop 3 o _ (differs ne)))) (λ e. omega arith)

-- a direction that is neither is refused, by 5
pub door_direction_2 : (x : List ℕ) → answers 0 x ≡ door_outcome 2 A1.key (replicate 48 0) (replicate 48 0) → ⊥
unfolding door_outcome whole_blocks
door_direction_2 x e =
    let blocks : List ℕ = replicate 48 0 in
    let five : door_outcome 2 A1.key blocks blocks ≡ answers 5 blocks = rw (is_not A1.taken.right_length, A1.taken.not_zero) in
    let z : ◌≡◌ {A = ℕ} 0 5 = same_number (e ∙ five) in
    omega arith

-- a wrong key length is reported before anything else that is wrong
pub door_key_first : (r : ℕ) (x : List ℕ) → answers r x ≡ door_outcome 2 (replicate 17 0) (replicate 63 0) (replicate 65 0) → r ≡ 1
unfolding door_outcome key_words_of key_size
door_key_first r x e = same_number e

-- ---- expand, at each width. (A program that fills every slot from slot 0 is right here.)
-- the words of the key's own round keys and of the first new one
abbrev pub first_keys : List ℕ → ℕ
first_keys key = 8 * (key_words_of key / 4 + 1)

size_a1 : schedule_words A1.key ≡ 88
unfolding schedule_words key_size A1 key_a1
size_a1 = refl

nk_a1 : key_words_of A1.key ≡ 4
unfolding A1
nk_a1 = words_a1

length_a1 : length A1.key ≡ 16
unfolding A1 key_a1
length_a1 = refl

key_of_a1 : A1.key ≡ key_a1
unfolding A1
key_of_a1 = refl

last_key : get_or (get_or A1.keys 10 []) 0 0 ≡ 0xd0
unfolding A1 round_keys_a1
last_key = refl

keys_differ : get_or A1.key 0 0 ≡ get_or ones.key 0 0 → ⊥
unfolding A1 key_a1
keys_differ e = let z : ◌≡◌ {A = ℕ} 0x2b 1 = e ∙ ap (λ (l : List ℕ). get_or l 0 0) ones_key in omega arith

-- what the last round key of zeros after the key reads as
cleared : (w : Width) → get_or (get_or (keys_in w (key_a1 ++ replicate 72 0) 0) 10 []) 0 0 ≡ 0x63
unfolding key_a1 rounds_of schedule_size keys_of reading read_key stored words_at slot add63 rows_shifted shift_rows
cleared w32 = refl
cleared w64 = refl

module _ (w : Width) where
  expand_1 : Can (expand_call w) A1.key (room w A1 0)
  expand_1 = can_expand w A1 0 (lit< tt)

  expand_2 : Can (expand_call w) A1.key (room w A1 1)
  expand_2 = can_expand w A1 1 (lit< tt)

  -- one that writes some first words, however many, and leaves the rest as it was
  leaves_rest : (n : List ℕ → ℕ) (g : List ℕ → List ℕ) → n A1.key < 88 → length (g A1.key) ≡ n A1.key
      → Refuted (expand_call w) (λ key o. answers 0 (g key ++ drop (n key) o))
  leaves_rest n g h e = writes_by_buffer (expand_call w) expand_1 expand_2 (λ key o. g key ++ drop (n key) o)
      (λ p. fronts (schedule_words A1.key) (n A1.key) (omega (arith, size_a1)) (g A1.key) e p)

  pub expand_refuses_everything : RefusesAll (expand_call w)
  expand_refuses_everything = refuses_everything (expand_call w) expand_1

  -- the same words for every key of a length
  pub expand_writes_the_same : (same : ℕ → List ℕ) → Refuted (expand_call w) (λ key o. answers 0 (same (length key)))
  expand_writes_the_same same m =
      let n : key_words_of ones.key ≡ key_words_of A1.key = ap key_words_of ones_key ∙ words_ones ∙ sym nk_a1 in
      keys_differ (ap (λ (l : List ℕ). get_or l 0 0) (schedule_one w (key_words_of A1.key) A1.key ones.key
      (rw nk_a1 (lit≤ tt)) (rw nk_a1 (lit≤ tt)) (length_a1 ∙ rw nk_a1) A1.fits (ap length ones_key ∙ rw nk_a1) ones.fits
      (sym (left A1 expand_1)
      ∙ ap same (length_a1 ∙ sym (ap length ones_key))
      ∙ left ones (can_expand w ones 0 (lit< tt))
      ∙ ap (λ (k : ℕ). schedule_of w k ones.key) n)))
    where
      left : (k : Sample) → Can (expand_call w) k.key (room w k 0) → same (length k.key) ≡ schedule_of w (key_words_of k.key) k.key
      left k can = same_left (m k.key (room w k 0) can ∙ (expand_call w).taken k.key (room w k 0) can.good)

  -- the key copied, as many elements as it has, and the rest left
  pub expand_copies : Refuted (expand_call w) (λ key o. answers 0 (key ++ drop (length key) o))
  expand_copies = leaves_rest length (λ key. key) (omega (arith, length_a1)) refl

  -- the key copied, and the rest filled with zeros: the last round key would read as sixteen bytes 63
  pub expand_copies_and_clears : Refuted (expand_call w) (λ key o. answers 0 (key ++ replicate (length o - length key) 0))
  unfolding words
  expand_copies_and_clears = writes_another (expand_call w) expand_1 (λ key o. key ++ replicate (length o - length key) 0) (λ e.
      let z : ◌≡◌ {A = ℕ} 0x63 0xd0 =
      sym (cleared w)
      ∙ ap (λ (l : List ℕ). get_or (get_or (keys_in w l 0) 10 []) 0 0) (sym copied ∙ e)
      ∙ ap (λ (ks : List (List ℕ)). get_or (get_or ks 10 []) 0 0) (keys_are w A1 0 (some_slot w)) ∙ last_key in
      omega arith)
    where
      copied : A1.key ++ replicate (length (room w A1 0) - length A1.key) 0 ≡ key_a1 ++ replicate 72 0
      copied = ap₂ (λ (k : List ℕ) (n : ℕ). k ++ replicate n 0) key_of_a1 (ap₂ ◌-◌ (length-replicate (schedule_words A1.key) 0 ∙ size_a1) length_a1)

  pub expand_writes_nothing : Refuted (expand_call w) (λ key o. answers 0 o)
  expand_writes_nothing = leaves_rest (λ key. 0) (λ key. []) (lit< tt) refl

  -- the first new round key only, and the rest left
  pub expand_first_key_only :
      Refuted (expand_call w) (λ key o. answers 0 (take (first_keys key) (schedule_of w (key_words_of key) key) ++ drop (first_keys key) o))
  expand_first_key_only = leaves_rest first_keys (λ key. take (first_keys key) (schedule_of w (key_words_of key) key)) (rw nk_a1 (lit< tt))
      (length-take-le (first_keys A1.key) (schedule_of w (key_words_of A1.key) A1.key)
      (rw (schedule_length w (key_words_of A1.key) A1.key, nk_a1) (lit≤ tt)))

-- ---- the key check value, at each width. (It has no input to copy, and one slot only.)
module _ (w : Width) where
  check_is : (k : Sample) {t : List ℕ} → cmac_of_block (cipher (round_keys k.key)) (zeros 16) ≡ t → check_value w (words w k) ≡ take 3 t
  check_is k e = check_under_key (expanded w k) (can_make (check_call w) (can_check w k) refl) ∙ ap (take 3) e

  -- of appendix A's keys it is what OpenSSL says
  pub check_a1 : check_value w (words w A1) ≡ 0x7a ∷ 0xd3 ∷ 0x86 ∷ []
  unfolding A1
  check_a1 = check_is A1 (ap (λ (n : ℕ). cmac_of_block (aes n key_a1) (zeros 16)) words_a1 ∙ zeros_a1)

  pub check_a3 : check_value w (words w A3) ≡ 0x1a ∷ 0x0b ∷ 0x2d ∷ []
  unfolding A3
  check_a3 = check_is A3 (ap (λ (n : ℕ). cmac_of_block (aes n key_a3) (zeros 16)) words_a3 ∙ zeros_a3)

  -- one that answers for A1's schedule what does not begin as it should
  begins_another : (P : Program (check_call w)) {x : List ℕ} → P (words w A1) (replicate 3 0) ≡ answers 0 x → (get_or x 0 0 ≡ 0x7a → ⊥)
      → Refuted (check_call w) P
  begins_another P e h = answers_another (check_call w) (can_check w A1) P e (λ z. h (ap (λ (l : List ℕ). get_or l 0 0) (z ∙ check_a1)))

  pub check_refuses_everything : RefusesAll (check_call w)
  check_refuses_everything = refuses_everything (check_call w) (can_check w A1)

  pub check_writes_the_same : (same : List ℕ) → Refuted (check_call w) (λ s o. answers 0 same)
  check_writes_the_same = writes_the_same (check_call w) (can_check w A1) (can_check w A3)
      (λ e. let z : ◌≡◌ {A = ℕ} 0x7a 0x1a = ap (λ (l : List ℕ). get_or l 0 0) (sym check_a1 ∙ e ∙ check_a3) in omega arith)

  pub check_writes_nothing : Refuted (check_call w) (λ s o. answers 0 o)
  check_writes_nothing = begins_another (λ s o. answers 0 o) refl (λ e. omega (arith, e))

  -- what a program writes of A1's schedule by its round keys in slot 0
  by_keys : (g : List (List ℕ) → List ℕ) {v : ℕ} → get_or (g round_keys_a1) 0 0 ≡ v → get_or (take 3 (g (keys_in w (words w A1) 0))) 0 0 ≡ v
  unfolding A1
  by_keys g e =
      get_or-take 3 (g (keys_in w (words w A1) 0)) 0 0 (lit< tt)
      ∙ ap (λ (ks : List (List ℕ)). get_or (g ks) 0 0) (keys_are w A1 0 (some_slot w)) ∙ e

  pub check_first_round_only : Refuted (check_call w) (λ s o. answers 0 (take 3 (cmac_of_block (first_round (keys_in w s 0)) (zeros 16))))
  check_first_round_only = begins_another (λ s o. answers 0 (take 3 (cmac_of_block (first_round (keys_in w s 0)) (zeros 16)))) refl
      (λ e. let z : ◌≡◌ {A = ℕ} 0x52 0x7a = sym (by_keys (λ ks. cmac_of_block (first_round ks) (zeros 16)) round_tag) ∙ e in omega arith)

  -- the rule of before: the encrypted zeros themselves, with every refusal right
  abbrev pub check_before : List ℕ → List ℕ → Outcome (List ℕ)
  check_before s o = refuse (eqb (rounds_of s) 0) 2 o (refuse (not (eqb (length o) 3)) 4 o (answers 0 (take 3 (cipher (keys_in w s 0) zero_block))))

  pub check_as_before : Refuted (check_call w) check_before
  check_as_before =
      let x = take 3 (cipher (keys_in w (words w A1) 0) zero_block) in
      let answered : check_before (words w A1) (replicate 3 0) ≡ answers 0 x = rw (is_not (can_check w A1).good.scheduled) in
      begins_another check_before answered
      (λ e. let z : ◌≡◌ {A = ℕ} 0x7d 0x7a = sym (by_keys (λ ks. cipher ks zero_block) cipher_zero) ∙ e in omega arith)

-- ---- a key of zeros: a program that answers 0 is wrong, whatever it writes, at either width and by the door. Such a call is to be refused, so it is
-- asked of a program that it agrees on all calls that can be made. Among the wrong ones are the promises as they were before, without a test for zeros
module _ (w : Width) where
  -- n zeros as the key, in any buffer that can be lent
  pub expand_takes_zeros : (n : ℕ) {s : List ℕ} → Fit (bits w) s → (P : Program (expand_call w)) {x : List ℕ} → P (replicate n 0) s ≡ answers 0 x
      → MeetsAll (expand_call w) P → ⊥
  expand_takes_zeros n f P e = takes_too_much (expand_call w) (record { key_bytes = fit_replicate n (lit< tt); buffer_words = f })
      (λ g. no_zeros (replicate n 0) g.taken.not_zero n refl) P e

  abbrev pub expand_without_zero_test : List ℕ → List ℕ → Outcome (List ℕ)
  expand_without_zero_test key s =
      refuse (eqb (key_words_of key) 0) 1 s (refuse (not (eqb (length s) (schedule_words key))) 2 s (answers 0 (schedule_of w (key_words_of key) key)))

  pub expand_without_zero_test_is_wrong : MeetsAll (expand_call w) expand_without_zero_test → ⊥
  unfolding key_words_of schedule_words key_size
  expand_without_zero_test_is_wrong = expand_takes_zeros 16 (fit_replicate {y = 0} 88 (small w (lit< tt))) expand_without_zero_test refl

module _ (d : ℕ) where
  pub door_takes_zeros : (n : ℕ) {i o : List ℕ} → Fit 8 i → Fit 8 o → (P : Program (door_call d)) {x : List ℕ}
      → P (record { key = replicate n 0; input = i }) o ≡ answers 0 x → MeetsAll (door_call d) P → ⊥
  door_takes_zeros n f f' P e = takes_too_much (door_call d) (record { key_bytes = fit_replicate n (lit< tt); input_bytes = f; buffer_bytes = f' })
      (λ g. no_zeros (replicate n 0) g.taken.not_zero n refl) P e

  abbrev pub door_without_zero_test : DoorArgs → List ℕ → Outcome (List ℕ)
  door_without_zero_test a o =
      refuse (eqb (key_words_of a.key) 0) 1 o
      (refuse (not (whole_blocks (length a.input))) 3 o
      (refuse (not (eqb (length o) (length a.input))) 4 o
      (refuse (not (eqb d 0 || eqb d 1)) 5 o (answers 0 (door_result d a)))))

  pub door_without_zero_test_is_wrong : d ≤ 1 → MeetsAll (door_call d) door_without_zero_test → ⊥
  unfolding key_words_of key_size whole_blocks
  door_without_zero_test_is_wrong le =
      let f : Fit 8 (replicate 48 0) = fit_replicate 48 (lit< tt) in
      let a : DoorArgs = record { key = replicate 32 0; input = replicate 48 0 } in
      let taken : door_without_zero_test a (replicate 48 0) ≡ answers 0 (door_result d a) = rw (one_of d le) in
      door_takes_zeros 32 f f door_without_zero_test taken
