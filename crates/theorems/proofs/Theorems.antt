-- THE THEOREMS, of the public calls: what the demands of docs/SCOPE.md say, each from the calls' promises alone. Read this file first.
-- `Made C a x`: call C was made with arguments a that can be made and are to be answered, and x is what its buffer then holds (Call.antt); its
-- promise is the one that the code of crates/aes and crates/host is proved to meet. Demand 1 is `answer_settled`, `answers_0`, `answers_0_only` and
-- `refusal_changes_nothing` of Call.antt, for every call. Assumes nothing.
use mathlib.Core.Path.{◌≡◌, refl, sym, ◌∙◌, ap, ap₂}
use mathlib.Core.Bool.{true}
use mathlib.Core.List.{List, ◌++◌}
use Prim.Native.Nat.{ℕ, zero, suc, ◌+◌, ◌*◌, ◌%◌, ◌≤◌, ◌<◌}
use native.Mathlib.Nat.{mod-lt, mod-eq_of_lt}
use native.Mathlib.Omega.{arith}
use lib.Dec.{lit≤}
use lib.ListN.{length, take, replicate, length-replicate, length-map, length-append}
use lib.Seq.{drop_at}
use Rattle.fips197.specs.Bytes.{Fit, Block, Data}
use Rattle.fips197.specs.Aes.{range, sixteen, cipher, inv_cipher, key_words, key_expansion, rounds_for}
use Rattle.fips197.proofs.Ciphers.{Blocks}
use Rattle.fips197.proofs.Keys.{expansion_blocks, expansion_one}
use Rattle.sp800_38b.specs.Cmac.{zeros, double}
use Rattle.sp800_38b.proofs.Laws.{tag_of_zeros}
use Rattle.lanes.specs.Layout.{Width, w64, bits, slots}
use Rattle.lanes.specs.Sizes.{key_size, schedule_size}
use Rattle.lanes.specs.Schedule.{reading, schedule_of, each_block, crypted_blocks, blocks_in, crypted, encrypted, decrypted}
use Rattle.lanes.proofs.Sizes.{Found, key_found}
use Rattle.lanes.proofs.EachBlock.{Keeping, some_slot, block_of, each_at, each_data, each_undone}
use Rattle.lanes.proofs.Cuts.{blocks_are, each_front, each_cut, alike_cut}
use Rattle.schedule.proofs.Reading.{schedule_length, schedule_fits, schedule_reads, schedule_only, schedule_one}
use Rattle.cipher.proofs.Batches.{Way, forth, backwards, crypted_at, crypted_data, crypted_undone, crypted_one}
use Rattle.outcome.specs.Outcome.{answers}
use Rattle.outcome.proofs.Laws.{settled}
use Rattle.calls.specs.Calls.{key_words_of, zero_key, Taken, schedule_words, rounds_of, keys_of, keys_in, whole_blocks, expand_outcome, check_of, check_value}
use Rattle.calls.specs.Calls.{directed, door_outcome}
use Rattle.calls.proofs.ZeroKey.{no_zeros, expand_6, door_6}
use Rattle.calls.proofs.WholeBlocks.{whole_are}
use Rattle.theorems.proofs.Call.{Made, leaves, can_make}
use Rattle.theorems.proofs.Calls.{expand_call, crypt_call}
use Rattle.theorems.proofs.Calls.{check_call, door_call}

-- ---- demand 2: an expansion, of a key that is not all zeros, reads as FIPS-197's round keys
abbrev pub Expands : Width → List ℕ → List ℕ → Type 0
Expands w key x = Made (expand_call w) key x

module _ {w : Width} {key x : List ℕ} (m : Expands w key x) where
  nk : ℕ
  nk = key_words_of key

  sized : Found (λ z. 4 * z.nk) (length key) (key_size (length key))
  unfolding key_words_of
  sized = key_found (length key) m.can.good.taken.right_length

  some : 1 ≤ key_words_of key
  unfolding key_words_of
  some = sized.sized.some

  most : key_words_of key ≤ 8
  unfolding key_words_of
  most = sized.sized.most

  long : length key ≡ 4 * key_words_of key
  unfolding key_words_of
  long = sized.at

  expanded : x ≡ schedule_of w (key_words_of key) key
  expanded = leaves (expand_call w) m

  words_are : schedule_words key ≡ 8 * (rounds_for (key_words_of key) + 1)
  unfolding key_words_of schedule_words
  words_are = sized.sized.words_are ∙ ap (λ (n : ℕ). 8 * (n + 1)) sized.sized.rounds_are

  -- it is a schedule, of the rounds that its key asks
  pub expand_rounds : rounds_of x ≡ rounds_for (key_words_of key)
  unfolding rounds_of key_words_of schedule_words
  expand_rounds =
      ap (λ (n : ℕ). (schedule_size n).rounds) (ap length expanded ∙ schedule_length w (key_words_of key) key ∙ sym words_are)
      ∙ sized.sized.found_again
      ∙ sized.sized.rounds_are

  -- in every slot the words read as the round keys of FIPS-197's KeyExpansion
  pub expand_reads : (b : ℕ) → b < slots w → keys_in w x b ≡ key_expansion (key_words_of key) key
  unfolding keys_of
  expand_reads b h =
      ap (λ (n : ℕ). reading w n x b) expand_rounds
      ∙ ap (λ (s : List ℕ). reading w (rounds_for (key_words_of key)) s b) expanded
      ∙ schedule_reads w (key_words_of key) key some long m.can.fits.key_bytes b h

  -- and no other words of the width do
  pub expand_only : (l : List ℕ) → length l ≡ length x → Fit (bits w) l → ((b : ℕ) → b < slots w → keys_in w l b ≡ key_expansion (key_words_of key) key) → l ≡ x
  unfolding keys_of rounds_of
  expand_only l e f h =
      let r : rounds_of l ≡ rounds_for (key_words_of key) = ap (λ (n : ℕ). (schedule_size n).rounds) e ∙ expand_rounds in
      schedule_only w (key_words_of key) key some long m.can.fits.key_bytes l (e ∙ ap length expanded ∙ schedule_length w (key_words_of key) key) f
      (λ b y. ap (λ (n : ℕ). reading w n l b) (sym r) ∙ h b y)
      ∙ sym expanded

-- two keys of one length never share a schedule
pub two_keys_two_schedules : {w : Width} {k l x : List ℕ} → length k ≡ length l → Expands w k x → Expands w l x → k ≡ l
unfolding key_words_of
two_keys_two_schedules {w} {k} {l} e c d =
    let n : key_words_of l ≡ key_words_of k = ap (λ (n : ℕ). (key_size n).nk) (sym e) in
    schedule_one w (key_words_of k) k l (some c) (most c) (long c) c.can.fits.key_bytes (sym e ∙ long c) d.can.fits.key_bytes
    (sym (expanded c) ∙ expanded d ∙ ap (λ (m : ℕ). schedule_of w m l) n)

-- ---- A KEY OF ZEROS IS NO KEY: where a key has a right length and is all zeros, 6 is answered, whatever else is wrong, and what was lent stays
module _ (key : List ℕ) (keyed : key_words_of key ≡ 0 → ⊥) (zeros : zero_key key ≡ true) where
  pub expand_refuses_zeros : (w : Width) (s : List ℕ) {r : ℕ} {x : List ℕ} → answers r x ≡ expand_outcome w key s → (r ≡ 6) × (x ≡ s)
  expand_refuses_zeros w s e = settled e (expand_6 key keyed zeros w s)

  pub door_refuses_zeros : (d : ℕ) (i o : List ℕ) {r : ℕ} {x : List ℕ} → answers r x ≡ door_outcome d key i o → (r ≡ 6) × (x ≡ o)
  door_refuses_zeros d i o e = settled e (door_6 key keyed zeros d i o)

-- what may be called a key
pub record Key (key : List ℕ) : Type 0 where
  pub taken : Taken key
  pub bytes : Fit 8 key

-- the round keys of a key, and those of n words of zeros
abbrev pub round_keys : List ℕ → List (List ℕ)
round_keys key = key_expansion (key_words_of key) key

abbrev pub zero_round_keys : ℕ → List (List ℕ)
zero_round_keys n = key_expansion n (replicate (4 * n) 0)

-- as many as rounds, and one
range_length : (i n : ℕ) → length (range i n) ≡ n
range_length i zero = refl
range_length i (suc n) = ap suc (range_length (suc i) n)

keys_length : (n : ℕ) (key : List ℕ) → length (key_expansion n key) ≡ n + 7
unfolding key_expansion
keys_length n key = length-map (range 0 (rounds_for n + 1)) (sixteen (key_words n key)) ∙ range_length 0 (rounds_for n + 1) ∙ omega arith

-- what is called a key has others than zeros, however many these are
key_is_not_zeros : {key : List ℕ} → Key key → (n : ℕ) → round_keys key ≡ zero_round_keys n → ⊥
unfolding key_words_of
key_is_not_zeros {key} k n e =
    let f = key_found (length key) k.taken.right_length in
    let same : key_words_of key ≡ n = omega (arith, sym (keys_length (key_words_of key) key) ∙ ap length e ∙ keys_length n (replicate (4 * n) 0)) in
    no_zeros key k.taken.not_zero (4 * n)
    (expansion_one (key_words_of key) key (replicate (4 * n) 0) f.sized.some f.sized.most f.at (length-replicate (4 * n) 0 ∙ omega (arith, same))
    (e ∙ ap (λ (m : ℕ). key_expansion m (replicate (4 * n) 0)) (sym same)))

-- so NO CALL MAKES THE SCHEDULE OF A KEY OF ZEROS: what expand leaves reads so in no slot. (Of the door: `door_uses_no_zero_schedule`.)
expand_key : {w : Width} {key x : List ℕ} → Expands w key x → Key key
expand_key m = record { taken = m.can.good.taken; bytes = m.can.fits.key_bytes }

pub expand_makes_no_zero_schedule : {w : Width} {key x : List ℕ} → Expands w key x → (n b : ℕ) → b < slots w → keys_in w x b ≡ zero_round_keys n → ⊥
expand_makes_no_zero_schedule m n b h e = key_is_not_zeros (expand_key m) n (sym (expand_reads m b h) ∙ e)

-- ---- demand 3: for ANY words of the right number as a schedule, and any blocks, 1 to 4,096 of them
pub record Message (i : List ℕ) : Type 0 where
  pub taken : whole_blocks (length i) ≡ true
  pub bytes : Fit 8 i

-- they are as many blocks as there are
pub message_data : {i : List ℕ} → Message i → Data (blocks_in i) i
unfolding blocks_in
message_data {i} m = record { long = (whole_are (length i) m.taken).blocks; bytes = m.bytes }

-- and as many others are taken too
same_count : {k : ℕ} {i x : List ℕ} → Data k i → Data k x → length x ≡ length i
same_count d e = e.long ∙ sym d.long

as_many : {k : ℕ} {i x : List ℕ} → Message i → Data k i → Data k x → Message x
as_many m d e = record { taken = rw (same_count d e) m.taken; bytes = e.bytes }

-- what was called in the direction v under the schedule s with the blocks i left x
abbrev pub Crypts : Way → Width → List ℕ → List ℕ → List ℕ → Type 0
Crypts v w s i x = Made (crypt_call v.go w) (record { schedule = s; input = i }) x

abbrev pub Encrypts : Width → List ℕ → List ℕ → List ℕ → Type 0
Encrypts w s i x = Made (crypt_call cipher w) (record { schedule = s; input = i }) x

abbrev pub Decrypts : Width → List ℕ → List ℕ → List ℕ → Type 0
Decrypts w s i x = Made (crypt_call inv_cipher w) (record { schedule = s; input = i }) x

-- a schedule of the width, whatever its words are
pub record Schedule (w : Width) (s : List ℕ) : Type 0 where
  pub right_length : rounds_of s ≡ 0 → ⊥
  pub words : Fit (bits w) s

-- what expand leaves is one
pub expand_schedule : {w : Width} {key x : List ℕ} → Expands w key x → Schedule w x
expand_schedule {w} {key} m = record {
  right_length = λ e. omega (arith, expand_rounds m, e);
  words = rw (expanded m) (schedule_fits w (key_words_of key) key);
}

module _ (v : Way) {w : Width} {s : List ℕ} where
  crypt_schedule : {i x : List ℕ} → Crypts v w s i x → Schedule w s
  crypt_schedule m = record { right_length = m.can.good.scheduled; words = m.can.fits.schedule_words_fit }

  crypt_input : {i x : List ℕ} → Crypts v w s i x → Message i
  crypt_input m = record { taken = m.can.good.blocks.whole; bytes = m.can.fits.input_bytes }

  crypt_data : {i x : List ℕ} → Crypts v w s i x → Data (blocks_in i) i
  crypt_data m = message_data (crypt_input m)

  crypt_left : {i x : List ℕ} → Crypts v w s i x → x ≡ crypted v.go w (rounds_of s) (keys_of s) i
  crypt_left m = leaves (crypt_call v.go w) m

  crypt_output : {i x : List ℕ} → Crypts v w s i x → Data (blocks_in i) x
  crypt_output m = rw (crypt_left m) (crypted_data v w (rounds_of s) (keys_of s) (crypt_data m))

  crypt_message : {i x : List ℕ} → Crypts v w s i x → Message x
  crypt_message m = as_many (crypt_input m) (crypt_data m) (crypt_output m)

  pub crypt_is : {i x : List ℕ} → Crypts v w s i x → (j : ℕ) → j < blocks_in i → sixteen x j ≡ v.go (keys_in w s (j % slots w)) (sixteen i j)
  crypt_is m j h = ap (λ (l : List ℕ). sixteen l j) (crypt_left m) ∙ crypted_at v w (rounds_of s) (keys_of s) (crypt_data m) j h

  -- as many blocks are left as were given
  crypt_count : {i x : List ℕ} → Crypts v w s i x → blocks_in x ≡ blocks_in i
  crypt_count {i} {x} m = blocks_are (blocks_in i) x (crypt_output m).long

  crypt_one : {i j x : List ℕ} → Crypts v w s i x → Crypts v w s j x → i ≡ j
  crypt_one {i} {j} m n =
      let k : blocks_in j ≡ blocks_in i = sym (crypt_count n) ∙ crypt_count m in
      let d : Data (blocks_in j) j = crypt_data n in
      let e : Data (blocks_in i) j = rw k at d in
      crypted_one v w (rounds_of s) (keys_of s) (crypt_data m) e
      (sym (crypt_left m) ∙ crypt_left n ∙ ap (λ (k : ℕ). crypted_blocks v.go w (rounds_of s) (keys_of s) k j) k)

  -- the call back, on what was left
  crypt_undone : {i x y : List ℕ} → Crypts v w s i x → y ≡ crypted v.back w (rounds_of s) (keys_of s) x → y ≡ i
  crypt_undone {x = x} m e =
      e ∙ ap₂ (crypted_blocks v.back w (rounds_of s) (keys_of s)) (crypt_count m) (crypt_left m)
      ∙ crypted_undone v w (rounds_of s) (keys_of s) (crypt_data m)

  -- cut after m full batches
  crypt_cut : {i j x y z : List ℕ} (m : ℕ) → length i ≡ 16 * (slots w * m) → Crypts v w s i y → Crypts v w s j z → Crypts v w s (i ++ j) x → x ≡ y ++ z
  crypt_cut {i} {j} m e a b c =
      let f : ℕ → List ℕ → List ℕ = λ r. v.go (keys_in w s r) in
      let n : blocks_in i ≡ slots w * m = blocks_are (slots w * m) i e in
      let l : length (i ++ j) ≡ 16 * (slots w * m + blocks_in j) = length-append i j ∙ omega (arith, e, (crypt_data b).long) in
      crypt_left c
      ∙ ap (λ (k : ℕ). each_block w f k (i ++ j)) (blocks_are (slots w * m + blocks_in j) (i ++ j) l)
      ∙ each_cut w f m (blocks_in j) (i ++ j)
      ∙ ap₂ ◌++◌
      (each_front w f (slots w * m) i j (omega (arith, e)) ∙ ap (λ (k : ℕ). each_block w f k i) (sym n) ∙ sym (crypt_left a))
      (ap (each_block w f (blocks_in j)) (drop_at i j (16 * (slots w * m)) e) ∙ sym (crypt_left b))

  -- a call in this direction on blocks, if it comes to be made, leaves this
  crypt_can : {i : List ℕ} → Schedule w s → Message i → Crypts v w s i (crypted v.go w (rounds_of s) (keys_of s) i)
  crypt_can {i} p d =
      can_make (crypt_call v.go w) {o = i}
      (record {
        fits = record { schedule_words_fit = p.words; input_bytes = d.bytes; buffer_bytes = d.bytes };
        good = record { scheduled = p.right_length; blocks = record { whole = d.taken; room = refl } };
      }) refl

module _ {w : Width} {s : List ℕ} where
  -- block j is FIPS-197's Cipher of block j under the round keys of slot j mod slots
  pub encrypt_is_cipher : {i x : List ℕ} → Encrypts w s i x → (j : ℕ) → j < blocks_in i → sixteen x j ≡ cipher (keys_in w s (j % slots w)) (sixteen i j)
  encrypt_is_cipher m = crypt_is forth m

  -- and FIPS-197's InvCipher
  pub decrypt_is_inv_cipher : {i x : List ℕ} → Decrypts w s i x → (j : ℕ) → j < blocks_in i → sixteen x j ≡ inv_cipher (keys_in w s (j % slots w)) (sixteen i j)
  decrypt_is_inv_cipher m = crypt_is backwards m

  -- blocks are answered by as many blocks
  pub encrypt_blocks : {i x : List ℕ} → Encrypts w s i x → Data (blocks_in i) x
  encrypt_blocks m = crypt_output forth m

  pub decrypt_blocks : {i x : List ℕ} → Decrypts w s i x → Data (blocks_in i) x
  decrypt_blocks m = crypt_output backwards m

  -- by as many bytes, which a call takes again
  pub encrypt_length : {i x : List ℕ} → Encrypts w s i x → length x ≡ length i
  encrypt_length m = same_count (crypt_data forth m) (crypt_output forth m)

  pub encrypt_message : {i x : List ℕ} → Encrypts w s i x → Message x
  encrypt_message m = crypt_message forth m

  -- decryption undoes encryption, and encryption decryption
  pub decrypt_undoes_encrypt : {i x y : List ℕ} → Encrypts w s i x → Decrypts w s x y → y ≡ i
  decrypt_undoes_encrypt m n = crypt_undone forth m (crypt_left backwards n)

  pub encrypt_undoes_decrypt : {i x y : List ℕ} → Decrypts w s i x → Encrypts w s x y → y ≡ i
  encrypt_undoes_decrypt m n = crypt_undone backwards m (crypt_left forth n)

  -- one-to-one: no two different inputs encrypt alike
  pub encrypt_one_to_one : {i j x : List ℕ} → Encrypts w s i x → Encrypts w s j x → i ≡ j
  encrypt_one_to_one m n = crypt_one forth m n

  -- what decryption answers is the one input that encrypts to what it was given
  pub decrypt_finds : {x y : List ℕ} → Decrypts w s x y → Encrypts w s y x × ((j : List ℕ) → Encrypts w s j x → j ≡ y)
  decrypt_finds {x} {y} m =
      let found : Encrypts w s y (encrypted w (rounds_of s) (keys_of s) y) = crypt_can forth (crypt_schedule backwards m) (crypt_message backwards m) in
      let e : encrypted w (rounds_of s) (keys_of s) y ≡ x = encrypt_undoes_decrypt m found in
      let finds : Encrypts w s y x = rw e at found in
      (finds, λ j n. encrypt_one_to_one n finds)

  -- onto: every string of blocks is the encryption of exactly one
  pub encrypt_onto : {x : List ℕ} → Schedule w s → Message x → (i : List ℕ) × Encrypts w s i x × ((j : List ℕ) → Encrypts w s j x → j ≡ i)
  encrypt_onto {x} p d =
      let found = decrypt_finds (crypt_can backwards p d) in
      (decrypted w (rounds_of s) (keys_of s) x, found.0, found.1)

  -- cut after full batches: the answers joined are the answer
  pub encrypt_cut : {i j x y z : List ℕ} (m : ℕ) → length i ≡ 16 * (slots w * m) → Encrypts w s i y → Encrypts w s j z → Encrypts w s (i ++ j) x → x ≡ y ++ z
  encrypt_cut m e = crypt_cut forth m e

  pub decrypt_cut : {i j x y z : List ℕ} (m : ℕ) → length i ≡ 16 * (slots w * m) → Decrypts w s i y → Decrypts w s j z → Decrypts w s (i ++ j) x → x ≡ y ++ z
  decrypt_cut m e = crypt_cut backwards m e

-- BLOCKS ARE APART: what block j becomes changes neither with another block, nor with how many there are, nor with another slot's round keys. It is what
-- the purge job relies on: a header is decrypted as if it were alone
module _ {w : Width} {s t i k x y : List ℕ} (j : ℕ) (h : j < blocks_in i) (l : j < blocks_in k) where
  pub encrypt_blocks_apart : Encrypts w s i x → Encrypts w t k y → keys_in w s (j % slots w) ≡ keys_in w t (j % slots w) → sixteen i j ≡ sixteen k j
      → sixteen x j ≡ sixteen y j
  encrypt_blocks_apart m n p q = encrypt_is_cipher m j h ∙ ap₂ cipher p q ∙ sym (encrypt_is_cipher n j l)

  pub decrypt_blocks_apart : Decrypts w s i x → Decrypts w t k y → keys_in w s (j % slots w) ≡ keys_in w t (j % slots w) → sixteen i j ≡ sixteen k j
      → sixteen x j ≡ sixteen y j
  decrypt_blocks_apart m n p q = decrypt_is_inv_cipher m j h ∙ ap₂ inv_cipher p q ∙ sym (decrypt_is_inv_cipher n j l)

-- ---- both demands together: under an expanded key, FIPS-197 with that key, in every block
reads_at : {w : Width} {key s : List ℕ} → Expands w key s → (j : ℕ) → keys_in w s (j % slots w) ≡ round_keys key
reads_at {w} e j = expand_reads e (j % slots w) (mod-lt j (some_slot w))

module _ {w : Width} {key s i x : List ℕ} (e : Expands w key s) where
  pub encrypt_under_key : Encrypts w s i x → (j : ℕ) → j < blocks_in i → sixteen x j ≡ cipher (round_keys key) (sixteen i j)
  encrypt_under_key m j h = encrypt_is_cipher m j h ∙ ap (λ (ks : List (List ℕ)). cipher ks (sixteen i j)) (reads_at e j)

  pub decrypt_under_key : Decrypts w s i x → (j : ℕ) → j < blocks_in i → sixteen x j ≡ inv_cipher (round_keys key) (sixteen i j)
  decrypt_under_key m j h = decrypt_is_inv_cipher m j h ∙ ap (λ (ks : List (List ℕ)). inv_cipher ks (sixteen i j)) (reads_at e j)

-- ---- the key check value
abbrev pub Checks : Width → List ℕ → List ℕ → Type 0
Checks w s x = Made (check_call w) s x

-- there is a block 0, and it is in slot 0
some_block : {i : List ℕ} → Message i → 0 < blocks_in i
unfolding blocks_in
some_block {i} m = (whole_are (length i) m.taken).some

encrypt_first : {w : Width} {s i x : List ℕ} → Encrypts w s i x → sixteen x 0 ≡ cipher (keys_in w s 0) (sixteen i 0)
encrypt_first {w} {s} {i} m =
    encrypt_is_cipher m 0 (some_block (crypt_input forth m)) ∙ ap (λ (b : ℕ). cipher (keys_in w s b) (sixteen i 0)) (mod-eq_of_lt (some_slot w))

-- it is made of slot 0 of what encrypt answers: for zeros there, and then for twice what these came to
pub check_is_slot_0 : {w : Width} {s x i y j z : List ℕ} → Checks w s x → Encrypts w s i y → sixteen i 0 ≡ zeros 16
    → Encrypts w s j z → sixteen j 0 ≡ double (sixteen y 0) → x ≡ take 3 (sixteen z 0)
unfolding check_value
check_is_slot_0 {w} {s} {y = y} m n e o f =
    let ciph = cipher (keys_in w s 0) in
    let l : ciph (zeros 16) ≡ sixteen y 0 = sym (encrypt_first n ∙ ap ciph e) in
    let b : Block (ciph (zeros 16)) = rw l (block_of (encrypt_blocks n) 0 (some_block (crypt_input forth n))) in
    leaves (check_call w) m
    ∙ ap (take 3) (tag_of_zeros ciph b ∙ ap (λ (t : List ℕ). ciph (double t)) l ∙ sym (encrypt_first o ∙ ap ciph f))

-- so nothing but slot 0's round keys decides it
pub check_slots_apart : {w : Width} {s t x y : List ℕ} → Checks w s x → Checks w t y → keys_in w s 0 ≡ keys_in w t 0 → x ≡ y
unfolding check_value
check_slots_apart {w} m n e = leaves (check_call w) m ∙ ap check_of e ∙ sym (leaves (check_call w) n)

-- under an expanded key it is SP 800-38B's, by FIPS-197 with that key, at either width
pub check_under_key : {w : Width} {key s x : List ℕ} → Expands w key s → Checks w s x → x ≡ check_of (round_keys key)
unfolding check_value
check_under_key {w} e m = leaves (check_call w) m ∙ ap check_of (expand_reads e 0 (some_slot w))

-- ---- THE DOOR, what the purge job calls: direction 0 encrypts and 1 decrypts
abbrev pub Doors : ℕ → List ℕ → List ℕ → List ℕ → Type 0
Doors d key i x = Made (door_call d) (record { key = key; input = i }) x

pub keys_of_key : {key : List ℕ} → Key key → Blocks (round_keys key)
unfolding key_words_of
keys_of_key {key} k =
    let f = key_found (length key) k.taken.right_length in
    expansion_blocks (key_words_of key) key f.sized.some f.at k.bytes

-- whatever its direction, an answered call has a key, and not the round keys of zeros
door_key : (d : ℕ) {key i x : List ℕ} → Doors d key i x → Key key
door_key d m = record { taken = m.can.good.taken; bytes = m.can.fits.key_bytes }

pub door_uses_no_zero_schedule : (d : ℕ) {key i x : List ℕ} → Doors d key i x → (n : ℕ) → round_keys key ≡ zero_round_keys n → ⊥
door_uses_no_zero_schedule d m n e = key_is_not_zeros (door_key d m) n e

-- every block under the key
abbrev under_key : Way → List ℕ → List ℕ → List ℕ
under_key v key i = each_block w64 (λ slot. v.go (round_keys key)) (blocks_in i) i

-- a direction d that is the way v through the cipher: 0 is forth, 1 is backwards
module _ (d : ℕ) (v : Way) (way : directed d ≡ v.go) {key : List ℕ} where
  door_input : {i x : List ℕ} → Doors d key i x → Message i
  door_input m = record { taken = m.can.good.blocks.whole; bytes = m.can.fits.input_bytes }

  door_data : {i x : List ℕ} → Doors d key i x → Data (blocks_in i) i
  door_data m = message_data (door_input m)

  door_keeping : Key key → Keeping (λ slot. v.go (round_keys key))
  door_keeping k = record { keeps = λ b y. v.go_block (keys_of_key k) y }

  door_left : {i x : List ℕ} → Doors d key i x → x ≡ under_key v key i
  door_left {i} m = leaves (door_call d) m ∙ ap (λ (c : List (List ℕ) → List ℕ → List ℕ). each_block w64 (λ slot. c (round_keys key)) (blocks_in i) i) way

  pub door_is : {i x : List ℕ} → Doors d key i x → (j : ℕ) → j < blocks_in i → sixteen x j ≡ v.go (round_keys key) (sixteen i j)
  door_is m j h = ap (λ (l : List ℕ). sixteen l j) (door_left m) ∙ each_at w64 (door_keeping (door_key d m)) (door_data m) j h

  pub door_output : {i x : List ℕ} → Doors d key i x → Data (blocks_in i) x
  door_output m = rw (door_left m) (each_data w64 (door_keeping (door_key d m)) (door_data m))

  door_message : {i x : List ℕ} → Doors d key i x → Message x
  door_message m = as_many (door_input m) (door_data m) (door_output m)

  -- cut after any block
  door_cut : {i j x y z : List ℕ} → Doors d key i y → Doors d key j z → Doors d key (i ++ j) x → x ≡ y ++ z
  door_cut {i} {j} a b c =
      let g : List ℕ → List ℕ = v.go (round_keys key) in
      let e : length i ≡ 16 * blocks_in i = (door_data a).long in
      let l : length (i ++ j) ≡ 16 * (blocks_in i + blocks_in j) = length-append i j ∙ omega (arith, e, (door_data b).long) in
      door_left c
      ∙ ap (λ (k : ℕ). each_block w64 (λ slot. g) k (i ++ j)) (blocks_are (blocks_in i + blocks_in j) (i ++ j) l)
      ∙ alike_cut w64 g (blocks_in i) (blocks_in j) (i ++ j)
      ∙ ap₂ ◌++◌
      (each_front w64 (λ slot. g) (blocks_in i) i j (omega (arith, e)) ∙ sym (door_left a))
      (ap (each_block w64 (λ slot. g) (blocks_in j)) (drop_at i j (16 * blocks_in i) e) ∙ sym (door_left b))

  -- a call in this direction, if it comes to be made, leaves this
  door_can : {i : List ℕ} → d ≤ 1 → Key key → Message i → Doors d key i (under_key v key i)
  door_can {i} le k y =
      can_make (door_call d) {o = i}
      (record {
        fits = record { key_bytes = k.bytes; input_bytes = y.bytes; buffer_bytes = y.bytes };
        good = record { taken = k.taken; blocks = record { whole = y.taken; room = refl }; direction = le };
      })
      (ap (λ (c : List (List ℕ) → List ℕ → List ℕ). each_block w64 (λ slot. c (round_keys key)) (blocks_in i) i) (sym way))

-- the direction e that is v's way back undoes it
door_undone : (d e : ℕ) (v : Way) → directed d ≡ v.go → directed e ≡ v.back → {key i x y : List ℕ} → Doors d key i x → Doors e key x y → y ≡ i
door_undone d e v p q {key} {i} {x} m n =
    let k = door_key d m in
    leaves (door_call e) n
    ∙ ap (λ (c : List (List ℕ) → List ℕ → List ℕ). each_block w64 (λ slot. c (round_keys key)) (blocks_in x) x) q
    ∙ ap₂ (each_block w64 (λ slot. v.back (round_keys key))) (blocks_are (blocks_in i) x (door_output d v p m).long) (door_left d v p m)
    ∙ each_undone w64 (door_keeping d v p k) (record { keeps = λ b y. v.back_block (keys_of_key k) y }) (λ b x y. v.undone (keys_of_key k) y)
    (door_data d v p m)

module _ {key : List ℕ} where
  -- each block is FIPS-197's Cipher, or InvCipher, of the same block under the round keys of KeyExpansion
  pub door_0_is_cipher : {i x : List ℕ} → Doors 0 key i x → (j : ℕ) → j < blocks_in i → sixteen x j ≡ cipher (round_keys key) (sixteen i j)
  door_0_is_cipher m = door_is 0 forth refl m

  pub door_1_is_inv_cipher : {i x : List ℕ} → Doors 1 key i x → (j : ℕ) → j < blocks_in i → sixteen x j ≡ inv_cipher (round_keys key) (sixteen i j)
  door_1_is_inv_cipher m = door_is 1 backwards refl m

  -- blocks are answered by as many blocks
  pub door_0_blocks : {i x : List ℕ} → Doors 0 key i x → Data (blocks_in i) x
  door_0_blocks m = door_output 0 forth refl m

  pub door_1_blocks : {i x : List ℕ} → Doors 1 key i x → Data (blocks_in i) x
  door_1_blocks m = door_output 1 backwards refl m

  -- by as many bytes, which it takes again
  pub door_0_length : {i x : List ℕ} → Doors 0 key i x → length x ≡ length i
  door_0_length m = same_count (door_data 0 forth refl m) (door_output 0 forth refl m)

  pub door_0_message : {i x : List ℕ} → Doors 0 key i x → Message x
  door_0_message m = door_message 0 forth refl m

  -- each direction undoes the other
  pub door_1_undoes_0 : {i x y : List ℕ} → Doors 0 key i x → Doors 1 key x y → y ≡ i
  door_1_undoes_0 m n = door_undone 0 1 forth refl refl m n

  pub door_0_undoes_1 : {i x y : List ℕ} → Doors 1 key i x → Doors 0 key x y → y ≡ i
  door_0_undoes_1 m n = door_undone 1 0 backwards refl refl m n

  -- what a direction finds, the other leads back, and nothing else does: so each is one-to-one and onto
  door_finds_0 : {x y : List ℕ} → Doors 1 key x y → Doors 0 key y x
  door_finds_0 m =
      let found = door_can 0 forth refl (lit≤ tt) (door_key 1 m) (door_message 1 backwards refl m) in
      rw (door_0_undoes_1 m found) at found

  door_finds_1 : {x y : List ℕ} → Doors 0 key x y → Doors 1 key y x
  door_finds_1 m =
      let found = door_can 1 backwards refl (lit≤ tt) (door_key 0 m) (door_message 0 forth refl m) in
      rw (door_1_undoes_0 m found) at found

  -- one-to-one
  pub door_0_one_to_one : {i j x : List ℕ} → Doors 0 key i x → Doors 0 key j x → i ≡ j
  door_0_one_to_one m n = sym (door_1_undoes_0 m (door_finds_1 m)) ∙ door_1_undoes_0 n (door_finds_1 m)

  pub door_1_one_to_one : {i j x : List ℕ} → Doors 1 key i x → Doors 1 key j x → i ≡ j
  door_1_one_to_one m n = sym (door_0_undoes_1 m (door_finds_0 m)) ∙ door_0_undoes_1 n (door_finds_0 m)

  -- onto: every string of blocks is the answer to exactly one
  pub door_0_onto : {x : List ℕ} → Key key → Message x → (i : List ℕ) × Doors 0 key i x × ((j : List ℕ) → Doors 0 key j x → j ≡ i)
  door_0_onto {x} k d =
      let found = door_finds_0 (door_can 1 backwards refl (lit≤ tt) k d) in
      (under_key backwards key x, found, λ j n. door_0_one_to_one n found)

  pub door_1_onto : {x : List ℕ} → Key key → Message x → (i : List ℕ) × Doors 1 key i x × ((j : List ℕ) → Doors 1 key j x → j ≡ i)
  door_1_onto {x} k d =
      let found = door_finds_1 (door_can 0 forth refl (lit≤ tt) k d) in
      (under_key forth key x, found, λ j n. door_1_one_to_one n found)

  -- cut after any block: the answers joined are the answer
  pub door_0_cut : {i j x y z : List ℕ} → Doors 0 key i y → Doors 0 key j z → Doors 0 key (i ++ j) x → x ≡ y ++ z
  door_0_cut a b c = door_cut 0 forth refl a b c

  pub door_1_cut : {i j x y z : List ℕ} → Doors 1 key i y → Doors 1 key j z → Doors 1 key (i ++ j) x → x ≡ y ++ z
  door_1_cut a b c = door_cut 1 backwards refl a b c

  -- BLOCKS ARE APART: equal blocks have equal answers, whatever stands beside them, wherever they stand and however many there are
  module _ {i k x y : List ℕ} (j l : ℕ) (h : j < blocks_in i) (h' : l < blocks_in k) where
    pub door_0_blocks_apart : Doors 0 key i x → Doors 0 key k y → sixteen i j ≡ sixteen k l → sixteen x j ≡ sixteen y l
    door_0_blocks_apart m n e = door_0_is_cipher m j h ∙ ap (cipher (round_keys key)) e ∙ sym (door_0_is_cipher n l h')

    pub door_1_blocks_apart : Doors 1 key i x → Doors 1 key k y → sixteen i j ≡ sixteen k l → sixteen x j ≡ sixteen y l
    door_1_blocks_apart m n e = door_1_is_inv_cipher m j h ∙ ap (inv_cipher (round_keys key)) e ∙ sym (door_1_is_inv_cipher n l h')
