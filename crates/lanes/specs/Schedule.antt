-- A schedule: 8 * (n + 1) words for n rounds, read as n + 1 round keys for each slot (docs/SCOPE.md, "Reading a schedule"); the schedule of a
-- key; and what blocks become under a schedule.
use Rattle.std.specs.Prelude.{cond, List, [], map, ℕ, zero, suc, ◌+◌, ◌*◌, ◌/◌, ◌%◌, eqb, get_or, take, drop, length}
use Rattle.std.specs.Int.Bits.{bit_xor}
use Rattle.fips197.specs.Aes.{range, sixteen, shift_rows, inv_shift_rows, rounds_for, key_expansion, cipher, inv_cipher}
use Rattle.lanes.specs.Layout.{Width, slots, slot, pack, each_slot, join}

-- ---- how a schedule is read

-- the eight words at an offset
unfoldable pub words_at : List ℕ → ℕ → List ℕ
words_at l at = take 8 (drop at l)

-- round key r in slot b, as it stands
unfoldable pub stored : Width → List ℕ → ℕ → ℕ → List ℕ
stored w l b r = slot w (words_at l (8 * r)) b

-- 63 added to every byte: what the S-box circuits leave out
unfoldable pub add63 : List ℕ → List ℕ
add63 s = map (λ x. bit_xor x 0x63) s

-- ShiftRows n times
unfoldable pub rows_shifted : ℕ → List ℕ → List ℕ
rows_shifted zero s = s
rows_shifted (suc n) s = shift_rows (rows_shifted n s)

-- InvShiftRows n times
unfoldable pub rows_unshifted : ℕ → List ℕ → List ℕ
rows_unshifted zero s = s
rows_unshifted (suc n) s = inv_shift_rows (rows_unshifted n s)

-- THE RULE, of n rounds: key 0 as it stands; keys 1 to n - 1 plus 63, then ShiftRows r mod 4 times; key n plus 63 only
unfoldable pub read_key : ℕ → ℕ → List ℕ → List ℕ
read_key n zero k = k
read_key n (suc r) k = cond (eqb (suc r) n) (add63 k) (rows_shifted (suc r % 4) (add63 k))

-- the round keys of slot b: any words can be read, and slots may differ
unfoldable pub reading : Width → ℕ → List ℕ → ℕ → List (List ℕ)
reading w n l b = map (λ r. read_key n r (stored w l b r)) (range 0 (n + 1))

-- ---- the schedule of a key

-- the rule undone
unfoldable pub write_key : ℕ → ℕ → List ℕ → List ℕ
write_key n zero k = k
write_key n (suc r) k = cond (eqb (suc r) n) (add63 k) (add63 (rows_unshifted (suc r % 4) k))

-- the words that read, in every slot, as FIPS-197's round keys of a key of Nk words
unfoldable pub schedule_of : Width → ℕ → List ℕ → List ℕ
schedule_of w nk key =
    join (map (λ r. pack w (each_slot w (λ b. write_key (rounds_for nk) r (get_or (key_expansion nk key) r [])))) (range 0 (rounds_for nk + 1)))

-- ---- what blocks become

-- the first k blocks of some bytes, each through what its slot does: block j is in slot j mod slots
unfoldable pub each_block : Width → (ℕ → List ℕ → List ℕ) → ℕ → List ℕ → List ℕ
each_block w f k i = join (map (λ j. f (j % slots w) (sixteen i j)) (range 0 k))

-- k blocks under n rounds of a schedule: block j by the round keys of slot j mod slots, through Cipher or InvCipher
abbrev pub crypted_blocks : (List (List ℕ) → List ℕ → List ℕ) → Width → ℕ → List ℕ → ℕ → List ℕ → List ℕ
crypted_blocks c w n l k i = each_block w (λ b. c (reading w n l b)) k i

-- a full batch: one block for each slot
unfoldable pub crypted_batch : (List (List ℕ) → List ℕ → List ℕ) → Width → ℕ → List ℕ → List ℕ → List ℕ
crypted_batch c w n l i = crypted_blocks c w n l (slots w) i

abbrev pub encrypted_batch : Width → ℕ → List ℕ → List ℕ → List ℕ
encrypted_batch = crypted_batch cipher

abbrev pub decrypted_batch : Width → ℕ → List ℕ → List ℕ → List ℕ
decrypted_batch = crypted_batch inv_cipher

-- how many blocks some bytes are
unfoldable pub blocks_in : List ℕ → ℕ
blocks_in i = length i / 16

-- every block of an input
abbrev pub crypted : (List (List ℕ) → List ℕ → List ℕ) → Width → ℕ → List ℕ → List ℕ → List ℕ
crypted c w n l i = crypted_blocks c w n l (blocks_in i) i

abbrev pub encrypted : Width → ℕ → List ℕ → List ℕ → List ℕ
encrypted = crypted cipher

abbrev pub decrypted : Width → ℕ → List ℕ → List ℕ → List ℕ
decrypted = crypted inv_cipher
