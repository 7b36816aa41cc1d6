-- Reading a schedule undoes writing it, round key by round key; so the schedule of a key reads as FIPS-197's round keys in every slot, and no
-- other words of the width do: unpacking loses nothing, and neither does the rule of a round key. Assumes nothing.
use mathlib.Core.Path.{◌≡◌, sym, ap, ◌∙◌}
use mathlib.Core.List.{List, [], map}
use Prim.Native.Nat.{ℕ, zero, suc, ◌+◌, ◌*◌, ◌≤◌, ◌<◌}
use native.Mathlib.Nat.{zero-add}
use native.Mathlib.Omega.{arith}
use lib.ListN.{get_or, drop, length}
use Rattle.fips197.specs.Bytes.{Fit}
use Rattle.fips197.specs.Aes.{range, sixteen, rounds_for, key_words, key_expansion}
use Rattle.fips197.proofs.Blocks.{fit_take, fit_drop}
use Rattle.fips197.proofs.Keys.{key_at, key_block, expansion_one}
use Rattle.lanes.specs.Layout.{Width, bits, slots, slot, pack, each_slot}
use Rattle.lanes.specs.Schedule.{words_at, stored, read_key, reading, write_key, schedule_of}
use Rattle.lanes.proofs.Packing.{slot_pack, slots_one, pack_length, pack_fits, stored_block}
use Rattle.lanes.proofs.Parts.{words_length}
use Rattle.lanes.proofs.EqualParts.{joined_length, joined_at, joined_fit, joined_same, parts_one}
use Rattle.lanes.proofs.EachBlock.{some_slot}
use Rattle.lanes.proofs.KeyRule.{write_block, read_write, write_read}

-- ---- a list of round keys
map_at : {A : Type 0} (f : ℕ → A) (d : A) (n i r : ℕ) → r < n → get_or (map f (range i n)) r d ≡ f (i + r)
map_at f d zero i r h = absurd (omega arith)
map_at f d (suc n) i zero h = let e : i ≡ i + 0 = omega arith in ap f e
map_at f d (suc n) i (suc r) h = let e : suc i + r ≡ i + suc r = omega arith in map_at f d n (suc i) r (omega arith) ∙ ap f e

pub reading_at : (w : Width) (n : ℕ) (l : List ℕ) (b r : ℕ) → r < n + 1 → get_or (reading w n l b) r [] ≡ read_key n r (stored w l b r)
unfolding reading
reading_at w n l b r h = map_at (λ r. read_key n r (stored w l b r)) [] (n + 1) 0 r h ∙ ap (λ (r : ℕ). read_key n r (stored w l b r)) (zero-add r)

-- ---- the reading loses nothing
words_fit : {W : ℕ} (l : List ℕ) (at : ℕ) → Fit W l → Fit W (words_at l at)
unfolding words_at
words_fit l at f = fit_take 8 (drop at l) (fit_drop at l f)

-- words of the width with the same round keys in every slot are the same
pub stored_one : (w : Width) (n : ℕ) (l m : List ℕ) → length l ≡ 8 * n → Fit (bits w) l → length m ≡ 8 * n → Fit (bits w) m
    → ((b : ℕ) → b < slots w → (r : ℕ) → r < n → stored w l b r ≡ stored w m b r) → l ≡ m
unfolding stored words_at
stored_one w n l m e f e' f' h =
    parts_one 8 n l m e e' (λ r k.
    slots_one w
    (words_length l (8 * r) (omega arith)) (words_fit l (8 * r) f)
    (words_length m (8 * r) (omega arith)) (words_fit m (8 * r) f')
    (λ b c. h b c r k))

pub reading_one : (w : Width) (n : ℕ) (l m : List ℕ) → length l ≡ 8 * (n + 1) → Fit (bits w) l → length m ≡ 8 * (n + 1) → Fit (bits w) m
    → ((b : ℕ) → b < slots w → reading w n l b ≡ reading w n m b) → l ≡ m
reading_one w n l m e f e' f' h = stored_one w (n + 1) l m e f e' f' (λ b c r k.
    sym (write_read n r (stored_block w l b r))
    ∙ ap (write_key n r) (sym (reading_at w n l b r k) ∙ ap (λ (ks : List (List ℕ)). get_or ks r []) (h b c) ∙ reading_at w n m b r k)
    ∙ write_read n r (stored_block w m b r))

-- ---- the schedule of a key
module _ (w : Width) (nk : ℕ) (key : List ℕ) where
  -- the eight words of round key r
  abbrev key_part : ℕ → List ℕ
  key_part r = pack w (each_slot w (λ b. write_key (rounds_for nk) r (get_or (key_expansion nk key) r [])))

  pub schedule_length : length (schedule_of w nk key) ≡ 8 * (rounds_for nk + 1)
  unfolding schedule_of
  schedule_length = joined_length 8 key_part (rounds_for nk + 1) 0 (λ r h. pack_length w _)

  pub schedule_fits : Fit (bits w) (schedule_of w nk key)
  unfolding schedule_of
  schedule_fits = joined_fit key_part (rounds_for nk + 1) 0 (λ r h. pack_fits w _)

module _ (w : Width) (nk : ℕ) (key : List ℕ) (pos : 1 ≤ nk) (long : length key ≡ 4 * nk) (fits : Fit 8 key) where
  -- each slot holds the round key as it is written
  pub schedule_stored : (b : ℕ) → b < slots w → (r : ℕ) → r < rounds_for nk + 1
      → stored w (schedule_of w nk key) b r ≡ write_key (rounds_for nk) r (sixteen (key_words nk key) r)
  unfolding schedule_of stored words_at
  schedule_stored b c r h =
      let k : List ℕ = get_or (key_expansion nk key) r [] in
      let e : k ≡ sixteen (key_words nk key) r = key_at nk key r h in
      ap (λ (ws : List ℕ). slot w ws b)
      (joined_at 8 (key_part w nk key) (rounds_for nk + 1) 0 (λ r h. pack_length w _) r h ∙ ap (key_part w nk key) (zero-add r))
      ∙ slot_pack w (λ b. write_key (rounds_for nk) r k) (λ b. write_block (rounds_for nk) r (rw e (key_block nk key pos long fits r h))) b c
      ∙ ap (write_key (rounds_for nk) r) e

  -- and reads as FIPS-197's round keys
  pub schedule_reads : (b : ℕ) → b < slots w → reading w (rounds_for nk) (schedule_of w nk key) b ≡ key_expansion nk key
  unfolding reading key_expansion
  schedule_reads b c =
      joined_same (λ r. read_key (rounds_for nk) r (stored w (schedule_of w nk key) b r)) (sixteen (key_words nk key)) (rounds_for nk + 1) 0 (λ r h.
      let y : r < rounds_for nk + 1 = omega arith in
      ap (read_key (rounds_for nk) r) (schedule_stored b c r y)
      ∙ read_write (rounds_for nk) r (key_block nk key pos long fits r y))

  -- so one statement settles each word: words of the width that hold the round keys as they are written are the schedule,
  pub schedule_is : (l : List ℕ) → length l ≡ 8 * (rounds_for nk + 1) → Fit (bits w) l
      → ((b : ℕ) → b < slots w → (r : ℕ) → r < rounds_for nk + 1 → stored w l b r ≡ write_key (rounds_for nk) r (sixteen (key_words nk key) r))
      → l ≡ schedule_of w nk key
  schedule_is l e f h =
      stored_one w (rounds_for nk + 1) l (schedule_of w nk key) e f (schedule_length w nk key) (schedule_fits w nk key)
      (λ b c r k. h b c r k ∙ sym (schedule_stored b c r k))

  -- and so are words that read so in every slot
  pub schedule_only : (l : List ℕ) → length l ≡ 8 * (rounds_for nk + 1) → Fit (bits w) l
      → ((b : ℕ) → b < slots w → reading w (rounds_for nk) l b ≡ key_expansion nk key) → l ≡ schedule_of w nk key
  schedule_only l e f h =
      reading_one w (rounds_for nk) l (schedule_of w nk key) e f (schedule_length w nk key) (schedule_fits w nk key)
      (λ b c. h b c ∙ sym (schedule_reads b c))

-- two different keys of one length never share a schedule
pub schedule_one : (w : Width) (nk : ℕ) (k l : List ℕ) → 1 ≤ nk → nk ≤ 8 → length k ≡ 4 * nk → Fit 8 k → length l ≡ 4 * nk → Fit 8 l
    → schedule_of w nk k ≡ schedule_of w nk l → k ≡ l
schedule_one w nk k l p q e f e' f' h =
    expansion_one nk k l p q e e'
    (sym (schedule_reads w nk k p e f 0 (some_slot w))
    ∙ ap (λ (s : List ℕ). reading w (rounds_for nk) s 0) h
    ∙ schedule_reads w nk l p e' f' 0 (some_slot w))
