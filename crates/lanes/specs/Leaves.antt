-- What the inner functions promise: each in its own words of FIPS-197, slot by slot. No public promise reaches this file.
-- The missing 63 of the S-box circuits is here and in the reading of a schedule only.
use Rattle.std.specs.Prelude.{◌≡◌, List, ◌++◌, ℕ, zero, suc, ◌+◌, ◌<◌, take, drop, set, replicate}
use Rattle.std.specs.Int.Bits.{bit_xor}
use Rattle.fips197.specs.Aes.{block, cell, sixteen, sub_bytes, inv_sub_bytes, mix_columns, inv_mix_columns, add_round_key}
use Rattle.lanes.specs.Layout.{Width, slots, slot, each_slot, join}
use Rattle.lanes.specs.Schedule.{words_at, add63, rows_shifted, rows_unshifted}

-- ---- states of eight words

-- in each slot, the block of r is f of the block of s; f may go by the slot
pub record Does (w : Width) (f : ℕ → List ℕ → List ℕ) (s r : List ℕ) : Type 0 where
  pub each : (b : ℕ) → b < slots w → slot w r b ≡ f b (slot w s b)

-- the same in every slot
abbrev pub all : (List ℕ → List ℕ) → ℕ → List ℕ → List ℕ
all f b x = f x

-- bitslice: slot b of the words holds block b of the bytes
pub record Packs (w : Width) (l ws : List ℕ) : Type 0 where
  pub each : (b : ℕ) → b < slots w → slot w ws b ≡ sixteen l b

-- inv_bitslice: the slots one after the other
unfoldable pub unpacked : Width → List ℕ → List ℕ
unpacked w ws = join (each_slot w (slot w ws))

-- ---- what a leaf does to a block

-- sub_bytes: SubBytes without its constant 63
unfoldable pub bare_sub_bytes : List ℕ → List ℕ
bare_sub_bytes s = add63 (sub_bytes s)

-- inv_sub_bytes: the exact inverse of that
unfoldable pub inv_bare_sub_bytes : List ℕ → List ℕ
inv_bare_sub_bytes s = inv_sub_bytes (add63 s)

-- mix_columns, form i: MixColumns between i row shifts and their undoing
unfoldable pub mix_form : ℕ → List ℕ → List ℕ
mix_form i s = rows_unshifted i (mix_columns (rows_shifted i s))

-- inv_mix_columns, form i
unfoldable pub inv_mix_form : ℕ → List ℕ → List ℕ
inv_mix_form i s = rows_unshifted i (inv_mix_columns (rows_shifted i s))

-- add_round_key: each slot its own round key
abbrev pub add_key_of : Width → List ℕ → ℕ → List ℕ → List ℕ
add_key_of w key b x = add_round_key x (slot w key b)

-- a round constant, added to the byte at row 1, column 3: xor_columns rotates it to row 0 of the next key's column 0
unfoldable pub add_constant : ℕ → List ℕ → List ℕ
add_constant x s = add_round_key s (set (replicate 16 0) 13 x)

-- xor_columns, one step of the key expansion: column 0 is prev's plus column 3 of t, its rows turned by n;
-- each further column is prev's plus the new one before it
abbrev pub key_column : ℕ → List ℕ → List ℕ → ℕ → ℕ → ℕ
key_column n prev t r zero = bit_xor (cell prev r 0) (cell t (r + n) 3)
key_column n prev t r (suc c) = bit_xor (cell prev r (suc c)) (key_column n prev t r c)

unfoldable pub key_columns : ℕ → List ℕ → List ℕ → List ℕ
key_columns n prev t = block (key_column n prev t)

-- xor_columns: each slot's next key, from the words of the key before; n rows are turned
abbrev pub next_key_of : Width → ℕ → List ℕ → ℕ → List ℕ → List ℕ
next_key_of w n prev b x = key_columns n (slot w prev b) x

-- ---- parts of a schedule

-- the list with other words from an offset on, and nothing else changed
unfoldable pub put : List ℕ → ℕ → List ℕ → List ℕ
put l at ws = take at l ++ (ws ++ drop 8 (drop at l))

-- the eight words at an offset went through f, each slot, and nothing else of the schedule changed
pub record Changes (w : Width) (f : ℕ → List ℕ → List ℕ) (at : ℕ) (l r : List ℕ) : Type 0 where
  pub here : Does w f (words_at l at) (words_at r at)
  pub only : r ≡ put l at (words_at r at)
