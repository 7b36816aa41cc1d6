-- What the parts of the key expansion do to a schedule (docs/SCOPE.md, "The rounds"): the contracts of the inner functions cite these.
use Rattle.std.specs.Prelude.{◌≡◌, List, ℕ, zero, suc, ◌+◌, ◌-◌, ◌*◌, ◌≤◌, ◌<◌, get_or, length}
use Rattle.fips197.specs.Aes.{sixteen, key_words, sub_bytes, round_constants}
use Rattle.lanes.specs.Layout.{Width, slots}
use Rattle.lanes.specs.Sizes.{key_size}
use Rattle.lanes.specs.Schedule.{stored}
use Rattle.lanes.specs.Leaves.{add_constant, key_columns}

-- ---- what is asked of a call
-- a key of k bytes has a row in the table of sizes, and l words are its schedule
pub record SizedFor (k l : ℕ) : Type 0 where
  pub keyed : (key_size k).nk ≡ 0 → ⊥
  pub words : l ≡ (key_size k).words

-- l words are the schedule of a key of m blocks, one or two: AES-128 and AES-256
pub record Expands (m l : ℕ) : Type 0 where
  pub some : 1 ≤ m
  pub few : m ≤ 2
  pub words : l ≡ 8 * (4 * m + 7)

-- round key r has room in l words, and m others come before it
pub record Follows (m r l : ℕ) : Type 0 where
  pub some : 1 ≤ m
  pub old : m ≤ r
  pub room : 8 * r + 8 ≤ l

-- ---- one step
-- the pass over a round key that makes the next: SubBytes, and the round constant, or 0, at row 1, column 3
abbrev pub key_pass : ℕ → List ℕ → List ℕ
key_pass c k = add_constant c (sub_bytes k)

-- round key r of the words l, for each slot: columns of the key m before it and of what the pass makes of the key just before it, whose last
-- column is rotated by n rows
abbrev pub next_of : Width → ℕ → (List ℕ → List ℕ) → List ℕ → ℕ → ℕ → ℕ → List ℕ → List ℕ
next_of w n pass l r m b x = key_columns n (stored w l b (r - m)) (pass (stored w l b (r - 1)))

-- what step p of round constant j's adds, and the rows by which it rotates: only the first has the constant and a row
unfoldable pub step_constant : ℕ → ℕ → ℕ
step_constant j zero = get_or round_constants j 0
step_constant j (suc p) = 0

unfoldable pub step_rows : ℕ → ℕ
step_rows zero = 1
step_rows (suc p) = 0

-- ---- the schedule so far
-- in each slot, round keys 0 to n - 1 are the blocks of the key
pub record Loaded (w : Width) (n : ℕ) (key l : List ℕ) : Type 0 where
  pub at : (b : ℕ) → b < slots w → (r : ℕ) → r < n → stored w l b r ≡ sixteen key r

-- in each slot, round keys 0 to n - 1, where there are so many, are FIPS-197's of a key of Nk words
pub record Keys (w : Width) (nk n : ℕ) (key l : List ℕ) : Type 0 where
  pub at : (b : ℕ) → b < slots w → (r : ℕ) → r < n → 8 * r + 8 ≤ length l → stored w l b r ≡ sixteen (key_words nk key) r

-- where l has the first p round keys of a key, m has the first q
pub record Grows (w : Width) (nk p q : ℕ) (l m : List ℕ) : Type 0 where
  pub more : (key : List ℕ) → length key ≡ 4 * nk → Keys w nk p key l → Keys w nk q key m

-- in each slot, the round keys from 1 up to n, n not counted, went through f; the others are as they were
pub record Adjusted (w : Width) (f : ℕ → List ℕ → List ℕ) (n : ℕ) (l m : List ℕ) : Type 0 where
  pub first : (b : ℕ) → b < slots w → stored w m b 0 ≡ stored w l b 0
  pub inner : (b : ℕ) → b < slots w → (r : ℕ) → suc r < n → stored w m b (suc r) ≡ f (suc r) (stored w l b (suc r))
  pub outer : (b : ℕ) → b < slots w → (r : ℕ) → n ≤ r → 8 * r + 8 ≤ length l → stored w m b r ≡ stored w l b r
