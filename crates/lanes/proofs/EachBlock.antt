-- Blocks one after the other, each through what its slot does: block j of the outcome is that of block j, so what undoes each block undoes all.
-- Once over the width and the number of blocks, with slot j mod slots. Assumes nothing.
use mathlib.Core.Path.{◌≡◌, sym, ap, ◌∙◌}
use mathlib.Core.List.{List}
use Prim.Native.Nat.{ℕ, ◌+◌, ◌*◌, ◌%◌, ◌<◌}
use native.Mathlib.Nat.{zero-add, mod-eq_of_lt}
use native.Mathlib.Omega.{arith}
use lib.Dec.{lit<}
use lib.ListN.{drop}
use Rattle.fips197.specs.Bytes.{Block, Data}
use Rattle.fips197.specs.Aes.{sixteen}
use Rattle.fips197.proofs.Blocks.{fit_take, fit_drop}
use Rattle.lanes.specs.Layout.{Width, w32, w64, slots, slot, join}
use Rattle.lanes.specs.Schedule.{each_block}
use Rattle.lanes.specs.Leaves.{unpacked}
use Rattle.lanes.proofs.EqualParts.{joined_length, joined_at, joined_fit, joined_same, part_length, parts_one}

-- there is a slot 0
pub some_slot : (w : Width) → 0 < slots w
some_slot w32 = lit< tt
some_slot w64 = lit< tt

-- block j of k blocks
pub block_of : {k : ℕ} {i : List ℕ} → Data k i → (j : ℕ) → j < k → Block (sixteen i j)
block_of {k} {i} d j h = record { long = part_length 16 k i d.long j h; bytes = fit_take 16 (drop (16 * j) i) (fit_drop (16 * j) i d.bytes) }

-- k blocks with the same blocks are the same
pub data_one : {k : ℕ} {i j : List ℕ} → Data k i → Data k j → ((b : ℕ) → b < k → sixteen i b ≡ sixteen j b) → i ≡ j
data_one {k} {i} {j} d e h = parts_one 16 k i j d.long e.long h

-- what a slot does keeps blocks
pub record Keeping (f : ℕ → List ℕ → List ℕ) : Type 0 where
  pub keeps : (b : ℕ) {x : List ℕ} → Block x → Block (f b x)

module _ (w : Width) {f : ℕ → List ℕ → List ℕ} (keeping : Keeping f) {k : ℕ} {i : List ℕ} (d : Data k i) where
  each_block_is_block : (j : ℕ) → j < 0 + k → Block (f (j % slots w) (sixteen i j))
  each_block_is_block j h = keeping.keeps (j % slots w) (block_of d j (omega arith))

  pub each_at : (j : ℕ) → j < k → sixteen (each_block w f k i) j ≡ f (j % slots w) (sixteen i j)
  unfolding each_block
  each_at j h =
      joined_at 16 (λ j. f (j % slots w) (sixteen i j)) k 0 (λ r y. (each_block_is_block r y).long) j h
      ∙ ap (λ (j : ℕ). f (j % slots w) (sixteen i j)) (zero-add j)

  pub each_data : Data k (each_block w f k i)
  unfolding each_block
  each_data = record {
    long = joined_length 16 (λ j. f (j % slots w) (sixteen i j)) k 0 (λ r y. (each_block_is_block r y).long);
    bytes = joined_fit (λ j. f (j % slots w) (sixteen i j)) k 0 (λ r y. (each_block_is_block r y).bytes);
  }

-- what undoes each block undoes all
pub each_undone : (w : Width) {f g : ℕ → List ℕ → List ℕ} {k : ℕ} {i : List ℕ} → Keeping f → Keeping g → ((b : ℕ) (x : List ℕ) → Block x → g b (f b x) ≡ x)
    → Data k i → each_block w g k (each_block w f k i) ≡ i
each_undone w {f} {g} {k} {i} p q undoes d = data_one (each_data w q (each_data w p d)) d (λ j h.
    each_at w q (each_data w p d) j h ∙ ap (g (j % slots w)) (each_at w p d j h) ∙ undoes (j % slots w) (sixteen i j) (block_of d j h))

-- a full batch: slot b of a state has become that of block b, so the state is unpacked to all of them
pub each_slot_batch : (w : Width) (f : ℕ → List ℕ → List ℕ) (i ws : List ℕ)
    → ((b : ℕ) → b < slots w → slot w ws b ≡ f b (sixteen i b)) → unpacked w ws ≡ each_block w f (slots w) i
unfolding each_block unpacked
each_slot_batch w f i ws e = ap join (joined_same (slot w ws) (λ j. f (j % slots w) (sixteen i j)) (slots w) 0 (λ b h.
    let y : b < slots w = omega arith in
    e b y ∙ ap (λ (m : ℕ). f m (sixteen i b)) (sym (mod-eq_of_lt y))))
