-- What the door has tested before it makes a schedule, and what it then leaves.
use Rattle.std.specs.Prelude.{◌≡◌, List, ℕ, ◌%◌, length}
use Rattle.fips197.specs.Aes.{key_expansion}
use Rattle.lanes.specs.Layout.{w64}
use Rattle.lanes.specs.Sizes.{key_size}
use Rattle.lanes.specs.Schedule.{each_block, blocks_in}
use Rattle.calls.specs.Calls.{directed, key_words_of}

-- the key's size, with room for its schedule of s words; blocks, and room for as many
pub record Ready (direction rounds : ℕ) (key : List ℕ) (s i o : ℕ) : Type 0 where
  pub keyed : (key_size (length key)).nk ≡ 0 → ⊥
  pub rounds_are : rounds ≡ (key_size (length key)).rounds
  pub words : s ≡ (key_size (length key)).words
  pub whole : i % 16 ≡ 0
  pub output : o ≡ i

-- what `door_outcome` answers: FIPS-197 with the key, block by block
abbrev pub under_key : ℕ → List ℕ → List ℕ → List ℕ
under_key direction key input = each_block w64 (λ slot. directed direction (key_expansion (key_words_of key) key)) (blocks_in input) input
