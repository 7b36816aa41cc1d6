-- The parts are the blocks, one after the other; the words are their own values.
use lib.ListN.{get_or}
use Prim.Native.Nat.{ℕ}
use mathlib.Core.Path.{refl, ◌∙◌}
use Rattle.lanes.proofs.Machine.{array_fit}
use Rattle.lanes.proofs.Packing.{store_length, four_parts}
use Rattle.lanes.specs.Layout.{w64}
use Rattle.lanes.specs.Programs.{words, store_program}
use Rattle.word.proofs.Stored.{stored_values}
use Rattle.word.proofs.blocks64.U64Packed.store_blocks.Goals as goal

pub returns : goal.returns
returns c =
    let t : ℕ → ℕ = λ p. get_or c.args.t p 0 in
    stored_values w64 (array_fit w64 c.args.t _ c.well_formed.0.1.1)
    (four_parts (store_program (words w64) w64 t) (store_length w64 t) c.args.output.now c.requires
    (c.copy16.ensures ∙ c.block_bytes.ensures)
    (c.copy16-2.ensures ∙ c.block_bytes-2.ensures)
    (c.copy16-3.ensures ∙ c.block_bytes-3.ensures)
    (c.copy16-4.ensures ∙ c.block_bytes-4.ensures)
    _ _ _ refl refl refl)
