-- Each turn copies the next block.
use Prim.Native.Nat.{◌-◌}
use Rattle.blocks.proofs.Parts.{BlocksDone}
use Rattle.blocks.proofs.copy_blocks.Given as goal

abbrev pub invariant-loop-i : goal.invariant-loop-i
invariant-loop-i l = BlocksDone l.from l.i l.initial.to l.to

abbrev pub decreases-loop-i : goal.decreases-loop-i
decreases-loop-i l = l.i-end - l.i
