-- Byte by byte, from the first.
use Rattle.cmac.proofs.Summing.{Summed}
use Rattle.cmac.proofs.xor.Given as goal

abbrev pub invariant-loop-i : goal.invariant-loop-i
invariant-loop-i l = Summed l.fn.x l.y l.byte-items l.i
