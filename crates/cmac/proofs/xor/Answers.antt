-- Byte by byte, from the first.
use borrow.Author.Rules.{rules}
use Rattle.cmac.proofs.Summing.{summed_none, summed_more, summed_all}
use Rattle.cmac.proofs.xor.Goals as goal

pub loop-i-preserved : goal.loop-i-preserved
loop-i-preserved c = summed_more _ (search rules) c.loop-i.invariant

pub returns : goal.returns
returns c = summed_all _ (search rules) c.loop-i.invariant
