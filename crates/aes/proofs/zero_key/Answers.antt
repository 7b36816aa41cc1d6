-- What is joined so far is zero exactly where those bytes are.
use borrow.Author.Rules.{rules}
use Rattle.aes.proofs.Joined.{joined_none, joined_more, joined_all}
use Rattle.aes.proofs.zero_key.Goals as goal

pub loop-byte-preserved : goal.loop-byte-preserved
loop-byte-preserved c = joined_more _ _ _ (search rules) c.loop-byte.invariant

pub returns : goal.returns
returns c = joined_all _ _ _ (search rules) c.loop-byte.invariant
