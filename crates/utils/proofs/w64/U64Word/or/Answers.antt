-- By std's law of the operator.
use Rattle.std.proofs.lemmas.Nat.{or_mod}
use Rattle.utils.proofs.w64.U64Word.or.Goals as goal

pub returns : goal.returns
returns c = or_mod c.args.self c.args.other 64
