-- By std's law of the operator.
use Rattle.std.proofs.lemmas.Nat.{xor_mod}
use Rattle.utils.proofs.w64.U64Word.xor.Goals as goal

pub returns : goal.returns
returns c = xor_mod c.args.self c.args.other 64
