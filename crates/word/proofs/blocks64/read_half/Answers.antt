-- std's word of eight bytes is the program's.
use borrow.Author.Rules.{rules}
use mathlib.Core.Path.{◌∙◌}
use lib.ListN.{get_or}
use Rattle.lanes.proofs.Machine.{byte_fit}
use Rattle.word.proofs.Little.{eight_bytes}
use Rattle.word.proofs.blocks64.read_half.Goals as goal

pub returns : goal.returns
returns c =
    let bytes = byte_fit c.args.input.now (search rules) in
    c.from_le_bytes.ensures ∙ eight_bytes (λ p. get_or c.args.input.now p 0) c.args.at bytes.at
