-- The last arm is `turned` at two columns, which an odd form says.
use borrow.Author.Rules.{rules}
use Rattle.mix_columns.proofs.Rotations.{turned, odd}
use Rattle.mix_columns.proofs.second_rotate.Goals as goal

pub returns-in_default : goal.returns-in_default
returns-in_default g c = turned g.W.Word.width 2 1 (g.W.Word.value c.args.x) (odd c.args.form c.requires (search rules)) (search rules)
