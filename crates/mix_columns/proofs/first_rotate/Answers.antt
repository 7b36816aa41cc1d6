-- The last arm is `turned` at the form that is left.
use borrow.Author.Rules.{rules}
use native.Mathlib.Omega.{arith}
use Rattle.mix_columns.proofs.Rotations.{turned}
use Rattle.mix_columns.proofs.first_rotate.Goals as goal

pub returns-in_default : goal.returns-in_default
returns-in_default g c = turned g.W.Word.width 1 2 (g.W.Word.value c.args.x) {cols = c.args.form} (omega arith) (search rules)
