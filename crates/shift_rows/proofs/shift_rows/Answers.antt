-- Each word is shifted by the program, whose slots the law says.
use borrow.Author.Rules.{rules}
use native.Mathlib.Omega.{arith}
use Rattle.std.proofs.lemmas.Grind.{common_steps}
use Rattle.lanes.proofs.Values.{values_fit}
use Rattle.shift_rows.proofs.Rows.{shift_does}
use Rattle.shift_rows.proofs.shift_rows.Goals as goal

pub returns : goal.returns
returns g c =
    shift_does g.W.Word.width g.W.Word.value c.args.state (search rules) (values_fit g.met.W.Word.fits c.args.state) g.row.N c.requires
    (grind (arith, common_steps))
