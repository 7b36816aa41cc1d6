-- Each inverse shift is the row shift that the code makes.
use mathlib.Core.List.{map}
use native.Mathlib.Omega.{arith}
use Rattle.shift_rows.proofs.Rows.{back_0, back_1, back_2, back_3}
use Rattle.shift_rows.proofs.inv_shift_rows.Goals as goal

pub returns-in-1 : goal.returns-in-1
returns-in-1 g c = back_1 g.W.Word.width (omega arith) c.shift_rows.ensures

pub returns-in-2 : goal.returns-in-2
returns-in-2 g c = back_2 g.W.Word.width (omega arith) c.shift_rows-in-2.ensures

pub returns-in-3 : goal.returns-in-3
returns-in-3 g c = back_3 g.W.Word.width (omega arith) c.shift_rows-in-3.ensures

pub returns-in_default : goal.returns-in_default
returns-in_default g c = back_0 g.W.Word.width (map g.W.Word.value c.args.state) (omega arith)
