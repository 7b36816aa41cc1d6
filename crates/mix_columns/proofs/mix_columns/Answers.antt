-- Four calls, by `mix_calls`.
use Rattle.lanes.proofs.Calls.{mix_calls}
use Rattle.lanes.proofs.Values.{values_fit}
use Rattle.mix_columns.proofs.mix_columns.Goals as goal

pub returns : goal.returns
returns g c =
    mix_calls g.W.Word.width g.row.FORM c.requires (values_fit g.met.W.Word.fits c.args.state)
    c.first_rotates-b.ensures
    c.sums-c.ensures
    c.second_rotates-s.ensures
    c.mix_outer.ensures
