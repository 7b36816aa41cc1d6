-- Six calls, by `inv_mix_calls`.
use Rattle.lanes.proofs.Calls.{inv_mix_calls}
use Rattle.lanes.proofs.Values.{values_fit}
use Rattle.mix_columns.proofs.inv_mix_columns.Goals as goal

pub returns : goal.returns
returns g c =
    inv_mix_calls g.W.Word.width g.row.FORM c.requires (values_fit g.met.W.Word.fits c.args.state)
    c.first_rotates-b.ensures
    c.sums-c.ensures
    c.inv_mix_d-d.ensures
    c.inv_mix_e-e.ensures
    c.second_rotates-s.ensures
    c.inv_mix_outer.ensures
