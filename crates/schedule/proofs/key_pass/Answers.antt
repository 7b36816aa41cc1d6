-- The bare S-box, its NOTs and the constant.
use Rattle.schedule.proofs.Passes.{pass_is}
use Rattle.schedule.proofs.key_pass.Goals as goal

pub returns : goal.returns
returns g c = pass_is _ c.sub_bytes.ensures c.sub_bytes_nots.ensures c.add_round_constant.ensures
