-- The words that are loaded are round key r.
use Rattle.cipher.proofs.Steps.{key_loaded}
use Rattle.cipher.proofs.schedule.Schedule.add_key.Goals as goal

pub returns : goal.returns
returns g c = key_loaded g.W.Word.width _ c.args.r c.load.ensures c.add_round_key.ensures
