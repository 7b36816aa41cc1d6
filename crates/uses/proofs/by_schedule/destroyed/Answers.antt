-- By the theorem that a key of zeros is refused.
use Rattle.uses.proofs.Laws.{expand_destroyed}
use Rattle.uses.proofs.by_schedule.destroyed.Goals as goal

pub returns : goal.returns
returns g c = expand_destroyed _ _ _ c.expand.ensures
