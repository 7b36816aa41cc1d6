-- By the theorem that a key of zeros is refused.
use Rattle.uses.proofs.Laws.{door_destroyed}
use Rattle.uses.proofs.destroyed.Goals as goal

pub returns : goal.returns
returns c = door_destroyed _ _ _ _ c.locker_aes.ensures
