-- A direction that is neither is refused, and a refusal changes nothing.
use Rattle.uses.proofs.Laws.{door_refuses}
use Rattle.uses.proofs.refused.Goals as goal

pub returns : goal.returns
returns c = door_refuses _ _ _ c.locker_aes.ensures
