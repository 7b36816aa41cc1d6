-- What a call reads back of its room is zero.
use Rattle.host.proofs.Door.{blank_is_zero}
use Rattle.host.proofs.+burn.Goals as goal

pub returns-then-n-eq0 : goal.returns-then-n-eq0
returns-then-n-eq0 t c = blank_is_zero _ _ c.blank-room.ensures c.requires

pub returns-then-below-eq0 : goal.returns-then-below-eq0
returns-then-below-eq0 t c = blank_is_zero _ _ c.blank-room.ensures c.requires
