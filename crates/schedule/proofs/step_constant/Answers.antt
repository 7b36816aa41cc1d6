-- The table is FIPS-197's list, and only the first step of a turn reads it.
use mathlib.Core.Path.{refl}
use Rattle.fips197.specs.Aes.{round_constants}
use Rattle.schedule.proofs.Growing.{constant_later}
use Rattle.schedule.specs.Steps.{step_constant}
use Rattle.schedule.proofs.step_constant.Goals as goal

pub returns-then-p-eq0 : goal.returns-then-p-eq0
unfolding round_constants step_constant
returns-then-p-eq0 c = rw c.if-p-eq0.true refl

pub returns-else-p-eq0 : goal.returns-else-p-eq0
returns-else-p-eq0 c = constant_later _ _ c.if-p-eq0.false
