-- Only the first step of a turn turns a row.
use mathlib.Core.Path.{refl}
use Rattle.schedule.proofs.Growing.{rows_later}
use Rattle.schedule.specs.Steps.{step_rows}
use Rattle.schedule.proofs.step_rows.Goals as goal

pub returns-then-p-eq0 : goal.returns-then-p-eq0
unfolding step_rows
returns-then-p-eq0 c = rw c.if-p-eq0.true refl

pub returns-else-p-eq0 : goal.returns-else-p-eq0
returns-else-p-eq0 c = rows_later _ c.if-p-eq0.false
