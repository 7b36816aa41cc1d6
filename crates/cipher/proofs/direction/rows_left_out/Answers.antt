-- n modulo four is 2 or, n being even, 0.
use native.Mathlib.Omega.{arith}
use Rattle.lanes.specs.Schedule.{rows_shifted}
use Rattle.lanes.proofs.Calls.{numbered}
use Rattle.cipher.proofs.Steps.{shifted_none}
use Rattle.cipher.proofs.direction.rows_left_out.Goals as goal

pub returns-else-n-eq2 : goal.returns-else-n-eq2
returns-else-n-eq2 g c = shifted_none _ (omega arith)
