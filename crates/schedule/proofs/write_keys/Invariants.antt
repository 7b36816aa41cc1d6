-- The round keys passed so far are adjusted, the others as they were.
use mathlib.Core.List.{map}
use Prim.Native.Nat.{◌+◌, ◌-◌, ◌≤◌}
use Rattle.lanes.specs.Schedule.{write_key}
use Rattle.schedule.proofs.Adjusting.{AdjustedSo}
use Rattle.schedule.proofs.write_keys.Given as goal

abbrev pub invariant-loop-r : goal.invariant-loop-r
invariant-loop-r g l =
    (l.r ≤ l.n)
    × AdjustedSo g.W.Word.width (write_key l.n) (l.n + 1) l.r (map g.W.Word.value l.initial.rkeys) (map g.W.Word.value l.rkeys)

abbrev pub decreases-loop-r : goal.decreases-loop-r
decreases-loop-r g l = l.n - l.r
