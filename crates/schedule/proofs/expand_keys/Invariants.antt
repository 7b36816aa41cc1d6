-- A round constant leaves m round keys more, and each step of it one; there are none where the schedule ends.
use mathlib.Core.List.{map}
use Prim.Native.Nat.{◌+◌, ◌-◌, ◌*◌}
use Rattle.schedule.proofs.Growing.{AtConstant, AtStep}
use Rattle.schedule.proofs.expand_keys.Given as goal

abbrev pub invariant-loop-p : goal.invariant-loop-p
invariant-loop-p g l =
    AtStep g.W.Word.width l.m (l.m * (l.rcon + 1)) l.p (map g.W.Word.value l.initial.rkeys) (map g.W.Word.value l.rkeys)

abbrev pub decreases-loop-p : goal.decreases-loop-p
decreases-loop-p g l = l.m - l.p

abbrev pub invariant-loop-rcon : goal.invariant-loop-rcon
invariant-loop-rcon g l =
    AtConstant g.W.Word.width l.m (l.m * (l.rcon + 1)) l.rcon (map g.W.Word.value l.initial.rkeys) (map g.W.Word.value l.rkeys)

abbrev pub decreases-loop-rcon : goal.decreases-loop-rcon
decreases-loop-rcon g l = 10 - l.rcon
