-- Before each turn the state is that of the rounds so far; a turn is four rounds, or one or three before the loop is left.
use mathlib.Core.List.{map}
use Prim.Native.Nat.{◌-◌}
use Rattle.cipher.proofs.Steps.{Upwards}
use Rattle.cipher.proofs.schedule.Schedule.do_rounds.Given as goal

abbrev pub invariant-loop-r : goal.invariant-loop-r
invariant-loop-r g l =
    let v = g.W.Word.value in
    Upwards g.W.Word.width (map v l.self.words.now) l.n (map v l.initial.state) (map v l.state) l.r

abbrev pub decreases-loop-r : goal.decreases-loop-r
decreases-loop-r g l = l.n - l.r
