-- Before each turn, what is left to undo of the state is all that was to undo of the first.
use mathlib.Core.List.{map}
use Rattle.cipher.proofs.Steps.{Downwards}
use Rattle.cipher.proofs.schedule.Schedule.undo_rounds.Given as goal

abbrev pub invariant-loop-r : goal.invariant-loop-r
invariant-loop-r g l =
    let v = g.W.Word.value in
    Downwards g.W.Word.width (map v l.self.words.now) l.self.rounds (map v l.initial.state) (map v l.state) l.r

abbrev pub decreases-loop-r : goal.decreases-loop-r
decreases-loop-r g l = l.r
