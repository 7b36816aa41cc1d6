-- Each turn does the next batch.
use mathlib.Core.List.{map}
use Prim.Native.Nat.{◌-◌}
use Rattle.lanes.specs.Schedule.{reading}
use Rattle.cipher.proofs.Loop.{BatchesDone}
use Rattle.cipher.proofs.crypt_batches.Given as goal

abbrev pub invariant-loop-i : goal.invariant-loop-i
invariant-loop-i g l =
    let keys = reading g.W.Word.width l.schedule.rounds (map g.W.Word.value l.schedule.words.now) in
    BatchesDone g.W.Word.width (λ b. g.C.Crypt.crypt (keys b)) l.input l.i l.initial.output l.output

abbrev pub decreases-loop-i : goal.decreases-loop-i
decreases-loop-i g l = l.i-end - l.i
