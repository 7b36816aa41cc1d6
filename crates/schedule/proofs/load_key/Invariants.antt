-- Each turn puts one block of the key into every slot of its round key.
use mathlib.Core.List.{map}
use Prim.Native.Nat.{◌-◌, ◌/◌}
use lib.ListN.{length}
use Rattle.schedule.proofs.Growing.{LoadedSo}
use Rattle.schedule.proofs.load_key.Given as goal

abbrev pub invariant-loop-i : goal.invariant-loop-i
invariant-loop-i g l =
    LoadedSo g.W.Word.width (length l.key / 16) l.i l.key (map g.W.Word.value l.initial.rkeys) (map g.W.Word.value l.rkeys)

abbrev pub decreases-loop-i : goal.decreases-loop-i
decreases-loop-i g l = l.i-end - l.i
