-- The two swaps are the program's, by `swaps`.
use Prim.Native.Nat.{◌/◌}
use native.Mathlib.Omega.{arith}
use Rattle.std.proofs.lemmas.Grind.{common_steps}
use Rattle.shift_rows.proofs.Rows.{swaps}
use Rattle.shift_rows.proofs.swap_twice.Goals as goal

pub returns : goal.returns
returns g c =
    swaps g.W.Word.width _ _ _ (c.BITS.result / 8) (c.BITS-2.result / 16) _ _ c.delta_swap_1.ensures c.delta_swap_1-2.ensures
    (grind (arith, common_steps)) (grind (arith, common_steps)) (grind (arith, common_steps))
