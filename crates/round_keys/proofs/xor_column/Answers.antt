-- The distances are the program's.
use borrow.Author.Rules.{rules}
use mathlib.Core.Path.{◌≡◌}
use Prim.Native.Nat.{◌*◌}
use native.Mathlib.Omega.{arith}
use Rattle.lanes.specs.Layout.{quarter_row}
use Rattle.round_keys.proofs.xor_column.Goals as goal

pub returns : goal.returns
returns g c =
    let q = quarter_row g.W.Word.width in
    let d1 : c.ror_distance-2.result ≡ q = omega (arith, c.ror_distance-2.ensures) in
    let d2 : c.ror_distance-3.result ≡ q * 2 = omega (arith, c.ror_distance-3.ensures) in
    let d3 : c.ror_distance-4.result ≡ q * 3 = omega (arith, c.ror_distance-4.ensures) in
    search rules
