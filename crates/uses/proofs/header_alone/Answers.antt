-- By the theorem that blocks are apart.
use borrow.Author.Rules.{rules}
use mathlib.Core.Path.{◌≡◌}
use Prim.Native.Nat.{◌+◌, ◌-◌, ◌*◌}
use native.Mathlib.Omega.{arith}
use Rattle.lanes.proofs.Machine.{byte_fit}
use Rattle.uses.proofs.Laws.{all_stops, none_there, header_alone}
use Rattle.uses.proofs.header_alone.Goals as goal

pub returns-then-number-ne0 : goal.returns-then-number-ne0
returns-then-number-ne0 c = all_stops (search (rules, byte_fit)) _ c.locker_aes-number.ensures c.if-number-ne0.true

pub returns-then-at-sealed : goal.returns-then-at-sealed
returns-then-at-sealed c = none_there (search (rules, byte_fit)) _ c.if-at-sealed.true

pub returns : goal.returns
returns c =
    let at = c.args.at in
    let k : 16 * at + 16 - 16 * at ≡ 16 = omega arith in
    header_alone (search (rules, byte_fit)) at k c.locker_aes-number.ensures c.locker_aes.ensures
