-- The words are their values.
use borrow.Author.Rules.{rules}
use Rattle.lanes.specs.Layout.{w32}
use Rattle.lanes.proofs.Machine.{slice_fit}
use Rattle.host.proofs.Door.{expand_valued}
use Rattle.host.proofs.locker_aes_expand32.Goals as goal

pub returns : goal.returns
returns c =
    let old = c.args.schedule.now in
    expand_valued w32 c.args.key.now old (slice_fit w32 _ (search rules)) (slice_fit w32 _ c.type_inv.schedule) c.number.ensures c.expand.ensures
