-- The words are their values.
use borrow.Author.Rules.{rules}
use Rattle.lanes.specs.Layout.{w64}
use Rattle.lanes.proofs.Machine.{slice_fit}
use Rattle.host.proofs.Door.{expand_valued}
use Rattle.host.proofs.locker_aes_expand64.Goals as goal

pub returns : goal.returns
returns c =
    let old = c.args.schedule.now in
    expand_valued w64 c.args.key.now old (slice_fit w64 _ (search rules)) (slice_fit w64 _ c.type_inv.schedule) c.number.ensures c.expand.ensures
