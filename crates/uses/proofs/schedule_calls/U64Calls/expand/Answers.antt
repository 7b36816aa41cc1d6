-- The words are their values.
use borrow.Author.Rules.{rules}
use Rattle.lanes.specs.Layout.{w64}
use Rattle.lanes.proofs.Machine.{slice_fit}
use Rattle.uses.proofs.Laws.{expand_by_values}
use Rattle.uses.proofs.schedule_calls.U64Calls.expand.Goals as goal

pub returns : goal.returns
returns c =
    expand_by_values w64 _ _ (slice_fit w64 _ (search rules)) (slice_fit w64 _ c.type_inv.schedule) c.locker_aes_expand64.ensures
