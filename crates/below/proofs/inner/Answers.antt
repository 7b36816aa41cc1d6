-- The lengths are tested before.
use Rattle.std.proofs.Common.{◌∙◌}
use Rattle.aes.proofs.Answers.{a_key}
use Rattle.below.proofs.inner.Goals as goal

pub key_schedule-requires : goal.key_schedule-requires
key_schedule-requires g c =
    let r = a_key _ c.in_ok-key_size.ensures in
    record { keyed = r.keyed; words = c.if-branch.false ∙ r.words }
