-- Less than a batch is a part; else the full batches are what the first blocks become, and the part is what the rest does.
use borrow.Author.Rules.{rules}
use mathlib.Core.Path.{◌≡◌, refl, ◌∙◌}
use Prim.Native.Nat.{◌-◌, ◌*◌, ◌/◌}
use native.Mathlib.Omega.{arith}
use lib.ListN.{length}
use Rattle.lanes.specs.Layout.{slots}
use Rattle.cipher.proofs.Loop.{offset, under}
use Rattle.blocks.proofs.Parts.{rest_done}
use Rattle.blocks.proofs.crypt.Goals as goal

pub returns : goal.returns
returns g c =
    let w = g.W.Word.width in
    let e : c.BATCH-batch.result ≡ 16 * slots w = c.BATCH-batch.ensures ∙ g.met.W.Packed.batch_is in
    let i = c.args.input.now in
    let batch = c.BATCH-batch.result in
    let m = length i / batch in
    rest_done w _ i c.args.output.now m (batch * m) (batch * m - 0) (offset w e m) (omega arith) (under w e (length i)) c.requires.output
    (c.crypt_batches.auto.output ∙ search rules) c.crypt_batches.ensures (length i - batch * m) refl c.requires.whole
    (c.crypt_part-2.auto.output ∙ search rules) c.crypt_part-2.ensures
