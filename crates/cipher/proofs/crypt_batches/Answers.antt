-- Each turn does the next batch.
use borrow.Author.Rules.{rules}
use Prim.Native.Nat.{◌+◌, ◌-◌, ◌*◌}
use mathlib.Core.Path.{◌≡◌, ◌∙◌}
use native.Mathlib.Omega.{arith}
use Rattle.lanes.specs.Layout.{slots}
use Rattle.lanes.specs.Schedule.{crypted_batch}
use Rattle.cipher.proofs.Loop.{offset, fits, over, batches_none, batches_next, batches_all}
use Rattle.cipher.proofs.crypt_batches.Goals as goal

pub loop-i-init : goal.loop-i-init
loop-i-init g c = batches_none g.W.Word.width _ _

pub loop-i-preserved : goal.loop-i-preserved
unfolding crypted_batch
loop-i-preserved g c =
    let w = g.W.Word.width in
    let e : c.BATCH-batch.result ≡ 16 * slots w = c.BATCH-batch.ensures ∙ g.met.W.Packed.batch_is in
    let batch = c.BATCH-batch.result in
    let i = c.loop-i.i in
    let k : batch * i + batch - batch * i ≡ batch = omega arith in
    batches_next w _ c.args.input.now i (batch * i) (batch * i + batch - batch * i) (offset w e i) (k ∙ e)
    (omega (arith, k, fits w e i _ c.loop-i-test.true)) c.requires.output (c.batch.auto.output ∙ search rules)
    c.batch.ensures c.loop-i.invariant

pub returns : goal.returns
returns g c =
    let w = g.W.Word.width in
    let e : c.BATCH-batch.result ≡ 16 * slots w = c.BATCH-batch.ensures ∙ g.met.W.Packed.batch_is in
    batches_all w _ c.args.input.now c.loop-i.i (over w e c.loop-i.i _ c.requires.whole c.loop-i-test.false c.loop-i.invariant.few)
    c.requires.output c.loop-i.invariant
