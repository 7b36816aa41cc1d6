-- Each answer by its law.
use mathlib.Core.Bool.{not}
use mathlib.Core.List.{map}
use mathlib.Core.Path.{sym, ap}
use Rattle.calls.proofs.WholeBlocks.{whole_rest}
use Rattle.aes.specs.KeySize.{rounds_for}
use Rattle.aes.proofs.Answers.{valued, scheduled, crypt_refused, crypt_3, crypt_4, crypt_0}
use Rattle.aes.proofs.crypt.Goals as goal

pub returns-in_err-rounds : goal.returns-in_err-rounds
returns-in_err-rounds g c =
    let v = g.W.Word.value in
    crypt_refused (map v c.args.schedule.now) g.C.Crypt.crypt g.W.Word.width _ _ (valued rounds_for v c.args.schedule.now c.in_err-rounds.ensures) _
    c.from_residual.ensures.1

pub returns-then-not-whole_blocks : goal.returns-then-not-whole_blocks
returns-then-not-whole_blocks g c =
    let v = g.W.Word.value in
    crypt_3 (map v c.args.schedule.now) g.C.Crypt.crypt g.W.Word.width _ _ (valued rounds_for v c.args.schedule.now c.in_ok-rounds.ensures)
    c.if-not-whole_blocks.ensures

pub returns-then-output-input : goal.returns-then-output-input
returns-then-output-input g c =
    let v = g.W.Word.value in
    crypt_4 (map v c.args.schedule.now) g.C.Crypt.crypt g.W.Word.width _ _ (valued rounds_for v c.args.schedule.now c.in_ok-rounds.ensures)
    c.if-not-whole_blocks.ensures c.if-output-input.true

pub invariant_of-schedule : goal.invariant_of-schedule
invariant_of-schedule g c = record { scheduled = scheduled _ c.in_ok-rounds.ensures }

pub crypt-requires-clause-whole : goal.crypt-requires-clause-whole
crypt-requires-clause-whole g c = whole_rest _ (ap not (sym c.if-not-whole_blocks.ensures))

pub returns : goal.returns
returns g c =
    let v = g.W.Word.value in
    crypt_0 (map v c.args.schedule.now) g.C.Crypt.crypt g.W.Word.width _ _ (valued rounds_for v c.args.schedule.now c.in_ok-rounds.ensures)
    c.if-not-whole_blocks.ensures c.if-output-input.false c.crypt.ensures
