-- Each answer by its law. (What is copied is the first three bytes of the tag, whether as a part of it or one by one.)
use borrow.Author.Rules.{rules}
use lib.ListN.{take}
use mathlib.Core.List.{map}
use mathlib.Core.Path.{◌∙◌, ap}
use Rattle.fips197.proofs.Blocks.{reads_part}
use Rattle.aes.specs.KeySize.{rounds_for}
use Rattle.aes.proofs.Answers.{valued, scheduled, check_refused, check_4, check_0}
use Rattle.aes.proofs.check_value.Goals as goal

pub returns-in_err-rounds : goal.returns-in_err-rounds
returns-in_err-rounds g c =
    let v = g.W.Word.value in
    check_refused (map v c.args.schedule.now) g.W.Word.width _ (valued rounds_for v c.args.schedule.now c.in_err-rounds.ensures) _ c.from_residual.ensures.1

pub returns-then-output-ne3 : goal.returns-then-output-ne3
returns-then-output-ne3 g c =
    let v = g.W.Word.value in
    check_4 (map v c.args.schedule.now) g.W.Word.width _ (valued rounds_for v c.args.schedule.now c.in_ok-rounds.ensures) c.if-output-ne3.true

pub invariant_of-schedule : goal.invariant_of-schedule
invariant_of-schedule g c = record { scheduled = scheduled _ c.in_ok-rounds.ensures }

pub returns : goal.returns
returns g c =
    let v = g.W.Word.value in
    let tag = c.tag_of_block-tag in
    let three = reads_part tag.result 3 0 (search rules) in
    check_0 (map v c.args.schedule.now) g.W.Word.width _ (valued rounds_for v c.args.schedule.now c.in_ok-rounds.ensures) c.if-output-ne3.false
    (c.copy_from_slice.ensures.after ∙ search (rules, three) ∙ ap (take 3) tag.ensures)
