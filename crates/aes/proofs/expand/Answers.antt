-- Each answer by its law.
use borrow.Author.Rules.{rules}
use lib.ListN.{length-map}
use mathlib.Core.List.{map}
use mathlib.Core.Path.{sym, ◌∙◌}
use Rattle.aes.proofs.Answers.{a_key, expand_refused, expand_6, expand_2, expand_0}
use Rattle.aes.proofs.expand.Goals as goal

pub returns-in_err-size : goal.returns-in_err-size
returns-in_err-size g c = expand_refused g.W.Word.width _ _ c.in_err-size.ensures _ c.from_residual.ensures.1

pub returns-then-zero_key : goal.returns-then-zero_key
returns-then-zero_key g c = expand_6 g.W.Word.width _ _ c.in_ok-size.ensures c.if-zero_key.ensures

pub returns-then-schedule-size : goal.returns-then-schedule-size
returns-then-schedule-size g c =
    let long = length-map c.args.schedule.now g.W.Word.value in
    expand_2 g.W.Word.width _ _ c.in_ok-size.ensures (search rules) (λ e. c.if-schedule-size.true (sym long ∙ e))

pub key_schedule-requires : goal.key_schedule-requires
key_schedule-requires g c =
    let r = a_key _ c.in_ok-size.ensures in
    record { keyed = r.keyed; words = c.if-schedule-size.false ∙ r.words }

pub returns : goal.returns
returns g c =
    let long = length-map c.args.schedule.now g.W.Word.value in
    expand_0 g.W.Word.width _ (map g.W.Word.value c.args.schedule.now) c.in_ok-size.ensures c.if-zero_key.ensures (long ∙ c.if-schedule-size.false)
    c.key_schedule.ensures
