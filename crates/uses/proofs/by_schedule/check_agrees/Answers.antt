-- By the theorem that the check value is made of two encryptions in slot 0.
use borrow.Author.Rules.{rules}
use Rattle.lanes.proofs.Machine.{byte_fit}
use Rattle.lanes.proofs.Values.{values_fit}
use Rattle.uses.proofs.Laws.{check_stops, of_zeros, first_stops, check_agrees}
use Rattle.uses.proofs.by_schedule.check_agrees.Goals as goal

pub returns-then-number-ne0 : goal.returns-then-number-ne0
returns-then-number-ne0 g c =
    let words = values_fit g.met.W.Calls.fits c.args.schedule.now in
    check_stops _ (search (rules, byte_fit, words)) c.check_value-number.ensures c.if-number-ne0.true

pub returns-then-made-ne0 : goal.returns-then-made-ne0
returns-then-made-ne0 g c =
    let words = values_fit g.met.W.Calls.fits c.args.schedule.now in
    first_stops _ (search (rules, byte_fit, words)) (of_zeros _ _ _ c.zeros.ensures c.encrypt-made.ensures) c.if-made-ne0.true

pub returns : goal.returns
returns g c =
    let words = values_fit g.met.W.Calls.fits c.args.schedule.now in
    check_agrees _ (search (rules, byte_fit, words)) c.check_value-number.ensures
    (of_zeros _ _ _ c.zeros.ensures c.encrypt-made.ensures) c.encrypt.ensures
