-- By the theorem that decryption undoes encryption, under the schedule that expand left.
use borrow.Author.Rules.{rules}
use Rattle.lanes.proofs.Machine.{byte_fit}
use Rattle.lanes.proofs.Values.{values_fit}
use Rattle.uses.proofs.Laws.{expand_stops, encrypt_stops, schedule_back}
use Rattle.uses.proofs.by_schedule.schedule_and_back.Goals as goal

pub returns-then-made-ne0 : goal.returns-then-made-ne0
returns-then-made-ne0 g c =
    let words = values_fit g.met.W.Calls.fits c.args.schedule.now in
    expand_stops _ _ _ _ _ _ (byte_fit _ (search rules)) words (byte_fit _ (search rules)) (byte_fit _ (search rules)) (byte_fit _ (search rules))
    c.expand-made.ensures c.if-made-ne0.true

pub returns-then-number-ne0 : goal.returns-then-number-ne0
returns-then-number-ne0 g c =
    let words = values_fit g.met.W.Calls.fits c.args.schedule.now in
    encrypt_stops _ _ _ _ _ _ (byte_fit _ (search rules)) words (byte_fit _ (search rules)) (byte_fit _ (search rules)) (byte_fit _ (search rules))
    c.expand-made.ensures c.encrypt-number.ensures c.if-number-ne0.true

pub returns : goal.returns
returns g c =
    let words = values_fit g.met.W.Calls.fits c.args.schedule.now in
    schedule_back _ _ _ _ _ _ (byte_fit _ (search rules)) words (byte_fit _ (search rules)) (byte_fit _ (search rules)) (byte_fit _ (search rules))
    c.expand-made.ensures c.encrypt-number.ensures c.decrypt.ensures
