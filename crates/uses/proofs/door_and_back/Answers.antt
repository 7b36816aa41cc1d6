-- By the theorem that direction 1 undoes direction 0.
use borrow.Author.Rules.{rules}
use Rattle.lanes.proofs.Machine.{byte_fit}
use Rattle.uses.proofs.Laws.{door_stops, door_back}
use Rattle.uses.proofs.door_and_back.Goals as goal

pub returns-then-number-ne0 : goal.returns-then-number-ne0
returns-then-number-ne0 c =
    door_stops _ _ _ _ (byte_fit _ (search rules)) (byte_fit _ (search rules)) (byte_fit _ (search rules)) (byte_fit _ (search rules))
    c.locker_aes-number.ensures c.if-number-ne0.true

pub returns : goal.returns
returns c =
    door_back _ _ _ _ (byte_fit _ (search rules)) (byte_fit _ (search rules)) (byte_fit _ (search rules)) (byte_fit _ (search rules))
    c.locker_aes-number.ensures c.locker_aes.ensures
