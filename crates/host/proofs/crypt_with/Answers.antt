-- The expansion leaves the schedule of the key, and the batch under it is FIPS-197's with the key.
use mathlib.Core.Path.{ap}
use Rattle.fips197.specs.Aes.{cipher, inv_cipher}
use Rattle.lanes.proofs.Machine.{byte_fit}
use Rattle.aes.specs.Refusal.{direction_number}
use Rattle.aes.specs.declared.refusal.Direction.{Direction}
use Rattle.calls.specs.Calls.{directed}
use Rattle.host.proofs.Door.{scheduled, door_crypts}
use Rattle.host.proofs.crypt_with.Goals as goal

pub invariant_of-schedule : goal.invariant_of-schedule
invariant_of-schedule c =
    record { scheduled = scheduled c.args.key.now c.requires.keyed c.requires.rounds_are c.key_schedule.auto.rkeys c.requires.words }

pub invariant_of-schedule-in-Decrypt : goal.invariant_of-schedule-in-Decrypt
invariant_of-schedule-in-Decrypt c =
    record { scheduled = scheduled c.args.key.now c.requires.keyed c.requires.rounds_are c.key_schedule.auto.rkeys c.requires.words }

pub returns-in-Encrypt : goal.returns-in-Encrypt
returns-in-Encrypt c =
    door_crypts c.args.key.now c.requires.keyed (byte_fit c.args.key.now c.type_inv.key) cipher
    c.args.input.now (direction_number c.args.direction)
    (ap (λ (d : Direction). directed (direction_number d)) c.in-Encrypt.is) c.requires.rounds_are c.key_schedule.ensures c.crypt.ensures

pub returns-in-Decrypt : goal.returns-in-Decrypt
returns-in-Decrypt c =
    door_crypts c.args.key.now c.requires.keyed (byte_fit c.args.key.now c.type_inv.key) inv_cipher
    c.args.input.now (direction_number c.args.direction)
    (ap (λ (d : Direction). directed (direction_number d)) c.in-Decrypt.is) c.requires.rounds_are c.key_schedule.ensures c.crypt-in-Decrypt.ensures
