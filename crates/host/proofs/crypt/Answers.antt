-- Each refusal by its law; the rest is behind the tests; what is erased reads as zero.
use mathlib.Core.Path.{◌∙◌, ap, sym}
use mathlib.Core.Bool.{not}
use lib.Seq.{length-take-le}
use Rattle.calls.proofs.WholeBlocks.{whole_rest}
use Rattle.aes.proofs.Answers.{a_key}
use Rattle.host.proofs.Door.{key_refused, door_6, door_3, door_4, direction_refused, door_0, room}
use Rattle.host.proofs.crypt.Goals as goal

pub returns-in_err-size : goal.returns-in_err-size
returns-in_err-size c = key_refused _ _ _ _ c.in_err-size.ensures _ c.from_residual.ensures.1

pub returns-then-zero_key : goal.returns-then-zero_key
returns-then-zero_key c = door_6 _ _ _ _ c.in_ok-size.ensures c.if-zero_key.ensures

pub returns-then-not-whole_blocks : goal.returns-then-not-whole_blocks
returns-then-not-whole_blocks c = door_3 _ _ _ _ c.in_ok-size.ensures c.if-zero_key.ensures c.if-not-whole_blocks.ensures

pub returns-then-output-input : goal.returns-then-output-input
returns-then-output-input c = door_4 _ _ _ _ c.in_ok-size.ensures c.if-zero_key.ensures c.if-not-whole_blocks.ensures c.if-output-input.true

pub returns-in_err-way : goal.returns-in_err-way
returns-in_err-way c =
    direction_refused _ _ _ _ c.in_ok-size.ensures c.if-zero_key.ensures c.if-not-whole_blocks.ensures c.if-output-input.false
    c.in_err-way.ensures _ c.from_residual-in_err-way.ensures.1

pub slice_bounds-schedule-end : goal.slice_bounds-schedule-end
slice_bounds-schedule-end c = room _ c.in_ok-size.ensures _ c.blank-schedule.ensures

pub slice_bounds-crypt_with-end : goal.slice_bounds-crypt_with-end
slice_bounds-crypt_with-end c = sym (length-take-le _ _ (room _ c.in_ok-size.ensures _ c.blank-schedule.ensures))

pub crypt_with-requires : goal.crypt_with-requires
crypt_with-requires c =
    let r = a_key _ c.in_ok-size.ensures in
    record {
      keyed = r.keyed;
      rounds_are = r.rounds;
      words = length-take-le _ _ (room _ c.in_ok-size.ensures _ c.blank-schedule.ensures) ∙ r.words;
      whole = whole_rest _ (ap not (sym c.if-not-whole_blocks.ensures));
      output = c.if-output-input.false;
    }

pub returns : goal.returns
returns c =
    door_0 _ _ _ _ c.in_ok-size.ensures c.if-zero_key.ensures c.if-not-whole_blocks.ensures c.if-output-input.false
    c.in_ok-way.ensures c.crypt_with.ensures
