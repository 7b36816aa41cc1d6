-- All parts together leave the schedule of the key.
use borrow.Author.Rules.{rules}
use Prim.Native.Nat.{◌-◌, ◌*◌, ◌/◌}
use lib.ListN.{length, length-map}
use mathlib.Core.Path.{◌≡◌, sym, ◌∙◌}
use native.Mathlib.Omega.{arith}
use Rattle.fips197.specs.Aes.{rounds_for}
use Rattle.lanes.proofs.Machine.{byte_fit}
use Rattle.lanes.proofs.Values.{values_fit}
use Rattle.schedule.proofs.Adjusting.{whole}
use Rattle.schedule.proofs.Growing.{loaded_keys}
use Rattle.schedule.proofs.KeySizes.{key_blocks}
use Rattle.schedule.proofs.key_schedule.Goals as goal

pub overflow_sub-n : goal.overflow_sub-n
overflow_sub-n g c = let words = (key_blocks _ _ c.requires).blocks.words in omega arith

pub load_key-requires : goal.load_key-requires
load_key-requires g c =
    let words = (key_blocks _ _ c.requires).blocks.words in
    omega arith

pub expand_keys-requires : goal.expand_keys-requires
expand_keys-requires g c =
    let blocks = (key_blocks _ _ c.requires).blocks in
    record { some = blocks.some; few = blocks.few; words = c.load_key.auto.rkeys ∙ blocks.words }

pub write_keys-requires : goal.write_keys-requires
write_keys-requires g c =
    let words = (key_blocks _ _ c.requires).blocks.words in
    let long : length c.expand_keys.new.rkeys ≡ length c.args.rkeys.now = c.expand_keys.auto.rkeys ∙ c.load_key.auto.rkeys in
    (omega arith, omega arith)

pub returns : goal.returns
returns g c =
    let v = g.W.Word.value in
    let size = key_blocks _ _ c.requires in
    let words = size.blocks.words in
    let some = size.blocks.some in
    let key = c.args.key.now in
    let m = length key / 16 in
    let long : length key ≡ 4 * (4 * m) = size.bytes ∙ omega arith in
    let rounds : length c.args.rkeys.now / 8 - 1 ≡ rounds_for (4 * m) = omega arith in
    let expanded = length-map c.expand_keys.new.rkeys v ∙ c.expand_keys.auto.rkeys ∙ c.load_key.auto.rkeys in
    rw size.nk_is
    (whole g.W.Word.width (4 * m) key (omega arith) long (byte_fit key (search rules))
    rounds (expanded ∙ omega arith)
    (c.expand_keys.ensures.more key long (loaded_keys g.W.Word.width m some long c.load_key.ensures))
    c.write_keys.ensures
    (length-map c.write_keys.new.rkeys v ∙ c.write_keys.auto.rkeys ∙ sym (length-map c.expand_keys.new.rkeys v))
    (values_fit g.met.W.Word.fits c.write_keys.new.rkeys))
