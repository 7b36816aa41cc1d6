-- One block is at the front of a batch, in slot 0.
use borrow.Author.Rules.{rules}
use mathlib.Core.List.{map}
use mathlib.Core.Path.{◌≡◌, sym, ◌∙◌}
use native.Mathlib.Omega.{arith}
use lib.ListN.{length}
use Rattle.fips197.specs.Aes.{cipher}
use Rattle.fips197.proofs.Ciphers.{cipher_long}
use Rattle.lanes.proofs.EachBlock.{some_slot}
use Rattle.cipher.proofs.Batches.{reading_long}
use Rattle.blocks.proofs.Parts.{front_is, one_block}
use Rattle.blocks.proofs.block_in.Goals as goal

pub returns : goal.returns
returns g c =
    let w = g.W.Word.width in
    let l = c.args.schedule.now in
    let long : length c.args.block ≡ 16 = search rules in
    search rules
    ∙ front_is w c.args.batch.now 16 (sym long) c.copy16.ensures c.requires.batch (omega (arith, long, some_slot w))
    _ (reading_long cipher cipher_long w l.rounds (map g.W.Word.value l.words.now)) (omega (arith, long)) c.crypt_batches.ensures
    ∙ one_block w _ long
