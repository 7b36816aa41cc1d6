-- The blocks are at the front of a batch, and the front of what that becomes is copied out.
use mathlib.Core.List.{map}
use mathlib.Core.Path.{◌∙◌}
use Prim.Native.Nat.{◌-◌}
use native.Mathlib.Omega.{arith}
use lib.ListN.{length}
use Rattle.cipher.proofs.Batches.{reading_long}
use Rattle.blocks.proofs.Parts.{front_ready, front_is}
use Rattle.blocks.proofs.crypt_in.Goals as goal

pub returns : goal.returns
returns g c =
    let w = g.W.Word.width in
    let l = c.args.schedule.now in
    c.copy_blocks-2.ensures
    ∙ front_is w c.args.batch.now (length c.args.input.now - 0) (omega arith) c.copy_blocks.ensures c.requires.batch c.requires.most _
    (reading_long g.C.Crypt.crypt g.met.C.Crypt.long w l.rounds (map g.W.Word.value l.words.now)) c.requires.whole c.crypt_batches.ensures
