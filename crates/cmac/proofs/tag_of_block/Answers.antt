-- The message XORed with K1, encrypted.
use Rattle.sp800_38b.proofs.Laws.{tag_is}
use Rattle.cmac.proofs.tag_of_block.Goals as goal

pub returns : goal.returns
returns g c = tag_is _ _ c.subk-subkeys.ensures.k1 c.xor.ensures c.encrypt_block.ensures
