-- Doubled, and doubled again.
use Rattle.sp800_38b.proofs.Laws.{subkeys_are}
use Rattle.cmac.proofs.subk.Goals as goal

pub returns-clause-k1 : goal.returns-clause-k1
returns-clause-k1 g c = (subkeys_are _ c.encrypt_block.ensures c.double-k1.ensures c.double.ensures).0

pub returns-clause-k2 : goal.returns-clause-k2
returns-clause-k2 g c = (subkeys_are _ c.encrypt_block.ensures c.double-k1.ensures c.double.ensures).1
