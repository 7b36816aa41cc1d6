-- The circuit's words, by `inv_sub_does`.
use Rattle.sbox.proofs.Words.{inv_sub_does}
use Rattle.sbox.proofs.inv_sub_bytes.Goals as goal

pub returns : goal.returns
returns g c = inv_sub_does g.W.Word.width c.inv_sub_circuit.ensures
