-- The circuit's words, by `sub_does`.
use Rattle.sbox.proofs.Words.{sub_does}
use Rattle.sbox.proofs.sub_bytes.Goals as goal

pub returns : goal.returns
returns g c = sub_does g.W.Word.width c.sub_circuit.ensures
