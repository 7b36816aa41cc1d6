-- The words are the program's, by the equations of the calls; what the program does is `nots_law`.
use native.Mathlib.Omega.{arith}
use Rattle.std.proofs.lemmas.Grind.{common_steps}
use Rattle.lanes.proofs.Linear.{not_words, nots_law, does_is}
use Rattle.lanes.proofs.Values.{values_fit}
use Rattle.sbox.proofs.sub_bytes_nots.Goals as goal

pub returns : goal.returns
unfolding not_words
returns g c = does_is (grind (arith, common_steps)) (nots_law g.W.Word.width (values_fit g.met.W.Word.fits c.args.state))
