-- By the law of unpacking.
use mathlib.Core.Path.{◌∙◌}
use Rattle.lanes.proofs.Packing.{unpacks}
use Rattle.lanes.proofs.Values.{values_fit}
use Rattle.word.proofs.inv_bitslice.Goals as goal

pub returns : goal.returns
returns g c =
    let fit = values_fit g.met.W.Word.fits c.args.state in
    c.store_blocks.ensures ∙ unpacks g.W.Word.width fit c.bitslice_swaps.ensures
