-- By the law of packing.
use borrow.Author.Rules.{rules}
use Rattle.lanes.proofs.Machine.{byte_fit}
use Rattle.lanes.proofs.Packing.{packs}
use Rattle.word.proofs.bitslice.Goals as goal

pub returns : goal.returns
returns g c =
    let fit = byte_fit c.args.input.now (search rules) in
    packs g.W.Word.width fit c.requires c.load_blocks.ensures c.bitslice_swaps.ensures
