-- By the law of packing one block into every slot.
use borrow.Author.Rules.{rules}
use Rattle.lanes.proofs.Machine.{byte_fit}
use Rattle.lanes.proofs.Packing.{broadcasts}
use Rattle.word.proofs.broadcast.Goals as goal

pub returns : goal.returns
returns g c =
    let fit = byte_fit c.args.block.now (search rules) in
    broadcasts g.W.Word.width fit c.requires c.load_repeated.ensures c.bitslice_swaps.ensures
