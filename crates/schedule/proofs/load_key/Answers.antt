-- Each turn puts one block of the key into every slot of its round key.
use borrow.Author.Rules.{rules}
use Prim.Native.Nat.{◌/◌}
use mathlib.Core.List.{map, []}
use mathlib.Core.Path.{◌≡◌, sym, ◌∙◌}
use native.Mathlib.Omega.{arith}
use lib.ListN.{length-map, get_or, length}
use Rattle.fips197.specs.Aes.{sixteen}
use Rattle.lanes.proofs.Cuts.{chunk_at}
use Rattle.schedule.proofs.Growing.{loaded_none, loaded_more, loaded_all}
use Rattle.schedule.proofs.load_key.Goals as goal

pub loop-i-preserved : goal.loop-i-preserved
loop-i-preserved g c =
    let i = c.loop-i.i in
    let key = c.args.key.now in
    let v = g.W.Word.value in
    let chunks = c.as_chunks.ensures in
    let before = length-map c.loop-i.rkeys v in
    let block : get_or c.as_chunks.result.0.now i [] ≡ sixteen key i =
    rw chunks.front (chunk_at (length key / 16) i key (omega (arith, chunks.front_len, c.loop-i-test.true))) in
    loaded_more g.W.Word.width i (map v c.broadcast.result)
    (omega (arith, chunks.front_len, c.loop-i-test.true)) (omega (arith, before, chunks.front_len, c.loop-i-test.true, c.requires, c.loop-i.auto.rkeys))
    (length-map c.store.new.rkeys v ∙ c.store.ensures.long ∙ sym before) (length-map c.broadcast.result v ∙ search rules)
    (λ b h. c.broadcast.ensures b h ∙ block) c.store.ensures.put c.loop-i.invariant
