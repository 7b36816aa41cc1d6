-- Each turn copies the next block.
use borrow.Author.Rules.{rules}
use mathlib.Core.Path.{◌≡◌, ◌∙◌}
use mathlib.Core.List.{[]}
use Prim.Native.Nat.{◌+◌, ◌-◌, ◌*◌, ◌/◌}
use native.Mathlib.Omega.{arith}
use lib.ListN.{get_or, take, drop, length}
use Rattle.lanes.proofs.Cuts.{chunk_at}
use Rattle.blocks.proofs.Parts.{blocks_none, blocks_next, blocks_all}
use Rattle.blocks.proofs.copy_blocks.Goals as goal

pub loop-i-preserved : goal.loop-i-preserved
loop-i-preserved c =
    let i = c.loop-i.i in
    let from = c.args.from.now in
    let chunks = c.as_chunks.ensures in
    let k : 16 * i + 16 - 16 * i ≡ 16 = omega arith in
    let next : get_or c.as_chunks.result.0.now i [] ≡ take (16 * i + 16 - 16 * i) (drop (16 * i) from) =
    rw (chunks.front, k) (chunk_at (length from / 16) i from (omega (arith, chunks.front_len, c.loop-i-test.true))) in
    blocks_next from i (16 * i) (16 * i + 16 - 16 * i) (omega arith) k (omega (arith, k, chunks.front_len, c.loop-i-test.true))
    c.requires.room (c.copy_halves.auto.part ∙ search rules) (c.copy_halves.ensures ∙ next) c.loop-i.invariant
