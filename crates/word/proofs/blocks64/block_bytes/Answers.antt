-- The three swaps and the bytes are the program's.
use borrow.Author.Rules.{rules}
use mathlib.Core.List.{[], ◌∷◌}
use mathlib.Core.Path.{ap₂, sym, ◌∙◌}
use native.Mathlib.Nat.{mod-eq_of_lt}
use lib.ListN.{get_or}
use Rattle.lanes.proofs.Packing.{swap_after}
use Rattle.lanes.specs.Layout.{w64}
use Rattle.lanes.specs.Programs.{words, le_bytes}
use Rattle.word.proofs.blocks64.block_bytes.Goals as goal

pub returns : goal.returns
returns c =
    let x = c.delta_swap_2-a.ensures in
    let y = c.delta_swap_2-b.ensures in
    let z = c.delta_swap_2-c.ensures in
    let a = swap_after w64 32 _ (mod-eq_of_lt c.ranges.hi.fits, mod-eq_of_lt c.ranges.lo.fits) (x.first, x.second) in
    let b = swap_after w64 16 _ a (y.first, y.second) in
    let halves = swap_after w64 8 _ b (z.first, z.second) in
    c.halves_bytes.ensures
    ∙ ap₂ (λ lo hi. le_bytes (words w64) w64 (λ p. get_or (lo ∷ hi ∷ []) p 0))
    (sym (mod-eq_of_lt (search rules)) ∙ halves.1) (sym (mod-eq_of_lt (search rules)) ∙ halves.0)
