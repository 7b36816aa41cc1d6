-- A round constant leaves m round keys more, and each step of it one; there are none where the schedule ends.
use borrow.Author.Rules.{rules}
use Prim.Native.Nat.{◌+◌, ◌*◌}
use mathlib.Core.List.{map}
use mathlib.Core.Path.{◌≡◌, ap, sym, ◌∙◌}
use native.Mathlib.Omega.{arith}
use lib.ListN.{length-map}
use Rattle.schedule.proofs.Passes.{follows_of}
use Rattle.schedule.proofs.Growing.{rows_few, step_follows, Grown, grown_none, grown_on, grown_at, grown_step, grown_end}
use Rattle.schedule.proofs.expand_keys.Goals as goal
use Rattle.schedule.proofs.expand_keys.Goals.{then-r-end, else-r-end}

pub next_key-requires : goal.next_key-requires
next_key-requires g c =
    let v = g.W.Word.value in
    let first = length-map c.args.rkeys.now v in (
      follows_of v c.loop-p.rkeys (step_follows c.loop-rcon.invariant c.loop-p.invariant (first ∙ c.requires.words) (omega (arith, first, c.if-r-end.true))),
      rows_few _ c.step_rows-rows.ensures,
    )

-- a step, or no room for it
pub loop-p-preserved : goal.loop-p-preserved
loop-p-preserved g c =
    let w = g.W.Word.width in
    let v = g.W.Word.value in
    let first = length-map c.args.rkeys.now v in
    let before = length-map c.loop-p.rkeys v in
    let from = c.args.m * (c.loop-rcon.rcon + 1) in
    let next : from + c.loop-p.p + 1 ≡ from + (c.loop-p.p + 1) = omega arith in
    let step : Grown w (4 * c.args.m) (from + c.loop-p.p) (from + c.loop-p.p + 1) (map v c.loop-p.rkeys) (map v c.if-r-end.rkeys) =
    elim c.if-r-end.branch [
      | then-r-end t ↦ grown_at (ap (map v) t.rkeys-is)
          (grown_step c.loop-rcon.invariant.begins c.loop-p-test.true (omega (arith, t.if-r-end.true, c.requires.words))
          (step_follows c.loop-rcon.invariant c.loop-p.invariant (first ∙ c.requires.words) (omega (arith, first, t.if-r-end.true)))
          t.step_constant-constant.ensures t.step_rows-rows.ensures (length-map t.next_key.new.rkeys v ∙ t.next_key.auto.rkeys ∙ sym before)
          t.next_key.ensures)
      | else-r-end e ↦ grown_at (ap (map v) e.rkeys-is)
          (grown_end (omega (arith, e.if-r-end.false, before, c.loop-p.auto.rkeys, c.loop-rcon.auto.rkeys)))
    ] in
    record { few = search rules; grown = grown_on c.loop-p.invariant.grown (grown_on step (grown_none next)) }
