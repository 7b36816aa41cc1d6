-- The copy, the pass and the columns are one write of the next key.
use borrow.Author.Rules.{rules}
use Prim.Native.Nat.{◌+◌, ◌-◌, ◌*◌}
use mathlib.Core.Path.{◌≡◌, refl, sym, ◌∙◌}
use native.Mathlib.Omega.{arith}
use lib.ListN.{length-map}
use Rattle.schedule.proofs.Passes.{next_is, follows_map}
use Rattle.schedule.proofs.next_key.Goals as goal

pub returns : goal.returns
returns g c =
    let a = c.args in
    let v = g.W.Word.value in
    let some = c.requires.0.some in
    let old = c.requires.0.old in
    let off : 8 * a.r - 8 + 8 ≡ 8 * a.r = omega arith in
    let copied = length-map c.memshift32.new.rkeys v in
    let stored = length-map c.store.new.rkeys v in
    next_is g.W.Word.width a.rows a.m a.r (8 * a.r - 8) (8 * a.m) (follows_map v a.rkeys.now c.requires.0) off refl
    (copied ∙ c.memshift32.ensures.long ∙ sym (length-map a.rkeys.now v))
    (stored ∙ c.store.ensures.long ∙ sym copied)
    (length-map c.xor_columns.new.rkeys v ∙ c.xor_columns.ensures.long ∙ sym stored)
    (length-map c.key_pass.result v ∙ search rules)
    c.memshift32.ensures.copied c.load-rkey.ensures c.key_pass.ensures c.store.ensures.put c.xor_columns.ensures.changed
