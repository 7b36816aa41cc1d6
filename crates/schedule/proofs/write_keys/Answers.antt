-- The round keys passed so far are adjusted, the others as they were; the last has its NOTs only.
use borrow.Author.Rules.{rules}
use mathlib.Core.Path.{◌≡◌, refl, sym, ◌∙◌}
use native.Mathlib.Omega.{arith}
use lib.ListN.{length-map}
use Rattle.schedule.proofs.Adjusting.{adjusted_on, write_last, write_inner}
use Rattle.schedule.proofs.write_keys.Goals as goal

pub loop-r-preserved : goal.loop-r-preserved
loop-r-preserved g c =
    let v = g.W.Word.value in
    let r = c.loop-r.r in
    let before = length-map c.loop-r.rkeys v in (
      search rules,
      adjusted_on g.W.Word.width _ r (omega arith) (omega (arith, before))
          (length-map c.store.new.rkeys v ∙ c.store.ensures.long ∙ sym before) (length-map c.write_key.result v ∙ search rules)
          c.load-rkey.ensures (write_inner c.loop-r.invariant.1.some (λ e. omega arith) c.write_key.ensures) c.store.ensures.put c.loop-r.invariant.1,
    )

pub returns : goal.returns
returns g c =
    let v = g.W.Word.value in
    let n = c.args.n in
    let e : c.loop-r.r ≡ n = omega arith in
    let before = length-map c.loop-r.rkeys v in
    (adjusted_on g.W.Word.width _ n (omega arith) (omega (arith, before))
    (length-map c.store-2.new.rkeys v ∙ c.store-2.ensures.long ∙ sym before) (length-map c.sub_bytes_nots.result v ∙ search rules)
    c.load-last.ensures (write_last (search rules) refl c.sub_bytes_nots.ensures) c.store-2.ensures.put (rw e at c.loop-r.invariant.1)).done
