-- The states' words in their place change its slots as the states say.
use borrow.Author.Rules.{rules}
use native.Mathlib.Omega.{arith}
use Rattle.std.proofs.lemmas.List.{length-map}
use Rattle.lanes.proofs.Parts.{changed, key_is}
use Rattle.round_keys.proofs.xor_columns.Goals as goal

pub returns-clause-changed : goal.returns-clause-changed
returns-clause-changed g c =
    let a = c.args in
    let w = g.W.Word.width in
    let v = g.W.Word.value in
    rw c.store.ensures.put
    (changed w a.off (omega (arith, length-map a.rkeys.now v)) (search (rules, length-map c.xor_states.result v))
    c.load-s.ensures (key_is w a.rows c.load-p.ensures c.xor_states.ensures))
