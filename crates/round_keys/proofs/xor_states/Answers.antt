-- Each word is the program's, whose slots the law says.
use borrow.Author.Rules.{rules}
use native.Mathlib.Omega.{arith}
use Rattle.lanes.proofs.Linear.{column_words, columns_law, does_is}
use Rattle.lanes.proofs.Parts.{◌∷≡◌, done}
use Rattle.lanes.proofs.Values.{values_fit, at_places}
use Rattle.lanes.specs.Programs.{words, column_word}
use Rattle.round_keys.proofs.xor_states.Goals as goal

pub returns : goal.returns
unfolding column_words
returns g c =
    let a = c.args in
    let w = g.W.Word.width in
    let fit = values_fit g.met.W.Word.fits in
    let word = at_places g.W.Word.value (column_word (words w) w a.rows) a.prev a.cur (search rules) (search rules) in
    does_is
    (word 0 (omega arith) _ _ _ c.xor_column.ensures ∷≡
    word 1 (omega arith) _ _ _ c.xor_column-2.ensures ∷≡
    word 2 (omega arith) _ _ _ c.xor_column-3.ensures ∷≡
    word 3 (omega arith) _ _ _ c.xor_column-4.ensures ∷≡
    word 4 (omega arith) _ _ _ c.xor_column-5.ensures ∷≡
    word 5 (omega arith) _ _ _ c.xor_column-6.ensures ∷≡
    word 6 (omega arith) _ _ _ c.xor_column-7.ensures ∷≡
    word 7 (omega arith) _ _ _ c.xor_column-8.ensures ∷≡ done)
    (columns_law w a.rows c.requires (fit a.prev) (fit a.cur))
