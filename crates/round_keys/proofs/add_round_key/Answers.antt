-- Word by word it is the sum.
use borrow.Author.Rules.{rules}
use native.Mathlib.Omega.{arith}
use lib.Bits.{bit_xor}
use Rattle.lanes.proofs.Linear.{add_words, add_law, does_is}
use Rattle.lanes.proofs.Parts.{◌∷≡◌, done}
use Rattle.lanes.proofs.Values.{values_fit, at_places}
use Rattle.round_keys.proofs.add_round_key.Goals as goal

pub returns : goal.returns
unfolding add_words
returns g c =
    let a = c.args in
    let fit = values_fit g.met.W.Word.fits in
    let word = at_places g.W.Word.value bit_xor a.state a.rkey (search rules) (search rules) in
    does_is
    (word 0 (omega arith) _ _ _ c.xor.ensures ∷≡
    word 1 (omega arith) _ _ _ c.xor-2.ensures ∷≡
    word 2 (omega arith) _ _ _ c.xor-3.ensures ∷≡
    word 3 (omega arith) _ _ _ c.xor-4.ensures ∷≡
    word 4 (omega arith) _ _ _ c.xor-5.ensures ∷≡
    word 5 (omega arith) _ _ _ c.xor-6.ensures ∷≡
    word 6 (omega arith) _ _ _ c.xor-7.ensures ∷≡
    word 7 (omega arith) _ _ _ c.xor-8.ensures ∷≡ done)
    (add_law g.W.Word.width (fit a.state) (fit a.rkey))
