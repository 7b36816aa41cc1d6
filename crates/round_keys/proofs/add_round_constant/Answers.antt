-- It is the sum with the words of the constant.
use borrow.Author.Rules.{rules}
use native.Mathlib.Omega.{arith}
use lib.Bits.{bit_xor}
use lib.ListN.{get_or}
use Prim.Native.Nat.{ℕ}
use Rattle.lanes.proofs.Linear.{add_words, constant_words, constant_law, does_is}
use Rattle.lanes.proofs.Parts.{◌∷≡◌, done}
use Rattle.lanes.proofs.Values.{values_fit, at_place}
use Rattle.round_keys.proofs.add_round_constant.Goals as goal

pub returns : goal.returns
unfolding add_words constant_words
returns g c =
    let a = c.args in
    let w = g.W.Word.width in
    let word = λ (p : ℕ). at_place g.W.Word.value (λ x. bit_xor x (get_or (constant_words w a.constant) p 0)) a.state (search rules) p in
    does_is
    (word 0 (omega arith) _ _ c.add_round_constant_bit.ensures ∷≡
    word 1 (omega arith) _ _ c.add_round_constant_bit-2.ensures ∷≡
    word 2 (omega arith) _ _ c.add_round_constant_bit-3.ensures ∷≡
    word 3 (omega arith) _ _ c.add_round_constant_bit-4.ensures ∷≡
    word 4 (omega arith) _ _ c.add_round_constant_bit-5.ensures ∷≡
    word 5 (omega arith) _ _ c.add_round_constant_bit-6.ensures ∷≡
    word 6 (omega arith) _ _ c.add_round_constant_bit-7.ensures ∷≡
    word 7 (omega arith) _ _ c.add_round_constant_bit-8.ensures ∷≡ done)
    (constant_law w a.constant c.ranges.constant.fits (values_fit g.met.W.Word.fits a.state))
