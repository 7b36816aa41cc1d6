-- What the circuits' words do. Assumes nothing.
use mathlib.Core.Path.{◌≡◌}
use mathlib.Core.List.{List}
use Prim.Native.Nat.{ℕ}
use Rattle.lanes.specs.Layout.{Width}
use Rattle.lanes.specs.Leaves.{Does, all, bare_sub_bytes, inv_bare_sub_bytes}
use Rattle.lanes.specs.Circuits.{sub_program, inv_sub_program, on_words}
use Rattle.lanes.proofs.Linear.{does_is}
use Rattle.lanes.proofs.SubBytes.{sub_words, inv_sub_words, sub_law, inv_sub_law}

pub sub_does : (w : Width) {s r : List ℕ} → r ≡ on_words (λ A. sub_program) s → Does w (all bare_sub_bytes) s r
unfolding sub_words
sub_does w {s} e = does_is e (sub_law w s)

pub inv_sub_does : (w : Width) {s r : List ℕ} → r ≡ on_words (λ A. inv_sub_program) s → Does w (all inv_bare_sub_bytes) s r
unfolding inv_sub_words
inv_sub_does w {s} e = does_is e (inv_sub_law w s)
