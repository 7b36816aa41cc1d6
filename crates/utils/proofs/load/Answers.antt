-- The part's words, by `part_words`.
use borrow.Author.Rules.{rules}
use Prim.Native.Nat.{◌+◌, ◌-◌}
use native.Mathlib.Omega.{arith}
use Rattle.utils.proofs.Eight.{part_words}
use Rattle.utils.proofs.load.Goals as goal

pub returns : goal.returns
returns g c =
    let at = c.args.at in
    part_words g.W.Word.value c.args.rkeys.now at (at + 8 - at) (omega arith) (search rules)
