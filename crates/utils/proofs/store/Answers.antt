-- The part put back, by `put_words`.
use borrow.Author.Rules.{rules}
use Prim.Native.Nat.{◌+◌, ◌-◌}
use native.Mathlib.Omega.{arith}
use Rattle.utils.proofs.Eight.{put_words}
use Rattle.utils.proofs.store.Goals as goal

pub returns-clause-put : goal.returns-clause-put
returns-clause-put g c =
    let at = c.args.at in
    put_words g.W.Word.value c.args.rkeys.now at (at + 8 - at) (omega arith) (search rules)
