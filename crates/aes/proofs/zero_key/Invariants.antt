-- What is joined so far is zero exactly where those bytes are.
use Rattle.aes.proofs.Joined.{Joined}
use Rattle.aes.proofs.zero_key.Given as goal

abbrev pub invariant-loop-byte : goal.invariant-loop-byte
invariant-loop-byte l = Joined l.key l.byte-index l.joined
