-- A record takes a byte at least, so no count wraps.
use Rattle.std.proofs.Common.{◌+◌, ◌≤◌, length}
use Rattle.std.specs.Slice.Iter.{split_inclusive_rest}
use Rattle.check_values_main.proofs.Tally.of.Given as goal

abbrev pub invariant-loop-line : goal.invariant-loop-line
invariant-loop-line l = l.tally.keys + length (split_inclusive_rest l.line-iterator) ≤ length l.text
