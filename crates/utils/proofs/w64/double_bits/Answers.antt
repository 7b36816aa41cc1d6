-- The steps are those of the test.
use Rattle.utils.proofs.Doubled.{doubled_is}
use Rattle.utils.proofs.w64.double_bits.Goals as goal

pub returns-clause-doubled : goal.returns-clause-doubled
returns-clause-doubled c = doubled_is c.args.byte c.ranges.byte.fits
