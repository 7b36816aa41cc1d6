-- Each call burns one room less.
use Rattle.host.proofs.+burn.Given as goal

abbrev pub decreases-burn : goal.decreases-burn
decreases-burn l = l.n
