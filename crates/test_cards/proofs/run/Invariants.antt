-- Each case is at least a byte long.
use Rattle.std.proofs.Common.{length}
use Rattle.test_cards.proofs.run.Given as goal

abbrev pub decreases-loop-rest : goal.decreases-loop-rest
decreases-loop-rest g l = length l.rest
