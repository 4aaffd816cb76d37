-- `input::verdict_on` meets its contract: by the test of the card. Assumes nothing.
use mathlib.Core.Path.{ap}
use Rattle.std.specs.Prelude.{Err}
use Rattle.input.proofs.OfInput.{bad_card}
use Rattle.input.proofs.verdict_on.Goals as goal

pub returns-in-Err : goal.returns-in-Err
returns-in-Err c = bad_card c.args.card c.args.pack.now c.check_card.ensures c.in-Err.is (ap Err c.bad_line.ensures)
