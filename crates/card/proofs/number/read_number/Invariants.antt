-- `card::number::read_number` meets its contract: the bytes passed are digits, and stand for n. Assumes nothing.
use Rattle.std.proofs.Common.{◌^◌, ◌<◌}
use Rattle.card.proofs.OfNumbers.{Counted}
use Rattle.card.proofs.number.read_number.Given as goal

abbrev pub invariant-loop-b : goal.invariant-loop-b
invariant-loop-b l = (l.n < 2 ^ 32) × Counted l.text l.n l.b-index
