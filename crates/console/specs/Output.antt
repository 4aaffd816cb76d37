-- What of a report or an explanation is written: all of it, and nothing where its room is too small.
use Rattle.std.specs.Prelude.{ℕ, cond, List, [], take}
use Rattle.report.specs.Buffer as buffer

abbrev pub fitting : List ℕ → List ℕ → List ℕ
fitting bytes room = cond (buffer.room bytes room) bytes []
