-- Enough zeros.
use Rattle.std.proofs.Common.{arith}
use Rattle.input.proofs.OfReading.{enough, card_enough, pack_enough}
use Rattle.input.proofs.OfBounds.{report_short, files_report_short}
use Rattle.explain.proofs.OfReading as explained
use Rattle.explain.proofs.OfBounds.{lines_short, files_lines_short}
use Rattle.console.proofs.OfFiles.{zeros}
use Rattle.console.proofs.rooms.room.Goals as goal

pub returns-clause-holds_input : goal.returns-clause-holds_input
returns-clause-holds_input g c h input = let fits = zeros h in (enough input _ fits, explained.enough input _ fits)

pub returns-clause-holds_card : goal.returns-clause-holds_card
returns-clause-holds_card g c h text pack = let fits = zeros h in (card_enough text pack _ fits, explained.card_enough text pack _ fits)

pub returns-clause-holds_pack : goal.returns-clause-holds_pack
returns-clause-holds_pack g c h text pack = let fits = zeros h in (pack_enough text pack _ fits, explained.pack_enough text pack _ fits)

pub returns-clause-holds_report : goal.returns-clause-holds_report
returns-clause-holds_report g c h = (λ input. omega (arith, report_short input, zeros h), λ text pack. omega (arith, files_report_short text pack, zeros h))

pub returns-clause-holds_explanation : goal.returns-clause-holds_explanation
returns-clause-holds_explanation g c h = (λ input. omega (arith, lines_short input, zeros h), λ text pack. omega (arith, files_lines_short text pack, zeros h))
