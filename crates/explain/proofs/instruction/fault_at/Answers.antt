-- `explain::instruction::fault_at` meets its contract: the instruction stands where the verdict points. Assumes nothing.
use native.Mathlib.Omega.{arith}
use mathlib.Core.Path.{sym, ◌∙◌}
use Rattle.explain.proofs.OfInstruction.{clause_read, no_fault, fault_found}
use Rattle.explain.proofs.instruction.fault_at.Goals as goal

pub returns-in_err-clause : goal.returns-in_err-clause
returns-in_err-clause g c =
    let a = c.args in
    let w = g.P.Pack.words a.pack.now in
    let read = clause_read w a.asked.opener (omega arith) c.low_word.ensures c.word-low.ensures c.high_word.ensures c.word-high.ensures
    c.control_of.ensures c.clause_of.ensures in
    c.from_residual.ensures ∙ no_fault w a.card a.asked.opener.0 a.asked.slot (sym read ∙ c.in_err-clause.was)

pub returns : goal.returns
returns g c =
    let a = c.args in
    let w = g.P.Pack.words a.pack.now in
    let read = clause_read w a.asked.opener (omega arith) c.low_word.ensures c.word-low.ensures c.high_word.ensures c.word-high.ensures
    c.control_of.ensures c.clause_of.ensures in
    fault_found w a.card a.asked.opener.0 a.asked.slot (sym read ∙ c.in_ok-clause.was) c.range.ensures c.slot_quadword-at.ensures
    c.low_word-2.ensures c.word-first.ensures c.high_word-2.ensures c.word.ensures c.fault_by.ensures
