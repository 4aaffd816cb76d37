-- `walk::second_pass` meets its contract. Assumes nothing.
use Rattle.std.proofs.Common.{ℕ, List, Err, sym, ◌∙◌, ap, add-one, arith, rules, ◌≡◌}
use Rattle.units.specs.declared.Quadwords.{Quadwords}
use Rattle.checks.specs.Checks.{Check, first_broken}
use Rattle.checks.proofs.OfChecks.{below_none, below_next, below_found}
use Rattle.walk.specs.Flow.{flow_at}
use Rattle.walk.specs.CodeRows.{row_checks}
use Rattle.walk.proofs.second_pass.Goals as goal

pub loop-p-init : goal.loop-p-init
loop-p-init c = below_none _

pub returns-in_err-pair_verdict : goal.returns-in_err-pair_verdict
returns-in_err-pair_verdict c =
    let a = c.args in
    let asked : Quadwords → ℕ → List Check = λ end. row_checks (flow_at a.words.now) end.0 a.rows.now in
    let passed_on : c.from_residual.result ≡ Err c.in_err-pair_verdict.field-0.0 = search rules in
    let here = ap (λ (end : Quadwords). first_broken (asked end c.loop-p.p)) (sym c.quadword_before-end.ensures) ∙ sym c.in_err-pair_verdict.ensures in
    passed_on ∙ sym (below_found _ a.pairs.0 c.loop-p.p (omega arith) c.loop-p.invariant here)

pub loop-p-preserved : goal.loop-p-preserved
loop-p-preserved c =
    let a = c.args in
    let asked : Quadwords → ℕ → List Check = λ end. row_checks (flow_at a.words.now) end.0 a.rows.now in
    let here = ap (λ (end : Quadwords). first_broken (asked end c.loop-p.p)) (sym c.quadword_before-end.ensures) ∙ sym c.in_ok-pair_verdict.ensures in
    rw add-one (below_next _ c.loop-p.p c.loop-p.invariant here)
