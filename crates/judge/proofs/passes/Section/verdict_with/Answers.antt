-- `judge::passes::Section::verdict_with` meets its contract: the first pass, and where it is clean the second. Assumes nothing.
use Rattle.std.proofs.Common.{Err, refl, sym, ◌∙◌, add-one, arith, rules, ◌≡◌}
use Rattle.units.proofs.OfUnits.{behind_exact}
use Rattle.judge.proofs.OfPass.{first_refused, then_second}
use Rattle.judge.proofs.passes.Section.verdict_with.Goals as goal

pub returns-in_err-first_pass : goal.returns-in_err-first_pass
returns-in_err-first_pass c =
    let s = c.args.self in
    let passed_on : c.from_residual.result ≡ Err c.in_err-first_pass.field-0.0 = search rules in
    passed_on ∙ sym (first_refused s.card s.words.now s.end.0 (sym c.in_err-first_pass.ensures.value))

pub returns : goal.returns
returns c =
    let s = c.args.self in
    let pairs = behind_exact s.end _ c.quadword_behind.ensures (omega (arith, s.among_512)) in
    then_second s.card s.words.now s.end.0 c.quadword_behind.result.0 _ _ (pairs ∙ add-one s.end.0)
    (sym c.in_ok-first_pass.ensures.value) (c.in_ok-first_pass.ensures.recorded refl) c.second_pass.ensures
