-- `settings::read_setting` meets its contract. The loop's invariant: the keys so far do not begin the setting. Assumes nothing.
use Rattle.std.proofs.Common.{sym, ◌∙◌}
use Rattle.std.proofs.lemmas.Result.{err_from_is_err_and}
use Rattle.card.proofs.OfFound.{refused_with}
use Rattle.settings.proofs.OfReading.{as_said, all_searched, key_other, key_number, key_no_number}
use Rattle.settings.proofs.read_setting.Goals as goal

pub returns-in_err-n-clause-value : goal.returns-in_err-n-clause-value
returns-in_err-n-clause-value c =
    let p = err_from_is_err_and c.from_residual.result c.from_residual.ensures.1 in
    let nothing = c.in_err-n.ensures.ok_part in
    rw (p.1, p.2, refused_with c.read_number.result nothing c.in_err-n.ensures.value)
    (key_no_number c.loop-index.invariant _ c.loop-index-test.true c.in-Some.ensures.cases.0 c.in-Some.ensures.cases.1 (sym nothing ∙ c.read_number.ensures))

pub returns-in_err-n-clause-read_back : goal.returns-in_err-n-clause-read_back
returns-in_err-n-clause-read_back c = (as_said _ _ (returns-in_err-n-clause-value c)).1

pub returns-in-Some-clause-value : goal.returns-in-Some-clause-value
returns-in-Some-clause-value c =
    key_number c.loop-index.invariant _ c.loop-index-test.true c.in-Some.ensures.cases.0 c.in-Some.ensures.cases.1
    (sym c.in_ok-n.ensures.ok_part ∙ c.read_number.ensures)

pub returns-in-Some-clause-read_back : goal.returns-in-Some-clause-read_back
returns-in-Some-clause-read_back c = (as_said _ _ (returns-in-Some-clause-value c)).1

pub loop-index-preserved : goal.loop-index-preserved
loop-index-preserved c = key_other c.loop-index.invariant _ c.loop-index-test.true c.in_default.ensures.cases

pub returns-clause-value : goal.returns-clause-value
returns-clause-value c = all_searched c.loop-index.invariant c.loop-index-test.false

pub returns-clause-read_back : goal.returns-clause-read_back
returns-clause-read_back c = (as_said _ _ (returns-clause-value c)).1
