-- `judge::pairs::Pair::pass` meets its contract: 4 to 15 with 22, and then 16 and 17. Assumes nothing.
use Rattle.std.proofs.Common.{Err, sym, rules, subst, ◌≡◌}
use Rattle.judge.specs.Code.{Found}
use Rattle.judge.proofs.OfPass.{pair_refused, then_stack}
use Rattle.judge.proofs.pairs.Pair.pass.Goals as goal

pub returns-in_err-verdict : goal.returns-in_err-verdict
returns-in_err-verdict c =
    let pair = c.args.self.now in
    let section = pair.section.now in
    let passed_on : c.from_residual.result ≡ Err c.in_err-verdict.field-0.0 = search rules in
    subst (Found section.card section.words.now section.end.0 pair.place.0) (sym passed_on)
    (pair_refused section.card section.words.now section.end.0 pair.place.0 (sym c.in_err-verdict.ensures))

pub returns : goal.returns
returns c =
    let pair = c.args.self.now in
    let section = pair.section.now in
    then_stack section.card section.words.now section.end.0 pair.place.0 (sym c.in_ok-verdict.ensures) c.stack_behind.result c.stack_behind.ensures
