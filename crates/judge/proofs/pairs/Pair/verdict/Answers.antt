-- `judge::pairs::Pair::verdict` meets its contract: one stretch of rules, and then the next. Assumes nothing.
use Rattle.std.proofs.Common.{Err, sym, ◌∙◌, rules, ◌≡◌}
use Rattle.judge.proofs.OfPairs.{range_refused, layout-refused, then-inside}
use Rattle.judge.proofs.pairs.Pair.verdict.Goals as goal

pub returns-in_err-range_verdict : goal.returns-in_err-range_verdict
returns-in_err-range_verdict c =
    let pair = c.args.self.now in
    let passed_on : c.from_residual.result ≡ Err c.in_err-range_verdict.field-0.0 = search rules in
    passed_on
    ∙ sym (range_refused pair.section.now.card pair.section.now.words.now pair.section.now.end.0 pair.place.0 (sym c.in_err-range_verdict.ensures))

pub returns-in_err-layout_verdict : goal.returns-in_err-layout_verdict
returns-in_err-layout_verdict c =
    let pair = c.args.self.now in
    let ranged = sym c.in_ok-range_verdict.ensures in
    let passed_on : c.from_residual-in_err-layout_verdict.result ≡ Err c.in_err-layout_verdict.field-0.0 = search rules in
    passed_on
    ∙ sym (layout-refused pair.section.now.card pair.section.now.words.now pair.section.now.end.0 pair.place.0 ranged
    (sym (c.requires ranged) ∙ sym c.in_err-layout_verdict.ensures))

pub returns : goal.returns
returns c =
    let pair = c.args.self.now in
    let ranged = sym c.in_ok-range_verdict.ensures in
    c.inside_verdict.ensures
    ∙ sym (then-inside pair.section.now.card pair.section.now.words.now pair.section.now.end.0 pair.place.0 ranged
    (sym (c.requires ranged) ∙ sym c.in_ok-layout_verdict.ensures))
