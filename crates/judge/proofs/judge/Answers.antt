-- `judge::judge` meets its contract: demand 2, and demand 3 with it. Assumes nothing.
use Rattle.std.proofs.Common.{Err, sym, ap, ◌∙◌, arith, rules, true, false, ◌≡◌}
use lib.Dec.{leb}
use Rattle.units.specs.declared.Quadwords.{Quadwords}
use Rattle.checks.specs.Checks.{first_broken}
use Rattle.section.specs.Control.{end_of}
use Rattle.judge.specs.Judge.{passes}
use Rattle.judge.proofs.OfJudge.{line_refused, length-refused, no_end_is, end-refused, in_words, by-passes}
use Rattle.judge.proofs.OfSafe.{accepted_safely}
use Rattle.judge.proofs.judge.Goals as goal

pub returns-in-Err-clause-value : goal.returns-in-Err-clause-value
returns-in-Err-clause-value c =
    let a = c.args in
    ap Err c.bad_card.ensures ∙ sym (line_refused a.card a.words.now c.in-Err.line (sym c.check_card.ensures ∙ c.in-Err.is))

pub returns-then-is_bad_length-clause-value : goal.returns-then-is_bad_length-clause-value
returns-then-is_bad_length-clause-value c =
    let a = c.args in
    ap Err c.of_place.ensures
    ∙ sym (length-refused a.card a.words.now (sym c.check_card.ensures ∙ c.in_default.is) (sym c.is_bad_length.ensures ∙ c.if-is_bad_length.true))

pub returns-then-le-clause-value : goal.returns-then-le-clause-value
returns-then-le-clause-value c =
    let a = c.args in
    let asked : true ≡ leb c.searched_pairs.result.0 c.find_end-end.result.0 = search rules in
    let none = no_end_is a.words.now c.searched_pairs.ensures c.find_end-end.ensures asked in
    ap Err c.of_place-then-le.ensures
    ∙ sym (end-refused a.card a.words.now (sym c.check_card.ensures ∙ c.in_default.is) (sym c.is_bad_length.ensures ∙ c.if-is_bad_length.false) none)

pub invariant_of-verdict : goal.invariant_of-verdict
invariant_of-verdict c =
    let a = c.args in
    let asked : false ≡ leb c.searched_pairs.result.0 c.find_end-end.result.0 = search rules in
    let one = no_end_is a.words.now c.searched_pairs.ensures c.find_end-end.ensures asked in
    let words = in_words a.card a.words.now (sym c.check_card.ensures ∙ c.in_default.is) (sym c.is_bad_length.ensures ∙ c.if-is_bad_length.false) one in
    let end : c.find_end-end.result.0 ≡ end_of a.words.now = ap (λ (x : Quadwords). x.0) c.find_end-end.ensures in
    record {
      in_buffer = omega (arith, words.in_buffer, end);
      among_512 = omega (arith, words.among_512, end);
      quads_marked = words.quads_marked;
    }

pub returns : goal.returns
returns c =
    let a = c.args in
    let asked : false ≡ leb c.searched_pairs.result.0 c.find_end-end.result.0 = search rules in
    let one = no_end_is a.words.now c.searched_pairs.ensures c.find_end-end.ensures asked in
    let value =
    c.verdict.ensures
    ∙ ap (λ (x : Quadwords). first_broken (passes a.card a.words.now x.0)) c.find_end-end.ensures
    ∙ sym (by-passes a.card a.words.now (sym c.check_card.ensures ∙ c.in_default.is) (sym c.is_bad_length.ensures ∙ c.if-is_bad_length.false) one)
    in
    record { value = value; safely = λ accepted. accepted_safely a.card a.words.now (sym value ∙ accepted) }
