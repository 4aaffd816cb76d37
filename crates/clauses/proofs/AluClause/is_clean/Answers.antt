-- `clauses::AluClause::is_clean` meets its contract. Assumes nothing.
use Rattle.std.proofs.Common.{◌≡◌, ◌+◌, ◌<◌, ◌&&◌, eqb, refl, ◌∙◌, arith, rules, eqb-true}
use Rattle.laws.proofs.OfTests.{both}
use Rattle.clauses.specs.CodeScreen.{no_tally}
use Rattle.clauses.proofs.OfScreen.{glancing_none, glancing-done, issued-small, glancing-ends, glancing-step, ended}
use Rattle.clauses.proofs.AluClause.is_clean.Goals as goal

pub loop-at-init : goal.loop-at-init
loop-at-init c fits =
    let s = c.args.self.now in
    let none : c.default-seen.result ≡ no_tally = search rules in
    glancing_none s.limits c.is_pixel-pixel.result s.words.now s.start s.slots c.default-seen.result none

pub with_one-more-requires : goal.with_one-more-requires
with_one-more-requires c =
    let s = c.args.self.now in
    let end = ended s.words.now s.start s.slots (search rules) s.inside c.slot_quadword-end.ensures in
    issued-small s.limits c.is_pixel-pixel.result s.words.now s.start s.slots (c.loop-at.invariant (omega (arith, end, c.loop-at-test.true)))

pub breaks_14-requires : goal.breaks_14-requires
breaks_14-requires c =
    let s = c.args.self.now in
    let end = ended s.words.now s.start s.slots (search rules) s.inside c.slot_quadword-end.ensures in
    let here : c.loop-at.at < s.start.0 + s.slots.0 = omega (arith, end, c.loop-at-test.true) in
    glancing-ends s.limits c.is_pixel-pixel.result s.words.now s.start s.slots (c.loop-at.invariant (omega (arith, here))) here refl refl
    c.class_code-code.ensures c.unit_of-unit.ensures c.gaps-gaps.ensures
    c.is_wrong.ensures c.if-is_wrong.false c.more_literals-literals.ensures c.with_one-more.ensures s.inside

pub loop-at-preserved : goal.loop-at-preserved
loop-at-preserved c fits =
    let s = c.args.self.now in
    let end = ended s.words.now s.start s.slots (search rules) s.inside c.slot_quadword-end.ensures in
    let here : c.loop-at.at < s.start.0 + s.slots.0 = omega (arith, end, c.loop-at-test.true) in
    glancing-step s.limits c.is_pixel-pixel.result s.words.now s.start s.slots (c.loop-at.invariant (omega (arith, here))) here refl refl
    c.class_code-code.ensures c.unit_of-unit.ensures c.gaps-gaps.ensures c.is_wrong.ensures c.if-is_wrong.false c.more_literals-literals.ensures c.with_one-more.ensures
    c.read-last.ensures (omega (arith, c.read-last.ensures)) c.only_if.ensures c.only_if-issued.ensures
    (λ i. c.is_pixel-pixel.result && eqb (c.loop-at.at + 1 + c.only_if.result) (end i)) c.breaks_14.ensures c.if-breaks_14.false refl
    c.kept-seen.ensures fits

pub returns : goal.returns
returns c e =
    let s = c.args.self.now in
    let loop = c.loop-at in
    let stop = ended s.words.now s.start s.slots (search rules) s.inside c.slot_quadword-end.ensures in
    let x = both (eqb loop.at c.slot_quadword-end.result.0) _ e in
    let y = both (eqb loop.seen.issued 0) _ x.1 in
    let end = eqb-true loop.at c.slot_quadword-end.result.0 x.0 ∙ stop in
    glancing-done s.limits c.is_pixel-pixel.result s.words.now s.start s.slots (loop.invariant (omega (arith, end))) s.kind s.place s.push_before
    s.inside c.is_pixel-pixel.ensures end (eqb-true loop.seen.issued 0 y.0) y.1
