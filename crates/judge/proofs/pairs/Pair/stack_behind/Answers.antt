-- `judge::pairs::Pair::stack_behind` meets its contract, by what the step found. Assumes nothing.
use mathlib.Core.Logic.{⊎_elim}
use borrow.Author.Tests.{eqb-true, eqb-false}
use Rattle.std.proofs.Common.{Err, ap, sym, ◌∙◌, arith, ◌<◌}
use Rattle.judge.proofs.OfStack.{breaks_16, breaks-17, found-next}
use Rattle.judge.proofs.pairs.Pair.stack_behind.Goals as goal

pub returns-in_default : goal.returns-in_default
returns-in_default c =
    let pair = c.args.self.now in
    let few : pair.place.0 < 512 = omega (arith, pair.in_section, pair.section.now.among_512) in
    breaks_16 pair.section.now.card pair.section.now.words.now pair.section.now.end.0 pair.place.0 c.args.s c.args.rows.now c.requires few
    c.flow.ensures c.quadword_behind-behind.ensures c.follow.ensures c.in_default.field-0 c.in_default.is
    ∙ ap Err (sym c.refused.ensures)

pub returns-then-s-ne0 : goal.returns-then-s-ne0
returns-then-s-ne0 c =
    let pair = c.args.self.now in
    let few : pair.place.0 < 512 = omega (arith, pair.in_section, pair.section.now.among_512) in
    breaks-17 pair.section.now.card pair.section.now.words.now pair.section.now.end.0 pair.place.0 c.args.s c.args.rows.now c.requires few
    c.flow.ensures c.quadword_behind-behind.ensures c.follow.ensures c.in-Ok.after c.in-Ok.is (eqb-true _ _ (sym c.if-eq.ensures)) c.if-s-ne0.true
    ∙ ap Err (sym c.refused-then-s-ne0.ensures)

pub returns : goal.returns
returns c =
    let pair = c.args.self.now in
    let few : pair.place.0 < 512 = omega (arith, pair.in_section, pair.section.now.among_512) in
    found-next pair.section.now.card pair.section.now.words.now pair.section.now.end.0 pair.place.0 c.args.s c.args.rows.now c.requires few
    c.flow.ensures c.quadword_behind-behind.ensures c.follow.ensures c.in-Ok.after c.in-Ok.is
    (λ last. ⊎_elim (λ b. b.1) (λ other. absurd (eqb-false _ _ (sym c.eq.ensures ∙ other) last)) c.else-eq.either)
