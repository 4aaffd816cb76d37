-- `judge::passes::Section::first_pass` meets its contract. Assumes nothing.
use Rattle.std.proofs.Common.{ℕ, Option, Ok, Err, sym, subst, ◌∙◌, add-one, arith, rules, ◌≡◌, ◌≤◌}
use Rattle.units.specs.declared.Quadwords.{Quadwords}
use Rattle.units.specs.Units.{quadwords}
use Rattle.checks.specs.Checks.{first_broken}
use Rattle.section.specs.declared.Clause.{Clause}
use Rattle.section.specs.Rules.{clause_at}
use Rattle.apart.specs.declared.Seen.{Seen}
use Rattle.apart.specs.Code.{SeenWith, SeenBefore}
use Rattle.apart.proofs.OfApart.{seen_first, seen_next}
use Rattle.judge.specs.declared.passes.Section.{Section}
use Rattle.judge.specs.declared.pairs.Pair.{Pair}
use Rattle.judge.specs.Judge.{first_checks}
use Rattle.judge.specs.Code.{Standing, LayoutTold, Found}
use Rattle.judge.proofs.OfLayout.{told_at}
use Rattle.judge.proofs.OfPass.{standing_first, stops, standing_next, passes_all}
use Rattle.judge.proofs.passes.Section.first_pass.Goals as goal

-- the pair that was read at p of the section
module _ (section : Section) (p : ℕ) (pair : Pair) (of_section : pair.section.now ≡ section) (at_place : pair.place ≡ quadwords p) where
  there : (P : Section → Quadwords → Type 0) → P section (quadwords p) → P pair.section.now pair.place
  there P h = subst (λ (x : Section). P x pair.place) (sym of_section) (subst (P section) (sym at_place) h)

  here : (P : Section → Quadwords → Type 0) → P pair.section.now pair.place → P section (quadwords p)
  here P h = subst (P section) at_place (subst (λ (x : Section). P x pair.place) of_section h)

  with_clause : (e : ℕ) (seen next : Seen) → SeenWith section.words.now e pair.clause seen next → SeenWith section.words.now e (clause_at section.words.now p) seen next
  with_clause e seen next h =
      subst (λ (k : Option Clause). SeenWith section.words.now e k seen next)
      (here (λ x q. pair.clause ≡ clause_at x.words.now q.0) pair.clause_value) h

pub loop-p-init : goal.loop-p-init
loop-p-init c =
    let s = c.args.self in (
      standing_first s.card s.words.now s.end.0 c.args.rows.now c.requires,
      subst (SeenBefore s.words.now s.end.0 0) (sym c.none_seen-seen.ensures) (seen_first s.words.now s.end.0),
    )

pub pass-requires-clause-standing : goal.pass-requires-clause-standing
pass-requires-clause-standing c =
    there c.args.self c.loop-p.p c.read-pair.result c.read-pair.ensures.of_section c.read-pair.ensures.at_place
    (λ x q. Standing x.card x.words.now x.end.0 q.0 c.loop-p.s c.loop-p.rows) c.loop-p.invariant.0

pub pass-requires-clause-layout_told : goal.pass-requires-clause-layout_told
pass-requires-clause-layout_told c =
    let s = c.args.self in
    let in_section : c.loop-p.p ≤ s.end.0 = omega (arith, c.loop-p-test.true) in
    let seen = with_clause s c.loop-p.p c.read-pair.result c.read-pair.ensures.of_section c.read-pair.ensures.at_place s.end.0 c.loop-p.seen c.seen_with-seen.result c.seen_with-seen.ensures in
    there s c.loop-p.p c.read-pair.result c.read-pair.ensures.of_section c.read-pair.ensures.at_place
    (λ x q. LayoutTold x.card x.words.now x.end.0 q.0 c.seen_with-seen.result)
    (told_at s.card s.words.now s.end.0 c.loop-p.p in_section s.in_buffer s.quads_marked c.loop-p.invariant.0.clean_before c.loop-p.seen c.seen_with-seen.result c.loop-p.invariant.1 seen)

pub returns-in_err-ahead-clause-value : goal.returns-in_err-ahead-clause-value
returns-in_err-ahead-clause-value c =
    let s = c.args.self in
    let in_section : c.loop-p.p ≤ s.end.0 = omega (arith, c.loop-p-test.true) in
    let passed_on : c.from_residual.result ≡ Err c.in_err-ahead.field-0.0 = search rules in
    let found =
    here s c.loop-p.p c.read-pair.result c.read-pair.ensures.of_section c.read-pair.ensures.at_place
    (λ x q. first_broken (first_checks x.card x.words.now x.end.0 q.0) ≡ Err c.in_err-ahead.field-0.0) c.in_err-ahead.ensures
    in
    passed_on ∙ sym (stops s.card s.words.now s.end.0 c.loop-p.p c.loop-p.s c.loop-p.rows c.loop-p.invariant.0 in_section found)

pub loop-p-preserved : goal.loop-p-preserved
loop-p-preserved c =
    let s = c.args.self in
    let in_section : c.loop-p.p ≤ s.end.0 = omega (arith, c.loop-p-test.true) in
    let found =
    here s c.loop-p.p c.read-pair.result c.read-pair.ensures.of_section c.read-pair.ensures.at_place
    (λ x q. Found x.card x.words.now x.end.0 q.0 (Ok c.in_ok-ahead.ahead)) c.in_ok-ahead.ensures
    in
    let seen = with_clause s c.loop-p.p c.read-pair.result c.read-pair.ensures.of_section c.read-pair.ensures.at_place s.end.0 c.loop-p.seen c.seen_with-seen.result c.seen_with-seen.ensures in (
      rw add-one (standing_next s.card s.words.now s.end.0 c.loop-p.p c.loop-p.s c.loop-p.rows c.loop-p.invariant.0 in_section c.in_ok-ahead.ahead found),
      rw add-one (seen_next s.words.now s.end.0 c.loop-p.p c.loop-p.seen c.seen_with-seen.result c.loop-p.invariant.1 seen),
    )

pub returns-clause-value : goal.returns-clause-value
returns-clause-value c =
    let s = c.args.self in
    sym (passes_all s.card s.words.now s.end.0 c.loop-p.s c.loop-p.rows c.loop-p.p (omega (arith, c.loop-p-test.false)) c.loop-p.invariant.0).0

pub returns-clause-recorded : goal.returns-clause-recorded
returns-clause-recorded c =
    let s = c.args.self in
    λ accepted. (passes_all s.card s.words.now s.end.0 c.loop-p.s c.loop-p.rows c.loop-p.p (omega (arith, c.loop-p-test.false)) c.loop-p.invariant.0).1
