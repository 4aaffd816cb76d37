-- `fetches::fetch_clause` meets its contract. The loop's invariant: the fetches passed break nothing. Assumes nothing.
use borrow.Author.Rules.{rules}
use mathlib.Core.Path.{◌≡◌, sym, ap, ◌∙◌}
use Prim.Native.Nat.{ℕ}
use native.Mathlib.Omega.{arith}
use native.Mathlib.Numerals.{add-one}
use Rattle.checks.specs.declared.Place.TheVariants.{Quadword}
use Rattle.checks.specs.Checks.{first_broken, below}
use Rattle.checks.proofs.OfChecks.{below_none, below_next, below_found}
use Rattle.fetches.specs.Fetches.{fetch_checks}
use Rattle.fetches.specs.Code.{broken_rule}
use Rattle.fetches.proofs.OfClause.{slot_is, fetch_is, fetch_in, fetch_told, told, outside, within}
use Rattle.fetches.proofs.fetch_clause.Goals as goal

pub returns-then-not-fetches_lie_in : goal.returns-then-not-fetches_lie_in
returns-then-not-fetches_lie_in c =
    let a = c.args in
    outside a.kind a.limits a.words.now a.place a.start a.fetches (sym c.fetches_lie_in.ensures ∙ c.if-not-fetches_lie_in.true)

pub loop-i-init : goal.loop-i-init
loop-i-init c = below_none _

pub broken_rule-requires : goal.broken_rule-requires
broken_rule-requires c =
    let a = c.args in
    fetch_in a.words.now a.start a.fetches (sym c.fetches_lie_in.ensures ∙ c.if-not-fetches_lie_in.false) (search rules) c.loop-i.i c.loop-i-test.true
    c.fetch_slot-slot.ensures c.slot_quadword-fetch.ensures

pub returns-in-Some : goal.returns-in-Some
returns-in-Some c =
    let a = c.args in
    let i = c.loop-i.i in
    let lies = sym c.fetches_lie_in.ensures ∙ c.if-not-fetches_lie_in.false in
    let at = fetch_is a.words.now a.start a.fetches lies (search rules) i c.loop-i-test.true c.fetch_slot-slot.ensures c.slot_quadword-fetch.ensures in
    let slot = slot_is a.words.now a.start a.fetches lies (search rules) i c.loop-i-test.true c.fetch_slot-slot.ensures in
    let rule = sym c.in-Some.is ∙ c.broken_rule.ensures ∙ ap (broken_rule a.kind a.limits a.words.now) at in
    within a.kind a.limits a.words.now a.place a.start a.fetches _ lies
    (sym (below_found (fetch_checks a.kind a.limits a.words.now a.place a.start) a.fetches.0 i c.loop-i-test.true c.loop-i.invariant
    (fetch_told a.kind a.limits a.words.now a.place a.start i ∙ (λ j. told (Quadword a.place) (sym slot j) (sym rule j)))))

pub loop-i-preserved : goal.loop-i-preserved
loop-i-preserved c =
    let a = c.args in
    let i = c.loop-i.i in
    let lies = sym c.fetches_lie_in.ensures ∙ c.if-not-fetches_lie_in.false in
    let at = fetch_is a.words.now a.start a.fetches lies (search rules) i c.loop-i-test.true c.fetch_slot-slot.ensures c.slot_quadword-fetch.ensures in
    let rule = sym c.in_default.is ∙ c.broken_rule.ensures ∙ ap (broken_rule a.kind a.limits a.words.now) at in
    rw (add-one i) (below_next (fetch_checks a.kind a.limits a.words.now a.place a.start) i c.loop-i.invariant
    (fetch_told a.kind a.limits a.words.now a.place a.start i ∙ ap (told _ _) (sym rule)))

pub returns : goal.returns
returns c =
    let a = c.args in
    let done : c.loop-i.i ≡ a.fetches.0 = omega arith in
    within a.kind a.limits a.words.now a.place a.start a.fetches _
    (sym c.fetches_lie_in.ensures ∙ c.if-not-fetches_lie_in.false)
    (sym c.loop-i.invariant ∙ ap (λ (n : ℕ). first_broken (below (fetch_checks a.kind a.limits a.words.now a.place a.start) n)) done)
