-- `clauses::AluClause::judge_group` meets its contract. Assumes nothing.
use Rattle.std.proofs.Common.{◌≡◌, ◌^◌, ◌<◌, ◌≤◌, Some, ap, ◌∙◌, arith, rules}
use Rattle.std.specs.Ordering.{is_le, nat_cmp}
use Rattle.units.specs.declared.Slots.{Slots}
use Rattle.units.specs.Units.{slot_quadword, slots_left}
use Rattle.clauses.specs.Clause.{is_pixel}
use Rattle.clauses.specs.CodeRead.{group_of}
use Rattle.clauses.proofs.OfStep.{step-no-size, step-too-long, step-broken, step-passed}
use Rattle.clauses.proofs.AluClause.judge_group.Goals as goal

pub returns-in_err-group : goal.returns-in_err-group
returns-in_err-group c =
    let s = c.args.self.now in
    let no = step-no-size s.limits (is_pixel s.kind) s.words.now (slot_quadword s.start c.args.first) (slots_left s.slots c.args.first) c.read_group.ensures c.in_err-group.ensures.ok_part in
    let value = c.in_err-group.ensures.value in
    search rules

pub returns-then-lt : goal.returns-then-lt
returns-then-lt c =
    let s = c.args.self.now in
    let left = slots_left s.slots c.args.first in
    let few : c.in_ok-group.group.seen.literals < 2 ^ 32 = omega arith in
    let longer : left.0 < c.slot_behind-span.result.0 = grind arith in
    let read : Some c.in_ok-group.group ≡ group_of s.limits s.words.now (slot_quadword s.start c.args.first) left = search rules in
    step-too-long s.limits (is_pixel s.kind) s.words.now (slot_quadword s.start c.args.first) left read few c.slot_behind-span.ensures longer

pub returns-in_err-group_fault : goal.returns-in_err-group_fault
returns-in_err-group_fault c =
    let s = c.args.self.now in
    let left = slots_left s.slots c.args.first in
    let few : c.in_ok-group.group.seen.literals < 2 ^ 32 = omega arith in
    let fits : c.slot_behind-span.result.0 ≤ left.0 = grind arith in
    let read : Some c.in_ok-group.group ≡ group_of s.limits s.words.now (slot_quadword s.start c.args.first) left = search rules in
    let broken = step-broken s.limits (is_pixel s.kind) s.words.now (slot_quadword s.start c.args.first) left read few c.slot_behind-span.ensures fits c.is_pixel.ensures (c.le.ensures ∙ ap (λ (n : Slots). is_le (nat_cmp n.0 c.slot_behind-span.result.0)) c.slots_left-left.ensures) c.group_fault.ensures c.in_err-group_fault.was in
    search rules

pub returns : goal.returns
returns c =
    let s = c.args.self.now in
    let left = slots_left s.slots c.args.first in
    let few : c.in_ok-group.group.seen.literals < 2 ^ 32 = omega arith in
    let fits : c.slot_behind-span.result.0 ≤ left.0 = grind arith in
    let read : Some c.in_ok-group.group ≡ group_of s.limits s.words.now (slot_quadword s.start c.args.first) left = search rules in
    step-passed s.limits (is_pixel s.kind) s.words.now (slot_quadword s.start c.args.first) left read few c.slot_behind-span.ensures fits c.is_pixel.ensures (c.le.ensures ∙ ap (λ (n : Slots). is_le (nat_cmp n.0 c.slot_behind-span.result.0)) c.slots_left-left.ensures) c.group_fault.ensures c.in_ok-group_fault.was
