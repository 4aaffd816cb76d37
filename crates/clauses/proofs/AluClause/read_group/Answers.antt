-- `clauses::AluClause::read_group` meets its contract. Assumes nothing.
use Rattle.std.proofs.Common.{◌≡◌, ◌+◌, ◌<◌, ◌≤◌, min, arith, rules, ap}
use Rattle.units.specs.declared.Quadwords.{Quadwords}
use Rattle.units.specs.declared.Slots.{Slots}
use Rattle.units.specs.Units.{slot_quadword, slots_left}
use Rattle.groups.specs.Code.{none_seen}
use Rattle.clauses.proofs.OfRead.{low_there, high_there, reading_none, reading-out, reading-last, reading-next}
use Rattle.clauses.proofs.AluClause.read_group.Goals as goal

pub loop-j-init : goal.loop-j-init
loop-j-init c =
    let s = c.args.self.now in
    let at = slot_quadword s.start c.args.first in
    let exact : c.slot_quadword-at.result.0 ≡ at.0 + 0 = omega (arith, ap (λ (q : Quadwords). q.0) c.slot_quadword-at.ensures) in
    let none : c.default-seen.result ≡ none_seen = search rules in
    reading_none s.words.now at (slots_left s.slots c.args.first) s.limits (high_there s.words.now at 0 exact) none

pub returns-then-read-eq1 : goal.returns-then-read-eq1
returns-then-read-eq1 c =
    let s = c.args.self.now in
    let at = slot_quadword s.start c.args.first in
    let j = c.loop-j.j in
    let here : c.slot_quadword-at.result.0 + j ≡ at.0 + j = omega (arith, ap (λ (q : Quadwords). q.0) c.slot_quadword-at.ensures) in
    let few : j < 5 = omega arith in
    let left : j < (slots_left s.slots c.args.first).0 = omega (arith, ap (λ (n : Slots). n.0) c.slots_left-left.ensures) in
    reading-last s.words.now at (slots_left s.slots c.args.first) s.limits c.loop-j.invariant few left
    (low_there s.words.now at j here) (high_there s.words.now at j here)
    c.read_instruction-seen.ensures c.read.ensures c.if-read-eq1.true

pub loop-j-preserved : goal.loop-j-preserved
loop-j-preserved c =
    let s = c.args.self.now in
    let at = slot_quadword s.start c.args.first in
    let j = c.loop-j.j in
    let here : c.slot_quadword-at.result.0 + j ≡ at.0 + j = omega (arith, ap (λ (q : Quadwords). q.0) c.slot_quadword-at.ensures) in
    let few : j < 5 = omega arith in
    let left : j < (slots_left s.slots c.args.first).0 = omega (arith, ap (λ (n : Slots). n.0) c.slots_left-left.ensures) in
    reading-next s.words.now at (slots_left s.slots c.args.first) s.limits c.loop-j.invariant few left
    (low_there s.words.now at j here) (high_there s.words.now at j here)
    c.read_instruction-seen.ensures c.read.ensures c.if-read-eq1.false

pub returns : goal.returns
returns c =
    let s = c.args.self.now in
    let at = slot_quadword s.start c.args.first in
    let all : min (slots_left s.slots c.args.first).0 5 ≤ c.loop-j.j = omega (arith, ap (λ (n : Slots). n.0) c.slots_left-left.ensures) in
    reading-out s.words.now at (slots_left s.slots c.args.first) s.limits c.loop-j.invariant all
