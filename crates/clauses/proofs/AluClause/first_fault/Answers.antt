-- `clauses::AluClause::first_fault` meets its contract. Assumes nothing.
use Rattle.std.proofs.Common.{◌<◌, ◌≤◌, arith, rules, refl}
use Rattle.clauses.proofs.OfPlace.{going_none, going-broken, going_less, going_next, going_done}
use Rattle.clauses.proofs.AluClause.first_fault.Goals as goal

pub loop-first-init : goal.loop-first-init
loop-first-init c = let s = c.args.self.now in going_none s.kind s.limits s.words.now s.place s.start s.slots

pub loop-first-smaller : goal.loop-first-smaller
loop-first-smaller c =
    let s = c.args.self.now in
    let more : c.loop-first.first.0 < s.slots.0 = grind arith in
    going_less s.kind s.limits s.words.now s.place s.start s.slots (search rules) s.inside c.loop-first.invariant more c.judge_group.ensures c.in-Ok.is
    c.slot_behind-first.ensures

pub loop-first-preserved : goal.loop-first-preserved
loop-first-preserved c =
    let s = c.args.self.now in
    let more : c.loop-first.first.0 < s.slots.0 = grind arith in
    going_next s.kind s.limits s.words.now s.place s.start s.slots (search rules) s.inside c.loop-first.invariant more c.judge_group.ensures c.in-Ok.is
    c.slot_behind-first.ensures c.add-setters.ensures

pub returns-in-Err : goal.returns-in-Err
returns-in-Err c =
    let s = c.args.self.now in
    let more : c.loop-first.first.0 < s.slots.0 = grind arith in
    going-broken s.kind s.limits s.words.now s.place s.start s.slots (search rules) s.inside c.loop-first.invariant more c.judge_group.ensures s.push_before
    c.in-Err.is c.slot_behind.ensures refl

pub returns : goal.returns
returns c =
    let s = c.args.self.now in
    let done : s.slots.0 ≤ c.loop-first.first.0 = grind arith in
    going_done s.kind s.limits s.words.now s.place s.start s.slots (search rules) s.inside c.loop-first.invariant s.push_before done
    c.push_verdict.ensures
