-- `apart::seen_with` meets its contract: by the clause, and by whether its range is clear. Assumes nothing.
use Rattle.apart.specs.Code.{opens_none}
use Rattle.apart.proofs.OfApart.{seen_clear, seen_turns}
use Rattle.apart.proofs.seen_with.Goals as goal

pub returns-in_default : goal.returns-in_default
returns-in_default c = opens_none c.in_default.is

pub returns-then-is_clear : goal.returns-then-is_clear
returns-then-is_clear c =
    let a = c.args in
    seen_clear a.words.now a.end.0 a.seen c.in-Some.is c.range-range.ensures c.range_end-behind.ensures c.is_clear.ensures c.if-is_clear.true
    c.up_to.ensures

pub returns-then-is_clear-2 : goal.returns-then-is_clear-2
returns-then-is_clear-2 c =
    let a = c.args in
    seen_clear a.words.now a.end.0 a.seen c.in-Some.is c.range-range-in-Fetch.ensures c.range_end-behind-in-Fetch.ensures c.is_clear-in-Fetch.ensures c.if-is_clear-2.true
    c.up_to-then-is_clear-2.ensures

pub returns-else-is_clear : goal.returns-else-is_clear
returns-else-is_clear c =
    let a = c.args in
    seen_turns a.words.now a.end.0 a.seen c.in-Some.is c.range-range.ensures c.range_end-behind.ensures c.is_clear.ensures c.if-is_clear.false
    c.first_not_apart.ensures

pub returns-else-is_clear-2 : goal.returns-else-is_clear-2
returns-else-is_clear-2 c =
    let a = c.args in
    seen_turns a.words.now a.end.0 a.seen c.in-Some.is c.range-range-in-Fetch.ensures c.range_end-behind-in-Fetch.ensures c.is_clear-in-Fetch.ensures c.if-is_clear-2.false
    c.first_not_apart-in-Fetch.ensures
