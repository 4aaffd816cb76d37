-- `groups::read_instruction` meets its contract, field by field. Assumes nothing.
use Rattle.std.proofs.Common.{◌∙◌}
use Rattle.groups.proofs.OfCode.{next_seen_lem, unit_by_tag}
use Rattle.groups.proofs.read_instruction.Goals as goal

pub returns : goal.returns
returns c =
    let a = c.args in
    next_seen_lem a.limits a.j a.first a.low a.high a.seen
    (record {
      class_is = c.class_of-class.ensures;
      chan_is = c.read.ensures;
      unit_is = c.unit_by_code-unit.ensures ∙ unit_by_tag a.seen.taken c.class_of-class.result.unit c.read.result;
      swizzle_is = c.read-2.ensures;
      bad_is = c.is_bad_unit-bad_unit.ensures;
      uneven_is = c.is_uneven-uneven.ensures;
      taken_is = c.is_taken.ensures;
    })
    c.literals_of.ensures
    c.max.ensures
    c.or_here.ensures
    c.is_bad_field.ensures
    c.or_here-2.ensures
    c.or_here-3.ensures
    c.operands_granted-granted.ensures
    c.or_here-4.ensures
    c.occupy.ensures
    c.has_relative-relative.ensures
    c.next_issues.ensures
