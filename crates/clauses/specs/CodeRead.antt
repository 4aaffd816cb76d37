-- What the code's parts answer about one group and about PUSH_BEFORE's count. It is for the code alone.
use Rattle.std.specs.Prelude.{ℕ, Bool, cond, not, ◌&&◌, List, ◌==◌, Option, Some, None, Result, Ok, Err}
use Rattle.units.specs.declared.Quadwords.{Quadwords}
use Rattle.units.specs.declared.Slots.{Slots}
use Rattle.units.specs.Units.{slots, is_slot_below}
use Rattle.checks.specs.declared.Place.TheVariants.{Quadword}
use Rattle.checks.specs.Verdict.{Verdict, Accepted, Refused}
use Rattle.opcodes.specs.declared.alu.Issue.TheVariants.{Predicate}
use Rattle.grants.specs.declared.Limits.{Limits}
use Rattle.groups.specs.declared.counts.Count.{Count}
use Rattle.groups.specs.declared.GroupFault.{GroupFault}
use Rattle.groups.specs.Group.{issued}
use Rattle.groups.specs.Code.{seen_of, count_of, is_one, Outcome, Clean, fault_of}
use Rattle.clauses.specs.declared.Group.{Group}
use Rattle.clauses.specs.declared.Passed.{Passed}
use Rattle.clauses.specs.Clause.{low_of, high_of, size_of, span_of, bad_shape}

-- the group whose first slot is a quadword, and all that was seen of its instructions
unfoldable pub group_of : Limits → List ℕ → Quadwords → Slots → Option Group
group_of limits w at left =
    cond (size_of w at left == 0) None
    (Some (record { size = slots (size_of w at left); seen = seen_of limits (low_of w at) (high_of w at) (size_of w at left) }))

-- the group that takes so many of the slots left ends its clause
abbrev pub ends_clause : Slots → Slots → Bool
ends_clause left span = not (is_slot_below span left)

-- what a group comes to: a bad shape, the first broken rule of 11 to 15, or the slots that it takes and how many setters it has
abbrev pub Step : Type 0
Step = Result Passed GroupFault

abbrev pub Unshaped : Step
Unshaped = Err (record { rule = 10; behind = slots 0 })

abbrev pub step_by : Outcome → Slots → Count → Step
step_by Clean span count = Ok (record { span = span; setters = count })
step_by (Err fault) span count = Err fault

unfoldable pub step_of : Limits → Bool → List ℕ → Quadwords → Slots → Step
step_of limits pixel w at left =
    cond (bad_shape w at left) Unshaped
    (step_by (fault_of (seen_of limits (low_of w at) (high_of w at) (size_of w at left)) (size_of w at left) (pixel && ends_clause left (span_of w at left))) (span_of w at left) (count_of (issued Predicate (high_of w at) (size_of w at left))))

unfoldable pub push_verdict : Bool → Count → Quadwords → Verdict
push_verdict pushBefore count place =
    cond (pushBefore && not (is_one count)) (Refused 14 (Quadword place) (slots 0)) Accepted
