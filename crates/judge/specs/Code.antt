-- What only the code's contracts cite: what the parts of the first pass hand on.
use Rattle.std.specs.Prelude.{ℕ, suc, ◌≤◌, ◌<◌, ◌≡◌, cond, ◌||◌, Option, Result, Ok, Err, List, length}
use Rattle.units.specs.declared.Quadwords.{Quadwords}
use Rattle.units.specs.Units.{quadwords, slots}
use Rattle.checks.specs.declared.Place.TheVariants.{Quadword}
use Rattle.checks.specs.declared.Refusal.{Refusal}
use Rattle.checks.specs.Verdict.{Verdict, Accepted, Refused}
use Rattle.checks.specs.Checks.{first_broken, below}
use Rattle.card.specs.declared.Card.{Card}
use Rattle.section.specs.declared.Clause.{Clause}
use Rattle.section.specs.Rules.{clause_at}
use Rattle.apart.specs.declared.Seen.{Seen}
use Rattle.apart.specs.Apart.{odd_fetch, layout_checks}
use Rattle.apart.specs.Code.{names}
use Rattle.walk.specs.declared.Flow.{Flow}
use Rattle.walk.specs.declared.Frames.{Frames}
use Rattle.walk.specs.declared.rows.Row.{Row}
use Rattle.walk.specs.CodeHeld.{Held, Recorded}
use Rattle.walk.specs.Flow.{flow_at}
use Rattle.walk.specs.Rules.{stack_checks}
use Rattle.judge.specs.Judge.{range_checks, first_checks}

-- the first pass stands before p: nothing is broken at the places before, and the stack and the rows are those of these places
pub record Standing (card : Card) (w : List ℕ) (e p : ℕ) (s : Frames) (rows : List Row) : Type 0 where
  pub room : e < length rows
  pub near : p ≤ suc e
  pub clean_before : first_broken (below (first_checks card w e) p) ≡ Accepted
  pub held : Held (flow_at w) p s
  pub not_deep : s.depth ≤ card.stack
  pub recorded : Recorded (flow_at w) p rows

-- 22 at p, of its clause and of what is known with it
abbrev pub layout_verdict : Option Clause → Seen → Quadwords → Verdict
layout_verdict k seen p = cond (odd_fetch k || names seen p) (Refused 22 (Quadword p) (slots 0)) Accepted

-- that is the list's verdict on 22, where 4, 5 and 6 are kept
abbrev pub LayoutTold : Card → List ℕ → ℕ → ℕ → Seen → Type 0
LayoutTold card w e p seen =
    first_broken (range_checks card w e p) ≡ Accepted
    → layout_verdict (clause_at w p) seen (quadwords p) ≡ first_broken (layout_checks (clause_at w) p)

-- 16 and 17 at p: what is broken, or the stack behind it
abbrev pub StackFound : ℕ → ℕ → (ℕ → Flow) → ℕ → Result Frames Refusal → Type 0
StackFound limit e code p (Err refusal) = first_broken (stack_checks limit e code p) ≡ Err refusal
StackFound limit e code p (Ok f) =
    (first_broken (stack_checks limit e code p) ≡ Accepted) × Held code (suc p) f × (f.depth ≤ limit)

-- all of the first pass at p
abbrev pub Found : Card → List ℕ → ℕ → ℕ → Result Frames Refusal → Type 0
Found card w e p (Err refusal) = first_broken (first_checks card w e p) ≡ Err refusal
Found card w e p (Ok f) =
    (first_broken (first_checks card w e p) ≡ Accepted) × Held (flow_at w) (suc p) f × (f.depth ≤ card.stack)
