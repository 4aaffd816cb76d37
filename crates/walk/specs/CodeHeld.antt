-- What only the code's contracts cite: when rows hold the first pass's stacks: `marks` frames M over the loop frame of `top - 1`, or over nothing
-- where `top` is 0.
use Rattle.std.specs.Prelude.{ℕ, zero, suc, ◌≤◌, ◌<◌, ◌≡◌, List, [], ◌∷◌, length}
use Rattle.walk.specs.declared.Flow.{Flow}
use Rattle.walk.specs.declared.Frames.{Frames}
use Rattle.walk.specs.declared.rows.Row.{Row}
use Rattle.walk.specs.Flow.{M, L, Stack, stack_at}
use Rattle.walk.specs.CodeRows.{row_at}

-- m frames M over a stack
unfoldable pub marked : ℕ → Stack → Stack
marked zero s = s
marked (suc m) s = M ∷ marked m s

-- the loop that starts before `top`, over the stack at its start; nothing at 0
unfoldable pub base : (ℕ → Flow) → ℕ → Stack
base code zero = []
base code (suc q) = L q ∷ stack_at code q

-- a row is the first pass's stack at p
pub record Shape (code : ℕ → Flow) (p : ℕ) (row : Row) : Type 0 where
  pub stack : stack_at code p ≡ marked row.marks (base code row.top.0)
  pub near : row.top.0 ≤ p

-- so is a struct, with its depth
pub record Held (code : ℕ → Flow) (p : ℕ) (s : Frames) : Type 0 where
  pub shape : Shape code p s.row
  pub size : s.depth ≡ length (stack_at code p)

-- the rows of all places below n hold the stacks there
abbrev pub Recorded : (ℕ → Flow) → ℕ → List Row → Type 0
Recorded code n rows = (k : ℕ) → k < n → Shape code k (row_at rows k)
