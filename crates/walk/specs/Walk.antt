-- The walk along a list of answers: document 01's last paragraph of "The walk". Places are quadwords.
use Rattle.std.specs.Prelude.{ℕ, Bool, true, false, cond, List, [], ◌∷◌, eqb, ltb}
use Rattle.walk.specs.declared.Flow.{Flow}
use Rattle.walk.specs.Flow.{Stack, Move, lacks, goes, move}

-- where the walk stands
pub record State : Type 0 where
  pub fault : Bool
  pub at : ℕ
  pub stack : Stack

-- the walk starts at quadword 0 with an empty stack
abbrev pub start : State
start = record { fault = false; at = 0; stack = [] }

-- a fault: place and stack stay
abbrev pub faulted : State → State
faulted s = record { fault = true; at = s.at; stack = s.stack }

unfoldable pub land : State → Move → State
land s lacks = faulted s
land s (goes t k) = record { fault = false; at = t; stack = k }

-- one step: a fault stays; outside the section is a fault; at e it has halted, and the answer changes nothing; a step that
-- lacks a frame it needs or pops faults
unfoldable pub step : ℕ → (ℕ → Flow) → State → Bool → State
step e code s a =
    cond s.fault s
    (cond (ltb e s.at) (faulted s)
    (cond (eqb s.at e) s
    (land s (move (code s.at) s.at a s.stack))))

-- each step starts from the place and stack the last one left
unfoldable pub walk : ℕ → (ℕ → Flow) → State → List Bool → State
walk e code s [] = s
walk e code s (a ∷ rest) = walk e code (step e code s a) rest
