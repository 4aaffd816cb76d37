-- `fetches::fetch_clause` meets its contract. The loop's invariant: the fetches passed break nothing. Assumes nothing.
use mathlib.Core.Path.{◌≡◌}
use Rattle.checks.specs.Verdict.{Accepted}
use Rattle.checks.specs.Checks.{first_broken, below}
use Rattle.fetches.specs.Fetches.{fetch_checks}
use Rattle.fetches.proofs.fetch_clause.Given as goal

abbrev pub invariant-loop-i : goal.invariant-loop-i
invariant-loop-i l = first_broken (below (fetch_checks l.kind l.limits l.words l.place l.start) l.i) ≡ Accepted
