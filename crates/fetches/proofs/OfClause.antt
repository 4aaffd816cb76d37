-- A fetch clause: whether it lies in the buffer, fetch by fetch, and what an accepted one grants. Assumes nothing.
use mathlib.Core.Path.{◌≡◌, refl, ap, ◌∙◌}
use mathlib.Core.Bool.{Bool, true, false, cond}
use mathlib.Core.List.{List, Memᴰ}
use Prim.Native.Nat.{ℕ, ◌+◌, ◌*◌, ◌/◌, ◌^◌, ◌<◌, ◌≤◌}
use native.Mathlib.Omega.{arith}
use lib.ListN.{length}
use borrow.Author.Tests.{leb-true, not-false}
use Rattle.std.specs.Prelude.{Option, Some, None}
use Rattle.units.specs.declared.Quadwords.{Quadwords}
use Rattle.units.specs.declared.Slots.{Slots}
use Rattle.units.specs.Units.{words, slots, quadwords, fetches_length, lies_in, fetch_slot, slot_quadword}
use Rattle.units.specs.Code.{quadwords_in_64, slots_in_64}
use Rattle.checks.specs.declared.Place.{Place}
use Rattle.checks.specs.declared.Place.TheVariants.{Quadword}
use Rattle.checks.specs.Verdict.{Verdict, Accepted, Refused}
use Rattle.checks.specs.Checks.{first_broken, below}
use Rattle.checks.proofs.OfChecks.{first_clean, rest_clean, below_each}
use Rattle.grants.specs.declared.Limits.{Limits}
use Rattle.grants.specs.Grants.{Name, granted, all_granted}
use Rattle.grants.proofs.OfGrants.{each_granted}
use Rattle.opcodes.specs.declared.cf.FetchKind.{FetchKind}
use Rattle.fetches.specs.Fetches.{fetch_quadword, named_at, fetch_checks, clause_checks}
use Rattle.fetches.specs.Code.{broken_rule}

-- ---- in the buffer

-- fetch i of a clause that lies in the buffer, by the slot and the quadword that the code counts
module _ (w : List ℕ) (s : Quadwords) (n : Slots) (e : lies_in (words (length w)) s (fetches_length n) ≡ true) (m : length w < 2 ^ 64) (i : ℕ) (l : i < n.0)
    {slot : Slots} (d : slot ≡ slots_in_64 (fetch_slot (slots i))) where
  reach : 2 * (s.0 + 2 * n.0) ≤ length w
  unfolding lies_in
  reach = omega (arith, leb-true (s.0 + 2 * n.0) (length w / 2) e)

  pub slot_is : slot ≡ fetch_slot (slots i)
  slot_is = d ∙ ap slots (omega (arith, reach))

  module _ {q : Quadwords} (g : q ≡ quadwords_in_64 (slot_quadword s slot)) where
    at : q.0 ≡ s.0 + 2 * i
    at = omega (arith, reach, ap (λ (z : Slots). z.0) slot_is, ap (λ (z : Quadwords). z.0) g)

    pub fetch_is : q ≡ fetch_quadword s i
    fetch_is = ap quadwords at

    pub fetch_in : 2 * q.0 + 3 < length w
    fetch_in = omega (arith, reach, at)

-- ---- one fetch of the clause

-- the verdict by the rule that it breaks
abbrev pub told : Place → Slots → Option ℕ → Verdict
told place slot None = Accepted
told place slot (Some rule) = Refused rule place slot

pub fetch_told :
    (k : FetchKind) (l : Limits) (w : List ℕ) (place s : Quadwords) (i : ℕ)
    → first_broken (fetch_checks k l w place s i) ≡ told (Quadword place) (fetch_slot (slots i)) (broken_rule k l w (fetch_quadword s i))
unfolding fetch_checks first_broken
fetch_told k l w place s i = by _ _
  where
    by :
        (a b : Bool) → cond a (Refused 8 (Quadword place) (fetch_slot (slots i))) (cond b (Refused 9 (Quadword place) (fetch_slot (slots i))) Accepted)
        ≡ told (Quadword place) (fetch_slot (slots i)) (cond a (Some 8) (cond b (Some 9) None))
    by true b = refl
    by false true = refl
    by false false = refl

-- ---- the clause

module _ (k : FetchKind) (l : Limits) (w : List ℕ) (place s : Quadwords) (n : Slots) where
  pub outside : lies_in (words (length w)) s (fetches_length n) ≡ false → Accepted ≡ first_broken (clause_checks k l w place s n)
  unfolding clause_checks first_broken
  outside h = rw h

  pub within : (v : Verdict) → lies_in (words (length w)) s (fetches_length n) ≡ true → v ≡ first_broken (below (fetch_checks k l w place s) n.0) → v ≡ first_broken (clause_checks k l w place s n)
  unfolding clause_checks
  within v h e = rw h e

  -- an accepted clause that lies in the buffer: every register that any of its fetches names is granted
  pub accepted_granted : lies_in (words (length w)) s (fetches_length n) ≡ true → first_broken (clause_checks k l w place s n) ≡ Accepted → (i : ℕ) → i < n.0 → (r : Name) → Memᴰ r (named_at k w s i) → granted l r ≡ true
  unfolding clause_checks fetch_checks
  accepted_granted h e i j r m =
      let f = below_each (fetch_checks k l w place s) n.0 i (rw h at e) j in
      each_granted l (named_at k w s i)
      (not-false (all_granted l (named_at k w s i)) (first_clean _ _ (rest_clean _ _ f))) r m
