-- Rule 22 at a place: what is known of the clauses tells of it. Assumes nothing.
use mathlib.Core.Path.{◌≡◌, sym, ◌∙◌}
use mathlib.Core.Bool.{true, false}
use mathlib.Core.List.{List, ◌++◌}
use Prim.Native.Nat.{ℕ, suc, ◌≤◌, ◌<◌, min}
use native.Mathlib.Omega.{arith}
use lib.ListN.{length}
use Rattle.std.specs.Prelude.{Option}
use Rattle.laws.proofs.OfTests.{by_test_lem}
use Rattle.units.specs.declared.Quadwords.{Quadwords}
use Rattle.units.specs.Units.{quadwords, slots, high_word}
use Rattle.checks.specs.declared.Place.TheVariants.{Quadword}
use Rattle.checks.specs.Verdict.{Accepted, Refused}
use Rattle.checks.specs.Checks.{of_pair, first_broken, below}
use Rattle.checks.proofs.OfChecks.{hit, miss, first_clean, rest_clean, left_clean, right_clean, below_each}
use Rattle.card.specs.declared.Card.{Card}
use Rattle.section.specs.declared.Clause.{Clause}
use Rattle.section.specs.Rules.{clause_at}
use Rattle.apart.specs.declared.Seen.{Seen}
use Rattle.apart.specs.Apart.{behind, odd_fetch, shared_checks, layout_checks}
use Rattle.apart.specs.Code.{ApartFrom, Fit, quadwords_in, marked_in, names, SeenWith, SeenBefore}
use Rattle.apart.proofs.OfApart.{shared_clean, apart_clean, not_apart_refused, unnamed-apart, named-not-apart}
use Rattle.judge.specs.Judge.{range_checks, inside_checks, pair_checks, first_checks}
use Rattle.judge.specs.Code.{layout_verdict, LayoutTold}
use Rattle.judge.proofs.OfPairs.{range_kept, pair_range, ends_by_quads}

-- ---- the verdict, from what is known with the place's clause

module _ (k : Option Clause) (seen : Seen) (p : Quadwords) where
  odd_verdict : odd_fetch k ≡ true → layout_verdict k seen p ≡ Refused 22 (Quadword p) (slots 0)
  odd_verdict o = rw o

  named_verdict : odd_fetch k ≡ false → names seen p ≡ true → layout_verdict k seen p ≡ Refused 22 (Quadword p) (slots 0)
  named_verdict o n = rw (o, n)

  clean_verdict : odd_fetch k ≡ false → names seen p ≡ false → layout_verdict k seen p ≡ Accepted
  clean_verdict o n = rw (o, n)

module _ (w : List ℕ) (p : ℕ) (seen : Seen) where
  layout_told :
      (names seen (quadwords p) ≡ false → ApartFrom (clause_at w) p) → (names seen (quadwords p) ≡ true → ApartFrom (clause_at w) p → ⊥)
      → layout_verdict (clause_at w p) seen (quadwords p) ≡ first_broken (layout_checks (clause_at w) p)
  unfolding layout_checks
  layout_told unnamed named =
      by_test_lem (odd_fetch (clause_at w p))
      (λ o. odd_verdict (clause_at w p) seen (quadwords p) o ∙ sym (hit (of_pair 22 p (odd_fetch (clause_at w p))) (shared_checks (clause_at w) p) o))
      (λ o.
      by_test_lem (names seen (quadwords p))
      (λ n. named_verdict (clause_at w p) seen (quadwords p) o n ∙ sym (past o ∙ not_apart_refused (clause_at w) p (named n)))
      (λ n. clean_verdict (clause_at w p) seen (quadwords p) o n ∙ sym (past o ∙ apart_clean (clause_at w) p (unnamed n))))
    where
      past : odd_fetch (clause_at w p) ≡ false → first_broken (layout_checks (clause_at w) p) ≡ first_broken (shared_checks (clause_at w) p)
      past o = miss (of_pair 22 p (odd_fetch (clause_at w p))) _ o

-- ---- what an accepted stretch says

pub record LayoutKept (w : List ℕ) (p : ℕ) : Type 0 where
  pub even : odd_fetch (clause_at w p) ≡ false
  pub apart : ApartFrom (clause_at w) p

layout_kept : (w : List ℕ) (p : ℕ) → first_broken (layout_checks (clause_at w) p) ≡ Accepted → LayoutKept w p
unfolding layout_checks
layout_kept w p h = record { even = first_clean _ _ h; apart = shared_clean (clause_at w) p (rest_clean _ _ h) }

pub pair_layout : (card : Card) (w : List ℕ) (e p : ℕ) → first_broken (pair_checks card w e p) ≡ Accepted → LayoutKept w p
unfolding pair_checks
pair_layout card w e p h =
    layout_kept w p
    (left_clean (layout_checks (clause_at w) p) (inside_checks card w p)
    (right_clean (range_checks card w e p) (layout_checks (clause_at w) p ++ inside_checks card w p) h))

-- ---- the first pass

module _ (card : Card) (w : List ℕ) (e p : ℕ) (in_section : p ≤ e) (in_buffer : (high_word (quadwords e)).0 < length w) (quads_marked : card.quads.0 ≤ marked_in w)
    (clean_before : first_broken (below (first_checks card w e) p) ≡ Accepted) where
  -- nothing before breaks 6 or 22
  fit_before : (q : ℕ) → q < p → Fit (marked_in w) (clause_at w) q
  unfolding first_checks
  fit_before q l =
      let clean = left_clean (pair_checks card w e q) _ (below_each (first_checks card w e) p q clean_before l) in
      record {
        inside = omega (arith, ends_by_quads (quadwords e) card.quads (clause_at w q) (pair_range card w e q clean).range, quads_marked);
        apart = (pair_layout card w e q clean).apart;
      }

  -- so what is known with p's clause tells of 22 there
  pub told_at : (seen next : Seen) → SeenBefore w e p seen → SeenWith w e (clause_at w p) seen next → LayoutTold card w e p next
  told_at seen next before with-p clean =
      let near : p < min (suc e) (quadwords_in w) = omega arith in
      let ends = ends_by_quads (quadwords e) card.quads (clause_at w p) (range_kept card w e p clean).range in
      let inside : (behind (clause_at w p)).0 ≤ marked_in w = omega arith in
      layout_told w p next (unnamed-apart w e p seen next before with-p fit_before near inside)
      (named-not-apart w e p seen next before with-p fit_before near inside)
