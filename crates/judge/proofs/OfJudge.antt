-- The judgement, from what the judge's parts answer. Assumes nothing.
use mathlib.Core.Path.{◌≡◌, refl, sym, ap, ◌∙◌}
use mathlib.Core.Bool.{Bool, true, false, cond, not}
use mathlib.Core.List.{List, [], ◌∷◌}
use Prim.Native.Nat.{ℕ, ◌≤◌, ◌<◌}
use lib.Dec.{leb}
use lib.ListN.{length}
use Rattle.std.specs.Prelude.{Ok, Err}
use native.Mathlib.Omega.{arith}
use Rattle.units.specs.declared.Quadwords.{Quadwords}
use Rattle.units.specs.declared.Slots.{Slots}
use Rattle.units.specs.Units.{quadwords, slots, high_word}
use Rattle.checks.specs.declared.Place.{Place}
use Rattle.checks.specs.declared.Place.TheVariants.{Whole, Line}
use Rattle.checks.specs.Verdict.{Verdict, Accepted, Refused}
use Rattle.checks.specs.Checks.{check, first_broken}
use Rattle.checks.specs.Laws.{Unbroken, BrokenFirst}
use Rattle.checks.proofs.OfChecks.{hit, miss, joined_clean, joined_refused, accepted_exactly_if, refused_exactly_if}
use mathlib.Core.Logic.{◌↔◌}
use Rattle.card.specs.declared.Card.{Card}
use Rattle.card.specs.declared.BadLine.{BadLine}
use Rattle.card.specs.Card.{BadAt, figure_tests}
use Rattle.card.specs.Made.{CardTest, InRange, first_not, test_of}
use Rattle.card.proofs.OfCard.{range_figures}
use Rattle.section.specs.Control.{searched, end_of}
use Rattle.section.specs.Rules.{bad_length, no_end}
use Rattle.section.proofs.OfEnd.{ends_at}
use Rattle.section.proofs.OfRules.{length_right}
use Rattle.apart.specs.Code.{marked_in}
use Rattle.judge.specs.Judge.{line_checks, passes, checks, judgement}

-- ---- demand 2, as laws about the judgement

-- accepted exactly if no rule is broken
pub judged_accepted : (card : Card) (w : List ℕ) → judgement card w ≡ Accepted ↔ Unbroken (checks card w)
unfolding judgement
judged_accepted card w = accepted_exactly_if (checks card w)

-- a refusal is the first broken check of the list
pub judged_refused :
    (card : Card) (w : List ℕ) (r : ℕ) (p : Place) (s : Slots)
    → judgement card w ≡ Refused r p s ↔ BrokenFirst (checks card w) r p s
unfolding judgement
judged_refused card w r p s = refused_exactly_if (checks card w) r p s

-- ---- the card's lines

abbrev line_verdict : CardTest → Verdict
line_verdict (Ok t) = Accepted
line_verdict (Err line) = Refused 1 (Line line.0) (slots 0)

by_lines : (ts : List (ℕ × Bool)) → first_broken (line_checks ts) ≡ line_verdict (first_not ts)
unfolding first_broken line_checks
by_lines [] = refl
by_lines (t ∷ ts) = by t.1 (by_lines ts)
  where
    by : (b : Bool) → first_broken (line_checks ts) ≡ line_verdict (first_not ts)
        → cond (not b) (Refused 1 (Line t.0) (slots 0)) (first_broken (line_checks ts)) ≡ line_verdict (cond b (first_not ts) (BadAt t.0))
    by true h = h
    by false h = refl

lines_are : (card : Card) → first_broken (line_checks (figure_tests card)) ≡ line_verdict (test_of card)
unfolding test_of
lines_are card = by_lines (figure_tests card)

-- ---- the judgement, rule by rule up to the end of the section

-- an end that was looked for
pub no_end_is : (w : List ℕ) {s z : Quadwords} {b : Bool} → s ≡ quadwords (searched w) → z ≡ quadwords (end_of w) → b ≡ leb s.0 z.0 → no_end w ≡ b
unfolding no_end
no_end_is w p q h = (λ i. leb (sym p i).0 (sym q i).0) ∙ sym h

-- a section that ends at e lies in the words and is no longer than sections can be, and quads are no more than rule 22 has marks for
pub record InWords (card : Card) (w : List ℕ) (e : ℕ) : Type 0 where
  pub in_buffer : (high_word (quadwords e)).0 < length w
  pub among_512 : e < 512
  pub quads_marked : card.quads.0 ≤ marked_in w

module _ (card : Card) (w : List ℕ) where
  pub line_refused : (line : BadLine) → test_of card ≡ Err line → judgement card w ≡ Refused 1 (Line line.0) (slots 0)
  unfolding judgement checks
  line_refused line h = joined_refused (line_checks (figure_tests card)) _ (lines_are card ∙ ap line_verdict h)

  module _ (h : test_of card ≡ InRange) where
    behind-card :
        judgement card w ≡ first_broken
        (check 2 Whole (slots 0) (bad_length w card.quads) ∷ check 3 Whole (slots 0) (no_end w) ∷ passes card w (end_of w))
    unfolding judgement checks
    behind-card = joined_clean (line_checks (figure_tests card)) _ (lines_are card ∙ ap line_verdict h)

    pub length-refused : bad_length w card.quads ≡ true → judgement card w ≡ Refused 2 Whole (slots 0)
    length-refused k = behind-card ∙ hit (check 2 Whole (slots 0) (bad_length w card.quads)) _ k

    module _ (k : bad_length w card.quads ≡ false) where
      past-length : judgement card w ≡ first_broken (check 3 Whole (slots 0) (no_end w) ∷ passes card w (end_of w))
      past-length = behind-card ∙ miss (check 2 Whole (slots 0) (bad_length w card.quads)) _ k

      pub end-refused : no_end w ≡ true → judgement card w ≡ Refused 3 Whole (slots 0)
      end-refused x = past-length ∙ hit (check 3 Whole (slots 0) (no_end w)) _ x

      module _ (x : no_end w ≡ false) where
        pub by-passes : judgement card w ≡ first_broken (passes card w (end_of w))
        by-passes = past-length ∙ miss (check 3 Whole (slots 0) (no_end w)) _ x

        pub in_words : InWords card w (end_of w)
        in_words =
            let y = ends_at w x in
            record {
              in_buffer = y.in_buffer;
              among_512 = y.among_512;
              quads_marked = omega (arith, length_right w card.quads k, (range_figures card h).quads_most);
            }
