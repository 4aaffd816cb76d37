-- How much of an input, and of files, has to be read for an explanation: as much as for a report. Assumes nothing.
use mathlib.Core.Path.{◌≡◌, refl, ap, sym, ◌∙◌}
use mathlib.Core.Bool.{Bool, true, false, cond}
use mathlib.Core.List.{List}
use Prim.Native.Nat.{ℕ, suc, ◌-◌, ◌≤◌}
use Rattle.std.specs.Prelude.{Err}
use native.Mathlib.Omega.{arith}
use borrow.Author.Tests.{ltb-true, ltb-false}
use lib.Dec.{eqb, ltb}
use lib.ListN.{length, take, drop}
use lib.Seq.{take_all}
use Rattle.card.specs.Card.{CardRead, Whole, card_lines, card_of}
use Rattle.card.specs.Made.{InRange, test_of}
use Rattle.card.specs.declared.Card.{Card}
use Rattle.card.proofs.OfCard.{whole_in_range}
use Rattle.card.proofs.OfCut.{drop_take, card_cut, whole_short}
use Rattle.report.specs.Explanation.{explanation_bytes}
use Rattle.input.specs.declared.Judged.{Judged}
use Rattle.input.specs.Words.{words_in}
use Rattle.input.specs.Input.{bad_length, pack_verdict, judged_by, without_card, behind_card, judged_of, beside_card, judged_of_files}
use Rattle.input.proofs.OfReading.{too_long, enough_read, enough_of_card, enough_of_pack}
use Rattle.explain.specs.Explain.{explained, by_read, pack_behind, explanation_of, explanation_of_files}
use Rattle.explain.specs.Lines.{lines_of_input, lines_of_files}

-- a pack that is cut behind 65,537 bytes is explained the same: where something is cut off, it is too long
pack_cut :
    (card : Card) → test_of card ≡ InRange → (pack : List ℕ) (all : ℕ) → 65537 ≤ all
    → explained card (words_in (take all pack)) (pack_verdict card pack) ≡ explained card (words_in pack) (pack_verdict card pack)
pack_cut card ranged pack all h = by (ltb all (length pack)) refl
  where
    by : (x : Bool) → ltb all (length pack) ≡ x
        → explained card (words_in (take all pack)) (pack_verdict card pack) ≡ explained card (words_in pack) (pack_verdict card pack)
    by true l =
        let w = ltb-true all (length pack) l in
        let long : bad_length ≡ pack_verdict card pack = too_long card ranged pack (omega (arith, w, h)) in
        ap (explained card (words_in (take all pack))) (sym long) ∙ ap (explained card (words_in pack)) long
    by false l = ap (λ (p : List ℕ). explained card (words_in p) (pack_verdict card pack)) (take_all all pack (ltb-false all (length pack) l))

-- ---- one behind the other

enough_explained : (input : List ℕ) (all : ℕ) → 65610 ≤ all → explanation_of (take all input) ≡ explanation_of input
unfolding explanation_of judged_of
enough_explained input all h =
    (λ i.
    by_read (card_cut input all (omega arith) i) (words_in (pack_behind (take all input) (card_cut input all (omega arith) i)))
    (enough_read input all h i).verdict)
    ∙ by (card_of input) refl
  where
    by : (known : CardRead) → card_of input ≡ known
        → by_read known (words_in (pack_behind (take all input) known)) (behind_card input known).verdict
        ≡ by_read known (words_in (pack_behind input known)) (behind_card input known).verdict
    by (Whole card n) e =
        let short = whole_short input card n e in
        ap (λ (p : List ℕ). explained card (words_in p) (pack_verdict card (drop n input))) (drop_take n all input)
        ∙ pack_cut card (whole_in_range input card n e) (drop n input) (all - n) (omega arith)
    by (Err bad) e = refl

pub enough : (input : List ℕ) (all : ℕ) → 65610 ≤ all → lines_of_input (take all input) ≡ lines_of_input input
unfolding lines_of_input
enough input all h = ap explanation_bytes (enough_explained input all h)

-- ---- each in a file

module _ (text pack : List ℕ) where
  pub card_enough : (all : ℕ) → 74 ≤ all → lines_of_files (take all text) pack ≡ lines_of_files text pack
  unfolding lines_of_files explanation_of_files
  card_enough all h =
      λ i. explanation_bytes (by_read (card_cut text all (omega arith) i) (words_in pack) (enough_of_card text pack all h i).verdict)

  pack_explained : (all : ℕ) → 65537 ≤ all → explanation_of_files text (take all pack) ≡ explanation_of_files text pack
  unfolding explanation_of_files judged_of_files
  pack_explained all h =
      ap (λ (j : Judged). by_read (card_of text) (words_in (take all pack)) j.verdict) (enough_of_pack text pack all h) ∙ by (card_of text) refl
    where
      by_end :
          (card : Card) → test_of card ≡ InRange → (t : Bool)
          → explained card (words_in (take all pack)) (cond t (judged_by card pack) (without_card (suc card_lines))).verdict
          ≡ explained card (words_in pack) (cond t (judged_by card pack) (without_card (suc card_lines))).verdict
      by_end card ranged true = pack_cut card ranged pack all h
      by_end card ranged false = refl

      by : (known : CardRead) → card_of text ≡ known
          → by_read known (words_in (take all pack)) (beside_card text pack known).verdict ≡ by_read known (words_in pack) (beside_card text pack known).verdict
      by (Whole card n) e = by_end card (whole_in_range text card n e) (eqb n (length text))
      by (Err bad) e = refl

  pub pack_enough : (all : ℕ) → 65537 ≤ all → lines_of_files text (take all pack) ≡ lines_of_files text pack
  unfolding lines_of_files
  pack_enough all h = ap explanation_bytes (pack_explained all h)
