-- How much of an input, and of files, has to be read: a card is read the same from the first 73 bytes, and with a byte more than the
-- longest pack behind them, or in its own file, the answer is that to the whole. Assumes nothing.
use mathlib.Core.Path.{◌≡◌, refl, ap, sym, ◌∙◌}
use mathlib.Core.Bool.{Bool, true, false, cond}
use mathlib.Core.List.{List}
use Prim.Native.Nat.{ℕ, suc, ◌-◌, ◌≤◌}
use native.Mathlib.Omega.{arith}
use borrow.Author.Tests.{eq-eqb, ne_eqb, eqb-true, eqb-false, ltb-true, ltb-false}
use lib.Dec.{eqb, ltb}
use lib.ListN.{length, take, drop, length-take}
use lib.Seq.{take_all}
use Rattle.laws.proofs.OfTests.{same_test}
use Rattle.std.specs.Prelude.{Some, Err}
use Rattle.checks.specs.Verdict.{Verdict}
use Rattle.card.specs.Card.{CardRead, Whole, card_lines, card_of}
use Rattle.card.specs.Made.{InRange, test_of}
use Rattle.card.specs.declared.Card.{Card}
use Rattle.card.proofs.OfCard.{whole_in_range, range_figures}
use Rattle.card.proofs.OfCut.{drop_take, card_cut, whole_short}
use Rattle.input.specs.Input.{answer, bad_length, pack_verdict, judged_by, without_card, behind_card, judged_of, beside_card, judged_of_files, report_of, report_of_files}
use Rattle.input.proofs.OfInput.{wrong_length, bad-length, report_on_lem, report_on_files}

-- ---- the pack

-- no card allows a pack of 65,537 bytes
pub too_long : (card : Card) → test_of card ≡ InRange → (pack : List ℕ) → 65537 ≤ length pack → bad_length ≡ pack_verdict card pack
too_long card in_range pack l =
    let r = range_figures card in_range in
    bad-length card pack in_range (wrong_length card.quads (length pack) (λ k. omega (arith, r.quads_most))) refl refl

-- a pack that is cut behind so many is judged the same
pack_cut : (card : Card) → test_of card ≡ InRange → (pack : List ℕ) (all : ℕ) → 65537 ≤ all → pack_verdict card (take all pack) ≡ pack_verdict card pack
pack_cut card in_range pack all h = by (ltb all (length pack)) refl
  where
    by : (x : Bool) → ltb all (length pack) ≡ x → pack_verdict card (take all pack) ≡ pack_verdict card pack
    by true l =
        let w = ltb-true all (length pack) l in
        sym (too_long card in_range (take all pack) (omega (arith, length-take all pack))) ∙ too_long card in_range pack (omega arith)
    by false l = ap (pack_verdict card) (take_all all pack (ltb-false all (length pack) l))

-- ---- one behind the other

-- 65,610 bytes are enough to read: one more than the longest card and the longest pack have
pub enough_read : (input : List ℕ) (all : ℕ) → 65610 ≤ all → judged_of (take all input) ≡ judged_of input
unfolding judged_of
enough_read input all h = ap (behind_card (take all input)) (card_cut input all (omega arith)) ∙ by (card_of input) refl
  where
    by : (known : CardRead) → card_of input ≡ known → behind_card (take all input) known ≡ behind_card input known
    by (Whole card n) e =
        let short = whole_short input card n e in
        ap (answer (Some card.build))
        (ap (pack_verdict card) (drop_take n all input) ∙ pack_cut card (whole_in_range input card n e) (drop n input) (all - n) (omega arith))
    by (Err bad) e = refl

-- so a program that reads so many bytes writes the report on its whole input
pub enough : (input : List ℕ) (all : ℕ) → 65610 ≤ all → report_of (take all input) ≡ report_of input
enough input all h = sym (report_on_lem (take all input) (judged_of input) (sym (enough_read input all h))) ∙ report_on_lem input (judged_of input) refl

-- ---- each in a file

module _ (text pack : List ℕ) where
  -- 74 bytes of the card's file are enough, one more than the longest card has
  pub enough_of_card : (all : ℕ) → 74 ≤ all → judged_of_files (take all text) pack ≡ judged_of_files text pack
  unfolding judged_of_files
  enough_of_card all h = ap (beside_card (take all text) pack) (card_cut text all (omega arith)) ∙ by (card_of text) refl
    where
      by : (known : CardRead) → card_of text ≡ known → beside_card (take all text) pack known ≡ beside_card text pack known
      by (Whole card n) e =
          let short = whole_short text card n e in
          let same : eqb n (length (take all text)) ≡ eqb n (length text) =
          same_test (eqb n (length (take all text))) (eqb n (length text))
          (λ t. eq-eqb n (length (take all text)) (omega (arith, eqb-true n (length text) t, length-take all text)))
          (λ t. ne_eqb n (length (take all text)) (λ q. eqb-false n (length text) t (omega (arith, length-take all text)))) in
          ap (λ (t : Bool). cond t (judged_by card pack) (without_card (suc card_lines))) same
      by (Err bad) e = refl

  -- and 65,537 of the pack's, one more than the longest pack has
  pub enough_of_pack : (all : ℕ) → 65537 ≤ all → judged_of_files text (take all pack) ≡ judged_of_files text pack
  unfolding judged_of_files
  enough_of_pack all h = by (card_of text) refl
    where
      by : (known : CardRead) → card_of text ≡ known → beside_card text (take all pack) known ≡ beside_card text pack known
      by (Whole card n) e =
          ap (λ (v : Verdict). cond (eqb n (length text)) (answer (Some card.build) v) (without_card (suc card_lines)))
          (pack_cut card (whole_in_range text card n e) pack all h)
      by (Err bad) e = refl

  -- so a program that reads so many bytes writes the report on the whole files
  pub card_enough : (all : ℕ) → 74 ≤ all → report_of_files (take all text) pack ≡ report_of_files text pack
  card_enough all h =
      sym (report_on_files (take all text) pack (judged_of_files text pack) (sym (enough_of_card all h)))
      ∙ report_on_files text pack (judged_of_files text pack) refl

  pub pack_enough : (all : ℕ) → 65537 ≤ all → report_of_files text (take all pack) ≡ report_of_files text pack
  pack_enough all h =
      sym (report_on_files text (take all pack) (judged_of_files text pack) (sym (enough_of_pack all h)))
      ∙ report_on_files text pack (judged_of_files text pack) refl
