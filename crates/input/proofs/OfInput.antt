-- The whole input: its length's test by division, and what each branch of the code answers. Assumes nothing.
use mathlib.Core.Path.{◌≡◌, refl, ap, sym, ◌∙◌}
use mathlib.Core.Bool.{Bool, true, false, cond, not}
use mathlib.Core.List.{List, ◌++◌}
use Prim.Native.Nat.{ℕ, suc, ◌*◌, ◌/◌, ◌%◌, ◌≤◌}
use native.Mathlib.Omega.{arith}
use borrow.Author.Tests.{eq-eqb, ne_eqb, eqb-true, eqb-false, not-true, not-false}
use lib.Dec.{eqb}
use lib.ListN.{length, drop}
use lib.Seq.{drop-append_seam}
use Rattle.laws.proofs.OfTests.{same_test}
use Rattle.units.specs.declared.Quadwords.{Quadwords}
use Rattle.std.specs.Prelude.{Err}
use Rattle.checks.specs.Verdict.{Verdict}
use Rattle.card.specs.Card.{CardRead, Whole, BadAt, card_lines, card_of}
use Rattle.card.specs.Made.{CardTest, InRange, test_of}
use Rattle.card.specs.declared.Card.{Card}
use Rattle.card.proofs.OfCard.{whole_length, whole_in_range, whole_all, range_figures}
use Rattle.card.proofs.OfBehind.{card_ahead}
use Rattle.judge.specs.Judge.{judgement}
use Rattle.judge.proofs.OfJudge as of-judge
use Rattle.input.specs.Words.{words_in}
use Rattle.input.specs.Input.{bad_line, bad_length, right_length, by_test, pack_verdict, judged_by, without_card, behind_card, judged_of, beside_card, judged_of_files, AllLines, report_on, report_of, report_of_files}
use Rattle.input.specs.declared.Judged.{Judged}

-- ---- the length

module _ (quads : Quadwords) (bytes : ℕ) where
  pub wrong_length : (bytes ≡ 8 * quads.0 → ⊥) → false ≡ right_length quads bytes
  wrong_length h = sym (ne_eqb bytes (8 * quads.0) h)

  pub by_eighths : bytes % 8 ≡ 0 → eqb (bytes / 8) quads.0 ≡ right_length quads bytes
  by_eighths h =
      same_test (eqb (bytes / 8) quads.0) (right_length quads bytes)
      (λ e. eq-eqb (bytes / 8) quads.0 (omega (arith, eqb-true bytes (8 * quads.0) e)))
      (λ e. ne_eqb (bytes / 8) quads.0 (λ k. eqb-false bytes (8 * quads.0) e (omega arith)))

-- ---- the pack

-- 1: the card's first line out of range
pub bad_card : (card : Card) (pack : List ℕ) {known : CardTest} {n : ℕ} {verdict : Verdict} → known ≡ test_of card
    → known ≡ BadAt n → verdict ≡ bad_line n → verdict ≡ pack_verdict card pack
unfolding pack_verdict
bad_card card pack told h v = v ∙ ap (by_test card pack) (sym h ∙ told)

module _ (card : Card) (pack : List ℕ) (in_range : test_of card ≡ InRange) where
  -- 2 and the judge's numbers, by the length
  pub by_length : pack_verdict card pack ≡ cond (right_length card.quads (length pack)) (judgement card (words_in pack)) bad_length
  unfolding pack_verdict
  by_length = ap (by_test card pack) in_range

  module _ {right : Bool} (e : right ≡ right_length card.quads (length pack)) where
    as-right : (t : Bool) → right ≡ t → cond t (judgement card (words_in pack)) bad_length ≡ pack_verdict card pack
    as-right t h = ap (λ (x : Bool). cond x (judgement card (words_in pack)) bad_length) (sym h ∙ e) ∙ sym by_length

    pub bad-length : {verdict : Verdict} → not right ≡ true → verdict ≡ bad_length → verdict ≡ pack_verdict card pack
    bad-length h v = v ∙ as-right false (not-true right h)

    module _ (h : not right ≡ false) where
      -- no card in range allows more than 16,384 words
      pub few_words : length pack / 4 ≤ 16384
      few_words =
          let r = range_figures card in_range in
          let l = eqb-true (length pack) (8 * card.quads.0) (sym e ∙ not-false right h) in
          omega (arith, r.quads_most)

      pub judged-verdict : {verdict : Verdict} → verdict ≡ judgement card (words_in pack) → verdict ≡ pack_verdict card pack
      judged-verdict v = v ∙ as-right true (not-false right h)

-- every answer but 2 is the judge's own to the same card and the pack's words: 1 stands in the judge's order
pub as_judged : (card : Card) (pack : List ℕ) → (pack_verdict card pack ≡ bad_length → ⊥) → pack_verdict card pack ≡ judgement card (words_in pack)
unfolding pack_verdict
as_judged card pack h = by_test_lem (test_of card) refl h
  where
    by_right : (t : Bool) → (cond t (judgement card (words_in pack)) bad_length ≡ bad_length → ⊥)
        → cond t (judgement card (words_in pack)) bad_length ≡ judgement card (words_in pack)
    by_right true h = refl
    by_right false h = absurd (h refl)

    by_test_lem : (known : CardTest) → test_of card ≡ known → (by_test card pack known ≡ bad_length → ⊥)
        → by_test card pack known ≡ judgement card (words_in pack)
    by_test_lem (Err bad) e h = sym (of-judge.line_refused card (words_in pack) bad e)
    by_test_lem InRange e h = by_right (right_length card.quads (length pack)) h

-- ---- the card and the pack

-- what was read of a card's bytes, as the code knows it
module _ (text : List ℕ) {known : CardRead} (told : known ≡ card_of text) where
  -- a line is at fault
  module _ {n : ℕ} {judged : Judged} (h : known ≡ BadAt n) (v : judged ≡ without_card n) where
    pub bad-line-answer : judged ≡ judged_of text
    unfolding judged_of
    bad-line-answer = v ∙ ap (behind_card text) (sym h ∙ told)

    pub bad-line-beside : (pack : List ℕ) → judged ≡ judged_of_files text pack
    unfolding judged_of_files
    bad-line-beside pack = v ∙ ap (beside_card text pack) (sym h ∙ told)

  -- the card is whole
  module _ {card : Card} {taken : ℕ} (h : known ≡ Whole card taken) where
    pub taken-within : taken ≤ length text
    taken-within = whole_length text card taken (sym told ∙ h)

    pub read-in-range : test_of card ≡ InRange
    read-in-range = whole_in_range text card taken (sym told ∙ h)

    pub whole-answer : {pack : List ℕ} {judged : Judged} → pack ≡ drop taken text → judged ≡ judged_by card pack → judged ≡ judged_of text
    unfolding judged_of
    whole-answer p v = v ∙ ap (judged_by card) p ∙ ap (behind_card text) (sym h ∙ told)

    module _ (pack : List ℕ) where
      -- by whether it is all of its file
      beside-by : (x : Bool) → eqb taken (length text) ≡ x → cond x (judged_by card pack) (without_card (suc card_lines)) ≡ judged_of_files text pack
      unfolding judged_of_files
      beside-by x e = ap (λ (t : Bool). cond t (judged_by card pack) (without_card (suc card_lines))) (sym e) ∙ ap (beside_card text pack) (sym h ∙ told)

      pub beside-answer : {judged : Judged} → taken ≡ length text → judged ≡ judged_by card pack → judged ≡ judged_of_files text pack
      beside-answer e v = v ∙ beside-by true (eq-eqb taken (length text) e)

      pub more-behind : {judged : Judged} → (taken ≡ length text → ⊥) → judged ≡ without_card (suc card_lines) → judged ≡ judged_of_files text pack
      more-behind e v = v ∙ beside-by false (ne_eqb taken (length text) e)

-- ---- a file of all its lines and nothing else: the answer is that to the two files one behind the other
pub all_lines : (text pack : List ℕ) → AllLines text → judged_of_files text pack ≡ judged_of (text ++ pack)
unfolding judged_of_files judged_of
all_lines text pack s =
    by (card_of text) refl ∙ sym (ap (behind_card (text ++ pack)) (card_ahead text pack s.last s.is_there))
  where
    by : (known : CardRead) → card_of text ≡ known → beside_card text pack known ≡ behind_card (text ++ pack) known
    by (Whole card n) e =
        let l : n ≡ length text = whole_all text card n e s.none_behind in
        rw (eq-eqb n (length text) l)
        (ap (judged_by card) (sym (drop-append_seam text pack) ∙ ap (λ (k : ℕ). drop k (text ++ pack)) (sym l)))
    by (Err bad) e = refl

-- ---- the report

pub report_on_lem : (input : List ℕ) (judged : Judged) → judged ≡ judged_of input → report_on judged ≡ report_of input
unfolding report_of
report_on_lem input judged e = ap report_on e

pub report_on_files : (text pack : List ℕ) (judged : Judged) → judged ≡ judged_of_files text pack → report_on judged ≡ report_of_files text pack
unfolding report_of_files
report_on_files text pack judged e = ap report_on e

pub all_lines_report : (text pack : List ℕ) → AllLines text → report_of_files text pack ≡ report_of (text ++ pack)
all_lines_report text pack s =
    sym (report_on_files text pack (judged_of_files text pack) refl)
    ∙ report_on_lem (text ++ pack) (judged_of_files text pack) (all_lines text pack s)
