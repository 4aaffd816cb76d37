-- A report says release=yes exactly if it is on a production card's text and an accepted pack, in files or one behind the other; and then
-- every walk of the pack is safe. By the card's law on texts and the report's law on lines; then of the bytes that a lent buffer holds. Assumes
-- nothing.
use mathlib.Core.Path.{◌≡◌, refl, ap, sym, ◌∙◌}
use mathlib.Core.Bool.{Bool, true, false, cond}
use mathlib.Core.List.{List, [], ◌++◌, append-nil}
use mathlib.Core.Logic.{◌↔◌}
use Prim.Native.Nat.{ℕ, suc, ◌*◌}
use native.Mathlib.Omega.{arith}
use borrow.Author.Tests.{eq-eqb, eqb-true}
use lib.Dec.{eqb}
use lib.ListN.{length, take, drop, drop_of_length-le}
use lib.Seq.{take_at, drop-append_seam}
use Rattle.laws.proofs.OfCases.{impossible}
use Rattle.std.specs.Prelude.{Option, Some, Err}
use Rattle.checks.specs.Verdict.{Accepted}
use Rattle.checks.proofs.OfChecks.{never_accepted}
use Rattle.card.specs.Card.{CardRead, Whole, card_lines, card_of}
use Rattle.card.specs.Made.{InRange, test_of}
use Rattle.card.specs.Written.{written}
use Rattle.card.specs.declared.Build.{Build}
use Rattle.card.specs.declared.Build.TheVariants.{Production}
use Rattle.card.specs.declared.Card.{Card}
use Rattle.card.proofs.OfCard.{whole_in_range, range_figures, figures_range}
use Rattle.card.proofs.OfWritten.{read_written, written_read}
use Rattle.report.specs.Buffer.{Length, NoRoom, room, written_of, buffer_after}
use Rattle.report.proofs.OfReport.{release_yes}
use Rattle.judge.specs.Judge.{judgement}
use Rattle.judge.specs.Safe.{Safely}
use Rattle.judge.proofs.OfSafe.{accepted_safely}
use Rattle.input.specs.Words.{words_in}
use Rattle.input.specs.Input.{answer, bad_length, right_length, pack_verdict, judged_by, without_card, behind_card, judged_of, beside_card, judged_of_files, report_of, report_of_files}
use Rattle.input.specs.Released.{Released, ReleasedInput, SaysYes, FilesTold, ReleaseTold}
use Rattle.input.specs.declared.Judged.{Judged}
use Rattle.input.proofs.OfInput.{by_length, judged-verdict}

-- a pack that is accepted has the right length, and its words are accepted
accepted_pack : (card : Card) (pack : List ℕ) → test_of card ≡ InRange → pack_verdict card pack ≡ Accepted
    → (length pack ≡ 8 * card.quads.0) × (judgement card (words_in pack) ≡ Accepted)
accepted_pack card pack r h = by (right_length card.quads (length pack)) refl (sym (by_length card pack r) ∙ h)
  where
    by : (x : Bool) → right_length card.quads (length pack) ≡ x → cond x (judgement card (words_in pack)) bad_length ≡ Accepted
        → (length pack ≡ 8 * card.quads.0) × (judgement card (words_in pack) ≡ Accepted)
    by true e h = (eqb-true (length pack) (8 * card.quads.0) e, h)
    by false e h = absurd (never_accepted h)

-- a card and a pack that are answered so are released
by_card : (card : Card) (pack : List ℕ) → test_of card ≡ InRange → pack_verdict card pack ≡ Accepted → ◌≡◌ {A = Option Build} (Some card.build) (Some Production)
    → (text : List ℕ) → text ≡ written card → Released text pack
by_card card pack r v b text e =
    let w = accepted_pack card pack r v in
    record {
      card = card;
      is_card = e;
      in_range = range_figures card r;
      production = cc;
      length_is_right = w.0;
      accepted = w.1;
    }

-- and the other way round
released_by : (text pack : List ℕ) (r : Released text pack) → judged_by r.card pack ≡ answer (Some Production) Accepted
released_by text pack r =
    let test = figures_range r.card r.in_range in
    let l = eq-eqb (length pack) (8 * r.card.quads.0) r.length_is_right in
    (λ i. answer (Some (r.production i)) (pack_verdict r.card pack))
    ∙ ap (answer (Some Production)) (sym (judged-verdict r.card pack test (sym l) refl (sym r.accepted)))

-- ---- each in a file

files_released : (text pack : List ℕ) (known : CardRead) → card_of text ≡ known → (beside_card text pack known).verdict ≡ Accepted
    → (beside_card text pack known).build ≡ Some Production → Released text pack
files_released text pack (Whole card n) e v b = by (eqb n (length text)) refl v b
  where
    by : (x : Bool) → eqb n (length text) ≡ x → (cond x (judged_by card pack) (without_card (suc card_lines))).verdict ≡ Accepted
        → (cond x (judged_by card pack) (without_card (suc card_lines))).build ≡ Some Production → Released text pack
    by true l v b =
        let l = eqb-true n (length text) l in
        let nothing : drop n text ≡ [] = drop_of_length-le text {i = n} (omega arith) in
        by_card card pack (whole_in_range text card n e) v b text
        (read_written text card n e ∙ ap (λ (behind : List ℕ). written card ++ behind) nothing ∙ append-nil (written card))
    by false l v b = absurd (never_accepted v)
files_released text pack (Err bad) e v b = absurd (never_accepted v)

released_files : (text pack : List ℕ) (r : Released text pack) → judged_of_files text pack ≡ answer (Some Production) Accepted
unfolding judged_of_files
released_files text pack r =
    let test = figures_range r.card r.in_range in
    let whole : text ≡ written r.card ++ [] = r.is_card ∙ sym (append-nil (written r.card)) in
    let e : card_of text ≡ Whole r.card (length (written r.card)) = ap card_of whole ∙ written_read r.card [] test in
    let l = eq-eqb (length (written r.card)) (length text) (sym (ap length r.is_card)) in
    ap (beside_card text pack) e
    ∙ ap (λ (t : Bool). cond t (judged_by r.card pack) (without_card (suc card_lines))) l
    ∙ released_by text pack r

-- the build is production and the verdict 0 exactly if the files are released
pub files_answered : (text pack : List ℕ)
    → (((judged_of_files text pack).verdict ≡ Accepted) × ((judged_of_files text pack).build ≡ Some Production)) ↔ Released text pack
unfolding judged_of_files
files_answered text pack = (
  λ w. files_released text pack (card_of text) refl w.0 w.1,
  λ r.
      let e = released_files text pack r in
      (ap (λ (j : Judged). j.verdict) e, ap (λ (j : Judged). j.build) e),
)

-- release=yes stands in the report exactly if the files are a production card and an accepted pack
pub files_exactly_if : (text pack : List ℕ) → SaysYes (report_of_files text pack) ↔ Released text pack
unfolding report_of_files
files_exactly_if text pack =
    let yes = release_yes (judged_of_files text pack).build (judged_of_files text pack).verdict in
    let released = files_answered text pack in
    (λ m. released.0 (yes.0 m), λ r. yes.1 (released.1 r))

-- and then, whatever the answers, the walk is safe (demand 3)
pub released_safely : (text pack : List ℕ) (r : Released text pack) → Safely r.card (words_in pack)
released_safely text pack r = accepted_safely r.card (words_in pack) r.accepted

-- ---- one behind the other

judged_released : (input : List ℕ) (known : CardRead) → card_of input ≡ known → (behind_card input known).verdict ≡ Accepted
    → (behind_card input known).build ≡ Some Production → ReleasedInput input
judged_released input (Whole card n) e v b =
    record {
      text = written card;
      pack = drop n input;
      is_both = read_written input card n e;
      released = by_card card (drop n input) (whole_in_range input card n e) v b (written card) refl;
    }
judged_released input (Err bad) e v b = absurd (never_accepted v)

released_judged : (input : List ℕ) → ReleasedInput input → judged_of input ≡ answer (Some Production) Accepted
unfolding judged_of
released_judged input r =
    let card = r.released.card in
    let both : input ≡ written card ++ r.pack = r.is_both ∙ ap (λ (text : List ℕ). text ++ r.pack) r.released.is_card in
    let e : card_of input ≡ Whole card (length (written card)) =
    ap card_of both ∙ written_read card r.pack (figures_range card r.released.in_range) in
    let p : drop (length (written card)) input ≡ r.pack =
    ap (drop (length (written card))) both ∙ drop-append_seam (written card) r.pack in
    ap (behind_card input) e ∙ ap (judged_by card) p ∙ released_by r.text r.pack r.released

of_answer : (input : List ℕ) → ((judged_of input).verdict ≡ Accepted) × ((judged_of input).build ≡ Some Production) → ReleasedInput input
unfolding judged_of
of_answer input w = judged_released input (card_of input) refl w.0 w.1

pub released_exactly_if : (input : List ℕ) → SaysYes (report_of input) ↔ ReleasedInput input
unfolding report_of
released_exactly_if input =
    let yes = release_yes (judged_of input).build (judged_of input).verdict in (
      λ m. of_answer input (yes.0 m),
      λ r.
          let e = released_judged input r in
          yes.1 (ap (λ (j : Judged). j.verdict) e, ap (λ (j : Judged). j.build) e),
    )

-- ---- the bytes of a lent buffer that are the report

written_bytes : (report buffer : List ℕ) (n : ℕ) → Length n ≡ written_of report buffer → take n (buffer_after report buffer) ≡ report
unfolding written_of buffer_after
written_bytes report buffer n e = by (room report buffer) e
  where
    by : (x : Bool) → Length n ≡ cond x (Length (length report)) NoRoom
        → take n (cond x (report ++ drop (length report) buffer) buffer) ≡ report
    by true e =
        let k : length report ≡ n = cc in
        take_at report (drop (length report) buffer) n k
    by false e = impossible cc

module _ (before after : List ℕ) (n : ℕ) where
  -- what a buffer holds afterwards is the report
  lent : (report : List ℕ) → Length n ≡ written_of report before → after ≡ buffer_after report before → take n after ≡ report
  lent report e f = ap (take n) f ∙ written_bytes report before n e

  pub release_told : (input : List ℕ) → Length n ≡ written_of (report_of input) before → after ≡ buffer_after (report_of input) before
      → ReleaseTold input (take n after)
  release_told input e f =
      rw (lent (report_of input) e f)
      (record { yes_exactly_if = released_exactly_if input; then_safe = λ r. released_safely r.text r.pack r.released })

  pub files_told : (text pack : List ℕ) → Length n ≡ written_of (report_of_files text pack) before
      → after ≡ buffer_after (report_of_files text pack) before → FilesTold text pack (take n after)
  files_told text pack e f =
      rw (lent (report_of_files text pack) e f)
      (record { yes_exactly_if = files_exactly_if text pack; then_safe = released_safely text pack })
