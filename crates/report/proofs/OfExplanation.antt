-- The rules' words all differ; an explanation's bytes are its lines, and at most 156 of them. Assumes nothing.
use mathlib.Core.Path.{◌≡◌, refl, sym, ap, subst, ◌∙◌}
use mathlib.Core.Bool.{Bool, true, not, ◌&&◌, true≢false}
use mathlib.Core.List.{List, [], ◌∷◌, ◌++◌}
use Prim.Native.Nat.{ℕ, suc, ◌+◌, ◌*◌, ◌^◌, ◌≤◌, ◌<◌}
use Prim.Native.String.{String}
use native.Mathlib.Omega.{arith}
use borrow.Author.Tests.{eq-eqb, eqb-true, not-true}
use lib.Dec.{eqb}
use lib.ListN.{length, length-append}
use Rattle.laws.proofs.OfTests.{both, by_test_lem}
use Rattle.ascii.specs.Ascii.{ascii}
use Rattle.ascii.specs.Decimal.{decimal}
use Rattle.ascii.specs.Code.{feedless}
use Rattle.ascii.proofs.OfFeeds.{feedless_decimal}
use Rattle.std.specs.Prelude.{Option, Some, None, Err}
use Rattle.checks.specs.declared.NotGranted.{NotGranted}
use Rattle.checks.specs.declared.Refusal.{Refusal}
use Rattle.checks.specs.declared.Explanation.{Explanation}
use Rattle.checks.specs.Verdict.{Verdict, Accepted, line_or_quadword, verdict_number, verdict_place, verdict_slot}
use Rattle.report.specs.Report.{line, joined, pieces_of, lines_of}
use Rattle.report.specs.Explanation.{rule_words, word_in, rule_word, found_text, limit_text, lines_for, explanation_lines, explanation_bytes}
use Rattle.report.proofs.OfReport.{line_first, number_line_length}
use Rattle.report.proofs.OfRules.{rule_line, rule_line_length, feedless_word}

-- ---- the words

-- bytes as one number, so that one test of numbers tells two texts apart
abbrev coded : List ℕ → ℕ
coded [] = 0
coded (b ∷ bs) = suc b + 256 * coded bs

abbrev same : String → String → Bool
same x y = eqb (coded (ascii x)) (coded (ascii y))

-- a word is none of these, nor unknown
abbrev none_of : List (ℕ × String) → String → Bool
none_of [] x = not (same x "unknown")
none_of (w ∷ ws) x = not (same x w.1) && none_of ws x

abbrev all_different : List (ℕ × String) → Bool
all_different [] = true
all_different (w ∷ ws) = none_of ws w.1 && all_different ws

-- no two of the words are the same, and none is unknown
pub words_differ : all_different rule_words ≡ true
words_differ = refl

not_same : (x y : String) → not (same x y) ≡ true → x ≡ y → ⊥
not_same x y e q =
    true≢false (sym (eq-eqb (coded (ascii x)) (coded (ascii y)) (ap (λ (w : String). coded (ascii w)) q)) ∙ not-true (same x y) e)

none_in : (ws : List (ℕ × String)) (x : String) → none_of ws x ≡ true → (n : ℕ) → x ≡ word_in ws n → ⊥
none_in [] x e n q = not_same x "unknown" e q
none_in (w ∷ ws) x e n q =
    let d = both (not (same x w.1)) (none_of ws x) e in
    by_test_lem (eqb n w.0) (λ h. not_same x w.1 d.0 (rw h at q)) (λ h. none_in ws x d.1 n (rw h at q))

one_number : (ws : List (ℕ × String)) → all_different ws ≡ true → (a b : ℕ) → word_in ws a ≡ word_in ws b → (word_in ws a ≡ "unknown" → ⊥) → a ≡ b
one_number [] e a b q own = absurd (own refl)
one_number (w ∷ ws) e a b q own =
    let d = both (none_of ws w.1) (all_different ws) e in
    by_test_lem (eqb a w.0)
    (λ h. by_test_lem (eqb b w.0) (λ k. eqb-true a w.0 h ∙ sym (eqb-true b w.0 k)) (λ k. absurd (none_in ws w.1 d.0 b (rw (h, k) at q))))
    (λ h. by_test_lem (eqb b w.0) (λ k. absurd (none_in ws w.1 d.0 a (sym (rw (h, k) at q)))) (λ k. one_number ws d.1 a b (rw (h, k) at q) (rw h at own)))

-- a word of its own is that of one number
pub number_of_word : (a b : ℕ) → rule_word a ≡ rule_word b → (rule_word a ≡ "unknown" → ⊥) → a ≡ b
unfolding rule_word
number_of_word a b q own = one_number rule_words words_differ a b q own

-- ---- the bytes are those lines and no others

feedless_found : (fault : Option NotGranted) → feedless (found_text fault) ≡ true
feedless_found None = refl
feedless_found (Some at) = feedless_decimal at.found

feedless_limit : (fault : Option NotGranted) → feedless (limit_text fault) ≡ true
feedless_limit None = refl
feedless_limit (Some at) = feedless_decimal at.limit

-- taken apart at its line feeds an explanation is its lines
pub lines_of_explanation : (x : Explanation) → lines_of (explanation_bytes x) ≡ explanation_lines x
unfolding explanation_bytes explanation_lines pieces_of
lines_of_explanation x = by x.verdict x.fault
  where
    by : (v : Verdict) (fault : Option NotGranted) → lines_of (joined (lines_for v fault)) ≡ lines_for v fault
    by Accepted fault = line_first "verdict" (decimal 0) [] refl (feedless_decimal 0)
    by (Err refusal) fault =
        line_first "verdict" (decimal refusal.rule) _ refl (feedless_decimal refusal.rule)
        ∙ ap (λ (ls : List (List ℕ)). line "verdict" (decimal refusal.rule) ∷ ls)
        (line_first "place" (decimal (line_or_quadword refusal.place)) _ refl (feedless_decimal (line_or_quadword refusal.place))
        ∙ ap (λ (ls : List (List ℕ)). line "place" (decimal (line_or_quadword refusal.place)) ∷ ls)
        (line_first "slot" (decimal refusal.slot.0) _ refl (feedless_decimal refusal.slot.0)
        ∙ ap (λ (ls : List (List ℕ)). line "slot" (decimal refusal.slot.0) ∷ ls)
        (line_first "rule" (ascii (rule_word refusal.rule)) _ refl (feedless_word refusal.rule)
        ∙ ap (λ (ls : List (List ℕ)). rule_line refusal.rule ∷ ls)
        (line_first "found" (found_text fault) _ refl (feedless_found fault)
        ∙ ap (λ (ls : List (List ℕ)). line "found" (found_text fault) ∷ ls)
        (line_first "limit" (limit_text fault) [] refl (feedless_limit fault))))))

-- ---- how long an explanation is

-- its numbers are of 64 bits
abbrev pub Of64Bits : Option NotGranted → Type 0
Of64Bits None = Unit
Of64Bits (Some at) = (at.found < 2 ^ 64) × (at.limit < 2 ^ 64)

found_line_length : (fault : Option NotGranted) → Of64Bits fault → length (line "found" (found_text fault)) ≤ 27
found_line_length None h = omega arith
found_line_length (Some at) h = number_line_length "found" at.found h.0

limit_line_length : (fault : Option NotGranted) → Of64Bits fault → length (line "limit" (limit_text fault)) ≤ 27
limit_line_length None h = omega arith
limit_line_length (Some at) h = number_line_length "limit" at.limit h.1

six_lengths : (a b c d e f : List ℕ) → length (joined (a ∷ b ∷ c ∷ d ∷ e ∷ f ∷ [])) ≡ length a + (length b + (length c + (length d + (length e + length f))))
six_lengths a b c d e f =
    omega (
      arith,
      length-append a (b ++ (c ++ (d ++ (e ++ (f ++ []))))),
      length-append b (c ++ (d ++ (e ++ (f ++ [])))),
      length-append c (d ++ (e ++ (f ++ []))),
      length-append d (e ++ (f ++ [])),
      length-append e (f ++ []),
      length-append f [],
    )

-- no explanation whose numbers are of 64 bits is longer than 156 bytes
pub at_most_156_bytes : (x : Explanation) → verdict_number x.verdict < 2 ^ 64 → verdict_place x.verdict < 2 ^ 64 → verdict_slot x.verdict < 2 ^ 64 → Of64Bits x.fault → length (explanation_bytes x) ≤ 156
unfolding explanation_bytes explanation_lines
at_most_156_bytes x h k l m = by x.verdict x.fault h k l m
  where
    within : {a b c d e f : ℕ} → a ≤ 29 → b ≤ 27 → c ≤ 26 → d ≤ 20 → e ≤ 27 → f ≤ 27 → a + (b + (c + (d + (e + f)))) ≤ 156
    within p q r s t u = omega arith

    by : (v : Verdict) (fault : Option NotGranted) → verdict_number v < 2 ^ 64 → verdict_place v < 2 ^ 64 → verdict_slot v < 2 ^ 64 → Of64Bits fault → length (joined (lines_for v fault)) ≤ 156
    by Accepted fault h k l m =
        omega (arith, length-append (line "verdict" (decimal 0)) [], number_line_length "verdict" 0 h)
    by (Err refusal) fault h k l m =
        subst (λ (n : ℕ). n ≤ 156)
        (sym
        (six_lengths (line "verdict" (decimal refusal.rule))
        (line "place" (decimal (line_or_quadword refusal.place)))
        (line "slot" (decimal refusal.slot.0))
        (rule_line refusal.rule)
        (line "found" (found_text fault))
        (line "limit" (limit_text fault))))
        (within
        (number_line_length "verdict" refusal.rule h)
        (number_line_length "place" (line_or_quadword refusal.place) k)
        (number_line_length "slot" refusal.slot.0 l)
        (rule_line_length refusal.rule)
        (found_line_length fault m)
        (limit_line_length fault m))

-- ---- the lines as the code makes them

pub refusal_made : (refusal : Refusal) (fault : Option NotGranted) {word found limit : List ℕ} {place : ℕ}
    → place ≡ line_or_quadword refusal.place → word ≡ ascii (rule_word refusal.rule) → found ≡ found_text fault → limit ≡ limit_text fault
    → joined (line "verdict" (decimal refusal.rule) ∷ line "place" (decimal place) ∷ line "slot" (decimal refusal.slot.0) ∷ line "rule" word
    ∷ line "found" found ∷ line "limit" limit ∷ [])
    ≡ explanation_bytes (record { verdict = Err refusal; fault = fault })
unfolding explanation_bytes explanation_lines
refusal_made refusal fault h k l m = rw (h, k, l, m)

pub accepted_made : (x : Explanation) → x.verdict ≡ Accepted → joined (line "verdict" (decimal 0) ∷ []) ≡ explanation_bytes x
unfolding explanation_bytes explanation_lines
accepted_made x e = rw e
