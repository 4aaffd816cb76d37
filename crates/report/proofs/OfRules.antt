-- The words of the rules: what is so of each of them, and a number that has none. Assumes nothing.
use mathlib.Core.Path.{◌≡◌, refl}
use mathlib.Core.Bool.{Bool, true, ◌&&◌}
use mathlib.Core.List.{List, [], ◌∷◌}
use Prim.Native.Nat.{ℕ, ◌≤◌}
use Prim.Native.String.{String}
use borrow.Author.Tests.{ne_eqb, leb-true}
use lib.Dec.{eqb, leb}
use lib.ListN.{length}
use Rattle.laws.proofs.OfTests.{both, by_test_lem}
use Rattle.ascii.specs.Ascii.{ascii}
use Rattle.ascii.specs.Code.{feedless}
use Rattle.report.specs.Report.{line}
use Rattle.report.specs.Explanation.{rule_words, word_in, rule_word}

-- an explanation's line that names the rule
abbrev pub rule_line : ℕ → List ℕ
rule_line n = line "rule" (ascii (rule_word n))

-- ---- a number without a word

-- no number of a list is this one
abbrev none_is : ℕ → List (ℕ × String) → Type 0
none_is n [] = Unit {0}
none_is n (w ∷ ws) = (n ≡ w.0 → ⊥) × none_is n ws

no_word : (ws : List (ℕ × String)) (n : ℕ) → none_is n ws → word_in ws n ≡ "unknown"
no_word [] n h = refl
no_word (w ∷ ws) n h = rw (ne_eqb n w.0 h.0) (no_word ws n h.1)

pub without_word : (n : ℕ) → none_is n rule_words → rule_word n ≡ "unknown"
unfolding rule_word
without_word n h = no_word rule_words n h

-- ---- what is so of every word

-- a test passes at each word, and at unknown
abbrev pub every_word : (String → Bool) → List (ℕ × String) → Bool
every_word test [] = test "unknown"
every_word test (w ∷ ws) = test w.1 && every_word test ws

of_word_in : (test : String → Bool) (ws : List (ℕ × String)) → every_word test ws ≡ true → (n : ℕ) → test (word_in ws n) ≡ true
of_word_in test [] e n = e
of_word_in test (w ∷ ws) e n =
    let b = both (test w.1) (every_word test ws) e in
    by_test_lem (eqb n w.0) (λ h. rw h b.0) (λ h. rw h (of_word_in test ws b.1 n))

pub of_word : (test : String → Bool) → every_word test rule_words ≡ true → (n : ℕ) → test (rule_word n) ≡ true
unfolding rule_word
of_word test e n = of_word_in test rule_words e n

pub rule_line_length : (n : ℕ) → length (rule_line n) ≤ 20
rule_line_length n =
    leb-true (length (rule_line n)) 20 (of_word (λ (w : String). leb (length (line "rule" (ascii w))) 20) refl n)

pub feedless_word : (n : ℕ) → feedless (ascii (rule_word n)) ≡ true
feedless_word n = of_word (λ (w : String). feedless (ascii w)) refl n
