-- An explanation of a verdict, as text: document 02, request 1: the key=value lines verdict, place, slot, rule, found and limit, in that
-- order; for an accepted pack the verdict line only.
use Rattle.std.specs.Prelude.{ℕ, cond, Option, Some, None, Err, List, [], ◌∷◌, eqb}
use Prim.Native.String.{String}
use Rattle.ascii.specs.Ascii.{ascii}
use Rattle.ascii.specs.Decimal.{decimal}
use Rattle.checks.specs.declared.NotGranted.{NotGranted}
use Rattle.checks.specs.declared.Explanation.{Explanation}
use Rattle.checks.specs.Verdict.{Verdict, Accepted, line_or_quadword}
use Rattle.report.specs.Report.{line, joined}

-- each rule's number and its word; 20 and 21 are the encoder's, and no pack is refused with them
abbrev pub rule_words : List (ℕ × String)
rule_words =
    (1, "card-line")
    ∷ (2, "length")
    ∷ (3, "no-end")
    ∷ (4, "cf-number")
    ∷ (5, "cf-field")
    ∷ (6, "clause-range")
    ∷ (7, "export")
    ∷ (8, "fetch-word")
    ∷ (9, "fetch-register")
    ∷ (10, "group-shape")
    ∷ (11, "alu-number")
    ∷ (12, "alu-field")
    ∷ (13, "alu-unit")
    ∷ (14, "alu-issue")
    ∷ (15, "not-granted")
    ∷ (16, "stack-frames")
    ∷ (17, "stack-left")
    ∷ (18, "target")
    ∷ (19, "stacks-differ")
    ∷ (22, "clause-layout")
    ∷ []

-- the word beside a number; a number without a word of its own gives unknown
abbrev pub word_in : List (ℕ × String) → ℕ → String
word_in [] n = "unknown"
word_in (w ∷ ws) n = cond (eqb n w.0) w.1 (word_in ws n)

unfoldable pub rule_word : ℕ → String
rule_word n = word_in rule_words n

-- the number at fault and the limit that it breaks; a fault without numbers has a dash for each
abbrev pub found_text : Option NotGranted → List ℕ
found_text None = ascii "-"
found_text (Some fault) = decimal fault.found

abbrev pub limit_text : Option NotGranted → List ℕ
limit_text None = ascii "-"
limit_text (Some fault) = decimal fault.limit

-- the lines in their order
abbrev pub lines_for : Verdict → Option NotGranted → List (List ℕ)
lines_for Accepted fault = line "verdict" (decimal 0) ∷ []
lines_for (Err refusal) fault =
    line "verdict" (decimal refusal.rule)
    ∷ line "place" (decimal (line_or_quadword refusal.place))
    ∷ line "slot" (decimal refusal.slot.0)
    ∷ line "rule" (ascii (rule_word refusal.rule))
    ∷ line "found" (found_text fault)
    ∷ line "limit" (limit_text fault)
    ∷ []

unfoldable pub explanation_lines : Explanation → List (List ℕ)
explanation_lines x = lines_for x.verdict x.fault

-- the explanation's bytes
unfoldable pub explanation_bytes : Explanation → List ℕ
explanation_bytes x = joined (explanation_lines x)
