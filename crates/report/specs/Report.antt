-- The report: document 01, "What the judge reads". Five lines, each ended by one line feed.
use Rattle.std.specs.Prelude.{ℕ, Bool, true, false, cond, Option, Some, None, List, [], ◌∷◌, ◌++◌, eqb}
use Prim.Native.String.{String}
use Rattle.ascii.specs.Ascii.{ascii, line_feed}
use Rattle.ascii.specs.Decimal.{decimal}
use Rattle.card.specs.declared.Build.{Build}
use Rattle.card.specs.declared.Build.TheVariants.{Production, Debug}
use Rattle.checks.specs.Verdict.{Verdict, is_accepted, verdict_number, verdict_place, verdict_slot}

-- a line key=value
abbrev pub line : String → List ℕ → List ℕ
line key value = ascii key ++ (ascii "=" ++ (value ++ ascii "\n"))

-- with verdict 1 the build line reads unknown, whatever build was known
abbrev pub shown_build : Option Build → Verdict → Option Build
shown_build build verdict = cond (eqb (verdict_number verdict) 1) None build

abbrev pub build_text : Option Build → List ℕ
build_text None = ascii "unknown"
build_text (Some Production) = ascii "production"
build_text (Some Debug) = ascii "debug"

-- release is yes exactly if the verdict is 0, accepted, and build is production, else no
abbrev pub released : Option Build → Verdict → Bool
released None verdict = false
released (Some Production) verdict = is_accepted verdict
released (Some Debug) verdict = false

abbrev pub yes_or_no : Bool → List ℕ
yes_or_no true = ascii "yes"
yes_or_no false = ascii "no"

-- the five lines in their order
unfoldable pub report_lines : Option Build → Verdict → List (List ℕ)
report_lines build verdict =
    line "build" (build_text (shown_build build verdict))
    ∷ line "verdict" (decimal (verdict_number verdict))
    ∷ line "place" (decimal (verdict_place verdict))
    ∷ line "slot" (decimal (verdict_slot verdict))
    ∷ line "release" (yes_or_no (released build verdict))
    ∷ []

-- lines one behind the other
abbrev pub joined : List (List ℕ) → List ℕ
joined [] = []
joined (l ∷ ls) = l ++ joined ls

-- the report's bytes
unfoldable pub report_bytes : Option Build → Verdict → List ℕ
report_bytes build verdict = joined (report_lines build verdict)

-- ---- the bytes taken apart again: what is said of a line of the report is said of these

-- a byte before the first of some pieces
abbrev pub before_first : ℕ → List (List ℕ) → List (List ℕ)
before_first b [] = (b ∷ []) ∷ []
before_first b (l ∷ ls) = (b ∷ l) ∷ ls

-- bytes taken apart into pieces, each with the byte `last` that ends it; what stands behind the last of these is a piece too
unfoldable pub pieces_of : ℕ → List ℕ → List (List ℕ)
pieces_of last [] = []
pieces_of last (b ∷ bs) = cond (eqb b last) ((b ∷ []) ∷ pieces_of last bs) (before_first b (pieces_of last bs))

-- bytes taken apart into lines, each with the line feed that ends it
abbrev pub lines_of : List ℕ → List (List ℕ)
lines_of bytes = pieces_of line_feed bytes
