-- The report's bytes are five lines; release=yes is one of them exactly if the verdict is Accepted and the build is production; with
-- verdict 1 the first is build=unknown. Assumes nothing.
use mathlib.Core.Path.{◌≡◌, refl, sym, ap, subst, ◌∙◌}
use mathlib.Core.Bool.{Bool, true, false, cond, not, false≢true}
use mathlib.Core.List.Memᴰ
use mathlib.Core.List.{List, [], ◌∷◌, ◌++◌, append_assoc, Memᴰ}
use mathlib.Core.Logic.{⊎_elim, ◌↔◌}
use Prim.Native.Nat.{ℕ, ◌+◌, ◌^◌, ◌≤◌, ◌<◌}
use Prim.Native.String.{String}
use native.Mathlib.Omega.{arith}
use borrow.Author.Tests.{eq-eqb, not-true}
use lib.Dec.{eqb}
use lib.ListN.{length, get_or, length-append}
use Rattle.laws.proofs.OfTests.{both}
use Rattle.ascii.specs.Ascii.{ascii, line_feed}
use Rattle.ascii.specs.Decimal.{decimal}
use Rattle.ascii.specs.Code.{feedless}
use Rattle.ascii.proofs.OfDecimal.{at_most_20_digits}
use Rattle.ascii.proofs.OfFeeds.{feedless_joined, feedless_decimal}
use Rattle.units.specs.declared.Slots.{Slots}
use Rattle.checks.specs.declared.Place.{Place}
use Rattle.std.specs.Prelude.{Option, Some, None, Err}
use Rattle.checks.specs.Verdict.{Verdict, Accepted, Refused, is_accepted, verdict_number, verdict_place, verdict_slot}
use Rattle.card.specs.declared.Build.{Build}
use Rattle.card.specs.declared.Build.TheVariants.{Production, Debug}
use Rattle.report.specs.Report.{line, shown_build, build_text, released, yes_or_no, report_lines, joined, report_bytes, before_first, pieces_of, lines_of}

-- ---- the bytes are those five lines and no others

-- a line feed ends a line
feed_ends : (body rest : List ℕ) → feedless body ≡ true → lines_of (body ++ (line_feed ∷ rest)) ≡ (body ++ (line_feed ∷ [])) ∷ lines_of rest
unfolding pieces_of
feed_ends [] rest h = refl
feed_ends (b ∷ body) rest h =
    let w = both (not (eqb b line_feed)) (feedless body) h in
    rw (not-true (eqb b line_feed) w.0) (ap (before_first b) (feed_ends body rest w.1))

feedless_build : (build : Option Build) → feedless (build_text build) ≡ true
feedless_build None = refl
feedless_build (Some Production) = refl
feedless_build (Some Debug) = refl

feedless_answer : (free : Bool) → feedless (yes_or_no free) ≡ true
feedless_answer true = refl
feedless_answer false = refl

-- a line before others is the first of them
pub line_first : (key : String) (value rest : List ℕ) → feedless (ascii key) ≡ true → feedless value ≡ true → lines_of (line key value ++ rest) ≡ line key value ∷ lines_of rest
line_first key value rest h k =
    ap lines_of
    (append_assoc (ascii key) (61 ∷ (value ++ (10 ∷ []))) rest
    ∙ ap (λ (l : List ℕ). ascii key ++ (61 ∷ l)) (append_assoc value (10 ∷ []) rest)
    ∙ sym (append_assoc (ascii key) (61 ∷ value) (10 ∷ rest)))
    ∙ feed_ends (ascii key ++ (61 ∷ value)) rest (feedless_joined (ascii key) (61 ∷ value) h k)
    ∙ ap (λ (l : List ℕ). l ∷ lines_of rest) (append_assoc (ascii key) (61 ∷ value) (10 ∷ []))

-- taken apart at its line feeds the report is its five lines
pub lines_of_report : (build : Option Build) (verdict : Verdict) → lines_of (report_bytes build verdict) ≡ report_lines build verdict
unfolding report_bytes report_lines pieces_of
lines_of_report build verdict =
    line_first "build" (build_text (shown_build build verdict)) _ refl (feedless_build (shown_build build verdict))
    ∙ ap (λ (ls : List (List ℕ)). line "build" (build_text (shown_build build verdict)) ∷ ls)
    (line_first "verdict" (decimal (verdict_number verdict)) _ refl (feedless_decimal (verdict_number verdict))
    ∙ ap (λ (ls : List (List ℕ)). line "verdict" (decimal (verdict_number verdict)) ∷ ls)
    (line_first "place" (decimal (verdict_place verdict)) _ refl (feedless_decimal (verdict_place verdict))
    ∙ ap (λ (ls : List (List ℕ)). line "place" (decimal (verdict_place verdict)) ∷ ls)
    (line_first "slot" (decimal (verdict_slot verdict)) _ refl (feedless_decimal (verdict_slot verdict))
    ∙ ap (λ (ls : List (List ℕ)). line "slot" (decimal (verdict_slot verdict)) ∷ ls)
    (line_first "release" (yes_or_no (released build verdict)) [] refl (feedless_answer (released build verdict))))))

-- ---- what the lines say

accepted_if : (verdict : Verdict) → is_accepted verdict ≡ true → verdict ≡ Accepted
accepted_if Accepted h = refl
accepted_if (Err refusal) h = absurd (false≢true h)

-- released is what document 01 says
pub released_exactly_if : (build : Option Build) (verdict : Verdict) → released build verdict ≡ true ↔ (verdict ≡ Accepted) × (build ≡ Some Production)
released_exactly_if build verdict = (there build, λ h. rw (h.0, h.1))
  where
    there : (build : Option Build) → released build verdict ≡ true → (verdict ≡ Accepted) × (build ≡ Some Production)
    there None h = absurd (false≢true h)
    there (Some Production) h = (accepted_if verdict h, refl)
    there (Some Debug) h = absurd (false≢true h)

-- two lines that differ in the byte at i
differ : (i : ℕ) (xs ys : List ℕ) → (get_or xs i 0 ≡ get_or ys i 0 → ⊥) → xs ≡ ys → ⊥
differ i xs ys h e = h (ap (λ (l : List ℕ). get_or l i 0) e)

answer_line : (free : Bool) → ascii "release=yes\n" ≡ line "release" (yes_or_no free) → free ≡ true
answer_line true e = refl
answer_line false e = absurd (differ 8 (ascii "release=yes\n") (line "release" (ascii "no")) (λ k. omega arith) e)

-- the line release=yes is among the report's exactly if the verdict is Accepted and the build is production
pub release_yes : (build : Option Build) (verdict : Verdict) → Memᴰ (ascii "release=yes\n") (lines_of (report_bytes build verdict)) ↔ (verdict ≡ Accepted) × (build ≡ Some Production)
unfolding report_lines
release_yes build verdict = (λ m. there (subst (Memᴰ (ascii "release=yes\n")) (lines_of_report build verdict) m), back)
  where
    there : Memᴰ (ascii "release=yes\n") (report_lines build verdict) → (verdict ≡ Accepted) × (build ≡ Some Production)
    there m =
        ⊎_elim (λ e. absurd (differ 0 _ _ (λ k. omega arith) e))
        (λ m. ⊎_elim (λ e. absurd (differ 0 _ _ (λ k. omega arith) e))
        (λ m. ⊎_elim (λ e. absurd (differ 0 _ _ (λ k. omega arith) e))
        (λ m. ⊎_elim (λ e. absurd (differ 0 _ _ (λ k. omega arith) e))
        (λ m. (released_exactly_if build verdict).0 (answer_line (released build verdict) (Memᴰ.eq_of_singleton m)))
        (Memᴰ.cases_cons m))
        (Memᴰ.cases_cons m))
        (Memᴰ.cases_cons m))
        (Memᴰ.cases_cons m)

    back : (verdict ≡ Accepted) × (build ≡ Some Production) → Memᴰ (ascii "release=yes\n") (lines_of (report_bytes build verdict))
    back h =
        subst (Memᴰ (ascii "release=yes\n")) (sym (lines_of_report build verdict))
        (Memᴰ.tail (Memᴰ.tail (Memᴰ.tail (Memᴰ.tail
        (Memᴰ.head (ap (λ (t : Bool). line "release" (yes_or_no t)) (sym ((released_exactly_if build verdict).1 h))))))))

-- and it is the last line that says so
pub last_line : (build : Option Build) (verdict : Verdict) → get_or (lines_of (report_bytes build verdict)) 4 [] ≡ line "release" (yes_or_no (released build verdict))
unfolding report_lines
last_line build verdict = ap (λ (ls : List (List ℕ)). get_or ls 4 []) (lines_of_report build verdict)

-- with verdict 1 the first line shows no build
pub unknown_build : (build : Option Build) (verdict : Verdict) → verdict_number verdict ≡ 1 → get_or (lines_of (report_bytes build verdict)) 0 [] ≡ ascii "build=unknown\n"
unfolding report_lines
unknown_build build verdict h =
    ap (λ (ls : List (List ℕ)). get_or ls 0 []) (lines_of_report build verdict)
    ∙ ap (λ (t : Bool). line "build" (build_text (cond t None build))) (eq-eqb (verdict_number verdict) 1 h)

-- the table's rule 1 is the one with that number
pub unknown_build_on_card_line : (build : Option Build) (place : Place) (slot : Slots) → get_or (lines_of (report_bytes build (Refused 1 place slot))) 0 [] ≡ ascii "build=unknown\n"
unknown_build_on_card_line build place slot = unknown_build build (Refused 1 place slot) refl

-- ---- how long a report is

pub number_line_length : (key : String) (n : ℕ) → n < 2 ^ 64 → length (line key (decimal n)) ≤ length (ascii key) + 22
number_line_length key n h =
    omega (
      arith,
      length-append (ascii key) (ascii "=" ++ (decimal n ++ ascii "\n")),
      length-append (decimal n) (ascii "\n"),
      at_most_20_digits n h,
    )

build_line_length : (build : Option Build) → length (line "build" (build_text build)) ≤ 17
build_line_length None = omega arith
build_line_length (Some Production) = omega arith
build_line_length (Some Debug) = omega arith

release_line_length : (free : Bool) → length (line "release" (yes_or_no free)) ≤ 12
release_line_length true = omega arith
release_line_length false = omega arith

five_lengths : (a b c d e : List ℕ) → length (joined (a ∷ b ∷ c ∷ d ∷ e ∷ [])) ≡ length a + (length b + (length c + (length d + length e)))
five_lengths a b c d e =
    omega (
      arith,
      length-append a (b ++ (c ++ (d ++ (e ++ [])))),
      length-append b (c ++ (d ++ (e ++ []))),
      length-append c (d ++ (e ++ [])),
      length-append d (e ++ []),
      length-append e [],
    )

-- no report whose numbers are of 64 bits is longer than 111 bytes
pub at_most_111_bytes : (build : Option Build) (verdict : Verdict) → verdict_number verdict < 2 ^ 64 → verdict_place verdict < 2 ^ 64 → verdict_slot verdict < 2 ^ 64 → length (report_bytes build verdict) ≤ 111
unfolding report_bytes report_lines
at_most_111_bytes build verdict h k l =
    subst (λ (n : ℕ). n ≤ 111)
    (sym
    (five_lengths (line "build" (build_text (shown_build build verdict)))
    (line "verdict" (decimal (verdict_number verdict)))
    (line "place" (decimal (verdict_place verdict)))
    (line "slot" (decimal (verdict_slot verdict)))
    (line "release" (yes_or_no (released build verdict)))))
    (within
    (build_line_length (shown_build build verdict))
    (number_line_length "verdict" (verdict_number verdict) h)
    (number_line_length "place" (verdict_place verdict) k)
    (number_line_length "slot" (verdict_slot verdict) l)
    (release_line_length (released build verdict)))
  where
    within : {a b c d e : ℕ} → a ≤ 17 → b ≤ 29 → c ≤ 27 → d ≤ 26 → e ≤ 12 → a + (b + (c + (d + e))) ≤ 111
    within p q r s t = omega arith

-- ---- the lines as the code makes them

pub report_made : (build : Option Build) (verdict : Verdict) {word answer : List ℕ} {rule place slot : ℕ}
    → word ≡ build_text (shown_build build verdict) → rule ≡ verdict_number verdict → place ≡ verdict_place verdict → slot ≡ verdict_slot verdict
    → answer ≡ yes_or_no (released build verdict)
    → joined (line "build" word ∷ line "verdict" (decimal rule) ∷ line "place" (decimal place) ∷ line "slot" (decimal slot) ∷ line "release" answer ∷ [])
    ≡ report_bytes build verdict
unfolding report_bytes report_lines
report_made build verdict h k l m n = rw (h, k, l, m, n)
