-- Laws of the card: what a whole one says of the bytes, and that it is in range. Assumes nothing.
use mathlib.Core.Path.{◌≡◌, refl, ap, sym, ◌∙◌, subst}
use mathlib.Core.Bool.{Bool, true, false}
use mathlib.Core.List.{List, [], ◌∷◌, ◌++◌}
use Prim.Native.String.{String}
use Rattle.std.specs.Prelude.{Option, None, Some}
use mathlib.Core.Logic.{◌↔◌}
use Prim.Native.Nat.{ℕ, ◌+◌, ◌≤◌}
use native.Mathlib.Omega.{arith}
use borrow.Author.Tests.{le-leb, leb-true}
use lib.Dec.{leb}
use lib.ListN.{length, drop}
use Rattle.laws.proofs.OfCases.{impossible}
use Rattle.laws.proofs.OfTests.{both, both_hold}
use Rattle.card.specs.Text.{text, behind, lines_length, value_at, word_in, number_in, from◌to◌}
use Rattle.card.specs.Card.{line_says, kinds, builds, gprs_allowed, temps_allowed, consts_allowed, stack_allowed, quads_allowed, judged, ◌>>=◌, card_with, card_of}
use Rattle.card.specs.Made.{first_not, test_of, Ranges}
use Rattle.card.specs.declared.Card.{Card}
use Rattle.card.specs.Card.{CardRead}
use Rattle.card.specs.Card.{Whole, BadAt}
use Rattle.card.specs.Card.{BadAt, bad_line}
use Rattle.card.specs.declared.BadLine.{BadLine}
use Rattle.card.specs.Made.{InRange}
use Rattle.card.proofs.OfFound.{found_some, number_some}
use Rattle.card.proofs.OfLines.{lines_behind, lines_within}
use Rattle.card.proofs.OfRows.{goes_on, past_1, past_2, past_3, past_4, past_5, past_6, past_7, card_lines_lem, tests_4, tests_5, tests_6, tests_7, tests_8, card_tests, holds_3, holds_4, holds_5, holds_6, holds_7}

-- ---- a whole card, line by line

-- each line of the bytes says what the card has, and the card takes n bytes
pub record Says (s : List ℕ) (card : Card) (n : ℕ) : Type 0 where
  pub kind_line : line_says s 1 "kind" (word_in kinds) ≡ Some card.kind
  pub build_line : line_says s 2 "build" (word_in builds) ≡ Some card.build
  pub gprs_line : line_says s 3 "gprs" (number_in gprs_allowed) ≡ Some card.gprs
  pub temps_line : line_says s 4 "temps" (number_in (temps_allowed card.gprs)) ≡ Some card.temps
  pub consts_line : line_says s 5 "consts" (number_in consts_allowed) ≡ Some card.consts
  pub stack_line : line_says s 6 "stack" (number_in stack_allowed) ≡ Some card.stack
  pub quads_line : line_says s 7 "quads" (number_in quads_allowed) ≡ Some card.quads.0
  pub taken : n ≡ lines_length 7 s

-- an answer is one of its kinds
read_apart : {card : Card} {n k : ℕ} → Whole card n ≡ BadAt k → ⊥
read_apart e = impossible cc

-- and says what it was made of
read_parts : {a b : Card} {m n : ℕ} → Whole a m ≡ Whole b n → (a ≡ b) × (m ≡ n)
read_parts {a} {b} {m} {n} e =
    let same : (a, m) ≡ (b, n) = cc in
    (ap (λ (p : Card × ℕ). p.0) same, ap (λ (p : Card × ℕ). p.1) same)

bad_parts : {A : Type 0} (k n : ℕ) → BadAt {A = A} k ≡ BadAt n → k ≡ n
bad_parts k n e =
    let same : bad_line k ≡ bad_line n = cc in
    ap (λ (b : BadLine). b.0) same

test_apart : {k : ℕ} → InRange ≡ BadAt k → ⊥
test_apart e = impossible cc

-- a whole card came through each line
came : {A : Type 0} (k : ℕ) (o : Option A) (f : A → CardRead) {card : Card} {n : ℕ} → (judged k o >>= f) ≡ Whole card n → (a : A) × (o ≡ Some a) × (f a ≡ Whole card n)
came k None f h = absurd (read_apart (sym h))
came k (Some a) f h = (a, refl, h)

pub whole_says : (s : List ℕ) (card : Card) (n : ℕ) → card_of s ≡ Whole card n → Says s card n
whole_says s card n h =
    let a = came 1 (line_says s 1 "kind" (word_in kinds)) _ (sym (card_lines_lem s) ∙ h) in
    let b = came 2 (line_says s 2 "build" (word_in builds)) _ a.2 in
    let c = came 3 (line_says s 3 "gprs" (number_in gprs_allowed)) _ b.2 in
    let d = came 4 (line_says s 4 "temps" (number_in (temps_allowed c.0))) _ c.2 in
    let e = came 5 (line_says s 5 "consts" (number_in consts_allowed)) _ d.2 in
    let f = came 6 (line_says s 6 "stack" (number_in stack_allowed)) _ e.2 in
    let g = came 7 (line_says s 7 "quads" (number_in quads_allowed)) _ f.2 in
    let w : Whole (card_with a.0 b.0 c.0 d.0 e.0 f.0 g.0) (lines_length 7 s) ≡ Whole card n = g.2 in
    let p = read_parts w in
    subst (λ (x : Card). Says s x n) {x = card_with a.0 b.0 c.0 d.0 e.0 f.0 g.0} p.0
    (record {
      kind_line = a.1;
      build_line = b.1;
      gprs_line = c.1;
      temps_line = d.1;
      consts_line = e.1;
      stack_line = f.1;
      quads_line = g.1;
      taken = sym p.1;
    })

pub says_whole : (s : List ℕ) (card : Card) (n : ℕ) → Says s card n → card_of s ≡ Whole card n
says_whole s card n w =
    card_lines_lem s
    ∙ goes_on 1 _ (λ kind. past_1 s (card_with kind)) w.kind_line
    ∙ goes_on 2 _ (λ build. past_2 s (card_with card.kind build)) w.build_line
    ∙ goes_on 3 _ (λ gprs. past_3 s gprs (card_with card.kind card.build gprs)) w.gprs_line
    ∙ goes_on 4 _ (λ temps. past_4 s (card_with card.kind card.build card.gprs temps)) w.temps_line
    ∙ goes_on 5 _ (λ consts. past_5 s (card_with card.kind card.build card.gprs card.temps consts)) w.consts_line
    ∙ goes_on 6 _ (λ stack. past_6 s (card_with card.kind card.build card.gprs card.temps card.consts stack)) w.stack_line
    ∙ goes_on 7 _ (λ quads. past_7 s (card_with card.kind card.build card.gprs card.temps card.consts card.stack quads)) w.quads_line
    ∙ ap (Whole card) (sym w.taken)

-- a card is whole exactly if each of its lines is right
pub whole_exactly_if : (s : List ℕ) (card : Card) (n : ℕ) → card_of s ≡ Whole card n ↔ Says s card n
whole_exactly_if s card n = (whole_says s card n, says_whole s card n)

-- ---- in range

-- a number that is read is an allowed one
allowed_line : (s : List ℕ) (k : ℕ) (key : String) (allowed : ℕ → Bool) {n : ℕ} → line_says s k key (number_in allowed) ≡ Some n → allowed n ≡ true
allowed_line s k key allowed e =
    let v = found_some (value_at k (text key ++ text "=") s) (number_in allowed) e in
    (number_some allowed v.0 v.2).1

-- what is read whole passes the test of a card
pub whole_in_range : (s : List ℕ) (card : Card) (n : ℕ) → card_of s ≡ Whole card n → test_of card ≡ InRange
whole_in_range s card n h =
    let w = whole_says s card n h in
    card_tests card
    ∙ holds_3 card (allowed_line s 3 "gprs" gprs_allowed w.gprs_line)
    ∙ holds_4 card (allowed_line s 4 "temps" (temps_allowed card.gprs) w.temps_line)
    ∙ holds_5 card (allowed_line s 5 "consts" consts_allowed w.consts_line)
    ∙ holds_6 card (allowed_line s 6 "stack" stack_allowed w.stack_line)
    ∙ holds_7 card (allowed_line s 7 "quads" quads_allowed w.quads_line)

-- a test that all lines pass was passed by the first, and by the rest
passed : (n : ℕ) (t : Bool) (ts : List (ℕ × Bool)) → first_not ((n, t) ∷ ts) ≡ InRange → (t ≡ true) × (first_not ts ≡ InRange)
passed n true ts h = (refl, h)
passed n false ts h = absurd (test_apart (sym h))

pub ranged : (low high n : ℕ) → (from low to high) n ≡ true → (low ≤ n) × (n ≤ high)
ranged low high n h =
    let w = both (leb low n) (leb n high) h in
    (leb-true low n w.0, leb-true n high w.1)

in_range : (low high n : ℕ) → low ≤ n → n ≤ high → (from low to high) n ≡ true
in_range low high n l h = both_hold (leb low n) (leb n high) (le-leb low n l) (le-leb n high h)

-- each line's test, of a card that passes
pub range_tests : (card : Card) → test_of card ≡ InRange
    → (gprs_allowed card.gprs ≡ true) × (temps_allowed card.gprs card.temps ≡ true) × (consts_allowed card.consts ≡ true) × (stack_allowed card.stack ≡ true) × (quads_allowed card.quads.0 ≡ true)
range_tests card h =
    let t3 = passed 3 (gprs_allowed card.gprs) (tests_4 card) (sym (card_tests card) ∙ h) in
    let t4 = passed 4 (temps_allowed card.gprs card.temps) (tests_5 card) t3.1 in
    let t5 = passed 5 (consts_allowed card.consts) (tests_6 card) t4.1 in
    let t6 = passed 6 (stack_allowed card.stack) (tests_7 card) t5.1 in
    let t7 = passed 7 (quads_allowed card.quads.0) (tests_8 card) t6.1 in
    (t3.0, t4.0, t5.0, t6.0, t7.0)

pub range_figures : (card : Card) → test_of card ≡ InRange → Ranges card
range_figures card h =
    let t = range_tests card h in
    let gprs = ranged 1 128 card.gprs t.0 in
    let temps = both ((from 0 to 4) card.temps) (leb (card.gprs + card.temps) 128) t.1 in
    let quads = ranged 1 8192 card.quads.0 t.4 in
    record {
      gprs_least = gprs.0;
      gprs_most = gprs.1;
      temps_most = (ranged 0 4 card.temps temps.0).1;
      together_most = leb-true (card.gprs + card.temps) 128 temps.1;
      consts_most = (ranged 0 256 card.consts t.2).1;
      stack_most = (ranged 0 32 card.stack t.3).1;
      quads_least = quads.0;
      quads_most = quads.1;
    }

pub figures_range : (card : Card) → Ranges card → test_of card ≡ InRange
figures_range card w =
    card_tests card
    ∙ holds_3 card (in_range 1 128 card.gprs w.gprs_least w.gprs_most)
    ∙ holds_4 card
    (both_hold ((from 0 to 4) card.temps) (leb (card.gprs + card.temps) 128) (in_range 0 4 card.temps (omega arith) w.temps_most) (le-leb (card.gprs + card.temps) 128 w.together_most))
    ∙ holds_5 card (in_range 0 256 card.consts (omega arith) w.consts_most)
    ∙ holds_6 card (in_range 0 32 card.stack (omega arith) w.stack_most)
    ∙ holds_7 card (in_range 1 8192 card.quads.0 w.quads_least w.quads_most)

-- a card passes the test exactly if its figures are in range
pub in_range_exactly_if : (card : Card) → test_of card ≡ InRange ↔ Ranges card
in_range_exactly_if card = (range_figures card, figures_range card)

-- ---- the bytes

-- a card takes no more bytes than there are
pub whole_length : (s : List ℕ) (card : Card) (n : ℕ) → card_of s ≡ Whole card n → n ≤ length s
whole_length s card n h = let e = (whole_says s card n h).taken in omega (arith, lines_within 7 s)

-- they are all of it where nothing stands behind line 7's line feed
pub whole_all : (s : List ℕ) (card : Card) (n : ℕ) → card_of s ≡ Whole card n → behind 7 s ≡ [] → n ≡ length s
unfolding lines_length
whole_all s card n h e = let t = (whole_says s card n h).taken in omega (arith, ap length e)

-- the pack is what stands behind line 7's line feed
pub whole_behind : (s : List ℕ) (card : Card) (n : ℕ) → card_of s ≡ Whole card n → drop n s ≡ behind 7 s
whole_behind s card n h = ap (λ (k : ℕ). drop k s) (whole_says s card n h).taken ∙ lines_behind 7 s

-- ---- the line that is blamed

-- a line is blamed by itself, or by a line behind it
blamed : {A : Type 0} (k : ℕ) (o : Option A) (f : A → CardRead) (low high n : ℕ) → low ≤ k → k ≤ high
    → ((a : A) → f a ≡ BadAt n → (low ≤ n) × (n ≤ high)) → (judged k o >>= f) ≡ BadAt n → (low ≤ n) × (n ≤ high)
blamed k None f low high n l h g e = let q : k ≡ n = bad_parts k n e in (omega arith, omega arith)
blamed k (Some a) f low high n l h g e = g a e

-- one of the seven lines
pub bad_line_lem : (s : List ℕ) (n : ℕ) → card_of s ≡ BadAt n → (1 ≤ n) × (n ≤ 7)
bad_line_lem s n h =
    blamed 1 (line_says s 1 "kind" (word_in kinds)) _ 1 7 n (omega arith) (omega arith)
    (λ kind. blamed 2 (line_says s 2 "build" (word_in builds)) _ 1 7 n (omega arith) (omega arith)
    (λ build. blamed 3 (line_says s 3 "gprs" (number_in gprs_allowed)) _ 1 7 n (omega arith) (omega arith)
    (λ gprs. blamed 4 (line_says s 4 "temps" (number_in (temps_allowed gprs))) _ 1 7 n (omega arith) (omega arith)
    (λ temps. blamed 5 (line_says s 5 "consts" (number_in consts_allowed)) _ 1 7 n (omega arith) (omega arith)
    (λ consts. blamed 6 (line_says s 6 "stack" (number_in stack_allowed)) _ 1 7 n (omega arith) (omega arith)
    (λ stack. blamed 7 (line_says s 7 "quads" (number_in quads_allowed)) _ 1 7 n (omega arith) (omega arith)
    (λ quads e. absurd (read_apart e))))))))
    (sym (card_lines_lem s) ∙ h)

blamed_test : (k : ℕ) (t : Bool) (ts : List (ℕ × Bool)) (low high n : ℕ) → low ≤ k → k ≤ high
    → (first_not ts ≡ BadAt n → (low ≤ n) × (n ≤ high)) → first_not ((k, t) ∷ ts) ≡ BadAt n → (low ≤ n) × (n ≤ high)
blamed_test k false ts low high n l h g e = let q : k ≡ n = bad_parts k n e in (omega arith, omega arith)
blamed_test k true ts low high n l h g e = g e

-- one of the five lines with figures
pub bad_figure : (card : Card) (n : ℕ) → test_of card ≡ BadAt n → (3 ≤ n) × (n ≤ 7)
bad_figure card n h =
    blamed_test 3 (gprs_allowed card.gprs) (tests_4 card) 3 7 n (omega arith) (omega arith)
    (blamed_test 4 (temps_allowed card.gprs card.temps) (tests_5 card) 3 7 n (omega arith) (omega arith)
    (blamed_test 5 (consts_allowed card.consts) (tests_6 card) 3 7 n (omega arith) (omega arith)
    (blamed_test 6 (stack_allowed card.stack) (tests_7 card) 3 7 n (omega arith) (omega arith)
    (blamed_test 7 (quads_allowed card.quads.0) [] 3 7 n (omega arith) (omega arith)
    (λ e. absurd (test_apart e))))))
    (sym (card_tests card) ∙ h)
