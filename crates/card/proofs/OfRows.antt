-- The table's rows: what is left of the card once some lines are right. Assumes nothing.
use mathlib.Core.Path.{◌≡◌, refl, ap, sym, ◌∙◌}
use mathlib.Core.Bool.{Bool, true, false, cond, ◌&&◌}
use mathlib.Core.List.{List, [], ◌∷◌}
use Rattle.std.specs.Prelude.{Option, None, Some}
use Rattle.std.specs.Prelude.{find}
use Rattle.std.specs.Cmp.Lexicographic.{pointwise}
use lib.Dec.{eqb}
use Prim.Native.Nat.{ℕ, suc}
use Rattle.card.specs.Text.{text, found, first_line, behind_first, behind, line_of, lines_length, value_of, value_at, word_in, number_of, number_in}
use Rattle.card.specs.Card.{kinds, builds, gprs_allowed, temps_allowed, consts_allowed, stack_allowed, quads_allowed, CardRead, Whole, BadAt, judged, line, ◌>>=◌, card_with, card_of}
use Rattle.card.specs.Made.{first_not, test_of}
use Rattle.card.specs.Code.{every_kind, every_build}
use Rattle.card.specs.Written.{kind_word, build_word}
use Rattle.card.specs.declared.Kind.{Kind}
use Rattle.card.specs.declared.Build.{Build}
use Rattle.card.proofs.OfKeys.{same_is}
use Rattle.card.specs.declared.Card.{Card}

-- ---- the words of lines 1 and 2, as the code looks for them

abbrev pub kind_said : List ℕ → Option Kind
kind_said t = find (λ k. pointwise eqb t (text (kind_word k))) every_kind

pub kind_found : (t : List ℕ) → kind_said t ≡ word_in kinds t
unfolding word_in
kind_found t = rw (same_is t (text "ps"), same_is t (text "vs"), same_is t (text "gs"))

abbrev pub build_said : List ℕ → Option Build
build_said t = find (λ b. pointwise eqb t (text (build_word b))) every_build

pub build_found : (t : List ℕ) → build_said t ≡ word_in builds t
unfolding word_in
build_found t = rw (same_is t (text "production"), same_is t (text "debug"))

-- ---- line n + 1, which starts behind n lines

module _ {A : Type 0} (s : List ℕ) (n : ℕ) {rest : List ℕ} (at : rest ≡ behind n s) (key : List ℕ) (allowed : List ℕ → Option A) where
  pub row_said : {o : Option A} → found (value_at 1 key rest) allowed ≡ o → found (value_at (suc n) key s) allowed ≡ o
  unfolding value_at line_of behind
  row_said h = sym (ap (λ u. found (found (first_line u) (value_of key)) allowed) at) ∙ h

  pub row_value : {v : List ℕ} {o : Option A} → value_at 1 key rest ≡ Some v → allowed v ≡ o → found (value_at (suc n) key s) allowed ≡ o
  row_value h e = row_said (ap (λ v. found v allowed) h ∙ e)

  pub row_missing : value_at 1 key rest ≡ None → found (value_at (suc n) key s) allowed ≡ None
  row_missing h = row_said (ap (λ v. found v allowed) h)

pub row_next : (s : List ℕ) (n : ℕ) {rest next : List ℕ} → rest ≡ behind n s → next ≡ behind_first rest → next ≡ behind (suc n) s
unfolding behind
row_next s n at h = h ∙ ap behind_first at

pub row_first : (s : List ℕ) → s ≡ behind 0 s
unfolding behind
row_first s = refl

-- ---- one line after the other

-- a line that is right hands its value on, any other is the answer
pub goes_on : {A : Type 0} (n : ℕ) (o : Option A) {a : A} (f : A → CardRead) → o ≡ Some a → (judged n o >>= f) ≡ f a
goes_on n o f e = rw e

pub stops : {A : Type 0} (n : ℕ) (o : Option A) (f : A → CardRead) → o ≡ None → (judged n o >>= f) ≡ BadAt n
stops n o f e = rw e

-- what the answer is once the lines up to n are right, by the card that the lines behind make
abbrev pub past_7 : List ℕ → Card → CardRead
past_7 s card = Whole card (lines_length 7 s)

abbrev pub past_6 : List ℕ → (ℕ → Card) → CardRead
past_6 s card = line s 7 "quads" (number_in quads_allowed) >>= λ quads. past_7 s (card quads)

abbrev pub past_5 : List ℕ → (ℕ → ℕ → Card) → CardRead
past_5 s card = line s 6 "stack" (number_in stack_allowed) >>= λ stack. past_6 s (card stack)

abbrev pub past_4 : List ℕ → (ℕ → ℕ → ℕ → Card) → CardRead
past_4 s card = line s 5 "consts" (number_in consts_allowed) >>= λ consts. past_5 s (card consts)

abbrev pub past_3 : List ℕ → ℕ → (ℕ → ℕ → ℕ → ℕ → Card) → CardRead
past_3 s gprs card = line s 4 "temps" (number_in (temps_allowed gprs)) >>= λ temps. past_4 s (card temps)

abbrev pub past_2 : List ℕ → (ℕ → ℕ → ℕ → ℕ → ℕ → Card) → CardRead
past_2 s card = line s 3 "gprs" (number_in gprs_allowed) >>= λ gprs. past_3 s gprs (card gprs)

abbrev pub past_1 : List ℕ → (Build → ℕ → ℕ → ℕ → ℕ → ℕ → Card) → CardRead
past_1 s card = line s 2 "build" (word_in builds) >>= λ build. past_2 s (card build)

abbrev pub past_0 : List ℕ → CardRead
past_0 s = line s 1 "kind" (word_in kinds) >>= λ kind. past_1 s (card_with kind)

pub card_lines_lem : (s : List ℕ) → card_of s ≡ past_0 s
unfolding card_of
card_lines_lem s = refl

-- ---- temps: a number that is allowed by itself, and then with gprs

also : (a b : ℕ → Bool) (t : List ℕ) → number_in (λ n. a n && b n) t ≡ found (number_in a t) (λ n. cond (b n) (Some n) None)
unfolding number_in
also a b t = by_number (number_of t)
  where
    by_test_lem : (x : Bool) (n : ℕ) → cond (x && b n) (Some n) None ≡ found (cond x (Some n) None) (λ m. cond (b m) (Some m) None)
    by_test_lem true n = refl
    by_test_lem false n = refl

    by_number : (o : Option ℕ) → found o (λ n. cond (a n && b n) (Some n) None) ≡ found (found o (λ n. cond (a n) (Some n) None)) (λ n. cond (b n) (Some n) None)
    by_number None = refl
    by_number (Some n) = by_test_lem (a n) n

module _ (v : Option (List ℕ)) (a b : ℕ → Bool) where
  also_found : found v (number_in (λ n. a n && b n)) ≡ found (found v (number_in a)) (λ n. cond (b n) (Some n) None)
  also_found = by v
    where
      by : (o : Option (List ℕ)) → found o (number_in (λ n. a n && b n)) ≡ found (found o (number_in a)) (λ n. cond (b n) (Some n) None)
      by None = refl
      by (Some t) = also a b t

  pub alone_wrong : found v (number_in a) ≡ None → found v (number_in (λ n. a n && b n)) ≡ None
  alone_wrong e = also_found ∙ rw e

  pub together_wrong : {n : ℕ} → found v (number_in a) ≡ Some n → b n ≡ false → found v (number_in (λ n. a n && b n)) ≡ None
  together_wrong e h = also_found ∙ rw (e, h)

  pub together_right : {n : ℕ} → found v (number_in a) ≡ Some n → b n ≡ true → found v (number_in (λ n. a n && b n)) ≡ Some n
  together_right e h = also_found ∙ rw (e, h)

-- ---- a card that a caller makes, line by line

-- the tests from line n on
abbrev pub tests_8 : Card → List (ℕ × Bool)
tests_8 card = []

abbrev pub tests_7 : Card → List (ℕ × Bool)
tests_7 card = (7, quads_allowed card.quads.0) ∷ tests_8 card

abbrev pub tests_6 : Card → List (ℕ × Bool)
tests_6 card = (6, stack_allowed card.stack) ∷ tests_7 card

abbrev pub tests_5 : Card → List (ℕ × Bool)
tests_5 card = (5, consts_allowed card.consts) ∷ tests_6 card

abbrev pub tests_4 : Card → List (ℕ × Bool)
tests_4 card = (4, temps_allowed card.gprs card.temps) ∷ tests_5 card

abbrev pub tests_3 : Card → List (ℕ × Bool)
tests_3 card = (3, gprs_allowed card.gprs) ∷ tests_4 card

pub card_tests : (card : Card) → test_of card ≡ first_not (tests_3 card)
unfolding test_of
card_tests card = refl

-- a line that is in range leaves the lines behind it, any other is the answer
module _ (card : Card) where
  pub holds_3 : gprs_allowed card.gprs ≡ true → first_not (tests_3 card) ≡ first_not (tests_4 card)
  holds_3 e = rw e

  pub fails_3 : gprs_allowed card.gprs ≡ false → first_not (tests_3 card) ≡ BadAt 3
  fails_3 e = rw e

  pub holds_4 : temps_allowed card.gprs card.temps ≡ true → first_not (tests_4 card) ≡ first_not (tests_5 card)
  holds_4 e = rw e

  pub fails_4 : temps_allowed card.gprs card.temps ≡ false → first_not (tests_4 card) ≡ BadAt 4
  fails_4 e = rw e

  pub holds_5 : consts_allowed card.consts ≡ true → first_not (tests_5 card) ≡ first_not (tests_6 card)
  holds_5 e = rw e

  pub fails_5 : consts_allowed card.consts ≡ false → first_not (tests_5 card) ≡ BadAt 5
  fails_5 e = rw e

  pub holds_6 : stack_allowed card.stack ≡ true → first_not (tests_6 card) ≡ first_not (tests_7 card)
  holds_6 e = rw e

  pub fails_6 : stack_allowed card.stack ≡ false → first_not (tests_6 card) ≡ BadAt 6
  fails_6 e = rw e

  pub holds_7 : quads_allowed card.quads.0 ≡ true → first_not (tests_7 card) ≡ first_not (tests_8 card)
  holds_7 e = rw e

  pub fails_7 : quads_allowed card.quads.0 ≡ false → first_not (tests_7 card) ≡ BadAt 7
  fails_7 e = rw e
