-- The bytes of a whole card are exactly the text of that card, and the text of a card in range is read as the card. Assumes nothing.
use mathlib.Core.Path.{◌≡◌, refl, ap, sym, ◌∙◌}
use mathlib.Core.Bool.{Bool, true, false, cond, not}
use mathlib.Core.List.{List, [], ◌∷◌, ◌++◌, append_assoc}
use Rattle.std.specs.Prelude.{Option, Some, option_map}
use Rattle.std.proofs.lemmas.Option.{none-some, same_Some}
use Rattle.card.proofs.OfFound.{mapped_some}
use Prim.Native.Nat.{ℕ, pred}
use Prim.Native.String.{String}
use native.Mathlib.Omega.{arith}
use borrow.Author.Tests.{eq-eqb, eqb-true, not-true}
use lib.Dec.{eqb}
use lib.ListN.{length, drop, length-append}
use lib.Seq.{drop-append_seam}
use Rattle.laws.proofs.OfTests.{both, both_hold}
use Rattle.card.specs.Text.{text, found, line_feed, first_line, behind_first, behind, line_of, begins_with, same_as, value_of, value_at, word_in, number_in}
use Rattle.card.specs.Card.{line_says, kinds, builds, gprs_allowed, temps_allowed, consts_allowed, stack_allowed, quads_allowed, card_of}
use Rattle.card.specs.Made.{test_of}
use Rattle.ascii.specs.Code.{feedless}
use Rattle.ascii.proofs.OfFeeds.{feedless_joined, feedless_decimal}
use Rattle.ascii.specs.Decimal.{decimal}
use Rattle.card.specs.Written.{kind_word, build_word, row, written}
use Rattle.card.specs.declared.Kind.{Kind}
use Rattle.card.specs.declared.Kind.TheVariants.{Pixel, Vertex, Geometry}
use Rattle.card.specs.declared.Build.{Build}
use Rattle.card.specs.declared.Build.TheVariants.{Production, Debug}
use Rattle.card.specs.declared.Card.{Card}
use Rattle.card.specs.Card.{Whole}
use Rattle.card.specs.Made.{InRange}
use Rattle.card.proofs.OfFound.{found_some, tested_some, number_some}
use Rattle.card.proofs.OfLines.{lines_place}
use Rattle.card.proofs.OfKeys.{begins_text, same_text, behind_joined}
use Rattle.card.proofs.OfDecimals.{decimal_read, number_text}
use Rattle.card.proofs.OfCard.{whole_says, says_whole, range_tests, whole_behind}

-- ---- a line and its line feed

first_of : (l r : List ℕ) → feedless l ≡ true → first_line (l ++ (line_feed ∷ r)) ≡ Some l
unfolding first_line
first_of [] r h = refl
first_of (b ∷ l) r h =
    let w = both (not (eqb b line_feed)) (feedless l) h in
    rw (not-true (eqb b line_feed) w.0, first_of l r w.1)

behind_of : (l r : List ℕ) → feedless l ≡ true → behind_first (l ++ (line_feed ∷ r)) ≡ r
unfolding behind_first
behind_of l r h = behind_joined l (line_feed ∷ r) h

-- a text that has a first line is that line, a line feed and the rest
line_text : (t l : List ℕ) → first_line t ≡ Some l → t ≡ l ++ (line_feed ∷ behind_first t)
unfolding first_line behind_first
line_text [] l h = absurd (none-some l h)
line_text (b ∷ t) l h = by (eqb b line_feed) refl h (line_text t)
  where
    by : (x : Bool) → eqb b line_feed ≡ x → ◌≡◌ {A = Option (List ℕ)} (cond x (Some []) (option_map (λ m. b ∷ m) (first_line t))) (Some l)
        → ((m : List ℕ) → first_line t ≡ Some m → t ≡ m ++ (line_feed ∷ behind_first t)) → b ∷ t ≡ l ++ (line_feed ∷ cond x t (behind_first t))
    by true e h f =
        ap (λ (n : ℕ). n ∷ t) (eqb-true b line_feed e) ∙ ap (λ (u : List ℕ). u ++ (line_feed ∷ t)) (same_Some [] l h)
    by false e h f =
        let m = mapped_some (λ (m : List ℕ). b ∷ m) (first_line t) h in
        ap (λ (u : List ℕ). b ∷ u) (f m.0 m.1) ∙ ap (λ (u : List ℕ). u ++ (line_feed ∷ behind_first t)) m.2

-- ---- a key and its value

pub begins_own : (key v : List ℕ) → begins_with key (key ++ v) ≡ true
unfolding begins_with
begins_own [] v = refl
begins_own (k ∷ key) v = both_hold (eqb k k) (begins_with key (key ++ v)) (eq-eqb k k refl) (begins_own key v)

value_text : (key l v : List ℕ) → value_of key l ≡ Some v → l ≡ key ++ v
unfolding value_of
value_text key l v h =
    let w = tested_some (begins_with key l) h in
    begins_text key l w.0 ∙ ap (λ (u : List ℕ). key ++ u) w.1

value_own : (key v : List ℕ) → value_of key (key ++ v) ≡ Some v
unfolding value_of
value_own key v = rw (begins_own key v, drop-append_seam key v)

-- ---- one row

module _ (s : List ℕ) (n k : ℕ) (at : pred n ≡ k) (key v : List ℕ) where
  -- a row that is read is key, value and line feed, and then what stands behind it
  row_text : value_at n key s ≡ Some v → behind k s ≡ key ++ v ++ (line_feed ∷ behind_first (behind k s))
  unfolding value_at line_of
  row_text h =
      let w = found_some (first_line (behind k s)) (value_of key) (ap (λ (i : ℕ). found (first_line (behind i s)) (value_of key)) (sym at) ∙ h) in
      line_text (behind k s) w.0 w.1 ∙ ap (λ (u : List ℕ). u ++ (line_feed ∷ behind_first (behind k s))) (value_text key w.0 v w.2)

  -- and the other way round
  module _ (r : List ℕ) (h : behind k s ≡ key ++ v ++ (line_feed ∷ r)) (f : feedless key ≡ true) (g : feedless v ≡ true) where
    row_read : value_at n key s ≡ Some v
    unfolding value_at line_of
    row_read =
        ap (λ (i : ℕ). found (first_line (behind i s)) (value_of key)) at
        ∙ ap (λ (u : List ℕ). found (first_line u) (value_of key)) h
        ∙ ap (λ (o : Option (List ℕ)). found o (value_of key)) (first_of (key ++ v) r (feedless_joined key v f g))
        ∙ value_own key v

    row-behind : behind_first (behind k s) ≡ r
    row-behind = ap behind_first h ∙ behind_of (key ++ v) r (feedless_joined key v f g)

-- ---- the values

-- each word of the list is the name of what it stands for
abbrev Named : {A : Type 0} → (A → String) → List (String × A) → Type 0
Named name [] = Unit {0}
Named name (w ∷ ws) = (text w.0 ≡ text (name w.1)) × Named name ws

word_text : {A : Type 0} (name : A → String) (ws : List (String × A)) → Named name ws → (v : List ℕ) {a : A} → word_in ws v ≡ Some a → v ≡ text (name a)
unfolding word_in
word_text name [] n v {a} h = absurd (none-some a h)
word_text name (w ∷ ws) n v {a} h = by (same_as v (text w.0)) refl h (word_text name ws n.1 v)
  where
    by : (x : Bool) → same_as v (text w.0) ≡ x → cond x (Some w.1) (word_in ws v) ≡ Some a → (word_in ws v ≡ Some a → v ≡ text (name a)) → v ≡ text (name a)
    by true e h f =
        let q : w.1 ≡ a = cc in
        same_text v (text w.0) e ∙ n.0 ∙ ap (λ b. text (name b)) q
    by false e h f = f h

abbrev kind_text : Kind → List ℕ
kind_text k = text (kind_word k)

kind_is_text : (v : List ℕ) (k : Kind) → word_in kinds v ≡ Some k → v ≡ kind_text k
kind_is_text v k e = word_text kind_word kinds (refl, (refl, (refl, tt))) v e

kind_read_lem : (k : Kind) → word_in kinds (kind_text k) ≡ Some k
unfolding word_in same_as
kind_read_lem Pixel = refl
kind_read_lem Vertex = refl
kind_read_lem Geometry = refl

kind_feedless : (k : Kind) → feedless (kind_text k) ≡ true
kind_feedless Pixel = refl
kind_feedless Vertex = refl
kind_feedless Geometry = refl

abbrev build_text_lem : Build → List ℕ
build_text_lem b = text (build_word b)

build_is_text : (v : List ℕ) (b : Build) → word_in builds v ≡ Some b → v ≡ build_text_lem b
build_is_text v b e = word_text build_word builds (refl, (refl, tt)) v e

build_read_lem : (b : Build) → word_in builds (build_text_lem b) ≡ Some b
unfolding word_in same_as
build_read_lem Production = refl
build_read_lem Debug = refl

build_feedless : (b : Build) → feedless (build_text_lem b) ≡ true
build_feedless Production = refl
build_feedless Debug = refl

allowed_text : (allowed : ℕ → Bool) (v : List ℕ) (n : ℕ) → number_in allowed v ≡ Some n → v ≡ decimal n
allowed_text allowed v n h = number_text v n (number_some allowed v h).0

pub allowed_read : (allowed : ℕ → Bool) (n : ℕ) → allowed n ≡ true → number_in allowed (decimal n) ≡ Some n
unfolding number_in
allowed_read allowed n h = rw (decimal_read n, h)

-- ---- the seven rows

-- a row with what stands behind it
row_join : (key : String) (v r : List ℕ) → row key v ++ r ≡ (text key ++ text "=") ++ v ++ (line_feed ∷ r)
row_join key v r = append_assoc (text key ++ text "=" ++ v) (text "\n") r

seven_join : (a b c d e f g r : List ℕ) → a ++ b ++ c ++ d ++ e ++ f ++ g ++ r ≡ a ++ (b ++ (c ++ (d ++ (e ++ (f ++ (g ++ r))))))
seven_join a b c d e f g r = simp append_assoc

-- what line n says, as a row of the text
module _ {A : Type 0} (s : List ℕ) (n k : ℕ) (at : pred n ≡ k) (key : String) (allowed : List ℕ → Option A) (name : A → List ℕ) where
  says_row : ((v : List ℕ) (a : A) → allowed v ≡ Some a → v ≡ name a) → (a : A) → line_says s n key allowed ≡ Some a → behind k s ≡ row key (name a) ++ behind_first (behind k s)
  says_row f a h =
      let v = found_some (value_at n (text key ++ text "=") s) allowed h in
      row_text s n k at (text key ++ text "=") v.0 v.1
      ∙ ap (λ (u : List ℕ). (text key ++ text "=") ++ u ++ (line_feed ∷ behind_first (behind k s))) (f v.0 a v.2)
      ∙ sym (row_join key (name a) (behind_first (behind k s)))

  module _ (a : A) (r : List ℕ) (h : behind k s ≡ row key (name a) ++ r) (f : feedless (text key ++ text "=") ≡ true) (g : feedless (name a) ≡ true) where
    row-says : allowed (name a) ≡ Some a → line_says s n key allowed ≡ Some a
    row-says e =
        ap (λ (o : Option (List ℕ)). found o allowed) (row_read s n k at (text key ++ text "=") (name a) r (h ∙ row_join key (name a) r) f g)
        ∙ e

    row-rest : behind_first (behind k s) ≡ r
    row-rest = row-behind s n k at (text key ++ text "=") (name a) r (h ∙ row_join key (name a) r) f g

-- ---- the card

module _ (card : Card) where
  -- the text from line n on, and then r
  abbrev from_8 : List ℕ → List ℕ
  from_8 r = r

  abbrev from_7 : List ℕ → List ℕ
  from_7 r = row "quads" (decimal card.quads.0) ++ from_8 r

  abbrev from_6 : List ℕ → List ℕ
  from_6 r = row "stack" (decimal card.stack) ++ from_7 r

  abbrev from_5 : List ℕ → List ℕ
  from_5 r = row "consts" (decimal card.consts) ++ from_6 r

  abbrev from_4 : List ℕ → List ℕ
  from_4 r = row "temps" (decimal card.temps) ++ from_5 r

  abbrev from_3 : List ℕ → List ℕ
  from_3 r = row "gprs" (decimal card.gprs) ++ from_4 r

  abbrev from_2 : List ℕ → List ℕ
  from_2 r = row "build" (build_text_lem card.build) ++ from_3 r

  abbrev from_1 : List ℕ → List ℕ
  from_1 r = row "kind" (kind_text card.kind) ++ from_2 r

  written_rows : (r : List ℕ) → written card ++ r ≡ from_1 r
  unfolding written
  written_rows r =
      seven_join
      (row "kind" (kind_text card.kind))
      (row "build" (build_text_lem card.build))
      (row "gprs" (decimal card.gprs))
      (row "temps" (decimal card.temps))
      (row "consts" (decimal card.consts))
      (row "stack" (decimal card.stack))
      (row "quads" (decimal card.quads.0))
      r

-- the bytes of a whole card are exactly its text: no card has two texts, and no text is two cards
pub read_written : (s : List ℕ) (card : Card) (n : ℕ) → card_of s ≡ Whole card n → s ≡ written card ++ drop n s
unfolding behind
read_written s card n h =
    let w = whole_says s card n h in
    let pack = drop n s in
    let b8 : behind 7 s ≡ pack = sym (whole_behind s card n h) in
    let b7 : behind 6 s ≡ from_7 card pack =
    says_row s 7 6 refl "quads" (number_in quads_allowed) decimal (allowed_text quads_allowed) card.quads.0 w.quads_line
    ∙ ap (λ (r : List ℕ). row "quads" (decimal card.quads.0) ++ r) b8 in
    let b6 : behind 5 s ≡ from_6 card pack =
    says_row s 6 5 refl "stack" (number_in stack_allowed) decimal (allowed_text stack_allowed) card.stack w.stack_line
    ∙ ap (λ (r : List ℕ). row "stack" (decimal card.stack) ++ r) b7 in
    let b5 : behind 4 s ≡ from_5 card pack =
    says_row s 5 4 refl "consts" (number_in consts_allowed) decimal (allowed_text consts_allowed) card.consts w.consts_line
    ∙ ap (λ (r : List ℕ). row "consts" (decimal card.consts) ++ r) b6 in
    let b4 : behind 3 s ≡ from_4 card pack =
    says_row s 4 3 refl "temps" (number_in (temps_allowed card.gprs)) decimal (allowed_text (temps_allowed card.gprs)) card.temps w.temps_line
    ∙ ap (λ (r : List ℕ). row "temps" (decimal card.temps) ++ r) b5 in
    let b3 : behind 2 s ≡ from_3 card pack =
    says_row s 3 2 refl "gprs" (number_in gprs_allowed) decimal (allowed_text gprs_allowed) card.gprs w.gprs_line
    ∙ ap (λ (r : List ℕ). row "gprs" (decimal card.gprs) ++ r) b4 in
    let b2 : behind 1 s ≡ from_2 card pack =
    says_row s 2 1 refl "build" (word_in builds) build_text_lem build_is_text card.build w.build_line
    ∙ ap (λ (r : List ℕ). row "build" (build_text_lem card.build) ++ r) b3 in
    let b1 : behind 0 s ≡ from_1 card pack =
    says_row s 1 0 refl "kind" (word_in kinds) kind_text kind_is_text card.kind w.kind_line
    ∙ ap (λ (r : List ℕ). row "kind" (kind_text card.kind) ++ r) b2 in
    b1 ∙ sym (written_rows card pack)

-- a card that passes the test is read from its text, whatever stands behind
pub written_read : (card : Card) (pack : List ℕ) → test_of card ≡ InRange → card_of (written card ++ pack) ≡ Whole card (length (written card))
unfolding behind
written_read card pack h =
    let s = written card ++ pack in
    let t = range_tests card h in
    let b1 : behind 0 s ≡ from_1 card pack = written_rows card pack in
    let b2 : behind 1 s ≡ from_2 card pack =
    row-rest s 1 0 refl "kind" (word_in kinds) kind_text card.kind (from_2 card pack) b1 refl (kind_feedless card.kind) in
    let b3 : behind 2 s ≡ from_3 card pack =
    row-rest s 2 1 refl "build" (word_in builds) build_text_lem card.build (from_3 card pack) b2 refl (build_feedless card.build) in
    let b4 : behind 3 s ≡ from_4 card pack =
    row-rest s 3 2 refl "gprs" (number_in gprs_allowed) decimal card.gprs (from_4 card pack) b3 refl (feedless_decimal card.gprs) in
    let b5 : behind 4 s ≡ from_5 card pack =
    row-rest s 4 3 refl "temps" (number_in (temps_allowed card.gprs)) decimal card.temps (from_5 card pack) b4 refl (feedless_decimal card.temps) in
    let b6 : behind 5 s ≡ from_6 card pack =
    row-rest s 5 4 refl "consts" (number_in consts_allowed) decimal card.consts (from_6 card pack) b5 refl (feedless_decimal card.consts) in
    let b7 : behind 6 s ≡ from_7 card pack =
    row-rest s 6 5 refl "stack" (number_in stack_allowed) decimal card.stack (from_7 card pack) b6 refl (feedless_decimal card.stack) in
    let b8 : behind 7 s ≡ from_8 card pack =
    row-rest s 7 6 refl "quads" (number_in quads_allowed) decimal card.quads.0 (from_8 card pack) b7 refl (feedless_decimal card.quads.0) in
    says_whole s card (length (written card))
    (record {
      kind_line =
          row-says s 1 0 refl "kind" (word_in kinds) kind_text card.kind (from_2 card pack) b1 refl (kind_feedless card.kind) (kind_read_lem card.kind);
      build_line =
          row-says s 2 1 refl "build" (word_in builds) build_text_lem card.build (from_3 card pack) b2 refl (build_feedless card.build) (build_read_lem card.build);
      gprs_line =
          row-says s 3 2 refl "gprs" (number_in gprs_allowed) decimal card.gprs (from_4 card pack) b3 refl (feedless_decimal card.gprs) (allowed_read gprs_allowed card.gprs t.0);
      temps_line =
          row-says s 4 3 refl "temps" (number_in (temps_allowed card.gprs)) decimal card.temps (from_5 card pack) b4 refl (feedless_decimal card.temps) (allowed_read (temps_allowed card.gprs) card.temps t.1);
      consts_line =
          row-says s 5 4 refl "consts" (number_in consts_allowed) decimal card.consts (from_6 card pack) b5 refl (feedless_decimal card.consts) (allowed_read consts_allowed card.consts t.2);
      stack_line =
          row-says s 6 5 refl "stack" (number_in stack_allowed) decimal card.stack (from_7 card pack) b6 refl (feedless_decimal card.stack) (allowed_read stack_allowed card.stack t.3);
      quads_line =
          row-says s 7 6 refl "quads" (number_in quads_allowed) decimal card.quads.0 (from_8 card pack) b7 refl (feedless_decimal card.quads.0) (allowed_read quads_allowed card.quads.0 t.4);
      taken =
          lines_place 7 (length (written card)) s (omega (arith, length-append (written card) pack))
          (drop-append_seam (written card) pack ∙ sym b8);
    })
