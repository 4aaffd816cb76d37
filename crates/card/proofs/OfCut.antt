-- How much of the bytes a card needs: the longest card has 73 bytes, so a card is read the same from the first 73. Line by line: a
-- line that is right is short, and one that is cut is wrong. Assumes nothing.
use mathlib.Core.Path.{◌≡◌, refl, ap, sym, ◌∙◌}
use mathlib.Core.Bool.{Bool, true, false, cond}
use mathlib.Core.List.{List, [], ◌∷◌, ◌++◌}
use Rattle.std.specs.Prelude.{Option, None, Some}
use Rattle.std.proofs.lemmas.Option.{none-some, same_Some}
use Rattle.card.proofs.OfFound.{mapped_some}
use Prim.Native.Nat.{ℕ, zero, suc, pred, ◌+◌, ◌-◌, ◌^◌, ◌≤◌, ◌<◌}
use Prim.Native.String.{String}
use native.Mathlib.Omega.{arith}
use borrow.Author.Tests.{lt-ltb, le-ltb, ltb-true, ltb-false}
use lib.Dec.{eqb, leb, ltb}
use lib.ListN.{length, take, drop, length-drop, length-take}
use lib.Seq.{take-nil, drop-drop}
use Rattle.laws.proofs.OfTests.{both}
use Rattle.ascii.proofs.OfDecimal.{fewer_digits}
use Rattle.card.specs.Text.{text, found, line_feed, first_line, behind_first, behind, line_of, lines_length, same_as, value_of, begins_with, value_at, word_in, number_in, from◌to◌}
use Rattle.card.specs.Card.{line_says, kinds, builds, gprs_allowed, temps_allowed, consts_allowed, stack_allowed, quads_allowed, judged, ◌>>=◌, card_with, card_of}
use Rattle.card.specs.declared.Card.{Card}
use Rattle.card.specs.Card.{CardRead}
use Rattle.card.specs.Card.{Whole}
use Rattle.card.proofs.OfFound.{found_some, tested_some, number_some}
use Rattle.card.proofs.OfLines.{lines_place}
use Rattle.card.proofs.OfKeys.{same_text}
use Rattle.card.proofs.OfRows.{card_lines_lem}
use Rattle.card.proofs.OfDecimals.{number_text}
use Rattle.card.proofs.OfCard.{ranged, whole_length}
use Rattle.card.proofs.OfBehind.{before}

-- ---- the first line of the first bytes

-- the first line of the first m bytes is the first line, or none where that is cut
abbrev cut : ℕ → Option (List ℕ) → Option (List ℕ)
cut m None = None
cut m (Some l) = cond (ltb (length l) m) (Some l) None

cut_before : (m b : ℕ) (o : Option (List ℕ)) → before b (cut m o) ≡ cut (suc m) (before b o)
cut_before m b None = refl
cut_before m b (Some l) = by (ltb (length l) m) refl
  where
    by : (x : Bool) → ltb (length l) m ≡ x
        → before b (cond x (Some l) None) ≡ cond (ltb (suc (length l)) (suc m)) (Some (b ∷ l)) None
    by true e = rw (lt-ltb (suc (length l)) (suc m) (omega (arith, ltb-true (length l) m e)))
    by false e = rw (le-ltb (suc (length l)) (suc m) (omega (arith, ltb-false (length l) m e)))

first_cut : (m : ℕ) (u : List ℕ) → first_line (take m u) ≡ cut m (first_line u)
unfolding first_line
first_cut zero u = by (first_line u)
  where
    by : (o : Option (List ℕ)) → None ≡ cut 0 o
    by None = refl
    by (Some l) = rw (le-ltb (length l) 0 (omega arith))
first_cut (suc m) [] = refl
first_cut (suc m) (b ∷ u) = by (eqb b line_feed) (first_cut m u)
  where
    by : (x : Bool) → first_line (take m u) ≡ cut m (first_line u)
        → cond x (Some []) (before b (first_line (take m u))) ≡ cut (suc m) (cond x (Some []) (before b (first_line u)))
    by true f = rw (lt-ltb 0 (suc m) (omega arith))
    by false f = ap (before b) f ∙ cut_before m b (first_line u)

-- a line with its line feed is a part of the bytes, and the rest stands behind it
line_part : (u l : List ℕ) → first_line u ≡ Some l → (suc (length l) ≤ length u) × (behind_first u ≡ drop (suc (length l)) u)
unfolding first_line behind_first
line_part [] l h = absurd (none-some l h)
line_part (b ∷ u) l h = by (eqb b line_feed) h (line_part u)
  where
    by : (x : Bool) → ◌≡◌ {A = Option (List ℕ)} (cond x (Some []) (before b (first_line u))) (Some l)
        → ((r : List ℕ) → first_line u ≡ Some r → (suc (length r) ≤ length u) × (behind_first u ≡ drop (suc (length r)) u))
        → (suc (length l) ≤ suc (length u)) × (cond x u (behind_first u) ≡ drop (length l) u)
    by true h f =
        let q : [] ≡ l = same_Some [] l h in
        (omega (arith, ap length q), ap (λ (x : List ℕ). drop (length x) u) q)
    by false h f =
        let m = mapped_some (λ (r : List ℕ). b ∷ r) (first_line u) h in
        let w = f m.0 m.1 in
        (omega (arith, w.0, ap length m.2), w.1 ∙ ap (λ (x : List ℕ). drop (length x) u) m.2)

-- ---- a line that is right is short

-- what a line says, by its key with the equals sign
abbrev says : {A : Type 0} → List ℕ → (List ℕ → Option A) → Option (List ℕ) → Option A
says key allowed o = found (found o (value_of key)) allowed

-- with its key, no value that is allowed takes more than so many bytes
abbrev Short : {A : Type 0} → List ℕ → (List ℕ → Option A) → ℕ → Type 0
Short {A} key allowed most = (v : List ℕ) (a : A) → allowed v ≡ Some a → length key + length v ≤ most

module _ {A : Type 0} (key : List ℕ) (allowed : List ℕ → Option A) (most : ℕ) (bound : Short key allowed most) where
  said_short : (l : List ℕ) (a : A) → says key allowed (Some l) ≡ Some a → length l ≤ most
  unfolding value_of
  said_short l a h =
      let v = found_some (value_of key l) allowed h in
      let t = tested_some (begins_with key l) v.1 in
      omega (arith, bound v.0 a v.2, ap length t.1, length-drop (length key) l)

  -- so a cut does not change what it says
  says_cut : (m : ℕ) → most < m → (o : Option (List ℕ)) → says key allowed (cut m o) ≡ says key allowed o
  says_cut m h None = refl
  says_cut m h (Some l) = by (ltb (length l) m) refl
    where
      by_said : m ≤ length l → (r : Option A) → says key allowed (Some l) ≡ r → None ≡ r
      by_said k None e = refl
      by_said k (Some a) e = absurd (omega (arith, said_short l a e))

      by : (x : Bool) → ltb (length l) m ≡ x → says key allowed (cond x (Some l) None) ≡ says key allowed (Some l)
      by true e = refl
      by false e = by_said (ltb-false (length l) m e) (says key allowed (Some l)) refl

-- ---- what a line allows is short

-- a word is at most as long as the longest of its list
abbrev Within : {A : Type 0} → ℕ → List (String × A) → Type 0
Within most [] = Unit {0}
Within most (w ∷ ws) = (length (text w.0) ≤ most) × Within most ws

word_short : {A : Type 0} (most : ℕ) (ws : List (String × A)) → Within most ws → (v : List ℕ) (a : A) → word_in ws v ≡ Some a
    → length v ≤ most
unfolding word_in
word_short most [] w v a h = absurd (none-some a h)
word_short most (x ∷ ws) w v a h = by (same_as v (text x.0)) refl h (word_short most ws w.1 v a)
  where
    by : (t : Bool) → same_as v (text x.0) ≡ t → cond t (Some x.1) (word_in ws v) ≡ Some a
        → (word_in ws v ≡ Some a → length v ≤ most) → length v ≤ most
    by true e h f = omega (arith, ap length (same_text v (text x.0) e), w.0)
    by false e h f = f h

-- a number below ten to the power d + 1 has at most d + 1 digits
number_short : (d : ℕ) (allowed : ℕ → Bool) → ((n : ℕ) → allowed n ≡ true → n < 10 ^ suc d) → (v : List ℕ) (n : ℕ)
    → number_in allowed v ≡ Some n → length v ≤ suc d
number_short d allowed f v n h =
    let w = number_some allowed v h in
    omega (arith, ap length (number_text v n w.0), fewer_digits d n (f n w.1))

figure_short : (low high d : ℕ) → high < 10 ^ suc d → (v : List ℕ) (n : ℕ) → number_in (from low to high) v ≡ Some n
    → length v ≤ suc d
figure_short low high d h = number_short d (from low to high) (λ n a. (omega (arith, ranged low high n a)))

-- ---- the lines of the first bytes

pub drop_take : (a n : ℕ) (u : List ℕ) → drop a (take n u) ≡ take (n - a) (drop a u)
drop_take zero n u = let e : n ≡ n - 0 = omega arith in ap (λ (i : ℕ). take i u) e
drop_take (suc a) zero u = let e : 0 ≡ 0 - suc a = omega arith in ap (λ (i : ℕ). take i (drop (suc a) u)) e
drop_take (suc a) (suc n) [] = sym (take-nil (suc n - suc a))
drop_take (suc a) (suc n) (b ∷ u) =
    let e : n - a ≡ suc n - suc a = omega arith in
    drop_take a n u ∙ ap (λ (i : ℕ). take i (drop a u)) e

-- k lines end at the same place in all bytes and in the first `all` of them, and at least `left` of these stand behind
record Reaches (s : List ℕ) (all left k : ℕ) : Type 0 where
  used : ℕ
  enough : left + used ≤ all
  within : used ≤ length s
  there : behind k s ≡ drop used s
  there_too : behind k (take all s) ≡ drop used (take all s)

module _ {A : Type 0} (s : List ℕ) (all left k n : ℕ) (at : pred n ≡ k) (key : String) (allowed : List ℕ → Option A) (most : ℕ)
    (bound : Short (text key ++ text "=") allowed most) (r : Reaches s all left k) (h : most < left) where
  abbrev rest : List ℕ
  rest = drop r.used s

  abbrev said : Option (List ℕ) → Option A
  said o = says (text key ++ text "=") allowed o

  said_rest : line_says s n key allowed ≡ said (first_line rest)
  unfolding value_at line_of
  said_rest = ap (λ (i : ℕ). said (first_line (behind i s))) at ∙ ap (λ (u : List ℕ). said (first_line u)) r.there

  rest_cut : behind k (take all s) ≡ take (all - r.used) rest
  rest_cut = r.there_too ∙ drop_take r.used all s

  first_rest : first_line (behind k (take all s)) ≡ cut (all - r.used) (first_line rest)
  first_rest = ap first_line rest_cut ∙ first_cut (all - r.used) rest

  line_same : line_says (take all s) n key allowed ≡ line_says s n key allowed
  unfolding value_at line_of
  line_same =
      ap (λ (i : ℕ). said (first_line (behind i (take all s)))) at
      ∙ ap said first_rest
      ∙ says_cut (text key ++ text "=") allowed most bound (all - r.used) (omega (arith, r.enough)) (first_line rest)
      ∙ sym said_rest

  line_next : (a : A) → line_says s n key allowed ≡ Some a → Reaches s all (left - suc most) (suc k)
  unfolding behind
  line_next a e =
      let v = found_some (found (first_line rest) (value_of (text key ++ text "="))) allowed (sym said_rest ∙ e) in
      let f = found_some (first_line rest) (value_of (text key ++ text "=")) v.1 in
      let l = f.0 in
      let said-it : said (Some l) ≡ Some a = ap (λ (o : Option (List ℕ)). found o allowed) f.2 ∙ v.2 in
      let short : length l ≤ most = said_short (text key ++ text "=") allowed most bound l a said-it in
      let w = line_part rest l f.1 in
      let uncut : cut (all - r.used) (Some l) ≡ Some l = rw (lt-ltb (length l) (all - r.used) (omega (arith, r.enough))) in
      let w' = line_part (behind k (take all s)) l (first_rest ∙ ap (cut (all - r.used)) f.1 ∙ uncut) in
      record {
        used = r.used + suc (length l);
        enough = omega (arith, r.enough);
        within = omega (arith, w.0, length-drop r.used s);
        there = ap behind_first r.there ∙ w.1 ∙ drop-drop (suc (length l)) r.used s;
        there_too = w'.1 ∙ ap (drop (suc (length l))) r.there_too ∙ drop-drop (suc (length l)) r.used (take all s);
      }

  -- two answers are the same up to this line, and so where the lines behind it answer the same
  line_answers : (f g : A → CardRead) → ((a : A) → Reaches s all (left - suc most) (suc k) → f a ≡ g a)
      → (judged n (line_says (take all s) n key allowed) >>= f) ≡ (judged n (line_says s n key allowed) >>= g)
  line_answers f g e = ap (λ o. judged n o >>= f) line_same ∙ by (line_says s n key allowed) refl
    where
      by : (o : Option A) → line_says s n key allowed ≡ o → (judged n o >>= f) ≡ (judged n o >>= g)
      by None h = refl
      by (Some a) h = e a (line_next a h)

-- ---- the card of the first bytes

taken_same : (s : List ℕ) (all : ℕ) → Reaches s all 0 7 → lines_length 7 (take all s) ≡ lines_length 7 s
taken_same s all r =
    sym (lines_place 7 r.used (take all s) (omega (arith, r.enough, r.within, length-take all s)) (sym r.there_too))
    ∙ lines_place 7 r.used s r.within (sym r.there)

-- each line with the longest value that it allows

kind_short : Short (text "kind=") (word_in kinds) 7
kind_short v a e = omega (arith, word_short 2 kinds (omega arith, (omega arith, (omega arith, tt))) v a e)

build_short : Short (text "build=") (word_in builds) 16
build_short v a e = omega (arith, word_short 10 builds (omega arith, (omega arith, tt)) v a e)

gprs_short : Short (text "gprs=") (number_in gprs_allowed) 8
gprs_short v a e = omega (arith, figure_short 1 128 2 (omega arith) v a e)

temps_short : (gprs : ℕ) → Short (text "temps=") (number_in (temps_allowed gprs)) 7
temps_short gprs v a e =
    let t = number_short 0 (temps_allowed gprs) (λ n b. (omega (arith, ranged 0 4 n (both ((from 0 to 4) n) (leb (gprs + n) 128) b).0))) v a e in
    omega arith

consts_short : Short (text "consts=") (number_in consts_allowed) 10
consts_short v a e = omega (arith, figure_short 0 256 2 (omega arith) v a e)

stack_short : Short (text "stack=") (number_in stack_allowed) 8
stack_short v a e = omega (arith, figure_short 0 32 1 (omega arith) v a e)

quads_short : Short (text "quads=") (number_in quads_allowed) 10
quads_short v a e = omega (arith, figure_short 1 8192 3 (omega arith) v a e)

-- the longest card has 73 bytes: a card is read the same from so many
pub card_cut : (s : List ℕ) (all : ℕ) → 73 ≤ all → card_of (take all s) ≡ card_of s
unfolding behind
card_cut s all h =
    let start : Reaches s all 73 0 = record { used = 0; enough = omega arith; within = omega arith; there = refl; there_too = refl } in
    card_lines_lem (take all s)
    ∙ line_answers s all 73 0 1 refl "kind" (word_in kinds) 7 kind_short start (omega arith) _ _
    (λ kind r. line_answers s all 65 1 2 refl "build" (word_in builds) 16 build_short r (omega arith) _ _
    (λ build r. line_answers s all 48 2 3 refl "gprs" (number_in gprs_allowed) 8 gprs_short r (omega arith) _ _
    (λ gprs r. line_answers s all 39 3 4 refl "temps" (number_in (temps_allowed gprs)) 7 (temps_short gprs) r (omega arith) _ _
    (λ temps r. line_answers s all 31 4 5 refl "consts" (number_in consts_allowed) 10 consts_short r (omega arith) _ _
    (λ consts r. line_answers s all 20 5 6 refl "stack" (number_in stack_allowed) 8 stack_short r (omega arith) _ _
    (λ stack r. line_answers s all 11 6 7 refl "quads" (number_in quads_allowed) 10 quads_short r (omega arith) _ _
    (λ quads r. ap (Whole (card_with kind build gprs temps consts stack quads)) (taken_same s all r))))))))
    ∙ sym (card_lines_lem s)

pub whole_short : (s : List ℕ) (card : Card) (n : ℕ) → card_of s ≡ Whole card n → n ≤ 73
whole_short s card n h = omega (arith, whole_length (take 73 s) card n (card_cut s 73 (omega arith) ∙ h), length-take 73 s)
