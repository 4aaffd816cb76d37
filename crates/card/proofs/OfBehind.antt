-- What stands behind seven lines changes nothing of the card: each line is read the same with more bytes behind it. Assumes nothing.
use mathlib.Core.Path.{◌≡◌, refl, ap, sym, ◌∙◌}
use mathlib.Core.Bool.{Bool, true, false, cond}
use mathlib.Core.List.{List, [], ◌∷◌, ◌++◌}
use Rattle.std.specs.Prelude.{Option, None, Some, option_map}
use Rattle.std.proofs.lemmas.Option.{none-some}
use Prim.Native.Nat.{ℕ, zero, suc}
use native.Mathlib.Omega.{arith}
use lib.Dec.{eqb}
use lib.ListN.{length, length-append}
use Rattle.card.specs.Text.{line_feed, found, first_line, behind_first, behind, line_of, lines_length, value_of, value_at, text, word_in, number_in}
use Rattle.card.specs.Card.{kinds, builds, gprs_allowed, temps_allowed, consts_allowed, stack_allowed, quads_allowed, judged, ◌>>=◌, card_with, card_of}
use Rattle.card.specs.Card.{CardRead}
use Rattle.card.specs.Card.{Whole}

-- ---- one line

-- with a byte before it
abbrev pub before : ℕ → Option (List ℕ) → Option (List ℕ)
before b o = option_map (λ t. b ∷ t) o

-- a line that is ended by its line feed is there with more behind it, and what stood behind it, too
abbrev Ahead : List ℕ → List ℕ → Type 0
Ahead s more = (first_line (s ++ more) ≡ first_line s) × (behind_first (s ++ more) ≡ behind_first s ++ more)

first_ahead : (s more l : List ℕ) → first_line s ≡ Some l → Ahead s more
unfolding first_line behind_first
first_ahead [] more l h = absurd (none-some l h)
first_ahead (b ∷ s) more l h = by (eqb b line_feed) h (first_line s) refl (λ t e. first_ahead s more t e)
  where
    by : (x : Bool) → ◌≡◌ {A = Option (List ℕ)} (cond x (Some []) (before b (first_line s))) (Some l)
        → (o : Option (List ℕ)) → first_line s ≡ o → ((t : List ℕ) → first_line s ≡ Some t → Ahead s more)
        → (◌≡◌ {A = Option (List ℕ)} (cond x (Some []) (before b (first_line (s ++ more)))) (cond x (Some []) (before b (first_line s))))
        × (cond x (s ++ more) (behind_first (s ++ more)) ≡ cond x s (behind_first s) ++ more)
    by true h o e f = (refl, refl)
    by false h None e f = absurd (none-some l (sym (ap (before b) e) ∙ h))
    by false h (Some t) e f =
        let w = f t e in
        (ap (before b) w.0, w.1)

-- nothing stands behind a line that is missing
missing_nothing : (s : List ℕ) → first_line s ≡ None → behind_first s ≡ []
unfolding first_line behind_first
missing_nothing [] h = refl
missing_nothing (b ∷ s) h = by (eqb b line_feed) h (first_line s) refl (missing_nothing s)
  where
    by : (x : Bool) → ◌≡◌ {A = Option (List ℕ)} (cond x (Some []) (before b (first_line s))) None
        → (o : Option (List ℕ)) → first_line s ≡ o → (first_line s ≡ None → behind_first s ≡ []) → cond x s (behind_first s) ≡ []
    by true h o e f = absurd (none-some [] (sym h))
    by false h None e f = f e
    by false h (Some t) e f = absurd (none-some (b ∷ t) (sym h ∙ ap (before b) e))

-- ---- line by line

-- a line is there where one behind it is
earlier : (s l : List ℕ) → first_line (behind_first s) ≡ Some l → (t : List ℕ) × (first_line s ≡ Some t)
unfolding first_line
earlier s l h = by (first_line s) refl
  where
    by : (o : Option (List ℕ)) → first_line s ≡ o → (t : List ℕ) × (first_line s ≡ Some t)
    by None e = absurd (none-some l (sym (ap first_line (missing_nothing s e)) ∙ h))
    by (Some t) e = (t, e)

-- with more bytes behind: what stands behind k lines, the line that begins there, and what stands behind that
abbrev Kept : List ℕ → List ℕ → ℕ → Type 0
Kept s more k =
    (behind k (s ++ more) ≡ behind k s ++ more) × (first_line (behind k (s ++ more)) ≡ first_line (behind k s))
    × (behind (suc k) (s ++ more) ≡ behind (suc k) s ++ more)

kept : (s more : List ℕ) (k : ℕ) (l : List ℕ) → first_line (behind k s) ≡ Some l → Kept s more k
unfolding behind
kept s more zero l h =
    let a = first_ahead s more l h in
    (refl, a.0, a.1)
kept s more (suc k) l h =
    let t = earlier (behind k s) l h in
    let e = (kept s more k t.0 t.1).2 in
    let a = first_ahead (behind (suc k) s) more l h in
    (e, ap first_line e ∙ a.0, ap behind_first e ∙ a.1)

-- ---- the card

-- the card of seven lines and of how many bytes they take
abbrev card_of_lines : (a b c d e f g : Option (List ℕ)) → ℕ → CardRead
card_of_lines a b c d e f g taken =
    judged 1 (found (found a (value_of (text "kind" ++ text "="))) (word_in kinds)) >>= λ kind.
    judged 2 (found (found b (value_of (text "build" ++ text "="))) (word_in builds)) >>= λ build.
    judged 3 (found (found c (value_of (text "gprs" ++ text "="))) (number_in gprs_allowed)) >>= λ gprs.
    judged 4 (found (found d (value_of (text "temps" ++ text "="))) (number_in (temps_allowed gprs))) >>= λ temps.
    judged 5 (found (found e (value_of (text "consts" ++ text "="))) (number_in consts_allowed)) >>= λ consts.
    judged 6 (found (found f (value_of (text "stack" ++ text "="))) (number_in stack_allowed)) >>= λ stack.
    judged 7 (found (found g (value_of (text "quads" ++ text "="))) (number_in quads_allowed)) >>= λ quads.
    Whole (card_with kind build gprs temps consts stack quads) taken

card_of_lines_lem : (s : List ℕ)
    → card_of s ≡ card_of_lines (first_line (behind 0 s)) (first_line (behind 1 s)) (first_line (behind 2 s)) (first_line (behind 3 s)) (first_line (behind 4 s)) (first_line (behind 5 s)) (first_line (behind 6 s)) (lines_length 7 s)
unfolding card_of value_at line_of first_line behind
card_of_lines_lem s = refl

-- a card is read the same with more behind its seventh line
pub card_ahead : (s more l : List ℕ) → line_of 7 s ≡ Some l → card_of (s ++ more) ≡ card_of s
unfolding line_of lines_length behind
card_ahead s more l h =
    let t5 = earlier (behind 5 s) l h in
    let t4 = earlier (behind 4 s) t5.0 t5.1 in
    let t3 = earlier (behind 3 s) t4.0 t4.1 in
    let t2 = earlier (behind 2 s) t3.0 t3.1 in
    let t1 = earlier (behind 1 s) t2.0 t2.1 in
    let t0 = earlier (behind 0 s) t1.0 t1.1 in
    let k = kept s more 6 l h in
    let taken : lines_length 7 (s ++ more) ≡ lines_length 7 s =
    omega (arith, length-append s more, ap length k.2, length-append (behind 7 s) more) in
    card_of_lines_lem (s ++ more)
    ∙ (λ i. card_of_lines ((kept s more 0 t0.0 t0.1).1 i) ((kept s more 1 t1.0 t1.1).1 i) ((kept s more 2 t2.0 t2.1).1 i) ((kept s more 3 t3.0 t3.1).1 i) ((kept s more 4 t4.0 t4.1).1 i) ((kept s more 5 t5.0 t5.1).1 i) (k.1 i) (taken i))
    ∙ sym (card_of_lines_lem s)
