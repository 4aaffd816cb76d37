-- Values that are not too long: no value that is right is longer, and of those no line feed stands behind the first bytes that the code reads. Assumes nothing.
use mathlib.Core.Path.{◌≡◌, refl, ap, sym, ◌∙◌}
use mathlib.Core.Bool.{Bool, true, false, cond, not, ◌&&◌, and-false}
use mathlib.Core.List.{List, [], ◌∷◌}
use Prim.Native.String.{String}
use Rattle.std.specs.Prelude.{Option, None, Some, ⊤}
use Rattle.std.proofs.lemmas.Option.{none-some, cond_some}
use Rattle.std.proofs.lemmas.List.{length-take, length-take-le}
use Prim.Native.Nat.{ℕ, zero, suc, ◌+◌, ◌^◌, ◌≤◌, ◌<◌}
use native.Mathlib.Nat.{pow-le-pow_right}
use native.Mathlib.Omega.{arith}
use borrow.Author.Tests.{lt-leb, leb-false, eqb-false, lt-ltb, ltb-true, ltb-false, not-true}
use lib.Dec.{eqb, leb, ltb}
use lib.ListN.{length, take}
use Rattle.laws.proofs.OfTests.{both, by_test_lem}
use Rattle.ascii.proofs.OfDecimal.{digit_bounds}
use Rattle.card.specs.Text.{text, found, line_feed, line_end, first_line, same_as, word_in, is_digit, all_digits, is_decimal, digits_value, number_of, number_in, from◌to◌}
use Rattle.card.specs.Code.{short}
use Rattle.card.specs.declared.lines.TheConstants.{LONGEST}
use Rattle.card.proofs.OfKeys.{same_text}
use Rattle.card.proofs.OfLines.{feed_at, feed_lem, first_end}
use Rattle.card.proofs.OfDecimals.{value_above}

-- ---- the first n bytes of a text

-- its line ends among them, or they are a part of it
end_taken : (n : ℕ) (t : List ℕ) → line_end t < n → line_end (take n t) ≡ line_end t
unfolding line_end
end_taken zero t h = omega (arith, h)
end_taken (suc n) [] h = refl
end_taken (suc n) (b ∷ t) h = by (eqb b line_feed) (end_taken n t) h
  where
    by : (x : Bool) → (line_end t < n → line_end (take n t) ≡ line_end t) → cond x 0 (suc (line_end t)) < suc n
        → cond x 0 (suc (line_end (take n t))) ≡ cond x 0 (suc (line_end t))
    by true w l = refl
    by false w l = ap suc (w (omega (arith, l)))

end_cut : (n : ℕ) (t : List ℕ) → n ≤ line_end t → line_end (take n t) ≡ length (take n t)
unfolding line_end
end_cut zero t h = refl
end_cut (suc n) [] h = refl
end_cut (suc n) (b ∷ t) h = by (eqb b line_feed) (end_cut n t) h
  where
    by : (x : Bool) → (n ≤ line_end t → line_end (take n t) ≡ length (take n t)) → suc n ≤ cond x 0 (suc (line_end t))
        → cond x 0 (suc (line_end (take n t))) ≡ suc (length (take n t))
    by true w l = omega (arith, l)
    by false w l = ap suc (w (omega (arith, l)))

-- ---- the line feed that the code finds, a byte behind the longest at most

module _ (t : List ℕ) where
  abbrev pub taken : List ℕ
  taken = take (LONGEST + 1) t

  -- is that of the line
  pub feed_found : (n : ℕ) → feed_at taken ≡ Some n → feed_at t ≡ Some n
  feed_found n h = by_test_lem (ltb (line_end t) (LONGEST + 1)) near (λ f. far (ltb-false (line_end t) (LONGEST + 1) f))
    where
      w : (ltb (line_end taken) (length taken) ≡ true) × (line_end taken ≡ n)
      w = cond_some (ltb (line_end taken) (length taken)) (line_end taken) n (sym (feed_lem taken) ∙ h)

      l : line_end taken < length taken
      l = ltb-true (line_end taken) (length taken) w.0

      near : ltb (line_end t) (LONGEST + 1) ≡ true → feed_at t ≡ Some n
      near e =
          let same = end_taken (LONGEST + 1) t (ltb-true (line_end t) (LONGEST + 1) e) in
          feed_lem t ∙ rw (lt-ltb (line_end t) (length t) (omega (arith, l, same, length-take (LONGEST + 1) t))) (ap Some (sym same ∙ w.1))

      far : (LONGEST + 1) ≤ line_end t → feed_at t ≡ Some n
      far e = absurd (nothing (omega (arith, l, end_cut (LONGEST + 1) t e)))
        where
          nothing : 1 ≤ 0 → ⊥
          nothing z = (omega (arith, z))

  -- and where none is found the line is too long, or none
  pub feed_missing : feed_at taken ≡ None → short (first_line t) ≡ None
  feed_missing h = ap short (first_end t) ∙ by_test_lem (ltb (line_end t) (length t)) there (λ e. rw e)
    where
      no : ltb (line_end taken) (length taken) ≡ true → ⊥
      no e = none-some (line_end taken) (sym h ∙ feed_lem taken ∙ rw e)

      there : ltb (line_end t) (length t) ≡ true → short (cond (ltb (line_end t) (length t)) (Some (take (line_end t) t)) None) ≡ None
      there e =
          let within = ltb-true (line_end t) (length t) e in
          rw e (by_test_lem (ltb (line_end t) (LONGEST + 1))
          (λ n. absurd (no (near within (ltb-true (line_end t) (LONGEST + 1) n))))
          (λ f. rw (lt-leb (length (take (line_end t) t)) LONGEST (omega (arith, ltb-false (line_end t) (LONGEST + 1) f, length-take-le (line_end t) t (omega (arith, within)))))))
        where
          near : line_end t < length t → line_end t < (LONGEST + 1) → ltb (line_end taken) (length taken) ≡ true
          near a b = lt-ltb (line_end taken) (length taken) (omega (arith, a, b, end_taken (LONGEST + 1) t b, length-take (LONGEST + 1) t))

-- ---- no value that is right is too long

long_is : (v : List ℕ) → short (Some v) ≡ None → LONGEST < length v
long_is v h = by_test_lem (leb (length v) LONGEST) (λ e. absurd (none-some v (sym h ∙ rw e))) (λ e. leb-false (length v) LONGEST e)

-- a word
same_length : (a b : List ℕ) → length b ≤ LONGEST → LONGEST < length a → same_as a b ≡ false
same_length a b k l = by_test_lem (same_as a b) (λ e. absurd (apart (ap length (same_text a b e)))) (λ e. e)
  where
    apart : length a ≡ length b → ⊥
    apart e = (omega (arith, e, k, l))

-- words of a list that are all short enough
abbrev AllShort : {A : Type 0} → List (String × A) → Type 0
AllShort [] = ⊤
AllShort (w ∷ ws) = (length (text w.0) ≤ LONGEST) × AllShort ws

no_word : {A : Type 0} (ws : List (String × A)) (v : List ℕ) → AllShort ws → LONGEST < length v → word_in ws v ≡ None
unfolding word_in
no_word [] v s l = refl
no_word (w ∷ ws) v s l = rw (same_length v (text w.0) s.0 l) (no_word ws v s.1 l)

pub long_word : {A : Type 0} (ws : List (String × A)) (o : Option (List ℕ)) → AllShort ws → short o ≡ None → found o (word_in ws) ≡ None
long_word ws None s h = refl
long_word ws (Some v) s h = no_word ws v s (long_is v h)

-- a number of 32 bits
no_number : (v : List ℕ) (low high : ℕ) → high < 2 ^ 32 → LONGEST < length v → number_in (from low to high) v ≡ None
unfolding number_in number_of is_decimal all_digits
no_number [] low high b l = refl
no_number (d ∷ []) low high b l = absurd (few l)
  where
    few : LONGEST < 1 → ⊥
    few z = (omega (arith, z))
no_number (d ∷ c ∷ t) low high b l = by_test_lem (not (eqb d 48) && all_digits (d ∷ c ∷ t)) large (λ e. rw e)
  where
    large : not (eqb d 48) && all_digits (d ∷ c ∷ t) ≡ true
        → found (cond (not (eqb d 48) && all_digits (d ∷ c ∷ t)) (Some (digits_value (d ∷ c ∷ t))) None) (λ n. cond ((from low to high) n) (Some n) None) ≡ None
    large e =
        let w = both (not (eqb d 48)) (all_digits (d ∷ c ∷ t)) e in
        let first = digit_bounds d (both (is_digit d) (all_digits (c ∷ t)) w.1).0 in
        let not-0 = eqb-false d 48 (not-true (eqb d 48) w.0) in
        let above : 48 < d = omega (arith, first, not-0) in
        let more : 10 ≤ length (c ∷ t) = omega (arith, l) in
        let some : 0 < 10 = omega arith in
        let tens : 10 ^ 10 ≤ 10 ^ length (c ∷ t) = pow-le-pow_right {n = 10} some {i = 10} {j = length (c ∷ t)} more in
        rw (e, lt-leb (digits_value (d ∷ c ∷ t)) high (omega (arith, value_above d (c ∷ t) above, tens)), and-false)

pub long_number : (o : Option (List ℕ)) (low high : ℕ) → high < 2 ^ 32 → short o ≡ None → found o (number_in (from low to high)) ≡ None
long_number None low high b h = refl
long_number (Some v) low high b h = no_number v low high b (long_is v h)
