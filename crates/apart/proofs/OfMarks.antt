-- The marks answer rule 22: a range that they show already, or one that they leave free, has nothing in part with an earlier one; any other
-- has. Assumes nothing.
use Prim.Native.Nat.{ℕ, zero, suc, ◌+◌, ◌-◌, ◌^◌, ◌≤◌, ◌<◌, min, max}
use mathlib.Core.Path.{◌≡◌, sym, ap, ◌∙◌, subst}
use mathlib.Core.Bool.{Bool, true, false, not, ◌||◌, true≢false}
use mathlib.Core.List.{List, [], ◌∷◌, ◌++◌}
use mathlib.Core.Logic.{⊎_elim}
use native.Mathlib.Nat.{eq-or-lt_of_le}
use native.Mathlib.Omega.{arith}
use lib.Dec.{eqb, ltb}
use native.Mathlib.Numerals.{add-one}
use Rattle.std.specs.Prelude.{Option, Some, None, slice_range}
use Rattle.std.specs.List.{list_any}
use Rattle.std.proofs.lemmas.List.{drop-drop, drop_all, take_all, append-nil, get_or-append_right, get_or-drop}
use Rattle.std.proofs.lemmas.List.Folds.{list_any_more, list_any_at}
use Rattle.std.proofs.lemmas.List.Edits.{split_between, length-between, get_or-between, fill_more}
use Rattle.std.proofs.lemmas.Simd.{put_chunk_is, get_or-put_chunk_below, get_or-put_chunk_at, get_or-put_chunk_above}
use lib.Lanes.{put_chunk}
use lib.ListN.{length, get_or, set, take, drop, replicate, length-set, length-replicate, get_or-replicate, get_or-eq_default}
use lib.Seq.{get_or-set_same, get_or-set_other}
use borrow.Author.Tests.{ne_eqb, eqb-true, eqb-false, ltb-true, ltb-false, not-false}
use Rattle.laws.proofs.OfTests.{by_test_lem, neither}
use Rattle.units.specs.declared.Quadwords.{Quadwords}
use Rattle.units.specs.Units.{words, whole_quadwords, quadword_behind}
use Rattle.units.specs.Code.{quadwords_in_64}
use Rattle.section.specs.declared.Clause.{Clause}
use Rattle.section.specs.declared.Range.{Range}
use Rattle.section.specs.Code.{range_in_64}
use Rattle.section.specs.Rules.{clause_at, range_of}
use Rattle.apart.specs.Apart.{start_of, length_of, behind, half_shared}
use Rattle.apart.specs.Code.{ApartFrom, Fit, FirstUnfit, FirstNotApart, quadwords_in, marked_in, Covered, Marked, is_mark, marks_of, Claimed, again, claims, clashes, Found, outside, within}
use Rattle.apart.proofs.OfApart.{last_or, InPart, half_in_part, in_part_half, Sized}

-- below, equal or above
order : {P : Type 0} (a b : ℕ) → (a < b → P) → (a ≡ b → P) → (b < a → P) → P
order a b f g h =
    by_test_lem (ltb a b) (λ e. f (ltb-true a b e)) (λ e. ⊎_elim (λ q. g (sym q)) h (eq-or-lt_of_le (ltb-false a b e)))

-- ---- a range's marks, and those of all quadwords

abbrev add_one : ℕ → ℕ
add_one n = n + 1

-- of n quadwords from s on
module _ (s n : ℕ) (marks : List ℕ) where
  part_length : s + n ≤ length marks → length (slice_range marks s (s + n)) ≡ n
  part_length h = length-between marks s (s + n) h ∙ omega arith

  part_at : (k : ℕ) → k < n → get_or (slice_range marks s (s + n)) k 0 ≡ get_or marks (s + k) 0
  part_at k h = get_or-between marks s (s + n) k 0 (omega arith)

  at_start : 0 < n → get_or (slice_range marks s (s + n)) 0 0 ≡ get_or marks s 0
  at_start h = part_at 0 h ∙ ap (λ (j : ℕ). get_or marks j 0) (omega arith)

-- no mark is made
no_mark : (xs : List ℕ) → list_any is_mark xs ≡ false → (k : ℕ) → get_or xs k 0 ≡ 0
no_mark [] h k = get_or-eq_default [] 0 {n = k} (omega arith)
no_mark (x ∷ xs) h zero = eqb-true x 0 (not-false (eqb x 0) (neither (is_mark x) (list_any is_mark xs) h).0)
no_mark (x ∷ xs) h (suc k) = no_mark xs (neither (is_mark x) (list_any is_mark xs) h).1 k

-- or there is one
record SomeMark (xs : List ℕ) : Type 0 where
  pub place : ℕ
  pub within_it : place < length xs
  pub marked_there : get_or xs place 0 ≡ 0 → ⊥

some_mark : (xs : List ℕ) → list_any is_mark xs ≡ true → SomeMark xs
some_mark [] h = absurd (true≢false (sym h))
some_mark (x ∷ xs) h =
    by_test_lem (eqb x 0)
    (λ e. let later = some_mark xs (rw e at h) in record { place = suc later.place; within_it = omega (arith, later.within_it); marked_there = later.marked_there })
    (λ e. record { place = 0; within_it = omega arith; marked_there = eqb-false x 0 e })

-- quadword by quadword: the first k had no mark and are marked as what goes on there
pub record Filling (before marks : List ℕ) (k : ℕ) : Type 0 where
  pub passed : marks ≡ replicate k 1 ++ drop k before
  pub were_free : list_any is_mark (take k before) ≡ false

module _ (before : List ℕ) where
  pub filling_none : Filling before before 0
  filling_none = record { passed = λ i. before; were_free = λ i. false }

  module _ (marks : List ℕ) (k : ℕ) (f : Filling before marks k) where
    -- the next one's mark is what it was
    next_mark : get_or marks k 0 ≡ get_or before k 0
    next_mark =
        ap (λ (m : List ℕ). get_or m k 0) f.passed
        ∙ get_or-append_right (replicate k 1) (drop k before) k k 0 (length-replicate k 1) (omega arith)
        ∙ get_or-drop k before (k - k) 0
        ∙ ap (λ (i : ℕ). get_or before i 0) (omega arith)

    pub filling-next : k < length before → get_or marks k 0 ≡ 0 → Filling before (set marks k 1) (k + 1)
    filling-next l z =
        let e : get_or before k 0 ≡ 0 = sym next_mark ∙ z in
        record {
          passed = ap (λ (m : List ℕ). set m k 1) f.passed ∙ fill_more k 1 before l;
          were_free = list_any_more is_mark before k 0 l ∙ (λ i. f.were_free i || is_mark (e i));
        }

    pub filling-clash : k < length before → (get_or marks k 0 ≡ 0 → ⊥) → list_any is_mark before ≡ true
    filling-clash l n = list_any_at is_mark before k 0 l (ap not (ne_eqb (get_or before k 0) 0 (λ e. n (next_mark ∙ e))))

    pub filling-all : k ≤ length before → length before ≤ k → Claimed before false (set marks 0 (length before + 1))
    filling-all m l =
        let e : k ≡ length before = omega arith in
        let all : marks ≡ replicate (length before) 1 =
        f.passed ∙ ap (λ (r : List ℕ). replicate k 1 ++ r) (drop_all k before l) ∙ append-nil (replicate k 1) ∙ ap (λ (n : ℕ). replicate n 1) e in
        rw all (claims (ap (list_any is_mark) (sym (take_all k before l)) ∙ f.were_free))

-- n quadwords from s on that had none have those of a range now, and the rest theirs
record Filled (s n : ℕ) (before after : List ℕ) : Type 0 where
  pub free : (j : ℕ) → s ≤ j → j < s + n → get_or before j 0 ≡ 0
  pub first : get_or after s 0 ≡ n + 1
  pub inside : (j : ℕ) → s < j → j < s + n → get_or after j 0 ≡ 1
  pub below : (j : ℕ) → j < s → get_or after j 0 ≡ get_or before j 0
  pub above : (j : ℕ) → s + n ≤ j → get_or after j 0 ≡ get_or before j 0

-- the marks with others in the place of those n
module _ (s n : ℕ) (before here after : List ℕ) (many : length here ≡ n) (room : s + n ≤ length before)
    (e : after ≡ take s before ++ (here ++ drop (s + n) before)) where
  as_chunk : after ≡ put_chunk s before here
  as_chunk =
      e
      ∙ ap (λ (m : ℕ). take s before ++ (here ++ drop (s + m) before)) (sym many)
      ∙ ap (λ (l : List ℕ). take s before ++ (here ++ l)) (sym (drop-drop (length here) s before))
      ∙ sym (put_chunk_is s before here (omega arith))

  below-kept : (j : ℕ) → j < s → get_or after j 0 ≡ get_or before j 0
  below-kept j a = ap (λ (l : List ℕ). get_or l j 0) as_chunk ∙ get_or-put_chunk_below s before here j 0 a

  above-kept : (j : ℕ) → s + n ≤ j → get_or after j 0 ≡ get_or before j 0
  above-kept j a = ap (λ (l : List ℕ). get_or l j 0) as_chunk ∙ get_or-put_chunk_above s before here j 0 (omega arith)

  now_here : (j : ℕ) → s ≤ j → j < s + n → get_or after j 0 ≡ get_or here (j - s) 0
  now_here j a b =
      let k : j ≡ s + (j - s) = omega arith in
      ap (λ (l : List ℕ). get_or l j 0) as_chunk
      ∙ ap (λ (i : ℕ). get_or (put_chunk s before here) i 0) k
      ∙ get_or-put_chunk_at s before here (j - s) 0 (omega arith) (omega arith)

module _ (s n : ℕ) (before : List ℕ) (long : 0 < n) (room : s + n ≤ length before) where
  filled :
      {after : List ℕ} → list_any is_mark (slice_range before s (s + n)) ≡ false
      → after ≡ take s before ++ (marks_of (length (slice_range before s (s + n))) ++ drop (s + n) before) → Filled s n before after
  filled {after} h e =
      record {
        free = λ j a b. ap (λ (i : ℕ). get_or before i 0) (at j a) ∙ sym (part_at s n before (j - s) (omega arith)) ∙ no_mark (slice_range before s (s + n)) h (j - s);
        first = now_here s n before (marks_of n) after many room f s (omega arith) (omega arith) ∙ ap (λ (i : ℕ). get_or (marks_of n) i 0) (omega arith) ∙ get_or-set_same (replicate n 1) 0 (n + 1) 0 (omega (arith, ones));
        inside = λ j a b. now_here s n before (marks_of n) after many room f j (omega arith) b ∙ get_or-set_other (replicate n 1) 0 (j - s) (n + 1) 0 (λ x. omega arith) ∙ get_or-replicate n (j - s) 1 0 (omega arith);
        below = below-kept s n before (marks_of n) after many room f;
        above = above-kept s n before (marks_of n) after many room f;
      }
    where
      ones : length {A = ℕ} (replicate n 1) ≡ n
      ones = length-replicate n 1

      many : length (marks_of n) ≡ n
      many = length-set (replicate n 1) 0 (n + 1) ∙ ones

      at : (j : ℕ) → s ≤ j → j ≡ s + (j - s)
      at j a = omega arith

      f : after ≡ take s before ++ (marks_of n ++ drop (s + n) before)
      f = e ∙ ap (λ (m : ℕ). take s before ++ (marks_of m ++ drop (s + n) before)) (part_length s n before room)

-- ---- the marks of the places before p, and p's clause

module _ (opens : ℕ → Option Clause) (sized : (q : ℕ) → Sized (opens q)) (p : ℕ) (marks : List ℕ) (m : Marked opens p marks) where
  still_covered : (j : ℕ) → Covered opens p j → Covered opens (suc p) j
  still_covered j c =
      record { opener = c.opener; earlier = omega (arith, c.earlier); from_start = c.from_start; to_end = c.to_end }

  -- every quadword of an earlier clause has a mark
  marked : (q j : ℕ) → q < p → (start_of (opens q)).0 ≤ j → j < (behind (opens q)).0 → get_or marks j 0 ≡ 0 → ⊥
  marked q j l f t z =
      ⊎_elim
      (λ e.
      let y : get_or marks j 0 ≡ (length_of (opens q)).0 + 1 = rw e at (m.starts q l (omega arith)) in
      omega arith)
      (λ lt. omega (arith, m.goes_on q j l lt t))
      (eq-or-lt_of_le f)

  none_in_part : ((q : ℕ) → q < p → InPart (opens q) (opens p) → ⊥) → ApartFrom opens p
  none_in_part h q l =
      by_test_lem (half_shared (opens q) (opens p)) (λ e. absurd (h q l (half_in_part (opens q) (opens p) e))) (λ e. e)

  -- a place without a clause
  module _ (z : (length_of (opens p)).0 ≡ 0) where
    empty-apart : ApartFrom opens p
    empty-apart = none_in_part (λ q l x. omega (arith, x.first_in, x.second-in, (sized p).none z))

    empty-marked : Marked opens (suc p) marks
    empty-marked =
        record {
          starts = λ q l s. last_or (λ q. 0 < (length_of (opens q)).0 → get_or marks (start_of (opens q)).0 0 ≡ (length_of (opens q)).0 + 1) p q l (m.starts q) (λ y. absurd (omega arith)) s;
          goes_on = λ q j l a b. last_or (λ q. (start_of (opens q)).0 < j → j < (behind (opens q)).0 → get_or marks j 0 ≡ 1) p q l (m.goes_on q j) (λ y x. absurd (omega arith)) a b;
          only = λ j n. still_covered j (m.only j n);
        }

  module _ (long : 0 < (length_of (opens p)).0) where
    -- a range that is marked already
    module _ (h : get_or marks (start_of (opens p)).0 0 ≡ (length_of (opens p)).0 + 1) where
      -- the earlier clause that lies here starts here and has this length
      there : Covered opens p (start_of (opens p)).0
      there = m.only (start_of (opens p)).0 (λ z. omega arith)

      starts-there : (start_of (opens there.opener)).0 ≡ (start_of (opens p)).0
      starts-there =
          ⊎_elim (λ e. e) (λ lt. absurd (omega (arith, m.goes_on there.opener (start_of (opens p)).0 there.earlier lt there.to_end)))
          (eq-or-lt_of_le there.from_start)

      as_long : (length_of (opens there.opener)).0 ≡ (length_of (opens p)).0
      as_long =
          let y : get_or marks (start_of (opens p)).0 0 ≡ (length_of (opens there.opener)).0 + 1 = rw starts-there at (m.starts there.opener there.earlier (omega (arith, there.to_end, there.from_start))) in
          omega arith

      goes-on-here : (j : ℕ) → (start_of (opens p)).0 < j → j < (behind (opens p)).0 → get_or marks j 0 ≡ 1
      goes-on-here j f t =
          m.goes_on there.opener j there.earlier (omega (arith, starts-there)) (omega (arith, starts-there, as_long))

      again-apart : ApartFrom opens p
      again-apart = none_in_part other
        where
          long-too : (q : ℕ) → InPart (opens q) (opens p) → 0 < (length_of (opens q)).0
          long-too q x =
              by_test_lem (ltb 0 (length_of (opens q)).0) (λ e. ltb-true 0 (length_of (opens q)).0 e)
              (λ e.
              let z : (length_of (opens q)).0 ≡ 0 = omega (arith, ltb-false 0 (length_of (opens q)).0 e) in
              absurd (omega (arith, x.second-in, (sized q).none z)))

          other : (q : ℕ) → q < p → InPart (opens q) (opens p) → ⊥
          other q l x =
              order (start_of (opens q)).0 (start_of (opens p)).0
              (λ lt. omega (arith, m.goes_on q (start_of (opens p)).0 l lt x.second-in))
              (λ e.
              let y : get_or marks (start_of (opens p)).0 0 ≡ (length_of (opens q)).0 + 1 = rw e at (m.starts q l (long-too q x)) in
              x.not_same e (omega arith))
              (λ gt. omega (arith, m.starts q l (long-too q x), goes-on-here (start_of (opens q)).0 gt x.first_in, long-too q x))

      again-marked : Marked opens (suc p) marks
      again-marked =
          record {
            starts = λ q l s. last_or (λ q. 0 < (length_of (opens q)).0 → get_or marks (start_of (opens q)).0 0 ≡ (length_of (opens q)).0 + 1) p q l (m.starts q) (λ z. h) s;
            goes_on = λ q j l f t. last_or (λ q. (start_of (opens q)).0 < j → j < (behind (opens q)).0 → get_or marks j 0 ≡ 1) p q l (m.goes_on q j) (goes-on-here j) f t;
            only = λ j n. still_covered j (m.only j n);
          }

    -- one that no mark stands in
    free-apart : ((j : ℕ) → (start_of (opens p)).0 ≤ j → j < (behind (opens p)).0 → get_or marks j 0 ≡ 0) → ApartFrom opens p
    free-apart h =
        none_in_part
        (λ q l x.
        let j : ℕ = max (start_of (opens q)).0 (start_of (opens p)).0 in
        by_test_lem (ltb 0 (length_of (opens q)).0)
        (λ e.
        let n = ltb-true 0 (length_of (opens q)).0 e in
        marked q j l (omega arith) (omega (arith, x.second-in)) (h j (omega arith) (omega (arith, x.first_in))))
        (λ e.
        let z : (length_of (opens q)).0 ≡ 0 = omega (arith, ltb-false 0 (length_of (opens q)).0 e) in
        omega (arith, x.second-in, (sized q).none z)))

    filled-marked : {after : List ℕ} → Filled (start_of (opens p)).0 (length_of (opens p)).0 marks after → Marked opens (suc p) after
    filled-marked {after} f =
        record {
          starts = λ q l s. last_or (λ q. 0 < (length_of (opens q)).0 → get_or after (start_of (opens q)).0 0 ≡ (length_of (opens q)).0 + 1) p q l (λ x y. kept (start_of (opens q)).0 (marked q (start_of (opens q)).0 x (omega arith) (omega arith)) ∙ m.starts q x y) (λ z. f.first) s;
          goes_on = λ q j l g t. last_or (λ q. (start_of (opens q)).0 < j → j < (behind (opens q)).0 → get_or after j 0 ≡ 1) p q l (λ x y z. kept j (marked q j x (omega arith) z) ∙ m.goes_on q j x y z) (f.inside j) g t;
          only = λ j n. found j n;
        }
      where
        -- marks that stood keep what they were
        kept : (j : ℕ) → (get_or marks j 0 ≡ 0 → ⊥) → get_or after j 0 ≡ get_or marks j 0
        kept j n =
            by_test_lem (ltb j (start_of (opens p)).0) (λ a. f.below j (ltb-true _ _ a))
            (λ a.
            by_test_lem (ltb j (behind (opens p)).0) (λ b. absurd (n (f.free j (ltb-false _ _ a) (ltb-true _ _ b))))
            (λ b. f.above j (ltb-false _ _ b)))

        here : (j : ℕ) → (start_of (opens p)).0 ≤ j → j < (behind (opens p)).0 → Covered opens (suc p) j
        here j a b = record { opener = p; earlier = omega arith; from_start = a; to_end = b }

        found : (j : ℕ) → (get_or after j 0 ≡ 0 → ⊥) → Covered opens (suc p) j
        found j n =
            by_test_lem (ltb j (start_of (opens p)).0) (λ a. still_covered j (m.only j (λ z. n (f.below j (ltb-true _ _ a) ∙ z))))
            (λ a.
            by_test_lem (ltb j (behind (opens p)).0) (λ b. here j (ltb-false _ _ a) (ltb-true _ _ b))
            (λ b. still_covered j (m.only j (λ z. n (f.above j (ltb-false _ _ b) ∙ z)))))

    -- one that a mark stands in, and that is not marked as it is
    clash-not-apart :
        (j : ℕ) → (start_of (opens p)).0 ≤ j → j < (behind (opens p)).0 → (get_or marks j 0 ≡ 0 → ⊥)
        → (get_or marks (start_of (opens p)).0 0 ≡ (length_of (opens p)).0 + 1 → ⊥) → ApartFrom opens p → ⊥
    clash-not-apart j f t h n apart =
        let there : Covered opens p j = m.only j h in
        let q : ℕ = there.opener in
        let x : InPart (opens q) (opens p) =
        record {
          first_in = omega (arith, there.from_start, there.to_end);
          second-in = omega (arith, there.from_start, there.to_end);
          not_same =
              λ a b.
              n
              (let y : get_or marks (start_of (opens p)).0 0 ≡ (length_of (opens q)).0 + 1 = rw a at (m.starts q there.earlier (omega arith)) in
              omega arith);
        } in
        absurd (true≢false (sym (in_part_half (opens q) (opens p) x) ∙ apart q there.earlier))

  -- ---- what was found of p's range

  module _ (limit : ℕ) where
    -- it ends by the limit and is apart, and the marks have it now; or not
    abbrev Says : Bool → List ℕ → Type 0
    Says false after = Fit limit opens p × Marked opens (suc p) after
    Says true after = Fit limit opens p → ⊥

    claimed-says :
        {r : Bool} {here after : List ℕ} → 0 < (length_of (opens p)).0 → (behind (opens p)).0 ≤ limit → limit ≤ length marks
        → Claimed (slice_range marks (start_of (opens p)).0 (behind (opens p)).0) r here
        → after ≡ take (start_of (opens p)).0 marks ++ (here ++ drop (behind (opens p)).0 marks) → Says r after
    claimed-says {after = after} long inside room (again h) e =
        let same : after ≡ marks = e ∙ sym (split_between marks (start_of (opens p)).0 (behind (opens p)).0 (omega arith)) in
        let first = sym (at_start (start_of (opens p)).0 (length_of (opens p)).0 marks long) ∙ h ∙ ap add_one (part_length (start_of (opens p)).0 (length_of (opens p)).0 marks (omega arith)) in
        subst (Says false) (sym same) (record { inside = inside; apart = again-apart long first }, again-marked long first)
    claimed-says long inside room (claims h) e =
        let f = filled (start_of (opens p)).0 (length_of (opens p)).0 marks long (omega arith) h e in
        (record { inside = inside; apart = free-apart long f.free }, filled-marked long f)
    claimed-says long inside room (clashes h n) e =
        let there = some_mark (slice_range marks (start_of (opens p)).0 (behind (opens p)).0) h in
        let few = part_length (start_of (opens p)).0 (length_of (opens p)).0 marks (omega arith) in
        λ z.
        clash-not-apart long ((start_of (opens p)).0 + there.place) (omega arith) (omega (arith, there.within_it, few))
        (λ y. there.marked_there (part_at (start_of (opens p)).0 (length_of (opens p)).0 marks there.place (omega (arith, there.within_it, few)) ∙ y))
        (λ y. n (at_start (start_of (opens p)).0 (length_of (opens p)).0 marks long ∙ y ∙ ap add_one (sym few)))
        z.apart

    found-says :
        {r : Bool} {after : List ℕ} → 0 < (length_of (opens p)).0 → limit ≤ length marks
        → Found limit (start_of (opens p)).0 (length_of (opens p)).0 marks r after → Says r after
    found-says long room (outside l) = λ z. omega (arith, z.inside)
    found-says long room (within inside c e) = claimed-says long inside room c e

    -- a place without a clause leaves the marks
    none-says : opens p ≡ None → Says false marks
    none-says e =
        let z : (length_of (opens p)).0 ≡ 0 = ap (λ (k : Option Clause). (length_of k).0) e in
        (record { inside = omega (arith, (sized p).none z); apart = empty-apart z }, empty-marked z)

-- ---- place by place

-- all places before p are fit, and the marks are those of their clauses
pub record Searching (opens : ℕ → Option Clause) (n limit p : ℕ) (marks : List ℕ) : Type 0 where
  pub near : p ≤ n
  pub fit : (q : ℕ) → q < p → Fit limit opens q
  pub marked : Marked opens p marks

module _ (opens : ℕ → Option Clause) (sized : (q : ℕ) → Sized (opens q)) (n limit p : ℕ) (marks : List ℕ) (g : Searching opens n limit p marks) where
  -- p's clause is apart too
  next : {after : List ℕ} → p < n → Says opens sized p marks g.marked limit false after → Searching opens n limit (p + 1) after
  next {after} l z =
      subst (λ (q : ℕ). Searching opens n limit q after) (sym (add-one p))
      record {
        near = l;
        fit = λ q k. last_or (Fit limit opens) p q k (g.fit q) z.0;
        marked = z.1;
      }

  pub searching-none : p < n → opens p ≡ None → Searching opens n limit (p + 1) marks
  searching-none l e = next l (none-says opens sized p marks g.marked limit e)

  module _ {c : Clause} (is : opens p ≡ Some c) {r : Range} (here : r ≡ range_in_64 (range_of c)) where
    starts : r.start.0 ≡ (start_of (opens p)).0
    starts = ap (λ (x : Range). x.start.0) here ∙ ap (λ (k : Option Clause). (start_of k).0) (sym is)

    size_exact : r.size.0 ≡ (length_of (opens p)).0
    size_exact =
        let a : r.size.0 ≡ min (range_of c).size.0 (2 ^ 64 - 1) = ap (λ (x : Range). x.size.0) here in
        let b : (length_of (opens p)).0 ≡ (range_of c).size.0 = ap (λ (k : Option Clause). (length_of k).0) is in
        omega (arith, (sized p).few)

    long : 0 < (length_of (opens p)).0
    long = let b : (length_of (opens p)).0 ≡ (range_of c).size.0 = ap (λ (k : Option Clause). (length_of k).0) is in omega (arith, (sized p).some c is)

    pub searching-sized : (0 < r.size.0) × (r.size.0 ≤ 128)
    searching-sized = (omega (arith, size_exact, long), omega (arith, size_exact, (sized p).few))

    module _ (l : p < n) (room : limit ≤ length marks) {after : List ℕ} {found : Bool} (f : Found limit r.start.0 r.size.0 marks found after) where
      says : Says opens sized p marks g.marked limit found after
      says =
          found-says opens sized p marks g.marked limit long room
          (subst (λ (m : ℕ). Found limit (start_of (opens p)).0 m marks found after) size_exact
          (subst (λ (s : ℕ). Found limit s r.size.0 marks found after) starts f))

      pub searching-next : found ≡ false → Searching opens n limit (p + 1) after
      searching-next t = next l (subst (λ (x : Bool). Says opens sized p marks g.marked limit x after) t says)

      pub searching-found : found ≡ true → FirstUnfit limit opens n p
      searching-found t =
          let z = subst (λ (x : Bool). Says opens sized p marks g.marked limit x after) t says in
          record { at_most = omega arith; fit_before = g.fit; unfit_there = λ k. z }

  pub searching_none : n ≤ p → FirstUnfit limit opens n n
  searching_none l =
      let e : p ≡ n = omega (arith, g.near) in
      record { at_most = omega arith; fit_before = rw e at g.fit; unfit_there = λ k. absurd (omega arith) }

pub searching_first :
    (opens : ℕ → Option Clause) (n limit : ℕ) (marks : List ℕ) → ((j : ℕ) → get_or marks j 0 ≡ 0) → Searching opens n limit 0 marks
searching_first opens n limit marks h =
    record {
      near = omega arith;
      fit = λ q l. absurd (omega arith);
      marked =
          record {
            starts = λ q l. absurd (omega arith);
            goes_on = λ q j l. absurd (omega arith);
            only = λ j x. absurd (x (h j));
          };
    }

-- a row of zeros has no marks
pub none_marked : (n j : ℕ) → ◌≡◌ {A = ℕ} (get_or (replicate n 0) j 0) 0
none_marked n j =
    by_test_lem (ltb j n) (λ a. get_or-replicate n j 0 0 (ltb-true j n a))
    (λ b. get_or-eq_default (replicate n 0) 0 (simp length-replicate (ltb-false j n b)))

-- what the search says of the section
pub not_apart_first :
    (w : List ℕ) (e : Quadwords) {whole behind : Quadwords} {n limit r : ℕ} → length w < 2 ^ 64 → whole ≡ whole_quadwords (words (length w))
    → behind ≡ quadwords_in_64 (quadword_behind e) → n ≡ min behind.0 whole.0 → limit ≡ min whole.0 8192
    → FirstUnfit limit (clause_at w) n r → FirstNotApart w e.0 r
not_apart_first w e {whole} {behind} {n} {limit} {r} l a b c d f =
    let x : whole.0 ≡ quadwords_in w = ap (λ (q : Quadwords). q.0) a in
    let y : behind.0 ≡ min (e.0 + 1) (2 ^ 64 - 1) = ap (λ (q : Quadwords). q.0) b in
    let z : n ≡ min (suc e.0) (quadwords_in w) = omega arith in
    let m : limit ≡ marked_in w = omega arith in
    subst (λ (k : ℕ). FirstUnfit (marked_in w) (clause_at w) k r) z (subst (λ (k : ℕ). FirstUnfit k (clause_at w) n r) m f)
