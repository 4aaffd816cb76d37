-- The common beginning is common and the longest such, so is the common ending of what then remains in both, and the two never
-- overlap in either list. Laws over any two lists. Assumes nothing.
use mathlib.Core.Path.{◌≡◌, refl, ap, ap₂, sym, ◌∙◌}
use mathlib.Core.Bool.{Bool, true, false, cond}
use mathlib.Core.List.{List, [], ◌∷◌, ◌++◌, reverse, reverse-append, reverse-reverse}
use Prim.Native.Nat.{ℕ, zero, suc, ◌+◌, ◌*◌, ◌-◌, ◌≤◌, suc-le-suc}
use native.Mathlib.Nat.{le_of_suc-le-suc}
use native.Mathlib.Omega.{arith}
use borrow.Author.Tests.{eq-eqb, eqb-true}
use lib.Dec.{eqb}
use lib.ListN.{length, get_or, take, drop, length-reverse, length-drop, length-append, take-append-drop}
use lib.Seq.{take_at, take-append_seam, drop-drop, drop-append-add}
use denote.Ref.{Bor}
use Rattle.laws.proofs.OfLists.{to_the_end}
use Rattle.units.specs.declared.Words.{Words}
use Rattle.units.specs.Units.{words}
use Rattle.compare.specs.Changed.{common_beginning, common_ending, older_rest, newer_rest, rest_ending, changed_words, changed_start, word_place}
use Rattle.std.specs.List.{zip, prefix_len}
use Rattle.std.specs.Bool.{◌==◌}
use Rattle.compare.specs.Code.{in_common}
use Rattle.compare.specs.Laws.{CommonBeginning, CommonEnding}

-- ---- the common beginning

-- it is what the code counts
pub counted : (xs ys : List ℕ) → in_common xs ys ≡ common_beginning xs ys
unfolding common_beginning
counted [] ys = refl
counted (x ∷ xs) [] = refl
counted (x ∷ xs) (y ∷ ys) = by (eqb x y) (counted xs ys)
  where
    by :
        (t : Bool) → in_common xs ys ≡ common_beginning xs ys
        → length (take (cond t (1 + prefix_len (λ p. p.0 == p.1) (zip xs ys)) 0) ((x, y) ∷ zip xs ys)) ≡ cond t (suc (common_beginning xs ys)) 0
    by true h =
        let one : 1 + prefix_len (λ p. p.0 == p.1) (zip xs ys) ≡ suc (prefix_len (λ p. p.0 == p.1) (zip xs ys)) = omega arith in
        ap (λ (n : ℕ). length (take n ((x, y) ∷ zip xs ys))) one ∙ ap suc h
    by false h = refl

-- it is common
pub beginning_common : (xs ys : List ℕ) → CommonBeginning (common_beginning xs ys) xs ys
unfolding common_beginning
beginning_common [] ys = record { in_first = omega arith; in_second = omega arith; same = refl }
beginning_common (x ∷ xs) [] = record { in_first = omega arith; in_second = omega arith; same = refl }
beginning_common (x ∷ xs) (y ∷ ys) = by (eqb x y) refl (beginning_common xs ys)
  where
    by : (t : Bool) → eqb x y ≡ t → CommonBeginning (common_beginning xs ys) xs ys
        → CommonBeginning (cond t (suc (common_beginning xs ys)) 0) (x ∷ xs) (y ∷ ys)
    by true e h =
        record {
          in_first = omega arith;
          in_second = omega arith;
          same = ap₂ (λ (a : ℕ) (l : List ℕ). a ∷ l) (eqb-true x y e) h.same;
        }
    by false e h = record { in_first = omega arith; in_second = omega arith; same = refl }

-- and no longer one is
pub beginning_longest : (n : ℕ) (xs ys : List ℕ) → CommonBeginning n xs ys → n ≤ common_beginning xs ys
unfolding common_beginning
beginning_longest zero xs ys h = omega arith
beginning_longest (suc n) [] ys h = absurd (omega (arith, h.in_first))
beginning_longest (suc n) (x ∷ xs) [] h = absurd (omega (arith, h.in_second))
beginning_longest (suc n) (x ∷ xs) (y ∷ ys) h =
    rw (eq-eqb x y (ap (λ (l : List ℕ). get_or l 0 0) h.same))
    (suc-le-suc
    (beginning_longest n xs ys
    (record {
      in_first = le_of_suc-le-suc h.in_first;
      in_second = le_of_suc-le-suc h.in_second;
      same = ap (λ (l : List ℕ). drop 1 l) h.same;
    })))

-- ---- the common ending

-- it is what the code counts backwards
pub counted_back : (xs ys : List ℕ) → in_common (reverse xs) (reverse ys) ≡ common_ending xs ys
unfolding common_ending
counted_back xs ys = counted (reverse xs) (reverse ys)

-- the last words are the first ones of the list read backwards
ending_backwards : (n : ℕ) (xs : List ℕ) → n ≤ length xs → take n (reverse xs) ≡ reverse (drop (length xs - n) xs)
ending_backwards n xs h =
    ap (λ (l : List ℕ). take n (reverse l)) (sym (take-append-drop k xs))
    ∙ ap (take n) (reverse-append (take k xs) (drop k xs))
    ∙ take_at (reverse (drop k xs)) (reverse (take k xs)) n
    (length-reverse (drop k xs) ∙ length-drop k xs ∙ omega arith)
  where
    k : ℕ
    k = length xs - n

-- so what is common read backwards is common at the end, and the other way round
read_backwards : (n : ℕ) (xs ys : List ℕ) → CommonEnding n xs ys → CommonBeginning n (reverse xs) (reverse ys)
read_backwards n xs ys h =
    record {
      in_first = omega (arith, length-reverse xs, h.in_first);
      in_second = omega (arith, length-reverse ys, h.in_second);
      same = ending_backwards n xs h.in_first ∙ ap reverse h.same ∙ sym (ending_backwards n ys h.in_second);
    }

read_forwards : (n : ℕ) (xs ys : List ℕ) → CommonBeginning n (reverse xs) (reverse ys) → CommonEnding n xs ys
read_forwards n xs ys h =
    record {
      in_first = in-xs;
      in_second = in_ys;
      same =
          sym (reverse-reverse (drop (length xs - n) xs))
          ∙ ap reverse (sym (ending_backwards n xs in-xs) ∙ h.same ∙ ending_backwards n ys in_ys)
          ∙ reverse-reverse (drop (length ys - n) ys);
    }
  where
    in-xs : n ≤ length xs
    in-xs = omega (arith, length-reverse xs, h.in_first)

    in_ys : n ≤ length ys
    in_ys = omega (arith, length-reverse ys, h.in_second)

-- it is common
pub ending_common : (xs ys : List ℕ) → CommonEnding (common_ending xs ys) xs ys
unfolding common_ending
ending_common xs ys = read_forwards (common_ending xs ys) xs ys (beginning_common (reverse xs) (reverse ys))

-- and no longer one is
pub ending_longest : (n : ℕ) (xs ys : List ℕ) → CommonEnding n xs ys → n ≤ common_ending xs ys
unfolding common_ending
ending_longest n xs ys h = beginning_longest n (reverse xs) (reverse ys) (read_backwards n xs ys h)

-- ---- the two together

module _ (older newer : List ℕ) where
  start_in : CommonBeginning (common_beginning older newer) older newer
  start_in = beginning_common older newer

  -- the ending is one of what then remains in both, and the longest
  pub rest_common : CommonEnding (rest_ending older newer) (older_rest older newer) (newer_rest older newer)
  unfolding rest_ending
  rest_common = ending_common (older_rest older newer) (newer_rest older newer)

  pub rest_longest : (n : ℕ) → CommonEnding n (older_rest older newer) (newer_rest older newer) → n ≤ rest_ending older newer
  unfolding rest_ending
  rest_longest n h = ending_longest n (older_rest older newer) (newer_rest older newer) h

  older_left : length (older_rest older newer) ≡ length older - common_beginning older newer
  unfolding older_rest
  older_left = length-drop (common_beginning older newer) older

  newer_left : length (newer_rest older newer) ≡ length newer - common_beginning older newer
  unfolding newer_rest
  newer_left = length-drop (common_beginning older newer) newer

  -- beginning and ending never overlap, in either
  pub never_overlap_older : common_beginning older newer + rest_ending older newer ≤ length older
  never_overlap_older = omega (arith, start_in.in_first, rest_common.in_first, older_left)

  pub never_overlap_newer : common_beginning older newer + rest_ending older newer ≤ length newer
  never_overlap_newer = omega (arith, start_in.in_second, rest_common.in_second, newer_left)

  -- the older with the words between beginning and ending replaced by the changed ones is the newer
  pub replaced : take (common_beginning older newer) older ++ (changed_words older newer ++ drop (length older - rest_ending older newer) older) ≡ newer
  unfolding changed_words older_rest newer_rest
  replaced =
      ap₂ (λ (a b : List ℕ). a ++ (changed_words older newer ++ b)) start_in.same (older-ending ∙ rest_common.same)
      ∙ ap (λ (l : List ℕ). take n newer ++ l) (take-append-drop (length w - k) w)
      ∙ take-append-drop n newer
    where
      n : ℕ
      n = common_beginning older newer

      k : ℕ
      k = rest_ending older newer

      w : List ℕ
      w = newer_rest older newer

      older-ending : drop (length older - k) older ≡ drop (length (drop n older) - k) (drop n older)
      older-ending =
          let at : length older - k ≡ n + (length (drop n older) - k) = omega (arith, older_left, never_overlap_older) in
          ap (λ (j : ℕ). drop j older) at ∙ sym (drop-drop (length (drop n older) - k) n older)

-- ---- where nothing is new

-- an empty part is the whole rest in common
none_changed : (older newer : List ℕ) → length (newer_rest older newer) ≤ rest_ending older newer → changed_words older newer ≡ []
unfolding changed_words
none_changed older newer h =
    let none : length (newer_rest older newer) - rest_ending older newer ≡ 0 = omega arith in
    ap (λ (j : ℕ). take j (newer_rest older newer)) none

-- equal slices: the empty part at the end
pub equal_start : (xs : List ℕ) → changed_start xs xs ≡ words (length xs)
equal_start xs = ap words (omega (arith, all, (beginning_common xs xs).in_first))
  where
    all : length xs ≤ common_beginning xs xs
    all = beginning_longest (length xs) xs xs (record { in_first = omega arith; in_second = omega arith; same = refl })

pub equal_part : (xs : List ℕ) → changed_words xs xs ≡ []
equal_part xs = none_changed xs xs (omega (arith, newer_left xs xs, ap (λ (w : Words). w.0) (equal_start xs)))

-- what stands behind n elements of two lists joined, where the first is no longer than n
drop_past : (n : ℕ) (xs ys : List ℕ) → length xs ≤ n → drop n (xs ++ ys) ≡ drop (n - length xs) ys
drop_past n xs ys h =
    let at : n ≡ length xs + (n - length xs) = omega arith in
    ap (λ (j : ℕ). drop j (xs ++ ys)) at ∙ drop-append-add xs ys (n - length xs)

-- words only removed: the empty part
pub only_removed : (kept gone after : List ℕ) → changed_words (kept ++ (gone ++ after)) (kept ++ after) ≡ []
unfolding rest_ending older_rest newer_rest
only_removed kept gone after = none_changed older newer (ending_longest (length w) o w whole)
  where
    older : List ℕ
    older = kept ++ (gone ++ after)

    newer : List ℕ
    newer = kept ++ after

    n : ℕ
    n = common_beginning older newer

    o : List ℕ
    o = drop n older

    w : List ℕ
    w = drop n newer

    -- the beginning reaches at least over what was kept
    reached : length kept ≤ n
    reached =
        beginning_longest (length kept) older newer
        (record {
          in_first = omega (arith, length-append kept (gone ++ after));
          in_second = omega (arith, length-append kept after);
          same = take-append_seam kept (gone ++ after) ∙ sym (take-append_seam kept after);
        })

    -- what was removed is what the older rest has more
    more : length o ≡ length w + length gone
    more =
        omega (
          arith,
          older_left older newer,
          newer_left older newer,
          length-append kept (gone ++ after),
          length-append gone after,
          length-append kept after,
          (beginning_common older newer).in_second,
        )

    -- so the newer rest is an ending of the older one
    same : drop (length o - length w) o ≡ w
    same =
        let at : n + (length o - length w) ≡ n + length gone = omega (arith, more) in
        let left : n + length gone - length kept - length gone ≡ n - length kept = omega (arith, reached) in
        drop-drop (length o - length w) n older
        ∙ ap (λ (j : ℕ). drop j older) at
        ∙ drop_past (n + length gone) kept (gone ++ after) (omega (arith, reached))
        ∙ drop_past (n + length gone - length kept) gone after (omega (arith, reached))
        ∙ ap (λ (j : ℕ). drop j after) left
        ∙ sym (drop_past n kept after reached)

    whole : CommonEnding (length w) o w
    whole =
        let none : length w - length w ≡ 0 = omega arith in
        record {
          in_first = omega (arith, more);
          in_second = omega arith;
          same = same ∙ sym (ap (λ (j : ℕ). drop j w) none);
        }

-- ---- the part as the code takes it, in slices that run from a start to their end

pub part_words : (older newer : List ℕ) (n k : ℕ) → n ≡ common_beginning older newer → k ≡ common_ending (take (length older - n) (drop n older)) (take (length newer - n) (drop n newer)) → take (length (take (length newer - n) (drop n newer)) - k) (take (length newer - n) (drop n newer)) ≡ changed_words older newer
unfolding changed_words rest_ending older_rest newer_rest
part_words older newer n k e f = rw (f, to_the_end n older, to_the_end n newer, e)

pub part_place : (newer : Bor (List ℕ)) (older : List ℕ) (n : ℕ) → n ≡ common_beginning older newer.now → (newer.ref_ptr.0, n * 4 + newer.ref_ptr.1) ≡ word_place newer (changed_start older newer.now)
part_place newer older n e = λ i. (newer.ref_ptr.0, offset i)
  where
    offset : n * 4 + newer.ref_ptr.1 ≡ newer.ref_ptr.1 + 4 * common_beginning older newer.now
    offset = omega arith
