-- A setting is read key by key; and a key and a number that are written are read back, since no good key begins another. Assumes nothing.
use mathlib.Core.Path.{◌≡◌, refl, sym, ap, ap₂, ◌∙◌}
use mathlib.Core.Bool.{true, false, cond, not, ◌&&◌, false≢true}
use mathlib.Core.List.{List, [], ◌∷◌, ◌++◌}
use Rattle.std.specs.Prelude.{Option, None, Some}
use Rattle.std.specs.Borrow.{Bor}
use Rattle.std.specs.Cmp.Lexicographic.{pointwise}
use Prim.Native.Nat.{ℕ, zero, suc, ◌+◌, ◌^◌, ◌≤◌, ◌<◌}
use native.Mathlib.Nat.{add-zero, zero-add}
use native.Mathlib.Numerals.{add-one}
use native.Mathlib.Omega.{arith}
use borrow.Author.Tests.{eq-eqb, eqb-true, eqb-false, le-leb, not-true}
use lib.Dec.{eqb, leb}
use lib.ListN.{length, get_or, take, drop, drop_of_length-le}
use lib.Seq.{drop-append_seam, drop-cons}
use Rattle.laws.proofs.OfTests.{both, both_hold, by_test_lem}
use Rattle.laws.proofs.OfCases.{impossible}
use Rattle.ascii.specs.Decimal.{decimal}
use Rattle.card.specs.Text.{begins_with, same_as, number_in, of_32_bits}
use Rattle.card.proofs.OfKeys.{begins_as}
use Rattle.card.proofs.OfWritten.{begins_own, allowed_read}
use Rattle.report.specs.Settings.{equals_sign, keys_lent}
use Rattle.settings.specs.Setting.{Setting, Is, NoName, NoNumber, value_read, setting_from, setting_of}
use Rattle.settings.specs.ReadBack.{is_key, none_is, good_keys, ReadBack}

-- ---- no good key begins another

-- a key ends at the first equals sign of what begins with it
one_key : (k l t : List ℕ) → is_key k ≡ true → is_key l ≡ true → begins_with k (l ++ t) ≡ true → k ≡ l
unfolding begins_with
one_key [] l t p q b = absurd (false≢true p)
one_key (x ∷ k) [] t p q b = absurd (false≢true q)
one_key (x ∷ []) (y ∷ []) t p q b = ap (λ (z : ℕ). z ∷ []) (eqb-true x equals_sign p ∙ sym (eqb-true y equals_sign q))
one_key (x ∷ []) (y ∷ z ∷ l) t p q b =
    let other = eqb-false y equals_sign (not-true (eqb y equals_sign) (both (not (eqb y equals_sign)) (is_key (z ∷ l)) q).0) in
    absurd (other (eqb-true y x (both (eqb y x) true b).0 ∙ eqb-true x equals_sign p))
one_key (x ∷ w ∷ k) (y ∷ []) t p q b =
    let other = eqb-false x equals_sign (not-true (eqb x equals_sign) (both (not (eqb x equals_sign)) (is_key (w ∷ k)) p).0) in
    absurd (other (sym (eqb-true y x (both (eqb y x) (begins_with (w ∷ k) t) b).0) ∙ eqb-true y equals_sign q))
one_key (x ∷ w ∷ k) (y ∷ z ∷ l) t p q b =
    let c = both (eqb y x) (begins_with (w ∷ k) ((z ∷ l) ++ t)) b in
    ap₂ (λ (n : ℕ) (ns : List ℕ). n ∷ ns) (sym (eqb-true y x c.0))
    (one_key (w ∷ k) (z ∷ l) t (both (not (eqb x equals_sign)) (is_key (w ∷ k)) p).1 (both (not (eqb y equals_sign)) (is_key (z ∷ l)) q).1 c.1)

same_self : (k : List ℕ) → same_as k k ≡ true
unfolding same_as
same_self [] = refl
same_self (x ∷ k) = both_hold (eqb x x) (same_as k k) (eq-eqb x x refl) (same_self k)

none_at : (key : List ℕ) (keys : List (List ℕ)) (i : ℕ) → none_is key keys ≡ true → i < length keys → key ≡ get_or keys i [] → ⊥
none_at key [] i h l e = omega arith
none_at key (k ∷ keys) zero h l e =
    let other = not-true (same_as key k) (both (not (same_as key k)) (none_is key keys) h).0 in
    false≢true (sym other ∙ ap (same_as key) (sym e) ∙ same_self key)
none_at key (k ∷ keys) (suc i) h l e = none_at key keys i (both (not (same_as key k)) (none_is key keys) h).1 (omega arith) e

good_at : (keys : List (List ℕ)) (i : ℕ) → good_keys keys ≡ true → i < length keys → is_key (get_or keys i []) ≡ true
good_at [] i h l = absurd (omega arith)
good_at (k ∷ keys) zero h l = (both (is_key k) (none_is k keys && good_keys keys) h).0
good_at (k ∷ keys) (suc i) h l =
    good_at keys i (both (none_is k keys) (good_keys keys) (both (is_key k) (none_is k keys && good_keys keys) h).1).1 (omega arith)

-- ---- what is written is read back

read_from : (from : ℕ) (keys : List (List ℕ)) (index n : ℕ) → good_keys keys ≡ true → index < length keys → n < 2 ^ 32
    → setting_from from keys (get_or keys index [] ++ decimal n) ≡ Is (from + index) n
unfolding setting_from
read_from from [] index n g l h = absurd (omega arith)
read_from from (k ∷ keys) zero n g l h =
    let fits : of_32_bits n ≡ true = both_hold (leb 0 n) (leb n 4294967295) (le-leb 0 n (omega arith)) (le-leb n 4294967295 (omega arith)) in
    rw (begins_own k (decimal n), drop-append_seam k (decimal n), allowed_read of_32_bits n fits) (ap (λ (i : ℕ). Is i n) (sym (add-zero from)))
read_from from (k ∷ keys) (suc index) n g l h =
    let w = both (is_key k) (none_is k keys && good_keys keys) g in
    let v = both (none_is k keys) (good_keys keys) w.1 in
    let line = get_or keys index [] ++ decimal n in
    let later : begins_with k line ≡ false =
    by_test_lem (begins_with k line)
    (λ b. absurd (none_at k keys index v.0 (omega arith) (one_key k (get_or keys index []) (decimal n) w.0 (good_at keys index v.1 (omega arith)) b)))
    (λ b. b) in
    let next : suc from + index ≡ from + suc index = omega arith in
    rw later (read_from (suc from) keys index n v.1 (omega arith) h ∙ ap (λ (i : ℕ). Is i n) next)

pub read_back : (keys : List (List ℕ)) (index n : ℕ) → good_keys keys ≡ true → index < length keys → n < 2 ^ 32
    → setting_of keys (get_or keys index [] ++ decimal n) ≡ Is index n
read_back keys index n g l h = read_from 0 keys index n g l h ∙ ap (λ (i : ℕ). Is i n) (zero-add index)

-- so both clauses of the contract hold of what the definition says
pub as_said : (keys : List (List ℕ)) (bytes : List ℕ) {r : Setting} → r ≡ setting_of keys bytes → (r ≡ setting_of keys bytes) × ReadBack keys bytes r
as_said keys bytes e = (e, λ index n g l h b. e ∙ ap (setting_of keys) b ∙ read_back keys index n g l h)

-- ---- an index is one of a key

-- an answer says what it was made of
is_parts : {i j m n : ℕ} → Is i m ≡ Is j n → (i ≡ j) × (m ≡ n)
is_parts {i} {j} {m} {n} e =
    let same : (i, m) ≡ (j, n) = cc in
    (ap (λ (p : ℕ × ℕ). p.0) same, ap (λ (p : ℕ × ℕ). p.1) same)

index_from : (from : ℕ) (keys : List (List ℕ)) (bytes : List ℕ) {index n : ℕ} → setting_from from keys bytes ≡ Is index n → index < from + length keys
unfolding setting_from
index_from from [] bytes e = impossible cc
index_from from (k ∷ keys) bytes {index} {n} e =
    by_test_lem (begins_with k bytes)
    (λ t. here (number_in of_32_bits (drop (length k) bytes)) (rw t at e))
    (λ t. let later = index_from (suc from) keys bytes (rw t at e) in omega arith)
  where
    here : (o : Option ℕ) → value_read from o ≡ Is index n → index < from + suc (length keys)
    here None p = impossible cc
    here (Some m) p = let same = is_parts p in omega (arith, same.0)

pub index_within : (keys : List (List ℕ)) (bytes : List ℕ) {index n : ℕ} → setting_of keys bytes ≡ Is index n → index < length keys
index_within keys bytes e = let below = index_from 0 keys bytes e in omega arith

-- ---- key by key, as a loop reads

-- the keys before `index` do not begin the setting
pub record Searched (keys : List (Bor (List ℕ))) (bytes : List ℕ) (index : ℕ) : Type 0 where
  pub left : setting_of (keys_lent keys) bytes ≡ setting_from index (keys_lent (drop index keys)) bytes

module _ {keys : List (Bor (List ℕ))} {bytes : List ℕ} {index : ℕ} (w : Searched keys bytes index) where
  pub all_searched : length keys ≤ index → NoName ≡ setting_of (keys_lent keys) bytes
  unfolding setting_from
  all_searched h = sym (w.left ∙ ap (λ (l : List (Bor (List ℕ))). setting_from index (keys_lent l) bytes) (drop_of_length-le keys h))

  module _ (other : Bor (List ℕ)) (h : index < length keys) where
    abbrev key : List ℕ
    key = (get_or keys index other).now

    split : setting_of (keys_lent keys) bytes ≡ cond (begins_with key bytes) (value_read index (number_in of_32_bits (drop (length key) bytes))) (setting_from (suc index) (keys_lent (drop (suc index) keys)) bytes)
    unfolding setting_from
    split = w.left ∙ ap (λ (l : List (Bor (List ℕ))). setting_from index (keys_lent l) bytes) (drop-cons keys index other h)

    -- as the library answers for the key
    pub key_other : pointwise eqb (take (length key) bytes) key ≡ false → Searched keys bytes (index + 1)
    key_other e =
        record {
          left =
              split
              ∙ rw (sym (begins_as key bytes) ∙ e)
              (ap (λ (i : ℕ). setting_from i (keys_lent (drop i keys)) bytes) (sym (add-one index)));
        }

    module _ (e : pointwise eqb (take (length key) bytes) key ≡ true) {value : List ℕ} (v : value ≡ drop (length key) bytes) where
      found_key : setting_of (keys_lent keys) bytes ≡ value_read index (number_in of_32_bits value)
      found_key = split ∙ rw (sym (begins_as key bytes) ∙ e, v)

      pub key_number : {n : ℕ} → Some n ≡ number_in of_32_bits value → Is index n ≡ setting_of (keys_lent keys) bytes
      key_number p = sym (found_key ∙ ap (value_read index) (sym p))

      pub key_no_number : None ≡ number_in of_32_bits value → NoNumber ≡ setting_of (keys_lent keys) bytes
      key_no_number p = sym (found_key ∙ ap (value_read index) (sym p))
