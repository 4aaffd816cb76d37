-- Laws of what is written to the part of a buffer from a start on, over any number of words: docs/landings/02-fetches-in-full.md names them. Assumes
-- nothing.
use mathlib.Core.Path.{◌≡◌, refl, sym, ap, ap₂, ◌∙◌}
use mathlib.Core.Bool.{Bool, true, false, cond}
use mathlib.Core.List.{List, [], ◌∷◌, ◌++◌, append-nil}
use Prim.Native.Nat.{ℕ, suc, ◌+◌, ◌-◌, ◌≤◌}
use native.Mathlib.Nat.{le_of_eq, le-add_right, add-zero, add-suc}
use native.Mathlib.Omega.{arith}
use lib.Dec.{leb}
use lib.ListN.{length, take, drop, set, take-append-drop, length-drop, drop_of_length-le}
use lib.Seq.{sets, take-set-le, drop-set-add, drop-drop}
use borrow.Author.Tests.{le-leb, lt-leb, leb-true, leb-false}
use borrow.Rule.Slice.PartMut.{put_mid}
use Rattle.std.specs.Prelude.{Option, Some, None, Err}
use Rattle.laws.proofs.OfLists.{to_the_end}
use Rattle.laws.proofs.OfTests.{by_test_lem}
use Rattle.units.specs.Units.{words}
use Rattle.units.specs.declared.Words.{Words}
use Rattle.microcode.specs.Answer.{Encoded, Done}
use Rattle.microcode.specs.declared.EncodeError.TheVariants.{NoRoom}
use Rattle.microcode.specs.Buffer.{write_answer, write_words}
use Rattle.microcode.specs.Code.{put_answer, put_words}

-- stores in what lies from a on are stores behind a
stored_behind : (a j : ℕ) (vs l : List ℕ) → take a l ++ sets (drop a l) j vs ≡ sets l (a + j) vs
stored_behind a j [] l = take-append-drop a l
stored_behind a j (v ∷ vs) l =
    let m = set l (a + j) v in
    ap₂ (λ (x y : List ℕ). x ++ sets y (suc j) vs) (sym (take-set-le a l (a + j) v (le-add_right a j))) (sym (drop-set-add a l j v))
    ∙ stored_behind a (suc j) vs m
    ∙ ap (λ (k : ℕ). sets m k vs) (add-suc a j)

pub stored_at : (a : ℕ) (l vs : List ℕ) → take a l ++ sets (drop a l) 0 vs ≡ sets l a vs
stored_at a l vs = stored_behind a 0 vs l ∙ ap (λ (k : ℕ). sets l k vs) (add-zero a)

-- n words have room in it exactly if they have at a in the buffer
pub part_fits : (n a : ℕ) (l : List ℕ) → a ≤ length l → leb n (length (drop a l)) ≡ leb (a + n) (length l)
part_fits n a l h =
    by_test_lem (leb (a + n) (length l))
    (λ e. let k = leb-true (a + n) (length l) e in le-leb n (length (drop a l)) (omega (arith, k, h, length-drop a l)) ∙ sym e)
    (λ e. let k = leb-false (a + n) (length l) e in lt-leb n (length (drop a l)) (omega (arith, k, h, length-drop a l)) ∙ sym e)

-- the part of a buffer from a on, as it is lent on and as it comes back
pub back_again : (a : ℕ) (l p : List ℕ) → put_mid a (length l - a) l p ≡ take a l ++ p
back_again a l p =
    ap (λ (y : List ℕ). take a l ++ (p ++ y)) (drop_of_length-le (drop a l) (le_of_eq (length-drop a l)))
    ∙ ap (λ (x : List ℕ). take a l ++ x) (append-nil p)

from_zero : (n : ℕ) → 0 + n ≡ n
from_zero n = omega arith

-- what is written to the part from a start on is written at the start
module _ (w : Option (List ℕ)) (l : List ℕ) (start : Words) (b : start.0 ≤ length l) where
  part_answer : write_answer w (drop start.0 l) (words 0) ≡ write_answer w l start
  part_answer = by w
    where
      by : (o : Option (List ℕ)) → write_answer o (drop start.0 l) (words 0) ≡ write_answer o l start
      by None = refl
      by (Some ws) =
          ap (λ (k : ℕ). cond (leb k (length (drop start.0 l))) Done (Err NoRoom)) (from_zero (length ws))
          ∙ ap (λ (t : Bool). cond t Done (Err NoRoom)) (part_fits (length ws) start.0 l b)

  part_words : take start.0 l ++ write_words w (drop start.0 l) (words 0) ≡ write_words w l start
  part_words = by w
    where
      there : (ws : List ℕ) (t : Bool)
          → take start.0 l ++ cond t (ws ++ drop (length ws) (drop start.0 l)) (drop start.0 l)
          ≡ cond t (take start.0 l ++ (ws ++ drop (start.0 + length ws) l)) l
      there ws true = ap (λ (r : List ℕ). take start.0 l ++ (ws ++ r)) (drop-drop (length ws) start.0 l)
      there ws false = take-append-drop start.0 l

      by : (o : Option (List ℕ)) → take start.0 l ++ write_words o (drop start.0 l) (words 0) ≡ write_words o l start
      by None = take-append-drop start.0 l
      by (Some ws) =
          ap (λ (k : ℕ). take start.0 l ++ cond (leb k (length (drop start.0 l))) (ws ++ drop k (drop start.0 l)) (drop start.0 l)) (from_zero (length ws))
          ∙ ap (λ (t : Bool). take start.0 l ++ cond t (ws ++ drop (length ws) (drop start.0 l)) (drop start.0 l)) (part_fits (length ws) start.0 l b)
          ∙ there ws (leb (start.0 + length ws) (length l))

  pub write_part : (r : Encoded) (p : List ℕ) → r ≡ write_answer w (take (length l - start.0) (drop start.0 l)) (words 0)
      → p ≡ write_words w (take (length l - start.0) (drop start.0 l)) (words 0)
      → (r ≡ write_answer w l start) × (put_mid start.0 (length l - start.0) l p ≡ write_words w l start)
  write_part r p x y =
      let part = to_the_end start.0 l in (
        x ∙ ap (λ (q : List ℕ). write_answer w q (words 0)) part ∙ part_answer,
        back_again start.0 l p
            ∙ ap (λ (q : List ℕ). take start.0 l ++ q) (y ∙ ap (λ (q : List ℕ). write_words w q (words 0)) part)
            ∙ part_words,
      )

-- the same of the words of a record, as the code puts them there
pub write_put : (ws l : List ℕ) (start : Words) (r : Encoded) (p : List ℕ) → start.0 ≤ length l
    → r ≡ put_answer ws (take (length l - start.0) (drop start.0 l))
    → p ≡ put_words ws (take (length l - start.0) (drop start.0 l))
    → (r ≡ write_answer (Some ws) l start) × (put_mid start.0 (length l - start.0) l p ≡ write_words (Some ws) l start)
write_put ws l start r p b x y =
    let part = take (length l - start.0) (drop start.0 l) in
    let e = sym (from_zero (length ws)) in
    write_part (Some ws) l start b r p
    (x ∙ ap (λ (k : ℕ). cond (leb k (length part)) Done (Err NoRoom)) e)
    (y ∙ ap (λ (k : ℕ). cond (leb k (length part)) (ws ++ drop k part) part) e)
