-- What is written to the part of a buffer from a start on is written at the start, also where the start is behind the words and the part is empty
-- (docs/landings/02-fetches-in-full.md names the law). Assumes nothing.
use mathlib.Core.Path.{◌≡◌, refl, sym, ap, ◌∙◌, subst}
use mathlib.Core.Bool.{Bool, true, false}
use mathlib.Core.List.{List, [], ◌∷◌, ◌++◌, append-nil}
use Prim.Native.Nat.{ℕ, ◌+◌, ◌-◌, ◌≤◌, ◌<◌}
use native.Mathlib.Omega.{arith}
use lib.Dec.{leb}
use lib.ListN.{length, take, drop, drop_of_length-le}
use borrow.Author.Tests.{lt-leb, leb-true, leb-false}
use borrow.Rule.Slice.PartMut.{put_mid}
use Rattle.std.specs.Prelude.{Option, Some, None, ⊤, min}
use Rattle.std.proofs.lemmas.List.{take_all}
use Rattle.laws.proofs.OfLists.{to_the_end}
use Rattle.laws.proofs.OfTests.{by_test_lem}
use Rattle.units.specs.Units.{words}
use Rattle.units.specs.declared.Words.{Words}
use Rattle.microcode.specs.Answer.{Encoded}
use Rattle.microcode.specs.Buffer.{write_answer, write_words}
use Rattle.microcode.proofs.OfParts.{back_again}
use Rattle.microcode.proofs.OfParts as parts

-- words of a record, if they are of one, are some
abbrev pub SomeWords : Option (List ℕ) → Type 0
SomeWords None = ⊤
SomeWords (Some ws) = 0 < length ws

-- what is made of the part from a place on is what is made of the buffer
abbrev AsThere : Option (List ℕ) → List ℕ → Words → ℕ → Type 0
AsThere w l start from =
    (r : Encoded) (p : List ℕ) → r ≡ write_answer w (take (length l - from) (drop from l)) (words 0)
    → p ≡ write_words w (take (length l - from) (drop from l)) (words 0)
    → (r ≡ write_answer w l start) × (put_mid from (length l - from) l p ≡ write_words w l start)

-- ---- a start behind the words

outside_answer : (w : Option (List ℕ)) (l : List ℕ) (start : Words) → SomeWords w → length l < start.0 → write_answer w [] (words 0) ≡ write_answer w l start
outside_answer None l start s h = refl
outside_answer (Some ws) l start s h = rw (lt-leb (0 + length ws) 0 (omega (arith, s)), lt-leb (start.0 + length ws) (length l) (omega (arith, h)))

outside_words : (w : Option (List ℕ)) (l : List ℕ) (start : Words) → SomeWords w → length l < start.0 → take (length l) l ++ write_words w [] (words 0) ≡ write_words w l start
outside_words None l start s h = append-nil (take (length l) l) ∙ take_all (length l) l (omega arith)
outside_words (Some ws) l start s h =
    rw (lt-leb (0 + length ws) 0 (omega (arith, s)), lt-leb (start.0 + length ws) (length l) (omega (arith, h)))
    (append-nil (take (length l) l) ∙ take_all (length l) l (omega arith))

nothing_left : (l : List ℕ) → take (length l - length l) (drop (length l) l) ≡ []
nothing_left l = to_the_end (length l) l ∙ drop_of_length-le l (omega arith)

outside : (w : Option (List ℕ)) (l : List ℕ) (start : Words) → SomeWords w → length l < start.0 → AsThere w l start (length l)
outside w l start s h r p x y =
    let none = nothing_left l in (
      x ∙ ap (λ (q : List ℕ). write_answer w q (words 0)) none ∙ outside_answer w l start s h,
      back_again (length l) l p
          ∙ ap (λ (q : List ℕ). take (length l) l ++ q) (y ∙ ap (λ (q : List ℕ). write_words w q (words 0)) none)
          ∙ outside_words w l start s h,
    )

-- ---- any start

pub write_part : (w : Option (List ℕ)) (l : List ℕ) (start : Words) (from : ℕ) → SomeWords w → from ≡ min start.0 (length l) → AsThere w l start from
write_part w l start from s e =
    by_test_lem (leb start.0 (length l))
    (λ t. let b = leb-true start.0 (length l) t in subst (AsThere w l start) (inside b) (parts.write_part w l start b))
    (λ t. let b = leb-false start.0 (length l) t in subst (AsThere w l start) (behind b) (outside w l start s b))
  where
    inside : start.0 ≤ length l → start.0 ≡ from
    inside b = omega (arith, e, b)

    behind : length l < start.0 → length l ≡ from
    behind b = omega (arith, e, b)
