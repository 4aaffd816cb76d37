-- Bytes put into a buffer one run behind the other: two runs in a row are one, and a run from the start is the buffer that the
-- contracts of the writers give. Assumes nothing.
use mathlib.Core.Path.{◌≡◌, refl, sym, ap, ap₂, subst, ◌∙◌}
use mathlib.Core.Bool.{Bool, true, false, cond}
use mathlib.Core.List.{List, [], ◌++◌, append-nil, append_assoc}
use Prim.Native.Nat.{ℕ, ◌≤◌, ◌<◌}
use native.Mathlib.Nat.{add-zero}
use native.Mathlib.Omega.{arith}
use borrow.Author.Tests.{le-leb, lt-leb, leb-true}
use lib.ListN.{length, take, drop, length-append, take-append-drop}
use lib.Seq.{drop-drop}
use Rattle.laws.proofs.OfCases.{impossible}
use Rattle.report.specs.Buffer.{Length, NoRoom, room, written_of, buffer_after}
use Rattle.report.specs.Code.{Appended}

-- nothing put
pub none_appended : (at : ℕ) (buffer : List ℕ) → Appended at [] buffer buffer at
none_appended at buffer = record { ends = sym (add-zero at); written = sym (append-nil (take at buffer)); kept = refl }

-- one run behind the other
pub both_appended : {at middle end : ℕ} {xs ys a b c : List ℕ} → Appended at xs a b middle → Appended middle ys b c end → Appended at (xs ++ ys) a c end
both_appended {at} {middle} {end} {xs} {ys} {a} {b} {c} f s =
    record {
      ends = omega (arith, f.ends, s.ends, length-append xs ys);
      written =
          s.written ∙ ap (λ (l : List ℕ). l ++ ys) f.written ∙ append_assoc (take at a) xs ys;
      kept = s.kept ∙ further b ∙ ap (drop (length ys)) f.kept ∙ sym (further a);
    }
  where
    further : (l : List ℕ) → drop end l ≡ drop (length ys) (drop middle l)
    further l = ap (λ (k : ℕ). drop k l) s.ends ∙ sym (drop-drop (length ys) middle l)

-- a run by another name
pub as_bytes : {at end : ℕ} {xs ys earlier later : List ℕ} → xs ≡ ys → Appended at xs earlier later end → Appended at ys earlier later end
as_bytes {at} {end} {xs} {ys} {earlier} {later} e a = subst (λ (l : List ℕ). Appended at l earlier later end) e a

-- ---- the whole

pub whole_buffer : (bytes buffer later : List ℕ) (end : ℕ) → Appended 0 bytes buffer later end → length bytes ≤ length buffer → later ≡ buffer_after bytes buffer
unfolding buffer_after
whole_buffer bytes buffer later end a h =
    rw (le-leb (length bytes) (length buffer) h)
    (sym (take-append-drop end later)
    ∙ ap₂ (λ (x y : List ℕ). x ++ y) a.written (a.kept ∙ ap (λ (k : ℕ). drop k buffer) at_end))
  where
    at_end : end ≡ length bytes
    at_end = omega (arith, a.ends)

pub whole_length : (bytes buffer : List ℕ) (end : ℕ) → end ≡ length bytes → length bytes ≤ length buffer → Length end ≡ written_of bytes buffer
unfolding written_of
whole_length bytes buffer end e h = rw (le-leb (length bytes) (length buffer) h) (ap Length e)

pub no_room_answer : (bytes buffer : List ℕ) → length buffer < length bytes → NoRoom ≡ written_of bytes buffer
unfolding written_of
no_room_answer bytes buffer h = rw (lt-leb (length bytes) (length buffer) h)

pub no_room_buffer : (bytes buffer : List ℕ) → length buffer < length bytes → buffer ≡ buffer_after bytes buffer
unfolding buffer_after
no_room_buffer bytes buffer h = rw (lt-leb (length bytes) (length buffer) h)

-- what a caller learns from the answer: so many bytes of its buffer are the report
pub written_within : (bytes buffer : List ℕ) (n : ℕ) → Length n ≡ written_of bytes buffer → n ≤ length buffer
unfolding written_of
written_within bytes buffer n e = by (room bytes buffer) refl e
  where
    by : (t : Bool) → room bytes buffer ≡ t → Length n ≡ cond t (Length (length bytes)) NoRoom → n ≤ length buffer
    by true h e =
        let same : n ≡ length bytes = cc in
        omega (arith, leb-true (length bytes) (length buffer) h)
    by false h e = impossible cc
