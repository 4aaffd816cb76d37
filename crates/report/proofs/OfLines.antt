-- The lines as the code has them, one behind the other: whether they have room, and where they stand once they are put. Assumes nothing.
use mathlib.Core.Path.{◌≡◌, refl, sym, ap, subst, ◌∙◌}
use mathlib.Core.Bool.{Bool, true, false, cond}
use Rattle.std.specs.Prelude.{Some, None}
use Rattle.std.proofs.lemmas.Option.{none-some, cond_some}
use mathlib.Core.List.{List, [], ◌∷◌, ◌++◌, append-nil, append_assoc}
use Prim.Native.Nat.{ℕ, ◌+◌, ◌-◌, ◌≤◌, ◌<◌}
use native.Mathlib.Omega.{arith}
use borrow.Author.Tests.{le-leb, lt-leb, leb-true, leb-false}
use lib.Dec.{leb}
use native.Mathlib.Numerals.{add-one}
use lib.ListN.{length, get_or, drop, length-append, drop_of_length-le}
use lib.Seq.{drop-cons}
use Rattle.report.specs.Report.{joined}
use Rattle.std.specs.Borrow.{Bor}
use Rattle.report.specs.declared.lines.Value.{Value}
use Rattle.report.specs.Code.{Appended, text_line, value_text, text_lines}
use Rattle.report.proofs.OfBuffer.{both_appended, as_bytes}

-- ---- whether they have room

-- the lines passed were taken off the room, and `rest` are left
pub record Fitting (all rest : List (List ℕ)) (room left : ℕ) : Type 0 where
  pub taken : length (joined all) + left ≡ length (joined rest) + room

pub all_taken : {all : List (List ℕ)} {room left : ℕ} → Fitting all [] room left → true ≡ leb (length (joined all)) room
all_taken {all} {room} w = sym (le-leb (length (joined all)) room (omega (arith, w.taken)))

module _ {all rest : List (List ℕ)} {line : List ℕ} {room left : ℕ} (w : Fitting all (line ∷ rest) room left) where
  pub line_too_long : left < length line → false ≡ leb (length (joined all)) room
  line_too_long l = sym (lt-leb (length (joined all)) room (omega (arith, w.taken, length-append line (joined rest))))

  pub line_taken : length line ≤ left → Fitting all rest room (left - length line)
  line_taken l = record { taken = omega (arith, w.taken, length-append line (joined rest)) }

-- what is left of the room behind a line, as the code answers it
module _ (n left : ℕ) where
  pub too_long : None ≡ cond (leb n left) (Some (left - n)) None → left < n
  too_long h = by (leb n left) refl h
    where
      by : (x : Bool) → leb n left ≡ x → None ≡ cond x (Some (left - n)) None → left < n
      by true e k = absurd (none-some (left - n) k)
      by false e k = leb-false n left e

  pub left_over : {behind : ℕ} → Some behind ≡ cond (leb n left) (Some (left - n)) None → (n ≤ left) × (left - n ≡ behind)
  left_over {behind} h = let w = cond_some (leb n left) (left - n) behind (sym h) in (leb-true n left w.0, w.1)

-- ---- one put behind the other

-- the first bytes of the buffer are the lines passed, `so_far`, and `rest` are left
pub record Putting (all rest : List (List ℕ)) (buffer later : List ℕ) (end : ℕ) : Type 0 where
  pub bytes : List ℕ
  pub so_far : Appended 0 bytes buffer later end
  pub all_of : bytes ++ joined rest ≡ joined all
  pub same_length : length later ≡ length buffer

pub all_put : {all : List (List ℕ)} {buffer later : List ℕ} {end : ℕ} → Putting all [] buffer later end → Appended 0 (joined all) buffer later end
all_put w = as_bytes (sym (append-nil w.bytes) ∙ w.all_of) w.so_far

module _ {all rest : List (List ℕ)} {line buffer later : List ℕ} {end : ℕ} (w : Putting all (line ∷ rest) buffer later end) where
  pub line_room : length (joined all) ≤ length buffer → end + length line ≤ length later
  line_room l =
      omega (arith, w.so_far.ends, w.same_length, ap length w.all_of, length-append w.bytes (line ++ joined rest), length-append line (joined rest))

  pub line_put : {last : ℕ} {after : List ℕ} → length after ≡ length later → Appended end line later after last → Putting all rest buffer after last
  line_put {last} {after} same p =
      record {
        bytes = w.bytes ++ line;
        so_far = both_appended w.so_far p;
        all_of = append_assoc w.bytes line (joined rest) ∙ w.all_of;
        same_length = same ∙ w.same_length;
      }

-- ---- the code's lines by their places

abbrev Lines : Type 0
Lines = List (Bor (List ℕ) × Value)

abbrev line_at : Bor (List ℕ) × Value → List ℕ
line_at l = text_line l.0.now (value_text l.1)

module _ (lines : Lines) (i : ℕ) (other : Bor (List ℕ) × Value) (h : i < length lines) where
  next_line : text_lines (drop i lines) ≡ line_at (get_or lines i other) ∷ text_lines (drop (i + 1) lines)
  next_line = rw (drop-cons lines i other, add-one)

  pub fitting_here : {all : List (List ℕ)} {room left : ℕ} → Fitting all (text_lines (drop i lines)) room left
      → Fitting all (line_at (get_or lines i other) ∷ text_lines (drop (i + 1) lines)) room left
  fitting_here {all} {room} {left} w = subst (λ (rest : List (List ℕ)). Fitting all rest room left) next_line w

  pub putting_here : {all : List (List ℕ)} {buffer later : List ℕ} {end : ℕ} → Putting all (text_lines (drop i lines)) buffer later end
      → Putting all (line_at (get_or lines i other) ∷ text_lines (drop (i + 1) lines)) buffer later end
  putting_here {all} {buffer} {later} {end} w = subst (λ (rest : List (List ℕ)). Putting all rest buffer later end) next_line w

pub no_lines_left : (lines : Lines) (i : ℕ) → length lines ≤ i → text_lines (drop i lines) ≡ []
no_lines_left lines i h = ap text_lines (drop_of_length-le lines h)
