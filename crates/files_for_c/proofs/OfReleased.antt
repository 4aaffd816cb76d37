-- The packed answer to a card's file and a pack's: it is read back, and its bit is set exactly if they are released. Assumes nothing.
use mathlib.Core.Path.{◌≡◌, refl, sym, ap, ◌∙◌}
use mathlib.Core.Bool.{Bool, true, false, cond}
use mathlib.Core.List.{List}
use Prim.Native.Nat.{ℕ, ◌<◌}
use native.Mathlib.Omega.{arith}
use mir.Val.{bool_byte}
use Rattle.report.specs.Report.{released}
use Rattle.report.proofs.OfReport.{released_exactly_if}
use Rattle.input.specs.Input.{judged_of_files}
use Rattle.input.specs.declared.Judged.{Judged}
use Rattle.input.proofs.OfBounds.{files_narrow}
use Rattle.input.proofs.OfRelease.{files_answered, released_safely}
use Rattle.judge_for_c.proofs.OfPacked as packed
use Rattle.files_for_c.specs.Files.{released_bit, packed_answer, FilesRead}

bit_below : (j : Judged) → released_bit j < 2
bit_below j = by (released j.build j.verdict)
  where
    by : (x : Bool) → cond x 1 0 < 2
    by true = omega arith
    by false = omega arith

-- the bit that the library makes of an answer
pub bit_made : (x : Bool) → bool_byte x ≡ cond x 1 0
bit_made true = refl
bit_made false = refl

bit_set : (x : Bool) → ◌≡◌ {A = ℕ} (cond x 1 0) 1 → x ≡ true
bit_set true h = refl
bit_set false h = absurd (omega arith)

pub files_read : (text pack : List ℕ) (r : ℕ) → r ≡ packed_answer (judged_of_files text pack) → FilesRead text pack r
files_read text pack r e =
    let j = judged_of_files text pack in
    let back = packed.read_back j.verdict (files_narrow text pack) (released_bit j) (bit_below j) e in
    let yes = released_exactly_if j.build j.verdict in
    let answered = files_answered text pack in
    record {
      read_back = back;
      set_exactly_if = (
        λ h. answered.0 (yes.0 (bit_set (released j.build j.verdict) (sym back.is_set ∙ h))),
        λ q. back.is_set ∙ ap (λ (x : Bool). cond x 1 0) (yes.1 (answered.1 q)),
      );
      then_safe = released_safely text pack;
    }
