-- Rooms that are long enough: what stands in an input or a file behind as many bytes as its room has changes no report and no explanation, however
-- long the input or the file is; and no report and no explanation is longer than its room.
use Rattle.std.specs.Prelude.{◌≡◌, List, ℕ, ◌≤◌, length, take}
use Rattle.input.specs.Input.{report_of, report_of_files}
use Rattle.explain.specs.Lines.{lines_of_input, lines_of_files}

abbrev pub HoldsInput : List ℕ → Type 0
HoldsInput room =
    (input : List ℕ)
    → (report_of (take (length room) input) ≡ report_of input) × (lines_of_input (take (length room) input) ≡ lines_of_input input)

abbrev pub HoldsCard : List ℕ → Type 0
HoldsCard room =
    (text pack : List ℕ)
    → (report_of_files (take (length room) text) pack ≡ report_of_files text pack)
    × (lines_of_files (take (length room) text) pack ≡ lines_of_files text pack)

abbrev pub HoldsPack : List ℕ → Type 0
HoldsPack room =
    (text pack : List ℕ)
    → (report_of_files text (take (length room) pack) ≡ report_of_files text pack)
    × (lines_of_files text (take (length room) pack) ≡ lines_of_files text pack)

abbrev pub HoldsReport : List ℕ → Type 0
HoldsReport room =
    ((input : List ℕ) → length (report_of input) ≤ length room)
    × ((text pack : List ℕ) → length (report_of_files text pack) ≤ length room)

abbrev pub HoldsExplanation : List ℕ → Type 0
HoldsExplanation room =
    ((input : List ℕ) → length (lines_of_input input) ≤ length room)
    × ((text pack : List ℕ) → length (lines_of_files text pack) ≤ length room)
