-- Settings as the code writes them: keys and values side by side, a line for each two. Assumes nothing.
use mathlib.Core.Path.{◌≡◌, refl, ap₂}
use mathlib.Core.List.{List, [], ◌∷◌, ◌++◌, map, append_assoc}
use mathlib.Core.Logic.{◌⊎◌, ⊎_elim}
use Prim.Native.Nat.{ℕ}
use native.Mathlib.Omega.{arith}
use lib.ListN.{length}
use Rattle.std.specs.Borrow.{Bor}
use Rattle.std.specs.List.{zip}
use Rattle.ascii.specs.Ascii.{ascii}
use Rattle.ascii.specs.Decimal.{decimal}
use Rattle.report.specs.Report.{joined}
use Rattle.report.specs.Settings.{keys_lent, setting_lines, settings_text}
use Rattle.report.specs.Code.{text_line}

-- the line of a key and a number
abbrev pub setting_line : Bor (List ℕ) × ℕ → List ℕ
setting_line x = text_line x.0.now (decimal x.1)

-- the lines of keys and values side by side
abbrev pub lines_for : List (Bor (List ℕ)) → List ℕ → List (List ℕ)
lines_for keys values = map setting_line (zip keys values)

pub settings_lines : (keys : List (Bor (List ℕ))) (values : List ℕ) → settings_text (keys_lent keys) values ≡ joined (lines_for keys values)
unfolding settings_text setting_lines
settings_lines [] values = refl
settings_lines (key ∷ keys) [] = refl
settings_lines (key ∷ keys) (value ∷ values) =
    ap₂ (λ (l m : List ℕ). l ++ m) (append_assoc key.now (decimal value) (ascii "\n")) (settings_lines keys values)

-- the next two, and where there are no two any more
pub lines_next : {keys more : List (Bor (List ℕ))} {values others : List ℕ} {key : Bor (List ℕ)} {value : ℕ}
    → (keys ≡ key ∷ more) × (values ≡ value ∷ others) → lines_for keys values ≡ setting_line (key, value) ∷ lines_for more others
lines_next h = rw (h.0, h.1)

pub lines_end : (keys : List (Bor (List ℕ))) (values : List ℕ) → (length keys ≡ 0) ⊎ (length values ≡ 0) → lines_for keys values ≡ []
lines_end keys values h = ⊎_elim (λ e. rw (nothing keys e)) (λ e. rw (nothing values e) (no_values keys)) h
  where
    nothing : {A : Type 0} (l : List A) → length l ≡ 0 → l ≡ []
    nothing [] e = refl
    nothing (x ∷ l) e = absurd (omega (arith, e))

    no_values : (keys : List (Bor (List ℕ))) → lines_for keys [] ≡ []
    no_values [] = refl
    no_values (key ∷ keys) = refl
