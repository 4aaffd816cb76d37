-- The lines of settings, set one after the other into any values, make them the values that were written. Assumes nothing.
use mathlib.Core.Path.{◌≡◌, refl, sym, ap, ◌∙◌}
use mathlib.Core.Bool.{true}
use mathlib.Core.List.{List, [], ◌∷◌, ◌++◌, append-nil, append_assoc}
use Prim.Native.Nat.{ℕ, zero, suc, ◌+◌, ◌^◌, ◌≤◌, ◌<◌}
use native.Mathlib.Nat.{add-zero, zero-add}
use native.Mathlib.Omega.{arith}
use lib.ListN.{length, get_or, take, set, length-set}
use lib.Seq.{take_all, take-suc-set}
use Rattle.ascii.specs.Decimal.{decimal}
use Rattle.report.specs.Settings.{setting_lines}
use Rattle.settings.specs.Setting.{Setting, Is, setting_of, changed_to, changed_by}
use Rattle.settings.specs.ReadBack.{good_keys}
use Rattle.settings.proofs.OfReading.{read_back}

-- ---- each line is read as its key set to its value

line_at : (keys : List (List ℕ)) (values : List ℕ) (k : ℕ) → k < length keys → k < length values
    → get_or (setting_lines keys values) k [] ≡ get_or keys k [] ++ decimal (get_or values k 0)
unfolding setting_lines
line_at [] values k h l = absurd (omega arith)
line_at (key ∷ keys) [] k h l = absurd (omega arith)
line_at (key ∷ keys) (value ∷ values) zero h l = refl
line_at (key ∷ keys) (value ∷ values) (suc k) h l = line_at keys values k (omega arith) (omega arith)

pub line_count : (keys : List (List ℕ)) (values : List ℕ) → length values ≤ length keys → length (setting_lines keys values) ≡ length values
unfolding setting_lines
line_count [] [] h = refl
line_count [] (value ∷ values) h = absurd (omega arith)
line_count (key ∷ keys) [] h = refl
line_count (key ∷ keys) (value ∷ values) h = ap suc (line_count keys values (omega arith))

-- values of 32 bits
abbrev pub Of32Bits : List ℕ → Type 0
Of32Bits values = (k : ℕ) → k < length values → get_or values k 0 < 2 ^ 32

pub line_read_back : (keys : List (List ℕ)) (values : List ℕ) → good_keys keys ≡ true → Of32Bits values
    → (k : ℕ) → k < length keys → k < length values → setting_of keys (get_or (setting_lines keys values) k []) ≡ Is k (get_or values k 0)
line_read_back keys values g small k h l =
    ap (setting_of keys) (line_at keys values k h l) ∙ read_back keys k (get_or values k 0) g h (small k l)

-- ---- one after the other

each_set : (keys lines : List (List ℕ)) (values base : List ℕ) (i : ℕ) → length lines ≡ length values → length base ≡ i + length values
    → ((k : ℕ) → k < length values → setting_of keys (get_or lines k []) ≡ Is (i + k) (get_or values k 0))
    → changed_by keys base lines ≡ take i base ++ values
unfolding changed_by
each_set keys [] [] base i m n f = sym (append-nil (take i base) ∙ take_all i base (omega arith))
each_set keys [] (v ∷ values) base i m n f = absurd (omega arith)
each_set keys (l ∷ lines) [] base i m n f = absurd (omega arith)
each_set keys (l ∷ lines) (v ∷ values) base i m n f =
    let first : setting_of keys l ≡ Is i v = f 0 (omega arith) ∙ ap (λ (k : ℕ). Is k v) (add-zero i) in
    ap (λ (s : Setting). changed_by keys (changed_to base s) lines) first
    ∙ each_set keys lines values (set base i v) (suc i) (omega arith) (omega (arith, length-set base i v))
    (λ k h. f (suc k) (omega arith) ∙ ap (λ (j : ℕ). Is j (get_or values k 0)) (omega arith))
    ∙ ap (λ (s : List ℕ). s ++ values) (take-suc-set base i v (omega arith))
    ∙ append_assoc (take i base) (v ∷ []) values

-- all lines, set into as many values, whatever these were
pub all_read_back : (keys : List (List ℕ)) (values base : List ℕ) → good_keys keys ≡ true → Of32Bits values → length values ≤ length keys → length base ≡ length values
    → changed_by keys base (setting_lines keys values) ≡ values
all_read_back keys values base g small few same =
    each_set keys (setting_lines keys values) values base 0 (line_count keys values few) (omega arith)
    (λ k h. line_read_back keys values g small k (omega arith) h ∙ ap (λ (j : ℕ). Is j (get_or values k 0)) (sym (zero-add k)))
