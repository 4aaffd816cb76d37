-- A fetch and its values, form by form: what goes by the form alone is the same for all fetches of a form; values of a form's number and length
-- are a fetch's; and one of them changed is within its width or not. Assumes nothing.
use mathlib.Core.Path.{◌≡◌, refl, sym, ap, ◌∙◌}
use mathlib.Core.Bool.{Bool, true, false, ◌&&◌, and-true}
use mathlib.Core.List.{List, [], ◌∷◌, ◌++◌, map}
use Rattle.std.specs.Prelude.{Some, None, Err}
use Prim.Native.String.{String}
use Prim.Native.Nat.{ℕ, zero, suc, ◌-◌, ◌^◌, ◌≤◌, ◌<◌}
use native.Mathlib.Omega.{arith}
use lib.Dec.{eqb, ltb}
use lib.ListN.{length, get_or, drop, set, length-append, length-set, drop_of_length-le}
use borrow.Author.Tests.{eq-eqb, ne_eqb, eqb-true}
use Rattle.laws.proofs.OfTests.{both, by_test_lem}
use Rattle.laws.proofs.OfCases.{impossible}
use Rattle.bits.specs.Tables.{within}
use Rattle.bits.specs.Fields.{width_of}
use Rattle.formats.specs.Fields.{Field, position, FETCH_INST}
use Rattle.formats.specs.Tex as tex
use Rattle.formats.specs.Vtx as vtx
use Rattle.report.specs.Settings.{key_of}
use Rattle.fetch_codec.specs.declared.Fetch.{Fetch}
use Rattle.fetch_codec.specs.declared.Fetch.TheVariants.{Tex, VtxGpr, VtxSem}
use Rattle.fetch_codec.specs.Fetch.{form_kind, fields_fit, takes_number, form_taken, encodable}
use Rattle.codec_for_c.specs.Values.{form_of}
use Rattle.codec_for_c.specs.FetchValues.{fetch_values, fetch_in}
use Rattle.codec_for_c.proofs.OfValues.{values_first}
use Rattle.settings.specs.Setting.{Setting, Is}
use Rattle.fetch_text.specs.declared.Fault.TheVariants.{TooWide, NotTaken}
use Rattle.fetch_text.specs.Text.{form_fields, keys_of, widths_of, values_of}
use Rattle.fetch_text.specs.Edit.{fault_of}

-- ---- what goes by the form alone

-- the form's number
abbrev pub form : Fetch → ℕ
form f = form_of (fetch_values f)

pub by_form : {A : Type 0} (h : Fetch → A)
    → ((a : _) (b : _) (c : _) (d : _) (e : _) (g : _) → h (Tex a b c) ≡ h (Tex d e g))
    → ((a : _) (b : _) (c : _) (d : _) (e : _) (g : _) → h (VtxGpr a b c) ≡ h (VtxGpr d e g))
    → ((a : _) (b : _) (c : _) (d : _) (e : _) (g : _) → h (VtxSem a b c) ≡ h (VtxSem d e g))
    → (f g : Fetch) → form f ≡ form g → h f ≡ h g
by_form h p q r (Tex a b c) (Tex d e g) k = p a b c d e g
by_form h p q r (VtxGpr a b c) (VtxGpr d e g) k = q a b c d e g
by_form h p q r (VtxSem a b c) (VtxSem d e g) k = r a b c d e g
by_form h p q r (Tex a b c) (VtxGpr d e g) k = absurd (omega arith)
by_form h p q r (Tex a b c) (VtxSem d e g) k = absurd (omega arith)
by_form h p q r (VtxGpr a b c) (Tex d e g) k = absurd (omega arith)
by_form h p q r (VtxGpr a b c) (VtxSem d e g) k = absurd (omega arith)
by_form h p q r (VtxSem a b c) (Tex d e g) k = absurd (omega arith)
by_form h p q r (VtxSem a b c) (VtxGpr d e g) k = absurd (omega arith)

fields_same : (f g : Fetch) → form f ≡ form g → form_fields f ≡ form_fields g
unfolding form_fields
fields_same = by_form form_fields (λ a b c d e g. refl) (λ a b c d e g. refl) (λ a b c d e g. refl)

pub keys_same : (f g : Fetch) → form f ≡ form g → keys_of f ≡ keys_of g
unfolding keys_of
keys_same f g e = rw (fields_same f g e)

pub widths_same : (f g : Fetch) → form f ≡ form g → widths_of f ≡ widths_of g
unfolding widths_of
widths_same f g e = rw (fields_same f g e)

pub kind_same : (f g : Fetch) → form f ≡ form g → form_kind f ≡ form_kind g
kind_same = by_form form_kind (λ a b c d e g. refl) (λ a b c d e g. refl) (λ a b c d e g. refl)

pub length_same : (f g : Fetch) → form f ≡ form g → length (fetch_values f) ≡ length (fetch_values g)
length_same = by_form (λ f. length (fetch_values f)) (λ a b c d e g. refl) (λ a b c d e g. refl) (λ a b c d e g. refl)

takes_same : (n : ℕ) (f g : Fetch) → form f ≡ form g → takes_number f n ≡ takes_number g n
takes_same n = by_form (λ f. takes_number f n) (λ a b c d e g. refl) (λ a b c d e g. refl) (λ a b c d e g. refl)

pub fault_same : (s : Setting) (f g : Fetch) → form f ≡ form g → fault_of f s ≡ fault_of g s
unfolding fault_of
fault_same (Err why) f g e = refl
fault_same (Is index n) f g e = rw (widths_same f g e, takes_same n f g e)

-- keys that are those of the tables are the fetch's own, by its form
abbrev pub table_keys : List (String × Field) → List (List ℕ)
table_keys fields = map (λ (x : String × Field). key_of x.0) fields

module _ {keys : List (List ℕ)} where
  pub tex_keys : keys ≡ table_keys (tex.word0_fields ++ tex.word1_fields ++ tex.word2_fields) → (f : Fetch) → form f ≡ 5 → keys ≡ keys_of f
  unfolding keys_of form_fields
  tex_keys e (Tex a b c) h = e
  tex_keys e (VtxGpr a b c) h = absurd (omega arith)
  tex_keys e (VtxSem a b c) h = absurd (omega arith)

  pub gpr_keys : keys ≡ table_keys (vtx.word0_fields ++ vtx.gpr_fields ++ vtx.word2_fields) → (f : Fetch) → form f ≡ 6 → keys ≡ keys_of f
  unfolding keys_of form_fields
  gpr_keys e (Tex a b c) h = absurd (omega arith)
  gpr_keys e (VtxGpr a b c) h = e
  gpr_keys e (VtxSem a b c) h = absurd (omega arith)

  pub sem_keys : keys ≡ table_keys (vtx.word0_fields ++ vtx.sem_fields ++ vtx.word2_fields) → (f : Fetch) → (form f ≡ 5 → ⊥) → (form f ≡ 6 → ⊥) → keys ≡ keys_of f
  unfolding keys_of form_fields
  sem_keys e (Tex a b c) h k = absurd (h refl)
  sem_keys e (VtxGpr a b c) h k = absurd (k refl)
  sem_keys e (VtxSem a b c) h k = e

-- as many keys and widths as values
pub keys_count : (f : Fetch) → length (keys_of f) ≡ length (values_of f)
unfolding keys_of form_fields tex.word0_fields tex.word1_fields tex.word2_fields vtx.word0_fields vtx.gpr_fields vtx.sem_fields vtx.word2_fields
keys_count (Tex a b c) = refl
keys_count (VtxGpr a b c) = refl
keys_count (VtxSem a b c) = refl

pub widths_count : (f : Fetch) → length (widths_of f) ≡ length (values_of f)
unfolding widths_of form_fields tex.word0_fields tex.word1_fields tex.word2_fields vtx.word0_fields vtx.gpr_fields vtx.sem_fields vtx.word2_fields
widths_count (Tex a b c) = refl
widths_count (VtxGpr a b c) = refl
widths_count (VtxSem a b c) = refl

pub values_few : (f : Fetch) → length (values_of f) ≤ 29
values_few (Tex a b c) = omega arith
values_few (VtxGpr a b c) = omega arith
values_few (VtxSem a b c) = omega arith

-- the first field is the number
pub first_width : (f : Fetch) → get_or (widths_of f) 0 0 ≡ width_of (position FETCH_INST)
unfolding widths_of form_fields tex.word0_fields vtx.word0_fields
first_width (Tex a b c) = refl
first_width (VtxGpr a b c) = refl
first_width (VtxSem a b c) = refl

-- ---- values of a form

-- the row is the form and the values
pub values_row : (f : Fetch) → fetch_values f ≡ form f ∷ values_of f
values_row (Tex a b c) = refl
values_row (VtxGpr a b c) = refl
values_row (VtxSem a b c) = refl

pub fetch_itself : (f : Fetch) → fetch_in (form f ∷ values_of f) ≡ f
unfolding fetch_in
fetch_itself (Tex a b c) = refl
fetch_itself (VtxGpr a b c) = refl
fetch_itself (VtxSem a b c) = refl

-- values with the number of a form, as many as it has, are those of a fetch of that form
pub values_are : (f : Fetch) (vs : List ℕ) → form_of vs ≡ form f → length vs ≡ length (fetch_values f) → fetch_values (fetch_in vs) ≡ vs
unfolding fetch_in
values_are (Tex a b c) vs e l =
    rw (eq-eqb (form_of vs) 5 e) (rw (drop_of_length-le vs {i = 30} (omega arith)) at (values_first vs 5 29 e (omega arith)))
values_are (VtxGpr a b c) vs e l =
    rw (ne_eqb (form_of vs) 5 (λ h. omega arith), eq-eqb (form_of vs) 6 e)
    (rw (drop_of_length-le vs {i = 27} (omega arith)) at (values_first vs 6 26 e (omega arith)))
values_are (VtxSem a b c) vs e l =
    rw (ne_eqb (form_of vs) 5 (λ h. omega arith), ne_eqb (form_of vs) 6 (λ h. omega arith))
    (rw (drop_of_length-le vs {i = 26} (omega arith)) at (values_first vs 7 25 e (omega arith)))

-- so the fetch is of that form
pub form_is : (f : Fetch) (vs : List ℕ) → form_of vs ≡ form f → length vs ≡ length (fetch_values f) → form (fetch_in vs) ≡ form f
form_is f vs e l = ap form_of (values_are f vs e l) ∙ e

-- and has those values
pub values_of_lem : (f : Fetch) (vs : List ℕ) → length vs ≡ length (values_of f) → values_of (fetch_in (form f ∷ vs)) ≡ vs
values_of_lem f vs l = ap (drop 1) (values_are f (form f ∷ vs) refl (ap suc l ∙ sym (ap length (values_row f))))

-- ---- widths

-- tests joined one way or the other
and_joined : (a b c : Bool) → a && b && c ≡ a && (b && c)
and_joined true b c = refl
and_joined false b c = refl

within_joined : (ws us vs ts : List ℕ) → length ws ≡ length vs → within (ws ++ us) (vs ++ ts) ≡ within ws vs && within us ts
within_joined [] us [] ts l = refl
within_joined [] us (v ∷ vs) ts l = absurd (omega arith)
within_joined (w ∷ ws) us [] ts l = absurd (omega arith)
within_joined (w ∷ ws) us (v ∷ vs) ts l =
    ap (λ (t : Bool). ltb v (2 ^ w) && t) (within_joined ws us vs ts (omega arith)) ∙ sym (and_joined (ltb v (2 ^ w)) (within ws vs) (within us ts))

within_three : (ws us ss vs ts rs : List ℕ) → length ws ≡ length vs → length us ≡ length ts
    → within ws vs && within us ts && within ss rs ≡ within (ws ++ us ++ ss) (vs ++ ts ++ rs)
within_three ws us ss vs ts rs l m =
    ap (λ (t : Bool). t && within ss rs) (sym (within_joined ws us vs ts l))
    ∙ sym (within_joined (ws ++ us) ss (vs ++ ts) rs (omega (arith, length-append ws us, length-append vs ts)))

-- the fields fit word by word where all of them do
pub fits_all : (f : Fetch) → fields_fit f ≡ within (widths_of f) (values_of f)
unfolding widths_of form_fields tex.word0_fields tex.word1_fields tex.word2_fields vtx.word0_fields vtx.gpr_fields vtx.sem_fields vtx.word2_fields
fits_all (Tex a b c) =
    within_three (map width_of tex.word0_table) (map width_of tex.word1_table) (map width_of tex.word2_table)
    (tex.word0_values a) (tex.word1_values b) (tex.word2_values c) refl refl
fits_all (VtxGpr a b c) =
    within_three (map width_of vtx.word0_table) (map width_of vtx.gpr_table) (map width_of vtx.word2_table)
    (vtx.word0_values a) (vtx.gpr_values b) (vtx.word2_values c) refl refl
fits_all (VtxSem a b c) =
    within_three (map width_of vtx.word0_table) (map width_of vtx.sem_table) (map width_of vtx.word2_table)
    (vtx.word0_values a) (vtx.sem_values b) (vtx.word2_values c) refl refl

-- one value changed among values that fit
within_set : (ws vs : List ℕ) (i n : ℕ) → within ws vs ≡ true → i < length ws → within ws (set vs i n) ≡ ltb n (2 ^ get_or ws i 0)
within_set [] vs i n h l = absurd (omega arith)
within_set (w ∷ ws) [] i n h l = impossible cc
within_set (w ∷ ws) (v ∷ vs) zero n h l = rw (both (ltb v (2 ^ w)) (within ws vs) h).1 (and-true (ltb n (2 ^ w)))
within_set (w ∷ ws) (v ∷ vs) (suc i) n h l =
    let k = both (ltb v (2 ^ w)) (within ws vs) h in
    rw k.0 (within_set ws vs i n k.1 (omega arith))

-- ---- a fetch with one value changed

module _ (f : Fetch) (i n : ℕ) (h : i < length (values_of f)) where
  abbrev pub with_value : Fetch
  with_value = fetch_in (set (fetch_values f) (suc i) n)

  row_set_lem : set (fetch_values f) (suc i) n ≡ form f ∷ set (values_of f) i n
  row_set_lem = ap (λ (r : List ℕ). set r (suc i) n) (values_row f)

  pub with_same_form : form with_value ≡ form f
  with_same_form = form_is f (set (fetch_values f) (suc i) n) (ap form_of row_set_lem) (length-set (fetch_values f) (suc i) n)

  pub with_row : fetch_values with_value ≡ set (fetch_values f) (suc i) n
  with_row = values_are f (set (fetch_values f) (suc i) n) (ap form_of row_set_lem) (length-set (fetch_values f) (suc i) n)

  pub with_values : values_of with_value ≡ set (values_of f) i n
  with_values = ap (drop 1) (with_row ∙ row_set_lem)

  fits_with : fields_fit f ≡ true → fields_fit with_value ≡ ltb n (2 ^ get_or (widths_of f) i 0)
  fits_with fits =
      fits_all with_value
      ∙ rw (widths_same with_value f with_same_form, with_values)
      (within_set (widths_of f) (values_of f) i n (sym (fits_all f) ∙ fits) (omega (arith, widths_count f)))

  -- any other value than the first leaves the number
  number_left : {k : ℕ} → i ≡ suc k → form_taken with_value ≡ form_taken f
  unfolding fetch_in
  number_left {k} e = rw e (by f)
    where
      by : (f : Fetch) → form_taken (fetch_in (set (fetch_values f) (suc (suc k)) n)) ≡ form_taken f
      by (Tex a b c) = refl
      by (VtxGpr a b c) = refl
      by (VtxSem a b c) = refl

  -- and the first is the number
  number_is : i ≡ 0 → form_taken with_value ≡ takes_number f n
  unfolding fetch_in
  number_is e = rw e (by f)
    where
      by : (f : Fetch) → form_taken (fetch_in (set (fetch_values f) 1 n)) ≡ takes_number f n
      by (Tex a b c) = refl
      by (VtxGpr a b c) = refl
      by (VtxSem a b c) = refl

  module _ (can : encodable f ≡ true) where
    can-with : encodable with_value ≡ ltb n (2 ^ get_or (widths_of f) i 0) && form_taken with_value
    can-with = ap (λ (t : Bool). t && form_taken with_value) (fits_with (both (fields_fit f) (form_taken f) can).0)

    -- nothing is wrong with the setting where the fetch can then be encoded
    pub nothing-wrong : encodable with_value ≡ true → fault_of f (Is i n) ≡ None
    unfolding fault_of
    nothing-wrong e =
        let k = both (ltb n (2 ^ get_or (widths_of f) i 0)) (form_taken with_value) (sym can-with ∙ e) in
        rw k.0 (by_test_lem (eqb i 0) (λ t. rw (t, sym (number_is (eqb-true i 0 t)) ∙ k.1)) (λ t. rw t))

    -- the number is not of the form
    pub number-wrong : encodable with_value ≡ false → i ≡ 0 → ltb n (2 ^ width_of (position FETCH_INST)) ≡ true → fault_of f (Is i n) ≡ Some NotTaken
    unfolding fault_of
    number-wrong e z t =
        let narrow : ltb n (2 ^ get_or (widths_of f) i 0) ≡ true = rw (z, first_width f) t in
        let other : takes_number f n ≡ false = sym (number_is z) ∙ sym (rw narrow at can-with) ∙ e in
        rw (narrow, eq-eqb i 0 z, other)

    -- it exceeds the width
    pub first-too-wide : i ≡ 0 → ltb n (2 ^ width_of (position FETCH_INST)) ≡ false → fault_of f (Is i n) ≡ Some TooWide
    unfolding fault_of
    first-too-wide z t = rw (z, first_width f, t)

    pub other-too-wide : encodable with_value ≡ false → (i ≡ 0 → ⊥) → fault_of f (Is i n) ≡ Some TooWide
    unfolding fault_of
    other-too-wide e z =
        let number : form_taken with_value ≡ true = number_left {k = i - 1} (omega (arith, z)) ∙ (both (fields_fit f) (form_taken f) can).1 in
        let width = ltb n (2 ^ get_or (widths_of f) i 0) in
        let wide : width ≡ false = sym (and-true width) ∙ sym (ap (λ (t : Bool). width && t) number) ∙ sym can-with ∙ e in
        rw wide
