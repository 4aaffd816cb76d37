-- Settings put into a row: one, by what was read of it; and one after the other, as the loop does. Assumes nothing.
use Rattle.std.proofs.Common.{◌≡◌, ◌==◌, refl, sym, ap, subst, ◌∙◌, Bool, true, false, ℕ, zero, suc, ◌+◌, ◌-◌, ◌≤◌, ◌<◌, List, [], ◌∷◌, length, set, Option, Some, None, Result, Ok, Err, OnOk, arith, length-drop}
use Rattle.std.specs.Prelude.{⊤, IsErrAnd}
use borrow.Author.Tests.{ne_eqb}
use Rattle.std.specs.List.{before_first, after_first, position_or_len}
use Rattle.settings.specs.declared.SettingError.{SettingError}
use Rattle.settings.specs.Setting.{Setting, Is, setting_of, changed_to, changed, changed_by}
use Rattle.settings.proofs.OfReading.{index_within}
use Rattle.fetch_codec.specs.declared.Fetch.{Fetch}
use Rattle.codec_for_c.specs.FetchValues.{fetch_in}
use Rattle.fetch_text.specs.declared.Fault.{Fault}
use Rattle.fetch_text.specs.declared.EditError.TheVariants.{Wrong}
use Rattle.fetch_text.specs.Text.{keys_of, values_of}
use Rattle.fetch_text.specs.Edit.{ends_line, lines_in, fault_read, fault_of, or_later, first_fault, unless}
use Rattle.fetch_text.specs.Code.{Holds, NumberPut, Changed, SettingPut, AllPut}
use Rattle.fetch_text.proofs.OfForms.{form, keys_same, fault_same, keys_count, fetch_itself}
use Rattle.fetch_text.proofs.OfLines.{first_line_lem, first_ends}
use Rattle.fetch_text.proofs.OfRows.{set_form, set_values}

-- what is answered tells what is wrong
pub nothing_wrong : {E : Type 0} (o : Option E) {answer : Result ⊤ E} {t : ⊤} → answer ≡ Ok t → answer ≡ unless o → o ≡ None
nothing_wrong None e h = refl
nothing_wrong (Some why) e h = absurd (cc)

pub something_wrong : {E : Type 0} (o : Option E) {answer : Result ⊤ E} {why : E} → answer ≡ Err why → answer ≡ unless o → o ≡ Some why
something_wrong None e h = absurd (cc)
something_wrong (Some x) e h = cc

-- ---- one setting

-- what was read of a line by keys that are those of the row
pub said_is :
    {keys own : List (List ℕ)} (line : List ℕ) {r s : Setting} → keys ≡ own → r ≡ setting_of keys line → r ≡ s → setting_of own line ≡ s
said_is line n v w = sym (ap (λ (ks : List (List ℕ)). setting_of ks line) n) ∙ sym v ∙ w

-- it is no setting
pub not_put :
    (row line : List ℕ) (answer : Result ⊤ Fault) {why : SettingError} → setting_of (keys_of (fetch_in row)) line ≡ Err why
    → IsErrAnd answer (λ x. x ≡ fault_read why) → SettingPut row row line answer
unfolding fault_of
not_put row line (Ok t) said e = absurd e
not_put row line (Err x) {why} said e =
    record { told = ap (λ (y : Fault). Err y) e ∙ sym (ap (λ (s : Setting). unless (fault_of (fetch_in row) s)) said); put = record {} }

module _ (row line : List ℕ) (w : Holds row) {index n : ℕ} (said : setting_of (keys_of (fetch_in row)) line ≡ Is index n) where
  pub index_inside : index < length (keys_of (fetch_in row))
  index_inside = index_within (keys_of (fetch_in row)) line said

  pub number_is_put : {after : List ℕ} {answer : Result ⊤ Fault} → NumberPut row after index n answer → SettingPut row after line answer
  number_is_put {after} {answer} p = record { told = p.told ∙ ap (λ (s : Setting). unless (fault_of (fetch_in row) s)) (sym said); put = by answer p.holds }
    where
      inside : index < length (values_of (fetch_in row))
      inside = omega (arith, index_inside, keys_count (fetch_in row))

      after_is : fetch_in after ≡ fetch_in (set row (suc index) n)
      after_is = ap fetch_in p.put

      by : (r : Result ⊤ Fault) → OnOk r (Holds after) → OnOk r (Changed row after (changed (keys_of (fetch_in row)) (values_of (fetch_in row)) line))
      by (Ok t) holds =
          record {
            holds = holds;
            form = ap form after_is ∙ set_form row w.is_a_fetch index n inside;
            values_are =
                ap values_of after_is
                ∙ set_values row w.is_a_fetch index n inside
                ∙ ap (changed_to (values_of (fetch_in row))) (sym said);
          }
      by (Err why) holds = record {}

-- ---- one after the other

-- something is left of a text, or nothing
pub some_left : (n : ℕ) {empty : Bool} → empty ≡ (n == 0) → empty ≡ false → 0 < n
some_left zero e h = absurd (cc)
some_left (suc n) e h = omega arith

pub none_left : (n : ℕ) {empty : Bool} → empty ≡ (n == 0) → empty ≡ true → n ≡ 0
none_left zero e h = refl
none_left (suc n) e h = let other = ne_eqb (suc n) 0 (λ z. omega arith) in absurd (cc)

-- the lines before `rest` are put into the row
pub record Editing (text first row rest : List ℕ) : Type 0 where
  pub within : length rest ≤ length text
  pub holds : Holds row
  pub same : form (fetch_in row) ≡ form (fetch_in first)
  pub faults : first_fault (fetch_in first) 0 (lines_in text) ≡ first_fault (fetch_in first) (length text - length rest) (lines_in rest)
  pub values : changed_by (keys_of (fetch_in first)) (values_of (fetch_in first)) (lines_in text)
      ≡ changed_by (keys_of (fetch_in first)) (values_of (fetch_in row)) (lines_in rest)

pub none_put : (text row : List ℕ) → Holds row → Editing text row row text
none_put text row w =
    record {
      within = omega arith;
      holds = w;
      same = refl;
      faults = ap (λ (at : ℕ). first_fault (fetch_in row) at (lines_in text)) (omega arith);
      values = refl;
    }

module _ {text first row rest : List ℕ} (w : Editing text first row rest) where
  -- the text is at its end
  pub all_put : length rest ≡ 0 → AllPut first row text (Ok (record {}))
  unfolding first_fault changed_by lines_in
  all_put h = by rest h w.faults w.values
    where
      by : (s : List ℕ) → length s ≡ 0
          → first_fault (fetch_in first) 0 (lines_in text) ≡ first_fault (fetch_in first) (length text - length s) (lines_in s)
          → changed_by (keys_of (fetch_in first)) (values_of (fetch_in first)) (lines_in text) ≡ changed_by (keys_of (fetch_in first)) (values_of (fetch_in row)) (lines_in s)
          → AllPut first row text (Ok (record {}))
      by [] h faults values =
          record {
            told = sym (ap unless faults);
            put = record { holds = w.holds; form = w.same; fetch = sym (fetch_itself (fetch_in row)) ∙ (λ i. fetch_in (w.same i ∷ sym values i)) };
          }
      by (b ∷ s) h faults values = absurd (omega arith)

  -- the next line
  module _ (h : 0 < length rest) {line behind : List ℕ} (line_is : line ≡ before_first ends_line rest) (behind_is : behind ≡ after_first ends_line rest) where
    next_lines : lines_in rest ≡ line ∷ lines_in behind
    next_lines = first_line_lem rest h ∙ (λ i. sym line_is i ∷ lines_in (sym behind_is i))

    -- where the text is at its end the place does not matter
    place : (f : Fetch) → first_fault f (length text - length rest + length line + 1) (lines_in behind) ≡ first_fault f (length text - length behind) (lines_in behind)
    unfolding first_fault lines_in
    place f = by behind behind_is
      where
        by : (s : List ℕ) → s ≡ after_first ends_line rest
            → first_fault f (length text - length rest + length line + 1) (lines_in s) ≡ first_fault f (length text - length s) (lines_in s)
        by [] e = refl
        by (b ∷ s) e =
            let ends = first_ends rest (omega (arith, ap length e)) in
            ap (λ (at : ℕ). first_fault f at (lines_in (b ∷ s))) (omega (arith, ends, ap length e, ap length line_is, w.within))

    -- by what is wrong with it for the fetch as it came
    module _ {after : List ℕ} {answer : Result ⊤ Fault} (p : SettingPut row after line answer) where
      own : Option Fault
      own = fault_of (fetch_in first) (setting_of (keys_of (fetch_in first)) line)

      answer_is : answer ≡ unless own
      unfolding own
      answer_is =
          p.told
          ∙ ap unless
          (fault_same (setting_of (keys_of (fetch_in row)) line) (fetch_in row) (fetch_in first) w.same
          ∙ ap (λ (ks : List (List ℕ)). fault_of (fetch_in first) (setting_of ks line)) (keys_same (fetch_in row) (fetch_in first) w.same))

      faults_next : first_fault (fetch_in first) 0 (lines_in text)
          ≡ or_later (length text - length rest) own (first_fault (fetch_in first) (length text - length behind) (lines_in behind))
      unfolding own first_fault
      faults_next =
          w.faults
          ∙ ap (first_fault (fetch_in first) (length text - length rest)) next_lines
          ∙ ap (or_later (length text - length rest) own) (place (fetch_in first))

      pub line_wrong : {why : Fault} → answer ≡ Err why → AllPut first after text (Err (Wrong (length text - length rest) why))
      line_wrong {why} q =
          let k = something_wrong own q answer_is in
          record {
            told = sym (ap unless (faults_next ∙ ap (λ (o : Option Fault). or_later (length text - length rest) o (first_fault (fetch_in first) (length text - length behind) (lines_in behind))) k));
            put = record {};
          }

      pub line_put : {t : ⊤} → answer ≡ Ok t → Editing text first after behind
      unfolding changed_by
      line_put q =
          let f = fetch_in row in
          let g = fetch_in first in
          let put : Changed row after (changed (keys_of f) (values_of f) line) =
          subst (λ (r : Result ⊤ Fault). OnOk r (Changed row after (changed (keys_of f) (values_of f) line))) q p.put in
          record {
            within = omega (arith, ap length behind_is, length-drop (position_or_len ends_line rest + 1) rest, w.within);
            holds = put.holds;
            same = put.form ∙ w.same;
            faults =
                faults_next
                ∙ ap (λ (o : Option Fault). or_later (length text - length rest) o (first_fault g (length text - length behind) (lines_in behind))) (nothing_wrong own q answer_is);
            values =
                w.values
                ∙ ap (changed_by (keys_of g) (values_of f)) next_lines
                ∙ ap (λ (vs : List ℕ). changed_by (keys_of g) vs (lines_in behind))
                (ap (λ (ks : List (List ℕ)). changed ks (values_of f) line) (sym (keys_same f g w.same)) ∙ sym put.values_are);
          }

-- what stands behind a line is shorter than the text that begins with it
pub line_shorter : (rest : List ℕ) {behind : List ℕ} → 0 < length rest → behind ≡ after_first ends_line rest → length behind < length rest
line_shorter rest h e = omega (arith, ap length e, length-drop (position_or_len ends_line rest + 1) rest)
