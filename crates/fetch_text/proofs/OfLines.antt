-- The lines of a text one by one, as a loop finds them; and the text of a fetch has a line for each field. Assumes nothing.
use Rattle.std.proofs.Common.{◌≡◌, refl, ap, sym, ◌∙◌, ℕ, ◌+◌, ◌<◌, Bool, true, false, not, ◌&&◌, List, [], ◌∷◌, ◌++◌, append_assoc, length, take, drop, arith}
use Rattle.std.proofs.lemmas.Grind.{common_steps}
use Rattle.std.specs.List as parts
use Rattle.std.specs.List.{after_first, position_or_len}
use borrow.Author.Tests.{not-true}
use lib.Dec.{eqb}
use Rattle.laws.proofs.OfTests.{both, by_test_lem}
use Rattle.ascii.specs.Ascii.{ascii, line_feed}
use Rattle.ascii.specs.Decimal.{decimal}
use Rattle.ascii.specs.Code.{feedless}
use Rattle.ascii.proofs.OfFeeds.{feedless_joined, feedless_decimal}
use Rattle.report.specs.Report.{before_first}
use Rattle.report.specs.Settings.{setting_lines, settings_text}
use Rattle.fetch_text.specs.Edit.{ends_line, lines_in}

-- ---- the first line, and those behind it

one_more : (b n : ℕ) (t : List ℕ) → (take (1 + n) (b ∷ t) ≡ b ∷ take n t) × (drop (1 + n + 1) (b ∷ t) ≡ drop (n + 1) t)
one_more b n t = grind (arith, common_steps)

first_goes_on :
    (b : ℕ) (t : List ℕ) → ends_line b ≡ false → lines_in t ≡ parts.before_first ends_line t ∷ lines_in (after_first ends_line t)
    → lines_in (b ∷ t) ≡ parts.before_first ends_line (b ∷ t) ∷ lines_in (after_first ends_line (b ∷ t))
unfolding lines_in
first_goes_on b t e h =
    let step = one_more b (position_or_len ends_line t) t in
    rw e (ap (before_first b) h ∙ sym (λ i. step.0 i ∷ lines_in (step.1 i)))

pub first_line_lem : (t : List ℕ) → 0 < length t → lines_in t ≡ parts.before_first ends_line t ∷ lines_in (after_first ends_line t)
unfolding lines_in
first_line_lem [] h = absurd (omega arith)
first_line_lem (b ∷ []) h = by_test_lem (ends_line b) (λ e. rw e) (λ e. rw e)
first_line_lem (b ∷ c ∷ t) h = by_test_lem (ends_line b) (λ e. rw e) (λ e. first_goes_on b (c ∷ t) e (first_line_lem (c ∷ t) (omega arith)))

-- where something stands behind it, a line feed ends it
pub first_ends :
    (t : List ℕ) → 0 < length (after_first ends_line t) → length t ≡ length (parts.before_first ends_line t) + 1 + length (after_first ends_line t)
first_ends t h = grind (arith, common_steps)

-- ---- lines that were written

-- a line feed ends a line
feed_ends : (body rest : List ℕ) → feedless body ≡ true → lines_in (body ++ (line_feed ∷ rest)) ≡ body ∷ lines_in rest
unfolding lines_in
feed_ends [] rest h = refl
feed_ends (b ∷ body) rest h =
    let w = both (not (eqb b line_feed)) (feedless body) h in
    rw (not-true (eqb b line_feed) w.0) (ap (before_first b) (feed_ends body rest w.1))

-- no key has a line feed
abbrev pub feedless_keys : List (List ℕ) → Bool
feedless_keys [] = true
feedless_keys (k ∷ ks) = feedless k && feedless_keys ks

pub lines_written : (keys : List (List ℕ)) (values : List ℕ) → feedless_keys keys ≡ true → lines_in (settings_text keys values) ≡ setting_lines keys values
unfolding settings_text setting_lines lines_in
lines_written [] values h = refl
lines_written (k ∷ ks) [] h = refl
lines_written (k ∷ ks) (v ∷ vs) h =
    let w = both (feedless k) (feedless_keys ks) h in
    ap lines_in (append_assoc (k ++ decimal v) (ascii "\n") (settings_text ks vs))
    ∙ feed_ends (k ++ decimal v) (settings_text ks vs) (feedless_joined k (decimal v) w.0 (feedless_decimal v))
    ∙ ap (λ (ls : List (List ℕ)). (k ++ decimal v) ∷ ls) (lines_written ks vs w.1)
