-- Whether the row can be encoded tells whether something is wrong, and the field what.
use Rattle.std.proofs.Common.{arith, sym, ◌∙◌}
use Rattle.codec_for_c.specs.FetchValues.{fetch_in}
use Rattle.fetch_text.proofs.OfForms.{keys_count, values_few}
use Rattle.fetch_text.proofs.OfRows.{number_put, number_not_taken, first_wide, other_wide}
use Rattle.fetch_text.proofs.rows.set_value.Goals as goal
use Rattle.fetch_text.proofs.rows.set_value.Goals.{else-index-eq0-via-then-index-eq0+else-fits, else-index-eq0-via-else-index-eq0}

pub overflow_add-row : goal.overflow_add-row
overflow_add-row c = let f = fetch_in c.args.row.now in omega (arith, keys_count f, values_few f)

pub offset_bounds-row-index : goal.offset_bounds-row-index
offset_bounds-row-index c = let f = fetch_in c.args.row.now in omega (arith, keys_count f, values_few f)

pub bounds-row-index : goal.bounds-row-index
bounds-row-index c = let f = fetch_in c.args.row.now in omega (arith, keys_count f, values_few f)

pub returns-then-is_ok : goal.returns-then-is_ok
returns-then-is_ok c =
    number_put c.args.row.now c.requires.holds c.args.index c.args.n c.requires.index_in_bounds _ c.encode_fetch_row.ensures.value
    (sym c.is_ok.ensures.value ∙ c.if-is_ok.true)

pub returns-then-fits : goal.returns-then-fits
returns-then-fits c =
    number_not_taken c.args.row.now c.requires.holds c.args.index c.args.n c.requires.index_in_bounds _ c.encode_fetch_row.ensures.value
    (sym c.is_ok.ensures.value ∙ c.if-is_ok.false) c.if-index-eq0.true (sym c.fits.ensures ∙ c.if-fits.true)

pub returns : goal.returns
returns c =
    elim c.else-index-eq0.branch [
      | else-index-eq0-via-then-index-eq0+else-fits w ↦
          first_wide c.args.row.now c.requires.holds c.args.index c.args.n c.requires.index_in_bounds _ c.encode_fetch_row.ensures.value
          w.if-index-eq0.true (sym w.fits.ensures ∙ w.if-fits.false)
      | else-index-eq0-via-else-index-eq0 w ↦
          other_wide c.args.row.now c.requires.holds c.args.index c.args.n c.requires.index_in_bounds _ c.encode_fetch_row.ensures.value
          (sym c.is_ok.ensures.value ∙ c.if-is_ok.false) w.if-index-eq0.false
    ]
