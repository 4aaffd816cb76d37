-- What was read is no setting, or a number for a field.
use Rattle.fetch_text.proofs.OfEdits.{said_is, not_put, index_inside, number_is_put}
use Rattle.fetch_text.proofs.rows.set_line.Goals as goal

pub returns-in_err-index : goal.returns-in_err-index
returns-in_err-index c =
    not_put c.args.row.now c.args.line.now _ (said_is _ c.row_keys.ensures c.read_setting.ensures.value c.in_err-index.was) c.from_residual.ensures.1

pub set_value-requires-clause-index_in_bounds : goal.set_value-requires-clause-index_in_bounds
set_value-requires-clause-index_in_bounds c =
    index_inside c.args.row.now c.args.line.now c.requires (said_is _ c.row_keys.ensures c.read_setting.ensures.value c.in_ok-index.was)

pub returns : goal.returns
returns c =
    number_is_put c.args.row.now c.args.line.now c.requires (said_is _ c.row_keys.ensures c.read_setting.ensures.value c.in_ok-index.was) c.set_value.ensures
