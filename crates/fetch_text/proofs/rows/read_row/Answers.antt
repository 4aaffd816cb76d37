-- What was decoded into the row is the fetch's values.
use Rattle.std.proofs.Common.{refl}
use Rattle.fetch_text.proofs.OfRows.{one_read}
use Rattle.fetch_text.proofs.rows.read_row.Goals as goal

pub returns : goal.returns
returns c =
    one_read c.args.clause c.args.words.now c.args.start (λ k. (c.type_inv.words k).fits) _ refl c.decode_fetch_row.ensures.value c.in_ok-decode_fetch_row.was c.decode_fetch_row.ensures.row_after
