-- `codec_for_c::in_row::get_two` meets its contract: the first record stands behind the form. Assumes nothing.
use mathlib.Core.Path.{ap, ◌∙◌}
use native.Mathlib.Omega.{arith}
use lib.ListN.{drop, length-drop}
use lib.Seq.{take_all}
use Rattle.codec_for_c.proofs.in_row.get_two.Goals as goal

pub returns-clause-first : goal.returns-clause-first
returns-clause-first g c =
    let row = c.args.row.now in
    c.get.ensures ∙ ap (g.A.InRow.at 0) (take_all 31 (drop 1 row) (omega (arith, length-drop 1 row))) ∙ g.met.A.InRow.laws.at_drop 1 row
