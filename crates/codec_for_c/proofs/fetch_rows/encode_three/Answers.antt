-- `codec_for_c::fetch_rows::encode_three` meets its contract: 21 before 20, and the four words. Assumes nothing.
use mathlib.Core.Path.{sym, ap, ◌∙◌}
use mathlib.Core.Bool.{◌&&◌}
use Prim.Native.Nat.{ℕ, ◌+◌}
use native.Mathlib.Omega.{arith}
use Rattle.laws.proofs.OfTests.{both}
use Rattle.bits.specs.Tables.{fits_table, word_of}
use Rattle.codec_for_c.proofs.OfRows.{got_behind, none_answer, none_after, four_answer, four_after}
use Rattle.codec_for_c.proofs.fetch_rows.encode_three.Goals as goal

pub returns-then-not-three_fit-clause-value : goal.returns-then-not-three_fit-clause-value
returns-then-not-three_fit-clause-value g c =
    let row = c.args.row.now in
    let a = g.A.InRow.at 1 row in
    let b = g.B.InRow.at (1 + g.A.InRow.COUNT) row in
    let d = g.C.InRow.at (1 + g.A.InRow.COUNT + g.B.InRow.COUNT) row in
    let t = fits_table g.A.Format.table (g.A.Format.values a) && fits_table g.B.Format.table (g.B.Format.values b) && fits_table g.C.Format.table (g.C.Format.values d) && c.args.taken in
    let w0 = word_of g.A.Format.table (g.A.Format.values a) in
    let w1 = word_of g.B.Format.table (g.B.Format.values b) in
    let w2 = word_of g.C.Format.table (g.C.Format.values d) in
    none_answer t w0 w1 w2 c.args.words.now c.args.start (sym c.three_fit.ensures ∙ c.if-not-three_fit.true)

pub returns-then-not-three_fit-clause-words_after : goal.returns-then-not-three_fit-clause-words_after
returns-then-not-three_fit-clause-words_after g c =
    let row = c.args.row.now in
    let a = g.A.InRow.at 1 row in
    let b = g.B.InRow.at (1 + g.A.InRow.COUNT) row in
    let d = g.C.InRow.at (1 + g.A.InRow.COUNT + g.B.InRow.COUNT) row in
    let t = fits_table g.A.Format.table (g.A.Format.values a) && fits_table g.B.Format.table (g.B.Format.values b) && fits_table g.C.Format.table (g.C.Format.values d) && c.args.taken in
    let w0 = word_of g.A.Format.table (g.A.Format.values a) in
    let w1 = word_of g.B.Format.table (g.B.Format.values b) in
    let w2 = word_of g.C.Format.table (g.C.Format.values d) in
    none_after t w0 w1 w2 c.args.words.now c.args.start (sym c.three_fit.ensures ∙ c.if-not-three_fit.true)

pub returns-clause-value : goal.returns-clause-value
returns-clause-value g c =
    let row = c.args.row.now in
    let a = g.A.InRow.at 1 row in
    let b = g.B.InRow.at (1 + g.A.InRow.COUNT) row in
    let d = g.C.InRow.at (1 + g.A.InRow.COUNT + g.B.InRow.COUNT) row in
    let t = fits_table g.A.Format.table (g.A.Format.values a) && fits_table g.B.Format.table (g.B.Format.values b) && fits_table g.C.Format.table (g.C.Format.values d) && c.args.taken in
    let w0 = word_of g.A.Format.table (g.A.Format.values a) in
    let w1 = word_of g.B.Format.table (g.B.Format.values b) in
    let w2 = word_of g.C.Format.table (g.C.Format.values d) in
    four_answer t w0 w1 w2 c.args.words.now c.args.start (sym c.three_fit.ensures ∙ c.if-not-three_fit.false) (omega arith)

pub lift-requires : goal.lift-requires
lift-requires g c =
    let row = c.args.row.now in
    let a = g.A.InRow.at 1 row in
    let b = g.B.InRow.at (1 + g.A.InRow.COUNT) row in
    let d = g.C.InRow.at (1 + g.A.InRow.COUNT + g.B.InRow.COUNT) row in
    let t = fits_table g.A.Format.table (g.A.Format.values a) && fits_table g.B.Format.table (g.B.Format.values b) && fits_table g.C.Format.table (g.C.Format.values d) && c.args.taken in
    let h = sym c.three_fit.ensures ∙ c.if-not-three_fit.false in
    let fit_a = fits_table g.A.Format.table (g.A.Format.values a) in
    let fit_b = fits_table g.B.Format.table (g.B.Format.values b) in
    let fit_d = fits_table g.C.Format.table (g.C.Format.values d) in
    let words_fit = (both (fit_a && fit_b && fit_d) c.args.taken h).0 in
    ap (λ r. fits_table g.A.Format.table (g.A.Format.values r)) (c.get.ensures ∙ got_behind g.met.A.InRow.laws.at_drop 1 32 row (omega arith))
    ∙ (both fit_a fit_b (both (fit_a && fit_b) fit_d words_fit).0).0

pub returns-clause-words_after : goal.returns-clause-words_after
returns-clause-words_after g c =
    let row = c.args.row.now in
    let a = g.A.InRow.at 1 row in
    let b = g.B.InRow.at (1 + g.A.InRow.COUNT) row in
    let d = g.C.InRow.at (1 + g.A.InRow.COUNT + g.B.InRow.COUNT) row in
    let t = fits_table g.A.Format.table (g.A.Format.values a) && fits_table g.B.Format.table (g.B.Format.values b) && fits_table g.C.Format.table (g.C.Format.values d) && c.args.taken in
    let w0 = word_of g.A.Format.table (g.A.Format.values a) in
    let w1 = word_of g.B.Format.table (g.B.Format.values b) in
    let w2 = word_of g.C.Format.table (g.C.Format.values d) in
    four_after t w0 w1 w2 c.args.words.now c.args.start (sym c.three_fit.ensures ∙ c.if-not-three_fit.false) (omega arith)
    (c.lift.ensures ∙ ap (λ r. word_of g.A.Format.table (g.A.Format.values r)) (c.get.ensures ∙ got_behind g.met.A.InRow.laws.at_drop 1 32 row (omega arith)))
    (c.lift-2.ensures ∙ ap (λ r. word_of g.B.Format.table (g.B.Format.values r))
    (c.get-2.ensures ∙ got_behind g.met.B.InRow.laws.at_drop (1 + c.COUNT-second.result) 32 row (omega arith) ∙ ap (λ (n : ℕ). g.B.InRow.at (1 + n) row) c.COUNT-second.ensures))
    (c.lift-3.ensures ∙ ap (λ r. word_of g.C.Format.table (g.C.Format.values r))
    (c.get-3.ensures ∙ got_behind g.met.C.InRow.laws.at_drop (1 + c.COUNT-second.result + c.COUNT.result) 32 row (omega arith)
    ∙ (λ i. g.C.InRow.at (1 + c.COUNT-second.ensures i + c.COUNT.ensures i) row)))
