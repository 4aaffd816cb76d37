-- `codec_for_c::fetch_rows::three_fit` meets its contract: the number is asked about first. Assumes nothing.
use mathlib.Core.Path.{◌≡◌, refl, ap, ◌∙◌}
use mathlib.Core.Bool.{true, ◌&&◌}
use Prim.Native.Nat.{ℕ, ◌+◌}
use native.Mathlib.Omega.{arith}
use Rattle.bits.specs.Tables.{fits_table}
use Rattle.codec_for_c.proofs.OfRows.{got_behind}
use Rattle.codec_for_c.proofs.OfTests.{and_more, and_less}
use Rattle.codec_for_c.proofs.fetch_rows.three_fit.Goals.{then-taken, else-taken, then-fits, else-fits}
use Rattle.codec_for_c.proofs.fetch_rows.three_fit.Goals as goal

pub returns-then-fits-2 : goal.returns-then-fits-2
returns-then-fits-2 g c =
    let row = c.args.row.now in
    let t = c.args.taken in
    let a = fits_table g.A.Format.table (g.A.Format.values (g.A.InRow.at 1 row)) in
    let b = fits_table g.B.Format.table (g.B.Format.values (g.B.InRow.at (1 + g.A.InRow.COUNT) row)) in
    let d = fits_table g.C.Format.table (g.C.Format.values (g.C.InRow.at (1 + g.A.InRow.COUNT + g.B.InRow.COUNT) row)) in
    let first : c.if-taken.value ≡ (a && t) =
    elim c.if-taken.branch [
      | then-taken w ↦ w.value-is ∙ and_more true a t refl w.if-taken.true
          (w.fits.ensures ∙ ap (λ r. fits_table g.A.Format.table (g.A.Format.values r)) (w.get.ensures ∙ got_behind g.met.A.InRow.laws.at_drop 1 32 row (omega arith)))
      | else-taken w ↦ and_less true a t refl w.if-taken.false w.value-is
    ] in
    let second : c.if-fits.value ≡ (a && b && t) =
    elim c.if-fits.branch [
      | then-fits w ↦ w.value-is ∙ and_more a b t first w.if-fits.true
          (w.fits-then-fits.ensures ∙ ap (λ r. fits_table g.B.Format.table (g.B.Format.values r))
          (w.get-then-fits.ensures ∙ got_behind g.met.B.InRow.laws.at_drop (1 + c.COUNT-second.result) 32 row (omega arith) ∙ ap (λ (n : ℕ). g.B.InRow.at (1 + n) row) c.COUNT-second.ensures))
      | else-fits w ↦ and_less a b t first w.if-fits.false w.value-is
    ] in
    and_more (a && b) d t second c.if-fits-2.true
    (c.fits-then-fits-2.ensures ∙ ap (λ r. fits_table g.C.Format.table (g.C.Format.values r))
    (c.get-then-fits-2.ensures ∙ got_behind g.met.C.InRow.laws.at_drop (1 + c.COUNT-second.result + c.COUNT.result) 32 row (omega arith)
    ∙ (λ i. g.C.InRow.at (1 + c.COUNT-second.ensures i + c.COUNT.ensures i) row)))

pub returns-else-fits-2 : goal.returns-else-fits-2
returns-else-fits-2 g c =
    let row = c.args.row.now in
    let t = c.args.taken in
    let a = fits_table g.A.Format.table (g.A.Format.values (g.A.InRow.at 1 row)) in
    let b = fits_table g.B.Format.table (g.B.Format.values (g.B.InRow.at (1 + g.A.InRow.COUNT) row)) in
    let d = fits_table g.C.Format.table (g.C.Format.values (g.C.InRow.at (1 + g.A.InRow.COUNT + g.B.InRow.COUNT) row)) in
    let first : c.if-taken.value ≡ (a && t) =
    elim c.if-taken.branch [
      | then-taken w ↦ w.value-is ∙ and_more true a t refl w.if-taken.true
          (w.fits.ensures ∙ ap (λ r. fits_table g.A.Format.table (g.A.Format.values r)) (w.get.ensures ∙ got_behind g.met.A.InRow.laws.at_drop 1 32 row (omega arith)))
      | else-taken w ↦ and_less true a t refl w.if-taken.false w.value-is
    ] in
    let second : c.if-fits.value ≡ (a && b && t) =
    elim c.if-fits.branch [
      | then-fits w ↦ w.value-is ∙ and_more a b t first w.if-fits.true
          (w.fits-then-fits.ensures ∙ ap (λ r. fits_table g.B.Format.table (g.B.Format.values r))
          (w.get-then-fits.ensures ∙ got_behind g.met.B.InRow.laws.at_drop (1 + c.COUNT-second.result) 32 row (omega arith) ∙ ap (λ (n : ℕ). g.B.InRow.at (1 + n) row) c.COUNT-second.ensures))
      | else-fits w ↦ and_less a b t first w.if-fits.false w.value-is
    ] in
    and_less (a && b) d t second c.if-fits-2.false refl
