-- What only the code's contracts cite: what one fetch breaks.
use Rattle.std.specs.Prelude.{ℕ, cond, List, Option, Some, None}
use Rattle.units.specs.declared.Quadwords.{Quadwords}
use Rattle.units.specs.Units.{low_at, high_at, quadword_behind}
use Rattle.formats.specs.Fields.{◌of◌, FETCH_INST}
use Rattle.opcodes.specs.declared.cf.FetchKind.{FetchKind}
use Rattle.grants.specs.declared.Limits.{Limits}
use Rattle.fetches.specs.Fetches.{bad_fetch, bad_register}

-- the first of 8 and 9 that the fetch at a quadword breaks
abbrev pub broken_rule : FetchKind → Limits → List ℕ → Quadwords → Option ℕ
broken_rule kind limits w q =
    cond (bad_fetch kind (FETCH_INST of low_at w q.0) (high_at w (quadword_behind q).0)) (Some 8)
    (cond (bad_register kind limits (low_at w q.0) (high_at w q.0)) (Some 9) None)
