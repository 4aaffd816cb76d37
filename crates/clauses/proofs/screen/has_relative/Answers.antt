-- `clauses::screen::has_relative` meets its contract. Assumes nothing.
use Rattle.std.proofs.Common.{rules, ap, ◌∙◌, arith}
use Rattle.std.specs.Slice.Iter.{chunks_exact_size, chunks_exact_rest}
use Rattle.instructions.specs.Instruction.{has_relative}
use Rattle.clauses.proofs.OfSlice.{any_pair}
use Rattle.clauses.proofs.screen.has_relative.Goals as goal

pub returns : goal.returns
returns c =
    let run = c.any.ensures.runs in
    let chunks = c.chunks_exact.ensures in
    let size = ap chunks_exact_size run.1 ∙ chunks.size in
    any_pair run.0 _ _ c.args.group.now (chunks.runs run.0 run.0.seen (omega (arith, size))) size (ap chunks_exact_rest run.1 ∙ chunks.rest)
    (λ a r f k. search rules) has_relative (λ x b l k. search rules) _ run.2
