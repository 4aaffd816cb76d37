-- `judge::pairs::Pair::read` meets its contract: the pair's words, and what they say. Assumes nothing.
use Rattle.std.proofs.Common.{ℕ, List, length, Option, ap, ◌∙◌, arith, rules, ◌≡◌, ◌<◌, ◌^◌}
use Rattle.units.specs.Units.{low_at, high_at}
use Rattle.units.proofs.OfUnits.{stands}
use Rattle.opcodes.specs.declared.cf.Control.{Control}
use Rattle.section.specs.declared.Clause.{Clause}
use Rattle.section.specs.Control.{control_of, control_at}
use Rattle.section.specs.Rules.{clause_of, clause_at}
use Rattle.judge.proofs.pairs.Pair.read.Goals as goal

module _ (w : List ℕ) (p : ℕ) {low high : ℕ} {control : Control} {clause : Option Clause} (is_low : low ≡ low_at w p) (is_high : high ≡ high_at w p)
    (is_control : control ≡ control_of high) (is_clause : clause ≡ clause_of control low high) where
  control_here : control ≡ control_at w p
  unfolding control_at
  control_here = is_control ∙ ap control_of is_high

  clause_here : clause ≡ clause_at w p
  unfolding clause_at
  clause_here = is_clause ∙ (λ i. clause_of (control_here i) (is_low i) (is_high i))

pub invariant_of-result : goal.invariant_of-result
invariant_of-result c =
    let w = c.args.section.now.words.now in
    let p = c.args.place.0 in
    let fits : length w < 2 ^ 64 = search rules in
    let here = stands w c.args.place c.low_word-at.result c.low_word-at.ensures (omega (arith, c.requires, c.args.section.now.in_buffer)) fits in
    record {
      in_section = c.requires;
      low_value = here.is_low;
      high_value = here.is_high;
      control_value = control_here w p here.is_low here.is_high c.control_of-control.ensures c.clause_of-clause.ensures;
      clause_value = clause_here w p here.is_low here.is_high c.control_of-control.ensures c.clause_of-clause.ensures;
    }
