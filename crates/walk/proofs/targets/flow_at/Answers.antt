-- `walk::targets::flow_at` meets its contract: a pair outside of the words does nothing. Assumes nothing.
use Rattle.std.proofs.Common.{ℕ, List, length, rules, arith, ap, ◌≡◌, ◌+◌, ◌*◌, ◌<◌, ◌≤◌, ◌^◌}
use lib.ListN.{get_or, get_or-eq_default}
use Rattle.units.specs.declared.Words.{Words}
use Rattle.units.specs.Units.{low_at, high_at}
use Rattle.opcodes.specs.Numbers.{cf, cf_control}
use Rattle.section.specs.Control.{is_alu_opener, control_of, control_at}
use Rattle.walk.specs.declared.Flow.TheVariants.{Still}
use Rattle.walk.specs.Flow.{flow_of, flow_at}
use Rattle.walk.proofs.targets.flow_at.Goals as goal

-- what stands there, by its two words
at_words : (w : List ℕ) (p : ℕ) {low high : ℕ} → low ≡ 2 * p → high ≡ 2 * p + 1
    → flow_at w p ≡ flow_of (control_of (get_or w high 0)) (get_or w low 0) (get_or w high 0)
unfolding flow_at control_at high_at low_at
at_words w p e f = rw (e, f)

outside : (w : List ℕ) (p : ℕ) → length w ≤ 2 * p + 1 → Still ≡ flow_at w p
unfolding flow_at flow_of control_at control_of high_at is_alu_opener cf_control cf
outside w p l = rw (get_or-eq_default w 0 l)

pub returns-then-at-words : goal.returns-then-at-words
returns-then-at-words c =
    let fits : length c.args.words.now < 2 ^ 64 = search rules in
    outside c.args.words.now c.args.p.0 (omega (arith, ap (λ (x : Words). x.0) c.high_word-at.ensures))

pub returns : goal.returns
returns c =
    let fits : length c.args.words.now < 2 ^ 64 = search rules in
    let high : c.high_word-at.result.0 ≡ 2 * c.args.p.0 + 1 = omega (arith, ap (λ (x : Words). x.0) c.high_word-at.ensures) in
    let low : c.low_word.result.0 ≡ 2 * c.args.p.0 = omega (arith, ap (λ (x : Words). x.0) c.low_word.ensures) in
    rw (at_words c.args.words.now c.args.p.0 low high) (cc)
