-- `input::judge_in` meets its contract: the words that the judge is handed are the pack's. Assumes nothing.
use mathlib.Core.Path.{ap, ◌∙◌}
use native.Mathlib.Omega.{arith}
use Prim.Native.Nat.{ℕ}
use lib.ListN.{length-replicate}
use Rattle.judge.specs.Judge.{judgement}
use Rattle.input.proofs.OfWords.{whole_loaded}
use Rattle.input.proofs.judge_in.Goals as goal

pub returns : goal.returns
returns g c =
    let a = c.args in
    c.judge.ensures.value
    ∙ ap (judgement a.card) (whole_loaded a.pack.now _ (omega (arith, c.requires.few, length-replicate {A = ℕ} g.row.ROOM 0)) c.load-n.ensures.value c.load-n.ensures.words_after)
