-- `explain::explain` meets its contract: the verdict is the judge's, and what is found where it points is true. Assumes nothing.
use Rattle.explain.proofs.OfExplain.{explained_true}
use Rattle.explain.proofs.explain.Goals as goal

pub returns : goal.returns
returns c =
    let both = explained_true c.args.card c.args.words.now c.judge.ensures.value c.explained.ensures in
    record { value = both.0; explains = both.1 }
