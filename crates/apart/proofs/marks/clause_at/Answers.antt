-- `apart::marks::clause_at` meets its contract: the pair's words, and what they say. Assumes nothing.
use borrow.Author.Rules.{rules}
use Rattle.units.proofs.OfUnits.{stands}
use Rattle.apart.proofs.OfApart.{clause_here}
use Rattle.apart.proofs.marks.clause_at.Goals as goal

pub returns : goal.returns
returns c =
    let here = stands c.args.words.now c.args.p c.low_word-at.result c.low_word-at.ensures c.requires (search rules) in
    clause_here c.args.words.now c.args.p.0 here.is_low here.is_high c.control_of-control.ensures c.clause_of.ensures
