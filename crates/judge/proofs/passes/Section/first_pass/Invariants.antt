-- `judge::passes::Section::first_pass`: the first pass stands before a place.
use Rattle.apart.specs.Code.{SeenBefore}
use Rattle.judge.specs.Code.{Standing}
use Rattle.judge.proofs.passes.Section.first_pass.Given as goal

abbrev pub invariant-loop-p : goal.invariant-loop-p
invariant-loop-p l =
    Standing l.self.card l.self.words.now l.self.end.0 l.p l.s l.rows × SeenBefore l.self.words.now l.self.end.0 l.p l.seen
