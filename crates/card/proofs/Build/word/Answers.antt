-- `card::Build::word` meets its contract: each build's word. Assumes nothing.
use Rattle.card.proofs.Build.word.Goals as goal

pub returns-in-Production : goal.returns-in-Production
returns-in-Production c = rw c.in-Production.is

pub returns-in-Debug : goal.returns-in-Debug
returns-in-Debug c = rw c.in-Debug.is
