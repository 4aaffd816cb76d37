-- `explain::explain_files` meets its contract: by what the card says. Assumes nothing.
use Rattle.explain.proofs.OfExplain.{files_whole, files_line}
use Rattle.explain.proofs.explain_files.Goals as goal

pub returns-in-Ok : goal.returns-in-Ok
returns-in-Ok c =
    let a = c.args in
    let both = files_whole a.text.now a.pack.now c.read_card.ensures c.judge_files-verdict.ensures.value c.in-Ok.is c.explained.ensures in
    record { value = both.0; explains_files = both.1 }

pub returns-in-Err : goal.returns-in-Err
returns-in-Err c =
    let a = c.args in
    let both = files_line a.text.now a.pack.now c.read_card.ensures c.judge_files-verdict.ensures.value c.in-Err.is c.plain.ensures in
    record { value = both.0; explains_files = both.1 }
