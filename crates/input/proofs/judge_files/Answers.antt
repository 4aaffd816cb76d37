-- `input::judge_files` meets its contract: by the card's answer, and by whether it takes all of its file. Assumes nothing.
use mathlib.Core.Path.{◌≡◌, ◌∙◌}
use mathlib.Core.List.{List, ◌++◌}
use Prim.Native.Nat.{ℕ}
use Rattle.input.specs.Input.{judged_of, judged_of_files, AllLines}
use Rattle.input.specs.declared.Judged.{Judged}
use Rattle.input.proofs.OfInput.{bad-line-beside, read-in-range, beside-answer, more-behind, all_lines}
use Rattle.input.proofs.judge_files.Goals as goal

-- the answer, and what it is for a file of all its lines and nothing else
both : (text pack : List ℕ) {judged : Judged} → judged ≡ judged_of_files text pack
    → (judged ≡ judged_of_files text pack) × (AllLines text → judged ≡ judged_of (text ++ pack))
both text pack e = (e, λ s. e ∙ all_lines text pack s)

pub judged_by-requires : goal.judged_by-requires
judged_by-requires c = read-in-range c.args.text.now c.read_card.ensures c.in-Ok.is

pub returns-in-Ok : goal.returns-in-Ok
returns-in-Ok c =
    let a = c.args in
    let both = both a.text.now a.pack.now
    (beside-answer a.text.now c.read_card.ensures c.in-Ok.is a.pack.now c.if-taken-text.true c.judged_by.ensures) in
    record { value = both.0; value_2 = both.1 }

pub returns-in-Ok-2 : goal.returns-in-Ok-2
returns-in-Ok-2 c =
    let a = c.args in
    let both = both a.text.now a.pack.now
    (more-behind a.text.now c.read_card.ensures c.in-Ok.is a.pack.now c.if-taken-text.false c.without_card.ensures) in
    record { value = both.0; value_2 = both.1 }

pub returns-in-Err : goal.returns-in-Err
returns-in-Err c =
    let a = c.args in
    let both = both a.text.now a.pack.now
    (bad-line-beside a.text.now c.read_card.ensures c.in-Err.is c.without_card-in-Err.ensures a.pack.now) in
    record { value = both.0; value_2 = both.1 }
