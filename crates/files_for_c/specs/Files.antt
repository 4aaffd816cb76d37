-- What bit 48 of the answer to a card's file and a pack's tells: document 01, "What the judge reads". release is yes exactly if verdict is 0
-- and build is production.
use Rattle.std.specs.Prelude.{ℕ, ◌≡◌, cond, List, ◌↔◌}
use Rattle.report.specs.Report.{released}
use Rattle.judge.specs.Safe.{Safely}
use Rattle.input.specs.declared.Judged.{Judged}
use Rattle.input.specs.Words.{words_in}
use Rattle.input.specs.Input.{judged_of_files}
use Rattle.input.specs.Released.{Released}
use Rattle.judge_for_c.specs.Packed.{packed, bit_of, ReadBack}

-- 1 where the report says release=yes, else 0
abbrev pub released_bit : Judged → ℕ
released_bit judged = cond (released judged.build judged.verdict) 1 0

-- an answer as one number
abbrev pub packed_answer : Judged → ℕ
packed_answer judged = packed judged.verdict (released_bit judged)

-- what is read off the answer r to a card's file and a pack's
pub record FilesRead (text pack : List ℕ) (r : ℕ) : Type 0 where
  pub read_back : ReadBack (judged_of_files text pack).verdict (released_bit (judged_of_files text pack)) r
  -- the bit is set exactly if they are released
  pub set_exactly_if : (bit_of r ≡ 1) ↔ Released text pack
  -- and then, whatever the answers, the walk of that pack by that card is safe (demand 3)
  pub then_safe : (q : Released text pack) → Safely q.card (words_in pack)
