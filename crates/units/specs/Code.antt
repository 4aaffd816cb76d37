-- What the code answers: the count, or the largest number of 64 bits where the count is larger still.
use Rattle.std.specs.Prelude.{ℕ, ◌-◌, ◌^◌, min}
use Rattle.units.specs.declared.Quadwords.{Quadwords}
use Rattle.units.specs.declared.Slots.{Slots}
use Rattle.units.specs.declared.Words.{Words}
use Rattle.units.specs.Units.{quadwords, slots, words}

abbrev pub capped : ℕ → ℕ
capped n = min n (2 ^ 64 - 1)

abbrev pub quadwords_in_64 : Quadwords → Quadwords
quadwords_in_64 n = quadwords (capped n.0)

abbrev pub slots_in_64 : Slots → Slots
slots_in_64 n = slots (capped n.0)

abbrev pub words_in_64 : Words → Words
words_in_64 n = words (capped n.0)
