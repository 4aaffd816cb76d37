-- What only the code's contracts cite.
use Rattle.units.specs.Code.{quadwords_in_64}
use Rattle.section.specs.declared.Range.{Range}

-- a range as the code has it
abbrev pub range_in_64 : Range → Range
range_in_64 r = record { start = r.start; size = quadwords_in_64 r.size }
