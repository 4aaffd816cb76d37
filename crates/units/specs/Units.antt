-- Counts of quadwords, slots and words, and what each conversion between them gives: document 01, "What the judge reads", and the
-- lengths of rule 6. Nothing here adds one unit to another except where the paper does.
use Rattle.std.specs.Prelude.{ℕ, ◌+◌, ◌*◌, ◌/◌, ◌-◌, Bool, List, ltb, leb, get_or}
use Rattle.units.specs.declared.Quadwords.{Quadwords}
use Rattle.units.specs.declared.Slots.{Slots}
use Rattle.units.specs.declared.Words.{Words}

-- a count of n, by its unit
abbrev pub quadwords : ℕ → Quadwords
quadwords n = record { 0 = n }

abbrev pub slots : ℕ → Slots
slots n = record { 0 = n }

abbrev pub words : ℕ → Words
words n = record { 0 = n }

-- ---- quadwords and words

-- quadword q is words 2q (low) and 2q+1 (high)
abbrev pub low_word : Quadwords → Words
low_word q = words (2 * q.0)

abbrev pub high_word : Quadwords → Words
high_word q = words (2 * q.0 + 1)

-- so of a list of words quadword p is these two; 0 where there is none
unfoldable pub low_at : List ℕ → ℕ → ℕ
low_at w p = get_or w (low_word (quadwords p)).0 0

unfoldable pub high_at : List ℕ → ℕ → ℕ
high_at w p = get_or w (high_word (quadwords p)).0 0

-- the words that q quadwords take
abbrev pub words_of : Quadwords → Words
words_of q = words (2 * q.0)

-- the quadwords that lie wholly in n words
abbrev pub whole_quadwords : Words → Quadwords
whole_quadwords n = quadwords (n.0 / 2)

-- ---- slots, and where they stand

-- COUNT is one less than what it counts: slots (ALU) or fetches
abbrev pub counted : Slots → Slots
counted field = slots (field.0 + 1)

-- a slot takes one quadword, a fetch two
abbrev pub slots_length : Slots → Quadwords
slots_length n = quadwords n.0

abbrev pub fetches_length : Slots → Quadwords
fetches_length n = quadwords (2 * n.0)

-- the slot of a clause's i-th fetch, from 0: its first quadword in the clause
abbrev pub fetch_slot : Slots → Slots
fetch_slot i = slots (2 * i.0)

-- the slot n slots behind s
abbrev pub slot_behind : Slots → Slots → Slots
slot_behind s n = slots (s.0 + n.0)

-- of n slots, those from slot s on
abbrev pub slots_left : Slots → Slots → Slots
slots_left n s = slots (n.0 - s.0)

-- the quadword of slot s of a clause that starts at a quadword
abbrev pub slot_quadword : Quadwords → Slots → Quadwords
slot_quadword start s = quadwords (start.0 + s.0)

-- ---- ranges of quadwords, and places in a row

-- the quadword behind a range
abbrev pub range_end : Quadwords → Quadwords → Quadwords
range_end start size = quadwords (start.0 + size.0)

-- the next quadword, and the one before (that of 0 is 0)
abbrev pub quadword_behind : Quadwords → Quadwords
quadword_behind q = quadwords (q.0 + 1)

abbrev pub quadword_before : Quadwords → Quadwords
quadword_before q = quadwords (q.0 - 1)

-- a < b and a ≤ b, of quadwords; a < b of slots
abbrev pub is_below : Quadwords → Quadwords → Bool
is_below a b = ltb a.0 b.0

abbrev pub is_at_most : Quadwords → Quadwords → Bool
is_at_most a b = leb a.0 b.0

abbrev pub is_slot_below : Slots → Slots → Bool
is_slot_below a b = ltb a.0 b.0

-- so many quadwords from start on lie in a buffer of so many words
unfoldable pub lies_in : Words → Quadwords → Quadwords → Bool
lies_in buffer start size = is_at_most (range_end start size) (whole_quadwords buffer)
