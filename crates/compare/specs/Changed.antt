-- Two packs side by side: document 01's paragraph of that name. The longest common beginning and ending of two lists of words, and
-- the part of the newer between them.
use Rattle.std.specs.Prelude.{ℕ, suc, ◌+◌, ◌*◌, ◌-◌, cond, List, [], ◌∷◌, reverse, eqb, length, take, drop}
use Rattle.std.specs.Borrow.{Bor}
use Rattle.units.specs.declared.Words.{Words}
use Rattle.units.specs.Units.{words}

-- how many words two lists have in common at their beginnings
unfoldable pub common_beginning : List ℕ → List ℕ → ℕ
common_beginning [] ys = 0
common_beginning (x ∷ xs) [] = 0
common_beginning (x ∷ xs) (y ∷ ys) = cond (eqb x y) (suc (common_beginning xs ys)) 0

-- how many at their ends: what they have in common read backwards
unfoldable pub common_ending : List ℕ → List ℕ → ℕ
common_ending xs ys = common_beginning (reverse xs) (reverse ys)

-- what remains of each of two lists behind their common beginning
unfoldable pub older_rest : List ℕ → List ℕ → List ℕ
older_rest older newer = drop (common_beginning older newer) older

unfoldable pub newer_rest : List ℕ → List ℕ → List ℕ
newer_rest older newer = drop (common_beginning older newer) newer

-- how many words the two rests have in common at their ends
unfoldable pub rest_ending : List ℕ → List ℕ → ℕ
rest_ending older newer = common_ending (older_rest older newer) (newer_rest older newer)

-- the words of the newer after the common beginning and before the common ending of what then remains in both
unfoldable pub changed_words : List ℕ → List ℕ → List ℕ
changed_words older newer = take (length (newer_rest older newer) - rest_ending older newer) (newer_rest older newer)

-- the number of the word of the newer at which they start
abbrev pub changed_start : List ℕ → List ℕ → Words
changed_start older newer = words (common_beginning older newer)

-- where a word of a slice lies: a block of memory and an offset in it, at four bytes to a word. The changed part is the newer's own
-- memory from its start on, so that an empty part has its place too
abbrev pub word_place : Bor (List ℕ) → Words → ℕ × ℕ
word_place slice n = (slice.ref_ptr.0, slice.ref_ptr.1 + 4 * n.0)
