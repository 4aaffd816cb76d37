-- Worked examples, by computation: where the part starts and what it holds.
use mathlib.Core.Path.{◌≡◌, refl}
use mathlib.Core.List.{List, [], ◌∷◌}
use Prim.Native.Nat.{ℕ}
use Rattle.units.specs.declared.Words.{Words}
use Rattle.units.specs.Units.{words}
use Rattle.compare.specs.Changed.{common_beginning, common_ending, older_rest, newer_rest, rest_ending, changed_words, changed_start}

-- the start and the words of the changed part
abbrev Answer : List ℕ → List ℕ → Words → List ℕ → Type 0
Answer older newer start part = (changed_start older newer ≡ start) × (changed_words older newer ≡ part)

one_word_changed : Answer (1 ∷ 2 ∷ 3 ∷ 4 ∷ []) (1 ∷ 2 ∷ 9 ∷ 4 ∷ []) (words 2) (9 ∷ [])
unfolding common_beginning common_ending older_rest newer_rest rest_ending changed_words
one_word_changed = (refl, refl)

two_words_inserted : Answer (1 ∷ 2 ∷ []) (1 ∷ 8 ∷ 9 ∷ 2 ∷ []) (words 1) (8 ∷ 9 ∷ [])
unfolding common_beginning common_ending older_rest newer_rest rest_ending changed_words
two_words_inserted = (refl, refl)

-- empty where words were only removed
two_words_removed : Answer (1 ∷ 2 ∷ 3 ∷ 4 ∷ []) (1 ∷ 4 ∷ []) (words 1) []
unfolding common_beginning common_ending older_rest newer_rest rest_ending changed_words
two_words_removed = (refl, refl)

-- a repeated word counts in the beginning, and not in the ending too
one_repetition_more : Answer (7 ∷ 7 ∷ []) (7 ∷ 7 ∷ 7 ∷ []) (words 2) (7 ∷ [])
unfolding common_beginning common_ending older_rest newer_rest rest_ending changed_words
one_repetition_more = (refl, refl)

one_repetition_less : Answer (7 ∷ 7 ∷ 7 ∷ []) (7 ∷ 7 ∷ []) (words 2) []
unfolding common_beginning common_ending older_rest newer_rest rest_ending changed_words
one_repetition_less = (refl, refl)

-- nothing in common: the whole of the newer
all_changed : Answer (1 ∷ 2 ∷ []) (2 ∷ 3 ∷ 1 ∷ []) (words 0) (2 ∷ 3 ∷ 1 ∷ [])
unfolding common_beginning common_ending older_rest newer_rest rest_ending changed_words
all_changed = (refl, refl)

none_older : Answer [] (5 ∷ 6 ∷ []) (words 0) (5 ∷ 6 ∷ [])
unfolding common_beginning common_ending older_rest newer_rest rest_ending changed_words
none_older = (refl, refl)
