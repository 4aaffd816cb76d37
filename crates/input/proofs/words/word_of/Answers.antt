-- `input::words::word_of` meets its contract: word i starts at byte 4i, and there is none behind the last. Assumes nothing.
use mathlib.Core.Path.{sym, ◌∙◌}
use native.Mathlib.Omega.{arith}
use lib.ListN.{get_or-eq_default}
use Rattle.input.specs.Words.{words_in}
use Rattle.input.proofs.OfWords.{words_length, word_is, cut_word}
use Rattle.input.proofs.words.word_of.Goals as goal

pub returns-then-i-bytes : goal.returns-then-i-bytes
returns-then-i-bytes c =
    let a = c.args in
    let e = c.word_at.ensures ∙ sym (word_is a.bytes.now a.i.0 (omega arith)) in
    record { value = e; by_index = λ n h. e ∙ cut_word (words_in a.bytes.now) n (omega (arith, words_length a.bytes.now)) h }

pub returns-else-i-bytes : goal.returns-else-i-bytes
returns-else-i-bytes c =
    let a = c.args in
    let e = sym (get_or-eq_default (words_in a.bytes.now) 0 {n = a.i.0} (omega (arith, words_length a.bytes.now))) in
    record { value = e; by_index = λ n h. e ∙ cut_word (words_in a.bytes.now) n (omega (arith, words_length a.bytes.now)) h }
