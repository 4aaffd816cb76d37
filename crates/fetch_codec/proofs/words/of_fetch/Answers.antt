-- `fetch_codec::words::of_fetch` meets its contract, form by form. Assumes nothing.
use mathlib.Core.Path.{sym, ap, ◌∙◌}
use mathlib.Core.Bool.{not, ◌&&◌}
use Rattle.fetch_codec.specs.declared.Fetch.TheVariants.{Tex, VtxGpr, VtxSem}
use Rattle.fetch_codec.specs.Fetch.{fields_fit, word0_of, word1_of, word2_of, words_if, words_of}
use Rattle.fetch_codec.proofs.words.of_fetch.Goals as goal

pub returns-in-Tex : goal.returns-in-Tex
returns-in-Tex c =
    let f = Tex c.in-Tex.a c.in-Tex.b c.in-Tex.c in
    c.of_words.ensures
    ∙ (λ i. words_if (fields_fit f && c.fetch_taken-taken.ensures i) (word0_of f) (word1_of f) (word2_of f))
    ∙ ap words_of (sym c.in-Tex.is)

pub returns-in-VtxGpr : goal.returns-in-VtxGpr
returns-in-VtxGpr c =
    let f = VtxGpr c.in-VtxGpr.a c.in-VtxGpr.b c.in-VtxGpr.c in
    c.of_words-in-VtxGpr.ensures
    ∙ (λ i. words_if (fields_fit f && (c.fetch_taken-taken-in-VtxGpr.ensures i && not (c.is_semantic-semantic.ensures i))) (word0_of f) (word1_of f) (word2_of f))
    ∙ ap words_of (sym c.in-VtxGpr.is)

pub returns-in-VtxSem : goal.returns-in-VtxSem
returns-in-VtxSem c =
    let f = VtxSem c.in-VtxSem.a c.in-VtxSem.b c.in-VtxSem.c in
    c.of_words-in-VtxSem.ensures
    ∙ (λ i. words_if (fields_fit f && (c.fetch_taken-taken-in-VtxSem.ensures i && c.is_semantic-semantic-in-VtxSem.ensures i)) (word0_of f) (word1_of f) (word2_of f))
    ∙ ap words_of (sym c.in-VtxSem.is)
