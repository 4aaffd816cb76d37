-- `microcode::words::of_record` meets its contract, form by form. Assumes nothing.
use mathlib.Core.Path.{◌∙◌, ap, sym}
use Rattle.microcode.specs.Pair.{words_of}
use Rattle.microcode.proofs.words.of_record.Goals as goal

pub returns-in-Cf : goal.returns-in-Cf
returns-in-Cf c = c.of_cf.ensures ∙ ap words_of (sym c.in-Cf.is)

pub returns-in-Export : goal.returns-in-Export
returns-in-Export c = c.of_export.ensures ∙ ap words_of (sym c.in-Export.is)

pub returns-in-Op2 : goal.returns-in-Op2
returns-in-Op2 c = c.of_op2.ensures ∙ ap words_of (sym c.in-Op2.is)

pub returns-in-Op3 : goal.returns-in-Op3
returns-in-Op3 c = c.of_op3.ensures ∙ ap words_of (sym c.in-Op3.is)
