-- `report::build_word` meets its contract: a build's word. Assumes nothing.
use Rattle.std.proofs.Common.{◌≡◌, sym, ◌∙◌, ap, refl, Some}
use Rattle.card.specs.declared.Build.{Build}
use Rattle.card.specs.declared.Build.TheVariants.{Production, Debug}
use Rattle.card.specs.Text.{text}
use Rattle.card.specs.Written.{build_word}
use Rattle.report.specs.Report.{build_text}
use Rattle.report.proofs.build_word.Goals as goal

same_word : (b : Build) → text (build_word b) ≡ build_text (Some b)
same_word Production = refl
same_word Debug = refl

pub returns-in-Some : goal.returns-in-Some
returns-in-Some c = c.word.ensures ∙ same_word c.in-Some.build ∙ ap build_text (sym c.in-Some.is)
