-- An explanation's lines, of an input or of two files.
use Rattle.std.specs.Prelude.{ℕ, List}
use Rattle.report.specs.Explanation.{explanation_bytes}
use Rattle.explain.specs.Explain.{explanation_of, explanation_of_files}

unfoldable pub lines_of_input : List ℕ → List ℕ
lines_of_input input = explanation_bytes (explanation_of input)

unfoldable pub lines_of_files : List ℕ → List ℕ → List ℕ
lines_of_files text pack = explanation_bytes (explanation_of_files text pack)
