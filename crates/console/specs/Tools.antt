-- The programs by the names that their messages begin with.
use Rattle.std.specs.Prelude.{ℕ, List, codes}
use Rattle.console.specs.declared.files.Tool.{Tool}
use Rattle.console.specs.declared.files.Tool.TheVariants.{Judge, Explain, Fetch}

abbrev pub tool_name : Tool → List ℕ
tool_name Judge = codes "judge"
tool_name Explain = codes "explain"
tool_name Fetch = codes "fetch"
