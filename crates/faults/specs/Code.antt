-- What the code's parts answer. It is for the code alone.
use Rattle.std.specs.Prelude.{ℕ, ◌+◌, cond, ltb}
use Rattle.grants.specs.declared.Limits.{Limits}
use Rattle.grants.specs.Grants.{locked}

-- the first source of the same sort that is not granted
abbrev pub source_limit : Limits → ℕ → ℕ
source_limit l sel =
    cond (ltb sel 128) l.gprs
    (cond (ltb sel 160) (128 + locked l.mode0) (cond (ltb sel 192) (160 + locked l.mode1) (256 + l.consts)))
