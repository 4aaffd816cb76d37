-- Tests in a row, the last of them asked first. Assumes nothing.
use mathlib.Core.Path.{◌≡◌, sym, ◌∙◌}
use mathlib.Core.Bool.{Bool, true, false, ◌&&◌, and-true, and-false}

-- one more test, where those before it passed, and where they didn't
pub and_more : (x y t : Bool) {v r : Bool} → v ≡ (x && t) → v ≡ true → r ≡ y → r ≡ (x && y && t)
and_more true y true e h p = p ∙ sym (and-true y)
and_more true y false e h p = absurd (cc)
and_more false y t e h p = absurd (cc)

pub and_less : (x y t : Bool) {v r : Bool} → v ≡ (x && t) → v ≡ false → r ≡ v → r ≡ (x && y && t)
and_less true y true e h p = absurd (cc)
and_less true y false e h p = p ∙ h ∙ sym (and-false y)
and_less false y t e h p = p ∙ h
