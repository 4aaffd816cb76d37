-- What only the code's contracts cite: what is known of the clauses opened so far. As long as each lies behind those before it, or is the highest
-- once more, that is where they end; from the first that does not, it is the first place that breaks the rule.
use Rattle.std.specs.Prelude.{ℕ, suc, ◌+◌, ◌≤◌, ◌<◌, min, ◌≡◌, Bool, true, false, not, ◌&&◌, ◌||◌, Option, None, List, ◌++◌, eqb, length, get_or, take, drop, replicate, slice_range, slice_set}
use Rattle.std.specs.List.{list_any}
use Rattle.units.specs.declared.Quadwords.{Quadwords}
use Rattle.units.specs.Units.{quadwords, words, whole_quadwords, is_at_most}
use Rattle.units.specs.Code.{quadwords_in_64}
use Rattle.section.specs.declared.Clause.{Clause}
use Rattle.section.specs.Rules.{clause_at}
use Rattle.apart.specs.Apart.{start_of, length_of, behind, half_shared}
use Rattle.apart.specs.declared.Seen.{Seen}
use Rattle.apart.specs.declared.Seen.TheVariants.{Rising, Asked}

-- ---- the first place that breaks the rule

-- the clause at p has nothing in part with an earlier one
abbrev pub ApartFrom : (ℕ → Option Clause) → ℕ → Type 0
ApartFrom opens p = (q : ℕ) → q < p → half_shared (opens q) (opens p) ≡ false

-- and ends by a limit, behind which there are no marks
pub record Fit (limit : ℕ) (opens : ℕ → Option Clause) (p : ℕ) : Type 0 where
  pub inside : (behind (opens p)).0 ≤ limit
  pub apart : ApartFrom opens p

-- of n places, the first where that is not so; n where there is none
pub record FirstUnfit (limit : ℕ) (opens : ℕ → Option Clause) (n r : ℕ) : Type 0 where
  pub at_most : r ≤ n
  pub fit_before : (q : ℕ) → q < r → Fit limit opens q
  pub unfit_there : r < n → Fit limit opens r → ⊥

-- the quadwords that words have, and those of them that have a mark
abbrev pub quadwords_in : List ℕ → ℕ
quadwords_in w = (whole_quadwords (words (length w))).0

abbrev pub marked_in : List ℕ → ℕ
marked_in w = min (quadwords_in w) 8192

-- in a section that ends at e
abbrev pub FirstNotApart : List ℕ → ℕ → ℕ → Type 0
FirstNotApart w e r = FirstUnfit (marked_in w) (clause_at w) (min (suc e) (quadwords_in w)) r

-- ---- what is known of the clauses so far

-- a place before p has that range
pub record OneIs (opens : ℕ → Option Clause) (p start end : ℕ) : Type 0 where
  pub place : ℕ
  pub earlier : place < p
  pub starts : (start_of (opens place)).0 ≡ start
  pub ends : (behind (opens place)).0 ≡ end

-- before the first clause
abbrev pub none_seen : Seen
none_seen = Rising (quadwords 0) (quadwords 0)

-- a range is behind all before it, or the highest of them; from when on the first place is known it does not matter
abbrev pub is_clear : Seen → Quadwords → Quadwords → Bool
is_clear (Rising behind highest) start end = is_at_most behind start || (eqb highest.0 start.0 && eqb behind.0 end.0)
is_clear (Asked r) start end = true

-- with it
abbrev pub up_to : Seen → Quadwords → Quadwords → Seen
up_to (Rising behind highest) start end = Rising end start
up_to (Asked r) start end = Asked r

-- with one clause more: none is opened; its range is clear; it is not, and the first place is asked for
pub data SeenWith (w : List ℕ) (e : ℕ) (k : Option Clause) (s : Seen) : Seen → Type 0 where
  opens_none : k ≡ None → SeenWith w e k s s
  clear :
      {r : Seen} → (k ≡ None → ⊥) → is_clear s (start_of k) (quadwords_in_64 (behind k)) ≡ true → r ≡ up_to s (start_of k) (quadwords_in_64 (behind k))
      → SeenWith w e k s r
  turns :
      {r : Quadwords} → (k ≡ None → ⊥) → is_clear s (start_of k) (quadwords_in_64 (behind k)) ≡ false → FirstNotApart w e r.0
      → SeenWith w e k s (Asked r)

-- what that says of the places before p: all ranges end there or before, and one is the highest
pub record Risen (opens : ℕ → Option Clause) (p end highest : ℕ) : Type 0 where
  pub below : (q : ℕ) → q < p → (behind (opens q)).0 ≤ end
  pub has_highest : 0 < end → OneIs opens p highest end

abbrev pub SeenBefore : List ℕ → ℕ → ℕ → Seen → Type 0
SeenBefore w e p (Rising end highest) = Risen (clause_at w) p end.0 highest.0
SeenBefore w e p (Asked r) = FirstNotApart w e r.0

-- the place that is known to break the rule is p
abbrev pub names : Seen → Quadwords → Bool
names (Rising behind highest) p = false
names (Asked r) p = eqb r.0 p.0

-- ---- marks: one to a quadword. 0: no clause lies there; n + 1: one of n quadwords starts there; 1: it goes on there

-- quadword j lies in a clause that a pair before p opens
pub record Covered (opens : ℕ → Option Clause) (p j : ℕ) : Type 0 where
  pub opener : ℕ
  pub earlier : opener < p
  pub from_start : (start_of (opens opener)).0 ≤ j
  pub to_end : j < (behind (opens opener)).0

-- the marks are those of the clauses that the pairs before p open
pub record Marked (opens : ℕ → Option Clause) (p : ℕ) (marks : List ℕ) : Type 0 where
  pub starts : (q : ℕ) → q < p → 0 < (length_of (opens q)).0 → get_or marks (start_of (opens q)).0 0 ≡ (length_of (opens q)).0 + 1
  pub goes_on : (q j : ℕ) → q < p → (start_of (opens q)).0 < j → j < (behind (opens q)).0 → get_or marks j 0 ≡ 1
  pub only : (j : ℕ) → (get_or marks j 0 ≡ 0 → ⊥) → Covered opens p j

abbrev pub is_mark : ℕ → Bool
is_mark m = not (eqb m 0)

-- the marks of a range of n quadwords
abbrev pub marks_of : ℕ → List ℕ
marks_of n = slice_set (replicate n 1) 0 (n + 1)

-- what is found of a range by its quadwords' marks: it is marked already, it was free and is marked now, or another lies there
pub data Claimed (before : List ℕ) : Bool → List ℕ → Type 0 where
  again : get_or before 0 0 ≡ length before + 1 → Claimed before false before
  claims : list_any is_mark before ≡ false → Claimed before false (marks_of (length before))
  clashes : {after : List ℕ} → list_any is_mark before ≡ true → (get_or before 0 0 ≡ length before + 1 → ⊥) → Claimed before true after

-- and of n quadwords from s on: they do not end by the limit, or that is found of them
pub data Found (limit s n : ℕ) (before : List ℕ) : Bool → List ℕ → Type 0 where
  outside : limit < s + n → Found limit s n before true before
  within :
      {r : Bool} {here after : List ℕ} → s + n ≤ limit → Claimed (slice_range before s (s + n)) r here
      → after ≡ take s before ++ (here ++ drop (s + n) before) → Found limit s n before r after
