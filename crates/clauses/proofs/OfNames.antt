-- An accepted clause names only what is granted, every instruction of every group, and its groups fill it: so none of its instructions is
-- left out. Assumes nothing.
use Rattle.std.proofs.Common.{◌≡◌, ℕ, zero, suc, ◌+◌, ◌-◌, ◌<◌, ◌≤◌, Bool, true, false, cond, ltb, List, [], ◌∷◌, length, sym, refl, ap, ◌∙◌, subst, ⊎_elim, arith, ltb-false, ltb-true}
use mathlib.Core.Bool.{false≢true}
use mathlib.Core.List.Memᴰ
use mathlib.Core.List.{Memᴰ}
use Rattle.units.specs.declared.Quadwords.{Quadwords}
use Rattle.units.specs.declared.Slots.{Slots}
use Rattle.units.specs.Units.{slots, words, slot_quadword, slot_behind, slots_left, slots_length, lies_in}
use Rattle.checks.specs.Verdict.{Accepted}
use Rattle.checks.specs.Checks.{first_broken}
use Rattle.checks.proofs.OfChecks.{first_clean, rest_clean, left_clean, right_clean}
use Rattle.card.specs.declared.Kind.{Kind}
use Rattle.grants.specs.declared.Limits.{Limits}
use Rattle.grants.specs.Grants.{Name, granted}
use Rattle.groups.proofs.OfGroup.{group_granted}
use Rattle.clauses.specs.Clause.{low_of, high_of, is_last, size_from, size_of, bad_shape, size_at, span_at, named_at, groups_from, groups_of, is_pixel, group_checks, checks_of, clause_checks, GroupAt, Fills}
use Rattle.clauses.proofs.OfRead.{size_few, size_some, shaped}

module _ (pixel : Bool) (limits : Limits) (w : List ℕ) (place s : Quadwords) (n : Slots) where
  -- each group of a list of groups that breaks nothing breaks nothing
  each_group :
      (gs : List Slots) → first_broken (checks_of pixel limits w place s n gs) ≡ Accepted → (g : Slots) → Memᴰ g gs
      → first_broken (group_checks pixel limits w place s n g) ≡ Accepted
  unfolding checks_of
  each_group [] h g m = absurd (Memᴰ.not-nil m)
  each_group (k ∷ gs) h g m =
      ⊎_elim
      (λ e. subst (λ (x : Slots). first_broken (group_checks pixel limits w place s n x) ≡ Accepted) (sym e) (left_clean (group_checks pixel limits w place s n k) _ h))
      (λ t. each_group gs (right_clean (group_checks pixel limits w place s n k) _ h) g t)
      (Memᴰ.cases_cons m)

-- the names of the j-th instruction of the group at slot g, for every group of the clause and every instruction of the group
pub accepted_granted :
    (kind : Kind) (push : Bool) (limits : Limits) (w : List ℕ) (place s : Quadwords) (n : Slots)
    → lies_in (words (length w)) s (slots_length n) ≡ true → first_broken (clause_checks kind push limits w place s n) ≡ Accepted → (g : Slots)
    → Memᴰ g (groups_of w s n) → (j : ℕ) → j < size_at w s n g → (x : Name) → Memᴰ x (named_at w s g j)
    → granted limits x ≡ true
unfolding clause_checks group_checks
accepted_granted kind push limits w place s n i h g m j l x =
    let clean = left_clean (checks_of (is_pixel kind) limits w place s n (groups_of w s n)) _ (rw i at h) in
    group_granted place g limits _ (low_of w (slot_quadword s g)) (high_of w (slot_quadword s g)) _
    (rest_clean _ _ (each_group (is_pixel kind) limits w place s n (groups_of w s n) clean g m))
    j l x

-- ---- the groups fill the clause

module _ (w : List ℕ) (q : Quadwords) (left : Slots) where
  -- the search from j on ended at m: LAST is set there, and on none between
  abbrev EndsAt : ℕ → ℕ → Type 0
  EndsAt j m = (is_last (low_of w q m) ≡ true) × ((i : ℕ) → j ≤ i → i < m → is_last (low_of w q i) ≡ false)

  one_more_lem : (j m : ℕ) → is_last (low_of w q j) ≡ false → EndsAt (suc j) m → EndsAt j m
  one_more_lem j m f r = (r.0, λ i a b. by i a b (ltb j i) refl)
    where
      by : (i : ℕ) → j ≤ i → i < m → (t : Bool) → ltb j i ≡ t → is_last (low_of w q i) ≡ false
      by i a b true e = r.1 i (omega (arith, ltb-true j i e)) b
      by i a b false e =
          let z : j ≡ i = omega (arith, a, ltb-false j i e) in ap (λ (x : ℕ). is_last (low_of w q x)) (sym z) ∙ f

  last_here : (k j m : ℕ) → size_from w q left j k ≡ suc m → EndsAt j m
  unfolding size_from
  last_here zero j m e = absurd (omega (arith, e))
  last_here (suc k) j m e = by (ltb j left.0) (is_last (low_of w q j)) refl e (last_here k (suc j) m)
    where
      by :
          (b d : Bool) → is_last (low_of w q j) ≡ d → cond b (cond d (suc j) (size_from w q left (suc j) k)) 0 ≡ suc m
          → (size_from w q left (suc j) k ≡ suc m → EndsAt (suc j) m) → EndsAt j m
      by false d f h later = absurd (omega (arith, h))
      by true true f h later =
          let z : j ≡ m = omega (arith, h) in
          (ap (λ (x : ℕ). is_last (low_of w q x)) (sym z) ∙ f, λ i a b. absurd (omega (arith, a, b, z)))
      by true false f h later = one_more_lem j m f (later h)

-- a group of good shape
module _ (w : List ℕ) (s : Quadwords) (n g : Slots) (l : g.0 < n.0) (h : bad_shape w (slot_quadword s g) (slots_left n g) ≡ false) where
  group_there : GroupAt w s n g
  unfolding size_of
  group_there =
      record {
        some = size_some w (slot_quadword s g) (slots_left n g) h;
        few = (size_few w (slot_quadword s g) (slots_left n g)).0;
        last = λ j e. (last_here w (slot_quadword s g) (slots_left n g) 5 0 j (sym e)).0;
        others = λ j e. other j (size_at w s n g) refl e;
        inside = omega (arith, l, (shaped w (slot_quadword s g) (slots_left n g) h).1);
      }
    where
      other : (j m : ℕ) → size_at w s n g ≡ m → suc j < m → is_last (low_of w (slot_quadword s g) j) ≡ false
      other j zero e f = absurd (omega (arith, f))
      other j (suc m) e f = (last_here w (slot_quadword s g) (slots_left n g) 5 0 m e).1 j (omega arith) (omega (arith, f))

module _ (pixel : Bool) (limits : Limits) (w : List ℕ) (place s : Quadwords) (n : Slots) where
  filled_from :
      (k : ℕ) (g : Slots) → g.0 ≤ n.0 → n.0 - g.0 ≤ k
      → first_broken (checks_of pixel limits w place s n (groups_from w s n k g)) ≡ Accepted → Fills w s n g (groups_from w s n k g)
  unfolding groups_from checks_of group_checks
  filled_from zero g l m = λ h. ap slots (omega (arith, l, m))
  filled_from (suc k) g l m = by (ltb g.0 n.0) refl (bad_shape w (slot_quadword s g) (slots_left n g)) refl (filled_from k (slot_behind g (span_at w s n g)))
    where
      by :
          (b : Bool) → ltb g.0 n.0 ≡ b → (d : Bool) → bad_shape w (slot_quadword s g) (slots_left n g) ≡ d
          → (g.0 + (span_at w s n g).0 ≤ n.0 → n.0 - (g.0 + (span_at w s n g).0) ≤ k
          → first_broken (checks_of pixel limits w place s n (groups_from w s n k (slot_behind g (span_at w s n g)))) ≡ Accepted → Fills w s n (slot_behind g (span_at w s n g)) (groups_from w s n k (slot_behind g (span_at w s n g))))
          → first_broken (checks_of pixel limits w place s n (cond b (g ∷ cond d [] (groups_from w s n k (slot_behind g (span_at w s n g)))) [])) ≡ Accepted
          → Fills w s n g (cond b (g ∷ cond d [] (groups_from w s n k (slot_behind g (span_at w s n g)))) [])
      by false e d f later h = ap slots (omega (arith, l, ltb-false g.0 n.0 e))
      by true e true f later h = absurd (false≢true (sym (first_clean _ _ h) ∙ f))
      by true e false f later h =
          let lt = ltb-true g.0 n.0 e in
          let room = shaped w (slot_quadword s g) (slots_left n g) f in
          (refl, (group_there w s n g lt f, later (omega (arith, lt, room.1)) (omega (arith, m, room.0)) (right_clean (group_checks pixel limits w place s n g) _ h)))

-- the groups of an accepted clause fill it exactly
pub accepted_filled :
    (kind : Kind) (push : Bool) (limits : Limits) (w : List ℕ) (place s : Quadwords) (n : Slots)
    → lies_in (words (length w)) s (slots_length n) ≡ true → first_broken (clause_checks kind push limits w place s n) ≡ Accepted
    → Fills w s n (slots 0) (groups_of w s n)
unfolding clause_checks groups_of
accepted_filled kind push limits w place s n i h =
    filled_from (is_pixel kind) limits w place s n n.0 (slots 0) (omega arith) (omega arith)
    (left_clean (checks_of (is_pixel kind) limits w place s n (groups_of w s n)) _ (rw i at h))
