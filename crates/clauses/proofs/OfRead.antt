-- One group, read instruction by instruction: its size, and where it lies. Assumes nothing.
use Rattle.std.proofs.Common.{◌≡◌, ℕ, zero, suc, ◌+◌, ◌-◌, ◌*◌, ◌/◌, ◌<◌, ◌≤◌, Bool, true, false, cond, ◌||◌, eqb, ltb, min, List, length, get_or, Some, None, sym, refl, ap, ◌∙◌, add-one, arith, ltb-false, ltb-true, le-ltb, lt-ltb, leb-true, le-leb, eq-eqb, ne_eqb}
use mathlib.Core.Bool.{or-true, false≢true}
use Rattle.units.specs.declared.Quadwords.{Quadwords}
use Rattle.units.specs.declared.Slots.{Slots}
use Rattle.units.specs.Units.{slots, words, low_at, high_at, slots_length, lies_in, is_slot_below}
use Rattle.formats.specs.Fields.{◌of◌, «LAST»}
use Rattle.grants.specs.declared.Limits.{Limits}
use Rattle.groups.specs.declared.Seen.{Seen}
use Rattle.groups.specs.Code.{none_seen, next_seen, seen_of}
use Rattle.groups.proofs.OfGroup.{seen_none, seen_next}
use Rattle.clauses.specs.Clause.{low_of, high_of, is_last, size_from, size_of, span_of, bad_shape}
use Rattle.clauses.specs.CodeRead.{group_of}

-- ---- where a clause's words are

-- in the buffer
pub reach : (w : List ℕ) (s : Quadwords) (n : Slots) → lies_in (words (length w)) s (slots_length n) ≡ true → 2 * (s.0 + n.0) ≤ length w
unfolding lies_in
reach w s n h = omega (arith, leb-true (s.0 + n.0) (length w / 2) h)

pub reached : (w : List ℕ) (s : Quadwords) (n : Slots) → 2 * (s.0 + n.0) ≤ length w → lies_in (words (length w)) s (slots_length n) ≡ true
unfolding lies_in
reached w s n h = le-leb (s.0 + n.0) (length w / 2) (omega (arith, h))

-- the words of instruction j of the group at a quadword
module _ (w : List ℕ) (at : Quadwords) (j : ℕ) {q : ℕ} (e : q ≡ at.0 + j) where
  pub low_there : get_or w (2 * q) 0 ≡ low_of w at j
  unfolding low_of low_at
  low_there = ap (λ (k : ℕ). get_or w (2 * k) 0) e

  pub high_there : get_or w (2 * q + 1) 0 ≡ high_of w at j
  unfolding high_of high_at
  high_there = ap (λ (k : ℕ). get_or w (2 * k + 1) 0) e

-- ---- its size

module _ (w : List ℕ) (at : Quadwords) (left : Slots) where
  -- one more word of the search
  look :
      (j k : ℕ)
      → size_from w at left j (suc k) ≡ cond (is_slot_below (slots j) left) (cond (is_last (low_of w at j)) (suc j) (size_from w at left (suc j) k)) 0
  unfolding size_from
  look j k = refl

  left_over_lem : (j : ℕ) → j < 5 → 5 - j ≡ suc (5 - (j + 1))
  left_over_lem j l = omega arith

  size_short : (j : ℕ) → j < 5 → left.0 ≤ j → size_from w at left j (5 - j) ≡ 0
  size_short j l m = rw (left_over_lem j l, look j (5 - (j + 1)), le-ltb j left.0 m)

  pub size_here : (j : ℕ) → j < 5 → j < left.0 → is_last (low_of w at j) ≡ true → size_from w at left j (5 - j) ≡ j + 1
  size_here j l m e = rw (left_over_lem j l, look j (5 - (j + 1)), lt-ltb j left.0 m, e) (sym (add-one j))

  pub size_next :
      (j : ℕ) → j < 5 → j < left.0 → is_last (low_of w at j) ≡ false
      → size_from w at left j (5 - j) ≡ size_from w at left (j + 1) (5 - (j + 1))
  size_next j l m e = rw (left_over_lem j l, look j (5 - (j + 1)), lt-ltb j left.0 m, e, add-one j)

  size_five : (j : ℕ) → 5 ≤ j → j ≤ 5 → size_from w at left j (5 - j) ≡ 0
  unfolding size_from
  size_five j l m = let e : j ≡ 5 = omega arith in rw e

  -- a group has at most five instructions, all of them in the clause
  size_in_lem : (k j : ℕ) → (size_from w at left j k ≤ j + k) × (size_from w at left j k ≤ left.0)
  unfolding size_from
  size_in_lem zero j = (omega arith, omega arith)
  size_in_lem (suc k) j = by (ltb j left.0) refl (is_last (low_of w at j)) (size_in_lem k (suc j))
    where
      by :
          (b : Bool) → ltb j left.0 ≡ b → (d : Bool)
          → (size_from w at left (suc j) k ≤ suc j + k) × (size_from w at left (suc j) k ≤ left.0)
          → (cond b (cond d (suc j) (size_from w at left (suc j) k)) 0 ≤ j + suc k) × (cond b (cond d (suc j) (size_from w at left (suc j) k)) 0 ≤ left.0)
      by false e d r = (omega arith, omega arith)
      by true e true r = (omega arith, omega (arith, ltb-true j left.0 e))
      by true e false r = (omega (arith, r.0), r.1)

  pub size_few : (size_of w at left ≤ 5) × (size_of w at left ≤ left.0)
  unfolding size_of
  size_few = let r = size_in_lem 5 0 in (omega (arith, r.0), r.1)

  -- ---- its shape

  pub bad_size : size_of w at left ≡ 0 → bad_shape w at left ≡ true
  unfolding bad_shape
  bad_size h = rw (eq-eqb (size_of w at left) 0 h)

  pub bad_span : left.0 < (span_of w at left).0 → bad_shape w at left ≡ true
  unfolding bad_shape
  bad_span h = rw (lt-ltb left.0 (span_of w at left).0 h) (or-true (eqb (size_of w at left) 0))

  pub good : (size_of w at left ≡ 0 → ⊥) → (span_of w at left).0 ≤ left.0 → bad_shape w at left ≡ false
  unfolding bad_shape
  good h m = rw (ne_eqb (size_of w at left) 0 h, le-ltb left.0 (span_of w at left).0 m)

  -- a group of good shape takes at least one slot, and none behind those left
  pub shaped : bad_shape w at left ≡ false → (0 < (span_of w at left).0) × ((span_of w at left).0 ≤ left.0)
  unfolding bad_shape span_of
  shaped = by (size_of w at left) refl (ltb left.0 (span_of w at left).0) refl
    where
      by :
          (m : ℕ) → size_of w at left ≡ m → (b : Bool) → ltb left.0 (span_of w at left).0 ≡ b → (eqb m 0 || b) ≡ false
          → (0 < (span_of w at left).0) × ((span_of w at left).0 ≤ left.0)
      by zero e b f h = absurd (false≢true (sym h))
      by (suc m) e true f h = absurd (false≢true (sym h ∙ or-true (eqb (suc m) 0)))
      by (suc m) e false f h = (omega (arith, e), ltb-false left.0 (span_of w at left).0 f)

  pub size_some : bad_shape w at left ≡ false → 0 < size_of w at left
  unfolding bad_shape
  size_some = by (size_of w at left) (is_slot_below left (span_of w at left))
    where
      by : (m : ℕ) (b : Bool) → (eqb m 0 || b) ≡ false → 0 < m
      by zero b h = absurd (false≢true (sym h))
      by (suc m) b h = omega arith

  -- ---- the loop over the group's instructions

  module _ (limits : Limits) where
    -- j instructions are read, and none of them is the last
    pub record Reading (first : ℕ) (seen : Seen) (j : ℕ) : Type 0 where
      pub few : j ≤ 5
      pub first-is : first ≡ high_of w at 0
      pub seen-is : seen ≡ seen_of limits (low_of w at) (high_of w at) j
      pub size_is : size_of w at left ≡ size_from w at left j (5 - j)

    pub reading_none : {first : ℕ} {seen : Seen} → first ≡ high_of w at 0 → seen ≡ none_seen → Reading first seen 0
    unfolding size_of
    reading_none e f =
        record { few = omega arith; first-is = e; seen-is = f ∙ seen_none limits (low_of w at) (high_of w at); size_is = refl }

    module _ {first : ℕ} {seen : Seen} {j : ℕ} (r : Reading first seen j) where
      -- five are read, or all in the clause
      pub reading-out : min left.0 5 ≤ j → None ≡ group_of limits w at left
      unfolding group_of
      reading-out l = rw (r.size_is ∙ by (ltb j 5) refl)
        where
          by : (b : Bool) → ltb j 5 ≡ b → size_from w at left j (5 - j) ≡ 0
          by true e = let k = ltb-true j 5 e in size_short j k (omega (arith, k, l))
          by false e = size_five j (ltb-false j 5 e) r.few

      module _ {low high : ℕ} {after : Seen} (l : j < 5) (m : j < left.0) (p : low ≡ low_of w at j) (q : high ≡ high_of w at j)
          (a : after ≡ next_seen limits (slots j) first low high seen) where
        pub seen_more : after ≡ seen_of limits (low_of w at) (high_of w at) (j + 1)
        seen_more =
            a
            ∙ (λ i. next_seen limits (slots j) (r.first-is i) (p i) (q i) (r.seen-is i))
            ∙ seen_next limits (low_of w at) (high_of w at) j
            ∙ ap (seen_of limits (low_of w at) (high_of w at)) (sym (add-one j))

        module _ {last : ℕ} (f : last ≡ «LAST» of low) where
          is-last : (b : Bool) → eqb last 1 ≡ b → is_last (low_of w at j) ≡ b
          unfolding is_last
          is-last b h = (λ i. eqb («LAST» of (sym p i)) 1) ∙ ap (λ (n : ℕ). eqb n 1) (sym f) ∙ h

          pub reading-last : last ≡ 1 → Some (record { size = slots (j + 1); seen = after }) ≡ group_of limits w at left
          unfolding group_of
          reading-last h =
              let size : size_of w at left ≡ j + 1 = r.size_is ∙ size_here j l m (is-last true (eq-eqb last 1 h)) in
              (λ i. Some (record { size = slots (j + 1); seen = seen_more i }))
              ∙ sym
              (ap
              (λ (k : ℕ). cond (eqb k 0) None (Some (record { size = slots k; seen = seen_of limits (low_of w at) (high_of w at) k })))
              size
              ∙ rw (ne_eqb (j + 1) 0 (λ z. absurd (omega (arith, z)))))

          pub reading-next : (last ≡ 1 → ⊥) → Reading first after (j + 1)
          reading-next h =
              record {
                few = omega arith;
                first-is = r.first-is;
                seen-is = seen_more;
                size_is = r.size_is ∙ size_next j l m (is-last false (ne_eqb last 1 h));
              }
