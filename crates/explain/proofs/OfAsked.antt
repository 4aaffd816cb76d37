-- What the checks of rules 9 and 15 ask, by a walk over the ordered list: one at a place and a slot is broken exactly if the instruction there names
-- something that is not granted. Assumes nothing.
use Prim.Native.Nat.{ℕ, zero, suc, ◌+◌, ◌*◌, ◌/◌, ◌≤◌, ◌<◌}
use mathlib.Core.Path.{◌≡◌, refl, sym, ap, subst, ◌∙◌}
use mathlib.Core.Bool.{Bool, true, false, cond, not, true≢false}
use mathlib.Core.List.{List, [], ◌∷◌}
use native.Mathlib.Omega.{arith}
use lib.ListN.{length}
use Rattle.std.specs.Prelude.{Option, Some, None}
use borrow.Author.Tests.{ltb-true, leb-true}
use Rattle.units.specs.declared.Quadwords.{Quadwords}
use Rattle.units.specs.declared.Slots.{Slots}
use Rattle.units.specs.Units.{quadwords, slots, words, low_at, high_at, slot_quadword, slot_behind, slots_left, fetch_slot, slots_length, fetches_length, lies_in, is_slot_below}
use Rattle.checks.specs.declared.Place.{Place}
use Rattle.checks.specs.declared.Place.TheVariants.{Quadword}
use Rattle.checks.specs.Checks.{Check, check}
use Rattle.checks.specs.Laws.{BrokenFirst}
use Rattle.checks.proofs.OfEach.{Each, empty, more, each_joined, each_below, each_if, each_first}
use Rattle.card.specs.declared.Card.{Card}
use Rattle.card.specs.declared.Kind.{Kind}
use Rattle.card.specs.Card.{figure_tests}
use Rattle.grants.specs.Grants.{all_granted}
use Rattle.instructions.specs.Instruction.{named}
use Rattle.fetches.specs.Fetches as fetches
use Rattle.groups.specs.Group.{each_of, rule_checks}
use Rattle.clauses.specs.Clause as alu
use Rattle.clauses.proofs.OfRead.{size_few}
use Rattle.opcodes.specs.declared.cf.FetchKind.{FetchKind}
use Rattle.section.specs.declared.Clause.{Clause}
use Rattle.section.specs.declared.Clause.TheVariants.{Alu, Fetch}
use Rattle.section.specs.Control.{end_of}
use Rattle.section.specs.Rules.{clause_at}
use Rattle.apart.specs.Apart.{shared_checks, layout_checks}
use Rattle.walk.specs.Rules.{stack_checks, second_checks}
use Rattle.judge.specs.Judge.{line_checks, limits_with, limits_in, clause_checks, range_checks, inside_checks, pair_checks, first_checks, passes, checks}
use Rattle.explain.specs.Explain.{asks_names, named_in}
use Rattle.explain.specs.Truth.{HasSlot}

module _ (card : Card) (w : List ℕ) where
  -- whether all is granted that is named at a slot of the clause that the pair at p opens
  abbrev pub GrantedAt : ℕ → Slots → Bool
  GrantedAt p s = all_granted (limits_in card (clause_at w p)) (named_in w s (clause_at w p))

  pub record AskedAt (c : Check) : Type 0 where
    pub opener : Quadwords
    pub place_is : c.place ≡ Quadword opener
    pub in_section : opener.0 ≤ end_of w
    pub in_clause : HasSlot (length w) c.slot (clause_at w opener.0)
    pub broken-is : c.broken ≡ not (GrantedAt opener.0 c.slot)

  abbrev AsksNames : Check → Type 0
  AsksNames c = asks_names c.rule ≡ true → AskedAt c

  -- a check of another rule
  other : (r : ℕ) {p : Place} {s : Slots} {b : Bool} {cs : List Check} → asks_names r ≡ false → Each AsksNames cs → Each AsksNames (check r p s b ∷ cs)
  other r {p} {s} {b} e h = more {c = check r p s b} (λ t. absurd (true≢false (sym t ∙ e))) h

  -- ---- at one place of the section

  module _ (p : ℕ) (near : p ≤ end_of w) where
    asks :
        (r : ℕ) (s : Slots) (k : Option Clause) {b : Bool} {cs : List Check} → clause_at w p ≡ k → HasSlot (length w) s k
        → b ≡ not (all_granted (limits_in card k) (named_in w s k)) → Each AsksNames cs → Each AsksNames (check r (Quadword (quadwords p)) s b ∷ cs)
    asks r s k {b} e i q h =
        more {c = check r (Quadword (quadwords p)) s b}
        (λ t.
        record {
          opener = quadwords p;
          place_is = refl;
          in_section = near;
          in_clause = subst (HasSlot (length w) s) (sym e) i;
          broken-is = q ∙ ap (λ (j : Option Clause). not (all_granted (limits_in card j) (named_in w s j))) (sym e);
        })
        h

    -- 8 and 9
    in_fetches :
        (s : Quadwords) (n : Slots) (kind : FetchKind) → clause_at w p ≡ Some (Fetch s n kind)
        → Each AsksNames (fetches.clause_checks kind (limits_with card 0 0) w (quadwords p) s n)
    unfolding fetches.clause_checks fetches.fetch_checks lies_in
    in_fetches s n kind k =
        each_if (lies_in (words (length w)) s (fetches_length n))
        (λ t.
        let inside = leb-true (s.0 + 2 * n.0) (length w / 2) t in
        each_below (fetches.fetch_checks kind (limits_with card 0 0) w (quadwords p) s) n.0
        (λ i l.
        other 8 refl
        (asks 9 (fetch_slot (slots i)) (Some (Fetch s n kind)) k (omega (arith, l), omega (arith, inside)) refl empty)))

    -- another rule asked of each instruction of a group
    in-others : (r : ℕ) (g : Slots) (f : ℕ → Bool) (m : ℕ) → asks_names r ≡ false → Each AsksNames (each_of r (quadwords p) g f m)
    unfolding each_of
    in-others r g f m e = each_below _ m (λ j l. other r e empty)

    module _ (s : Quadwords) (n : Slots) (push : Bool) (mode0 mode1 : ℕ) (k : clause_at w p ≡ Some (Alu s n push mode0 mode1))
        (inside : 2 * (s.0 + n.0) ≤ length w) where
      -- 15 of each
      in-names :
          (g : Slots) (m : ℕ) → g.0 + m ≤ n.0
          → Each AsksNames (each_of 15 (quadwords p) g (λ j. not (all_granted (limits_with card mode0 mode1) (alu.named_at w s g j))) m)
      unfolding each_of alu.low_of alu.high_of
      in-names g m few =
          each_below _ m
          (λ j l.
          let e : s.0 + g.0 + j ≡ s.0 + (g.0 + j) = omega arith in
          asks 15 (slot_behind g (slots j)) (Some (Alu s n push mode0 mode1)) k (omega (arith, l, few), inside)
          (λ i. not (all_granted (limits_with card mode0 mode1) (named (low_at w (e i)) (high_at w (e i)))))
          empty)

      -- 10, then 11 to 15
      in_group :
          (pixel : Bool) (g : Slots) → g.0 < n.0 → Each AsksNames (alu.group_checks pixel (limits_with card mode0 mode1) w (quadwords p) s n g)
      unfolding alu.group_checks rule_checks
      in_group pixel g l =
          let few = (size_few w (slot_quadword s g) (slots_left n g)).1 in
          other 10 refl
          (each_joined (in-others 11 g _ _ refl)
          (each_joined (in-others 12 g _ _ refl)
          (each_joined (in-others 13 g _ _ refl) (other 14 refl (in-names g _ (omega (arith, l, few)))))))

      -- group by group, from slot g on
      in-groups :
          (pixel : Bool) (k : ℕ) (g : Slots)
          → Each AsksNames (alu.checks_of pixel (limits_with card mode0 mode1) w (quadwords p) s n (alu.groups_from w s n k g))
      unfolding alu.groups_from alu.checks_of
      in-groups pixel zero g = empty
      in-groups pixel (suc k) g = by _ refl (alu.bad_shape _ _ _) _ (in-groups pixel k _)
        where
          by :
              (t : Bool) → is_slot_below g n ≡ t → (bad : Bool) (gs : List Slots)
              → Each AsksNames (alu.checks_of pixel (limits_with card mode0 mode1) w (quadwords p) s n gs)
              → Each AsksNames (alu.checks_of pixel (limits_with card mode0 mode1) w (quadwords p) s n (cond t (g ∷ cond bad [] gs) []))
          by false e bad gs r = empty
          by true e true gs r = each_joined (in_group pixel g (ltb-true g.0 n.0 e)) empty
          by true e false gs r = each_joined (in_group pixel g (ltb-true g.0 n.0 e)) r

    in_alu :
        (s : Quadwords) (n : Slots) (push : Bool) (mode0 mode1 : ℕ) → clause_at w p ≡ Some (Alu s n push mode0 mode1) → (kind : Kind)
        → Each AsksNames (alu.clause_checks kind push (limits_with card mode0 mode1) w (quadwords p) s n)
    unfolding alu.clause_checks alu.groups_of lies_in
    in_alu s n push mode0 mode1 k kind =
        each_if (lies_in (words (length w)) s (slots_length n))
        (λ t.
        let inside = leb-true (s.0 + n.0) (length w / 2) t in
        each_joined (in-groups s n push mode0 mode1 k (omega (arith, inside)) (alu.is_pixel kind) n.0 (slots 0)) (other 14 refl empty))

    in_clause : (k : Option Clause) → clause_at w p ≡ k → Each AsksNames (clause_checks card w (quadwords p) k)
    unfolding clause_checks
    in_clause None k = empty
    in_clause (Some (Alu s n push mode0 mode1)) k = in_alu s n push mode0 mode1 k card.kind
    in_clause (Some (Fetch s n kind)) k = in_fetches s n kind k

    in_first : Each AsksNames (first_checks card w (end_of w) p)
    unfolding first_checks pair_checks range_checks layout_checks shared_checks inside_checks stack_checks
    in_first =
        other 4 refl
        (other 5 refl
        (other 6 refl
        (other 22 refl
        (each_joined
        (each_joined (each_below _ p (λ q l. other 22 refl empty)) (other 7 refl (in_clause (clause_at w p) refl)))
        (other 16 refl (other 17 refl empty))))))

  -- ---- the list

  in_lines : (ts : List (ℕ × Bool)) → Each AsksNames (line_checks ts)
  unfolding line_checks
  in_lines [] = empty
  in_lines (t ∷ ts) = other 1 refl (in_lines ts)

  in_checks : Each AsksNames (checks card w)
  unfolding checks passes second_checks
  in_checks =
      each_joined (in_lines (figure_tests card))
      (other 2 refl
      (other 3 refl
      (each_joined (each_below _ (suc (end_of w)) (λ p l. in_first p (omega (arith, l))))
      (each_below _ (suc (end_of w)) (λ p l. other 18 refl (other 19 refl empty))))))

  -- a refusal by 9 or 15
  pub names_asked : (r : ℕ) (p : Place) (s : Slots) → BrokenFirst (checks card w) r p s → asks_names r ≡ true → AskedAt (check r p s true)
  names_asked r p s b = each_first (checks card w) r p s in_checks b
