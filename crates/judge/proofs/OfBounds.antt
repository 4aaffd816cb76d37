-- What a verdict can name: a number from 1 to 255 where it refuses, and a place and a slot below 2^16, since a line of the card is at most
-- 7, a quadword of the section at most 512, and a clause has at most 128 slots. By a walk over the lists of checks, which says nothing of
-- when a check is broken. Assumes nothing.
use Prim.Native.Nat.{ℕ, zero, suc, ◌≤◌, ◌<◌, ◌^◌}
use mathlib.Core.Path.{◌≡◌, refl}
use mathlib.Core.Bool.{Bool, true, false, cond}
use mathlib.Core.List.{List, [], ◌∷◌}
use native.Mathlib.Omega.{arith}
use Rattle.std.specs.Prelude.{Option, Some, None, Ok, Err}
use borrow.Author.Tests.{ltb-true}
use Rattle.units.specs.declared.Quadwords.{Quadwords}
use Rattle.units.specs.declared.Slots.{Slots}
use Rattle.units.specs.Units.{quadwords, slots, slots_length, fetches_length, lies_in, is_slot_below}
use Rattle.checks.specs.declared.Place.TheVariants.{Whole, Line, Quadword}
use Rattle.checks.specs.Verdict.{Verdict, Accepted, Refused, line_or_quadword, verdict_number, verdict_place, verdict_slot}
use Rattle.checks.specs.Checks.{Check, check}
use Rattle.checks.proofs.OfEach.{Each, empty, more, each_joined, each_below, each_if, each_first}
use Rattle.card.specs.declared.Card.{Card}
use Rattle.card.specs.declared.Kind.{Kind}
use Rattle.card.specs.Card.{CardRead, figure_tests, card_of}
use Rattle.card.proofs.OfCard.{bad_line_lem}
use Rattle.grants.specs.declared.Limits.{Limits}
use Rattle.fetches.specs.Fetches as fetches
use Rattle.groups.specs.Group.{PerInstruction, each_of, rule_checks}
use Rattle.clauses.specs.Clause as alu
use Rattle.clauses.proofs.OfRead.{size_few}
use Rattle.opcodes.specs.declared.cf.FetchKind.{FetchKind}
use Rattle.opcodes.specs.declared.cf.Control.{Control}
use Rattle.opcodes.specs.declared.cf.Control.TheVariants.{NotTaken, Nop, Fetch, Branch, Export, Alu}
use Rattle.section.specs.declared.Clause.{Clause}
use Rattle.section.specs.declared.Clause.TheVariants.{Alu as AluClause, Fetch as FetchClause}
use Rattle.section.specs.Control.{control_at, end_of}
use Rattle.section.specs.Rules.{bad_length, no_end, clause_of, clause_at}
use Rattle.section.proofs.OfEnd.{end_at_most}
use Rattle.apart.specs.Apart.{shared_checks, layout_checks}
use Rattle.walk.specs.declared.Flow.{Flow}
use Rattle.walk.specs.Rules.{stack_checks, second_checks}
use Rattle.judge.specs.Judge.{line_checks, clause_checks, range_checks, inside_checks, pair_checks, first_checks, passes, checks, judgement, read_judgement, judgement_of_bytes}
use Rattle.judge.proofs.OfJudge.{judged_refused}

-- the verdict's number, place and slot as numbers of few bits; only an accepted pack has the number 0
pub record Narrow (v : Verdict) : Type 0 where
  pub number : verdict_number v < 2 ^ 8
  pub refused : verdict_number v ≡ 0 → v ≡ Accepted
  pub place : verdict_place v < 2 ^ 16
  pub slot : verdict_slot v < 2 ^ 16

-- ---- lists of checks

-- a rule's number
abbrev Numbered : ℕ → Type 0
Numbered r = (0 < r) × (r < 2 ^ 8)

record NarrowCheck (c : Check) : Type 0 where
  rule : Numbered c.rule
  place : line_or_quadword c.place < 2 ^ 16
  slot : c.slot.0 < 2 ^ 16

abbrev AllNarrow : List Check → Type 0
AllNarrow = Each NarrowCheck

-- ---- a clause has at most 128 slots or fetches: COUNT has 7 bits or 4

abbrev Few : Option Clause → Type 0
Few None = Unit {0}
Few (Some (AluClause s n push mode0 mode1)) = n.0 ≤ 128
Few (Some (FetchClause s n kind)) = n.0 ≤ 128

few_slots : (c : Control) (lo hi : ℕ) → Few (clause_of c lo hi)
unfolding clause_of
few_slots NotTaken lo hi = tt
few_slots Nop lo hi = tt
few_slots (Fetch kind) lo hi = omega arith
few_slots (Branch b) lo hi = tt
few_slots Export lo hi = tt
few_slots (Alu push pops) lo hi = omega arith

-- ---- the checks at one place

module _ (place : Quadwords) (near : place.0 < 2 ^ 16) where
  at : (r : ℕ) {b : Bool} {cs : List Check} (s : Slots) → Numbered r → s.0 < 2 ^ 16 → AllNarrow cs → AllNarrow (check r (Quadword place) s b ∷ cs)
  at r {b} s n l h = more {c = check r (Quadword place) s b} (record { rule = n; place = near; slot = l }) h

  -- of the pair as a whole
  of_pair_lem : (r : ℕ) {b : Bool} {cs : List Check} → Numbered r → AllNarrow cs → AllNarrow (check r (Quadword place) (slots 0) b ∷ cs)
  of_pair_lem r n h = at r (slots 0) n (omega arith) h

  -- 8 and 9
  in_fetches :
      (kind : FetchKind) (limits : Limits) (w : List ℕ) (s : Quadwords) (n : Slots) → n.0 ≤ 128
      → AllNarrow (fetches.clause_checks kind limits w place s n)
  unfolding fetches.clause_checks fetches.fetch_checks
  in_fetches kind limits w s n few =
      each_if (lies_in _ s (fetches_length n))
      (λ t.
      each_below (fetches.fetch_checks kind limits w place s) n.0
      (λ i l. at 8 _ (omega arith, omega arith) (omega arith) (at 9 _ (omega arith, omega arith) (omega arith) empty)))

  -- a rule asked of each instruction of a group
  in_each : (r : ℕ) (g : Slots) (f : ℕ → Bool) (m : ℕ) → Numbered r → g.0 < 128 → m ≤ 5 → AllNarrow (each_of r place g f m)
  unfolding each_of
  in_each r g f m n inside few = each_below _ m (λ j l. at r _ n (omega arith) empty)

  -- 11 to 15
  in_group :
      (g : Slots) (limits : Limits) (kills : Bool) (lo hi : PerInstruction) (m : ℕ) → g.0 < 128 → m ≤ 5
      → AllNarrow (rule_checks place g limits kills lo hi m)
  unfolding rule_checks
  in_group g limits kills lo hi m inside few =
      each_joined (in_each 11 g _ m (omega arith, omega arith) inside few)
      (each_joined (in_each 12 g _ m (omega arith, omega arith) inside few)
      (each_joined (in_each 13 g _ m (omega arith, omega arith) inside few)
      (at 14 g (omega arith, omega arith) (omega arith) (in_each 15 g _ m (omega arith, omega arith) inside few))))

  module _ (pixel : Bool) (limits : Limits) (w : List ℕ) (s : Quadwords) (n : Slots) (few : n.0 ≤ 128) where
    -- 10, then 11 to 15
    in-shaped : (g : Slots) → g.0 < 128 → AllNarrow (alu.group_checks pixel limits w place s n g)
    unfolding alu.group_checks
    in-shaped g inside = at 10 g (omega arith, omega arith) (omega arith) (in_group g limits _ _ _ _ inside (size_few _ _ _).0)

    -- group by group, from slot g on
    in-groups : (k : ℕ) (g : Slots) → AllNarrow (alu.checks_of pixel limits w place s n (alu.groups_from w s n k g))
    unfolding alu.groups_from alu.checks_of
    in-groups zero g = empty
    in-groups (suc k) g = by _ refl (alu.bad_shape _ _ _) _ (in-groups k _)
      where
        by :
            (t : Bool) → is_slot_below g n ≡ t → (bad : Bool) (gs : List Slots) → AllNarrow (alu.checks_of pixel limits w place s n gs)
            → AllNarrow (alu.checks_of pixel limits w place s n (cond t (g ∷ cond bad [] gs) []))
        by false e bad gs r = empty
        by true e true gs r = each_joined (in-shaped g (omega (arith, ltb-true g.0 n.0 e))) empty
        by true e false gs r = each_joined (in-shaped g (omega (arith, ltb-true g.0 n.0 e))) r

  -- 10 to 15
  in_alu :
      (kind : Kind) (push : Bool) (limits : Limits) (w : List ℕ) (s : Quadwords) (n : Slots) → n.0 ≤ 128
      → AllNarrow (alu.clause_checks kind push limits w place s n)
  unfolding alu.clause_checks alu.groups_of
  in_alu kind push limits w s n few =
      each_if (lies_in _ s (slots_length n))
      (λ t. each_joined (in-groups _ limits w s n few n.0 (slots 0)) (of_pair_lem 14 (omega arith, omega arith) empty))

  -- 8 to 15
  in_clause : (card : Card) (w : List ℕ) (k : Option Clause) → Few k → AllNarrow (clause_checks card w place k)
  unfolding clause_checks
  in_clause card w None few = empty
  in_clause card w (Some (AluClause s n push mode0 mode1)) few = in_alu _ push _ w s n few
  in_clause card w (Some (FetchClause s n kind)) few = in_fetches kind _ w s n few

-- 22, asked against each earlier place
in_layout : (opens : ℕ → Option Clause) (p : ℕ) → p < 2 ^ 16 → AllNarrow (layout_checks opens p)
unfolding layout_checks shared_checks
in_layout opens p near =
    of_pair_lem (quadwords p) near 22 (omega arith, omega arith)
    (each_below _ p (λ q l. of_pair_lem (quadwords p) near 22 (omega arith, omega arith) empty))

-- 4 to 6, 22, 7 and the clause
in_pair : (card : Card) (w : List ℕ) (e p : ℕ) → p < 2 ^ 16 → AllNarrow (pair_checks card w e p)
unfolding pair_checks range_checks inside_checks clause_at
in_pair card w e p near =
    of_pair_lem (quadwords p) near 4 (omega arith, omega arith)
    (of_pair_lem (quadwords p) near 5 (omega arith, omega arith)
    (of_pair_lem (quadwords p) near 6 (omega arith, omega arith)
    (each_joined (in_layout (clause_at w) p near)
    (of_pair_lem (quadwords p) near 7 (omega arith, omega arith)
    (in_clause (quadwords p) near card w (clause_at w p) (few_slots (control_at w p) _ _))))))

-- ---- both passes

in_first : (card : Card) (w : List ℕ) (e p : ℕ) → p < 2 ^ 16 → AllNarrow (first_checks card w e p)
unfolding first_checks stack_checks
in_first card w e p near = each_joined (in_pair card w e p near)
    (of_pair_lem (quadwords p) near 16 (omega arith, omega arith) (of_pair_lem (quadwords p) near 17 (omega arith, omega arith) empty))

in_second : (e : ℕ) (code : ℕ → Flow) (p : ℕ) → p < 2 ^ 16 → AllNarrow (second_checks e code p)
unfolding second_checks
in_second e code p near =
    of_pair_lem (quadwords p) near 18 (omega arith, omega arith) (of_pair_lem (quadwords p) near 19 (omega arith, omega arith) empty)

in_passes : (card : Card) (w : List ℕ) (e : ℕ) → e ≤ 512 → AllNarrow (passes card w e)
unfolding passes
in_passes card w e most =
    each_joined (each_below _ (suc e) (λ p l. in_first card w e p (omega arith)))
    (each_below _ (suc e) (λ p l. in_second e _ p (omega arith)))

-- ---- the verdict

-- 1, of a card by value
in_lines : (card : Card) → AllNarrow (line_checks (figure_tests card))
unfolding line_checks
in_lines card = line 3 (omega arith) (line 4 (omega arith) (line 5 (omega arith) (line 6 (omega arith) (line 7 (omega arith) empty))))
  where
    line :
        {b : Bool} {cs : List Check} (n : ℕ) → n < 2 ^ 16 → AllNarrow cs → AllNarrow (check 1 (Line n) (slots 0) b ∷ cs)
    line {b} n l h =
        more {c = check 1 (Line n) (slots 0) b} (record { rule = (omega arith, omega arith); place = l; slot = omega arith }) h

in_checks : (card : Card) (w : List ℕ) → AllNarrow (checks card w)
unfolding checks
in_checks card w =
    each_joined (in_lines card)
    (more {c = check 2 Whole (slots 0) (bad_length w card.quads)}
    (record { rule = (omega arith, omega arith); place = omega arith; slot = omega arith })
    (more {c = check 3 Whole (slots 0) (no_end w)}
    (record { rule = (omega arith, omega arith); place = omega arith; slot = omega arith })
    (in_passes card w (end_of w) (omega (arith, end_at_most w)))))

-- a refusal names a check of the list
pub judgement_narrow : (card : Card) (w : List ℕ) → Narrow (judgement card w)
judgement_narrow card w = by (judgement card w) refl
  where
    by : (v : Verdict) → judgement card w ≡ v → Narrow v
    by Accepted e = record { number = omega arith; refused = λ z. refl; place = omega arith; slot = omega arith }
    by (Err refusal) e =
        let b = (judged_refused card w refusal.rule refusal.place refusal.slot).0 e in
        let h = each_first (checks card w) refusal.rule refusal.place refusal.slot (in_checks card w) b in
        record { number = h.rule.1; refused = λ z. absurd (omega (arith, h.rule.0)); place = h.place; slot = h.slot }

-- a line at fault
pub line_narrow : (n : ℕ) → n < 2 ^ 16 → Narrow (Refused 1 (Line n) (slots 0))
line_narrow n h = record { number = omega arith; refused = λ z. absurd (omega arith); place = h; slot = omega arith }

-- few bits hold the number, the place and the slot of every verdict on a card in bytes
pub bytes_narrow : (bytes w : List ℕ) → Narrow (judgement_of_bytes bytes w)
unfolding judgement_of_bytes
bytes_narrow bytes w = by (card_of bytes) refl
  where
    by : (r : CardRead) → card_of bytes ≡ r → Narrow (read_judgement r w)
    by (Err line) e = line_narrow line.0 (omega (arith, (bad_line_lem bytes line.0 e).1))
    by (Ok (card, n)) e = judgement_narrow card w
