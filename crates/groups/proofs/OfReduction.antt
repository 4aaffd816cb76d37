-- Rule 14's reductions, as document 01 has them and as the code finds them: where rule 13 is kept, the four vector units are held by
-- instructions like a reduction exactly if the group's first four instructions stand in them in order and are like its first. Units rise,
-- so what holds unit u is instruction u; and a reduction, which goes to a vector unit, is one of the four. Assumes nothing.
use mathlib.Core.Path.{◌≡◌, refl, sym, ap, ◌∙◌}
use mathlib.Core.Logic.{⊎_elim}
use mathlib.Core.Bool.{Bool, true, false, cond, not, ◌&&◌, ◌||◌, true≢false}
use mathlib.Core.List.{List, [], ◌∷◌}
use Prim.Native.Nat.{ℕ, zero, suc, ◌%◌, ◌<◌, ◌≤◌}
use native.Mathlib.Nat.{eq-or-lt_of_le}
use native.Mathlib.Omega.{arith}
use lib.Dec.{eqb, ltb, leb}
use borrow.Author.Tests.{not-true, not-false, ltb-true, ltb-false, lt-ltb, le-ltb, eqb-true, eq-eqb}
use Rattle.laws.proofs.OfTests.{both}
use Rattle.bits.specs.Fields.{field_of}
use Rattle.formats.specs.Fields.{◌of◌, «CLAMP», «OMOD», OP2_INST, OP3_INST}
use Rattle.opcodes.specs.declared.alu.Class.{Class}
use Rattle.opcodes.specs.declared.alu.Unit.TheVariants.{Vector}
use Rattle.opcodes.specs.declared.alu.Issue.TheVariants.{Reduction}
use Rattle.opcodes.specs.Table.{Row, lookup}
use Rattle.opcodes.specs.Alu.{op2, op3, op2_class, op3_class, not_taken, unit_number, is_unit, is_issue}
use Rattle.instructions.specs.Instruction.{is_op3, class_of}
use Rattle.groups.specs.Group.{PerInstruction, any_below, all_below, trans, unit_for, unit_at, units_before, bad_unit_at, is_alike, is_filled, bad_reduction}
use Rattle.groups.specs.Code.{Taken, is_taken, taken_before, is_uneven, any_uneven, any_reduction, is_straight}
use Rattle.groups.proofs.OfBelow.{found, find, none_passes, pass_none, each_passes, pass_each}
use Rattle.groups.proofs.OfUnits.{rises, rises-from, taken_held, some_before}

-- ---- a reduction goes to a vector unit, its DST_CHAN

abbrev each_row : {A : Type 0} → (A → Bool) → List (Row A) → Bool
each_row p [] = true
each_row p (r ∷ rs) = p r.answer && each_row p rs

-- what passes for every row of a table and for other numbers passes for every number
each_number_lem : {A : Type 0} (p : A → Bool) (other : A) → p other ≡ true → (rs : List (Row A)) → each_row p rs ≡ true → (n : ℕ) → p (lookup other rs n) ≡ true
each_number_lem p other h [] e n = h
each_number_lem p other h (r ∷ rs) e n =
    let b = both (p r.answer) (each_row p rs) e in by (eqb r.number n) b.0 (each_number_lem p other h rs b.1 n)
  where
    by : (t : Bool) → p r.answer ≡ true → p (lookup other rs n) ≡ true → p (cond t r.answer (lookup other rs n)) ≡ true
    by true x y = x
    by false x y = y

abbrev is_vector_if_reduction : Class → Bool
is_vector_if_reduction k = not (is_issue k.issue Reduction) || is_unit k.unit Vector

module _ (h : ℕ) where
  vector_if_reduction : is_vector_if_reduction (class_of h) ≡ true
  unfolding class_of op2_class op3_class op2 op3
  vector_if_reduction = by (is_op3 h)
    where
      by : (b : Bool) → is_vector_if_reduction (cond b (op3_class (OP3_INST of h)) (op2_class (OP2_INST of h))) ≡ true
      by true = each_number_lem is_vector_if_reduction not_taken refl op3 refl (OP3_INST of h)
      by false = each_number_lem is_vector_if_reduction not_taken refl op2 refl (OP2_INST of h)

  vector_unit : is_issue (class_of h).issue Reduction ≡ true → (us : List ℕ) → unit_for us h < trans
  unfolding unit_for
  vector_unit e us =
      let vector : is_unit (class_of h).unit Vector ≡ true = ap (λ (b : Bool). not b || is_unit (class_of h).unit Vector) (sym e) ∙ vector_if_reduction in
      let number : unit_number (class_of h).unit ≡ 2 = eqb-true (unit_number (class_of h).unit) 2 vector in
      rw number (omega arith)

in_vector_unit : (hi : PerInstruction) (j : ℕ) → is_issue (class_of (hi j)).issue Reduction ≡ true → unit_at hi j < trans
unfolding unit_at
in_vector_unit hi j e = vector_unit (hi j) e (units_before hi j)

-- ---- likeness

alike_fields : (g h : ℕ) → is_alike g h ≡ true → (OP2_INST of g ≡ OP2_INST of h) × ((«OMOD» of g ≡ «OMOD» of h) × («CLAMP» of g ≡ «CLAMP» of h))
unfolding is_alike
alike_fields g h e =
    let r = both (eqb (OP2_INST of g) (OP2_INST of h)) _ e in
    let q = both (eqb («OMOD» of g) («OMOD» of h)) _ r.1 in
    (eqb-true (OP2_INST of g) (OP2_INST of h) r.0, (eqb-true («OMOD» of g) («OMOD» of h) q.0, eqb-true («CLAMP» of g) («CLAMP» of h) q.1))

-- two that are like a third are alike
alike : (g a b : ℕ) → is_alike g a ≡ true → is_alike g b ≡ true → is_alike a b ≡ true
unfolding is_alike
alike g a b x y =
    let p = alike_fields g a x in
    let q = alike_fields g b y in
    λ i.
    eq-eqb (OP2_INST of a) (OP2_INST of b) (sym p.0 ∙ q.0) i
    && (eq-eqb («OMOD» of a) («OMOD» of b) (sym p.1.0 ∙ q.1.0) i && eq-eqb («CLAMP» of a) («CLAMP» of b) (sym p.1.1 ∙ q.1.1) i)

module _ (hi : PerInstruction) (m : ℕ) (kept : (j : ℕ) → j < m → bad_unit_at hi j ≡ false) where
  -- of two instructions the one in the lower unit comes first
  in_order : (k j : ℕ) → k < m → unit_at hi k < unit_at hi j → k < j
  in_order k j l h = by (ltb k j) refl
    where
      by : (b : Bool) → ltb k j ≡ b → k < j
      by true e = ltb-true k j e
      by false e =
          ⊎_elim (λ q. absurd (omega (arith, h, ap (unit_at hi) q))) (λ q. absurd (omega (arith, h, rises hi m kept j k q l)))
          (eq-or-lt_of_le (ltb-false k j e))

  -- ---- units that are filled by instructions like g

  module _ (g : ℕ) (filled : is_filled g hi m ≡ true) where
    holder : (u : ℕ) → u < trans → (k : ℕ) × (k < m) × ((unit_at hi k ≡ u) × (is_alike g (hi k) ≡ true))
    unfolding is_filled
    holder u l =
        let f = found (λ k. eqb (unit_at hi k) u && is_alike g (hi k)) m (each_passes (λ u. any_below (λ k. eqb (unit_at hi k) u && is_alike g (hi k)) m) trans filled u l) in
        let r = both (eqb (unit_at hi f.0) u) _ f.2 in
        (f.0, f.1, (eqb-true (unit_at hi f.0) u r.0, r.1))

    not_earlier : (u : ℕ) (l : u < trans) → u ≤ (holder u l).0
    not_earlier zero l = omega arith
    not_earlier (suc u) l =
        let l' : u < trans = omega arith in
        let a = holder u l' in
        let b = holder (suc u) l in
        let order = in_order a.0 b.0 a.1 (omega (arith, a.2.0, b.2.0)) in
        omega (arith, order, not_earlier u l')

    -- instruction u holds unit u
    in_place : (u : ℕ) → u < trans → (u < m) × ((unit_at hi u ≡ u) × (is_alike g (hi u) ≡ true))
    in_place u l =
        let a = holder u l in
        let e : a.0 ≡ u = omega (arith, not_earlier u l, rises-from hi m kept a.0 a.1, a.2.0) in
        (omega (arith, e, a.1), (ap (unit_at hi) (sym e) ∙ a.2.0, ap (λ (k : ℕ). is_alike g (hi k)) (sym e) ∙ a.2.1))

    enough : trans ≤ m
    enough = let l : 3 < trans = omega arith in omega (arith, (in_place 3 l).0)

    even : (k : ℕ) → k < m → is_uneven k (unit_at hi k) (hi 0) (hi k) ≡ false
    unfolding is_uneven
    even k l = by (ltb k trans) refl
      where
        by : (b : Bool) → ltb k trans ≡ b → (b && not (eqb (unit_at hi k) k && is_alike (hi 0) (hi k))) ≡ false
        by false e = refl
        by true e =
            let first = in_place 0 (omega arith) in
            let here = in_place k (ltb-true k trans e) in
            λ i. not (eq-eqb (unit_at hi k) k here.1.0 i && alike g (hi 0) (hi k) first.1.1 here.1.1 i)

  -- ---- a group of four and more, whose first four are in their units and like the first

  module _ (enough : trans ≤ m) (even : (k : ℕ) → k < m → is_uneven k (unit_at hi k) (hi 0) (hi k) ≡ false) where
    evenly : (k : ℕ) → k < trans → (eqb (unit_at hi k) k ≡ true) × (is_alike (hi 0) (hi k) ≡ true)
    unfolding is_uneven
    evenly k l =
        let e = ap (λ (b : Bool). b && not (eqb (unit_at hi k) k && is_alike (hi 0) (hi k))) (sym (lt-ltb k trans l)) ∙ even k (omega (arith, l, enough)) in
        both (eqb (unit_at hi k) k) _ (not-false (eqb (unit_at hi k) k && is_alike (hi 0) (hi k)) e)

    reduction-filled : (j : ℕ) → j < m → is_issue (class_of (hi j)).issue Reduction ≡ true → is_filled (hi j) hi m ≡ true
    unfolding is_filled
    reduction-filled j l e =
        let first = (evenly j (omega (arith, in_vector_unit hi j e, rises-from hi m kept j l))).1 in
        pass_each (λ u. any_below (λ k. eqb (unit_at hi k) u && is_alike (hi j) (hi k)) m) trans
        (λ u h.
        find (λ k. eqb (unit_at hi k) u && is_alike (hi j) (hi k)) m u (omega (arith, h, enough))
        (λ i. (evenly u h).0 i && alike (hi 0) (hi j) (hi u) first (evenly u h).1 i))

  -- ---- the two say the same

  abbrev is_reduction : ℕ → Bool
  is_reduction j = is_issue (class_of (hi j)).issue Reduction

  abbrev is_unfilled : ℕ → Bool
  is_unfilled j = is_reduction j && not (is_filled (hi j) hi m)

  abbrev is_uneven_at : ℕ → Bool
  is_uneven_at j = is_uneven j (unit_at hi j) (hi 0) (hi j)

  -- every reduction has its four units, and there is one: four instructions and more, and none of the four uneven
  clear : any_below is_unfilled m ≡ false → any_below is_reduction m ≡ true → (ltb m trans || any_below is_uneven_at m) ≡ false
  clear e f =
      let r = found is_reduction m f in
      let j = r.0 in
      let filled = not-false (is_filled (hi j) hi m) (ap (λ (b : Bool). b && not (is_filled (hi j) hi m)) (sym r.2) ∙ none_passes is_unfilled m e j r.1) in
      λ i. le-ltb m trans (enough (hi j) filled) i || pass_none is_uneven_at m (even (hi j) filled) i

  -- one has not: fewer than four, or one of them uneven
  broken : any_below is_unfilled m ≡ true → (a : Bool) → ltb m trans ≡ a → (b : Bool) → any_below is_uneven_at m ≡ b → (a || b) ≡ true
  broken e true p b q = refl
  broken e false p true q = refl
  broken e false p false q =
      let r = found is_unfilled m e in
      let j = r.0 in
      let h = both (is_reduction j) _ r.2 in
      let filled = reduction-filled (ltb-false m trans p) (none_passes is_uneven_at m q) j r.1 h.0 in
      absurd (true≢false (sym filled ∙ not-true (is_filled (hi j) hi m) h.1))

  pub same_reduction : (any_reduction hi m && (ltb m trans || any_uneven hi m)) ≡ bad_reduction hi m
  unfolding any_reduction any_uneven bad_reduction
  same_reduction = by (any_below is_reduction m) refl (any_below is_unfilled m) refl
    where
      by :
          (a : Bool) → any_below is_reduction m ≡ a → (b : Bool) → any_below is_unfilled m ≡ b
          → (a && (ltb m trans || any_below is_uneven_at m)) ≡ b
      by false e b f =
          sym (pass_none is_unfilled m (λ j l. ap (λ (x : Bool). x && not (is_filled (hi j) hi m)) (none_passes is_reduction m e j l))) ∙ f
      by true e false f = clear f e
      by true e true f = broken f (ltb m trans) refl (any_below is_uneven_at m) refl

  -- ---- the four vector units are taken, and the first four instructions are like the first

  module _ {t : Taken} (e : taken_before hi m ≡ t) (h : is_straight hi m t ≡ true) where
    straight : (eqb (t % 16) 15 ≡ true) × (all_below (λ k. is_alike (hi 0) (hi k)) trans ≡ true)
    unfolding is_straight
    straight = both (eqb (t % 16) 15) _ (both (leb trans m) _ h).1

    taken : (u : ℕ) → u < trans → is_taken t u ≡ true
    unfolding is_taken
    taken u l = eq-eqb (field_of t u 1) 1 (by u l (eqb-true (t % 16) 15 straight.0))
      where
        by : (u : ℕ) → u < trans → t % 16 ≡ 15 → field_of t u 1 ≡ 1
        by zero k z = omega (arith, z)
        by (suc zero) k z = omega (arith, z)
        by (suc (suc zero)) k z = omega (arith, z)
        by (suc (suc (suc zero))) k z = omega (arith, z)
        by (suc (suc (suc (suc u)))) k z = absurd (omega arith)

    like : (k : ℕ) → k < trans → is_alike (hi 0) (hi k) ≡ true
    like k l = each_passes (λ k. is_alike (hi 0) (hi k)) trans straight.1 k l

    held : (u : ℕ) → u < trans → (k : ℕ) × (k < m) × (unit_at hi k ≡ u)
    held u l =
        let r = some_before hi (eqb u) m (sym (taken_held hi m u (omega arith)) ∙ ap (λ (x : Taken). is_taken x u) e ∙ taken u l) in
        (r.0, r.1, sym (eqb-true u (unit_at hi r.0) r.2))

    straight-filled : (j : ℕ) → j < m → is_reduction j ≡ true → is_filled (hi j) hi m ≡ true
    unfolding is_filled
    straight-filled j l q =
        let first = like j (omega (arith, in_vector_unit hi j q, rises-from hi m kept j l)) in
        pass_each (λ u. any_below (λ k. eqb (unit_at hi k) u && is_alike (hi j) (hi k)) m) trans
        (λ u b.
        let a = held u b in
        let few : a.0 < trans = omega (arith, rises-from hi m kept a.0 a.1, a.2, b) in
        find (λ k. eqb (unit_at hi k) u && is_alike (hi j) (hi k)) m a.0 a.1
        (λ i. eq-eqb (unit_at hi a.0) u a.2 i && alike (hi 0) (hi j) (hi a.0) first (like a.0 few) i))

    pub straight-clear : (any_reduction hi m && (ltb m trans || any_uneven hi m)) ≡ false
    unfolding bad_reduction
    straight-clear = same_reduction ∙ pass_none is_unfilled m (λ j l. by j l (is_reduction j) refl)
      where
        by : (j : ℕ) → j < m → (b : Bool) → is_reduction j ≡ b → (b && not (is_filled (hi j) hi m)) ≡ false
        by j l false q = refl
        by j l true q = ap not (straight-filled j l q)
