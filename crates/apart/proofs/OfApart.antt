-- Rule 22 of two clauses, of a place against all before it, and what is known as the places go by. Assumes nothing.
use Prim.Native.Nat.{ℕ, zero, suc, ◌^◌, ◌≤◌, ◌<◌, min}
use mathlib.Core.Path.{◌≡◌, refl, sym, ap, ◌∙◌, subst}
use mathlib.Core.Bool.{Bool, true, false, not, ◌&&◌, ◌||◌}
use mathlib.Core.List.{List, [], ◌∷◌}
use mathlib.Core.Logic.{◌⊎◌, inl, inr, ⊎_elim}
use Rattle.std.specs.Prelude.{Option, Some, None}
use native.Mathlib.Nat.{le_of_suc-le-suc, eq-or-lt_of_le, le_refl, le_step}
use native.Mathlib.Omega.{arith}
use lib.Dec.{eqb, ltb}
use borrow.Author.Tests.{eqb-true, eqb-false, eq-eqb, ltb-true, ltb-false, leb-true, leb-false, le-leb}
use Rattle.laws.proofs.OfCases.{impossible}
use Rattle.laws.proofs.OfTests.{both, by_test_lem}
use Rattle.units.specs.declared.Quadwords.{Quadwords}
use Rattle.units.specs.Units.{quadwords, slots, low_at, high_at, range_end, is_at_most}
use Rattle.units.specs.Code.{quadwords_in_64}
use Rattle.checks.specs.declared.Place.TheVariants.{Quadword}
use Rattle.checks.specs.Verdict.{Accepted, Refused}
use Rattle.checks.specs.Checks.{Check, of_pair, first_broken, below}
use Rattle.checks.proofs.OfChecks.{first_clean, joined_clean, joined_refused, below_next, below_each}
use Rattle.opcodes.specs.declared.cf.Control.{Control}
use Rattle.opcodes.specs.declared.cf.Control.TheVariants.{NotTaken, Nop, Fetch, Branch, Export, Alu}
use Rattle.section.specs.declared.Clause.{Clause}
use Rattle.section.specs.declared.Range.{Range}
use Rattle.section.specs.Control.{control_of, control_at}
use Rattle.section.specs.Code.{range_in_64}
use Rattle.section.specs.Rules.{clause_of, clause_at, range_of}
use Rattle.apart.specs.declared.Seen.{Seen}
use Rattle.apart.specs.declared.Seen.TheVariants.{Rising, Asked}
use Rattle.apart.specs.Apart.{start_of, length_of, behind, same_range, disjoint, half_shared, shared_checks, SameOrDisjoint}
use Rattle.apart.specs.Code.{ApartFrom, Fit, FirstNotApart, quadwords_in, marked_in, OneIs, SeenWith, opens_none, clear, turns, Risen, SeenBefore, none_seen, is_clear, up_to, names}

-- what holds of each place below p, and of p
pub last_or : (P : ℕ → Type 0) (p q : ℕ) → q < suc p → (q < p → P q) → P p → P q
last_or P p q l f h = ⊎_elim (λ e. subst P (sym e) h) f (eq-or-lt_of_le (le_of_suc-le-suc l))

-- ---- two clauses

module _ (a b : Option Clause) where
  pub not_half : half_shared a b ≡ false → SameOrDisjoint a b
  unfolding half_shared same_range disjoint
  not_half h =
      by_test_lem (eqb (start_of a).0 (start_of b).0 && eqb (length_of a).0 (length_of b).0)
      (λ e. let z = both _ _ e in inl (eqb-true _ _ z.0, eqb-true _ _ z.1))
      (λ e.
      by_test_lem (is_at_most (behind a) (start_of b)) (λ f. inr (inl (leb-true _ _ f)))
      (λ f.
      by_test_lem (is_at_most (behind b) (start_of a)) (λ g. inr (inr (leb-true _ _ g)))
      (λ g. let x : not false ≡ false = rw (e, f, g) at h in impossible cc)))

  pub same_or_disjoint : SameOrDisjoint a b → half_shared a b ≡ false
  unfolding half_shared same_range disjoint
  same_or_disjoint (inl s) = rw (eq-eqb _ _ s.0, eq-eqb _ _ s.1)
  same_or_disjoint (inr (inl l)) = let x = le-leb (behind a).0 (start_of b).0 l in by (eqb (start_of a).0 (start_of b).0 && eqb (length_of a).0 (length_of b).0) x
    where
      by : (t : Bool) → is_at_most (behind a) (start_of b) ≡ true → not (t || (is_at_most (behind a) (start_of b) || is_at_most (behind b) (start_of a))) ≡ false
      by true x = refl
      by false x = rw x
  same_or_disjoint (inr (inr l)) = let x = le-leb (behind b).0 (start_of a).0 l in by (eqb (start_of a).0 (start_of b).0 && eqb (length_of a).0 (length_of b).0) (is_at_most (behind a) (start_of b)) x
    where
      by : (t u : Bool) → is_at_most (behind b) (start_of a) ≡ true → not (t || (u || is_at_most (behind b) (start_of a))) ≡ false
      by true u x = refl
      by false true x = refl
      by false false x = rw x

  -- in part: neither the same nor disjoint
  pub record InPart : Type 0 where
    pub first_in : (start_of a).0 < (behind b).0
    pub second-in : (start_of b).0 < (behind a).0
    pub not_same : (start_of a).0 ≡ (start_of b).0 → (length_of a).0 ≡ (length_of b).0 → ⊥

  pub half_in_part : half_shared a b ≡ true → InPart
  half_in_part h =
      let no : SameOrDisjoint a b → ⊥ = λ s. impossible (let x = sym h ∙ same_or_disjoint s in cc) in
      record {
        first_in = by_test_lem (is_at_most (behind b) (start_of a)) (λ e. absurd (no (inr (inr (leb-true _ _ e))))) (λ e. leb-false _ _ e);
        second-in = by_test_lem (is_at_most (behind a) (start_of b)) (λ e. absurd (no (inr (inl (leb-true _ _ e))))) (λ e. leb-false _ _ e);
        not_same = λ s l. no (inl (s, l));
      }

  pub in_part_half : InPart → half_shared a b ≡ true
  in_part_half x =
      by_test_lem (half_shared a b) (λ e. e)
      (λ e.
      absurd
      (⊎_elim (λ s. x.not_same s.0 s.1) (λ d. ⊎_elim (λ l. omega (arith, x.second-in)) (λ l. omega (arith, x.first_in)) d)
      (not_half e)))

pub other_way : (a b : Option Clause) → SameOrDisjoint a b → SameOrDisjoint b a
other_way a b (inl s) = inl (sym s.0, sym s.1)
other_way a b (inr (inl l)) = inr (inr l)
other_way a b (inr (inr l)) = inr (inl l)

-- ---- a place against all before it

module _ (opens : ℕ → Option Clause) (p : ℕ) where
  abbrev one : ℕ → List Check
  one q = of_pair 22 p (half_shared (opens q) (opens p)) ∷ []

  pub shared_clean : first_broken (shared_checks opens p) ≡ Accepted → ApartFrom opens p
  unfolding shared_checks
  shared_clean h q l = first_clean _ _ (below_each one p q h l)

  clean_below : (n : ℕ) → ((q : ℕ) → q < n → half_shared (opens q) (opens p) ≡ false) → first_broken (below one n) ≡ Accepted
  unfolding below first_broken
  clean_below zero h = refl
  clean_below (suc n) h = below_next one n (clean_below n (λ q l. h q (le_step l))) (rw (h n (le_refl (suc n))))

  pub apart_clean : ApartFrom opens p → first_broken (shared_checks opens p) ≡ Accepted
  unfolding shared_checks
  apart_clean h = clean_below p h

  -- there is but one answer else
  either : (n : ℕ) → (first_broken (below one n) ≡ Accepted) ⊎ (first_broken (below one n) ≡ Refused 22 (Quadword (quadwords p)) (slots 0))
  unfolding below first_broken
  either zero = inl refl
  either (suc n) =
      ⊎_elim
      (λ c.
      by_test_lem (half_shared (opens n) (opens p)) (λ e. inr (joined_clean (below one n) (one n) c ∙ rw e))
      (λ e. inl (joined_clean (below one n) (one n) c ∙ rw e)))
      (λ r. inr (joined_refused (below one n) (one n) r))
      (either n)

  pub not_apart_refused : (ApartFrom opens p → ⊥) → first_broken (shared_checks opens p) ≡ Refused 22 (Quadword (quadwords p)) (slots 0)
  unfolding shared_checks
  not_apart_refused h = ⊎_elim (λ c. absurd (h (λ q l. first_clean _ _ (below_each one p q c l)))) (λ r. r) (either p)

-- ---- the clauses of a section: how long they are, by the width of COUNT, and where they start, by that of ADDR

pub record Sized (k : Option Clause) : Type 0 where
  pub few : (length_of k).0 ≤ 128
  pub low : (start_of k).0 < 2 ^ 32
  pub none : (length_of k).0 ≡ 0 → (start_of k).0 ≡ 0
  pub some : (c : Clause) → k ≡ Some c → 0 < (range_of c).size.0

none_sized : Sized None
none_sized = record { few = omega arith; low = omega arith; none = λ z. refl; some = λ c z. impossible cc }

some_sized : (c : Clause) → 0 < (range_of c).size.0 → (range_of c).size.0 ≤ 128 → (range_of c).start.0 < 2 ^ 32 → Sized (Some c)
some_sized c long few low =
    record {
      few = few;
      low = low;
      none = λ z. absurd (omega arith);
      some = λ d e. subst (λ (x : Option Clause). 0 < (length_of x).0) e long;
    }

pub clause_sized : (c : Control) (lo hi : ℕ) → Sized (clause_of c lo hi)
unfolding clause_of
clause_sized NotTaken lo hi = none_sized
clause_sized Nop lo hi = none_sized
clause_sized (Fetch kind) lo hi = some_sized _ (omega arith) (omega arith) (omega arith)
clause_sized (Branch b) lo hi = none_sized
clause_sized Export lo hi = none_sized
clause_sized (Alu push pops) lo hi = some_sized _ (omega arith) (omega arith) (omega arith)

pub sized_at : (w : List ℕ) (p : ℕ) → Sized (clause_at w p)
unfolding clause_at
sized_at w p = clause_sized (control_at w p) (low_at w p) (high_at w p)

-- ---- a clause's range, as the code has it

-- the clause c that is opened, by the range that the code has of it, and where that ends; t is whether it is clear
module _ (w : List ℕ) (e : ℕ) (seen : Seen) {k : Option Clause} {c : Clause} {r : Range} {b : Quadwords} {t : Bool} (opened : k ≡ Some c)
    (range : r ≡ range_in_64 (range_of c)) (end : b ≡ quadwords_in_64 (range_end r.start r.size)) (test : t ≡ is_clear seen r.start b) where
  starts : r.start ≡ start_of k
  starts = ap (λ (x : Range). x.start) range ∙ ap start_of (sym opened)

  ends : b ≡ quadwords_in_64 (behind k)
  ends =
      end
      ∙ ap (λ (x : Range). quadwords_in_64 (range_end x.start x.size)) range
      ∙ ap quadwords (omega arith)
      ∙ ap (λ (x : Option Clause). quadwords_in_64 (behind x)) (sym opened)

  not_none : k ≡ None → ⊥
  not_none z = impossible (let x = sym opened ∙ z in cc)

  told : (u : Bool) → t ≡ u → is_clear seen (start_of k) (quadwords_in_64 (behind k)) ≡ u
  told u h = (λ i. is_clear seen (sym starts i) (sym ends i)) ∙ sym test ∙ h

  pub seen_clear : {s : Seen} → t ≡ true → s ≡ up_to seen r.start b → SeenWith w e k seen s
  seen_clear h g = clear not_none (told true h) (g ∙ (λ i. up_to seen (starts i) (ends i)))

  pub seen_turns : {q : Quadwords} → t ≡ false → FirstNotApart w e q.0 → SeenWith w e k seen (Asked q)
  seen_turns h q = turns not_none (told false h) q

-- the clause of the pair that was read
pub clause_here :
    (w : List ℕ) (p : ℕ) {low high : ℕ} {control : Control} {k : Option Clause} → low ≡ low_at w p → high ≡ high_at w p → control ≡ control_of high
    → k ≡ clause_of control low high → k ≡ clause_at w p
unfolding control_at clause_at
clause_here w p a b c d =
    d ∙ (λ i. clause_of (c i) (a i) (b i)) ∙ (λ i. clause_of (control_of (b i)) (low_at w p) (high_at w p))

-- ---- what is known as the places go by

pub seen_first : (w : List ℕ) (e : ℕ) → SeenBefore w e 0 none_seen
seen_first w e = record { below = λ q l. absurd (omega arith); has_highest = λ l. absurd (omega arith) }

-- the two ways in which a range can be clear
data Clear (end highest s c : ℕ) : Type 0 where
  behind_all : end ≤ s → Clear end highest s c
  the_highest : s < end → highest ≡ s → end ≡ c → Clear end highest s c

clear_how : (b h s c : Quadwords) → is_clear (Rising b h) s c ≡ true → Clear b.0 h.0 s.0 c.0
clear_how b h s c e =
    by_test_lem (is_at_most b s) (λ x. behind_all (leb-true b.0 s.0 x))
    (λ x.
    let z : eqb h.0 s.0 && eqb b.0 c.0 ≡ true = rw x at e in
    let both-are = both (eqb h.0 s.0) (eqb b.0 c.0) z in
    the_highest (leb-false b.0 s.0 x) (eqb-true h.0 s.0 both-are.0) (eqb-true b.0 c.0 both-are.1))

module _ (w : List ℕ) (e p : ℕ) where
  later : {s c : ℕ} → OneIs (clause_at w) p s c → OneIs (clause_at w) (suc p) s c
  later o = record { place = o.place; earlier = le_step o.earlier; starts = o.starts; ends = o.ends }

  none_here : (s : Seen) → clause_at w p ≡ None → SeenBefore w e p s → SeenBefore w e (suc p) s
  none_here (Rising b h) z x =
      let n : (behind (clause_at w p)).0 ≡ 0 = ap (λ (y : Option Clause). (behind y).0) z in
      record {
        below = λ q k. last_or (λ q. (behind (clause_at w q)).0 ≤ b.0) p q k (x.below q) (omega arith);
        has_highest = λ y. later (x.has_highest y);
      }
  none_here (Asked r) z x = x

  -- with a range that is clear, which is the highest then
  risen :
      (b h d : ℕ) → Risen (clause_at w) p b h → Clear b h (start_of (clause_at w p)).0 (behind (clause_at w p)).0 → d ≡ (behind (clause_at w p)).0
      → Risen (clause_at w) (suc p) d (start_of (clause_at w p)).0
  risen b h d x c v =
      let most = at_most c in
      record {
        below = λ q k. last_or (λ q. (behind (clause_at w q)).0 ≤ d) p q k (λ i. omega (arith, x.below q i, most)) (omega arith);
        has_highest = λ n. record { place = p; earlier = le_refl (suc p); starts = refl; ends = sym v };
      }
    where
      at_most : Clear b h (start_of (clause_at w p)).0 (behind (clause_at w p)).0 → b ≤ (behind (clause_at w p)).0
      at_most (behind_all r) = omega arith
      at_most (the_highest less same r) = omega arith

  -- the sum has 64 bits
  end_exact : quadwords_in_64 (behind (clause_at w p)) ≡ behind (clause_at w p)
  end_exact = let small = sized_at w p in ap quadwords (omega (arith, small.low, small.few))

  with_clear :
      (s : Seen) → is_clear s (start_of (clause_at w p)) (quadwords_in_64 (behind (clause_at w p))) ≡ true → SeenBefore w e p s
      → SeenBefore w e (suc p) (up_to s (start_of (clause_at w p)) (quadwords_in_64 (behind (clause_at w p))))
  with_clear (Asked r) c x = x
  with_clear (Rising b h) c x =
      risen b.0 h.0 _ x
      (clear_how b h (start_of (clause_at w p)) (behind (clause_at w p)) (ap (is_clear (Rising b h) (start_of (clause_at w p))) (sym end_exact) ∙ c))
      (ap (λ (q : Quadwords). q.0) end_exact)

  pub seen_next : (s t : Seen) → SeenBefore w e p s → SeenWith w e (clause_at w p) s t → SeenBefore w e (suc p) t
  seen_next s t x (opens_none z) = none_here s z x
  seen_next s t x (clear n c f) = subst (SeenBefore w e (suc p)) (sym f) (with_clear s c x)
  seen_next s t x (turns n c f) = f

  -- the rule at p, from what is known with its clause: where nothing before p breaks it, and p's clause lies in the words
  module _ (s t : Seen) (h : SeenBefore w e p s) (f : SeenWith w e (clause_at w p) s t) (fit : (q : ℕ) → q < p → Fit (marked_in w) (clause_at w) q)
      (near : p < min (suc e) (quadwords_in w)) (inside : (behind (clause_at w p)).0 ≤ marked_in w) where
    first-named : (r : Quadwords) → FirstNotApart w e r.0 → eqb r.0 p ≡ true → ApartFrom (clause_at w) p → ⊥
    first-named r u n a =
        let e : r.0 ≡ p = eqb-true r.0 p n in
        u.unfit_there (omega arith) (rw e record { inside = inside; apart = a })

    first-unnamed : (r : Quadwords) → FirstNotApart w e r.0 → eqb r.0 p ≡ false → ApartFrom (clause_at w) p
    first-unnamed r u n =
        by_test_lem (ltb p r.0) (λ l. (u.fit_before p (ltb-true p r.0 l)).apart)
        (λ l.
        let least : r.0 ≤ p = ltb-false p r.0 l in
        let less : r.0 < p = ⊎_elim (λ x. absurd (eqb-false r.0 p n x)) (λ x. x) (eq-or-lt_of_le least) in
        absurd (u.unfit_there (omega arith) (fit r.0 less)))

    empty-apart : clause_at w p ≡ None → ApartFrom (clause_at w) p
    empty-apart z q l =
        let n : (behind (clause_at w p)).0 ≡ 0 = ap (λ (x : Option Clause). (behind x).0) z in
        same_or_disjoint (clause_at w q) (clause_at w p) (inr (inr (omega arith)))

    -- two earlier clauses, whichever comes first
    both_earlier : (q o : ℕ) → q < p → o < p → SameOrDisjoint (clause_at w q) (clause_at w o)
    both_earlier q o a b =
        by_test_lem (ltb q o) (λ l. not_half (clause_at w q) (clause_at w o) ((fit o b).apart q (ltb-true q o l)))
        (λ l.
        ⊎_elim (λ same. inl (ap (λ (j : ℕ). (start_of (clause_at w j)).0) (sym same), ap (λ (j : ℕ). (length_of (clause_at w j)).0) (sym same)))
        (λ less. other_way (clause_at w o) (clause_at w q) (not_half (clause_at w o) (clause_at w q) ((fit q a).apart o less)))
        (eq-or-lt_of_le (ltb-false q o l)))

    -- a range that an earlier place has is apart from all that that one is apart from
    like_one : OneIs (clause_at w) p (start_of (clause_at w p)).0 (behind (clause_at w p)).0 → ApartFrom (clause_at w) p
    like_one o q l =
        same_or_disjoint (clause_at w q) (clause_at w p)
        (⊎_elim (λ s. inl (s.0 ∙ o.starts, omega (arith, s.1, o.starts, o.ends)))
        (λ d. inr (⊎_elim (λ x. inl (omega (arith, x, o.starts))) (λ x. inr (omega (arith, x, o.ends))) d))
        (both_earlier q o.place l o.earlier))

    -- clear of all before
    rising-apart :
        (b h : ℕ) → Risen (clause_at w) p b h → Clear b h (start_of (clause_at w p)).0 (behind (clause_at w p)).0 → ApartFrom (clause_at w) p
    rising-apart b h x (behind_all r) q k =
        same_or_disjoint (clause_at w q) (clause_at w p) (inr (inl (omega (arith, x.below q k))))
    rising-apart b h x (the_highest less same r) q k =
        let one = x.has_highest (omega arith) in
        like_one (record { place = one.place; earlier = one.earlier; starts = one.starts ∙ same; ends = one.ends ∙ r }) q k

    clear_apart :
        (s : Seen) → is_clear s (start_of (clause_at w p)) (quadwords_in_64 (behind (clause_at w p))) ≡ true
        → SeenBefore w e p s → names (up_to s (start_of (clause_at w p)) (quadwords_in_64 (behind (clause_at w p)))) (quadwords p) ≡ false
        → ApartFrom (clause_at w) p
    clear_apart (Asked r) c x m = first-unnamed r x m
    clear_apart (Rising b h) c x m =
        rising-apart b.0 h.0 x
        (clear_how b h (start_of (clause_at w p)) (behind (clause_at w p)) (ap (is_clear (Rising b h) (start_of (clause_at w p))) (sym end_exact) ∙ c))

    -- a place with a clear range, or none, is not asked for
    clear-unnamed :
        (s : Seen) (start end : Quadwords) → SeenBefore w e p s → names (up_to s start end) (quadwords p) ≡ true → ApartFrom (clause_at w) p → ⊥
    clear-unnamed (Asked r) start end x m a = first-named r x m a
    clear-unnamed (Rising b h) start end x m a = impossible cc

    none_named : (s : Seen) → SeenBefore w e p s → clause_at w p ≡ None → names s (quadwords p) ≡ true → ⊥
    none_named (Rising b h) x z n = impossible cc
    none_named (Asked r) x z n = first-named r x n (empty-apart z)

    pub unnamed-apart : names t (quadwords p) ≡ false → ApartFrom (clause_at w) p
    unnamed-apart n = by s t h f n
      where
        by : (s t : Seen) → SeenBefore w e p s → SeenWith w e (clause_at w p) s t → names t (quadwords p) ≡ false → ApartFrom (clause_at w) p
        by s t h (opens_none z) n = empty-apart z
        by s t h (clear some c g) n = clear_apart s c h (ap (λ (x : Seen). names x (quadwords p)) (sym g) ∙ n)
        by s t h (turns {r} some c u) n = first-unnamed r u n

    pub named-not-apart : names t (quadwords p) ≡ true → ApartFrom (clause_at w) p → ⊥
    named-not-apart n = by s t h f n
      where
        by : (s t : Seen) → SeenBefore w e p s → SeenWith w e (clause_at w p) s t → names t (quadwords p) ≡ true → ApartFrom (clause_at w) p → ⊥
        by s t h (opens_none z) n a = none_named s h z n
        by s t h (clear some c g) n a = clear-unnamed s _ _ h (ap (λ (x : Seen). names x (quadwords p)) (sym g) ∙ n) a
        by s t h (turns {r} some c u) n a = first-named r u n a
