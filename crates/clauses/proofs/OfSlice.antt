-- The words of one group, as a slice of the buffer: what is asked of them there is what is asked of the group; and what `any` over their
-- pairs says. Assumes nothing.
use Rattle.std.proofs.Common.{◌≡◌, ℕ, zero, suc, ◌+◌, ◌*◌, ◌/◌, ◌%◌, ◌<◌, ◌≤◌, Bool, true, false, ◌&&◌, ◌||◌, eqb, leb, List, length, get_or, take, drop, Option, Some, None, option_map, is_some, IfSome, IsSomeAnd, IsTrue, MatchBool, sym, refl, ap, ◌∙◌, arith, leb-true, length-drop}
use Rattle.std.proofs.lemmas.List.{get_or-take, get_or-drop, length-take}
use Rattle.std.specs.Iterator.Runs.{Run, IsChunksExactRun, CallKeepsClosure, AnyItemGives, AllItemsGive}
use denote.Param.Members.{Mut, Called}
use denote.Ref.{Bor}
use mathlib.Core.Bool.{false≢true}
use mathlib.Core.Path.{transport}
use Rattle.units.specs.Units.{quadwords, low_at, high_at}
use Rattle.instructions.specs.Instruction.{has_relative}
use Rattle.groups.specs.Group.{PerInstruction, any_below, all_below, trans, is_alike}
use Rattle.groups.specs.Code.{Taken, is_straight}
use Rattle.groups.proofs.OfBelow.{find, pass_none}
use Rattle.clauses.specs.Clause.{low_of, high_of}

any_same : (f g : ℕ → Bool) (m : ℕ) → ((j : ℕ) → j < m → f j ≡ g j) → any_below f m ≡ any_below g m
unfolding any_below
any_same f g zero e = refl
any_same f g (suc m) e = λ i. any_same f g m (λ j l. e j (omega (arith, l))) i || e m (omega arith) i

straight_same :
    (f g : PerInstruction) (m : ℕ) (t : Taken) → ((j : ℕ) → j < m → f j ≡ g j) → is_straight f m t ≡ is_straight g m t
unfolding is_straight all_below
straight_same f g m t e = by (leb trans m) refl
  where
    by : (b : Bool) → leb trans m ≡ b → (b && (eqb (t % 16) 15 && all_below (λ k. is_alike (f 0) (f k)) trans)) ≡ (b && (eqb (t % 16) 15 && all_below (λ k. is_alike (g 0) (g k)) trans))
    by false p = refl
    by true p =
        let l : 4 ≤ m = leb-true trans m p in
        let x = e 0 (omega (arith, l)) in
        let y = e 1 (omega (arith, l)) in
        let z = e 2 (omega (arith, l)) in
        let v = e 3 (omega (arith, l)) in
        λ i.
        eqb (t % 16) 15
        && ((((true && is_alike (x i) (x i)) && is_alike (x i) (y i)) && is_alike (x i) (z i)) && is_alike (x i) (v i))

-- so many words from there on, of the group of `size` instructions at quadword `first`
module _ (w : List ℕ) (first size : ℕ) (room : 2 * (first + size) ≤ length w) {from count : ℕ} (from_is : from ≡ 2 * first)
    (count_is : count ≡ 2 * size) where
  abbrev part : List ℕ
  part = take count (drop from w)

  half : length part / 2 ≡ size
  half = omega (arith, length-take count (drop from w), length-drop from w, room, from_is, count_is)

  word : (i : ℕ) → i < 2 * size → get_or part i 0 ≡ get_or w (2 * first + i) 0
  word i l =
      get_or-take count (drop from w) i 0 (omega (arith, l, count_is))
      ∙ get_or-drop from w i 0
      ∙ ap (λ (k : ℕ). get_or w (k + i) 0) from_is

  low_in : (j : ℕ) → j < size → low_at part j ≡ low_of w (quadwords first) j
  unfolding low_at low_of
  low_in j l =
      let e : 2 * first + 2 * j ≡ 2 * (first + j) = omega arith in
      word (2 * j) (omega (arith, l)) ∙ ap (λ (k : ℕ). get_or w k 0) e

  high_in : (j : ℕ) → j < size → high_at part j ≡ high_of w (quadwords first) j
  unfolding high_at high_of
  high_in j l =
      let e : 2 * first + (2 * j + 1) ≡ 2 * (first + j) + 1 = omega arith in
      word (2 * j + 1) (omega (arith, l)) ∙ ap (λ (k : ℕ). get_or w k 0) e

  pub relative_in :
      any_below (λ j. has_relative (low_at part j) (high_at part j)) (length part / 2) ≡ any_below
      (λ j. has_relative (low_of w (quadwords first) j) (high_of w (quadwords first) j)) size
  relative_in =
      ap (any_below (λ j. has_relative (low_at part j) (high_at part j))) half
      ∙ any_same _ _ size (λ j l i. has_relative (low_in j l i) (high_in j l i))

  pub straight_in : (t : Taken) → is_straight (high_at part) (length part / 2) t ≡ is_straight (high_of w (quadwords first)) size t
  straight_in t =
      ap (λ (m : ℕ). is_straight (high_at part) m t) half ∙ straight_same (high_at part) (high_of w (quadwords first)) size t high_in

-- ---- `any` over pairs of words

module _ {S F : Type 0} {steps : S → Option (Bor (List ℕ)) → S → Type 0} (p : Run steps) (g : Mut F (Bor (List ℕ) × Unit {0}) Bool) (f : F)
    (w : List ℕ) {size : ℕ} {rest : List ℕ} (chunks : IsChunksExactRun p size rest) (size_is : size ≡ 2) (rest_is : rest ≡ w)
    (keeps : CallKeepsClosure g f) (test : ℕ → ℕ → Bool)
    (computes : (x : Bor (List ℕ)) (b : Bool) → length x.now ≡ 2 → Called g f (x, tt) b f → b ≡ test (get_or x.now 0 0) (get_or x.now 1 0)) where
  pairs : IsChunksExactRun p 2 w
  pairs = transport (λ i. IsChunksExactRun p (size_is i) (rest_is i)) chunks

  abbrev of_pair : ℕ → Bool
  of_pair j = test (low_at w j) (high_at w j)

  -- what was answered at the pair of place j
  at_pair :
      (b : Bool) (j : ℕ) (o : Option (Bor (List ℕ))) → IsSomeAnd o (λ x. Called g f (x, tt) b f) → p.at j ≡ o → of_pair j ≡ b
  unfolding low_at high_at
  at_pair b j None k e = absurd k
  at_pair b j (Some x) k e =
      let r = rw e at (pairs.2 j) in
      let low : get_or x.now 0 0 ≡ get_or w (2 * j) 0 = r.2.2 0 0 (omega arith) ∙ (let q : j * 2 + 0 ≡ 2 * j = omega arith in ap (λ (n : ℕ). get_or w n 0) q) in
      let high : get_or x.now 1 0 ≡ get_or w (2 * j + 1) 0 = r.2.2 1 0 (omega arith) ∙ (let q : j * 2 + 1 ≡ 2 * j + 1 = omega arith in ap (λ (n : ℕ). get_or w n 0) q) in
      sym (computes x b r.0 k ∙ (λ i. test (low i) (high i)))

  pub any_pair : (r : Bool) → MatchBool r (AnyItemGives p g f true) (IsTrue p.whole × AllItemsGive p g f false) → r ≡ any_below of_pair (length w / 2)
  any_pair true m =
      let a = m keeps in
      sym (find of_pair (length w / 2) a.0 (omega (arith, a.1, pairs.0)) (at_pair true a.0 (p.at a.0) a.2 refl))
  any_pair false m =
      let a = m.1 keeps in
      sym (pass_none of_pair (length w / 2) (λ j l. at_pair false j (p.at j) (there j (p.at j) (p.reads j (record { ref_ptr = (0, 0); now = w }) (omega (arith, l, pairs.1 m.0))) (a j)) refl))
    where
      there :
          (j : ℕ) (o : Option (Bor (List ℕ))) {y : Bor (List ℕ)} → option_map (λ x. x) o ≡ Some y → IfSome o (λ x. Called g f (x, tt) false f)
          → IsSomeAnd o (λ x. Called g f (x, tt) false f)
      there j None e h = absurd (false≢true (ap is_some e))
      there j (Some x) e h = h
