-- The verdict of a list of checks: laws over any list, each proved once. Assumes nothing.
use Prim.Native.Nat.{ℕ, zero, suc, ◌<◌}
use mathlib.Core.Path.{◌≡◌, refl, sym, ◌∙◌, ap, subst}
use mathlib.Core.Bool.{Bool, true, false, cond, true≢false}
use mathlib.Core.List.Memᴰ
use mathlib.Core.List.{List, [], ◌∷◌, ◌++◌, Memᴰ}
use Rattle.std.specs.Prelude.{Err}
use mathlib.Core.Logic.{⊎_elim, ◌↔◌}
use native.Mathlib.Nat.{le_of_suc-le-suc, not-suc-le-zero, eq-or-lt_of_le, le_refl, le_step}
use Rattle.laws.proofs.OfCases.{impossible}
use Rattle.laws.proofs.OfTests.{by_test_lem}
use Rattle.units.specs.declared.Slots.{Slots}
use Rattle.checks.specs.declared.Place.{Place}
use Rattle.checks.specs.declared.Refusal.{Refusal}
use Rattle.checks.specs.Verdict.{Verdict, Accepted, Refused}
use Rattle.checks.specs.Checks.{Check, check, first_broken, below}
use Rattle.checks.specs.Laws.{Unbroken, BrokenFirst, Eases, EachEases, none_left, and_then}

-- ---- a list by its first check

pub hit : (c : Check) (cs : List Check) → c.broken ≡ true → first_broken (c ∷ cs) ≡ Refused c.rule c.place c.slot
unfolding first_broken
hit c cs e = rw e

pub miss : (c : Check) (cs : List Check) → c.broken ≡ false → first_broken (c ∷ cs) ≡ first_broken cs
unfolding first_broken
miss c cs e = rw e

pub never_accepted : {r : ℕ} {p : Place} {s : Slots} → Refused r p s ≡ Accepted → ⊥
never_accepted h = impossible cc

pub first_clean : (c : Check) (cs : List Check) → first_broken (c ∷ cs) ≡ Accepted → c.broken ≡ false
first_clean c cs h = by_test_lem c.broken (λ e. absurd (never_accepted (sym (hit c cs e) ∙ h))) (λ e. e)

pub rest_clean : (c : Check) (cs : List Check) → first_broken (c ∷ cs) ≡ Accepted → first_broken cs ≡ Accepted
rest_clean c cs h = sym (miss c cs (first_clean c cs h)) ∙ h

-- two refusals that are the same have the same numbers
pub record SameParts (r r' : ℕ) (p p' : Place) (s s' : Slots) : Type 0 where
  pub same_rule : r ≡ r'
  pub same_place : p ≡ p'
  pub same_slot : s ≡ s'

pub refused_parts :
    {r r' : ℕ} {p p' : Place} {s s' : Slots} → Refused r p s ≡ Refused r' p' s' → SameParts r r' p p' s s'
refused_parts {r} {r'} {p} {p'} {s} {s'} h =
    let same : record { rule = r; place = p; slot = s } ≡ record { rule = r'; place = p'; slot = s' } = cc in
    record {
      same_rule = ap (λ (x : Refusal). x.rule) same;
      same_place = ap (λ (x : Refusal). x.place) same;
      same_slot = ap (λ (x : Refusal). x.slot) same;
    }

-- ---- two lists joined

-- a verdict, and where it accepts the next one
abbrev pub and_then_lem : Verdict → Verdict → Verdict
and_then_lem Accepted v = v
and_then_lem (Err refusal) v = Err refusal

pub joined : (a b : List Check) → first_broken (a ++ b) ≡ and_then_lem (first_broken a) (first_broken b)
unfolding first_broken
joined [] b = refl
joined (c ∷ a) b = by c.broken (joined a b)
  where
    by : (t : Bool) → first_broken (a ++ b) ≡ and_then_lem (first_broken a) (first_broken b)
        → cond t (Refused c.rule c.place c.slot) (first_broken (a ++ b)) ≡ and_then_lem (cond t (Refused c.rule c.place c.slot) (first_broken a)) (first_broken b)
    by true h = refl
    by false h = h

-- the first list is clean: the second decides
pub joined_clean : (a b : List Check) → first_broken a ≡ Accepted → first_broken (a ++ b) ≡ first_broken b
joined_clean a b h = joined a b ∙ ap (λ v. and_then_lem v (first_broken b)) h

-- the first list refuses: so does the whole
pub joined_refused : (a b : List Check) {r : ℕ} {p : Place} {s : Slots} → first_broken a ≡ Refused r p s → first_broken (a ++ b) ≡ Refused r p s
joined_refused a b h = joined a b ∙ ap (λ v. and_then_lem v (first_broken b)) h

pub left_clean : (a b : List Check) → first_broken (a ++ b) ≡ Accepted → first_broken a ≡ Accepted
left_clean a b h = by (first_broken a) (sym (joined a b) ∙ h)
  where
    by : (v : Verdict) → and_then_lem v (first_broken b) ≡ Accepted → v ≡ Accepted
    by Accepted h = refl
    by (Err refusal) h = h

pub right_clean : (a b : List Check) → first_broken (a ++ b) ≡ Accepted → first_broken b ≡ Accepted
right_clean a b h = sym (joined_clean a b (left_clean a b h)) ∙ h

-- ---- accepted exactly if no check is broken

-- a check read off an accepted list by membership
pub accepted_member : (cs : List Check) → first_broken cs ≡ Accepted → Unbroken cs
accepted_member [] h c m = absurd (Memᴰ.not-nil m)
accepted_member (d ∷ cs) h c m =
    ⊎_elim (λ e. ap (λ (x : Check). x.broken) e ∙ first_clean d cs h)
    (λ t. accepted_member cs (rest_clean d cs h) c t)
    (Memᴰ.cases_cons m)

pub unbroken_accepted : (cs : List Check) → Unbroken cs → first_broken cs ≡ Accepted
unfolding first_broken
unbroken_accepted [] u = refl
unbroken_accepted (c ∷ cs) u =
    miss c cs (u c (Memᴰ.head refl)) ∙ unbroken_accepted cs (λ d m. u d (Memᴰ.tail m))

pub accepted_exactly_if : (cs : List Check) → first_broken cs ≡ Accepted ↔ Unbroken cs
accepted_exactly_if cs = (accepted_member cs, unbroken_accepted cs)

-- ---- a refusal names the first broken check

same_check : (c : Check) {r : ℕ} {p : Place} {s : Slots} → c.rule ≡ r → c.place ≡ p → c.slot ≡ s → c.broken ≡ true → c ≡ check r p s true
same_check c e f g h = λ i. record { rule = e i; place = f i; slot = g i; broken = h i }

pub refused_first : (cs : List Check) {r : ℕ} {p : Place} {s : Slots} → first_broken cs ≡ Refused r p s → BrokenFirst cs r p s
unfolding first_broken
refused_first [] h = absurd (never_accepted (sym h))
refused_first (c ∷ cs) {r} {p} {s} h = by_test_lem c.broken here (λ e. further e (refused_first cs (sym (miss c cs e) ∙ h)))
  where
    here : c.broken ≡ true → BrokenFirst (c ∷ cs) r p s
    here e =
        let v = refused_parts (sym (hit c cs e) ∙ h) in
        record {
          earlier = [];
          later = cs;
          parts = ap (λ (d : Check). d ∷ cs) (same_check c v.same_rule v.same_place v.same_slot e);
          none_earlier = λ d m. absurd (Memᴰ.not-nil m);
        }

    further : c.broken ≡ false → BrokenFirst cs r p s → BrokenFirst (c ∷ cs) r p s
    further e b =
        record {
          earlier = c ∷ b.earlier;
          later = b.later;
          parts = ap (λ (l : List Check). c ∷ l) b.parts;
          none_earlier =
              λ d m.
              ⊎_elim (λ q. ap (λ (x : Check). x.broken) q ∙ e) (λ t. b.none_earlier d t) (Memᴰ.cases_cons m);
        }

pub first_refused : (cs : List Check) {r : ℕ} {p : Place} {s : Slots} → BrokenFirst cs r p s → first_broken cs ≡ Refused r p s
first_refused cs {r} {p} {s} b =
    ap first_broken b.parts
    ∙ joined_clean b.earlier (check r p s true ∷ b.later) (unbroken_accepted b.earlier b.none_earlier)
    ∙ hit (check r p s true) b.later refl

pub refused_exactly_if : (cs : List Check) (r : ℕ) (p : Place) (s : Slots) → first_broken cs ≡ Refused r p s ↔ BrokenFirst cs r p s
refused_exactly_if cs r p s = (refused_first cs, first_refused cs)

-- ---- positions in a row

module _ (f : ℕ → List Check) where
  pub below_none : first_broken (below f 0) ≡ Accepted
  unfolding first_broken below
  below_none = refl

  -- the positions below p are clean, and so is p
  pub below_next : (p : ℕ) → first_broken (below f p) ≡ Accepted → first_broken (f p) ≡ Accepted → first_broken (below f (suc p)) ≡ Accepted
  unfolding below
  below_next p h k = joined_clean (below f p) (f p) h ∙ k

  -- the positions below p are clean, and p is not: the verdict of any longer row is p's
  pub below_found : (n p : ℕ) {a : ℕ} {b : Place} {s : Slots} → p < n → first_broken (below f p) ≡ Accepted → first_broken (f p) ≡ Refused a b s → first_broken (below f n) ≡ Refused a b s
  unfolding below
  below_found zero p l h k = absurd (not-suc-le-zero l)
  below_found (suc n) p l h k =
      ⊎_elim
      (λ e. ap (λ (j : ℕ). first_broken (below f (suc j))) (sym e) ∙ joined_clean (below f p) (f p) h ∙ k)
      (λ lt. joined_refused (below f n) (f n) (below_found n p lt h k))
      (eq-or-lt_of_le (le_of_suc-le-suc l))

  -- a check of one position is a check of the row
  pub below_member : (n p : ℕ) {c : Check} → p < n → Memᴰ c (f p) → Memᴰ c (below f n)
  unfolding below
  below_member zero p l m = absurd (not-suc-le-zero l)
  below_member (suc n) p {c} l m =
      ⊎_elim
      (λ e. Memᴰ.append_right (below f n) (subst (λ (k : ℕ). Memᴰ c (f k)) e m))
      (λ lt. Memᴰ.append_left (f n) (below_member n p lt m))
      (eq-or-lt_of_le (le_of_suc-le-suc l))

  -- each position of a clean row is clean
  pub below_each : (n p : ℕ) → first_broken (below f n) ≡ Accepted → p < n → first_broken (f p) ≡ Accepted
  below_each n p h l =
      unbroken_accepted (f p) (λ c m. accepted_member (below f n) h c (below_member n p l m))

-- ---- two lists that differ only in that each broken check of the second is broken in the first

pub eases : (r : ℕ) (p : Place) (s : Slots) (b d : Bool) → (d ≡ true → b ≡ true) → Eases (check r p s b) (check r p s d)
eases r p s b d h = record { same_rule = refl; same_place = refl; same_slot = refl; no_harder = h }

pub eased_accepted : (cs ds : List Check) → EachEases cs ds → first_broken cs ≡ Accepted → first_broken ds ≡ Accepted
unfolding first_broken
eased_accepted [] [] none_left h = h
eased_accepted (c ∷ cs) (d ∷ ds) (and_then e es) h =
    by_test_lem d.broken
    (λ t. absurd (true≢false (sym (e.no_harder t) ∙ first_clean c cs h)))
    (λ t. miss d ds t ∙ eased_accepted cs ds es (rest_clean c cs h))
eased_accepted [] (d ∷ ds) x4 h = elim x4 [ ]
eased_accepted (c ∷ cs) [] x4 h = elim x4 [ ]

pub eased_same : (cs : List Check) → EachEases cs cs
eased_same [] = none_left
eased_same (c ∷ cs) =
    and_then (record { same_rule = refl; same_place = refl; same_slot = refl; no_harder = λ h. h }) (eased_same cs)

pub eased_joined : (a b cs ds : List Check) → EachEases a b → EachEases cs ds → EachEases (a ++ cs) (b ++ ds)
eased_joined [] [] cs ds none_left k = k
eased_joined (x ∷ a) (y ∷ b) cs ds (and_then e es) k = and_then e (eased_joined a b cs ds es k)
eased_joined [] (y ∷ b) cs ds x4 k = elim x4 [ ]
eased_joined (x ∷ a) [] cs ds x5 k = elim x5 [ ]

pub eased_below : (f g : ℕ → List Check) (n : ℕ) → ((p : ℕ) → p < n → EachEases (f p) (g p)) → EachEases (below f n) (below g n)
unfolding below
eased_below f g zero h = none_left
eased_below f g (suc n) h =
    eased_joined (below f n) (below g n) (f n) (g n) (eased_below f g n (λ p l. h p (le_step l))) (h n (le_refl (suc n)))
