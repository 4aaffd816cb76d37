-- What the first name at fault says of the operands' fields. Assumes nothing.
use mathlib.Core.Path.{◌≡◌, refl, sym, ap, subst, ◌∙◌}
use mathlib.Core.Bool.{Bool, true, false, cond, ◌&&◌}
use mathlib.Core.List.Memᴰ
use mathlib.Core.List.{List, [], ◌∷◌, ◌++◌, append-nil, Memᴰ}
use mathlib.Core.Logic.{⊎_elim}
use Prim.Native.Nat.{ℕ, ◌-◌}
use native.Mathlib.Omega.{arith}
use lib.Dec.{eqb, ltb, leb}
use borrow.Author.Tests.{lt-ltb, le-ltb, lt-leb, ltb-false, leb-false}
use Rattle.laws.proofs.OfTests.{neither}
use Rattle.laws.proofs.OfCases.{impossible}
use Rattle.formats.specs.Fields.{◌of◌, DST_GPR, DST_REL, SRC2_SEL, FETCH_INST, FETCH_DST_GPR, FETCH_DST_REL, FETCH_SRC_GPR, FETCH_SRC_REL}
use Rattle.opcodes.specs.declared.cf.FetchKind.{FetchKind}
use Rattle.std.specs.Prelude.{Option}
use Rattle.checks.specs.declared.NotGranted.{NotGranted}
use Rattle.grants.specs.declared.Limits.{Limits}
use Rattle.grants.specs.Grants.{Name, register, alu_register, set0, set1, constant, locked, granted, all_granted, source_names}
use Rattle.instructions.specs.declared.Source.{Source}
use Rattle.instructions.specs.Instruction.{is_op3, is_relative, is_written, source0_of, source1_of, source2_of, names_of, destination_names, named}
use Rattle.fetches.specs.Fetches as fetches
use Rattle.faults.specs.Faults.{number_of, limit_of, at_fault, first_fault}
use Rattle.faults.specs.Operands.{Operand, operand, operands_of, fetch_operands, FirstOfSort, FirstAtFault}

-- ---- the limit is the first of its sort that is not granted

below_self : (n : ℕ) → ltb n n ≡ false
below_self n = le-ltb n n (omega arith)

pub first_of_sort : (l : Limits) (n : Name) → granted l n ≡ false → FirstOfSort l n (limit_of l n)
first_of_sort l (register r) h =
    record { k = l.gprs; limit_is = refl; not_granted = below_self l.gprs; granted_before = λ j b. lt-ltb j l.gprs b }
first_of_sort l (alu_register r) h =
    let t = neither (ltb r l.gprs) (leb (128 - l.temps) r) h in
    let g = ltb-false r l.gprs t.0 in
    let u = leb-false (128 - l.temps) r t.1 in
    record {
      k = l.gprs;
      limit_is = refl;
      not_granted = rw (below_self l.gprs, lt-leb (128 - l.temps) l.gprs (omega (arith, g, u)));
      granted_before = λ j b. rw (lt-ltb j l.gprs b);
    }
first_of_sort l (set0 k) h =
    record {
      k = locked l.mode0;
      limit_is = refl;
      not_granted = below_self (locked l.mode0);
      granted_before = λ j b. lt-ltb j (locked l.mode0) b;
    }
first_of_sort l (set1 k) h =
    record {
      k = locked l.mode1;
      limit_is = refl;
      not_granted = below_self (locked l.mode1);
      granted_before = λ j b. lt-ltb j (locked l.mode1) b;
    }
first_of_sort l (constant k) h =
    record { k = l.consts; limit_is = refl; not_granted = below_self l.consts; granted_before = λ j b. lt-ltb j l.consts b }

-- ---- operands that name one thing at most, and by the number in their field

abbrev Fits : ℕ → List Name → Type 0
Fits number names = (n : Name) (ns : List Name) → names ≡ n ∷ ns → (ns ≡ []) × (number ≡ number_of n)

abbrev AllFit : List Operand → Type 0
AllFit [] = Unit {0}
AllFit (o ∷ os) = Fits o.number o.names × AllFit os

unfoldable names_of_all : List Operand → List Name
names_of_all [] = []
names_of_all (o ∷ os) = o.names ++ names_of_all os

fits_none : (k : ℕ) → Fits k []
fits_none k n ns e = impossible cc

fits_one : (k : ℕ) (m : Name) → k ≡ number_of m → Fits k (m ∷ [])
fits_one k m h n ns e =
    let a : m ≡ n = cc in
    let b : ns ≡ [] = cc in
    (b, h ∙ ap number_of a)

fits_if : (t : Bool) (k : ℕ) (a b : List Name) → (t ≡ true → Fits k a) → (t ≡ false → Fits k b) → Fits k (cond t a b)
fits_if true k a b f g = f refl
fits_if false k a b f g = g refl

-- a source is named by its number
fits_source : (s : ℕ) → Fits s (source_names s)
fits_source s =
    fits_if (ltb s 128) s _ _ (λ a. fits_one s (alu_register s) refl)
    (λ a. fits_if (ltb s 160) s _ _ (λ b. fits_one s (set0 (s - 128)) (omega (arith, ltb-false s 128 a)))
    (λ b. fits_if (ltb s 192) s _ _ (λ d. fits_one s (set1 (s - 160)) (omega (arith, ltb-false s 160 b)))
    (λ d. fits_if (ltb s 256) s _ _ (λ e. fits_none s) (λ e. fits_one s (constant (s - 256)) (omega (arith, ltb-false s 256 e))))))

fits_direct : (s : Source) → Fits s.sel (names_of s)
unfolding names_of
fits_direct s = fits_if (is_relative s) s.sel _ _ (λ a. fits_none s.sel) (λ a. fits_source s.sel)

all_fit : (lo hi : ℕ) → AllFit (operands_of lo hi)
unfolding operands_of destination_names
all_fit lo hi = (
  fits_if (is_written hi && eqb (DST_REL of hi) 0) (DST_GPR of hi) _ _ (λ a. fits_one _ (alu_register (DST_GPR of hi)) refl) (λ a. fits_none _),
  (fits_direct (source0_of lo), (fits_direct (source1_of lo), third (is_op3 hi))),
)
  where
    third : (t : Bool) → AllFit (cond t (operand (SRC2_SEL of hi) (names_of (source2_of hi)) ∷ []) [])
    third true = (fits_direct (source2_of hi), tt)
    third false = tt

all_fetch_fit : (kind : FetchKind) (w0 w1 : ℕ) → AllFit (fetch_operands kind w0 w1)
unfolding fetch_operands
all_fetch_fit kind w0 w1 = (
  fits_if (fetches.is_semantic kind (FETCH_INST of w0)) (FETCH_DST_GPR of w1) _ _ (λ a. fits_none _)
      (λ a. fits_if (eqb (FETCH_DST_REL of w1) 0) (FETCH_DST_GPR of w1) _ _ (λ b. fits_one _ (register (FETCH_DST_GPR of w1)) refl) (λ b. fits_none _)),
  (
    fits_if (eqb (FETCH_SRC_REL of w0) 0) (FETCH_SRC_GPR of w0) _ _ (λ b. fits_one _ (register (FETCH_SRC_GPR of w0)) refl) (λ b. fits_none _),
    tt,
  ),
)

-- and together they name what rules 9 and 15 ask about
all_named : (lo hi : ℕ) → names_of_all (operands_of lo hi) ≡ named lo hi
unfolding names_of_all operands_of named
all_named lo hi = ap (λ (ns : List Name). destination_names hi ++ (names_of (source0_of lo) ++ (names_of (source1_of lo) ++ ns))) (third (is_op3 hi))
  where
    third : (t : Bool) → names_of_all (cond t (operand (SRC2_SEL of hi) (names_of (source2_of hi)) ∷ []) []) ≡ cond t (names_of (source2_of hi)) []
    third true = append-nil (names_of (source2_of hi))
    third false = refl

all_fetch_named : (kind : FetchKind) (w0 w1 : ℕ) → names_of_all (fetch_operands kind w0 w1) ≡ fetches.named kind (FETCH_INST of w0) w0 w1
unfolding names_of_all fetch_operands
all_fetch_named kind w0 w1 =
    ap (λ (ns : List Name). fetches.destination kind (FETCH_INST of w0) w1 ++ ns) (append-nil (fetches.source w0))

-- ---- the first of them at fault

-- the answer to operands of which one is at fault
pub record Found (l : Limits) (os : List Operand) (f : Option NotGranted) : Type 0 where
  pub found : ℕ
  pub limit : ℕ
  pub is_number : f ≡ at_fault found limit
  pub first : FirstAtFault l os found limit

module _ (l : Limits) where
  -- one more operand before, which is not at fault
  one_before : (o : Operand) (os : List Operand) (f : Option NotGranted) → ((n : Name) → Memᴰ n o.names → granted l n ≡ true) → Found l os f → Found l (o ∷ os) f
  one_before o os f h r =
      let x = r.first in
      record {
        found = r.found;
        limit = r.limit;
        is_number = r.is_number;
        first =
            record {
              earlier = o ∷ x.earlier;
              later = x.later;
              name = x.name;
              parts = ap (λ (z : List Operand). o ∷ z) x.parts;
              not_granted = x.not_granted;
              none_earlier =
                  λ p m n k.
                  ⊎_elim (λ e. h n (subst-names e k)) (λ t. x.none_earlier p t n k) (Memᴰ.cases_cons m);
              limit_first = x.limit_first;
            };
      }
    where
      subst-names : {p : Operand} {n : Name} → p ≡ o → Memᴰ n p.names → Memᴰ n o.names
      subst-names {n = n} e k = subst (λ (z : Operand). Memᴰ n z.names) e k

  first_found : (os : List Operand) → AllFit os → all_granted l (names_of_all os) ≡ false → Found l os (first_fault l (names_of_all os))
  unfolding names_of_all first_fault
  first_found [] fit h = impossible cc
  first_found (o ∷ os) fit h = by o.number o.names fit.0 h (first_found os fit.1)
    where
      by :
          (k : ℕ) (ns : List Name) → Fits k ns → all_granted l (ns ++ names_of_all os) ≡ false
          → (all_granted l (names_of_all os) ≡ false → Found l os (first_fault l (names_of_all os)))
          → Found l (operand k ns ∷ os) (first_fault l (ns ++ names_of_all os))
      by k [] fits h later = one_before (operand k []) os _ (λ n m. absurd (Memᴰ.not-nil m)) (later h)
      by k (n ∷ ns) fits h later = one (fits n ns refl) (granted l n) refl h
        where
          one :
              (ns ≡ []) × (k ≡ number_of n) → (t : Bool) → granted l n ≡ t → t && all_granted l (ns ++ names_of_all os) ≡ false
              → Found l (operand k (n ∷ ns) ∷ os) (cond t (first_fault l (ns ++ names_of_all os)) (at_fault (number_of n) (limit_of l n)))
          one e true g z =
              one_before (operand k (n ∷ ns)) os _
              (λ m i. ⊎_elim (λ q. ap (granted l) q ∙ g) (λ t. absurd (Memᴰ.not-nil (subst (Memᴰ m) e.0 t))) (Memᴰ.cases_cons i))
              (subst (λ (x : List Name). Found l os (first_fault l (x ++ names_of_all os))) (sym e.0) (later (ap (λ (x : List Name). all_granted l (x ++ names_of_all os)) (sym e.0) ∙ z)))
          one e false g z =
              record {
                found = k;
                limit = limit_of l n;
                is_number = ap (λ (x : ℕ). at_fault x (limit_of l n)) (sym e.1);
                first =
                    record {
                      earlier = [];
                      later = os;
                      name = n;
                      parts = ap (λ (x : List Name). operand k (n ∷ x) ∷ os) e.0;
                      not_granted = g;
                      none_earlier = λ o m. absurd (Memᴰ.not-nil m);
                      limit_first = first_of_sort l n g;
                    };
              }

pub instruction_found : (l : Limits) (lo hi : ℕ) → all_granted l (named lo hi) ≡ false → Found l (operands_of lo hi) (first_fault l (named lo hi))
instruction_found l lo hi h =
    subst (λ (ns : List Name). Found l (operands_of lo hi) (first_fault l ns)) (all_named lo hi)
    (first_found l (operands_of lo hi) (all_fit lo hi) (ap (all_granted l) (all_named lo hi) ∙ h))

pub fetch_found :
    (l : Limits) (kind : FetchKind) (w0 w1 : ℕ) → all_granted l (fetches.named kind (FETCH_INST of w0) w0 w1) ≡ false
    → Found l (fetch_operands kind w0 w1) (first_fault l (fetches.named kind (FETCH_INST of w0) w0 w1))
fetch_found l kind w0 w1 h =
    subst (λ (ns : List Name). Found l (fetch_operands kind w0 w1) (first_fault l ns)) (all_fetch_named kind w0 w1)
    (first_found l (fetch_operands kind w0 w1) (all_fetch_fit kind w0 w1) (ap (all_granted l) (all_fetch_named kind w0 w1) ∙ h))
