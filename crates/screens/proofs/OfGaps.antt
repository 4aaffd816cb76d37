-- The gaps by what the code tests, and what they say of rules 12 and 15: an instruction that they let through breaks neither. Assumes
-- nothing.
use Rattle.std.proofs.Common.{◌≡◌, ℕ, zero, suc, ◌+◌, ◌-◌, ◌*◌, ◌/◌, ◌%◌, ◌^◌, ◌<◌, ◌≤◌, min, max, Bool, true, false, cond, ◌&&◌, ◌||◌, eqb, ltb, leb, List, [], ◌∷◌, ◌++◌, drop, sym, refl, ap, ◌∙◌, arith, ltb-false, ltb-true, eq-eqb, eqb-true, le-leb}
use mathlib.Core.Bool.{or-true, false≢true}
use lib.Dec.{eqb-suc-zero}
use Rattle.formats.specs.Fields.{position, ◌of◌, SRC0_SEL, SRC0_REL, SRC0_CHAN, SRC1_SEL, SRC1_REL, SRC1_CHAN, SRC2_SEL, SRC2_REL, SRC2_CHAN, INDEX_MODE, PRED_SEL, BANK_SWIZZLE, DST_GPR, DST_REL}
use Rattle.laws.proofs.OfTests.{neither}
use Rattle.bits.specs.Fields.{bits, field_of, value_in}
use Rattle.opcodes.proofs.OfRuns.{same_below}
use Rattle.grants.specs.declared.Limits.{Limits}
use Rattle.grants.specs.Grants.{Name, alu_register, set0, set1, constant, locked, granted, all_granted, source_names}
use Rattle.grants.proofs.OfGrants.{locked_most, all_joined}
use Rattle.instructions.specs.declared.Source.{Source}
use Rattle.instructions.specs.Instruction.{is_op3, is_written, is_relative, bad_source, bad_field, names_of, destination_names, named, literals, source_literals, source0_of, source1_of, source2_of}
use Rattle.instructions.specs.Code.{third_word}
use Rattle.screens.specs.declared.Gap.{Gap}
use Rattle.screens.specs.Code.{with_rel, gap, times, by_row, gaps_of, gap_at, is_among, in_gap, writes_gap, bad_modes, asks_literal, is_second, asks_second, more_literals, broken_by}

-- ---- what the code tests

-- a difference counted in 32 bits
pub wrapped : (x f r : ℕ) → x < 2 ^ 32 → f < 2 ^ 32 → r < 2 ^ 32 → (r + f) % 2 ^ 32 ≡ x → r ≡ (x + (2 ^ 32 - f)) % 2 ^ 32
wrapped x f r h k l e = omega (arith, h, k, l, e)

-- nine bits and the tenth above them
module _ (n : ℕ) where
  source0_bits : with_rel SRC0_SEL SRC0_REL n ≡ SRC0_SEL of n + 512 * (SRC0_REL of n)
  source0_bits = omega arith

  source1_bits : with_rel SRC1_SEL SRC1_REL n ≡ SRC1_SEL of n + 512 * (SRC1_REL of n)
  source1_bits = omega arith

  source2_bits : with_rel SRC2_SEL SRC2_REL n ≡ SRC2_SEL of n + 512 * (SRC2_REL of n)
  source2_bits = omega arith

-- ---- literals

-- what a source asks for: nothing, one quadword, or two
abbrev asked_by_lem : Bool → Bool → ℕ
asked_by_lem literal second = cond literal (cond second 2 1) 0

-- the highest of three, where there is one
highest :
    (a x b y d z : Bool) → (a || (b || d)) ≡ true
    → cond ((a && x) || ((b && y) || (d && z))) 2 1 ≡ max (max (asked_by_lem a x) (asked_by_lem b y)) (asked_by_lem d z)
highest false x false y false z h = absurd (false≢true h)
highest false x false y true false h = refl
highest false x false y true true h = refl
highest false x true false false z h = refl
highest false x true false true false h = refl
highest false x true false true true h = refl
highest false x true true false z h = refl
highest false x true true true false h = refl
highest false x true true true true h = refl
highest true false false y false z h = refl
highest true false false y true false h = refl
highest true false false y true true h = refl
highest true false true false false z h = refl
highest true false true false true false h = refl
highest true false true false true true h = refl
highest true false true true false z h = refl
highest true false true true true false h = refl
highest true false true true true true h = refl
highest true true false y false z h = refl
highest true true false y true false h = refl
highest true true false y true true h = refl
highest true true true false false z h = refl
highest true true true false true false h = refl
highest true true true false true true h = refl
highest true true true true false z h = refl
highest true true true true true false h = refl
highest true true true true true true h = refl

source_asks : (s : Source) → s.chan < 4 → source_literals s ≡ asked_by_lem (eqb s.sel 253) (ltb 1 s.chan)
unfolding source_literals
source_asks s h = by (eqb s.sel 253) s.chan h
  where
    by : (b : Bool) (c : ℕ) → c < 4 → cond b (c / 2 + 1) 0 ≡ asked_by_lem b (ltb 1 c)
    by false c l = refl
    by true zero l = refl
    by true (suc zero) l = refl
    by true (suc (suc zero)) l = refl
    by true (suc (suc (suc zero))) l = refl
    by true (suc (suc (suc (suc c)))) l = absurd (omega arith)

module _ (lo hi : ℕ) where
  -- one that is 253 with its relative bit clear is 253
  literal_there :
      (x sel rel : ℕ) → x ≡ sel + 512 * rel → eqb x 253 ≡ true → eqb sel 253 ≡ true
  literal_there x sel rel e h = eq-eqb sel 253 (omega (arith, e, eqb-true x 253 h))

  some_literal :
      asks_literal lo hi ≡ true
      → (eqb (SRC0_SEL of lo) 253 || (eqb (SRC1_SEL of lo) 253 || eqb (SRC2_SEL of (third_word lo hi)) 253)) ≡ true
  unfolding asks_literal
  some_literal h =
      by (eqb (with_rel SRC0_SEL SRC0_REL lo) 253) refl (eqb (with_rel SRC1_SEL SRC1_REL lo) 253) refl h
    where
      by :
          (a : Bool) → eqb (with_rel SRC0_SEL SRC0_REL lo) 253 ≡ a → (b : Bool) → eqb (with_rel SRC1_SEL SRC1_REL lo) 253 ≡ b
          → (a || (b || eqb (with_rel SRC2_SEL SRC2_REL (third_word lo hi)) 253)) ≡ true
          → (eqb (SRC0_SEL of lo) 253 || (eqb (SRC1_SEL of lo) 253 || eqb (SRC2_SEL of (third_word lo hi)) 253)) ≡ true
      by true p b q r =
          ap (λ (t : Bool). t || (eqb (SRC1_SEL of lo) 253 || eqb (SRC2_SEL of (third_word lo hi)) 253))
          (literal_there _ (SRC0_SEL of lo) (SRC0_REL of lo) (source0_bits lo) p)
      by false p true q r =
          ap (λ (t : Bool). eqb (SRC0_SEL of lo) 253 || (t || eqb (SRC2_SEL of (third_word lo hi)) 253))
          (literal_there _ (SRC1_SEL of lo) (SRC1_REL of lo) (source1_bits lo) q)
          ∙ or-true (eqb (SRC0_SEL of lo) 253)
      by false p false q r =
          ap (λ (t : Bool). eqb (SRC0_SEL of lo) 253 || (eqb (SRC1_SEL of lo) 253 || t))
          (literal_there _ (SRC2_SEL of (third_word lo hi)) (SRC2_REL of (third_word lo hi)) (source2_bits (third_word lo hi)) r)
          ∙ ap (λ (t : Bool). eqb (SRC0_SEL of lo) 253 || t) (or-true (eqb (SRC1_SEL of lo) 253))
          ∙ or-true (eqb (SRC0_SEL of lo) 253)

  -- an OP2 has its first source once more
  third_asks :
      max (max (source_literals (source0_of lo)) (source_literals (source1_of lo))) (source_literals (source2_of (third_word lo hi))) ≡ literals lo hi
  unfolding literals
  third_asks = by (is_op3 hi)
    where
      by :
          (b : Bool)
          → max (max (source_literals (source0_of lo)) (source_literals (source1_of lo))) (source_literals (source2_of (cond b hi lo))) ≡ max (max (source_literals (source0_of lo)) (source_literals (source1_of lo))) (cond b (source_literals (source2_of hi)) 0)
      by true = refl
      by false = omega arith

  literals_by : asks_literal lo hi ≡ true → cond (asks_second lo hi) 2 1 ≡ literals lo hi
  unfolding asks_second is_second
  literals_by h =
      highest (eqb (SRC0_SEL of lo) 253) (ltb 1 (SRC0_CHAN of lo)) (eqb (SRC1_SEL of lo) 253) (ltb 1 (SRC1_CHAN of lo)) (eqb (SRC2_SEL of (third_word lo hi)) 253) (ltb 1 (SRC2_CHAN of (third_word lo hi))) (some_literal h)
      ∙ sym (λ i. max (max (source_asks (source0_of lo) (omega arith) i) (source_asks (source1_of lo) (omega arith) i)) (source_asks (source2_of (third_word lo hi)) (omega arith) i))
      ∙ third_asks

  pub literal_asked : (n : ℕ) → asks_literal lo hi ≡ true → max n (cond (asks_second lo hi) 2 1) ≡ more_literals n lo hi
  unfolding more_literals
  literal_asked n h = ap (max n) (literals_by h) ∙ rw h

  pub none_asked : (n : ℕ) → asks_literal lo hi ≡ false → n ≡ more_literals n lo hi
  unfolding more_literals
  none_asked n h = rw h

-- ---- PRED_SEL and INDEX_MODE

-- the bits that are set, and what they say, over all values of the two
abbrev refused : ℕ → Bool
refused m = eqb (field_of 0xE0E0_FFE0 m 1) 1

abbrev bad : ℕ → Bool
bad m = eqb (m / 8) 1 || ltb 4 (m % 8)

pub bad_modes_lem : (lo : ℕ) {m r : ℕ} → m ≡ value_in lo (bits (position PRED_SEL).0 (position INDEX_MODE).1) → r ≡ field_of 0xE0E0_FFE0 m 1 → eqb r 1 ≡ bad_modes lo
unfolding bad_modes
bad_modes_lem lo {m = m} e f =
    let few : m < 32 = omega (arith, e) in
    let p : m / 8 ≡ PRED_SEL of lo = omega (arith, e) in
    let i : m % 8 ≡ INDEX_MODE of lo = omega (arith, e) in
    ap (λ (k : ℕ). eqb k 1) f ∙ same_below refused bad 32 refl m few ∙ (λ n. eqb (p n) 1 || ltb 4 (i n))

-- ---- one instruction, test by test

-- what the code asks
module _ (gaps : List Gap) (lo hi : ℕ) where
  abbrev field_test : Bool
  field_test = bad_modes lo || ltb 5 (BANK_SWIZZLE of hi)

  abbrev source_test : Bool
  source_test = in_gap gaps (with_rel SRC0_SEL SRC0_REL lo) || in_gap gaps (with_rel SRC1_SEL SRC1_REL lo)

  abbrev third_test : Bool
  third_test = in_gap gaps (with_rel SRC2_SEL SRC2_REL (third_word lo hi))

-- ---- rows

run_in : (k : ℕ) (v : Gap) (rest : List Gap) (r : ℕ) → r < k → gap_at (times k v rest) r ≡ v
run_in zero v rest r h = absurd (omega arith)
run_in (suc k) v rest zero h = refl
run_in (suc k) v rest (suc r) h = run_in k v rest r (omega arith)

skipped : (k : ℕ) (l : List Gap) (r : ℕ) → gap_at l (k + r) ≡ gap_at (drop k l) r
skipped zero l r = let e : zero + r ≡ r = omega arith in ap (gap_at l) e
skipped (suc k) [] r = refl
skipped (suc k) (n ∷ l) r =
    let e : suc k + r ≡ suc (k + r) = omega arith in ap (gap_at (n ∷ l)) e ∙ skipped k l r

module _ (a b d e f g : Gap) where
  row_registers : (r : ℕ) → r < 4 → gap_at (by_row a b d e f g) r ≡ a
  row_registers r h = run_in 4 a (drop 4 (by_row a b d e f g)) r h

  row_inline : (r : ℕ) → r < 2 → gap_at (by_row a b d e f g) (6 + r) ≡ e
  row_inline r h = skipped 6 (by_row a b d e f g) r ∙ run_in 2 e (drop 8 (by_row a b d e f g)) r h

  row_constants : (r : ℕ) → r < 8 → gap_at (by_row a b d e f g) (8 + r) ≡ f
  row_constants r h = skipped 8 (by_row a b d e f g) r ∙ run_in 8 f (drop 16 (by_row a b d e f g)) r h

  row_relative : (r : ℕ) → r < 2 → gap_at (by_row a b d e f g) (22 + r) ≡ g
  row_relative r h = skipped 22 (by_row a b d e f g) r ∙ run_in 2 g (drop 24 (by_row a b d e f g)) r h

-- ---- what lies outside its row's gap

past_gap : (x s w : ℕ) → x < 2 ^ 32 → s ≤ x → is_among x (gap s w) ≡ false → s + w ≤ x
unfolding is_among
past_gap x s w h l e =
    let z = ltb-false ((x + (2 ^ 32 - s)) % 2 ^ 32) w e in let y : (x + (2 ^ 32 - s)) % 2 ^ 32 ≡ x - s = omega (arith, h, l) in omega (arith, z, y, l)

-- a register outside the gap of registers is granted
register_outside : (l : Limits) (x : ℕ) → is_among x (gap l.gprs (128 - l.temps - l.gprs)) ≡ false → x < 128 → granted l (alu_register x) ≡ true
register_outside l x h k = by (ltb x l.gprs) refl
  where
    by : (t : Bool) → ltb x l.gprs ≡ t → (t || leb (128 - l.temps) x) ≡ true
    by true e = refl
    by false e =
        let s = ltb-false x l.gprs e in
        let g = past_gap x l.gprs (128 - l.temps - l.gprs) (omega arith) s h in
        le-leb (128 - l.temps) x (omega (arith, s, g))

-- one of the six gaps
abbrev Pick : Type 0
Pick = Gap → Gap → Gap → Gap → Gap → Gap → Gap

module _ (l : Limits) (x : ℕ) (h : in_gap (gaps_of l) x ≡ false) where
  -- the gap of its row
  row_gap :
      (pick : Pick) → ((a b d e f g : Gap) → gap_at (by_row a b d e f g) (x / 32 % 32) ≡ pick a b d e f g)
      → is_among x (pick (gap l.gprs (128 - l.temps - l.gprs)) (gap (128 + locked l.mode0) (32 - locked l.mode0)) (gap (160 + locked l.mode1) (32 - locked l.mode1)) (gap 192 56) (gap (256 + min l.consts 256) (256 - min l.consts 256)) (gap 704 64)) ≡ false
  unfolding in_gap gaps_of
  row_gap pick row = sym (ap (is_among x) (row (gap l.gprs (128 - l.temps - l.gprs)) (gap (128 + locked l.mode0) (32 - locked l.mode0)) (gap (160 + locked l.mode1) (32 - locked l.mode1)) (gap 192 56) (gap (256 + min l.consts 256) (256 - min l.consts 256)) (gap 704 64))) ∙ h

  register_clear : x < 128 → granted l (alu_register x) ≡ true
  register_clear k =
      let row : x / 32 % 32 < 4 = omega arith in
      register_outside l x (row_gap (λ a b d e f g. a) (λ a b d e f g. row_registers a b d e f g (x / 32 % 32) row)) k

  set0_clear : 128 ≤ x → x < 160 → ltb (x - 128) (locked l.mode0) ≡ true
  set0_clear m k = by (ltb (x - 128) (locked l.mode0)) refl
    where
      by : (t : Bool) → ltb (x - 128) (locked l.mode0) ≡ t → t ≡ true
      by true e = refl
      by false e =
          let s = ltb-false (x - 128) (locked l.mode0) e in
          let row : x / 32 % 32 ≡ 4 = omega arith in
          let g = past_gap x (128 + locked l.mode0) (32 - locked l.mode0) (omega arith) (omega (arith, s)) (row_gap (λ a b d e f g. b) (λ a b d e f g. ap (gap_at (by_row a b d e f g)) row)) in
          absurd (omega (arith, s, g, locked_most l.mode0))

  set1_clear : 160 ≤ x → x < 192 → ltb (x - 160) (locked l.mode1) ≡ true
  set1_clear m k = by (ltb (x - 160) (locked l.mode1)) refl
    where
      by : (t : Bool) → ltb (x - 160) (locked l.mode1) ≡ t → t ≡ true
      by true e = refl
      by false e =
          let s = ltb-false (x - 160) (locked l.mode1) e in
          let row : x / 32 % 32 ≡ 5 = omega arith in
          let g = past_gap x (160 + locked l.mode1) (32 - locked l.mode1) (omega arith) (omega (arith, s)) (row_gap (λ a b d e f g. d) (λ a b d e f g. ap (gap_at (by_row a b d e f g)) row)) in
          absurd (omega (arith, s, g, locked_most l.mode1))

  constant_clear : 256 ≤ x → x < 512 → ltb (x - 256) l.consts ≡ true
  constant_clear m k = by (ltb (x - 256) l.consts) refl
    where
      by : (t : Bool) → ltb (x - 256) l.consts ≡ t → t ≡ true
      by true e = refl
      by false e =
          let s = ltb-false (x - 256) l.consts e in
          let row : x / 32 % 32 ≡ 8 + (x / 32 % 32 - 8) = omega arith in
          let few : x / 32 % 32 - 8 < 8 = omega arith in
          let g = past_gap x (256 + min l.consts 256) (256 - min l.consts 256) (omega arith) (omega (arith, s)) (row_gap (λ a b d e f g. f) (λ a b d e f g. ap (gap_at (by_row a b d e f g)) row ∙ row_constants a b d e f g (x / 32 % 32 - 8) few)) in
          absurd (omega (arith, s, g))

  not_reserved : 192 ≤ x → x < 248 → ⊥
  not_reserved m k =
      let row : x / 32 % 32 ≡ 6 + (x / 32 % 32 - 6) = omega arith in
      let few : x / 32 % 32 - 6 < 2 = omega arith in
      let g = past_gap x 192 56 (omega arith) m (row_gap (λ a b d e f g. e) (λ a b d e f g. ap (gap_at (by_row a b d e f g)) row ∙ row_inline a b d e f g (x / 32 % 32 - 6) few)) in
      omega (arith, g)

  not_relative : 704 ≤ x → x < 768 → ⊥
  not_relative m k =
      let row : x / 32 % 32 ≡ 22 + (x / 32 % 32 - 22) = omega arith in
      let few : x / 32 % 32 - 22 < 2 = omega arith in
      let g = past_gap x 704 64 (omega arith) m (row_gap (λ a b d e f g. g) (λ a b d e f g. ap (gap_at (by_row a b d e f g)) row ∙ row_relative a b d e f g (x / 32 % 32 - 22) few)) in
      omega (arith, g)

-- ---- one source

module _ (l : Limits) (s : Source) (h : in_gap (gaps_of l) (s.sel + 512 * s.rel) ≡ false) where
  module _ (z : s.rel ≡ 0) where
    direct : is_relative s ≡ false
    unfolding is_relative
    direct = rw z

    clear : in_gap (gaps_of l) s.sel ≡ false
    clear = let e : s.sel ≡ s.sel + 512 * s.rel = omega (arith, z) in ap (in_gap (gaps_of l)) e ∙ h

    direct-fields : bad_source s ≡ false
    unfolding bad_source
    direct-fields = by (ltb s.sel 192) refl (ltb s.sel 248) refl (ltb s.sel 256)
      where
        by :
            (a : Bool) → ltb s.sel 192 ≡ a → (b : Bool) → ltb s.sel 248 ≡ b → (d : Bool)
            → cond a false (cond b true (cond d (is_relative s) false)) ≡ false
        by true e b f d = refl
        by false e true f d =
            absurd (not_reserved l s.sel clear (ltb-false s.sel 192 e) (ltb-true s.sel 248 f))
        by false e false f true = direct
        by false e false f false = refl

    direct-names : s.sel < 512 → all_granted l (names_of s) ≡ true
    unfolding names_of
    direct-names k =
        ap (λ (b : Bool). all_granted l (cond b [] (source_names s.sel))) direct
        ∙ by (ltb s.sel 128) refl (ltb s.sel 160) refl (ltb s.sel 192) refl (ltb s.sel 256) refl
      where
        by :
            (a : Bool) → ltb s.sel 128 ≡ a → (b : Bool) → ltb s.sel 160 ≡ b → (d : Bool) → ltb s.sel 192 ≡ d → (e : Bool)
            → ltb s.sel 256 ≡ e
            → all_granted l (cond a (alu_register s.sel ∷ []) (cond b (set0 (s.sel - 128) ∷ []) (cond d (set1 (s.sel - 160) ∷ []) (cond e [] (constant (s.sel - 256) ∷ []))))) ≡ true
        by true a b p d q e r =
            ap (λ (t : Bool). t && true) (register_clear l s.sel clear (ltb-true s.sel 128 a))
        by false a true p d q e r =
            ap (λ (t : Bool). t && true) (set0_clear l s.sel clear (ltb-false s.sel 128 a) (ltb-true s.sel 160 p))
        by false a false p true q e r =
            ap (λ (t : Bool). t && true) (set1_clear l s.sel clear (ltb-false s.sel 160 p) (ltb-true s.sel 192 q))
        by false a false p false q true r = refl
        by false a false p false q false r =
            ap (λ (t : Bool). t && true) (constant_clear l s.sel clear (ltb-false s.sel 256 r) k)

  module _ (z : s.rel ≡ 1) where
    relative-fields : bad_source s ≡ false
    unfolding bad_source
    relative-fields = by (ltb s.sel 192) refl (ltb s.sel 248) refl (ltb s.sel 256) refl
      where
        no : 192 ≤ s.sel → s.sel < 256 → ⊥
        no m k = not_relative l (s.sel + 512 * s.rel) h (omega (arith, m, z)) (omega (arith, k, z))

        by :
            (a : Bool) → ltb s.sel 192 ≡ a → (b : Bool) → ltb s.sel 248 ≡ b → (d : Bool) → ltb s.sel 256 ≡ d
            → cond a false (cond b true (cond d (is_relative s) false)) ≡ false
        by true e b f d g = refl
        by false e true f d g = absurd (no (ltb-false s.sel 192 e) (omega (arith, ltb-true s.sel 248 f)))
        by false e false f true g = absurd (no (ltb-false s.sel 192 e) (ltb-true s.sel 256 g))
        by false e false f false g = refl

    relative_names : all_granted l (names_of s) ≡ true
    unfolding names_of is_relative
    relative_names = rw z

  -- outside the gaps a source breaks neither rule
  source_clear : s.sel < 512 → s.rel < 2 → (bad_source s ≡ false) × (all_granted l (names_of s) ≡ true)
  source_clear k m = by s.rel refl
    where
      by : (r : ℕ) → s.rel ≡ r → (bad_source s ≡ false) × (all_granted l (names_of s) ≡ true)
      by zero e = (direct-fields e, direct-names e k)
      by (suc zero) e = (relative-fields e, relative_names e)
      by (suc (suc r)) e = absurd (omega (arith, e, m))

-- ---- one instruction

-- a source that rule 12 lets pass, and that is not 253 without its relative bit, is no literal
no_literal : (s : Source) → s.rel < 2 → bad_source s ≡ false → eqb (s.sel + 512 * s.rel) 253 ≡ false → source_literals s ≡ 0
unfolding source_literals bad_source is_relative
no_literal s m h e = by (eqb s.sel 253) refl s.rel refl
  where
    by : (b : Bool) → eqb s.sel 253 ≡ b → (r : ℕ) → s.rel ≡ r → cond b (s.chan / 2 + 1) 0 ≡ 0
    by false p r q = refl
    by true p zero q =
        let z = eqb-true s.sel 253 p in
        let y : s.sel + 512 * s.rel ≡ 253 = omega (arith, z, q) in
        absurd (false≢true (sym e ∙ eq-eqb (s.sel + 512 * s.rel) 253 y))
    by true p (suc zero) q =
        let z = eqb-true s.sel 253 p in
        absurd (false≢true (sym h ∙ rw (z, q)))
    by true p (suc (suc r)) q = absurd (omega (arith, q, m))

tests_false :
    (a b d e : Bool) → cond a true (cond b true (cond d true e)) ≡ false
    → (a ≡ false) × ((b ≡ false) × ((d ≡ false) × (e ≡ false)))
tests_false false false false e h = (refl, (refl, (refl, h)))
tests_false false false true e h = absurd (false≢true (sym h))
tests_false false true d e h = absurd (false≢true (sym h))
tests_false true b d e h = absurd (false≢true (sym h))

module _ (l : Limits) (lo hi : ℕ) (h : broken_by (gaps_of l) lo hi ≡ false) where
  asked :
      (field_test (gaps_of l) lo hi ≡ false)
      × ((source_test (gaps_of l) lo hi ≡ false) × ((third_test (gaps_of l) lo hi ≡ false) × (writes_gap (gaps_of l) hi ≡ false)))
  unfolding broken_by
  asked =
      tests_false (field_test (gaps_of l) lo hi) (source_test (gaps_of l) lo hi) (third_test (gaps_of l) lo hi) (writes_gap (gaps_of l) hi)
      h

  first_two :
      (in_gap (gaps_of l) (with_rel SRC0_SEL SRC0_REL lo) ≡ false) × (in_gap (gaps_of l) (with_rel SRC1_SEL SRC1_REL lo) ≡ false)
  first_two = neither (in_gap (gaps_of l) (with_rel SRC0_SEL SRC0_REL lo)) _ asked.1.0

  first : (bad_source (source0_of lo) ≡ false) × (all_granted l (names_of (source0_of lo)) ≡ true)
  first =
      source_clear l (source0_of lo) (ap (in_gap (gaps_of l)) (sym (source0_bits lo)) ∙ first_two.0) (omega arith)
      (omega arith)

  second : (bad_source (source1_of lo) ≡ false) × (all_granted l (names_of (source1_of lo)) ≡ true)
  second =
      source_clear l (source1_of lo) (ap (in_gap (gaps_of l)) (sym (source1_bits lo)) ∙ first_two.1) (omega arith)
      (omega arith)

  third :
      ((is_op3 hi && bad_source (source2_of hi)) ≡ false) × (all_granted l (cond (is_op3 hi) (names_of (source2_of hi)) []) ≡ true)
  third = by (is_op3 hi) asked.1.1.0
    where
      by :
          (b : Bool) → in_gap (gaps_of l) (with_rel SRC2_SEL SRC2_REL (cond b hi lo)) ≡ false
          → ((b && bad_source (source2_of hi)) ≡ false) × (all_granted l (cond b (names_of (source2_of hi)) []) ≡ true)
      by false e = (refl, refl)
      by true e =
          source_clear l (source2_of hi) (ap (in_gap (gaps_of l)) (sym (source2_bits hi)) ∙ e) (omega arith)
          (omega arith)

  destination : all_granted l (destination_names hi) ≡ true
  unfolding destination_names writes_gap gaps_of
  destination = by (is_written hi) (DST_REL of hi) refl asked.1.1.1
    where
      by :
          (b : Bool) (r : ℕ) → DST_REL of hi ≡ r
          → is_among (cond b (with_rel DST_GPR DST_REL hi) 255) (gap l.gprs (128 - l.temps - l.gprs)) ≡ false
          → all_granted l (cond (b && eqb r 0) (alu_register (DST_GPR of hi) ∷ []) []) ≡ true
      by false r e h = refl
      by true zero e h =
          let z : DST_GPR of hi ≡ with_rel DST_GPR DST_REL hi = omega (arith, e) in
          ap (λ (t : Bool). t && true)
          (register_outside l (DST_GPR of hi) (ap (λ (n : ℕ). is_among n (gap l.gprs (128 - l.temps - l.gprs))) z ∙ h) (omega arith))
      by true (suc r) e h = rw (eqb-suc-zero r)

  -- an instruction that the gaps let through breaks neither rule 12
  pub unbroken_field : bad_field lo hi ≡ false
  unfolding bad_field bad_modes
  unbroken_field =
      let f = neither (bad_modes lo) _ asked.0 in
      let g = neither (eqb (PRED_SEL of lo) 1) _ f.0 in
      rw (g.0, g.1, f.1, first.0, second.0) third.0

  -- nor rule 15
  pub unbroken_grants : all_granted l (named lo hi) ≡ true
  unfolding named
  unbroken_grants =
      both-granted (destination_names hi) (names_of (source0_of lo) ++ (names_of (source1_of lo) ++ cond (is_op3 hi) (names_of (source2_of hi)) [])) destination
      (both-granted (names_of (source0_of lo)) (names_of (source1_of lo) ++ cond (is_op3 hi) (names_of (source2_of hi)) []) first.1
      (both-granted (names_of (source1_of lo)) (cond (is_op3 hi) (names_of (source2_of hi)) []) second.1 third.1))
    where
      both-granted :
          (a b : List Name) → all_granted l a ≡ true → all_granted l b ≡ true → all_granted l (a ++ b) ≡ true
      both-granted a b p q = all_joined l a b ∙ (λ i. p i && q i)

  -- and its literals are those that were looked for
  pub unbroken_literals : (n : ℕ) → more_literals n lo hi ≡ max n (literals lo hi)
  unfolding more_literals asks_literal literals
  unbroken_literals n =
      by (eqb (with_rel SRC0_SEL SRC0_REL lo) 253) refl (eqb (with_rel SRC1_SEL SRC1_REL lo) 253) refl
      (eqb (with_rel SRC2_SEL SRC2_REL (third_word lo hi)) 253) refl
    where
      none-third : (b : Bool) → (b && bad_source (source2_of hi)) ≡ false → eqb (with_rel SRC2_SEL SRC2_REL (cond b hi lo)) 253 ≡ false → cond b (source_literals (source2_of hi)) 0 ≡ 0
      none-third false p q = refl
      none-third true p q = no_literal (source2_of hi) (omega arith) p (ap (λ (x : ℕ). eqb x 253) (sym (source2_bits hi)) ∙ q)

      by :
          (a : Bool) → eqb (with_rel SRC0_SEL SRC0_REL lo) 253 ≡ a → (b : Bool) → eqb (with_rel SRC1_SEL SRC1_REL lo) 253 ≡ b → (d : Bool)
          → eqb (with_rel SRC2_SEL SRC2_REL (third_word lo hi)) 253 ≡ d
          → cond (a || (b || d)) (max n (literals lo hi)) n ≡ max n (max (max (source_literals (source0_of lo)) (source_literals (source1_of lo))) (cond (is_op3 hi) (source_literals (source2_of hi)) 0))
      by true p b q d r = refl
      by false p true q d r = refl
      by false p false q true r = refl
      by false p false q false r =
          let x = no_literal (source0_of lo) (omega arith) first.0 (ap (λ (x : ℕ). eqb x 253) (sym (source0_bits lo)) ∙ p) in
          let y = no_literal (source1_of lo) (omega arith) second.0 (ap (λ (x : ℕ). eqb x 253) (sym (source1_bits lo)) ∙ q) in
          let z = none-third (is_op3 hi) third.0 r in
          rw (x, y, z) (omega arith)
