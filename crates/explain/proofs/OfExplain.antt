-- An explanation is true, and what it is made of is what the code reads. Assumes nothing.
use Prim.Native.Nat.{ℕ, suc}
use mathlib.Core.Path.{◌≡◌, refl, sym, ap, subst, ◌∙◌}
use mathlib.Core.Bool.{Bool, true, false, cond}
use mathlib.Core.List.{List}
use lib.ListN.{length, drop}
use Rattle.std.specs.Prelude.{Option, Some, None, Err}
use borrow.Author.Tests.{not-true, eq-eqb, ne_eqb}
use Rattle.laws.proofs.OfCases.{impossible}
use Rattle.units.specs.declared.Slots.{Slots}
use Rattle.checks.specs.declared.Explanation.{Explanation}
use Rattle.checks.specs.declared.Place.{Place}
use Rattle.checks.specs.declared.Place.TheVariants as place
use Rattle.checks.specs.Verdict.{Verdict, Refused}
use Rattle.card.specs.declared.Card.{Card}
use Rattle.card.specs.declared.BadLine.{BadLine}
use Rattle.card.specs.Card.{CardRead, Whole, card_lines, card_of}
use Rattle.card.specs.Made.{CardTest, InRange, test_of}
use Rattle.card.proofs.OfCard.{whole_in_range}
use Rattle.grants.specs.Grants.{all_granted}
use Rattle.faults.specs.Faults.{first_fault}
use Rattle.faults.proofs.OfOperands.{Found, instruction_found, fetch_found}
use Rattle.section.specs.declared.Clause.{Clause}
use Rattle.section.specs.declared.Clause.TheVariants.{Alu, Fetch}
use Rattle.section.specs.Rules.{clause_at}
use Rattle.judge.specs.Judge.{limits_in, judgement, read_judgement, judgement_of_bytes}
use Rattle.judge.proofs.OfJudge.{judged_accepted, judged_refused}
use Rattle.input.specs.declared.Judged.{Judged}
use Rattle.input.specs.Words.{words_in}
use Rattle.input.specs.Input.{bad_line, bad_length, right_length, by_test, pack_verdict, judged_by, without_card, behind_card, judged_of, beside_card, judged_of_files}
use Rattle.explain.specs.Explain.{asks_names, named_in, fault_at, fault_of, explained, plain, by_read, explanation, explanation_of_bytes, pack_behind, explanation_of, explanation_of_files}
use Rattle.explain.specs.Truth.{operands_in, FoundThere, Explains, ExplainsBytes, ExplainsPack, ExplainsInput, ExplainsFiles}
use Rattle.explain.proofs.OfAsked.{GrantedAt, names_asked}

-- ---- by a card's figures and a pack's words

module _ (card : Card) (w : List ℕ) where
  found_in_lem :
      (slot : Slots) (k : Option Clause) → all_granted (limits_in card k) (named_in w slot k) ≡ false
      → Found (limits_in card k) (operands_in w slot k) (first_fault (limits_in card k) (named_in w slot k))
  found_in_lem slot None h = impossible cc
  found_in_lem slot (Some (Alu start n push mode0 mode1)) h = instruction_found _ _ _ h
  found_in_lem slot (Some (Fetch start n kind)) h = fetch_found _ kind _ _ h

  found_there :
      (rule : ℕ) (at : Place) (slot : Slots) → judgement card w ≡ Refused rule at slot → asks_names rule ≡ true
      → FoundThere card w at slot (fault_of card w (judgement card w))
  unfolding fault_at
  found_there rule at slot e t =
      let a = names_asked card w rule at slot ((judged_refused card w rule at slot).0 e) t in
      let q = a.opener in
      let f = found_in_lem slot (clause_at w q.0) (not-true (GrantedAt card w q.0 slot) (sym a.broken-is)) in
      record {
        opener = q;
        place_is = a.place_is;
        in_section = a.in_section;
        in_clause = a.in_clause;
        found = f.found;
        limit = f.limit;
        fault_is =
            ap (fault_of card w) (e ∙ ap (λ (p : Place). Refused rule p slot) a.place_is)
            ∙ ap (λ (x : Bool). cond x (first_fault (limits_in card (clause_at w q.0)) (named_in w slot (clause_at w q.0))) None) t
            ∙ f.is_number;
        first = f.first;
      }

  none_else : (rule : ℕ) (at : Place) (slot : Slots) → asks_names rule ≡ false → fault_of card w (Refused rule at slot) ≡ None
  none_else rule place.Whole slot e = refl
  none_else rule (place.Line n) slot e = refl
  none_else rule (place.Quadword q) slot e = rw e

  pub explains : Explains card w (explanation card w)
  unfolding explanation
  explains =
      record {
        accepted = λ e. (judged_accepted card w).0 e;
        refused = λ rule at slot e. (judged_refused card w rule at slot).0 e;
        numbers = found_there;
        no_numbers_refused = λ rule at slot e t. ap (fault_of card w) e ∙ none_else rule at slot t;
        no_numbers_accepted = λ e. ap (fault_of card w) e;
      }

  pub as_explained : {x : Explanation} → x ≡ explained card w (judgement card w) → Explains card w x
  unfolding explanation
  as_explained e = subst (Explains card w) (sym e) explains

-- ---- by a card in bytes

same_whole : {c d : Card} {m n : ℕ} → Whole c m ≡ Whole d n → c ≡ d
same_whole {c} {d} {m} {n} e =
    let both-are : ◌≡◌ {A = Card × ℕ} (c, m) (d, n) = cc in
    ap (λ (x : Card × ℕ). x.0) both-are

never_both : {P : Type 0} {c : Card} {m : ℕ} {line : BadLine} → Whole c m ≡ Err line → P
never_both e = impossible cc

same_line : {l m : BadLine} → ◌≡◌ {A = CardRead} (Err l) (Err m) → l ≡ m
same_line e = cc

module _ (bytes w : List ℕ) where
  pub whole_card :
      {card : Card} {n : ℕ} {x : Explanation} → card_of bytes ≡ Whole card n → x ≡ explanation card w
      → (x ≡ explanation_of_bytes bytes w) × ExplainsBytes bytes w x
  unfolding explanation explanation_of_bytes judgement_of_bytes
  whole_card {card} {n} {x} h e = (
    e ∙ ap (λ (k : CardRead). by_read k w (read_judgement k w)) (sym h),
    record {
      by_card = λ c m k. as_explained c w (e ∙ ap (λ (d : Card). explained d w (judgement d w)) (same_whole (sym h ∙ k)));
      by_line = λ m k. never_both (sym h ∙ k);
    },
  )

  pub bad_card :
      {line : BadLine} {x : Explanation} → card_of bytes ≡ Err line → x ≡ plain (bad_line line.0) → (x ≡ explanation_of_bytes bytes w) × ExplainsBytes bytes w x
  unfolding explanation_of_bytes judgement_of_bytes
  bad_card {line} {x} h e = (
    e ∙ ap (λ (k : CardRead). by_read k w (read_judgement k w)) (sym h),
    record {
      by_card = λ c m k. never_both (sym k ∙ h);
      by_line = λ m k. e ∙ ap (λ (l : BadLine). plain (bad_line l.0)) (same_line (sym h ∙ k));
    },
  )

-- ---- by a card and a pack in bytes

explains_pack :
    (card : Card) (pack : List ℕ) {x : Explanation} → test_of card ≡ InRange → x ≡ explained card (words_in pack) (pack_verdict card pack)
    → ExplainsPack card pack x
unfolding pack_verdict
explains_pack card pack {x} r e =
    record {
      wrong_length = λ h. given ∙ ap by h;
      length_is_right = λ h. as_explained card (words_in pack) (given ∙ ap by h);
    }
  where
    by : Bool → Explanation
    by t = explained card (words_in pack) (cond t (judgement card (words_in pack)) bad_length)

    given : x ≡ by (right_length card.quads (length pack))
    given = e ∙ ap (λ (t : CardTest). explained card (words_in pack) (by_test card pack t)) r

pub explains_input : (input : List ℕ) → ExplainsInput input (explanation_of input)
unfolding explanation_of judged_of
explains_input input =
    record {
      by_card =
          λ card taken e.
          explains_pack card (drop taken input) (whole_in_range input card taken e) (ap (λ (k : CardRead). by_read k (words_in (pack_behind input k)) (behind_card input k).verdict) e);
      by_line = λ n e. ap (λ (k : CardRead). by_read k (words_in (pack_behind input k)) (behind_card input k).verdict) e;
    }

pub explains_files : (text pack : List ℕ) → ExplainsFiles text pack (explanation_of_files text pack)
unfolding explanation_of_files judged_of_files
explains_files text pack =
    record {
      by_card =
          λ card taken e s.
          explains_pack card pack (whole_in_range text card taken e)
          (given e ∙ ap (λ (t : Bool). ended card t) (eq-eqb taken (length text) s));
      by_more = λ card taken e s. given e ∙ ap (λ (t : Bool). ended card t) (ne_eqb taken (length text) s);
      by_line = λ n e. given e;
    }
  where
    given : {k : CardRead} → card_of text ≡ k → explanation_of_files text pack ≡ by_read k (words_in pack) (beside_card text pack k).verdict
    given e = ap (λ (k : CardRead). by_read k (words_in pack) (beside_card text pack k).verdict) e

    ended : Card → Bool → Explanation
    ended card t = explained card (words_in pack) (cond t (judged_by card pack) (without_card (suc card_lines))).verdict

-- ---- from what the code reads

pub explained_true :
    (card : Card) (w : List ℕ) {v : Verdict} {x : Explanation} → v ≡ judgement card w → x ≡ explained card w v
    → (x ≡ explanation card w) × Explains card w x
unfolding explanation
explained_true card w e h = let z = h ∙ ap (explained card w) e in (z, as_explained card w z)

module _ (input : List ℕ) {k : CardRead} {judged : Judged} (e : k ≡ card_of input) (j : judged ≡ judged_of input) where
  input_true : {x : Explanation} → x ≡ by_read k (words_in (pack_behind input k)) judged.verdict → (x ≡ explanation_of input) × ExplainsInput input x
  unfolding explanation_of
  input_true h =
      let z = h ∙ (λ i. by_read (e i) (words_in (pack_behind input (e i))) (j i).verdict) in
      (z, subst (ExplainsInput input) (sym z) (explains_input input))

  pub input_whole :
      {card : Card} {n : ℕ} {part : List ℕ} {x : Explanation} → k ≡ Whole card n → part ≡ drop n input
      → x ≡ explained card (words_in part) judged.verdict → (x ≡ explanation_of input) × ExplainsInput input x
  input_whole {card} h q f =
      input_true (f ∙ ap (λ (p : List ℕ). explained card (words_in p) judged.verdict) q ∙ ap (λ (r : CardRead). by_read r (words_in (pack_behind input r)) judged.verdict) (sym h))

  pub input_line : {line : BadLine} {x : Explanation} → k ≡ Err line → x ≡ plain judged.verdict → (x ≡ explanation_of input) × ExplainsInput input x
  input_line h f = input_true (f ∙ ap (λ (r : CardRead). by_read r (words_in (pack_behind input r)) judged.verdict) (sym h))

module _ (text pack : List ℕ) {k : CardRead} {judged : Judged} (e : k ≡ card_of text) (j : judged ≡ judged_of_files text pack) where
  files_true : {x : Explanation} → x ≡ by_read k (words_in pack) judged.verdict → (x ≡ explanation_of_files text pack) × ExplainsFiles text pack x
  unfolding explanation_of_files
  files_true h =
      let z = h ∙ (λ i. by_read (e i) (words_in pack) (j i).verdict) in
      (z, subst (ExplainsFiles text pack) (sym z) (explains_files text pack))

  pub files_whole :
      {card : Card} {n : ℕ} {x : Explanation} → k ≡ Whole card n → x ≡ explained card (words_in pack) judged.verdict
      → (x ≡ explanation_of_files text pack) × ExplainsFiles text pack x
  files_whole h f = files_true (f ∙ ap (λ (r : CardRead). by_read r (words_in pack) judged.verdict) (sym h))

  pub files_line : {line : BadLine} {x : Explanation} → k ≡ Err line → x ≡ plain judged.verdict → (x ≡ explanation_of_files text pack) × ExplainsFiles text pack x
  files_line h f = files_true (f ∙ ap (λ (r : CardRead). by_read r (words_in pack) judged.verdict) (sym h))
