-- `card::read_card` meets its contract: behind each line, what the answer is once the lines so far are right. Assumes nothing.
use Rattle.std.proofs.Common.{◌≡◌, sym, ◌∙◌, ap, ℕ, ◌+◌, ◌-◌, ◌≤◌, true, false, List, ◌++◌, length, Some, None, arith}
use Rattle.std.proofs.lemmas.Result.{err_from_is_err_and}
use lib.Dec.{leb}
use Rattle.card.specs.Text.{text, found, behind_first, behind, lines_length, value_at, word_in, number_in, from◌to◌}
use Rattle.card.specs.Card.{kinds, builds, gprs_allowed, consts_allowed, stack_allowed, quads_allowed, Whole, BadAt, card_with, card_of}
use Rattle.card.specs.declared.Kind.{Kind}
use Rattle.card.specs.declared.Build.{Build}
use Rattle.card.proofs.OfFound.{refused_with}
use Rattle.card.proofs.OfLines.{behind_less}
use Rattle.card.specs.Code.{short}
use Rattle.card.proofs.OfShort.{long_word}
use Rattle.card.proofs.OfRows.{kind_said, kind_found, build_said, build_found, row_said, row_value, row_next, row_first, goes_on, stops, past_1, past_2, past_3, past_4, past_5, past_6, past_7, card_lines_lem, alone_wrong, together_wrong, together_right}
use Rattle.card.proofs.read_card.Goals as goal

-- what a line says of a text, and what stands behind it
abbrev Says : List ℕ → List ℕ → List ℕ → List ℕ → Type 0
Says s key value rest = (value_at 1 key s ≡ Some value) × (rest ≡ behind_first s)

abbrev Figure : List ℕ → List ℕ → ℕ → ℕ → ℕ → List ℕ → Type 0
Figure s key low high n rest = (found (value_at 1 key s) (number_in (from low to high)) ≡ Some n) × (rest ≡ behind_first s)

abbrev key_of : List ℕ → List ℕ
key_of name = name ++ text "="

-- line by line, what the code found, and what the card is then
module _ (s : List ℕ) where
  wrong_1 : short (value_at 1 (key_of (text "kind")) s) ≡ None → BadAt 1 ≡ card_of s
  wrong_1 h =
      sym (card_lines_lem s ∙ stops 1 _ _
      (row_said s 0 (row_first s) (key_of (text "kind")) (word_in kinds) (long_word kinds (value_at 1 (key_of (text "kind")) s) (omega arith, (omega arith, (omega arith, tt))) h)))

  module _ {word rest_1 : List ℕ} (v_1 : Says s (key_of (text "kind")) word rest_1) where
    at_1 : rest_1 ≡ behind 1 s
    at_1 = row_next s 0 (row_first s) v_1.1

    no_kind : None ≡ kind_said word → BadAt 1 ≡ card_of s
    no_kind h =
        sym (card_lines_lem s ∙ stops 1 _ _ (row_value s 0 (row_first s) (key_of (text "kind")) (word_in kinds) v_1.0 (sym (h ∙ kind_found word))))

    module _ {kind : Kind} (k : Some kind ≡ kind_said word) where
      up_1 : card_of s ≡ past_1 s (card_with kind)
      up_1 =
          card_lines_lem s
          ∙ goes_on 1 _ (λ x. past_1 s (card_with x)) (row_value s 0 (row_first s) (key_of (text "kind")) (word_in kinds) v_1.0 (sym (k ∙ kind_found word)))

      wrong_2 : short (value_at 1 (key_of (text "build")) rest_1) ≡ None → BadAt 2 ≡ card_of s
      wrong_2 h =
          sym (up_1 ∙ stops 2 _ _
          (row_said s 1 at_1 (key_of (text "build")) (word_in builds) (long_word builds (value_at 1 (key_of (text "build")) rest_1) (omega arith, (omega arith, tt)) h)))

      module _ {word_2 rest_2 : List ℕ} (v_2 : Says rest_1 (key_of (text "build")) word_2 rest_2) where
        at_2 : rest_2 ≡ behind 2 s
        at_2 = row_next s 1 at_1 v_2.1

        no_build : None ≡ build_said word_2 → BadAt 2 ≡ card_of s
        no_build h =
            sym (up_1 ∙ stops 2 _ _ (row_value s 1 at_1 (key_of (text "build")) (word_in builds) v_2.0 (sym (h ∙ build_found word_2))))

        module _ {build : Build} (b : Some build ≡ build_said word_2) where
          up_2 : card_of s ≡ past_2 s (card_with kind build)
          up_2 =
              up_1
              ∙ goes_on 2 _ (λ x. past_2 s (card_with kind x)) (row_value s 1 at_1 (key_of (text "build")) (word_in builds) v_2.0 (sym (b ∙ build_found word_2)))

          wrong_3 : found (value_at 1 (key_of (text "gprs")) rest_2) (number_in gprs_allowed) ≡ None → BadAt 3 ≡ card_of s
          wrong_3 h = sym (up_2 ∙ stops 3 _ _ (row_said s 2 at_2 (key_of (text "gprs")) (number_in gprs_allowed) h))

          module _ {gprs : ℕ} {rest_3 : List ℕ} (v_3 : Figure rest_2 (key_of (text "gprs")) 1 128 gprs rest_3) where
            at_3 : rest_3 ≡ behind 3 s
            at_3 = row_next s 2 at_2 v_3.1

            up_3 : card_of s ≡ past_3 s gprs (card_with kind build gprs)
            up_3 =
                up_2
                ∙ goes_on 3 _ (λ x. past_3 s x (card_with kind build x)) (row_said s 2 at_2 (key_of (text "gprs")) (number_in gprs_allowed) v_3.0)

            wrong_4 : found (value_at 1 (key_of (text "temps")) rest_3) (number_in (from 0 to 4)) ≡ None → BadAt 4 ≡ card_of s
            wrong_4 h =
                sym (up_3 ∙ stops 4 _ _
                (alone_wrong (value_at 4 (key_of (text "temps")) s) (from 0 to 4) _ (row_said s 3 at_3 (key_of (text "temps")) (number_in (from 0 to 4)) h)))

            module _ {temps : ℕ} {rest_4 : List ℕ} (v_4 : Figure rest_3 (key_of (text "temps")) 0 4 temps rest_4) where
              at_4 : rest_4 ≡ behind 4 s
              at_4 = row_next s 3 at_3 v_4.1

              alone : found (value_at 4 (key_of (text "temps")) s) (number_in (from 0 to 4)) ≡ Some temps
              alone = row_said s 3 at_3 (key_of (text "temps")) (number_in (from 0 to 4)) v_4.0

              apart : leb (gprs + temps) 128 ≡ false → BadAt 4 ≡ card_of s
              apart f =
                  sym (up_3 ∙ stops 4 _ _
                  (together_wrong (value_at 4 (key_of (text "temps")) s) (from 0 to 4) (λ n. leb (gprs + n) 128) alone f))

              module _ (f : leb (gprs + temps) 128 ≡ true) where
                up_4 : card_of s ≡ past_4 s (card_with kind build gprs temps)
                up_4 =
                    up_3
                    ∙ goes_on 4 _ (λ x. past_4 s (card_with kind build gprs x))
                    (together_right (value_at 4 (key_of (text "temps")) s) (from 0 to 4) (λ n. leb (gprs + n) 128) alone f)

                wrong_5 : found (value_at 1 (key_of (text "consts")) rest_4) (number_in consts_allowed) ≡ None → BadAt 5 ≡ card_of s
                wrong_5 h = sym (up_4 ∙ stops 5 _ _ (row_said s 4 at_4 (key_of (text "consts")) (number_in consts_allowed) h))

                module _ {consts : ℕ} {rest_5 : List ℕ} (v_5 : Figure rest_4 (key_of (text "consts")) 0 256 consts rest_5) where
                  at_5 : rest_5 ≡ behind 5 s
                  at_5 = row_next s 4 at_4 v_5.1

                  up_5 : card_of s ≡ past_5 s (card_with kind build gprs temps consts)
                  up_5 =
                      up_4
                      ∙ goes_on 5 _ (λ x. past_5 s (card_with kind build gprs temps x)) (row_said s 4 at_4 (key_of (text "consts")) (number_in consts_allowed) v_5.0)

                  wrong_6 : found (value_at 1 (key_of (text "stack")) rest_5) (number_in stack_allowed) ≡ None → BadAt 6 ≡ card_of s
                  wrong_6 h = sym (up_5 ∙ stops 6 _ _ (row_said s 5 at_5 (key_of (text "stack")) (number_in stack_allowed) h))

                  module _ {stack : ℕ} {rest_6 : List ℕ} (v_6 : Figure rest_5 (key_of (text "stack")) 0 32 stack rest_6) where
                    at_6 : rest_6 ≡ behind 6 s
                    at_6 = row_next s 5 at_5 v_6.1

                    up_6 : card_of s ≡ past_6 s (card_with kind build gprs temps consts stack)
                    up_6 =
                        up_5
                        ∙ goes_on 6 _ (λ x. past_6 s (card_with kind build gprs temps consts x)) (row_said s 5 at_5 (key_of (text "stack")) (number_in stack_allowed) v_6.0)

                    wrong_7 : found (value_at 1 (key_of (text "quads")) rest_6) (number_in quads_allowed) ≡ None → BadAt 7 ≡ card_of s
                    wrong_7 h = sym (up_6 ∙ stops 7 _ _ (row_said s 6 at_6 (key_of (text "quads")) (number_in quads_allowed) h))

                    module _ {quads : ℕ} {rest_7 : List ℕ} (v_7 : Figure rest_6 (key_of (text "quads")) 1 8192 quads rest_7) where
                      at_7 : rest_7 ≡ behind 7 s
                      at_7 = row_next s 6 at_6 v_7.1

                      left : length rest_7 ≤ length s
                      left = omega (arith, ap length at_7, behind_less 7 s)

                      up_7 : card_of s ≡ past_7 s (card_with kind build gprs temps consts stack quads)
                      up_7 =
                          up_6
                          ∙ goes_on 7 _ (λ x. past_7 s (card_with kind build gprs temps consts stack x)) (row_said s 6 at_6 (key_of (text "quads")) (number_in quads_allowed) v_7.0)

                      whole : Whole (card_with kind build gprs temps consts stack quads) (length s - length rest_7) ≡ card_of s
                      unfolding lines_length
                      whole = ap (λ (r : List ℕ). Whole (card_with kind build gprs temps consts stack quads) (length s - length r)) at_7 ∙ sym up_7

pub returns-in_err-word : goal.returns-in_err-word
returns-in_err-word c =
    let p = err_from_is_err_and c.from_residual.result c.from_residual.ensures.1 in
    rw (p.1, p.2, c.in_err-word.ensures.1)
    (wrong_1 c.args.bytes.now c.in_err-word.ensures.0)

pub returns-in_err-kind : goal.returns-in_err-kind
returns-in_err-kind c =
    let p = err_from_is_err_and c.from_residual-in_err-kind.result c.from_residual-in_err-kind.ensures.1 in
    rw (p.1, p.2, refused_with c.of_word.result c.in_err-kind.ensures.ok_part c.in_err-kind.ensures.value)
    (no_kind c.args.bytes.now c.in_ok-word.ensures (sym c.in_err-kind.ensures.ok_part ∙ c.of_word.ensures))

pub returns-in_err-word-2 : goal.returns-in_err-word-2
returns-in_err-word-2 c =
    let p = err_from_is_err_and c.from_residual-in_err-word-2.result c.from_residual-in_err-word-2.ensures.1 in
    rw (p.1, p.2, c.in_err-word-2.ensures.1)
    (wrong_2 c.args.bytes.now c.in_ok-word.ensures (sym c.in_ok-kind.ensures.ok_part ∙ c.of_word.ensures) c.in_err-word-2.ensures.0)

pub returns-in_err-build : goal.returns-in_err-build
returns-in_err-build c =
    let p = err_from_is_err_and c.from_residual-in_err-build.result c.from_residual-in_err-build.ensures.1 in
    rw (p.1, p.2, refused_with c.of_word-2.result c.in_err-build.ensures.ok_part c.in_err-build.ensures.value)
    (no_build c.args.bytes.now c.in_ok-word.ensures (sym c.in_ok-kind.ensures.ok_part ∙ c.of_word.ensures) c.in_ok-word-2.ensures (sym c.in_err-build.ensures.ok_part ∙ c.of_word-2.ensures))

pub returns-in_err-gprs : goal.returns-in_err-gprs
returns-in_err-gprs c =
    let p = err_from_is_err_and c.from_residual-in_err-gprs.result c.from_residual-in_err-gprs.ensures.1 in
    rw (p.1, p.2, c.in_err-gprs.ensures.1)
    (wrong_3 c.args.bytes.now c.in_ok-word.ensures (sym c.in_ok-kind.ensures.ok_part ∙ c.of_word.ensures) c.in_ok-word-2.ensures (sym c.in_ok-build.ensures.ok_part ∙ c.of_word-2.ensures) c.in_err-gprs.ensures.0)

pub returns-in_err-temps : goal.returns-in_err-temps
returns-in_err-temps c =
    let p = err_from_is_err_and c.from_residual-in_err-temps.result c.from_residual-in_err-temps.ensures.1 in
    rw (p.1, p.2, c.in_err-temps.ensures.1)
    (wrong_4 c.args.bytes.now c.in_ok-word.ensures (sym c.in_ok-kind.ensures.ok_part ∙ c.of_word.ensures) c.in_ok-word-2.ensures (sym c.in_ok-build.ensures.ok_part ∙ c.of_word-2.ensures) c.in_ok-gprs.ensures c.in_err-temps.ensures.0)

pub returns-then-not-fit_together : goal.returns-then-not-fit_together
returns-then-not-fit_together c =
    apart c.args.bytes.now c.in_ok-word.ensures (sym c.in_ok-kind.ensures.ok_part ∙ c.of_word.ensures) c.in_ok-word-2.ensures (sym c.in_ok-build.ensures.ok_part ∙ c.of_word-2.ensures) c.in_ok-gprs.ensures c.in_ok-temps.ensures (sym c.fit_together.ensures ∙ c.if-not-fit_together.true)

pub returns-in_err-consts : goal.returns-in_err-consts
returns-in_err-consts c =
    let p = err_from_is_err_and c.from_residual-in_err-consts.result c.from_residual-in_err-consts.ensures.1 in
    rw (p.1, p.2, c.in_err-consts.ensures.1)
    (wrong_5 c.args.bytes.now c.in_ok-word.ensures (sym c.in_ok-kind.ensures.ok_part ∙ c.of_word.ensures) c.in_ok-word-2.ensures (sym c.in_ok-build.ensures.ok_part ∙ c.of_word-2.ensures) c.in_ok-gprs.ensures c.in_ok-temps.ensures (sym c.fit_together.ensures ∙ c.if-not-fit_together.false) c.in_err-consts.ensures.0)

pub returns-in_err-stack : goal.returns-in_err-stack
returns-in_err-stack c =
    let p = err_from_is_err_and c.from_residual-in_err-stack.result c.from_residual-in_err-stack.ensures.1 in
    rw (p.1, p.2, c.in_err-stack.ensures.1)
    (wrong_6 c.args.bytes.now c.in_ok-word.ensures (sym c.in_ok-kind.ensures.ok_part ∙ c.of_word.ensures) c.in_ok-word-2.ensures (sym c.in_ok-build.ensures.ok_part ∙ c.of_word-2.ensures) c.in_ok-gprs.ensures c.in_ok-temps.ensures (sym c.fit_together.ensures ∙ c.if-not-fit_together.false) c.in_ok-consts.ensures c.in_err-stack.ensures.0)

pub returns-in_err-quads : goal.returns-in_err-quads
returns-in_err-quads c =
    let p = err_from_is_err_and c.from_residual-in_err-quads.result c.from_residual-in_err-quads.ensures.1 in
    rw (p.1, p.2, c.in_err-quads.ensures.1)
    (wrong_7 c.args.bytes.now c.in_ok-word.ensures (sym c.in_ok-kind.ensures.ok_part ∙ c.of_word.ensures) c.in_ok-word-2.ensures (sym c.in_ok-build.ensures.ok_part ∙ c.of_word-2.ensures) c.in_ok-gprs.ensures c.in_ok-temps.ensures (sym c.fit_together.ensures ∙ c.if-not-fit_together.false) c.in_ok-consts.ensures c.in_ok-stack.ensures c.in_err-quads.ensures.0)

pub overflow_sub-result : goal.overflow_sub-result
overflow_sub-result c =
    left c.args.bytes.now c.in_ok-word.ensures (sym c.in_ok-kind.ensures.ok_part ∙ c.of_word.ensures) c.in_ok-word-2.ensures (sym c.in_ok-build.ensures.ok_part ∙ c.of_word-2.ensures) c.in_ok-gprs.ensures c.in_ok-temps.ensures (sym c.fit_together.ensures ∙ c.if-not-fit_together.false) c.in_ok-consts.ensures c.in_ok-stack.ensures c.in_ok-quads.ensures

pub returns : goal.returns
returns c =
    whole c.args.bytes.now c.in_ok-word.ensures (sym c.in_ok-kind.ensures.ok_part ∙ c.of_word.ensures) c.in_ok-word-2.ensures (sym c.in_ok-build.ensures.ok_part ∙ c.of_word-2.ensures) c.in_ok-gprs.ensures c.in_ok-temps.ensures (sym c.fit_together.ensures ∙ c.if-not-fit_together.false) c.in_ok-consts.ensures c.in_ok-stack.ensures c.in_ok-quads.ensures
