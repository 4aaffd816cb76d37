-- `report::explanation::rule_word` meets its contract: each rule's word, or that it has none. Assumes nothing.
use Rattle.std.proofs.Common.{sym, ap, arith}
use Rattle.ascii.specs.Ascii.{ascii}
use Rattle.report.specs.Explanation.{rule_word}
use Rattle.report.proofs.OfRules.{without_word}
use Rattle.report.proofs.explanation.rule_word.Goals as goal

pub returns-in-1 : goal.returns-in-1
unfolding rule_word
returns-in-1 c = rw c.in-1.is

pub returns-in-2 : goal.returns-in-2
unfolding rule_word
returns-in-2 c = rw c.in-2.is

pub returns-in-3 : goal.returns-in-3
unfolding rule_word
returns-in-3 c = rw c.in-3.is

pub returns-in-4 : goal.returns-in-4
unfolding rule_word
returns-in-4 c = rw c.in-4.is

pub returns-in-5 : goal.returns-in-5
unfolding rule_word
returns-in-5 c = rw c.in-5.is

pub returns-in-6 : goal.returns-in-6
unfolding rule_word
returns-in-6 c = rw c.in-6.is

pub returns-in-7 : goal.returns-in-7
unfolding rule_word
returns-in-7 c = rw c.in-7.is

pub returns-in-8 : goal.returns-in-8
unfolding rule_word
returns-in-8 c = rw c.in-8.is

pub returns-in-9 : goal.returns-in-9
unfolding rule_word
returns-in-9 c = rw c.in-9.is

pub returns-in-10 : goal.returns-in-10
unfolding rule_word
returns-in-10 c = rw c.in-10.is

pub returns-in-11 : goal.returns-in-11
unfolding rule_word
returns-in-11 c = rw c.in-11.is

pub returns-in-12 : goal.returns-in-12
unfolding rule_word
returns-in-12 c = rw c.in-12.is

pub returns-in-13 : goal.returns-in-13
unfolding rule_word
returns-in-13 c = rw c.in-13.is

pub returns-in-14 : goal.returns-in-14
unfolding rule_word
returns-in-14 c = rw c.in-14.is

pub returns-in-15 : goal.returns-in-15
unfolding rule_word
returns-in-15 c = rw c.in-15.is

pub returns-in-16 : goal.returns-in-16
unfolding rule_word
returns-in-16 c = rw c.in-16.is

pub returns-in-17 : goal.returns-in-17
unfolding rule_word
returns-in-17 c = rw c.in-17.is

pub returns-in-18 : goal.returns-in-18
unfolding rule_word
returns-in-18 c = rw c.in-18.is

pub returns-in-19 : goal.returns-in-19
unfolding rule_word
returns-in-19 c = rw c.in-19.is

pub returns-in-22 : goal.returns-in-22
unfolding rule_word
returns-in-22 c = rw c.in-22.is

pub returns-in_default : goal.returns-in_default
returns-in_default c =
    sym (ap ascii (without_word c.args.rule
    (λ e. (omega arith), (λ e. (omega arith), (λ e. (omega arith), (λ e. (omega arith), (λ e. (omega arith), (λ e. (omega arith), (λ e. (omega arith), (λ e. (omega arith), (λ e. (omega arith), (λ e. (omega arith), (λ e. (omega arith), (λ e. (omega arith), (λ e. (omega arith), (λ e. (omega arith), (λ e. (omega arith), (λ e. (omega arith), (λ e. (omega arith), (λ e. (omega arith), (λ e. (omega arith), (λ e. (omega arith), tt))))))))))))))))))))))
