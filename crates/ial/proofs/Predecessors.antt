-- Lists in the tables of calls: an output is the definition's, and the definition's lists are right.
-- Assumes nothing.
use mathlib.Core.Path.{sym, ap, subst}
use Rattle.language.specs.Answers.{Filled}
use Rattle.theorems.specs.Predecessors.{ListsRight}
use Rattle.theorems.proofs.AcceptanceCheck.{accepted_program}
use Rattle.theorems.proofs.Predecessors.{lists_in_read, lists_in_translation, accepted_lists_right}
use Rattle.ial.specs.Predecessors.{ListsOfCalls, ListsOfSymbols}
use Rattle.ial.proofs.Demand.{symbol_checked}

pub lists_of_calls : ListsOfCalls
lists_of_calls =
    record {
      read = λ text n r out b e. subst ListsRight (sym (ap (λ (x : Filled). x.table) e)) (lists_in_read text n b);
      check = λ t e. accepted_lists_right t (accepted_program t (sym e));
      translate = λ t i n r out e. subst ListsRight (sym (ap (λ (x : Filled). x.table) e)) (lists_in_translation t i n);
    }

pub lists_of_symbols : ListsOfSymbols
lists_of_symbols =
    record {
      read = λ text n r out b e. subst ListsRight (sym e.1) (lists_in_read text n b);
      check = λ t r e z. accepted_lists_right t (accepted_program t (symbol_checked t r e z));
      translate = λ t i n r out e. subst ListsRight (sym e.1) (lists_in_translation t i n);
    }
