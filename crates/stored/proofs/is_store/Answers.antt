-- `is_store`: the length, the order, and the bytes again.
use mathlib.Core.Path.{sym, subst, ◌∙◌}
use native.Mathlib.Omega.{arith}
use borrow.Author.Tests.{not-true, not-false}
use Rattle.records.proofs.Cells.{held_length, empty_zeros}
use Rattle.language.proofs.TableLaws.{zeros_made}
use Rattle.stored.specs.Known.{AllFollow}
use Rattle.stored.proofs.LibLaws.{told_not, holds_follow, again_is, known}
use Rattle.records.specs.Stores.{store_length}
use Rattle.stored.proofs.is_store.Goals as goal

pub returns-then-s-ne-STORE_LENGTH : goal.returns-then-s-ne-STORE_LENGTH
returns-then-s-ne-STORE_LENGTH c = told_not (λ k. c.if-s-ne-STORE_LENGTH.true (held_length k.1))

pub returns-then-not-all_follow : goal.returns-then-not-all_follow
returns-then-not-all_follow c =
    let s = c.args.s.now in
    told_not (λ k. c.all_follow.ensures.no (not-true _ c.if-not-all_follow.true-raw) (subst (AllFollow s) (sym c.count.ensures.0) (holds_follow k.1)))

pub returns : goal.returns
returns c =
    let s = c.args.s.now in
    known s c.count.ensures.0 c.count.ensures.1 (not-false _ c.if-not-all_follow.false-raw) c.all_follow.ensures
    (again_is s _ _ c.join.result (zeros_made store_length ∙ empty_zeros) (omega (arith, c.count.ensures.0, c.count.ensures.1)) c.join.ensures) c.same.ensures
