-- `run_each`: 22 with all numbers 0, or the numbers of every argument; the registers are zeroed last.
use mathlib.Core.Path.{sym, ap, ◌∙◌}
use Prim.Native.Nat.{◌*◌}
use lib.ListN.{length}
use borrow.Author.Tests.{eqb-true, not-true, not-false}
use Rattle.language.specs.Answers.{zeros}
use Rattle.ial.proofs.RunLaws.{all_zero}
use Rattle.ial.proofs.EachLaws.{each_short, each_done}
use Rattle.ial.proofs.many.run_each.Goals as goal

pub returns-then-not-four_each : goal.returns-then-not-four_each
returns-then-not-four_each c =
    rw c.refuse.ensures ((each_short c.args.t.now c.args.function c.args.args.now c.args.budget (length c.args.registers.now) (length c.args.out.now) (sym c.four_each.ensures ∙ not-true c.four_each.result c.if-not-four_each.true-raw) (all_zero _ c.start-then-not-four_each.ensures), all_zero _ c.start.ensures))

pub each-requires : goal.each-requires
each-requires c =
    eqb-true (length c.args.out.now) (4 * length c.args.args.now) (sym c.four_each.ensures ∙ not-false c.four_each.result c.if-not-four_each.false-raw)

pub returns : goal.returns
returns c =
    (each_done c.args.t.now c.args.function c.args.args.now c.args.budget (length c.args.registers.now) (length c.args.out.now) (sym c.four_each.ensures ∙ not-false c.four_each.result c.if-not-four_each.false-raw) c.each.ensures, all_zero _ c.start-2.ensures ∙ ap zeros c.each.auto.registers)
