use Prim.Native.Nat.{◌+◌}
use Rattle.checker.specs.Lows.{low_of}
use mathlib.Core.Path.{refl, sym, ap, ◌∙◌}
use native.Mathlib.Omega.{arith}
use Rattle.language.specs.Table.{decode_function}
use Rattle.checker.proofs.FormsLaws.{upto_none, upto_quiet, upto_noted, in_none, in_all, here, form_fault_below}
use Rattle.language.specs.Checking.{spot_at}
use Rattle.checker.proofs.forms.note_block.Goals as goal

pub block_first-first-requires : goal.block_first-first-requires
block_first-first-requires c = (c.requires.rows_ranged.sized.within, omega (arith, c.requires.rows_ranged.sized.blocks))

pub block_rows-rows-requires : goal.block_rows-rows-requires
block_rows-rows-requires c = (c.requires.rows_ranged.sized.within, omega (arith, c.requires.rows_ranged.sized.blocks))

pub noted-requires : goal.noted-requires
noted-requires c =
    let at = here c.requires.rows_ranged.sized c.requires.b_bound.0 c.block_first-first.ensures.0 c.block_rows-rows.ensures.0 in
    (omega arith, omega arith, c.requires.b_bound.1)

pub returns-then-rows-eq0 : goal.returns-then-rows-eq0
returns-then-rows-eq0 c =
    let at = here c.requires.rows_ranged.sized c.requires.b_bound.0 c.block_first-first.ensures.0 c.block_rows-rows.ensures.0 in
    (in_none (decode_function c.args.t.now c.args.a) c.args.b (low_of c.args.low) (sym at.count ∙ c.if-rows-eq0.true) at.place c.noted.ensures.0, c.noted.ensures.1)

pub loop-j-init : goal.loop-j-init
loop-j-init c =
    (omega arith, upto_none (decode_function c.args.t.now c.args.a) c.args.b (low_of c.args.low), c.requires.b_bound.1)

pub overflow_add-first : goal.overflow_add-first
overflow_add-first c = let at = here c.requires.rows_ranged.sized c.requires.b_bound.0 c.block_first-first.ensures.0 c.block_rows-rows.ensures.0 in omega arith

pub form_fault-requires : goal.form_fault-requires
form_fault-requires c =
    let at = here c.requires.rows_ranged.sized c.requires.b_bound.0 c.block_first-first.ensures.0 c.block_rows-rows.ensures.0 in
    let j = c.loop-j.j in (
      record {
        sized = c.requires.rows_ranged.sized;
        prepared = c.requires.rows_ranged.prepared;
        block = c.requires.b_bound.0;
        index = omega arith;
        row = ap (λ n. n + j) c.block_first-first.ensures.0;
      },
      c.requires.rows_ranged.ranges (c.block_first-first.result + j) (omega arith),
    )

pub loop-j-preserved-in_default : goal.loop-j-preserved-in_default
loop-j-preserved-in_default c =
    let at = here c.requires.rows_ranged.sized c.requires.b_bound.0 c.block_first-first.ensures.0 c.block_rows-rows.ensures.0 in (
      omega arith,
      upto_quiet (decode_function c.args.t.now c.args.a) c.args.b (low_of c.args.low) (omega arith) c.loop-j.invariant.1 c.in_default.ensures refl,
      c.loop-j.invariant.2,
    )

pub overflow_add-first-in-loop-j : goal.overflow_add-first-in-loop-j
overflow_add-first-in-loop-j c = let at = here c.requires.rows_ranged.sized c.requires.b_bound.0 c.block_first-first.ensures.0 c.block_rows-rows.ensures.0 in omega arith

pub noted-x-requires : goal.noted-x-requires
noted-x-requires c =
    let at = here c.requires.rows_ranged.sized c.requires.b_bound.0 c.block_first-first.ensures.0 c.block_rows-rows.ensures.0 in
    (omega (arith, c.in-Some.ensures, form_fault_below (decode_function c.args.t.now c.args.a) (spot_at (decode_function c.args.t.now c.args.a) c.args.b c.loop-j.j)), omega arith, c.loop-j.invariant.2)

pub loop-j-preserved : goal.loop-j-preserved
loop-j-preserved c =
    let at = here c.requires.rows_ranged.sized c.requires.b_bound.0 c.block_first-first.ensures.0 c.block_rows-rows.ensures.0 in (
      omega arith,
      upto_noted (decode_function c.args.t.now c.args.a) c.args.b (low_of c.args.low) (omega arith) c.loop-j.invariant.1 c.in-Some.ensures
          (ap (λ n. n + c.loop-j.j) at.place)
          c.noted-x.ensures.0,
      c.noted-x.ensures.1,
    )

pub returns : goal.returns
returns c =
    let at = here c.requires.rows_ranged.sized c.requires.b_bound.0 c.block_first-first.ensures.0 c.block_rows-rows.ensures.0 in (
      in_all (decode_function c.args.t.now c.args.a) c.args.b (low_of c.args.low) c.loop-j.invariant.1 (omega arith) (λ e. c.if-rows-eq0.false (at.count ∙ e)),
      c.loop-j.invariant.2,
    )
