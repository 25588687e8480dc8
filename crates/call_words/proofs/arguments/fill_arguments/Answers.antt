use mathlib.Core.Path.{◌≡◌, refl, sym, ◌∙◌}
use Prim.Native.Nat.{◌<◌}
use native.Mathlib.Omega.{arith}
use lib.ListN.{length-set}
use Rattle.language.specs.Table.{decode_function}
use Rattle.call_words.specs.Arguments.{given_of}
use Rattle.call_words.proofs.ArgumentLaws.{kept_is, upheld_none, upheld_more, outside_found, outside_none, all_held}
use Rattle.call_words.proofs.arguments.fill_arguments.Goals as goal

pub loop-i-init : goal.loop-i-init
loop-i-init c = (refl, upheld_none _ _ _)

pub returns-in_default : goal.returns-in_default
returns-in_default c =
    let g = given_of c.args.n c.args.kept.now in
    let below : c.loop-i.i < c.args.n = c.loop-i-test.true in
    let here =
    kept_is c.args.t.now c.args.a g c.loop-i.i (omega (arith, c.requires.in_table.1)) (omega (arith, c.requires.kept_len.0, c.requires.in_table.2)) c.register_type.ensures c.bits_from.ensures
    c.in_default.is in
    record { outside = (outside_found (decode_function c.args.t.now c.args.a) g c.loop-i.out c.loop-i.i below here c.loop-i.invariant.1, below); inside = tt; out_after = tt }

pub loop-i-preserved : goal.loop-i-preserved
loop-i-preserved c =
    let g = given_of c.args.n c.args.kept.now in
    let here =
    kept_is c.args.t.now c.args.a g c.loop-i.i (omega (arith, c.requires.in_table.1)) (omega (arith, c.requires.kept_len.0, c.requires.in_table.2)) c.register_type.ensures
    c.bits_from.ensures c.in-Some.is in (
      simp length-set c.loop-i.invariant.0,
      upheld_more (decode_function c.args.t.now c.args.a) g c.loop-i.out c.loop-i.i _ (omega (arith, c.requires.kept_len.1, c.loop-i.invariant.0, c.requires.in_table.2)) here c.loop-i.invariant.1,
    )

pub returns : goal.returns
returns c =
    let g = given_of c.args.n c.args.kept.now in
    let f = decode_function c.args.t.now c.args.a in
    let done : c.loop-i.i ≡ c.args.n = omega arith in
    record { outside = tt; inside = sym done ∙ outside_none f g c.loop-i.out c.loop-i.i done c.loop-i.invariant.1; out_after = all_held f g c.loop-i.out c.loop-i.i done (omega (arith, c.requires.kept_len.1, c.loop-i.invariant.0, c.requires.in_table.2)) c.loop-i.invariant.1 }
