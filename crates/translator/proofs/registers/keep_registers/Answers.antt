use Prim.Native.Nat.{◌<◌}
use mathlib.Core.Path.{◌≡◌, refl, ap, ◌∙◌}
use native.Mathlib.Numerals.{add-one}
use native.Mathlib.Omega.{arith}
use lib.ListN.{length}
use Rattle.language.specs.Table.{register_count}
use Rattle.translator.specs.Source.{declared}
use Rattle.translator.proofs.RegistersLaws.{length_declared, kept_short, one_kept}
use Rattle.translator.proofs.registers.keep_registers.Goals as goal

pub register_count-n-requires : goal.register_count-n-requires
register_count-n-requires c = c.requires.translatable_at.sized.within

pub loop-r-init : goal.loop-r-init
loop-r-init c =
    let none = c.requires.out_value in
    (c.register_count-n.ensures.0, omega arith, refl, ap length none ∙ length_declared c.args.t.now c.args.a c.requires.translatable_at 0 (omega arith), none)

pub register_type-requires : goal.register_type-requires
register_type-requires c = (c.requires.translatable_at.sized.within, omega (arith, c.requires.translatable_at.sized.registers))

pub register_name-requires : goal.register_name-requires
register_name-requires c = (c.requires.translatable_at.sized.within, omega (arith, c.requires.translatable_at.sized.registers))

pub put_register-requires : goal.put_register-requires
put_register-requires c =
    let known : c.loop-r.r < register_count c.args.t.now c.args.a = omega arith in
    (omega arith, omega (arith, c.requires.translatable_at.sized.registers), rw c.register_name.ensures (kept_short c.args.t.now c.args.a c.requires.translatable_at c.loop-r.r known))

pub loop-r-preserved : goal.loop-r-preserved
loop-r-preserved c =
    let known : c.loop-r.r < register_count c.args.t.now c.args.a = omega arith in
    let same = c.put_register.auto.t in (
      c.loop-r.invariant.0,
      omega arith,
      omega arith,
      c.loop-r.invariant.3,
      rw (add-one c.loop-r.r)
          (one_kept c.args.t.now c.args.a c.requires.translatable_at c.loop-r.r c.register_type.result c.loop-r.out c.register_name.result.now
          c.put_register.new.t known c.loop-r.invariant.4 c.register_type.ensures c.register_name.ensures c.put_register.ensures),
    )

pub shape_of-out : goal.shape_of-out
shape_of-out c = c.loop-r.invariant.2

pub returns : goal.returns
returns c =
    let args = c.args in
    let done : c.loop-r.r ≡ register_count args.t.now args.a = omega arith in
    c.loop-r.invariant.4 ∙ ap (declared args.t.now args.a) done
