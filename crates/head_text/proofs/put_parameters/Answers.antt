use mathlib.Core.Path.{◌≡◌, refl, sym, ap, ◌∙◌}
use Prim.Native.Nat.{ℕ, ◌≤◌, ◌<◌}
use native.Mathlib.Omega.{arith}
use borrow.Author.Rules.{rules}
use lib.ListN.{length}
use Rattle.laws.specs.Lists.{gather, below}
use Rattle.laws.proofs.ByNumber.{gather_below_more}
use Rattle.language.specs.MadeNames.{named_function}
use Rattle.language.specs.Table.{function_params, register_count, decode_function}
use Rattle.language.proofs.TableView.{register_count_law}
use Rattle.naming.proofs.Filled.{filled_registers}
use Rattle.page.specs.Page.{Page, puts}
use Rattle.page.proofs.Pages.{puts_length}
use Rattle.token_text.proofs.Spelled.{puts_then}
use Rattle.head_text.specs.Heads.{parameter_bytes}
use Rattle.head_text.proofs.LibLaws.{parameters_are}
use Rattle.head_text.proofs.put_parameters.Goals as goal

pub loop-r-init : goal.loop-r-init
unfolding puts
loop-r-init c = (omega arith, refl)

pub put_parameter-p-requires : goal.put_parameter-p-requires
put_parameter-p-requires c =
    let r = c.loop-r.r in
    let few : r < register_count c.args.t.now c.args.a = omega (arith, c.loop-r-test.true, c.function_params-n.ensures.0, c.requires.0.params) in
    (c.requires.0, c.requires.1, c.requires.2, few)

pub loop-r-preserved : goal.loop-r-preserved
loop-r-preserved c =
    let g = named_function (decode_function c.args.t.now c.args.a) in (
      search rules,
      puts_then _ _ _ c.loop-r.invariant.1 c.put_parameter-p.ensures ∙ ap (puts _) (sym (gather_below_more (parameter_bytes g) c.loop-r.r)),
    )

pub shape_of-out : goal.shape_of-out
shape_of-out c = ap (λ (q : Page). length q.bytes) c.loop-r.invariant.1 ∙ puts_length _ _

pub returns : goal.returns
returns c =
    let t = c.args.t.now in
    let a = c.args.a in
    let g = named_function (decode_function t a) in
    let done : c.loop-r.r ≡ function_params t a = omega (arith, c.loop-r.invariant.0, c.loop-r-test.false, c.function_params-n.ensures.0) in
    let few : function_params t a ≤ length g.registers = omega (arith, c.requires.0.params, filled_registers (decode_function t a), register_count_law t a) in
    c.loop-r.invariant.1 ∙ ap (puts _) (ap (λ (n : ℕ). gather (parameter_bytes g) (below n)) done ∙ sym (parameters_are g (function_params t a) few))
