use mathlib.Core.Path.{◌≡◌, sym, ap, ◌∙◌}
use mathlib.Core.List.{◌++◌}
use Prim.Native.Nat.{ℕ, ◌+◌, ◌-◌, ◌≤◌, ◌<◌}
use native.Mathlib.Omega.{arith}
use lib.ListN.{length}
use Rattle.laws.specs.Lists.{gather, from}
use Rattle.laws.proofs.ByNumber.{gather_from_more}
use Rattle.language.specs.Programs.{Func}
use Rattle.language.specs.MadeNames.{named_function}
use Rattle.language.specs.Table.{function_params, register_count, decode_function}
use Rattle.page.specs.Page.{Page, puts}
use Rattle.page.proofs.Pages.{puts_length}
use Rattle.token_text.proofs.Spelled.{puts_then}
use Rattle.head_text.specs.Heads.{register_bytes}
use Rattle.head_text.proofs.put_registers.Invariants.{up_to}
use Rattle.head_text.proofs.put_registers.Goals as goal

one_more : (f : Func) (k r : ℕ) → k ≤ r → up_to f k (r + 1) ≡ up_to f k r ++ register_bytes f r
one_more f k r h =
    let count : r + 1 - k ≡ r - k + 1 = omega arith in
    let here : k + (r - k) ≡ r = omega arith in
    ap (λ (n : ℕ). gather (register_bytes f) (from k n)) count ∙ gather_from_more (register_bytes f) k (r - k) ∙ ap (λ (n : ℕ). up_to f k r ++ register_bytes f n) here

pub loop-r-init : goal.loop-r-init
unfolding puts
loop-r-init c =
    let params = c.function_params-first.ensures.0 in
    let t = c.args.t.now in
    let a = c.args.a in
    let none : 0 ≡ c.function_params-first.result - function_params t a = omega (arith, params) in (
      omega (arith, params),
      omega (arith, params, c.register_count-n.ensures.0, c.requires.0.params),
      ap (puts _) (ap (λ (n : ℕ). gather (register_bytes (named_function (decode_function t a))) (from (function_params t a) n)) none),
    )

pub put_declaration-p-requires : goal.put_declaration-p-requires
put_declaration-p-requires c =
    let few : c.loop-r.r < register_count c.args.t.now c.args.a = omega (arith, c.loop-r-test.true, c.register_count-n.ensures.0) in
    (c.requires.0, c.requires.1, c.requires.2, few)

pub loop-r-preserved : goal.loop-r-preserved
loop-r-preserved c =
    let t = c.args.t.now in
    let a = c.args.a in (
      omega arith,
      omega arith,
      puts_then _ _ _ c.loop-r.invariant.2 c.put_declaration-p.ensures
          ∙ ap (puts _) (sym (one_more (named_function (decode_function t a)) (function_params t a) c.loop-r.r c.loop-r.invariant.0)),
    )

pub shape_of-out : goal.shape_of-out
shape_of-out c = ap (λ (q : Page). length q.bytes) c.loop-r.invariant.2 ∙ puts_length _ _

pub returns : goal.returns
returns c =
    let t = c.args.t.now in
    let a = c.args.a in
    let done : c.loop-r.r ≡ register_count t a = omega (arith, c.loop-r.invariant.1, c.loop-r-test.false, c.register_count-n.ensures.0) in
    c.loop-r.invariant.2 ∙ ap (puts _) (ap (up_to (named_function (decode_function t a)) (function_params t a)) done)
