use mathlib.Core.Path.{◌≡◌, refl, sym, ap, ◌∙◌}
use Prim.Native.Nat.{ℕ, ◌<◌}
use native.Mathlib.Omega.{arith}
use lib.ListN.{length}
use Rattle.laws.specs.Lists.{gather, below}
use Rattle.laws.proofs.ByNumber.{gather_below_more}
use Rattle.language.specs.Table.{function_count}
use Rattle.page.specs.Page.{Page, puts}
use Rattle.page.proofs.Pages.{puts_length}
use Rattle.token_text.proofs.Spelled.{puts_then}
use Rattle.table_text.proofs.Accepted.{few, clean_each}
use Rattle.table_text.proofs.Parts.{function_text, table_parts}
use Rattle.table_text.proofs.put_table.Goals as goal

pub function_count-n-requires : goal.function_count-n-requires
function_count-n-requires c = omega arith

pub loop-i-init : goal.loop-i-init
unfolding puts
loop-i-init c = (omega arith, refl)

pub function_at-requires : goal.function_at-requires
function_at-requires c =
    omega (arith, c.loop-i-test.true, few c.args.t.now c.requires.0 c.requires.1 c.function_count-n.ensures.0)

pub put_function-p-requires : goal.put_function-p-requires
put_function-p-requires c =
    let t = c.args.t.now in
    let among : c.loop-i.i < function_count t = omega (arith, c.loop-i-test.true, c.function_count-n.ensures.0) in
    rw c.function_at.ensures (clean_each t c.requires.0 c.requires.1 c.loop-i.i among)

pub loop-i-preserved : goal.loop-i-preserved
loop-i-preserved c =
    let text = rw c.function_at.ensures at c.put_function-p.ensures in (
      omega arith,
      puts_then _ _ _ c.loop-i.invariant.1 text ∙ ap (puts _) (sym (gather_below_more (function_text c.args.t.now) c.loop-i.i)),
    )

pub shape_of-out : goal.shape_of-out
shape_of-out c = ap (λ (q : Page). length q.bytes) c.loop-i.invariant.1 ∙ puts_length _ _

pub returns : goal.returns
returns c =
    let t = c.args.t.now in
    let done : c.loop-i.i ≡ function_count t = omega (arith, c.loop-i.invariant.0, c.loop-i-test.false, c.function_count-n.ensures.0) in
    c.loop-i.invariant.1 ∙ ap (puts _) (ap (λ (n : ℕ). gather (function_text t) (below n)) done ∙ sym (table_parts t))
