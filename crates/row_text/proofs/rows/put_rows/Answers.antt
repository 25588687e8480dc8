use mathlib.Core.List.{List}
use mathlib.Core.Path.{◌≡◌, ap, ◌∙◌}
use Prim.Native.Nat.{ℕ, ◌+◌}
use native.Mathlib.Omega.{arith}
use lib.ListN.{length}
use Rattle.laws.specs.Lists.{from, gather}
use Rattle.language.specs.Table.{decode_row}
use Rattle.language.specs.Writing.{line_bytes, row_line}
use Rattle.page.specs.Page.{Page, puts}
use Rattle.page.proofs.Pages.{puts_length}
use Rattle.token_text.proofs.Spelled.{puts_none, puts_then}
use Rattle.row_text.specs.Ready.{titled}
use Rattle.row_text.proofs.Parts.{lines_more}
use Rattle.row_text.proofs.rows.put_rows.Goals as goal

pub loop-i-init : goal.loop-i-init
loop-i-init c = (omega arith, puts_none _)

pub overflow_add-first : goal.overflow_add-first
overflow_add-first c =
    omega (arith, c.requires.0.sized.rows, c.requires.1, c.loop-i-test.true)

pub put_row-e-requires : goal.put_row-e-requires
put_row-e-requires c =
    (c.requires.0, omega (arith, c.requires.1, c.loop-i-test.true))

pub loop-i-preserved : goal.loop-i-preserved
loop-i-preserved c =
    let x = c.args in
    let inv = c.loop-i.invariant in
    let i = c.loop-i.i in
    let l = c.loop-i-test.true in
    let line : ℕ → List ℕ = λ r. line_bytes (row_line (titled x.t.now x.a) (decode_row x.t.now x.a r)) in (
      omega arith,
      puts_then _ (gather line (from x.first i)) (line (x.first + i)) inv.1 c.put_row-e.ensures ∙ ap (puts _) (lines_more line x.first i),
    )

pub shape_of-out : goal.shape_of-out
shape_of-out c = ap (λ (q : Page). length q.bytes) c.loop-i.invariant.1 ∙ puts_length _ _

pub returns : goal.returns
returns c =
    let x = c.args in
    let inv = c.loop-i.invariant in
    let i = c.loop-i.i in
    let l = c.loop-i-test.false in
    let e : i ≡ x.count = omega arith in
    inv.1 ∙ ap (puts _) (ap (λ (n : ℕ). gather (λ r. line_bytes (row_line (titled x.t.now x.a) (decode_row x.t.now x.a r))) (from x.first n)) e)
