use mathlib.Core.List.{List, [], ◌∷◌}
use mathlib.Core.Path.{◌≡◌, ap, ◌∙◌}
use Prim.Native.Nat.{ℕ, ◌+◌}
use native.Mathlib.Omega.{arith}
use lib.ListN.{length}
use Rattle.laws.specs.Lists.{from, gather}
use Rattle.language.specs.Bytes.{comma}
use Rattle.language.specs.Table.{phi_entry}
use Rattle.language.specs.Tokens.{Token}
use Rattle.language.specs.Writing.{register_token}
use Rattle.page.specs.Page.{Page, puts}
use Rattle.page.proofs.Pages.{puts_length}
use Rattle.token_text.specs.Spaced.{spaced}
use Rattle.token_text.proofs.Spelled.{puts_none, spaced_then}
use Rattle.row_text.specs.Ready.{titled}
use Rattle.row_text.proofs.Parts.{lines_more}
use Rattle.row_text.proofs.operands.put_later_entries.Goals as goal

pub loop-i-init : goal.loop-i-init
loop-i-init c = (omega arith, puts_none _)

pub overflow_add-first : goal.overflow_add-first
overflow_add-first c = omega (arith, c.requires.1.within, c.loop-i-test.true)

pub put_entry-e-requires : goal.put_entry-e-requires
put_entry-e-requires c =
    let i = c.loop-i.i in
    let l = c.loop-i-test.true in
    (c.requires.0, omega (arith, c.requires.1.within), c.requires.1.registers i l)

pub loop-i-preserved : goal.loop-i-preserved
loop-i-preserved c =
    let x = c.args in
    let inv = c.loop-i.invariant in
    let i = c.loop-i.i in
    let l = c.loop-i-test.true in
    let entry : ℕ → List Token = λ k. Token.mark comma ∷ register_token (titled x.t.now x.a) (phi_entry x.t.now x.a k) ∷ [] in (
      omega arith,
      spaced_then _ (gather entry (from x.first i)) (entry (x.first + i)) inv.1 c.put_entry-e.ensures ∙ ap (puts _) (ap spaced (lines_more entry x.first i)),
    )

pub shape_of-out : goal.shape_of-out
shape_of-out c = ap (λ (q : Page). length q.bytes) c.loop-i.invariant.1 ∙ puts_length _ _

pub returns : goal.returns
returns c =
    let x = c.args in
    let inv = c.loop-i.invariant in
    let i = c.loop-i.i in
    let l = c.loop-i-test.false in
    let e : i ≡ x.count = omega arith in
    let entry : ℕ → List Token = λ k. Token.mark comma ∷ register_token (titled x.t.now x.a) (phi_entry x.t.now x.a k) ∷ [] in
    inv.1 ∙ ap (puts _) (ap (λ (n : ℕ). spaced (gather entry (from x.first n))) e)
