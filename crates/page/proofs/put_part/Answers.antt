-- `page::put_part`: where the bytes have room and stay within the longest text, putting them down one by one sets them all.
use mathlib.Core.Path.{sym, ◌∙◌, ap}
use mathlib.Core.List.{List}
use Prim.Native.Nat.{ℕ, ◌+◌, ◌≤◌}
use lib.ListN.{length}
use native.Mathlib.Omega.{arith}
use Rattle.page.specs.Page.{page}
use Rattle.page.proofs.Pages.{puts_within}
use Rattle.page.proofs.put_part.Goals as goal

pub overflow_add-at : goal.overflow_add-at
overflow_add-at c = omega arith

pub overflow_add-result : goal.overflow_add-result
overflow_add-result c = omega arith

pub returns : goal.returns
returns c =
    let a = c.args in
    let within : a.at + length a.s.now ≤ 65537 = omega arith in
    ap (λ (l : List ℕ). page l (a.at + length a.s.now)) c.put_bytes.ensures ∙ sym (puts_within a.out.now a.at a.s.now within)
