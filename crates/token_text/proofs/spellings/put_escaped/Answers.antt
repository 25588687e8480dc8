use mathlib.Core.Path.{ap, ◌∙◌}
use native.Mathlib.Omega.{arith}
use lib.ListN.{length, length-take}
use Rattle.page.specs.Page.{Page, puts}
use Rattle.page.proofs.Pages.{puts_length}
use Rattle.token_text.proofs.Spelled.{puts_then, puts_none}
use Rattle.token_text.proofs.Escaping.{runs_none, escaped_run, escaped_all}
use Rattle.token_text.proofs.spellings.put_escaped.Goals as goal

pub next_quote-i-requires : goal.next_quote-i-requires
next_quote-i-requires c = omega arith

pub slice_bounds-put_part-end : goal.slice_bounds-put_part-end
slice_bounds-put_part-end c = simp length-take (omega (arith, c.next_quote-i.ensures.within))

pub loop-i-init : goal.loop-i-init
loop-i-init c =
    let first = c.next_quote-i.ensures in
    (omega arith, first.within, first.ends, puts_none _ ∙ ap (puts _) (runs_none c.args.name.now c.next_quote-i.result))

pub overflow_add-i : goal.overflow_add-i
overflow_add-i c = omega arith

pub next_quote-q-requires : goal.next_quote-q-requires
next_quote-q-requires c = omega arith

pub slice_bounds-put_part-count : goal.slice_bounds-put_part-count
slice_bounds-put_part-count c = omega (arith, c.next_quote-q.ensures.on)

pub slice_bounds-put_part-start : goal.slice_bounds-put_part-start
slice_bounds-put_part-start c = omega (arith, c.next_quote-q.ensures.on, c.next_quote-q.ensures.within)

pub slice_bounds-put_part-end-in-loop-i-2 : goal.slice_bounds-put_part-end-in-loop-i-2
slice_bounds-put_part-end-in-loop-i-2 c = omega (arith, c.next_quote-q.ensures.on, c.next_quote-q.ensures.within)

pub loop-i-smaller : goal.loop-i-smaller
loop-i-smaller c = omega (arith, c.next_quote-q.ensures.on, c.next_quote-q.ensures.within)

pub loop-i-preserved : goal.loop-i-preserved
loop-i-preserved c =
    let more = c.loop-i-test.true in
    let next = c.next_quote-q.ensures in (
      omega (arith, c.loop-i.invariant.0, next.on),
      next.within,
      next.ends,
      puts_then _ _ _ (puts_then _ _ _ c.loop-i.invariant.3 c.put_part-f.ensures) c.put_part-e-in-loop-i.ensures
          ∙ ap (puts _) (escaped_run c.args.name.now c.next_quote-i.result c.loop-i.i c.next_quote-q.result c.loop-i.invariant.0 more (c.loop-i.invariant.2 more) next),
    )

pub shape_of-out : goal.shape_of-out
shape_of-out c =
    ap (λ (q : Page). length q.bytes) c.loop-i.invariant.3 ∙ puts_length _ _ ∙ ap (λ (q : Page). length q.bytes) c.put_part-e.ensures ∙ puts_length _ _

pub returns : goal.returns
returns c =
    puts_then _ _ _ c.put_part-e.ensures c.loop-i.invariant.3
    ∙ ap (puts _) (escaped_all c.args.name.now c.next_quote-i.result c.loop-i.i c.next_quote-i.ensures c.loop-i.invariant.0 (omega arith))
