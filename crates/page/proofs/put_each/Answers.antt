use mathlib.Core.Path.{◌≡◌, refl, ap, sym, ◌∙◌}
use mathlib.Core.List.{List, foldl-append}
use Prim.Native.Nat.{ℕ, ◌<◌, ◌+◌}
use native.Mathlib.Numerals.{add-one}
use lib.ListN.{length, take, get_or, length-set}
use lib.Seq.{take-suc, take_all}
use Rattle.page.specs.Page.{Page, put, puts}
use Rattle.page.proofs.put_each.Goals as goal

one_more : (p : Page) (s : List ℕ) (i : ℕ) → i < length s → puts p (take (i + 1) s) ≡ put (puts p (take i s)) (get_or s i 0)
unfolding puts
one_more p s i h = rw (add-one, take-suc s i 0, foldl-append)

pub loop-b-init : goal.loop-b-init
unfolding puts
loop-b-init c = (refl, refl)

pub loop-b-preserved : goal.loop-b-preserved
loop-b-preserved c =
    let done = c.put_byte-p.ensures in
    let s = c.args.s.now in
    let i = c.loop-b.b-index in (
      ap (λ (q : Page). length q.bytes) done ∙ simp length-set c.loop-b.invariant.0,
      done ∙ ap (λ (q : Page). put q (get_or s i 0)) c.loop-b.invariant.1 ∙ sym (one_more _ s i c.loop-b-test.true),
    )

pub returns : goal.returns
returns c = c.loop-b.invariant.1 ∙ ap (puts _) (take_all _ _ c.loop-b-test.false)
