use Prim.Native.Nat.{◌+◌, ◌<◌}
use mathlib.Core.Path.{◌≡◌, refl, sym, ap, ◌∙◌}
use native.Mathlib.Nat.{add-zero}
use native.Mathlib.Omega.{arith}
use Rattle.language.specs.Table.{block_first, phi_first, phi_entry}
use Rattle.flow.specs.Layout.{phis_in}
use Rattle.translator.specs.Source.{built, edge_number}
use Rattle.translator.proofs.EdgesLaws.{bounds, built_length, entry_put}
use Rattle.translator.proofs.edges.copy_entries.Goals as goal

pub phis-p-requires : goal.phis-p-requires
phis-p-requires c = (c.requires.prepared.count, omega (arith, c.requires.translatable_at.sized.blocks, c.requires.edge.block))

pub block_first-first-requires : goal.block_first-first-requires
block_first-first-requires c = (c.requires.translatable_at.sized.within, omega (arith, c.requires.translatable_at.sized.blocks, c.requires.edge.block))

pub loop-i-init : goal.loop-i-init
loop-i-init c =
    let args = c.args in
    let t = args.t.now in
    let a = args.a in
    let m = args.m.now in
    let s = c.requires.edge in
    let p = c.phis-p.ensures.0 in
    let first = c.block_first-first.ensures.0 in
    let e = c.requires.out_value in (
      p,
      first,
      omega arith,
      refl,
      built_length t a c.requires.translatable_at m c.requires.prepared args.y args.j args.n args.k s 0 args.out.now (omega arith) (e ∙ ap (built t a (edge_number t a args.y args.j + 1)) (sym (add-zero args.k))),
      λ v l. bounds t a c.requires.translatable_at m c.requires.prepared args.y args.j args.n args.k s c.phis-p.result c.block_first-first.result v p first l,
      e ∙ ap (built t a (edge_number t a args.y args.j + 1)) (sym (add-zero args.k)),
    )

pub overflow_add-first : goal.overflow_add-first
overflow_add-first c = omega (arith, (c.loop-i.invariant.5 c.loop-i.i c.loop-i-test.true).row)

pub phi_first-requires : goal.phi_first-requires
phi_first-requires c = (c.requires.translatable_at.sized.within, (c.loop-i.invariant.5 c.loop-i.i c.loop-i-test.true).row)

pub overflow_add-phi_first : goal.overflow_add-phi_first
overflow_add-phi_first c =
    omega (arith, (c.loop-i.invariant.5 c.loop-i.i c.loop-i-test.true).entry, c.phi_first.ensures.0)

pub phi_entry-e-requires : goal.phi_entry-e-requires
phi_entry-e-requires c =
    (c.requires.translatable_at.sized.within, omega (arith, (c.loop-i.invariant.5 c.loop-i.i c.loop-i-test.true).entry, c.phi_first.ensures.0))

pub overflow_add-k : goal.overflow_add-k
overflow_add-k c = omega (arith, (c.loop-i.invariant.5 c.loop-i.i c.loop-i-test.true).into)

pub overflow_add-n : goal.overflow_add-n
overflow_add-n c = omega (arith, (c.loop-i.invariant.5 c.loop-i.i c.loop-i-test.true).new)

pub put_row-requires : goal.put_row-requires
put_row-requires c =
    let v = c.loop-i.invariant.5 c.loop-i.i c.loop-i-test.true in
    record { in_table = (omega (arith, c.loop-i.invariant.3, c.loop-i.invariant.4), v.into); target_bound = (v.new, c.phi_entry-e.ensures.1, omega arith) }

pub loop-i-preserved : goal.loop-i-preserved
loop-i-preserved c =
    let args = c.args in
    let t = args.t.now in
    let a = args.a in
    let v = c.loop-i.invariant in
    let few : c.loop-i.i < phis_in args.m.now args.y = omega (arith, v.0) in
    let at : phi_first t a (c.block_first-first.result + c.loop-i.i) ≡ phi_first t a (block_first t a args.y + c.loop-i.i) = ap (λ r. phi_first t a (r + c.loop-i.i)) v.1 in (
      v.0,
      v.1,
      omega arith,
      c.put_row.auto.t ∙ v.3,
      v.4,
      v.5,
      entry_put t a c.requires.translatable_at args.m.now c.requires.prepared args.y args.j args.n args.k c.requires.edge c.loop-i.i few c.phi_entry-e.result c.loop-i.out _ v.6
          (c.phi_entry-e.ensures.0 ∙ ap (λ r. phi_entry t a (r + args.j)) (c.phi_first.ensures.0 ∙ at)) c.put_row.ensures,
    )

pub shape_of-out : goal.shape_of-out
shape_of-out c = c.loop-i.invariant.3

pub returns : goal.returns
returns c =
    let args = c.args in
    let v = c.loop-i.invariant in
    let done : c.loop-i.i ≡ phis_in args.m.now args.y = omega (arith, v.0) in
    v.6 ∙ ap (λ i. built args.t.now args.a (edge_number args.t.now args.a args.y args.j + 1) (args.k + i)) done
