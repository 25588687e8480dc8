use Prim.Native.Nat.{◌+◌, ◌<◌}
use mathlib.Core.Path.{◌≡◌, refl, sym, ap, ◌∙◌}
use native.Mathlib.Omega.{arith}
use Rattle.language.specs.Programs.{first_row}
use Rattle.language.specs.Table.{block_count, decode_function}
use Rattle.language.specs.Translating.{pairs_before}
use Rattle.translator.specs.Source.{translated, built}
use Rattle.translator.proofs.RegistersLaws.{new_first}
use Rattle.translator.proofs.EdgesLaws.{edges_first, edges_next, edges_few, edges_all, registers_next, registers_few}
use Rattle.translator.proofs.edges.put_all_edges.Goals as goal

pub block_count-blocks-requires : goal.block_count-blocks-requires
block_count-blocks-requires c = c.requires.translatable_at.sized.within

pub register_count-n-requires : goal.register_count-n-requires
register_count-n-requires c = c.requires.translatable_at.sized.within

pub loop-y-init : goal.loop-y-init
loop-y-init c =
    let args = c.args in
    let t = args.t.now in
    let a = args.a in
    let n = c.block_count-blocks.ensures.0 in (
      n,
      omega arith,
      c.register_count-n.ensures.0 ∙ sym (new_first t a c.requires.translatable_at),
      n ∙ edges_first t a c.requires.translatable_at args.m.now c.requires.prepared,
      c.requires.k_value.0 ∙ ap (first_row (translated t a)) (sym n),
      refl,
      c.requires.k_value.1 ∙ ap (λ b. built t a b args.k) (sym n),
    )

pub put_edges-r-requires : goal.put_edges-r-requires
put_edges-r-requires c =
    let v = c.loop-y.invariant in
    record { translatable_at = c.requires.translatable_at; prepared = c.requires.prepared; y_bound = (omega arith, v.2, v.3); k_value = (v.4, v.6) }

pub phis-n-requires : goal.phis-n-requires
phis-n-requires c =
    (c.requires.prepared.count, omega (arith, c.requires.translatable_at.sized.blocks))

pub overflow_add-n : goal.overflow_add-n
overflow_add-n c =
    let args = c.args in
    let known : c.loop-y.y < block_count args.t.now args.a = omega arith in
    omega (arith, registers_few args.t.now args.a c.requires.translatable_at args.m.now c.requires.prepared c.loop-y.y known c.loop-y.n c.phis-n.result c.loop-y.invariant.2 c.phis-n.ensures.0)

pub pairs-b-requires : goal.pairs-b-requires
pairs-b-requires c =
    (c.requires.translatable_at.sized.within, c.requires.prepared.count, omega (arith, c.requires.translatable_at.sized.blocks))

pub overflow_add-b : goal.overflow_add-b
overflow_add-b c =
    let args = c.args in
    let known : c.loop-y.y < block_count args.t.now args.a = omega arith in
    omega (arith, edges_few args.t.now args.a c.requires.translatable_at args.m.now c.requires.prepared c.loop-y.y c.loop-y.b c.pairs-b.result known c.loop-y.invariant.3 c.pairs-b.ensures.0)

pub loop-y-preserved : goal.loop-y-preserved
loop-y-preserved c =
    let args = c.args in
    let t = args.t.now in
    let a = args.a in
    let m = args.m.now in
    let v = c.loop-y.invariant in
    let y = c.loop-y.y in
    let known : y < block_count t a = omega arith in
    let e = c.pairs-b.ensures.0 in (
      v.0,
      omega arith,
      registers_next t a c.requires.translatable_at m c.requires.prepared y known c.loop-y.n c.phis-n.result v.2 c.phis-n.ensures.0,
      edges_next t a c.requires.translatable_at m c.requires.prepared y known c.loop-y.b c.pairs-b.result v.3 e,
      c.put_edges-r.ensures.0 ∙ ap (λ i. first_row (translated t a) (c.loop-y.b + i)) (sym e),
      c.put_edges-r.auto.out ∙ v.5,
      c.put_edges-r.ensures.1 ∙ ap (λ i. built t a (c.loop-y.b + i) c.put_edges-r.result) (sym e),
    )

pub shape_of-out : goal.shape_of-out
shape_of-out c = c.loop-y.invariant.5

pub returns : goal.returns
returns c =
    let args = c.args in
    let t = args.t.now in
    let a = args.a in
    let v = c.loop-y.invariant in
    let done : c.loop-y.y ≡ block_count t a = omega arith in
    let all = v.3 ∙ ap (λ y. block_count t a + pairs_before (decode_function t a) y) done in
    edges_all t a c.requires.translatable_at args.m.now c.requires.prepared c.loop-y.r c.loop-y.out (v.4 ∙ ap (first_row (translated t a)) all) (v.6 ∙ ap (λ b. built t a b c.loop-y.r) all)
