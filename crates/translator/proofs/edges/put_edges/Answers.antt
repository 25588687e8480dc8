use Prim.Native.Nat.{◌+◌}
use mathlib.Core.Path.{◌≡◌, refl, sym, ap, ◌∙◌}
use native.Mathlib.Nat.{add-zero}
use native.Mathlib.Omega.{arith}
use Rattle.language.specs.Programs.{first_row}
use Rattle.translator.specs.Source.{translated, built, pairs_in, edge_number}
use Rattle.translator.proofs.EdgesLaws.{edges_few}
use Rattle.translator.proofs.edges.put_edges.Goals as goal

pub pairs-e-requires : goal.pairs-e-requires
pairs-e-requires c = (c.requires.translatable_at.sized.within, c.requires.prepared.count, omega (arith, c.requires.translatable_at.sized.blocks, c.requires.y_bound.0))

pub loop-j-init : goal.loop-j-init
loop-j-init c =
    let args = c.args in
    let t = args.t.now in
    let a = args.a in
    let w = c.requires.y_bound in
    let o = c.requires.k_value in
    let none = sym (add-zero args.b) in (
      c.pairs-e.ensures.0,
      omega arith,
      edges_few t a c.requires.translatable_at args.m.now c.requires.prepared args.y args.b c.pairs-e.result w.0 w.2 c.pairs-e.ensures.0,
      o.0 ∙ ap (first_row (translated t a)) none,
      refl,
      o.1 ∙ ap (λ b. built t a b args.k) none,
    )

pub overflow_add-b : goal.overflow_add-b
overflow_add-b c = omega arith

pub put_edge-r-requires : goal.put_edge-r-requires
put_edge-r-requires c =
    let args = c.args in
    let t = args.t.now in
    let a = args.a in
    let w = c.requires.y_bound in
    let v = c.loop-j.invariant in
    let number : args.b + c.loop-j.j ≡ edge_number t a args.y c.loop-j.j = ap (λ b. b + c.loop-j.j) w.2 in record { translatable_at = c.requires.translatable_at; prepared = c.requires.prepared; edge = record { block = w.0; pair = omega (arith, v.0, c.loop-j-test.true); new = w.1; place = v.3 ∙ ap (first_row (translated t a)) number }; b_value = (number, v.5) }

pub loop-j-preserved : goal.loop-j-preserved
loop-j-preserved c =
    let args = c.args in
    let t = args.t.now in
    let a = args.a in
    let v = c.loop-j.invariant in
    let more : args.b + c.loop-j.j + 1 ≡ args.b + (c.loop-j.j + 1) = omega arith in (
      v.0,
      omega arith,
      v.2,
      c.put_edge-r.ensures.0 ∙ ap (first_row (translated t a)) more,
      c.put_edge-r.auto.out ∙ v.4,
      c.put_edge-r.ensures.1 ∙ ap (λ b. built t a b c.put_edge-r.result) more,
    )

pub shape_of-out : goal.shape_of-out
shape_of-out c = c.loop-j.invariant.4

pub returns : goal.returns
returns c =
    let args = c.args in
    let t = args.t.now in
    let a = args.a in
    let v = c.loop-j.invariant in
    let done : c.loop-j.j ≡ pairs_in t a args.m.now args.y = omega (arith, v.0) in
    (v.3 ∙ ap (λ j. first_row (translated t a) (args.b + j)) done, v.5 ∙ ap (λ j. built t a (args.b + j) c.loop-j.r) done)
