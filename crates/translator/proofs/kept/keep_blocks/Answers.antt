use mathlib.Core.Path.{◌≡◌, refl, ap, ◌∙◌}
use native.Mathlib.Omega.{arith}
use Rattle.language.specs.Programs.{first_row}
use Rattle.language.specs.Table.{block_count}
use Rattle.translator.specs.Source.{translated, built}
use Rattle.translator.proofs.KeptLaws.{first_none}
use Rattle.translator.proofs.kept.keep_blocks.Goals as goal

pub block_count-n-requires : goal.block_count-n-requires
block_count-n-requires c = c.requires.translatable_at.sized.within

pub loop-x-init : goal.loop-x-init
loop-x-init c =
    (c.block_count-n.ensures.0, omega arith, first_none c.args.t.now c.args.a c.requires.translatable_at, refl, c.requires.out_value)

pub keep_block-k-requires : goal.keep_block-k-requires
keep_block-k-requires c =
    let v = c.loop-x.invariant in
    record { translatable_at = c.requires.translatable_at; prepared = c.requires.prepared; planned = c.requires.planned; x_bound = (omega arith, v.2, v.4) }

pub loop-x-preserved : goal.loop-x-preserved
loop-x-preserved c =
    let v = c.loop-x.invariant in
    (v.0, omega arith, c.keep_block-k.ensures.0, c.keep_block-k.auto.out ∙ v.3, c.keep_block-k.ensures.1)

pub shape_of-out : goal.shape_of-out
shape_of-out c = c.loop-x.invariant.3

pub returns : goal.returns
returns c =
    let args = c.args in
    let v = c.loop-x.invariant in
    let done : c.loop-x.x ≡ block_count args.t.now args.a = omega arith in
    (v.2 ∙ ap (first_row (translated args.t.now args.a)) done, v.4 ∙ ap (λ x. built args.t.now args.a x c.loop-x.k) done)
