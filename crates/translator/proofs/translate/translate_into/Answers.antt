-- The head, the registers, the kept blocks and the edges, one section after the other; then the lists.
use mathlib.Core.Path.{ap, ◌∙◌}
use lib.ListN.{length}
use Rattle.language.specs.Table.{decode_function, table_length}
use Rattle.numbers.proofs.Zeros.{length_zeros}
use Rattle.translator.specs.Source.{translated}
use Rattle.translator.proofs.Filling.{unlisted_within, lists_put}
use Rattle.translator.proofs.SizesLaws.{registers_are, blocks_are, blocks_few}
use Rattle.translator.proofs.RegistersLaws.{target_laid, name_short, head_declared}
use Rattle.translator.proofs.translate.translate_into.Goals as goal

pub put_head-requires : goal.put_head-requires
put_head-requires c =
    let args = c.args in (
      c.requires.translatable_at.sized.within,
      name_short args.t.now args.a c.requires.translatable_at,
      blocks_few (decode_function args.t.now args.a) c.measure-s.result c.measure-s.ensures c.requires.translatable_at.fits,
      ap length c.requires.out_value ∙ length_zeros table_length,
    )

pub keep_registers-requires : goal.keep_registers-requires
keep_registers-requires c =
    let args = c.args in
    let f = decode_function args.t.now args.a in record {
      translatable_at = c.requires.translatable_at;
      out_value = head_declared args.t.now args.a c.requires.translatable_at c.measure-s.result.registers c.measure-s.result.blocks args.out.now c.put_head.new.out
          (registers_are f c.measure-s.result c.measure-s.ensures) (blocks_are f c.measure-s.result c.measure-s.ensures) c.requires.out_value c.put_head.ensures;
    }

pub put_all_edges-requires : goal.put_all_edges-requires
put_all_edges-requires c =
    record { translatable_at = c.requires.translatable_at; prepared = c.requires.prepared; k_value = c.keep_blocks-k.ensures }

pub put_predecessors-requires : goal.put_predecessors-requires
put_predecessors-requires c =
    let t = c.args.t.now in
    let a = c.args.a in
    unlisted_within (translated t a) (target_laid t a c.requires.translatable_at) c.put_all_edges.ensures

pub returns : goal.returns
returns c =
    let t = c.args.t.now in
    let a = c.args.a in
    lists_put (translated t a) (target_laid t a c.requires.translatable_at) c.put_all_edges.ensures c.put_predecessors.ensures
