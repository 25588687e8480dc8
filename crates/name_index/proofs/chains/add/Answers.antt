-- `name_index::chains::add`: the new name goes before the rest of its chain.
use mathlib.Core.Path.{ap, ◌∙◌, refl}
use Rattle.name_index.specs.Hashes.{end_hash}
use Rattle.name_index.proofs.ChainLaws.{indexed_more}
use Rattle.name_index.proofs.chains.add.Goals as goal

pub returns : goal.returns
returns c =
    λ names k e fresh.
    indexed_more names c.args.name.now k c.args.n e c.requires.0 c.hash-h.ensures.1
    (c.hash-h.ensures.0 ∙ ap end_hash c.end.ensures) refl fresh
