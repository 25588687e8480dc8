-- `spelling::twice::distinct_names`: the chains begin with no names.
use Rattle.name_index.proofs.ChainLaws.{indexed_none}
use Rattle.spelling.proofs.twice.distinct_names.Goals as goal

pub index-requires : goal.index-requires
index-requires c = record { names_within = c.requires; indexed = indexed_none }

pub returns : goal.returns
returns c = c.index.ensures.tells
