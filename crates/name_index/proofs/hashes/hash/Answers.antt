-- `name_index::hashes::hash`: the two products fit, since their factors are below 2^32 and below 2^30.
use mathlib.Core.Path.{refl}
use native.Mathlib.Omega.{arith}
use Rattle.name_index.specs.Hashes.{end_hash}
use Rattle.name_index.proofs.hashes.hash.Goals as goal

pub returns : goal.returns
unfolding end_hash
returns c = (refl, omega arith)
