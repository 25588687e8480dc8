-- `words::class_table::classes`: the table's rule, computed at all 256 bytes.
use mathlib.Core.Path.{refl}
use Rattle.language.specs.Bytes.{class_of}
use Rattle.vocabulary.specs.Classes.{class_table}
use Rattle.vocabulary.proofs.class_table.classes.Goals as goal

pub returns : goal.returns
unfolding class_table class_of
returns c = refl
