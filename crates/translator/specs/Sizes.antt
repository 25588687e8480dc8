-- The translated size as the code counts it.
-- Assumes nothing.
use Rattle.language.specs.Programs.{Func}
use Rattle.language.specs.Translating.{translated_registers, translated_blocks, translated_rows}
use Rattle.translator.specs.declared.sizes.Sizes.{Sizes}

unfoldable pub sizes_of : Func → Sizes
sizes_of f = record { registers = translated_registers f; blocks = translated_blocks f; rows = translated_rows f }
