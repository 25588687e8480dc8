-- What an act that puts something down, or is in a function, finds. Assumes nothing.
use mathlib.Core.List.{List}
use mathlib.Core.Path.{◌≡◌}
use Prim.Native.Nat.{ℕ, ◌≤◌, ◌<◌}
use native.Mathlib.Omega.{arith}
use lib.ListN.{length}
use Rattle.language.specs.Programs.{max_functions, max_registers, max_blocks, max_rows}
use Rattle.language.specs.Table.{function_length}
use Rattle.grammar.specs.declared.Act.{Act}
use Rattle.drafts.specs.State.{Lent, CellsIndexed}
use Rattle.drafts.specs.declared.state.Draft.{Draft}
use Rattle.text_place.specs.declared.TextPlace.{TextPlace}
use Rattle.reader.specs.Parse.{wants, Enabled}

module _ {d : Draft} {x : Lent} {name : List ℕ} {p : TextPlace} {a : Act} (h : Enabled d x name p a) where
  pub register_room : 1 ≤ (wants a).registers → d.head.registers < max_registers
  register_room k = omega (arith, h.room.registers)

  pub block_room : 1 ≤ (wants a).blocks → d.blocks.closed < max_blocks
  block_room k = omega (arith, h.room.blocks)

  pub row_room : 1 ≤ (wants a).rows → d.blocks.rows < max_rows
  row_room k = omega (arith, h.room.rows)

  module _ (inside : 1 ≤ (wants a).functions) where
    pub function_room : d.functions < max_functions
    function_room = omega (arith, h.room.functions)

    pub cells : length x.cells ≡ function_length
    cells = h.lent.cells function_room

    pub indexed : CellsIndexed d x.cells x.last x.before
    indexed = h.indexed function_room
