-- The loop's invariant: the new registers of the first y blocks are put down.
use Prim.Native.Nat.{◌≤◌}
use mathlib.Core.Path.{◌≡◌}
use lib.ListN.{length}
use Rattle.language.specs.Table.{block_count, decode_function}
use Rattle.language.specs.Translating.{new_register}
use Rattle.translator.specs.Source.{declared}
use Rattle.translator.proofs.registers.put_all_new.Given as goal

abbrev pub invariant-loop-y : goal.invariant-loop-y
invariant-loop-y l = (l.blocks ≡ block_count l.t l.a) × (l.y ≤ l.blocks) × (l.n ≡ new_register (decode_function l.t l.a) l.y) × (length l.out ≡ length l.initial.out) × (l.out ≡ declared l.t l.a l.n)
