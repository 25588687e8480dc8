-- `put_records`: each record that was found has taken no more than its room.
use Rattle.std.proofs.Common.{◌≡◌, ◌*◌, ◌≤◌, length}
use Rattle.merge_lines.specs.Lines.{record_most}
use Rattle.merge_tool.proofs.put_records.Given as goal

abbrev pub invariant-loop-i : goal.invariant-loop-i
invariant-loop-i l = (length l.out ≡ length l.initial.out) × (l.at ≤ record_most * l.i)
