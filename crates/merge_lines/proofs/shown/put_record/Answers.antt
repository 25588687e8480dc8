-- `put_record`: one field after the other.
use native.Mathlib.Omega.{arith}
use Rattle.decimal.proofs.Writings.{written_then}
use Rattle.merge_lines.specs.Lines.{record_line}
use Rattle.merge_lines.proofs.shown.put_record.Goals as goal

pub returns : goal.returns
unfolding record_line
returns c = (
  written_then
      (written_then (written_then (written_then c.put_column-e.ensures.0 c.put_column-f.ensures.0) c.put_column-g.ensures.0) c.put_reading-h.ensures.0)
      c.put_verdict.ensures.0,
  omega (arith, c.put_column-e.ensures.1, c.put_column-f.ensures.1, c.put_column-g.ensures.1, c.put_reading-h.ensures.1, c.put_verdict.ensures.1),
)
