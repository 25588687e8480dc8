-- The size formula counts what the translation has.
-- Assumes nothing.
use mathlib.Core.Path.{◌≡◌, ap, ap₂, ◌∙◌}
use mathlib.Core.List.{List, map}
use Prim.Native.Nat.{ℕ, ◌+◌, ◌*◌}
use native.Mathlib.Omega.{arith}
use lib.ListN.{length, length-append, length-map}
use Rattle.laws.specs.Lists.{gather, below, sum}
use Rattle.laws.proofs.Gather.{length_gather, keep_gather}
use Rattle.laws.proofs.Indexing.{length_below, length_together_from}
use Rattle.laws.proofs.Sums.{gather_map, gather_gather, length_keeps, sum_const, sum_same, map_get_or}
use Rattle.laws.proofs.Appending.{gather_append}
use Rattle.theorems.specs.Statements.{SizeLaw}
use Rattle.language.specs.Programs.{Row, Func, no_block, rows_at, rows_of, is_phi}
use Rattle.language.specs.Checking.{predecessors}
use Rattle.language.specs.Running.{phis_of}
use Rattle.language.specs.Translating.{kept_of, phi_blocks, edge_rows, edges_to, kept_block, register_for, translation, phi_total, pair_count, size_of_edges, translated_registers, translated_blocks, translated_rows}

pub size_registers : (f : Func) → length (translation f).registers ≡ translated_registers f
unfolding translation translated_registers phi_total
size_registers f =
    length-append f.registers (map (register_for f) (phis_of (rows_of f)))
    ∙ ap (λ n. length f.registers + n) (length-map (phis_of (rows_of f)) (register_for f))

-- An edge block for each predecessor.
pub length_edges_to : (f : Func) (y : ℕ) → length (edges_to f y) ≡ length (predecessors f y)
unfolding edges_to
length_edges_to f y = simp (length-map, length_below)

pub size_blocks : (f : Func) → length (translation f).blocks ≡ translated_blocks f
unfolding translation translated_blocks pair_count
size_blocks f =
    length-append (map (kept_block f) (below (length f.blocks))) (gather (edges_to f) (phi_blocks f))
    ∙ ap₂ (λ m n. m + n) (length-map (below (length f.blocks)) (kept_block f) ∙ length_below (length f.blocks))
    (length_gather (edges_to f) (phi_blocks f) ∙ sum_same (length_edges_to f) (phi_blocks f))

-- "2p + 1 for each pair, p being the phi of that block"
pub length_edge_rows : (n k y : ℕ) (phis : List Row) → length (edge_rows n k y phis) ≡ 2 * length phis + 1
unfolding edge_rows
length_edge_rows n k y phis = simp (length-append, length_together_from) (omega arith)

edges_to_rows :
    (f : Func) (y : ℕ)
    → length (gather (λ b. b.rows) (edges_to f y)) ≡ length (predecessors f y) * (2 * length (phis_of (rows_at f y)) + 1)
unfolding edges_to
edges_to_rows f y = simp (gather_map, length_gather, length_edge_rows, sum_const, length_below)

size_edges : (f : Func) → length (gather (λ b. b.rows) (gather (edges_to f) (phi_blocks f))) ≡ size_of_edges f
unfolding size_of_edges
size_edges f = rw (gather_gather, length_gather) (sum_same (edges_to_rows f) (phi_blocks f))

-- "the old instructions less P"
kept_rows :
    (f : Func)
    → length (gather (λ b. b.rows) (map (kept_block f) (below (length f.blocks)))) ≡ length (kept_of (rows_of f))
unfolding kept_block kept_of rows_of
kept_rows f =
    let lengths = map_get_or (λ b. length (kept_of b.rows)) no_block f.blocks in
    rw keep_gather (simp (gather_map, length_gather, length-map) (ap sum lengths))

phis_apart : (f : Func) → length (kept_of (rows_of f)) + phi_total f ≡ length (rows_of f)
unfolding kept_of phi_total phis_of
phis_apart f = length_keeps is_phi (rows_of f)

pub size_rows : (f : Func) → length (rows_of (translation f)) ≡ translated_rows f
unfolding translation translated_rows rows_of
size_rows f = simp (gather_append, length-append) (omega (arith, kept_rows f, phis_apart f, size_edges f))

pub sizes : SizeLaw
sizes f = (size_registers f, size_blocks f, size_rows f)
