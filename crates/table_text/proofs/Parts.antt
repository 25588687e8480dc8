-- The text of a table along its cells: function by function, each with its head, its registers past the parameters, its blocks and its closing
-- brace. Assumes nothing.
use mathlib.Core.Path.{◌≡◌, ap, ap₂, ◌∙◌}
use mathlib.Core.List.{List, [], ◌∷◌, ◌++◌, map, append-nil}
use Prim.Native.Nat.{ℕ, ◌-◌}
use lib.ListN.{length, drop}
use Rattle.laws.specs.Lists.{gather, from, below}
use Rattle.laws.proofs.Sums.{gather_map, gather_gather}
use Rattle.laws.proofs.Appending.{gather_append}
use Rattle.laws.proofs.ByNumber.{gather_dropped}
use Rattle.language.specs.Programs.{Func, no_register}
use Rattle.language.specs.Bytes.{bytes_of}
use Rattle.language.specs.Writing.{bytes_for, line_bytes, closing, block_lines, register_line, head_line, function_lines, lines_of, text_of}
use Rattle.language.specs.Table.{function_count, function_at, function_params, register_count, decode_function, decode}
use Rattle.language.specs.MadeNames.{named_function, named, written}
use Rattle.language.proofs.TableView.{register_count_law}
use Rattle.naming.proofs.Filled.{filled_registers}
use Rattle.head_text.specs.Heads.{register_bytes}

-- ---- a function

parts_of : (f : Func) →
    gather line_bytes (function_lines f)
    ≡ line_bytes (head_line f)
    ++ (gather (register_bytes f) (from f.params (length f.registers - f.params)) ++ (gather line_bytes (gather (block_lines f) f.blocks) ++ line_bytes closing))
unfolding function_lines
parts_of f =
    ap (λ (l : List ℕ). line_bytes (head_line f) ++ l)
    (gather_append line_bytes (map register_line (drop f.params f.registers)) (gather (block_lines f) f.blocks ++ (closing ∷ []))
    ∙ ap₂ (λ (x y : List ℕ). x ++ y)
    (gather_map line_bytes register_line (drop f.params f.registers) ∙ gather_dropped (λ r. line_bytes (register_line r)) no_register f.params f.registers)
    (gather_append line_bytes (gather (block_lines f) f.blocks) (closing ∷ [])
    ∙ ap (λ (l : List ℕ). gather line_bytes (gather (block_lines f) f.blocks) ++ l) (append-nil (line_bytes closing))))

-- its head, the declarations past the parameters, its blocks, the closing brace
pub function_parts : (t : List ℕ) (a : ℕ) →
    let g = named_function (decode_function t a) in
    gather line_bytes (function_lines g)
    ≡ line_bytes (head_line g)
    ++ (gather (register_bytes g) (from (function_params t a) (register_count t a - function_params t a)) ++ (gather line_bytes (gather (block_lines g) g.blocks) ++ bytes_of "}\n"))
unfolding named_function decode_function bytes_for
function_parts t a =
    let g = named_function (decode_function t a) in
    parts_of g
    ∙ ap (λ (n : ℕ). line_bytes (head_line g) ++ (gather (register_bytes g) (from (function_params t a) (n - function_params t a)) ++ (gather line_bytes (gather (block_lines g) g.blocks) ++ line_bytes closing)))
    (filled_registers (decode_function t a) ∙ register_count_law t a)

-- ---- a table

-- function i of a table
abbrev pub function_text : List ℕ → ℕ → List ℕ
function_text t i = gather line_bytes (function_lines (named_function (decode_function t (function_at i))))

-- all functions, in order
pub table_parts : (t : List ℕ) → written (decode t) ≡ gather (function_text t) (below (function_count t))
unfolding written named text_of lines_of decode
table_parts t =
    gather_gather line_bytes function_lines (map named_function (map (λ i. decode_function t (function_at i)) (below (function_count t))))
    ∙ gather_map (λ f. gather line_bytes (function_lines f)) named_function (map (λ i. decode_function t (function_at i)) (below (function_count t)))
    ∙ gather_map (λ f. gather line_bytes (function_lines (named_function f))) (λ i. decode_function t (function_at i)) (below (function_count t))
