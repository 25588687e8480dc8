-- The translation out of ssa (document 01, "Numbers we answer", its last paragraph).
-- Assumes nothing.
use Rattle.std.specs.Prelude.{Bool, true, cond, not, ◌&&◌, List, [], ◌∷◌, ◌++◌, map, ℕ, ◌+◌, ◌-◌, ◌*◌, eqb, leb, length, take}
use Rattle.laws.specs.Lists.{keep, position, gather, together, from, below, sum}
use Rattle.language.specs.Instructions.{copy_op}
use Rattle.language.specs.Programs.{Row, Register, Block, Func, max_registers, max_blocks, max_rows, block_at, rows_at, type_at, rows_of, is_phi, has_phi}
use Rattle.language.specs.Checking.{predecessors}
use Rattle.language.specs.Running.{phis_of, phi_target, entry_at, start, start_registers, phi_steps, edge_steps}

-- The rows that are kept: all but the phi.
unfoldable pub kept_of : List Row → List Row
kept_of rows = keep (λ r. not (is_phi r)) rows

-- The blocks with phi, in order.
unfoldable pub phi_blocks : Func → List ℕ
phi_blocks f = keep (has_phi f) (below (length f.blocks))

-- How many phi stand in the blocks before block b.
unfoldable pub phis_before : Func → ℕ → ℕ
phis_before f b = sum (map (λ k. length (phis_of k.rows)) (take b f.blocks))

-- How many pairs of predecessor and phi block there are whose phi block is before block b.
unfoldable pub pairs_before : Func → ℕ → ℕ
pairs_before f b = sum (map (λ y. cond (has_phi f y) (length (predecessors f y)) 0) (below b))

-- "a register for each phi by row": the new register of a block's first phi; the others follow it.
unfoldable pub new_register : Func → ℕ → ℕ
new_register f y = length f.registers + phis_before f y

-- "a block for each pair, by phi block, then predecessor": the edge block of predecessor x and phi block y.
unfoldable pub edge_of : Func → ℕ → ℕ → ℕ
edge_of f x y = length f.blocks + pairs_before f y + position (λ z. eqb z x) (predecessors f y)

-- "the predecessor's terminator names it wherever it named the phi block"
unfoldable pub retargeted : Func → ℕ → ℕ → ℕ
retargeted f x y = cond (has_phi f y) (edge_of f x y) y

unfoldable pub retarget : Func → ℕ → Row → Row
retarget f x Row.nop = Row.nop
retarget f x (Row.load op t n) = Row.load op t n
retarget f x (Row.unary op t s) = Row.unary op t s
retarget f x (Row.binary op t l r) = Row.binary op t l r
retarget f x (Row.phi t es) = Row.phi t es
retarget f x (Row.jump y) = Row.jump (retargeted f x y)
retarget f x (Row.branch s y z) = Row.branch s (retargeted f x y) (retargeted f x z)
retarget f x (Row.return s) = Row.return s
retarget f x Row.leave = Row.leave
retarget f x (Row.unknown op) = Row.unknown op

-- `copy` of register s to register t.
abbrev pub copy_row : ℕ → ℕ → Row
copy_row t s = Row.unary copy_op t s

-- "it copies entries to new registers, then these to targets, each by row, and jumps to the phi block": the edge block's rows for
-- the k-th predecessor of block y, n being the first new register.
unfoldable pub edge_rows : ℕ → ℕ → ℕ → List Row → List Row
edge_rows n k y phis =
    together (λ m r. copy_row m (entry_at k r)) (from n (length phis)) phis
    ++ (together (λ m r. copy_row (phi_target r) m) (from n (length phis)) phis ++ (Row.jump y ∷ []))

-- The edge blocks of phi block y, one for each predecessor.
unfoldable pub edges_to : Func → ℕ → List Block
edges_to f y =
    map (λ k. record { name = []; rows = edge_rows (new_register f y) k y (phis_of (rows_at f y)) })
    (below (length (predecessors f y)))

-- A block of the source, without its phi.
unfoldable pub kept_block : Func → ℕ → Block
kept_block f x = record { name = (block_at f x).name; rows = map (retarget f x) (kept_of (rows_at f x)) }

-- The new register of a phi has the type of the phi's target, and no name.
unfoldable pub register_for : Func → Row → Register
register_for f r = record { type = type_at f (phi_target r); name = [] }

-- "what is kept in order, then a register for each phi by row and a block for each pair, by phi block, then predecessor"; it is not
-- marked ssa.
unfoldable pub translation : Func → Func
translation f =
    record {
      name = f.name;
      ssa = 0;
      result = f.result;
      params = f.params;
      registers = f.registers ++ map (register_for f) (phis_of (rows_of f));
      blocks = map (kept_block f) (below (length f.blocks)) ++ gather (edges_to f) (phi_blocks f);
      entry = f.entry;
      placed = true;
    }

-- "Translated size, for R registers, B blocks, P phi, E pairs of predecessor and phi block: R + P registers, B + E blocks, and the
-- old instructions less P, plus 2p + 1 for each pair, p being the phi of that block."
unfoldable pub phi_total : Func → ℕ
phi_total f = length (phis_of (rows_of f))

unfoldable pub pair_count : Func → ℕ
pair_count f = sum (map (λ y. length (predecessors f y)) (phi_blocks f))

unfoldable pub size_of_edges : Func → ℕ
size_of_edges f = sum (map (λ y. length (predecessors f y) * (2 * length (phis_of (rows_at f y)) + 1)) (phi_blocks f))

unfoldable pub translated_registers : Func → ℕ
translated_registers f = length f.registers + phi_total f

unfoldable pub translated_blocks : Func → ℕ
translated_blocks f = length f.blocks + pair_count f

unfoldable pub translated_rows : Func → ℕ
translated_rows f = length (rows_of f) - phi_total f + size_of_edges f

-- "Answer 31 exactly if one is over its limit."
unfoldable pub translation_fits : Func → Bool
translation_fits f =
    leb (translated_registers f) max_registers && leb (translated_blocks f) max_blocks && leb (translated_rows f) max_rows

-- "Step formula: if the source ends after n steps, the translation ends after n + f + e"
unfoldable pub step_formula : Func → List ℕ → ℕ → ℕ
step_formula f args n =
    n + phi_steps n f (start f) (start_registers f args) + edge_steps n f (start f) (start_registers f args)
