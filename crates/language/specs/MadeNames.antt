-- Made names (document 02, A1): "Unnamed registers are called `p.` and unnamed blocks but entry `e.`, with the smallest decimal numbers not in
-- use by that kind in the function, in table order from 0." Assumes nothing.
use Rattle.std.specs.Prelude.{Bool, cond, not, ◌&&◌, List, [], ◌∷◌, ◌++◌, map, ℕ, suc, ◌+◌, eqb, length}
use Rattle.laws.specs.Lists.{any, position, empty, same, from, below, together}
use Rattle.language.specs.Bytes.{bytes_of}
use Rattle.language.specs.Programs.{Func, Program}
use Rattle.language.specs.Listing.{digits}
use Rattle.language.specs.Writing.{text_of}

-- A name that is there, or one to be made.
pub data Title : Type 0 where
  given : (name : List ℕ) → Title
  wanted : Title

abbrev pub register_prefix : List ℕ
register_prefix = bytes_of "p."

abbrev pub block_prefix : List ℕ
block_prefix = bytes_of "e."

abbrev pub made_name : List ℕ → ℕ → List ℕ
made_name prefix j = prefix ++ digits j

-- Some name of that kind is the one with number j.
abbrev pub in_use : List ℕ → List (List ℕ) → ℕ → Bool
in_use prefix used j = any (same (made_name prefix j)) used

-- The smallest number from k on that is not in use; so many names cannot use more numbers.
unfoldable pub next_free : List ℕ → List (List ℕ) → ℕ → ℕ
next_free prefix used k = k + position (λ j. not (in_use prefix used j)) (from k (length used))

-- The names "in table order from 0": each made name takes the next number that is free.
abbrev pub entitled : List ℕ → List (List ℕ) → ℕ → List Title → List (List ℕ)
entitled prefix used k [] = []
entitled prefix used k (given n ∷ ts) = n ∷ entitled prefix used k ts
entitled prefix used k (wanted ∷ ts) = made_name prefix (next_free prefix used k) ∷ entitled prefix used (suc (next_free prefix used k)) ts

abbrev pub register_title : List ℕ → Title
register_title n = cond (empty n) wanted (given n)

-- "unnamed blocks but entry": the block at place e keeps its name of no bytes.
abbrev pub block_title : ℕ → ℕ → List ℕ → Title
block_title e i n = cond (empty n && not (eqb i e)) wanted (given n)

unfoldable pub register_names : Func → List (List ℕ)
register_names f = let ns = map (λ r. r.name) f.registers in entitled register_prefix ns 0 (map register_title ns)

unfoldable pub block_names : Func → List (List ℕ)
block_names f =
    let ns = map (λ b. b.name) f.blocks in
    entitled block_prefix ns 0 (together (block_title f.entry) (below (length ns)) ns)

unfoldable pub named_function : Func → Func
named_function f =
    record {
      name = f.name;
      ssa = f.ssa;
      result = f.result;
      params = f.params;
      registers = together (λ r n. record { type = r.type; name = n }) f.registers (register_names f);
      blocks = together (λ b n. record { name = n; rows = b.rows }) f.blocks (block_names f);
      entry = f.entry;
      placed = f.placed;
    }

-- The program "with the made names filled in", and its text.
unfoldable pub named : Program → Program
named p = map named_function p

unfoldable pub written : Program → List ℕ
written p = text_of (named p)
