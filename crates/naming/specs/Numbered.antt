-- What the numbers of made names are. Assumes nothing.
use Rattle.std.specs.Prelude.{false, cond, not, ◌&&◌, List, [], map, ◌≡◌, ℕ, ◌+◌, ◌*◌, ◌<◌, ◌≤◌, eqb, length, get_or, drop}
use Rattle.laws.specs.Lists.{any, below, empty, sum}
use Rattle.language.specs.Programs.{Func, no_register, block_at}
use Rattle.language.specs.Names.{plain_name}
use Rattle.language.specs.Table.{name_at}
use Rattle.language.specs.MadeNames.{made_name, register_prefix, block_prefix, block_title, entitled, register_names, block_names}
use Rattle.table.specs.Named.{is_named}

-- What stands at a given name instead of a number: whether its spelling is plain.
abbrev pub plain_flag : List ℕ → ℕ
plain_flag n = cond (plain_name n) 1 0

-- The made name with register r's number is its name, if it has none; if it has one, the cell says whether that is plain.
pub record RegistersNumbered (f : Func) (made : List ℕ) : Type 0 where
  pub named : (r : ℕ) → r < length f.registers →
      let n = (get_or f.registers r no_register).name in
      get_or (register_names f) r [] ≡ cond (empty n) (made_name register_prefix (get_or made r 0)) n
  pub plain : (r : ℕ) → r < length f.registers →
      let n = (get_or f.registers r no_register).name in
      empty n ≡ false → get_or made r 0 ≡ plain_flag n

-- The same for a block other than entry.
pub record BlocksNumbered (f : Func) (made : List ℕ) : Type 0 where
  pub named : (b : ℕ) → b < length f.blocks →
      let n = (block_at f b).name in
      get_or (block_names f) b [] ≡ cond (empty n && not (eqb b f.entry)) (made_name block_prefix (get_or made b 0)) n
  pub plain : (b : ℕ) → b < length f.blocks →
      let n = (block_at f b).name in
      empty n ≡ false → get_or made b 0 ≡ plain_flag n

-- ---- Of `count` names whose length cells stand `stride` apart, from cell `at` on.

-- Cell j is 1 where number j is in use, and there are no more marks than names.
pub record Marked (prefix t : List ℕ) (at stride count : ℕ) (marks : List ℕ) : Type 0 where
  pub size : length marks ≡ 513
  pub cells : (j : ℕ) → j < 512 → get_or marks j 0 ≡ cond (any (is_named t at stride (made_name prefix j)) (below count)) 1 0
  pub few : sum marks ≤ count

-- r is the first number from k on that is not marked.
pub record Free (marks : List ℕ) (k r : ℕ) : Type 0 where
  pub from_k : k ≤ r
  pub within : r < 512
  pub free : get_or marks r 0 ≡ 0
  pub before : (j : ℕ) → k ≤ j → j < r → get_or marks j 0 ≡ 0 → ⊥
  pub room : r + sum (drop r marks) ≤ k + sum (drop k marks)

-- Name i is given, with its flag, or made of its number.
pub record Numbered (prefix t : List ℕ) (at stride count kept : ℕ) (made : List ℕ) : Type 0 where
  pub named : (i : ℕ) → i < count →
      let name : ℕ → List ℕ = λ i. name_at t (at + stride * i) in
      get_or (entitled prefix (map name (below count)) 0 (map (λ i. block_title kept i (name i)) (below count))) i []
      ≡ cond (empty (name i) && not (eqb i kept)) (made_name prefix (get_or made i 0)) (name i)
  pub plain : (i : ℕ) → i < count → empty (name_at t (at + stride * i)) ≡ false → get_or made i 0 ≡ plain_flag (name_at t (at + stride * i))
