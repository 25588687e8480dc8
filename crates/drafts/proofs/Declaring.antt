-- What the acts that declare come to, for each of their returns: 6, or the item put down.
-- Assumes nothing.
use mathlib.Core.Path.{◌≡◌, refl, sym, ap, ◌∙◌}
use mathlib.Core.List.{List, [], ◌∷◌, ◌++◌, append-nil, map-append}
use Prim.Native.Nat.{ℕ, ◌+◌, ◌-◌, ◌*◌, ◌%◌, ◌≤◌, ◌<◌}
use native.Mathlib.Numerals.{add-two}
use native.Mathlib.Omega.{arith}
use borrow.Author.Tests.{lt-ltb, le-ltb}
use lib.ListN.{length, length-append, length-map}
use lib.Seq.{sets, length-sets}
use Rattle.table.specs.Named.{first_named}
use Rattle.name_index.specs.Chains.{Indexed, Adds}
use Rattle.name_index.specs.Names.{names_in}
use Rattle.language.specs.Programs.{Register, Func, max_functions, max_registers, max_blocks, max_name}
use Rattle.language.specs.Table.{two_bytes, name_length, name_offset}
use Rattle.language.specs.Table.{block_length, block_names_offset, blocks_offset, register_length, register_names_offset, registers_offset}
use Rattle.language.specs.Reading.{Draft as Draftᴸ, ActOutcome, no_open_block, function_number, register_number, block_number, open_rows, rows_in}
use Rattle.language.specs.Reading.{mark_ssa, set_result, name_function, name_register, name_block, end_block}
use Rattle.drafts.specs.State.{fault_at, Bounded, Lent, Stands, Acts, ActsOn, ActsAlone, CellsIndexed, function_names, lent_of, names_length, Always, Unnamed, NoBlock}
use Rattle.drafts.specs.declared.state.Draft.{Draft}
use Rattle.drafts.specs.declared.state.Head.{Head}
use Rattle.std.specs.Prelude.{Ok, Err}
use Rattle.answers.specs.declared.reasons.Reason.TheVariants as reasons
use Rattle.text_place.specs.declared.TextPlace.{TextPlace}
use Rattle.drafts.proofs.HeadLaws as head
use Rattle.drafts.proofs.HeadLaws.{marked, returning, named, registered, headed_at, counts_headed, keeps_names, names_function, names_register}
use Rattle.drafts.proofs.BlockLaws as block
use Rattle.drafts.proofs.BlockLaws.{begun, ended, blocks_at, open_rows_law, begun_rows, ended_rows, counts_blocks, names_block, ends_block}
use Rattle.drafts.proofs.DeclaredNames.{held_after, chained}
use Rattle.drafts.proofs.StateLaws.{register_names, refusing, storing, changing, stored, proceeding, function_found, register_found, block_found, names_back}

abbrev pub head_at : (ssa result params registers : ℕ) → Head
head_at a t k r = record { ssa = a; result = t; params = k; registers = r }

-- ---- the head

module _ (s : Draft) (b : Bounded s) where
  pub ssa_marked : ActsAlone Always mark_ssa s (Ok (headed_at s (head_at 1 s.head.result s.head.params s.head.registers)))
  unfolding mark_ssa
  ssa_marked =
      changing (omega arith)
      (λ d x h fit.
      let f = (marked d).function in
      let c = h.counts.head in
      record {
        draft = marked d;
        steps = refl;
        counts = counts_headed d f h.counts (record { ssa = refl; result = c.result; params = c.params; registers = c.registers });
        names = head.same_names d f refl refl;
        stores = keeps_names d f h.within refl refl;
      })

  pub result_set : (kind : ℕ) → kind < 256
      → ActsAlone Always (set_result kind) s (Ok (headed_at s (head_at s.head.ssa kind s.head.params s.head.registers)))
  unfolding set_result
  result_set kind low =
      changing (omega arith)
      (λ d x h fit.
      let f = (returning d kind).function in
      let c = h.counts.head in
      record {
        draft = returning d kind;
        steps = refl;
        counts = counts_headed d f h.counts (record { ssa = c.ssa; result = refl; params = c.params; registers = c.registers });
        names = head.same_names d f refl refl;
        stores = keeps_names d f h.within refl refl;
      })

module _ {s : Draft} (n : List ℕ) (p : TextPlace) {f : List ℕ} where
  -- ---- a function's name

  module _ {names m l b : List ℕ} {i : ℕ} (found : i ≡ first_named names 0 name_length s.functions n) where
    pub function_known : i < s.functions → Acts Unnamed (name_function n p.byte) s (lent_of f names m l b) (Err (fault_at reasons.DeclaredTwice p)) (lent_of f names m l b)
    unfolding name_function
    function_known known =
        refusing reasons.DeclaredTwice p
        (λ d h fit.
        let c = h.counts.functions in
        let e = function_found h n in
        rw (lt-ltb (function_number d.functions n) (length d.functions) (omega arith)))

    function_named : (d : Draftᴸ) → Stands d s (lent_of f names m l b) → s.functions ≤ i → name_function n p.byte d ≡ ActOutcome.proceed (named d n)
    unfolding name_function
    function_named d h new = rw (le-ltb (function_number d.functions n) (length d.functions) (omega (arith, h.counts.functions, function_found h n)))

    pub function_put : Bounded s → s.functions < max_functions → s.functions ≤ i → length n ≤ max_name → length names ≡ names_length → {f' names' : List ℕ}
        → names' ≡ sets names (name_length * s.functions) (length n ∷ n) → f' ≡ sets f name_offset (length n ∷ n)
        → Acts Unnamed (name_function n p.byte) s (lent_of f names m l b) (Ok s) (lent_of f' names' m l b)
    function_put bounds less new short all {names' = names'} put-name put =
        record {
          kept = bounds;
          whole =
              λ w.
              record {
                cells = ap length put ∙ length-sets f name_offset (length n ∷ n) ∙ w.cells;
                names = ap length put-name ∙ length-sets names (name_length * s.functions) (length n ∷ n) ∙ w.names;
                pending = w.pending;
                last = w.last;
                before = w.before;
              };
          meaning =
              λ d h fit.
              let c = h.counts in
              let ns = function_names d.functions in
              let count : s.functions ≡ length ns = c.functions ∙ sym (length-map d.functions (λ (g : Func). g.name)) in
              let at : names' ≡ sets names (name_length * length ns) (length n ∷ n) = rw (← count) put-name in
              let g = (named d n).function in
              proceeding (function_named d h new)
              (stored h (names_function d h.within n short fit) put
              (counts_headed d g c (record { ssa = c.head.ssa; result = c.head.result; params = c.head.params; registers = c.head.registers }))
              (rw at (held_after ns n short names all (omega arith) d.function.name h.names))
              (rw (head.same_kept d g) h.pending)
              h.indexed);
        }

  -- ---- a register's name

  module _ (k kind : ℕ) {ns m l b : List ℕ} {i : ℕ} (found : i ≡ first_named f register_names_offset register_length s.head.registers n) where
    pub register_known : i < s.head.registers → Acts Always (name_register k kind n p.byte) s (lent_of f ns m l b) (Err (fault_at reasons.DeclaredTwice p)) (lent_of f ns m l b)
    unfolding name_register
    register_known known =
        refusing reasons.DeclaredTwice p
        (λ d h fit.
        let c = h.counts.head.registers in
        let e = register_found h n in
        rw (lt-ltb (register_number d.function.registers n) (length d.function.registers) (omega arith)))

    register_named : (d : Draftᴸ) → Stands d s (lent_of f ns m l b) → s.head.registers ≤ i → name_register k kind n p.byte d ≡ ActOutcome.proceed (registered d k kind n)
    unfolding name_register
    register_named d h new =
        rw (le-ltb (register_number d.function.registers n) (length d.function.registers) (omega (arith, h.counts.head.registers, register_found h n)))

    module _ (most : i ≤ s.head.registers) (new : s.head.registers ≤ i) {l' b' : List ℕ} (adds : Adds s.head.registers n l b l' b') where
      pub register_put : Bounded s → s.head.registers < max_registers → length n ≤ max_name → k ≤ 1 → kind < 256 → CellsIndexed s f l b → {r : ℕ} → r ≡ kind % 256 → {f' : List ℕ}
          → f' ≡ sets f (0 + registers_offset + register_length * s.head.registers) (r ∷ length n ∷ n)
          → Acts Always (name_register k kind n p.byte) s (lent_of f ns m l b)
          (Ok (headed_at s (head_at s.head.ssa s.head.result (s.head.params + k) (s.head.registers + 1)))) (lent_of f' ns m l' b')
      register_put bounds less short one low indexed {r} er {f'} put =
          let at : ℕ = registers_offset + register_length * s.head.registers in
          let is : r ≡ kind = omega arith in
          let zero-at : 0 + registers_offset + register_length * s.head.registers ≡ at = omega arith in
          let cells : f' ≡ sets f at (kind ∷ length n ∷ n) = put ∙ rw (is, zero-at) in
          let more : Indexed (names_in f register_names_offset register_length s.head.registers ++ (n ∷ [])) l' b' = chained f n found most new adds _ refl indexed in
          record {
            kept = omega arith;
            whole =
                λ w.
                record {
                  cells = ap length cells ∙ length-sets f at (kind ∷ length n ∷ n) ∙ w.cells;
                  names = w.names;
                  pending = w.pending;
                  last = more.lasts;
                  before = more.befores;
                };
            meaning =
                λ d h fit.
                let c = h.counts in
                let g = (registered d k kind n).function in
                let all : Indexed (register_names (registered d k kind n)) l' b' =
                rw (map-append (λ (r : Register). r.name) d.function.registers (record { type = kind; name = n } ∷ []))
                (chained f n found most new adds (register_names d) (names_back h) h.indexed) in
                proceeding (register_named d h new)
                (stored h
                (names_register d h.within n short k kind (omega (arith, c.head.registers)) all.once (omega (arith, c.head.registers)))
                cells
                (counts_headed d g c
                (record {
                  ssa = c.head.ssa;
                  result = c.head.result;
                  params = omega (arith, c.head.params);
                  registers = simp length-append (omega (arith, c.head.registers));
                }))
                h.names
                (rw (head.same_kept d g) h.pending)
                all);
          }

  -- ---- a block's name

  module _ {names m l b : List ℕ} {i : ℕ} (found : i ≡ first_named f block_names_offset block_length s.blocks.closed n) where
    pub block_known : i < s.blocks.closed → Acts NoBlock (name_block n p.byte) s (lent_of f names m l b) (Err (fault_at reasons.DeclaredTwice p)) (lent_of f names m l b)
    unfolding name_block
    block_known known =
        refusing reasons.DeclaredTwice p
        (λ d h fit.
        let c = h.counts.blocks.closed in
        let e = block_found h n in
        rw (lt-ltb (block_number d.blocks n) (length d.blocks) (omega arith)))

    block_named : (d : Draftᴸ) → Stands d s (lent_of f names m l b) → s.blocks.closed ≤ i → name_block n p.byte d ≡ ActOutcome.proceed (begun d n)
    unfolding name_block
    block_named d h new = rw (le-ltb (block_number d.blocks n) (length d.blocks) (omega (arith, h.counts.blocks.closed, block_found h n)))

    pub block_put : Bounded s → s.blocks.closed < max_blocks → s.blocks.closed ≤ i → length n ≤ max_name → {f' : List ℕ}
        → f' ≡ sets f (block_names_offset + block_length * s.blocks.closed) (length n ∷ n)
        → Acts NoBlock (name_block n p.byte) s (lent_of f names m l b) (Ok s) (lent_of f' names m l b)
    block_put bounds room new short put =
        storing (block_names_offset + block_length * s.blocks.closed) (length n ∷ n) put bounds
        (λ d h fit.
        let c = h.counts in
        let r : length d.blocks < 64 = omega (arith, c.blocks.closed) in
        let rows = begun_rows d n fit in
        record {
          draft = begun d n;
          steps = block_named d h new;
          counts = counts_blocks d d.blocks (record { name = n; rows = [] }) rows c s.blocks.closed s.blocks.first c.blocks.closed c.blocks.first;
          names = block.same_names d d.blocks (record { name = n; rows = [] }) rows;
          stores = names_block d h.within r n short fit (omega (arith, c.blocks.closed));
        })

-- ---- a block's end

block_ended : (d : Draftᴸ) → end_block d ≡ ActOutcome.proceed (ended d)
unfolding end_block
block_ended d = refl

-- all rows are in closed blocks then
rows_closed : (d : Draftᴸ) {s : Draft} {x : Lent} → Stands d s x → s.blocks.rows ≡ length (rows_in (d.blocks ++ (d.block ∷ [])))
rows_closed d {s} h =
    let bs = d.blocks ++ (d.block ∷ []) in
    let all : open_rows d ≡ rows_in bs = sym (ended_rows d) ∙ open_rows_law (ended d) ∙ append-nil (rows_in bs) in
    h.counts.blocks.rows ∙ ap length all

module _ {s : Draft} {f l b : List ℕ} where
  pub block_closed : Bounded s → s.blocks.closed < max_blocks → {f' f'' : List ℕ}
      → f' ≡ sets f (blocks_offset + block_length * s.blocks.closed) (two_bytes s.blocks.first)
      → f'' ≡ sets f' (blocks_offset + block_length * s.blocks.closed + 2) (two_bytes (s.blocks.rows - s.blocks.first))
      → ActsOn Always end_block s f l b (Ok (blocks_at s (s.blocks.closed + 1) s.blocks.rows)) f''
  block_closed bounds room {f'} {f''} first count names m =
      let k = blocks_offset + block_length * s.blocks.closed in
      let vs = two_bytes s.blocks.first ++ two_bytes (s.blocks.rows - s.blocks.first) in
      let put : f'' ≡ sets f k vs = count ∙ rw (first, add-two) in
      storing k vs put (omega arith)
      (λ d h fit.
      let c = h.counts in
      let bs = d.blocks ++ (d.block ∷ []) in
      let r : length d.blocks < 64 = omega (arith, c.blocks.closed) in
      let all : s.blocks.first + length d.block.rows ≡ s.blocks.rows =
      omega (arith, c.blocks.rows, c.blocks.first, simp length-append at (ap length (open_rows_law d))) in
      let own : s.blocks.rows - s.blocks.first ≡ length d.block.rows = omega arith in
      record {
        draft = ended d;
        steps = block_ended d;
        counts = counts_blocks d bs no_open_block (ended_rows d) c (s.blocks.closed + 1) s.blocks.rows (simp length-append (omega (arith, c.blocks.closed))) (rows_closed d h);
        names = block.same_names d bs no_open_block (ended_rows d);
        stores = rw own (ends_block d h.within r s.blocks.first (all ∙ c.blocks.rows) (omega (arith, c.blocks.closed)));
      })
