-- A function's closing brace against the definition: refused without an entry block, refused at the first mention of no block, or closed.
-- Assumes nothing.
use mathlib.Core.Path.{◌≡◌, refl, sym, ap, ◌∙◌}
use mathlib.Core.List.{List, [], ◌∷◌, ◌++◌}
use Prim.Native.Nat.{ℕ, ◌+◌, ◌*◌, ◌≤◌, ◌<◌}
use native.Mathlib.Nat.{le_refl}
use native.Mathlib.Omega.{arith}
use lib.Dec.{lit<}
use lib.ListN.{length, get_or}
use lib.Seq.{sets}
use borrow.Author.Tests.{lt-ltb, le-ltb}
use Rattle.laws.specs.Lists.{gather}
use Rattle.laws.proofs.Cells.{at_sets}
use Rattle.laws.proofs.Every.{Every, every_imp, every_left, every_gathered}
use Rattle.laws.proofs.Sections.{at_cell}
use Rattle.table.specs.Named.{first_named}
use Rattle.language.specs.Programs.{Func, max_functions, max_blocks}
use Rattle.language.specs.Table.{name_at, four, block_count, predecessor_lists, cells_listing, function_cells, block_length, block_names_offset, function_length, name_length}
use Rattle.language.specs.Reading.{Draft as Draftᴸ, Mention, no_mention, OpenBlock, ActOutcome, mentions_in, open_rows, block_number, resolve, fresh, end_function}
use Rattle.predecessors.specs.Listing.{FunctionStands, no_lists}
use Rattle.text_place.specs.declared.TextPlace.{TextPlace}
use Rattle.drafts.specs.Cells.{head_bytes}
use Rattle.drafts.specs.Ending.{block_named, Resolved, patch_rows}
use Rattle.drafts.specs.Mentions.{name_number, mentions_of, kept}
use Rattle.drafts.specs.State.{fault_at, Lent, lent_of, Stands, Closes, EndsFunction, NothingOpen, fresh_at, mention_length}
use Rattle.drafts.specs.declared.state.Draft.{Draft}
use Rattle.std.specs.Prelude.{Ok, Err}
use Rattle.answers.specs.declared.reasons.Reason.{Reason}
use Rattle.answers.specs.declared.reasons.Reason.TheVariants as reasons
use Rattle.answers.specs.Reasons.{reason_number}
use Rattle.drafts.proofs.BraceLaws.{kept_name, Declared, AllDeclared, FirstUnknown, all_kept, none_undeclared, first_undeclared}
use Rattle.drafts.proofs.Closing.{closed_function, closes, unlisted_stands, listed_closes}
use Rattle.drafts.proofs.FreshLaws.{bounded_fresh}
use Rattle.drafts.proofs.Patching.{FoundIn, patched_cells, rows_patched}
use Rattle.drafts.proofs.StateLaws.{block_found, names_closed}

-- The first eight cells of a function, from its numbers.
abbrev pub head_at : Draft → ℕ → List ℕ
head_at s entry = head_bytes s.head.ssa s.head.result s.head.params s.head.registers s.blocks.closed entry

-- the count of blocks is in its cell
pub head_count : (s : Draft) (entry : ℕ) (f f' : List ℕ) → length f ≡ function_length → f' ≡ sets f 0 (head_at s entry) → block_count f' 0 ≡ s.blocks.closed
head_count s entry f f' h e = ap (λ (u : List ℕ). block_count u 0) e ∙ at_cell 0 (at_sets (head_at s entry) f 0 (omega arith)) 6 (lit< tt) refl

-- What putting down the lists does to every function that stands at cell 0.
abbrev Lists : (f f' : List ℕ) → Type 0
Lists f f' = (g : Func) (before behind : List ℕ) → FunctionStands f 0 (no_lists g) g before behind → FunctionStands f' 0 (predecessor_lists g) g before behind

-- ---- a draft that the numbers stand for

module _ {d : Draftᴸ} {s : Draft} {x : Lent} (h : Stands d s x) (none : NothingOpen d) where
  abbrev bs : List OpenBlock
  bs = d.blocks

  abbrev few : length d.blocks ≤ max_blocks
  few = h.within.blocks

  no_entry : (p : ℕ) → length bs ≤ block_number bs [] → end_function p d ≡ ActOutcome.refuse 8 p
  unfolding end_function
  no_entry p l = rw (le-ltb (block_number bs []) (length bs) l)

  block_of_name : (k : ℕ) → k < length (kept d) → block_named x.cells s.blocks.closed x.pending k ≡ block_number bs (get_or (kept d) k no_mention).name
  block_of_name k b = block_found h (name_at x.pending (mention_length * k)) ∙ ap (block_number bs) (h.pending k b).0

  module _ {r : ℕ} {found : List ℕ} (z : Resolved x.cells s.blocks.closed x.pending s.blocks.names r found) where
    declared : (k : ℕ) → k < r → Declared bs (get_or (kept d) k no_mention)
    declared k b =
        omega (arith, block_of_name k (omega (arith, z.most, h.counts.blocks.names)), z.named k b, h.counts.blocks.closed)

    all_declared : s.blocks.names ≤ r → AllDeclared bs (kept d)
    all_declared l k b = declared k (omega (arith, h.counts.blocks.names))

    first_missing : r < s.blocks.names → FirstUnknown bs few (kept d) r
    first_missing l =
        let b : r < length (kept d) = omega (arith, h.counts.blocks.names) in
        record {
          inside = b;
          before = declared;
          here = λ c. absurd (omega (arith, z.missing l, block_of_name r b, h.counts.blocks.closed));
        }

    undeclared_at : r < s.blocks.names → (p : ℕ) → block_number bs [] < length bs
        → end_function p d ≡ ActOutcome.refuse 7 (four x.pending (mention_length * r + name_length))
    unfolding end_function
    undeclared_at l p i =
        let w = first_undeclared d few none r (first_missing l) in
        rw (lt-ltb (block_number bs []) (length bs) i, w.1, (h.pending r (omega (arith, h.counts.blocks.names))).1)

    -- every jump's names are resolved
    found_one : s.blocks.names ≤ r → (m : Mention) → name_number (kept d) m.name < length (kept d) → get_or found (name_number (kept d) m.name) 0 ≡ block_number bs m.name
    found_one l m b =
        let k : ℕ = name_number (kept d) m.name in
        (z.named k (omega (arith, h.counts.blocks.names))).0 ∙ block_of_name k b ∙ ap (block_number bs) (kept_name (kept d) m.name b)

    found_all : s.blocks.names ≤ r → Every (λ m. get_or found (name_number (kept d) m.name) 0 ≡ block_number bs m.name) (gather mentions_in (open_rows d) ++ d.parts.mentions)
    unfolding kept mentions_of
    found_all l = every_imp (found_one l) (all_kept bs few (mentions_of d) (all_declared l))

    found_rows : s.blocks.names ≤ r → Every (FoundIn (kept d) bs found) (open_rows d)
    found_rows l = every_gathered mentions_in (open_rows d) (every_left (gather mentions_in (open_rows d)) d.parts.mentions (found_all l))

    function_ended : s.blocks.names ≤ r → (p : ℕ) → block_number bs [] < length bs → end_function p d ≡ ActOutcome.proceed (fresh (d.functions ++ (closed_function d ∷ [])))
    unfolding end_function
    function_ended l p i = rw (lt-ltb (block_number bs []) (length bs) i, none_undeclared d few none (all_declared l))

    -- ---- the function is closed

    head_of : (entry : ℕ) → entry ≡ block_number bs [] → head_at s entry
        ≡ head_bytes d.function.ssa d.function.result d.function.params (length d.function.registers) (length bs) (block_number bs [])
    head_of entry e =
        let c = h.counts.head in
        rw (e, c.ssa, c.result, c.params, c.registers, h.counts.blocks.closed)

    cells_unlisted : s.blocks.names ≤ r → {entry : ℕ} {f₁ f₂ : List ℕ} → entry ≡ block_number bs [] → f₁ ≡ patch_rows x.cells found s.blocks.rows
        → f₂ ≡ sets f₁ 0 (head_at s entry) → f₂ ≡ cells_listing (no_lists (closed_function d)) (closed_function d)
    cells_unlisted l {entry} {f₁} e p q =
        let n = length (open_rows d) in
        let rows : f₁ ≡ patched_cells d h.within n =
        p ∙ ap (patch_rows x.cells found) h.counts.blocks.rows ∙ ap (λ (f : List ℕ). patch_rows f found n) h.cells
        ∙ rows_patched d h.within found (found_rows l) n (le_refl n) in
        q ∙ ap (λ (f : List ℕ). sets f 0 (head_at s entry)) rows ∙ ap (sets (patched_cells d h.within n) 0) (head_of entry e)
        ∙ closes d h.within none

    -- and its lists are put down
    cells_closed : {f₂ f₃ : List ℕ} → f₂ ≡ cells_listing (no_lists (closed_function d)) (closed_function d) → Lists f₂ f₃ → f₃ ≡ function_cells (closed_function d)
    cells_closed e lists = listed_closes d h.within none (lists (closed_function d) [] [] (unlisted_stands d h.within none e))

  closed_name : (closed_function d).name ≡ d.function.name
  unfolding resolve
  closed_name = refl

-- ---- the three ends

module _ (s : Draft) (f pend : List ℕ) (p : TextPlace) {entry : ℕ} (found_entry : entry ≡ first_named f block_names_offset block_length s.blocks.closed []) (n l b : List ℕ) where
  abbrev lent : Lent
  lent = lent_of f n pend l b

  entry_is : (d : Draftᴸ) → Stands d s lent → entry ≡ block_number d.blocks []
  entry_is d h = found_entry ∙ block_found h []

  refuses : (k : Reason) (q : TextPlace) → ((d : Draftᴸ) → Stands d s lent → NothingOpen d → end_function p.byte d ≡ ActOutcome.refuse (reason_number k) q.byte)
      → EndsFunction p.byte s lent (Err (fault_at k q)) lent
  refuses k q same = record { kept = tt; whole = λ w. w; meaning = λ d h none. rw (same d h none) (Closes.refuses (fault_at k q)) }

  -- no block has the empty name
  pub ends_without_entry : s.blocks.closed ≤ entry → EndsFunction p.byte s lent (Err (fault_at reasons.NoEntry p)) lent
  ends_without_entry c = refuses reasons.NoEntry p (λ d h none. no_entry h none p.byte (omega (arith, entry_is d h, h.counts.blocks.closed)))

  module _ {r : ℕ} {found : List ℕ} (i : entry < s.blocks.closed) (z : Resolved f s.blocks.closed pend s.blocks.names r found) where
    has_entry : (d : Draftᴸ) → Stands d s lent → block_number d.blocks [] < length d.blocks
    has_entry d h = omega (arith, entry_is d h, h.counts.blocks.closed)

    pub ends_undeclared : (q : TextPlace) → r < s.blocks.names → q.byte ≡ four pend (mention_length * r + name_length)
        → EndsFunction p.byte s lent (Err (fault_at reasons.NotDeclared q)) lent
    ends_undeclared q m e = refuses reasons.NotDeclared q (λ d h none. undeclared_at h none z m p.byte (has_entry d h) ∙ ap (ActOutcome.refuse 7) (sym e))

    pub ends_closed : {s' : Draft} {f₁ f₂ f₃ : List ℕ} → s.functions < max_functions → s' ≡ fresh_at (s.functions + 1) → s.blocks.names ≤ r
        → f₁ ≡ patch_rows f found s.blocks.rows → f₂ ≡ sets f₁ 0 (head_at s entry) → Lists f₂ f₃ → length f₃ ≡ length f
        → EndsFunction p.byte s lent (Ok s') (lent_of f₃ n pend l b)
    ends_closed {s'} {f₃ = f₃} less e m u v lists size =
        rw e
        (record {
          kept = bounded_fresh (s.functions + 1) (omega arith);
          whole = λ w. record { cells = size ∙ w.cells; names = w.names; pending = w.pending; last = w.last; before = w.before };
          meaning =
              λ d h none.
              let g = closed_function d in
              let cells : f₃ ≡ function_cells g = cells_closed h none z (cells_unlisted h none z m (entry_is d h) u v) lists in
              rw (function_ended h none z m p.byte (has_entry d h), h.counts.functions)
              (Closes.closes d.functions g (omega (arith, h.counts.functions)) cells (names_closed h g (closed_name h none)));
        })
