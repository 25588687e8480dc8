-- What a clean function's rows and blocks are like, in the parts that its translation keeps.
-- Assumes nothing.
use mathlib.Core.Path.{◌≡◌, refl, sym, ap, ◌∙◌, subst}
use mathlib.Core.Bool.{Bool, true, false, cond, not, ◌&&◌, ◌||◌, beq, true≢false, false≢true}
use mathlib.Core.List.{List, [], ◌∷◌, ◌++◌}
use Prim.Native.Nat.{ℕ, zero, suc, ◌<◌, suc-le-suc}
use native.Mathlib.Nat.{not-suc-le-zero, le_of_suc-le-suc, zero-lt-suc}
use native.Mathlib.Omega.{arith}
use borrow.Author.Tests.{ne_eqb}
use lib.Dec.{T, eqb, ltb, ltb→lt, eqb→eq, eqb-suc-suc, not_T}
use lib.Ieee.Bits.{is_true}
use lib.Ieee.Fits.{and_l, and_r, and_i}
use lib.ListN.{length, get_or, length-append}
use Rattle.laws.specs.Lists.{empty}
use Rattle.laws.proofs.Tests.{of_not_false, beq_eq}
use Rattle.laws.proofs.Every.{Every, none, more, every_append, every_of, every_imp, every_all, every_keep, every_under, all_under}
use Rattle.laws.proofs.Gather.{keep_append}
use Rattle.language.specs.Instructions.{form_of, form_number, instruction_count}
use Rattle.language.specs.Programs.{Row, Func, rows_at, type_at, is_phi, is_terminator, targets_of, sources_of, entries_of, named_by}
use Rattle.language.specs.Checking.{Spot, spot_at, breaks_row, last_row, predecessors, shaped, number_fits, in_range, typed, breaks9, breaks10, breaks11, breaks15}
use Rattle.language.specs.Running.{phi_target, phis_of}
use Rattle.language.specs.Translating.{kept_of}
use Rattle.theorems.specs.Clean.{Clean}
use Rattle.language.proofs.FormLaws.{form_within}
use Rattle.theorems.proofs.AcceptanceCheck.{passes_each}

-- ---- phi and terminators

-- What holds of every phi as it is written holds of every row that is a phi.
pub phi_only : (P : Row → Type 0) → ((t : ℕ) (es : List ℕ) → P (Row.phi t es)) → (r : Row) → T (is_phi r) → P r
phi_only P g Row.nop h = absurd h
phi_only P g (Row.load op t n) h = absurd h
phi_only P g (Row.unary op t s) h = absurd h
phi_only P g (Row.binary op t l r) h = absurd h
phi_only P g (Row.phi t es) h = g t es
phi_only P g (Row.jump b) h = absurd h
phi_only P g (Row.branch s x y) h = absurd h
phi_only P g (Row.return s) h = absurd h
phi_only P g Row.leave h = absurd h
phi_only P g (Row.unknown op) h = absurd h

pub terminator_plain : (r : Row) → is_terminator r ≡ true → T (not (is_phi r))
terminator_plain r e =
    not_T (is_phi r) (λ h. phi_only (λ r. is_terminator r ≡ true → ⊥) (λ t es z. false≢true z) r h e)

-- Only a terminator names a block.
pub names_none : (r : Row) → is_terminator r ≡ false → named_by r ≡ []
names_none Row.nop e = refl
names_none (Row.load op t n) e = refl
names_none (Row.unary op t s) e = refl
names_none (Row.binary op t l r) e = refl
names_none (Row.phi t es) e = refl
names_none (Row.jump b) e = absurd (true≢false e)
names_none (Row.branch s x y) e = absurd (true≢false e)
names_none (Row.return s) e = refl
names_none Row.leave e = refl
names_none (Row.unknown op) e = refl

-- Only a phi has entries.
pub entries_none : (r : Row) → is_phi r ≡ false → entries_of r ≡ []
entries_none Row.nop e = refl
entries_none (Row.load op t n) e = refl
entries_none (Row.unary op t s) e = refl
entries_none (Row.binary op t l r) e = refl
entries_none (Row.phi t es) e = absurd (true≢false e)
entries_none (Row.jump b) e = refl
entries_none (Row.branch s x y) e = refl
entries_none (Row.return s) e = refl
entries_none Row.leave e = refl
entries_none (Row.unknown op) e = refl

-- ---- 9 of a row, in parts

pub record InRange (f : Func) (r : Row) : Type 0 where
  pub shape : T (shaped r)
  pub registers : Every (λ u. u < length f.registers) (targets_of r ++ (sources_of r ++ entries_of r))
  pub blocks : Every (λ b. b < length f.blocks) (named_by r)
  pub number : T (number_fits r)

pub range_parts : (f : Func) (r : Row) → T (in_range f r) → InRange f r
unfolding in_range
range_parts f r h =
    record {
      shape = search (and_l, and_r);
      registers = every_under (length f.registers) (targets_of r ++ (sources_of r ++ entries_of r)) (search (and_l, and_r));
      blocks = every_under (length f.blocks) (named_by r) (search (and_l, and_r));
      number = search (and_l, and_r);
    }

pub parts_range : (f : Func) (r : Row) → InRange f r → T (in_range f r)
unfolding in_range
parts_range f r h =
    let registers = all_under (length f.registers) h.registers in
    let blocks = all_under (length f.blocks) h.blocks in
    search and_i

-- ---- 10: a terminator at the end of a block, and none earlier

pub record Ended (rows : List Row) : Type 0 where
  pub body : List Row
  pub last : Row
  pub split : rows ≡ body ++ (last ∷ [])
  pub plain : Every (λ r. is_terminator r ≡ false) body
  pub ends : is_terminator last ≡ true

pub ended_of :
    (rows : List Row)
    → 0 < length rows
    → ((j : ℕ) → j < length rows → is_terminator (get_or rows j Row.nop) ≡ eqb (suc j) (length rows))
    → Ended rows
ended_of [] l h = absurd (not-suc-le-zero l)
ended_of (r ∷ []) l h = record { body = []; last = r; split = refl; plain = none; ends = h zero l }
ended_of (r ∷ (s ∷ rs)) l h =
    let n = length rs in
    let e = ended_of (s ∷ rs) (zero-lt-suc n) (λ j m. h (suc j) (suc-le-suc m) ∙ eqb-suc-suc (suc j) (suc n)) in
    record {
      body = r ∷ e.body;
      last = e.last;
      split = ap {B = List Row} (λ t. r ∷ t) e.split;
      plain = more (h zero l ∙ ne_eqb 1 (suc (suc n)) (λ z. omega arith)) e.plain;
      ends = e.ends;
    }

ends_at :
    (body : List Row) (last : Row)
    → Every (λ r. is_terminator r ≡ false) body
    → is_terminator last ≡ true
    → (j : ℕ)
    → j < length (body ++ (last ∷ []))
    → is_terminator (get_or (body ++ (last ∷ [])) j Row.nop) ≡ eqb (suc j) (length (body ++ (last ∷ [])))
ends_at [] last none e zero l = e
ends_at [] last none e (suc j) l = absurd (not-suc-le-zero (le_of_suc-le-suc l))
ends_at (b ∷ bs) last (more p h) e zero l =
    p ∙ sym (ne_eqb 1 (suc (length (bs ++ (last ∷ [])))) (λ z. omega (arith, length-append bs (last ∷ []))))
ends_at (b ∷ bs) last (more p h) e (suc j) l =
    ends_at bs last h e j (le_of_suc-le-suc l) ∙ sym (eqb-suc-suc (suc j) (length (bs ++ (last ∷ []))))

pub ended_at :
    (rows : List Row)
    → Ended rows
    → (j : ℕ)
    → j < length rows
    → is_terminator (get_or rows j Row.nop) ≡ eqb (suc j) (length rows)
ended_at rows e =
    subst (λ rs. (j : ℕ) → j < length rs → is_terminator (get_or rs j Row.nop) ≡ eqb (suc j) (length rs)) (sym e.split)
    (ends_at e.body e.last e.plain e.ends)

pub ended_filled : (rows : List Row) → Ended rows → 0 < length rows
ended_filled rows e = rw (e.split, length-append) (omega arith)

last_row_append : (body : List Row) (last : Row) → last_row (body ++ (last ∷ [])) ≡ last
last_row_append [] last = refl
last_row_append (b ∷ []) last = refl
last_row_append (b ∷ (d ∷ bs)) last = last_row_append (d ∷ bs) last

pub ended_last : (rows : List Row) (e : Ended rows) → last_row rows ≡ e.last
ended_last rows e = ap last_row e.split ∙ last_row_append e.body e.last

-- What holds of the blocks that the last row names holds of the blocks that any row names.
pub names_last :
    {G : ℕ → Type 0} (rows : List Row) (e : Ended rows)
    → Every G (named_by e.last)
    → Every (λ r. Every G (named_by r)) rows
names_last {G} rows e h =
    rw e.split (every_append (every_imp (λ r q. rw (names_none r q) none) e.plain) (more h none))

-- The rows that are no phi end as all rows do.
pub kept_split : (rows : List Row) (e : Ended rows) → kept_of rows ≡ kept_of e.body ++ (e.last ∷ [])
unfolding kept_of
kept_split rows e =
    ap kept_of e.split
    ∙ keep_append (λ r. not (is_phi r)) e.body (e.last ∷ [])
    ∙ ap (λ b. kept_of e.body ++ cond b (e.last ∷ []) [])
    (is_true (not (is_phi e.last)) (terminator_plain e.last e.ends))

-- ---- the rows of a clean function

counted_of : (a b c : Bool) → (a && (b || not c)) ≡ false → T a → T c
counted_of true true c e h = absurd (true≢false e)
counted_of true false c e h = of_not_false c e
counted_of false b c e h = absurd h

-- What a row that passes says, number by number.
module _ (f : Func) (s : Spot) (e : breaks_row f s ≡ false) where
  pub in_range_law : InRange f s.row
  unfolding breaks9
  in_range_law = range_parts f s.row (of_not_false (in_range f s.row) (passes_each f s e 9 tt))

  pub terminates : is_terminator s.row ≡ eqb (suc s.index) (length (rows_at f s.block))
  unfolding breaks10
  terminates =
      let b = eqb (suc s.index) (length (rows_at f s.block)) in
      beq_eq (is_terminator s.row) b (of_not_false (beq (is_terminator s.row) b) (passes_each f s e 10 tt))

  pub well_typed : T (typed f s.row)
  unfolding breaks11
  well_typed = of_not_false (typed f s.row) (passes_each f s e 11 tt)

  pub entry_each : T (is_phi s.row) → length (entries_of s.row) ≡ length (predecessors f s.block)
  unfolding breaks15
  entry_each h =
      let es = entries_of s.row in
      let n = length (predecessors f s.block) in
      eqb→eq (length es) n (counted_of (is_phi s.row) (empty es) (eqb (length es) n) (passes_each f s e 15 tt) h)

-- A row that is no instruction breaks 9.
pub unknown_out : (f : Func) (op : ℕ) → T (in_range f (Row.unknown op)) → ⊥
unfolding shaped
unknown_out f op h =
    let form = eqb (form_number (form_of op)) 9 in
    let s : T (ltb op instruction_count && form) = (range_parts f (Row.unknown op) h).shape in
    let l = ltb→lt op instruction_count (and_l (ltb op instruction_count) form s) in
    let n = eqb→eq (form_number (form_of op)) 9 (and_r (ltb op instruction_count) form s) in
    omega (arith, form_within op l)

-- A row of block y, by 9, 11 and 15.
pub record Source (f : Func) (y : ℕ) (r : Row) : Type 0 where
  pub range : InRange f r
  pub types : T (typed f r)
  pub count : T (is_phi r) → length (entries_of r) ≡ length (predecessors f y)

pub source_rows : (f : Func) → Clean f → (y : ℕ) → Every (Source f y) (rows_at f y)
source_rows f c y =
    every_of Row.nop (rows_at f y)
    (λ j l.
    let s = spot_at f y j in
    let e = c.rows y j l in
    record { range = in_range_law f s e; types = well_typed f s e; count = entry_each f s e })

pub source_ended : (f : Func) → Clean f → (y : ℕ) → y < length f.blocks → Ended (rows_at f y)
source_ended f c y l = ended_of (rows_at f y) (c.filled y l) (λ j m. terminates f (spot_at f y j) (c.rows y j m))

-- A phi of block y: its registers are the function's and of one type, its entries as many as the block's predecessors.
pub record Phi (f : Func) (y : ℕ) (r : Row) : Type 0 where
  pub target : phi_target r < length f.registers
  pub entries : Every (λ e. e < length f.registers) (entries_of r)
  pub types : Every (λ e. type_at f e ≡ type_at f (phi_target r)) (entries_of r)
  pub count : length (entries_of r) ≡ length (predecessors f y)

phi_parts :
    (f : Func) (y t : ℕ) (es : List ℕ)
    → Every (λ e. e < length f.registers) (t ∷ es)
    → T (typed f (Row.phi t es))
    → length es ≡ length (predecessors f y)
    → Phi f y (Row.phi t es)
unfolding typed
phi_parts f y t es (more p k) q c =
    record {
      target = p;
      entries = k;
      types =
          every_imp (λ e. eqb→eq (type_at f e) (type_at f t)) (every_all (λ e. eqb (type_at f e) (type_at f t)) es q);
      count = c;
    }

pub source_phis : (f : Func) → Clean f → (y : ℕ) → Every (Phi f y) (phis_of (rows_at f y))
unfolding phis_of
source_phis f c y =
    let parts : (t : ℕ) (es : List ℕ) → Source f y (Row.phi t es) → Phi f y (Row.phi t es) =
    λ t es s. phi_parts f y t es s.range.registers s.types (s.count tt)
    in
    every_keep is_phi (phi_only (λ r. Source f y r → Phi f y r) parts) (source_rows f c y)
