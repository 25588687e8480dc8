-- Names do not matter to the tests of rows, to paths and to runs: two functions that are alike but for names have the same.
-- Assumes nothing.
use mathlib.Core.Bool.{Bool, cond, not, ◌&&◌, ◌||◌, beq}
use mathlib.Core.List.{List, [], ◌∷◌, ◌++◌, map}
use mathlib.Core.Path.{◌≡◌, refl, sym, ◌∙◌, ap, subst}
use Prim.Native.Nat.{ℕ, zero, suc, ◌+◌, ◌-◌, ◌^◌}
use lib.Dec.{T, eqb, ltb}
use lib.ListN.{length, get_or, set, take, drop, replicate, length-map, get_or-map}
use Rattle.laws.specs.Lists.{any, all, keep, position, empty, gather, sum, below, member, together}
use Rattle.language.specs.Instructions.{width, load_type, uint, void, cmp_eq_op, conv_op, shl_op}
use Rattle.language.specs.Arithmetic.{unary_of, binary_of}
use Rattle.language.specs.Programs.{Row, Register, Block, Func, no_register, no_block, no_row, rows_at, type_at, rows_of, first_row, is_phi, is_terminator, targets_of, sources_of, entries_of, named_by, op_of, max_blocks}
use Rattle.language.specs.Checking.{Spot, last_row, goes_to, predecessors, row_number, assigned_in, shaped, number_fits, in_range, typed, breaks9, breaks10, breaks11, breaks12, breaks13, breaks14, breaks15, breaks16, row_tests, breaks_row, Path, Late, Missing}
use Rattle.language.specs.Running.{Place, Next, counted, onward, value_at, phis_of, write_all, came_by, phi_step, assign, perform, step, start, start_registers, Run, after, run_of, row_here, first_unfit}
use Rattle.theorems.specs.RoundTrip.{AlikeButNames, NamesDoNotMatter}

-- ---- what goes by the rows of blocks and the types of registers alone

gather_rows : (bs : List Block) → gather (λ b. b.rows) bs ≡ gather (λ rs. rs) (map (λ b. b.rows) bs)
gather_rows [] = refl
gather_rows (b ∷ bs) = ap (λ (rs : List Row). b.rows ++ rs) (gather_rows bs)

count_rows : (n : ℕ) (bs : List Block) → sum (map (λ b. length b.rows) (take n bs)) ≡ sum (map length (take n (map (λ b. b.rows) bs)))
count_rows zero bs = refl
count_rows (suc n) [] = refl
count_rows (suc n) (b ∷ bs) = ap (λ (k : ℕ). length b.rows + k) (count_rows n bs)

fit_types :
    (rs : List Register) (args : List ℕ)
    → together (λ r v. ltb v (2 ^ width r.type)) rs args ≡ together (λ t v. ltb v (2 ^ width t)) (map (λ r. r.type) rs) args
fit_types [] args = refl
fit_types (r ∷ rs) [] = refl
fit_types (r ∷ rs) (v ∷ args) = ap (λ (l : List Bool). ltb v (2 ^ width r.type) ∷ l) (fit_types rs args)

module _ (f g : Func) (h : AlikeButNames f g) where
  -- ---- its parts

  pub rows_alike : (b : ℕ) → rows_at g b ≡ rows_at f b
  rows_alike b =
      sym (get_or-map (λ b. b.rows) g.blocks b no_block) ∙ ap (λ (l : List (List Row)). get_or l b []) h.rows
      ∙ get_or-map (λ b. b.rows) f.blocks b no_block

  type_alike : (r : ℕ) → type_at g r ≡ type_at f r
  type_alike r =
      sym (get_or-map (λ r. r.type) g.registers r no_register) ∙ ap (λ (l : List ℕ). get_or l r 0) h.types
      ∙ get_or-map (λ r. r.type) f.registers r no_register

  pub registers_alike : length g.registers ≡ length f.registers
  registers_alike = sym (length-map g.registers (λ r. r.type)) ∙ ap length h.types ∙ length-map f.registers (λ r. r.type)

  pub blocks_alike : length g.blocks ≡ length f.blocks
  blocks_alike = sym (length-map g.blocks (λ b. b.rows)) ∙ ap length h.rows ∙ length-map f.blocks (λ b. b.rows)

  pub all_rows_alike : rows_of g ≡ rows_of f
  unfolding rows_of
  all_rows_alike = gather_rows g.blocks ∙ ap (gather (λ rs. rs)) h.rows ∙ sym (gather_rows f.blocks)

  pub first_alike : (b : ℕ) → first_row g b ≡ first_row f b
  unfolding first_row
  first_alike b = count_rows b g.blocks ∙ ap (λ (l : List (List Row)). sum (map length (take b l))) h.rows ∙ sym (count_rows b f.blocks)

  number_alike : (s : Spot) → row_number g s ≡ row_number f s
  unfolding row_number
  number_alike s = ap (λ (n : ℕ). n + s.index) (first_alike s.block)

  goes_alike : (x y : ℕ) → goes_to g x y ≡ goes_to f x y
  unfolding goes_to
  goes_alike x y = ap (λ (rs : List Row). member y (named_by (last_row rs))) (rows_alike x)

  predecessors_alike : (b : ℕ) → predecessors g b ≡ predecessors f b
  unfolding predecessors
  predecessors_alike b = λ i. keep (λ x. goes_alike x b i) (below (blocks_alike i))

  -- ---- the tests of a row, 9 to 16

  pub range_alike : (r : Row) → in_range g r ≡ in_range f r
  unfolding in_range
  range_alike r =
      λ i.
      shaped r && all (λ u. ltb u (registers_alike i)) (targets_of r ++ (sources_of r ++ entries_of r)) && all (λ b. ltb b (blocks_alike i)) (named_by r)
      && number_fits r

  typed_alike : (r : Row) → typed g r ≡ typed f r
  unfolding typed
  typed_alike Row.nop = refl
  typed_alike (Row.load op t n) = λ i. eqb (type_alike t i) (load_type op)
  typed_alike (Row.unary op t s) = λ i. eqb op conv_op || eqb (type_alike t i) (type_alike s i)
  typed_alike (Row.binary op t l r) =
      λ i.
      cond (ltb op shl_op) (eqb (type_alike t i) (type_alike l i) && eqb (type_alike l i) (type_alike r i))
      (cond (ltb op cmp_eq_op) (eqb (type_alike t i) (type_alike l i) && eqb (type_alike r i) uint) (eqb (type_alike l i) (type_alike r i) && eqb (type_alike t i) uint))
  typed_alike (Row.phi t es) = λ i. all (λ e. eqb (type_alike e i) (type_alike t i)) es
  typed_alike (Row.jump b) = refl
  typed_alike (Row.branch s x y) = λ i. eqb (type_alike s i) uint
  typed_alike (Row.return s) = λ i. eqb (type_alike s i) (h.result i)
  typed_alike Row.leave = λ i. eqb (h.result i) void
  typed_alike (Row.unknown op) = refl

  module _ (s : Spot) where
    alike9 : breaks9 g s ≡ breaks9 f s
    unfolding breaks9
    alike9 = ap not (range_alike s.row)

    alike10 : breaks10 g s ≡ breaks10 f s
    unfolding breaks10
    alike10 = ap (λ (rs : List Row). not (beq (is_terminator s.row) (eqb (suc s.index) (length rs)))) (rows_alike s.block)

    alike11 : breaks11 g s ≡ breaks11 f s
    unfolding breaks11
    alike11 = ap not (typed_alike s.row)

    alike12 : breaks12 g s ≡ breaks12 f s
    unfolding breaks12
    alike12 =
        λ i.
        eqb (h.ssa i) 1 && any (λ t. ltb t (h.params i) || assigned_in (take (number_alike s i) (all_rows_alike i)) t) (targets_of s.row)

    alike13 : breaks13 g s ≡ breaks13 f s
    unfolding breaks13
    alike13 = ap (λ (m : ℕ). cond (eqb m 1) (eqb (op_of s.row) 30) (is_phi s.row)) h.ssa

    alike14 : breaks14 g s ≡ breaks14 f s
    unfolding breaks14
    alike14 = λ i. is_phi s.row && (eqb s.block (h.entry i) || any (λ r. not (is_phi r)) (take s.index (rows_alike s.block i)))

    alike15 : breaks15 g s ≡ breaks15 f s
    unfolding breaks15
    alike15 =
        ap (λ (ps : List ℕ). is_phi s.row && (empty (entries_of s.row) || not (eqb (length (entries_of s.row)) (length ps))))
        (predecessors_alike s.block)

    alike16 : breaks16 g s ≡ breaks16 f s
    unfolding breaks16
    alike16 = λ i. eqb (h.ssa i) 1 && any (λ u. not (ltb u (h.params i) || assigned_in (all_rows_alike i) u)) (sources_of s.row ++ entries_of s.row)

    pub breaks_alike : breaks_row g s ≡ breaks_row f s
    unfolding breaks_row row_tests
    breaks_alike =
        λ i.
        any (λ b. b) (alike9 i ∷ alike10 i ∷ alike11 i ∷ alike12 i ∷ alike13 i ∷ alike14 i ∷ alike15 i ∷ alike16 i ∷ [])

  -- ---- 17

  path_alike : {b : ℕ} {xs : List ℕ} → Path g b xs → Path f b xs
  path_alike Path.here = subst (λ (b : ℕ). Path f b []) (sym h.entry) Path.here
  path_alike (Path.on {x = x} p y t) = Path.on (path_alike p) y (subst T (goes_alike x y) t)

  late_alike : (u b j : ℕ) → Late g u b j → Late f u b j
  late_alike u b j l =
      record {
        local = subst (λ (n : ℕ). T (not (ltb u n))) h.params l.local;
        through = l.through;
        path = path_alike l.path;
        unassigned = subst T (λ i. all (λ x. not (assigned_in (rows_alike x i) u)) l.through) l.unassigned;
        before = subst (λ (rs : List Row). T (not (assigned_in (take j rs) u))) (rows_alike b) l.before;
      }

  pub missing_alike : (s : Spot) → Missing g s → Missing f s
  missing_alike s (Missing.source u m l) = Missing.source u m (late_alike u s.block s.index l)
  missing_alike s (Missing.entry k m n l) =
      let same = predecessors_alike s.block in
      let u = get_or (entries_of s.row) k 0 in
      Missing.entry k m (subst (λ (ps : List ℕ). T (ltb k (length ps))) same n)
      (subst (λ (ps : List ℕ). Late f u (get_or ps k 0) (length (rows_at f (get_or ps k 0)))) same
      (subst (λ (n : ℕ). Late f u (get_or (predecessors g s.block) k 0) n) (ap length (rows_alike (get_or (predecessors g s.block) k 0)))
      (late_alike u (get_or (predecessors g s.block) k 0) (length (rows_at g (get_or (predecessors g s.block) k 0))) l)))

  -- ---- runs

  phi_alike : (p : Place) (r : List ℕ) → phi_step g p r ≡ phi_step f p r
  unfolding phi_step came_by
  phi_alike p r =
      λ i.
      let rows = rows_alike p.block i in
      cond (any is_phi (drop (suc p.row) rows)) (onward p r)
      (onward p (write_all r (position (λ x. eqb x p.before) (predecessors_alike p.block i)) r (phis_of rows)))

  perform_alike : (p : Place) (v : List ℕ) (r : Row) → perform g p v r ≡ perform f p v r
  unfolding perform
  perform_alike p v Row.nop = refl
  perform_alike p v (Row.load op t n) = refl
  perform_alike p v (Row.unary op t s) = λ i. onward p (set v t (unary_of op (type_alike s i) (type_alike t i) (value_at v s)))
  perform_alike p v (Row.binary op t l r) = λ i. assign p v t (binary_of op (type_alike l i) (value_at v l) (value_at v r))
  perform_alike p v (Row.phi t es) = phi_alike p v
  perform_alike p v (Row.jump b) = refl
  perform_alike p v (Row.branch s x y) = refl
  perform_alike p v (Row.return s) = refl
  perform_alike p v Row.leave = refl
  perform_alike p v (Row.unknown op) = refl

  step_alike : (p : Place) (v : List ℕ) → step g p v ≡ step f p v
  unfolding step row_here
  step_alike p v =
      perform_alike p v (row_here g p) ∙ ap (λ (rs : List Row). perform f p v (get_or rs p.row no_row)) (rows_alike p.block)

  after_alike : (n : ℕ) (p : Place) (v : List ℕ) → after n g p v ≡ after n f p v
  unfolding after
  after_alike zero p v = refl
  after_alike (suc n) p v =
      ap (λ (x : Next). elim x [ Next.go q w ↦ after n g q w | Next.end o ↦ Run.ended o (counted p) v ]) (step_alike p v)
      ∙ by (step f p v) (after_alike n)
    where
      by :
          (x : Next)
          → ((q : Place) (w : List ℕ) → after n g q w ≡ after n f q w)
          → ◌≡◌ {A = Run} (elim x [ Next.go q w ↦ after n g q w | Next.end o ↦ Run.ended o (counted p) v ])
          (elim x [ Next.go q w ↦ after n f q w | Next.end o ↦ Run.ended o (counted p) v ])
      by (Next.go q w) ih = ih q w
      by (Next.end o) ih = refl

  run_alike : (args : List ℕ) (n : ℕ) → run_of g args n ≡ run_of f args n
  unfolding run_of start start_registers
  run_alike args n =
      after_alike n (start g) (start_registers g args)
      ∙ (λ i.
      after n f (record { block = h.entry i; before = max_blocks; row = zero; steps = zero }) (args ++ replicate (registers_alike i - length args) 0))

  pub unfit_alike : (args : List ℕ) → first_unfit g args ≡ first_unfit f args
  unfolding first_unfit
  unfit_alike args =
      ap (position (λ b. not b))
      (fit_types g.registers args ∙ ap (λ (ts : List ℕ). together (λ t v. ltb v (2 ^ width t)) ts args) h.types ∙ sym (fit_types f.registers args))

pub names_do_not_matter : NamesDoNotMatter
names_do_not_matter f g args n h = run_alike f g h args n
