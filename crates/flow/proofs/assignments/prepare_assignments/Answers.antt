use Prim.Native.Nat.{ℕ, ◌+◌, ◌<◌}
use mathlib.Core.Path.{◌≡◌, sym}
use mathlib.Core.List.{List, ◌++◌}
use lib.ListN.{length, get_or, take, drop, replicate}
use Rattle.std.proofs.Common.{rules}
use Rattle.std.proofs.lemmas.List.{places, length-take-le}
use Prim.Native.Nat.{◌≤◌}
use native.Mathlib.Omega.{arith}
use Rattle.language.specs.Table.{block_count, block_first, block_rows, rows_before, decode_function}
use Rattle.language.proofs.TableView.{block_first_is}
use Rattle.flow.specs.Sized.{Preparable}
use Rattle.flow.specs.Assignments.{Noted}
use Rattle.flow.proofs.AssignmentLaws.{none_noted, rows_more}
use Rattle.flow.proofs.assignments.prepare_assignments.Goals as goal

module _ (m x : List ℕ) (n v : ℕ) (l : n ≤ length m) where
  filled_length : {k : ℕ} → length m ≡ k → x ≡ replicate (length (take n m)) v → length (x ++ drop n m) ≡ k
  filled_length e r = rw (r, ← e) (search (rules, places))

  filled_is : x ≡ replicate (length (take n m)) v → (u : ℕ) → u < n → get_or (x ++ drop n m) u 0 ≡ v
  filled_is r u h = rw r (search (rules, places))

-- from one block's rows to the next block's
next : (t : List ℕ) (a b : ℕ) (m : List ℕ) → Preparable t a → b < block_count t a → Noted (decode_function t a) m (block_first t a b + block_rows t a b) → Noted (decode_function t a) m (rows_before t a (b + 1))
next t a b m fit l h = rw (rows_more t a b, ← block_first_is t a fit.sized.placed b l) h

pub slice_bounds-fill-end-2 : goal.slice_bounds-fill-end-2
slice_bounds-fill-end-2 c = sym (length-take-le 256 _ (omega (arith, c.requires.1)))

pub block_count-b-end-requires : goal.block_count-b-end-requires
block_count-b-end-requires c = c.requires.0.sized.within

pub loop-b-init : goal.loop-b-init
loop-b-init c = (omega arith, none_noted _ _ (filled_length _ _ 256 0 (omega arith) c.requires.1 (c.fill.ensures.after (λ y e. e))) (filled_is _ _ 256 0 (omega arith) (c.fill.ensures.after (λ y e. e))))

pub note_rows-requires : goal.note_rows-requires
note_rows-requires c =
    let l : c.loop-b.b < block_count c.args.t.now c.args.a = omega arith in
    (c.requires.0, l, rw (block_first_is c.args.t.now c.args.a c.requires.0.sized.placed c.loop-b.b l) c.loop-b.invariant.1)

pub loop-b-preserved : goal.loop-b-preserved
loop-b-preserved c =
    (omega arith, next c.args.t.now c.args.a c.loop-b.b _ c.requires.0 (omega arith) c.note_rows.ensures)

pub shape_of-m : goal.shape_of-m
shape_of-m c = omega (arith, c.loop-b.invariant.1.count, c.requires.1)

pub returns : goal.returns
returns c =
    let e : c.loop-b.b ≡ block_count c.args.t.now c.args.a = omega arith in
    rw e at c.loop-b.invariant.1
