use Prim.Native.Nat.{ℕ, ◌≤◌}
use mathlib.Core.Path.{◌≡◌, sym, ◌∙◌, subst}
use mathlib.Core.List.{List}
use native.Mathlib.Omega.{arith}
use Rattle.language.specs.Checking.{Verdict, check}
use Rattle.language.specs.Listing.{listing_of}
use Rattle.language.specs.Table.{function_count, decode}
use Rattle.language.proofs.TableView.{function_count_law}
use Rattle.theorems.proofs.TableSound.{accepted_fits}
use Rattle.decimal.specs.Writing.{Written}
use Rattle.decimal.proofs.Writings.{written_then, written_none, written_length}
use Rattle.listing.proofs.Lines.{lines_of, lines_more, function_fits}
use Rattle.language.specs.Programs.{max_functions}
use Rattle.listing.proofs.list_program.Goals as goal

few : (t : List ℕ) {n : ℕ} → n ≡ function_count t → check (decode t) ≡ Verdict.accepted → n ≤ max_functions
few t e h = omega (arith, e, function_count_law t, (accepted_fits (decode t) h).function_count)

pub function_count-i-end-requires : goal.function_count-i-end-requires
function_count-i-end-requires c = omega arith

pub loop-i-init : goal.loop-i-init
unfolding lines_of listing_of
loop-i-init c = (omega arith, written_none c.args.out.now 0)

pub function_at-requires : goal.function_at-requires
function_at-requires c = omega (arith, few c.args.t.now c.function_count-i-end.ensures.0 c.requires.1)

pub put_line-at-requires : goal.put_line-at-requires
put_line-at-requires c =
    let count = c.function_count-i-end.ensures.0 in
    let low = few c.args.t.now count c.requires.1 in (
      omega (arith, low, c.requires.0, c.function_at.ensures),
      rw c.function_at.ensures (function_fits c.args.t.now c.requires.1 c.loop-i.i (rw (sym count) c.loop-i-test.true)),
      omega (arith, low, c.requires.2, c.loop-i.invariant.0, written_length c.loop-i.invariant.1),
      omega (arith, low, c.loop-i.invariant.0),
    )

pub loop-i-preserved : goal.loop-i-preserved
loop-i-preserved c =
    let line = c.put_line-at.ensures in
    let here = rw c.function_at.ensures at line.0 in (
      omega (arith, line.1, c.loop-i.invariant.0),
      rw (lines_more c.args.t.now c.loop-i.i) (written_then c.loop-i.invariant.1 here),
    )

pub shape_of-out : goal.shape_of-out
shape_of-out c = written_length c.loop-i.invariant.1

pub returns : goal.returns
unfolding lines_of decode
returns c =
    let count = c.function_count-i-end.ensures.0 in
    let done : c.loop-i.i ≡ function_count c.args.t.now = let e : c.loop-i.i ≡ c.function_count-i-end.result = omega arith in e ∙ count in
    let low = few c.args.t.now count c.requires.1 in (
      subst (λ (k : ℕ). Written c.args.out.now 0 (lines_of c.args.t.now k) c.loop-i.out c.loop-i.at) done c.loop-i.invariant.1,
      omega (arith, low, c.loop-i.invariant.0),
    )
