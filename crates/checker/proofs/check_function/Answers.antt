-- 9, then the lowest of 10 to 16, then 17.
use Prim.Native.Nat.{ℕ}
use mathlib.Core.Path.{◌≡◌, refl, sym, ap, ◌∙◌}
use mathlib.Core.Bool.{true}
use mathlib.Core.List.{List}
use native.Mathlib.Omega.{arith}
use Rattle.language.specs.Table.{function_at}
use Rattle.laws.proofs.Tests.{of_true}
use Rattle.checker.specs.Notes.{Lowest}
use Rattle.checker.specs.Parts.{sound_at}
use Rattle.checker.proofs.Order.{judged_9, judged_form, judged_17}
use Rattle.checker.proofs.Parts.{Right, right_parts, sized_right, preparable_right, ready_right, formed_right}
use Rattle.checker.proofs.TestLaws.{fell, held}
use Rattle.checker.proofs.check_function.Goals as goal

right : (t : List ℕ) (i : ℕ) → sound_at t i (function_at i) ≡ true → Right t (function_at i) i
right t i e = right_parts t (function_at i) i (of_true (sound_at t i (function_at i)) e)

pub function_at-a-requires : goal.function_at-a-requires
function_at-a-requires c = omega arith

pub sound_at-requires : goal.sound_at-requires
sound_at-requires c = (c.requires.0, c.requires.1, omega (arith, c.function_at-a.ensures))

pub returns-then-not-sound_at : goal.returns-then-not-sound_at
returns-then-not-sound_at c =
    let t = c.args.t.now in
    let i = c.args.i in
    let here = c.function_at-a.ensures in
    rw c.refuse.ensures (judged_9 t i (fell (rw here at c.sound_at.ensures) c.if-not-sound_at.true-raw))

pub prepare_ssa-requires : goal.prepare_ssa-requires
prepare_ssa-requires c =
    let t = c.args.t.now in
    let i = c.args.i in
    let here = c.function_at-a.ensures in
    let sound = held (rw here at c.sound_at.ensures) c.if-not-sound_at.false-raw in
    (rw here (preparable_right t (function_at i) i (omega arith) (right t i sound)), c.requires.2)

pub block_count-requires : goal.block_count-requires
block_count-requires c = omega (arith, c.function_at-a.ensures)

pub note_blocks-low-requires : goal.note_blocks-low-requires
note_blocks-low-requires c =
    let t = c.args.t.now in
    let i = c.args.i in
    let here = c.function_at-a.ensures in
    let sound = held (rw here at c.sound_at.ensures) c.if-not-sound_at.false-raw in
    record { rows_ranged = rw here (ready_right t (function_at i) i (omega arith) (right t i sound) (rw here at c.prepare_ssa.ensures)); blocks_value = c.block_count.ensures.0 }

pub row_place-requires : goal.row_place-requires
row_place-requires c =
    (c.requires.1, omega (arith, c.in-Some.ensures.1.1))

pub returns-in-Some : goal.returns-in-Some
returns-in-Some c =
    let t = c.args.t.now in
    let i = c.args.i in
    let here = c.function_at-a.ensures in
    let sound = held (rw here at c.sound_at.ensures) c.if-not-sound_at.false-raw in
    rw (c.refuse-in-Some.ensures, c.row_place.ensures)
    (judged_form t i sound (rw here at c.in-Some.ensures.0) (λ e. omega (arith, c.in-Some.ensures.1.0)))

pub check_paths-requires : goal.check_paths-requires
check_paths-requires c =
    let t = c.args.t.now in
    let i = c.args.i in
    let here = c.function_at-a.ensures in
    let sound = held (rw here at c.sound_at.ensures) c.if-not-sound_at.false-raw in
    let r = right t i sound in
    let none = ap (λ (x : Lowest). x.number) (sym (rw here at c.in_default.ensures.0)) in
    record { sized = (rw here (sized_right t (function_at i) i (omega arith) r), c.prepare_ssa.ensures, c.requires.1); formed = rw here (formed_right t (function_at i) i r none) }

pub returns : goal.returns
returns c =
    let t = c.args.t.now in
    let i = c.args.i in
    let here = c.function_at-a.ensures in
    let sound = held (rw here at c.sound_at.ensures) c.if-not-sound_at.false-raw in
    (rw here at c.check_paths.ensures) ∙ judged_17 t i sound (rw here at c.in_default.ensures.0) refl
