use mathlib.Core.Path.{◌≡◌, refl, ◌∙◌}
use mathlib.Core.List.{List}
use Prim.Native.Nat.{ℕ, ◌+◌, ◌<◌}
use native.Mathlib.Nat.{le_refl}
use native.Mathlib.Omega.{arith}
use lib.ListN.{length, get_or}
use Rattle.language.specs.Bytes.{class_of, class_number}
use Rattle.lexer.specs.declared.Lexer.{Lexer}
use Rattle.lexer.specs.Actions.{action_at}
use Rattle.lexer.specs.Lexing.{left}
use Rattle.lexer.specs.Advancing.{advanced_at, held_after}
use Rattle.lexer.proofs.Stepping.{step_passes, step_finds, passed_none, passed_then, passed_scanned, lexes_nothing, moved_scanned, left_moved, advanced_moved, held_length}
use Rattle.lexer.proofs.Lexer.passing.Invariants.{On}
use Rattle.lexer.proofs.Lexer.passing.Goals as goal

-- one byte more
record More (text : List ℕ) (o : Lexer) (h : List ℕ) (l d : Lexer) (k : List ℕ) : Type 0 where
  on : On text o h d k
  next : d.next ≡ l.next + 1
  moved : o.next < d.next

more : (text : List ℕ) (o : Lexer) (h : List ℕ) (l : Lexer) (g : List ℕ) (d : Lexer) (k : List ℕ) (a : ℕ) → On text o h l g → l.next < length text → get_or text l.next 0 < 256
    → a ≡ action_at l.mode (class_number (class_of (get_or text l.next 0))) (get_or text l.next 0) l.value → a < 32
    → (d ≡ advanced_at l a (get_or text l.next 0) (length g)) × (k ≡ held_after l a (get_or text l.next 0) g) → More text o h l d k
more text o h l g d k a p i small action j q =
    let b = get_or text l.next 0 in
    let room = length g in
    let m = advanced_moved l p.passed.order a b room in
    let s = left_moved text l (advanced_at l a b room) (omega (arith, m.next)) (omega (arith, m.next)) in
    rw (q.0, q.1)
    (record {
      on =
          record {
            passed =
                passed_then text o l (advanced_at l a b room) p.passed
                (step_passes text l b (class_number (class_of b)) a p.passed.order i refl small refl action j g);
            less = omega (arith, s, p.less);
            long = held_length l a b g ∙ p.long;
          };
      next = m.next;
      moved = omega (arith, m.next, p.passed.forth);
    })

pub loop-l-init : goal.loop-l-init
loop-l-init c =
    record { passed = passed_none c.args.text.now c.args.self c.args.held.now (omega (arith, c.requires.1)) c.requires.0; less = le_refl (left c.args.text.now c.args.self); long = refl }

pub finding-requires : goal.finding-requires
finding-requires c = omega (arith, c.loop-l-test.true)

pub shape_of-held-then-a-ge-ENDS : goal.shape_of-held-then-a-ge-ENDS
shape_of-held-then-a-ge-ENDS c = c.loop-l.invariant.long

pub returns-then-a-ge-ENDS : goal.returns-then-a-ge-ENDS
returns-then-a-ge-ENDS c =
    let text = c.args.text.now in
    let l = c.loop-l.l in
    let b = get_or text l.next 0 in
    let small = (c.shared_slice_known-1.given l.next).fits in
    rw c.finding.ensures
    (passed_scanned text c.args.self l _ c.loop-l.invariant.passed c.loop-l.invariant.less
    (step_finds text l b (class_number (class_of b)) c.action-a.result c.loop-l.invariant.passed.order c.loop-l-test.true refl small refl (rw c.class_of-class.ensures at c.action-a.ensures) c.if-a-ge-ENDS.true c.loop-l.held))

pub advanced-l-requires : goal.advanced-l-requires
advanced-l-requires c = omega (arith, c.loop-l-test.true)

pub shape_of-held-then-l-eq-COMMENT : goal.shape_of-held-then-l-eq-COMMENT
shape_of-held-then-l-eq-COMMENT c =
    let text = c.args.text.now in
    let m = more text c.args.self c.args.held.now c.loop-l.l c.loop-l.held c.advanced-l.result _ c.action-a.result c.loop-l.invariant c.loop-l-test.true (c.shared_slice_known-1.given c.loop-l.l.next).fits (rw c.class_of-class.ensures at c.action-a.ensures) c.if-a-ge-ENDS.false c.advanced-l.ensures in
    m.on.long

pub returns-then-l-eq-COMMENT : goal.returns-then-l-eq-COMMENT
returns-then-l-eq-COMMENT c =
    let text = c.args.text.now in
    let m = more text c.args.self c.args.held.now c.loop-l.l c.loop-l.held c.advanced-l.result _ c.action-a.result c.loop-l.invariant c.loop-l-test.true (c.shared_slice_known-1.given c.loop-l.l.next).fits (rw c.class_of-class.ensures at c.action-a.ensures) c.if-a-ge-ENDS.false c.advanced-l.ensures in
    moved_scanned text c.args.self _ (lexes_nothing text c.args.self c.advanced-l.result m.on.passed) m.moved

pub loop-l-smaller : goal.loop-l-smaller
loop-l-smaller c =
    let text = c.args.text.now in
    let m = more text c.args.self c.args.held.now c.loop-l.l c.loop-l.held c.advanced-l.result _ c.action-a.result c.loop-l.invariant c.loop-l-test.true (c.shared_slice_known-1.given c.loop-l.l.next).fits (rw c.class_of-class.ensures at c.action-a.ensures) c.if-a-ge-ENDS.false c.advanced-l.ensures in
    omega (arith, m.next, c.loop-l-test.true)

pub loop-l-preserved : goal.loop-l-preserved
loop-l-preserved c =
    let text = c.args.text.now in
    let m = more text c.args.self c.args.held.now c.loop-l.l c.loop-l.held c.advanced-l.result _ c.action-a.result c.loop-l.invariant c.loop-l-test.true (c.shared_slice_known-1.given c.loop-l.l.next).fits (rw c.class_of-class.ensures at c.action-a.ensures) c.if-a-ge-ENDS.false c.advanced-l.ensures in
    m.on

pub shape_of-held : goal.shape_of-held
shape_of-held c = c.loop-l.invariant.long

pub returns : goal.returns
returns c =
    let text = c.args.text.now in
    moved_scanned text c.args.self _ (lexes_nothing text c.args.self c.loop-l.l c.loop-l.invariant.passed) (omega (arith, c.loop-l-test.false, c.requires.1))
