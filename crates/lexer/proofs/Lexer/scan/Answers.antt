-- `lexer::Lexer::scan`: what passed up to the lexer in hand, and what is found from there.
use mathlib.Core.Path.{refl, sym, ◌∙◌}
use mathlib.Core.List.{[]}
use native.Mathlib.Omega.{arith}
use lib.ListN.{get_or}
use Rattle.language.proofs.TokenSteps.{Idle}
use Rattle.language.specs.Bytes.{class_of, class_number}
use Rattle.lexer.specs.Lexing.{idle_at}
use Rattle.lexer.proofs.Stepping.{passed_then, passed_lexes, passed_scanned, lexes_nothing, moved_scanned, left_same, passed_idle}
use Rattle.lexer.proofs.Passing.{mark_found, plain_found, fresh_is}
use Rattle.lexer.proofs.Lexer.scan.Goals as goal

pub commented-requires : goal.commented-requires
commented-requires c = (c.requires.1, c.if-self-eq-COMMENT.true)

pub returns-then-self-eq-COMMENT : goal.returns-then-self-eq-COMMENT
returns-then-self-eq-COMMENT c =
    let p = c.commented.ensures in
    moved_scanned c.args.text.now c.args.self _ (lexes_nothing c.args.text.now c.args.self c.commented.result (p.0 c.args.held.now)) p.1

pub spaced-l-requires : goal.spaced-l-requires
spaced-l-requires c = (c.requires.0, omega (arith, c.requires.1), c.requires.2)

pub returns-then-text-next : goal.returns-then-text-next
returns-then-text-next c =
    let p = c.spaced-l.ensures.0 c.args.held.now in
    moved_scanned c.args.text.now c.args.self _ (lexes_nothing c.args.text.now c.args.self c.spaced-l.result p) (omega (arith, c.if-text-next.true, c.requires.1))

pub begun-requires : goal.begun-requires
begun-requires c = omega (arith, c.if-text-next.false)

pub returns-then-class-eq-MARK : goal.returns-then-class-eq-MARK
returns-then-class-eq-MARK c =
    let text = c.args.text.now in
    let l = c.spaced-l.result in
    let p = c.spaced-l.ensures.0 c.args.held.now in
    let b = get_or text l.next 0 in
    let k = class_number (class_of b) in
    let small = (c.shared_slice_known-1.given l.next).fits in
    let f = fresh_is l.mode k 6 (sym (rw c.class_of.ensures at c.fresh-class.ensures) ∙ c.if-class-eq-MARK.true) (omega arith) in
    rw (c.single.ensures, c.begun.ensures)
    (passed_scanned text c.args.self l _ p (left_same text c.args.self l p.forth c.spaced-l.ensures.1)
    (mark_found text l b k p.order c.if-text-next.false refl small refl f.0 f.1 c.args.held.now))

pub plain_end-end-requires : goal.plain_end-end-requires
plain_end-end-requires c =
    let l = c.spaced-l.result in
    let k = class_number (class_of (get_or c.args.text.now l.next 0)) in
    record { start_in_bounds = (c.if-text-next.false, c.requires.2); start_value = λ z. (fresh_is l.mode k 0 (sym (rw c.class_of.ensures at c.fresh-class.ensures) ∙ z) (omega arith)).1 }

pub returns-then-next-end : goal.returns-then-next-end
returns-then-next-end c =
    let text = c.args.text.now in
    let h = c.args.held.now in
    let l = c.spaced-l.result in
    let k = class_number (class_of (get_or text l.next 0)) in
    let p = c.spaced-l.ensures.0 h in
    let e = c.plain_end-end.result in
    let q = c.plain_end-end.ensures c.if-next-end.true in
    let f = fresh_is l.mode k 0 (sym (rw c.class_of.ensures at c.fresh-class.ensures) ∙ q.0) (omega arith) in
    rw c.idle.ensures
    (moved_scanned text c.args.self _
    (passed_lexes text c.args.self (idle_at 0 l.next) _
    (passed_then text c.args.self l (idle_at 0 l.next) p (passed_idle Idle.between text l p.within f.0 h))
    (plain_found text h l.next e (omega (arith, c.if-text-next.false)) c.if-next-end.true q.1))
    (omega (arith, p.forth, c.if-next-end.true)))

pub passing-requires : goal.passing-requires
passing-requires c = ((c.spaced-l.ensures.0 []).order, c.if-text-next.false, c.requires.2)

pub returns : goal.returns
returns c =
    let text = c.args.text.now in
    let l = c.spaced-l.result in
    let p = c.spaced-l.ensures.0 c.args.held.now in
    passed_scanned text c.args.self l c.passing.result p (left_same text c.args.self l p.forth c.spaced-l.ensures.1) c.passing.ensures
