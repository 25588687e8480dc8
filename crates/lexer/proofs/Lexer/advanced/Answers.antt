-- `lexer::Lexer::advanced` tests what its definition tests, and each call gives that case's value.
use mathlib.Core.Path.{ap, ◌∙◌}
use lib.ListN.{length}
use Rattle.lexer.specs.declared.Lexer.{Lexer}
use Rattle.lexer.specs.Advancing.{gathering_at, held_at}
use Rattle.lexer.proofs.Gathering.{advances_letter, advances_begun, advances_name, advances_number}
use Rattle.lexer.proofs.Lexer.advanced.Goals as goal

pub gathering-requires : goal.gathering-requires
gathering-requires c = rw c.idle.ensures c.requires

pub returns-then-action-eq-BEGINS_PLAIN : goal.returns-then-action-eq-BEGINS_PLAIN
returns-then-action-eq-BEGINS_PLAIN c =
    let a = c.args in
    let i = c.idle.ensures in
    let g = c.gathering.ensures in
    advances_letter a.self a.action a.b a.held.now c.if-action-ge-BEGINS.true c.if-action-eq-BEGINS_PLAIN.true
    (g.0 ∙ ap (λ (l : Lexer). gathering_at l 1 (length a.held.now)) i, g.1 ∙ ap (λ (l : Lexer). held_at l.value 1 a.b a.held.now) i)

pub returns-then-action-ge-BEGINS : goal.returns-then-action-ge-BEGINS
returns-then-action-ge-BEGINS c =
    let a = c.args in
    advances_begun a.self a.action a.b a.held.now c.if-action-ge-BEGINS.true c.if-action-eq-BEGINS_PLAIN.false c.begun.ensures

pub returns-then-action-lt-SIGN : goal.returns-then-action-lt-SIGN
returns-then-action-lt-SIGN c =
    let a = c.args in
    advances_name a.self a.action a.b a.held.now c.if-action-ge-BEGINS.false c.if-action-lt-SIGN.true c.gathering-then-action-lt-SIGN.ensures

pub returns : goal.returns
returns c =
    let a = c.args in
    advances_number a.self a.action a.b a.held.now c.if-action-ge-BEGINS.false c.if-action-lt-SIGN.false c.counted.ensures
