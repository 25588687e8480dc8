-- `lexer::Lexer::gathering`: what the byte adds is kept, and counted.
use Rattle.lexer.proofs.Gathering.{gathers_none, gathers_both, gathers_slash, gathers_one}
use Rattle.lexer.proofs.Lexer.gathering.Goals as goal

pub returns-then-action-eq-ESCAPING : goal.returns-then-action-eq-ESCAPING
returns-then-action-eq-ESCAPING c =
    let a = c.args in
    gathers_none a.self a.action a.b a.held.now c.if-action-eq-ESCAPING.true c.longer_name.ensures

pub returns-then-action-eq-KEEPS_BOTH : goal.returns-then-action-eq-KEEPS_BOTH
returns-then-action-eq-KEEPS_BOTH c =
    let a = c.args in
    gathers_both a.self a.action a.b a.held.now c.if-action-eq-ESCAPING.false c.if-action-eq-KEEPS_BOTH.true c.keep-n.ensures c.keep-m.ensures c.longer_name-then-action-eq-KEEPS_BOTH.ensures

pub returns-then-action-eq-WAITS_NEXT : goal.returns-then-action-eq-WAITS_NEXT
returns-then-action-eq-WAITS_NEXT c =
    let a = c.args in
    gathers_slash a.self a.action a.b a.held.now c.if-action-eq-ESCAPING.false c.if-action-eq-KEEPS_BOTH.false c.keep-n-2.ensures c.if-action-eq-WAITS_NEXT.true c.longer_name-then-action-eq-WAITS_NEXT.ensures

pub returns : goal.returns
returns c =
    let a = c.args in
    gathers_one a.self a.action a.b a.held.now c.if-action-eq-ESCAPING.false c.if-action-eq-KEEPS_BOTH.false c.keep-n-2.ensures c.if-action-eq-WAITS_NEXT.false c.longer_name-2.ensures
