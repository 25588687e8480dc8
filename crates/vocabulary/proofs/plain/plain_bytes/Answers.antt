use Rattle.vocabulary.proofs.PlainNames.{rest, rest_small, letter_yes, letter_no, name_yes, name_no, first_no, first_on, byte_no, byte_on, bytes_end}
use Rattle.vocabulary.proofs.plain.plain_bytes.Goals as goal

pub returns-then-classes-from-ne-LETTER : goal.returns-then-classes-from-ne-LETTER
returns-then-classes-from-ne-LETTER c =
    let args = c.args in
    first_no args.name.now
    (letter_no args.name.now args.classes.now 0 c.requires (c.type_inv.name 0).fits c.from.ensures c.if-classes-from-ne-LETTER.true)

pub loop-b-init : goal.loop-b-init
loop-b-init c =
    let args = c.args in
    first_on args.name.now
    (letter_yes args.name.now args.classes.now 0 c.requires (c.type_inv.name 0).fits c.from.ensures c.if-classes-from-ne-LETTER.false)
    c.in-len1-up.len_at_least

pub returns-then-class-gt-DIGIT : goal.returns-then-class-gt-DIGIT
returns-then-class-gt-DIGIT c =
    let args = c.args in
    let i = c.loop-b.b-index in
    byte_no (rest args.name.now) i c.loop-b.invariant c.loop-b-test.true
    (name_no (rest args.name.now) args.classes.now i c.requires (rest_small args.name.now i (λ k. (c.type_inv.name k).fits)) c.from-in-loop-b.ensures c.if-class-gt-DIGIT.true)

pub loop-b-preserved : goal.loop-b-preserved
loop-b-preserved c =
    let args = c.args in
    let i = c.loop-b.b-index in
    byte_on (rest args.name.now) i c.loop-b.invariant c.loop-b-test.true
    (name_yes (rest args.name.now) args.classes.now i c.requires (rest_small args.name.now i (λ k. (c.type_inv.name k).fits)) c.from-in-loop-b.ensures c.if-class-gt-DIGIT.false)

pub returns : goal.returns
returns c = bytes_end (rest c.args.name.now) c.loop-b.b-index c.loop-b.invariant c.loop-b-test.false
