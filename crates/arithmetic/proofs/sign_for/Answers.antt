-- `arithmetic::sign_for` tests what the definition tests, in its order.
use Rattle.std.proofs.Common.{arith, le-ltb, lt-ltb, eq-eqb, ne_eqb}
use Rattle.language.specs.Instructions.{ari_div_op, ari_neg_op, shr_op, cmp_gt_op, copy_op}
use Rattle.arithmetic.specs.Rooms.{sign_matters}
use Rattle.arithmetic.proofs.sign_for.Goals as goal

pub returns-in-20 : goal.returns-in-20
unfolding sign_matters
returns-in-20 c = rw (eq-eqb _ shr_op c.in-20.is) c.signed.ensures

pub returns-in-12-to-13 : goal.returns-in-12-to-13
unfolding sign_matters
returns-in-12-to-13 c =
    let op = c.args.op in
    rw (ne_eqb op shr_op c.in-12-to-13.in_default-own.rest.1, le-ltb op ari_div_op (omega arith), lt-ltb op ari_neg_op (omega arith)) c.signed-in-12-to-13.ensures

pub returns-in-25-to-29 : goal.returns-in-25-to-29
unfolding sign_matters
returns-in-25-to-29 c =
    let op = c.args.op in
    rw (ne_eqb op shr_op c.in-25-to-29.in_default-own.rest.1, le-ltb op ari_div_op (omega arith), le-ltb op ari_neg_op (omega arith), le-ltb op cmp_gt_op (omega arith), lt-ltb op copy_op (omega arith)) c.signed-in-25-to-29.ensures

pub returns-in_default : goal.returns-in_default
unfolding sign_matters
returns-in_default c =
    let op = c.args.op in
    rw (ne_eqb op shr_op c.in_default.in_default-own.rest.1, lt-ltb op ari_div_op (omega arith))

pub returns-in_default-2 : goal.returns-in_default-2
unfolding sign_matters
returns-in_default-2 c =
    let op = c.args.op in
    rw (ne_eqb op shr_op c.in_default.in_default-own.rest.1, le-ltb op ari_div_op (omega arith), le-ltb op ari_neg_op (omega arith), lt-ltb op cmp_gt_op (omega arith))

pub returns-in_default-3 : goal.returns-in_default-3
unfolding sign_matters
returns-in_default-3 c =
    let op = c.args.op in
    rw (ne_eqb op shr_op c.in_default.in_default-own.rest.1, le-ltb op ari_div_op (omega arith), le-ltb op ari_neg_op (omega arith), le-ltb op cmp_gt_op (omega arith), le-ltb op copy_op (omega arith))
