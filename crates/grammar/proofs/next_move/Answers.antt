-- `grammar::next_move`: at each kind the helper of that stage.
use mathlib.Core.Path.{◌≡◌, sym, ap, ◌∙◌}
use Prim.Native.Nat.{ℕ, ◌≤◌, ◌<◌}
use native.Mathlib.Decide.{dec_lt}
use native.Mathlib.Omega.{arith}
use lib.ListN.{get_or-eq_default}
use Rattle.laws.proofs.Matches.{None, past}
use Rattle.language.specs.Grammar.{Stage, next_move}
use Rattle.grammar.specs.Meaning.{stages, stage_of, token_of, instruction_at}
use Rattle.grammar.proofs.next_move.Goals as goal

-- the two kinds at which an instruction may stand
instruction_kind : (k m d : ℕ) → 17 ≤ k → k < 19 → stage_of k m d ≡ instruction_at k
instruction_kind k m d h i = elim (dec_lt k 18) [ yes l ↦ (let e : k ≡ 17 = omega arith in rw e) | no l ↦ (let e : k ≡ 18 = omega arith in rw e) ]

pub returns-in-0 : goal.returns-in-0
unfolding next_move
returns-in-0 c s = rw c.in-0.is (c.top.ensures s)

pub returns-in-1 : goal.returns-in-1
unfolding next_move
returns-in-1 c s = rw c.in-1.is (c.header.ensures s)

pub returns-in-2 : goal.returns-in-2
unfolding next_move
returns-in-2 c s = rw c.in-2.is (c.result.ensures s)

pub returns-in-3 : goal.returns-in-3
unfolding next_move
returns-in-3 c s = rw c.in-3.is (c.function_name.ensures s)

pub returns-in-4 : goal.returns-in-4
unfolding next_move
returns-in-4 c s = rw c.in-4.is (rw c.to.ensures at (c.mark.ensures s))

pub returns-in-5 : goal.returns-in-5
unfolding next_move
returns-in-5 c s = rw c.in-5.is (c.first_parameter.ensures s)

pub returns-in-6 : goal.returns-in-6
unfolding next_move
returns-in-6 c s = rw c.in-6.is (c.parameter.ensures s)

pub returns-in-7 : goal.returns-in-7
unfolding next_move
returns-in-7 c s = rw c.in-7.is (c.parameter_end.ensures s)

pub returns-in-8 : goal.returns-in-8
unfolding next_move
returns-in-8 c s = rw c.in-8.is (c.parameter_name.ensures s)

pub returns-in-9 : goal.returns-in-9
unfolding next_move
returns-in-9 c s = rw c.in-9.is (rw c.to-in-9.ensures at (c.mark-in-9.ensures s))

pub returns-in-10 : goal.returns-in-10
unfolding next_move
returns-in-10 c s = rw c.in-10.is (c.declarations.ensures s)

pub returns-in-11 : goal.returns-in-11
unfolding next_move
returns-in-11 c s = rw c.in-11.is (c.register_type.ensures s)

pub returns-in-12 : goal.returns-in-12
unfolding next_move
returns-in-12 c s = rw c.in-12.is (rw c.to-in-12.ensures at (c.mark-in-12.ensures s))

pub returns-in-13 : goal.returns-in-13
unfolding next_move
returns-in-13 c s = rw c.in-13.is (c.register_name.ensures s)

pub returns-in-14 : goal.returns-in-14
unfolding next_move
returns-in-14 c s = rw c.in-14.is (c.blocks-in-14.ensures s)

pub returns-in-15 : goal.returns-in-15
unfolding next_move
returns-in-15 c s = rw c.in-15.is (c.block_name.ensures s)

pub returns-in-16 : goal.returns-in-16
unfolding next_move
returns-in-16 c s = rw c.in-16.is (rw c.to-in-16.ensures at (c.mark-in-16.ensures s))

pub returns-in-19 : goal.returns-in-19
unfolding next_move
returns-in-19 c s = rw c.in-19.is (rw c.to-in-19.ensures at (c.mark-in-19.ensures s))

pub returns-in-20 : goal.returns-in-20
unfolding next_move
returns-in-20 c s = rw c.in-20.is (c.instruction.ensures s)

pub returns-in-21 : goal.returns-in-21
unfolding next_move
returns-in-21 c s = rw c.in-21.is (c.source.ensures s)

pub returns-in-22 : goal.returns-in-22
unfolding next_move
returns-in-22 c s = rw c.in-22.is (c.source_comma.ensures s)

pub returns-in-23 : goal.returns-in-23
unfolding next_move
returns-in-23 c s = rw c.in-23.is (c.operand.ensures s)

pub returns-in-24 : goal.returns-in-24
unfolding next_move
returns-in-24 c s = rw c.in-24.is (c.number.ensures s)

pub returns-in-25 : goal.returns-in-25
unfolding next_move
returns-in-25 c s = rw c.in-25.is (c.entry.ensures s)

pub returns-in-26 : goal.returns-in-26
unfolding next_move
returns-in-26 c s = rw c.in-26.is (c.entry_end.ensures s)

pub returns-in-27 : goal.returns-in-27
unfolding next_move
returns-in-27 c s = rw c.in-27.is (c.mention.ensures s)

pub returns-in-28 : goal.returns-in-28
unfolding next_move
returns-in-28 c s = rw c.in-28.is (c.mention_comma.ensures s)

pub returns-in-29 : goal.returns-in-29
unfolding next_move
returns-in-29 c s = rw c.in-29.is (rw c.to-in-29.ensures at (c.mark-in-29.ensures s))

pub returns-in-17 : goal.returns-in-17
unfolding next_move
returns-in-17 c s =
    let x = c.args.stage in
    c.next_instruction.ensures s ∙ ap (λ (y : Stage). next_move y (token_of s c.args.token)) (sym (instruction_kind x.kind x.more x.detail (past 17 x.kind c.in-17.in_default-own.rest.0.0.0.0.0.0.0.0.0.0.0) c.in-17.if-kind-lt19-own.true))

pub returns-in_default : goal.returns-in_default
unfolding next_move
returns-in_default c s =
    let x = c.args.stage in
    let none : None 17 x.kind = c.in_default.in_default-own.rest.0.0.0.0.0.0.0.0.0.0.0 in
    let far : 19 ≤ x.kind = c.in_default.if-kind-lt19-own.false in
    let all : None 30 x.kind = (((((((((((((none, λ e. omega (arith, e)), λ e. omega (arith, e)), c.in_default.in_default-own.rest.0.0.0.0.0.0.0.0.0.0.1), c.in_default.in_default-own.rest.0.0.0.0.0.0.0.0.0.1), c.in_default.in_default-own.rest.0.0.0.0.0.0.0.0.1), c.in_default.in_default-own.rest.0.0.0.0.0.0.0.1), c.in_default.in_default-own.rest.0.0.0.0.0.0.1), c.in_default.in_default-own.rest.0.0.0.0.0.1), c.in_default.in_default-own.rest.0.0.0.0.1), c.in_default.in_default-own.rest.0.0.0.1), c.in_default.in_default-own.rest.0.0.1), c.in_default.in_default-own.rest.0.1), c.in_default.in_default-own.rest.1) in
    let e = get_or-eq_default (stages x.more x.detail) Stage.instruction_end (past 30 x.kind all) in
    rw e (rw c.to-in_default.ensures at (c.mark-in_default.ensures s))
