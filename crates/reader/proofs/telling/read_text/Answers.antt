-- `reader::telling::read_text`: fed and closed, the text comes to what its tokens come to.
use mathlib.Core.Path.{◌≡◌, refl, ap, ◌∙◌}
use mathlib.Core.List.{List}
use Prim.Native.Nat.{ℕ}
use native.Mathlib.Omega.{arith}
use lib.ListN.{length, length-set, replicate}
use Rattle.language.specs.Answers.{zeros}
use Rattle.language.specs.Programs.{max_name}
use Rattle.language.specs.Table.{table_length}
use Rattle.drafts.specs.State.{names_length, pending_length}
use Rattle.std.proofs.lemmas.Result.{err_from_is_err_and}
use Rattle.reader.proofs.Fresh.{length_zeros}
use Rattle.reader.proofs.Through.{reached_first, fed_refused, fed_reads, fed_reached, closed_refused, closed_ends, few_ended, told_program}
use Rattle.reader.proofs.Outcomes.{ok_is}
use Rattle.reader.proofs.telling.read_text.Goals as goal

-- all that is lent is zero at the beginning
first : {t : List ℕ} → t ≡ zeros table_length
    → (t ≡ zeros table_length) × (replicate names_length 0 ≡ zeros names_length) × (replicate pending_length 0 ≡ zeros pending_length) × (length (replicate {A = ℕ} max_name 0) ≡ max_name)
unfolding zeros
first e = (e, refl, refl, refl)

pub feed-requires : goal.feed-requires
unfolding zeros
feed-requires c = record { text_len_bound = c.requires.0; table_reached = reached_first _ c.begin.ensures c.requires.1 refl refl refl }

pub returns-in_err-fed : goal.returns-in_err-fed
returns-in_err-fed c = let p = err_from_is_err_and c.from_residual.result c.from_residual.ensures.1 in rw (p.1, p.2) (fed_refused c.args.text.now c.requires.0 c.begin.ensures (first c.requires.1) c.feed.ensures c.in_err-fed.was _)

-- bytes that are not the last end no text, and no function alone is what they come to
pub unreachable-requires : goal.unreachable-requires
unreachable-requires c = fed_reads c.args.text.now c.requires.0 c.begin.ensures (first c.requires.1) c.feed.ensures c.in_ok-fed.was c.in_default.not-Reading

pub feed-requires-2 : goal.feed-requires-2
feed-requires-2 c = record { text_len_bound = c.requires.0; table_reached = fed_reached c.args.text.now c.requires.0 c.begin.ensures (first c.requires.1) c.feed.ensures (ok_is c.in_ok-fed.was c.in-Reading.is) }

pub returns-in_err-closed : goal.returns-in_err-closed
returns-in_err-closed c = let p = err_from_is_err_and c.from_residual-in_err-closed.result c.from_residual-in_err-closed.ensures.1 in rw (p.1, p.2) (closed_refused c.args.text.now c.requires.0 c.begin.ensures (first c.requires.1) c.feed.ensures (ok_is c.in_ok-fed.was c.in-Reading.is) c.feed-2.ensures c.in_err-closed.was _)

-- and the last end it
pub unreachable-requires-in_default-closed : goal.unreachable-requires-in_default-closed
unreachable-requires-in_default-closed c = closed_ends c.args.text.now c.requires.0 c.begin.ensures (first c.requires.1) c.feed.ensures (ok_is c.in_ok-fed.was c.in-Reading.is) c.feed-2.ensures c.in_ok-closed.was c.in_default-closed.not-Ended

pub overflow_cast-t : goal.overflow_cast-t
overflow_cast-t c = record { fits = omega (arith, few_ended c.args.text.now c.requires.0 c.begin.ensures (first c.requires.1) c.feed.ensures (ok_is c.in_ok-fed.was c.in-Reading.is) c.feed-2.ensures (ok_is c.in_ok-closed.was c.in-Ended.is)) }

pub bounds-t-0 : goal.bounds-t-0
bounds-t-0 c =
    let long = c.feed-2.auto.t ∙ c.feed.auto.t ∙ ap length c.requires.1 ∙ length_zeros table_length in
    omega (arith, long)

pub shape_of-t : goal.shape_of-t
shape_of-t c = length-set c.feed-2.new.t 0 _ ∙ c.feed-2.auto.t ∙ c.feed.auto.t

pub returns : goal.returns
returns c = told_program c.args.text.now c.requires.0 c.begin.ensures (first c.requires.1) c.feed.ensures (ok_is c.in_ok-fed.was c.in-Reading.is) c.feed-2.ensures (ok_is c.in_ok-closed.was c.in-Ended.is) refl
