-- `vocabulary::candidates::next_candidate`: for each word that another one alike comes after, and for all others.
use mathlib.Core.Path.{sym, ap}
use Rattle.language.specs.Words.{words}
use Rattle.language.specs.Candidates.{candidates}
use Rattle.vocabulary.specs.Chains.{next_alike}
use Rattle.vocabulary.proofs.ChainLaws.{followed, no_next}
use Rattle.vocabulary.proofs.candidates.next_candidate.Goals as goal

pub returns-in-1 : goal.returns-in-1
unfolding next_alike candidates words
returns-in-1 c = ap next_alike (sym c.in-1.is)

pub returns-in-7 : goal.returns-in-7
unfolding next_alike candidates words
returns-in-7 c = ap next_alike (sym c.in-7.is)

pub returns-in-8 : goal.returns-in-8
unfolding next_alike candidates words
returns-in-8 c = ap next_alike (sym c.in-8.is)

pub returns-in-11 : goal.returns-in-11
unfolding next_alike candidates words
returns-in-11 c = ap next_alike (sym c.in-11.is)

pub returns-in-12 : goal.returns-in-12
unfolding next_alike candidates words
returns-in-12 c = ap next_alike (sym c.in-12.is)

pub returns-in-18 : goal.returns-in-18
unfolding next_alike candidates words
returns-in-18 c = ap next_alike (sym c.in-18.is)

pub returns-in-19 : goal.returns-in-19
unfolding next_alike candidates words
returns-in-19 c = ap next_alike (sym c.in-19.is)

pub returns-in-20 : goal.returns-in-20
unfolding next_alike candidates words
returns-in-20 c = ap next_alike (sym c.in-20.is)

pub returns-in-21 : goal.returns-in-21
unfolding next_alike candidates words
returns-in-21 c = ap next_alike (sym c.in-21.is)

pub returns-in-22 : goal.returns-in-22
unfolding next_alike candidates words
returns-in-22 c = ap next_alike (sym c.in-22.is)

pub returns-in-25 : goal.returns-in-25
unfolding next_alike candidates words
returns-in-25 c = ap next_alike (sym c.in-25.is)

pub returns-in-26 : goal.returns-in-26
unfolding next_alike candidates words
returns-in-26 c = ap next_alike (sym c.in-26.is)

pub returns-in-27 : goal.returns-in-27
unfolding next_alike candidates words
returns-in-27 c = ap next_alike (sym c.in-27.is)

pub returns-in-28 : goal.returns-in-28
unfolding next_alike candidates words
returns-in-28 c = ap next_alike (sym c.in-28.is)

pub returns-in-29 : goal.returns-in-29
unfolding next_alike candidates words
returns-in-29 c = ap next_alike (sym c.in-29.is)

pub returns-in-31 : goal.returns-in-31
unfolding next_alike candidates words
returns-in-31 c = ap next_alike (sym c.in-31.is)

pub returns-in-33 : goal.returns-in-33
unfolding next_alike candidates words
returns-in-33 c = ap next_alike (sym c.in-33.is)

pub returns-in-35 : goal.returns-in-35
unfolding next_alike candidates words
returns-in-35 c = ap next_alike (sym c.in-35.is)

pub returns-in-37 : goal.returns-in-37
unfolding next_alike candidates words
returns-in-37 c = ap next_alike (sym c.in-37.is)

pub returns-in-39 : goal.returns-in-39
unfolding next_alike candidates words
returns-in-39 c = ap next_alike (sym c.in-39.is)

pub returns-in-41 : goal.returns-in-41
unfolding next_alike candidates words
returns-in-41 c = ap next_alike (sym c.in-41.is)

pub returns-in-43 : goal.returns-in-43
unfolding next_alike candidates words
returns-in-43 c = ap next_alike (sym c.in-43.is)

pub returns-in-45 : goal.returns-in-45
unfolding next_alike candidates words
returns-in-45 c = ap next_alike (sym c.in-45.is)

pub returns-in_default : goal.returns-in_default
unfolding followed next_alike candidates words
returns-in_default c = no_next c.args.w c.requires c.in_default.in_default-own.rest
