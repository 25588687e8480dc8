-- `vocabulary::candidates::first_candidates`: for each byte with which a word begins, and for all others.
use mathlib.Core.Path.{sym, ap, ◌∙◌}
use Rattle.language.specs.Words.{words}
use Rattle.language.specs.Candidates.{candidates}
use Rattle.vocabulary.specs.Chains.{first_candidates}
use Rattle.vocabulary.proofs.ChainLaws.{firsts, no_first}
use Rattle.vocabulary.proofs.candidates.first_candidates.Goals as goal

pub returns-in-97 : goal.returns-in-97
unfolding first_candidates candidates words
returns-in-97 c = c.by_length.ensures ∙ ap first_candidates (sym c.in-97.is)

pub returns-in-98 : goal.returns-in-98
unfolding first_candidates candidates words
returns-in-98 c = c.by_length-in-98.ensures ∙ ap first_candidates (sym c.in-98.is)

pub returns-in-99 : goal.returns-in-99
unfolding first_candidates candidates words
returns-in-99 c = c.by_length-in-99.ensures ∙ ap first_candidates (sym c.in-99.is)

pub returns-in-101 : goal.returns-in-101
unfolding first_candidates candidates words
returns-in-101 c = c.by_length-in-101.ensures ∙ ap first_candidates (sym c.in-101.is)

pub returns-in-102 : goal.returns-in-102
unfolding first_candidates candidates words
returns-in-102 c = c.by_length-in-102.ensures ∙ ap first_candidates (sym c.in-102.is)

pub returns-in-105 : goal.returns-in-105
unfolding first_candidates candidates words
returns-in-105 c = c.by_length-in-105.ensures ∙ ap first_candidates (sym c.in-105.is)

pub returns-in-106 : goal.returns-in-106
unfolding first_candidates candidates words
returns-in-106 c = c.by_length-in-106.ensures ∙ ap first_candidates (sym c.in-106.is)

pub returns-in-108 : goal.returns-in-108
unfolding first_candidates candidates words
returns-in-108 c = c.by_length-in-108.ensures ∙ ap first_candidates (sym c.in-108.is)

pub returns-in-110 : goal.returns-in-110
unfolding first_candidates candidates words
returns-in-110 c = c.by_length-in-110.ensures ∙ ap first_candidates (sym c.in-110.is)

pub returns-in-112 : goal.returns-in-112
unfolding first_candidates candidates words
returns-in-112 c = c.by_length-in-112.ensures ∙ ap first_candidates (sym c.in-112.is)

pub returns-in-114 : goal.returns-in-114
unfolding first_candidates candidates words
returns-in-114 c = c.by_length-in-114.ensures ∙ ap first_candidates (sym c.in-114.is)

pub returns-in-115 : goal.returns-in-115
unfolding first_candidates candidates words
returns-in-115 c = c.by_length-in-115.ensures ∙ ap first_candidates (sym c.in-115.is)

pub returns-in-117 : goal.returns-in-117
unfolding first_candidates candidates words
returns-in-117 c = c.by_length-in-117.ensures ∙ ap first_candidates (sym c.in-117.is)

pub returns-in-118 : goal.returns-in-118
unfolding first_candidates candidates words
returns-in-118 c = c.by_length-in-118.ensures ∙ ap first_candidates (sym c.in-118.is)

pub returns-in_default : goal.returns-in_default
unfolding first_candidates firsts words
returns-in_default c =
    let no = no_first c.args.first c.in_default.in_default-own.rest in
    rw (no 3, no 4, no 5, no 6, no 7, no 8, no 9) c.by_length-in_default.ensures
