-- `vocabulary::lookup::word`: found among its candidates as among all words.
use mathlib.Core.Logic.{inl, inr}
use mathlib.Core.Path.{◌∙◌}
use lib.ListN.{length}
use Rattle.language.specs.Candidates.{first_byte}
use Rattle.vocabulary.proofs.ChainLaws.{first_known, found_from, no_candidate, no_word}
use Rattle.vocabulary.proofs.Packing.{bytes_each}
use Rattle.vocabulary.proofs.lookup.word.Goals as goal

pub returns-then-n-lt-SHORTEST : goal.returns-then-n-lt-SHORTEST
returns-then-n-lt-SHORTEST c = no_word c.args.name.now (inl c.if-n-lt-SHORTEST.true)

pub returns-then-n-gt-LONGEST : goal.returns-then-n-gt-LONGEST
returns-then-n-gt-LONGEST c = no_word c.args.name.now (inr c.if-n-gt-LONGEST.true)

pub returns-then-first-eq-COUNT : goal.returns-then-first-eq-COUNT
returns-then-first-eq-COUNT c =
    let name = c.args.name.now in
    let bytes = bytes_each name (λ k. (c.shared_slice_known-1.given k).fits) in
    no_candidate name c.first_candidate-first.result bytes c.first_candidate-first.ensures c.if-first-eq-COUNT.true

pub among-requires : goal.among-requires
among-requires c =
    let name = c.args.name.now in
    rw c.first_candidate-first.ensures (first_known (length name) (first_byte name))

pub returns : goal.returns
returns c =
    let name = c.args.name.now in
    let bytes = bytes_each name (λ k. (c.shared_slice_known-1.given k).fits) in
    c.among.ensures ∙ found_from name c.first_candidate-first.result c.rest_of.result bytes c.first_candidate-first.ensures c.rest_of.ensures
