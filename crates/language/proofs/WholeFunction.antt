-- Document 01's whole function: its listing from its bytes, its translation's listing and sizes, and the step formula. (Its runs, P1 to P3, are in
-- Marked.)
-- Assumes nothing.
use mathlib.Core.Path.{◌≡◌, refl, ◌∙◌, ap}
use mathlib.Core.List.{[], ◌∷◌}
use Rattle.language.specs.Bytes.{bytes_of}
use Rattle.language.specs.Checking.{Verdict, check}
use Rattle.language.specs.Translating.{translation, translated_registers, translated_blocks, translated_rows, step_formula}
use Rattle.language.specs.Listing.{listing, listed, judged, listing_of}
use Rattle.language.proofs.Computing.{computing}
use Rattle.language.proofs.ReadingFacts.{reads, turn_text, turn, turn_reads, turn_listing}

-- The text is read, and the check accepts what was read.
pub turn_accepted : check (turn ∷ []) ≡ Verdict.accepted
unfolding computing turn
turn_accepted = refl

-- "Whole output here: `turn`⇥`1`⇥`10`⇥`4`⇥`11`."
pub turn_listed : listing turn_text ≡ bytes_of "turn\t1\t10\t4\t11\n"
unfolding listing
turn_listed = ap listed turn_reads ∙ ap (judged (turn ∷ [])) turn_accepted ∙ turn_listing

-- "Translated: 13, 6, 22." The translation is accepted too, and its listing line has the mark 0.
pub turned_accepted : check (translation turn ∷ []) ≡ Verdict.accepted
unfolding computing turn
turned_accepted = refl

pub turned_listed : listing_of (translation turn ∷ []) ≡ bytes_of "turn\t0\t13\t6\t22\n"
unfolding computing reads turn
turned_listed = refl

pub turned_sizes : translated_registers turn ∷ translated_blocks turn ∷ translated_rows turn ∷ [] ≡ 13 ∷ 6 ∷ 22 ∷ []
unfolding computing turn
turned_sizes = refl

-- "the translation ends after n + f + e": P1 to P3 by the formula.
pub turn_formula :
    step_formula turn (7 ∷ 9 ∷ 0 ∷ []) 9 ∷ step_formula turn (7 ∷ 9 ∷ 1 ∷ []) 16 ∷ step_formula turn (7 ∷ 9 ∷ 2 ∷ []) 23 ∷ [] ≡ 13 ∷ 24 ∷ 35 ∷ []
unfolding computing turn
turn_formula = refl
