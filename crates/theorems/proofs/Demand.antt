-- Demand 3: acceptance and simulation in one piece.
-- Assumes nothing.
use mathlib.Core.Path.{refl}
use lib.ListN.{get_or}
use Rattle.language.specs.Programs.{no_function}
use Rattle.theorems.specs.Demand3.{Demand3}
use Rattle.theorems.proofs.AcceptanceCheck.{clean_of_check}
use Rattle.theorems.proofs.Acceptance.{no_phi_law, unmarked, accepted_translation}
use Rattle.theorems.proofs.Simulation.{runs_alike}

pub demand3 : Demand3
demand3 p i h =
    let f = get_or p i no_function in
    let c = clean_of_check p i h.passes h.there in
    record {
      defined = refl;
      no_phi = no_phi_law f;
      unmarked = unmarked f;
      accepted = accepted_translation p i h.passes h.there h.marked h.sized;
      runs = λ args a. runs_alike f args c a;
    }
