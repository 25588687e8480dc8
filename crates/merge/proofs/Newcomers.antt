-- A record of a new appliance makes a store longer by one, any other leaves its length. Assumes nothing.
use mathlib.Core.List.{List, [], ◌∷◌}
use mathlib.Core.Path.{◌≡◌, refl, sym, ◌∙◌, ap}
use Prim.Native.Nat.{suc}
use native.Mathlib.Omega.{arith}
use lib.ListN.{length}
use Rattle.records.specs.declared.Record.{Record}
use Rattle.records.specs.Stores.{FoundRecord, insert, lookup, Rising}
use Rattle.records.proofs.Storing.{by_order, above_rising, above_none, none_found, lookup_here, lookup_past}

pub longer_by_one : (r : Record) (es : List Record) → lookup r.appliance es ≡ FoundRecord.none → length (insert r es) ≡ suc (length es)
longer_by_one r [] n = refl
longer_by_one r (e ∷ es) n =
    by_order (λ (fs : List Record). length fs ≡ suc (suc (length es))) r.appliance e.appliance (λ l. refl)
    (λ d. absurd (none_found (sym n ∙ lookup_here r.appliance e es (sym d))))
    (λ l. ap suc (longer_by_one r es (sym (lookup_past r.appliance e es (λ d. absurd (omega arith))) ∙ n)))

pub as_long : (r : Record) (es : List Record) {w : Record} → Rising es → lookup r.appliance es ≡ FoundRecord.found w → length (insert r es) ≡ length es
as_long r [] h n = absurd (none_found n)
as_long r (e ∷ es) h n =
    by_order (λ (fs : List Record). length fs ≡ suc (length es)) r.appliance e.appliance
    (λ l. absurd (none_found (sym (above_none r.appliance (e ∷ es) (above_rising r.appliance e es l h)) ∙ n))) (λ d. refl)
    (λ l. ap suc (as_long r es h.1 (sym (lookup_past r.appliance e es (λ d. absurd (omega arith))) ∙ n)))
