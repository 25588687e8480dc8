-- Five numbers stored one behind the other are a record's bytes. Assumes nothing.
use mathlib.Core.List.{List, ◌++◌}
use mathlib.Core.Path.{◌≡◌, ap, ◌∙◌}
use Prim.Native.Nat.{ℕ, ◌+◌}
use native.Mathlib.Omega.{arith}
use lib.Seq.{sets}
use Rattle.laws.proofs.Cells.{sets_append}
use Rattle.language.specs.Table.{eight_bytes}
use Rattle.records.specs.declared.Record.{Record}
use Rattle.records.specs.Stores.{record_cells}

pub put_five : (s : List ℕ) (k : ℕ) (r : Record) {s1 s2 s3 s4 s5 : List ℕ}
    → s1 ≡ sets s k (eight_bytes r.appliance) → s2 ≡ sets s1 (k + 8) (eight_bytes r.time) → s3 ≡ sets s2 (k + 16) (eight_bytes r.fail)
    → s4 ≡ sets s3 (k + 24) (eight_bytes r.tablet) → s5 ≡ sets s4 (k + 32) (eight_bytes r.reading)
    → s5 ≡ sets s k (record_cells r)
unfolding record_cells
put_five s k r {s1} {s2} {s3} {s4} {s5} e1 e2 e3 e4 e5 =
    let a = eight_bytes r.appliance in
    let b = eight_bytes r.time in
    let c = eight_bytes r.fail in
    let d = eight_bytes r.tablet in
    let e = eight_bytes r.reading in
    let m4 : s5 ≡ sets s3 (k + 24) (d ++ e) = e5 ∙ ap (λ (u : List ℕ). sets u (k + 32) e) e4 ∙ sets_append d e s3 (k + 24) (omega arith) in
    let m3 : s5 ≡ sets s2 (k + 16) (c ++ (d ++ e)) = m4 ∙ ap (λ (u : List ℕ). sets u (k + 24) (d ++ e)) e3 ∙ sets_append c (d ++ e) s2 (k + 16) (omega arith) in
    let m2 : s5 ≡ sets s1 (k + 8) (b ++ (c ++ (d ++ e))) = m3 ∙ ap (λ (u : List ℕ). sets u (k + 16) (c ++ (d ++ e))) e2 ∙ sets_append b (c ++ (d ++ e)) s1 (k + 8) (omega arith) in
    m2 ∙ ap (λ (u : List ℕ). sets u (k + 8) (b ++ (c ++ (d ++ e)))) e1 ∙ sets_append a (b ++ (c ++ (d ++ e))) s k (omega arith)
