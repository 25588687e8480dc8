use mathlib.Core.Path.{◌≡◌, refl, sym, ap, ◌∙◌}
use mathlib.Core.List.{List}
use Prim.Native.Nat.{ℕ, ◌+◌, ◌<◌}
use native.Mathlib.Nat.{add-zero}
use native.Mathlib.Numerals.{add-one}
use native.Mathlib.Omega.{arith}
use lib.ListN.{length-set}
use Rattle.language.specs.Table.{phi_first, phi_count, phi_entry}
use Rattle.machine.specs.Phis.{Readable}
use Rattle.machine.proofs.PhiLoops.{upto_none, taken_more}
use Rattle.machine.proofs.phis.read_phis.Goals as goal

-- the next entry is one phi's entries further on
further : {t : List ℕ} {a first n k : ℕ} {g : List ℕ} → Readable t a first n k g → (i e c : ℕ) → i < n → e ≡ phi_first t a (first + i) + k → c ≡ phi_count t a first
    → i + 1 < n → e + c ≡ phi_first t a (first + (i + 1)) + k
further {t} {a} {first} r i e c l h q m =
    let next : phi_first t a (first + (i + 1)) ≡ phi_first t a (first + i) + phi_count t a first =
    ap (λ z. phi_first t a (first + z)) (add-one i) ∙ r.stride i (omega arith) in
    omega arith

pub phi_count-count-requires : goal.phi_count-count-requires
phi_count-count-requires c = (c.requires.in_table.0, omega (arith, c.requires.readable.some, c.requires.readable.rows))

pub phi_first-requires : goal.phi_first-requires
phi_first-requires c = (c.requires.in_table.0, omega (arith, c.requires.readable.some, c.requires.readable.rows))

pub overflow_add-e : goal.overflow_add-e
overflow_add-e c =
    omega (arith, c.requires.readable.entry 0 c.requires.readable.some, ap (phi_first c.args.t.now c.args.a) (add-zero c.args.first), c.phi_first.ensures.0)

pub loop-i-init : goal.loop-i-init
loop-i-init c =
    (omega arith, refl, upto_none _ _, λ l. ap (λ z. z + c.args.k) (c.phi_first.ensures.0 ∙ ap (phi_first c.args.t.now c.args.a) (sym (add-zero c.args.first))))

pub phi_entry-requires : goal.phi_entry-requires
phi_entry-requires c =
    (c.requires.in_table.0, omega (arith, c.loop-i.invariant.3 c.loop-i-test.true, c.requires.readable.entry c.loop-i.i c.loop-i-test.true))

pub bounds-registers-phi_entry : goal.bounds-registers-phi_entry
bounds-registers-phi_entry c =
    let test = c.loop-i-test.true in
    let e = c.phi_entry.ensures.0 ∙ ap (phi_entry c.args.t.now c.args.a) (c.loop-i.invariant.3 test) in
    rw e (c.requires.readable.source c.loop-i.i test)

pub overflow_add-e-in-loop-i : goal.overflow_add-e-in-loop-i
overflow_add-e-in-loop-i c =
    let test = c.loop-i-test.true in
    omega (arith, c.loop-i.invariant.3 test, c.requires.readable.entry c.loop-i.i test, c.phi_count-count.ensures.1)

pub loop-i-preserved : goal.loop-i-preserved
loop-i-preserved c =
    let test = c.loop-i-test.true in
    let here = c.loop-i.invariant.3 test in
    let e = c.phi_entry.ensures.0 ∙ ap (phi_entry c.args.t.now c.args.a) here in (
      omega arith,
      simp length-set c.loop-i.invariant.1,
      taken_more c.args.t.now c.args.a c.args.first c.args.k c.args.registers.now c.loop-i.i c.loop-i.taken c.phi_entry.result (omega arith) e c.loop-i.invariant.2,
      further c.requires.readable c.loop-i.i c.loop-i.e _ test here c.phi_count-count.ensures.0,
    )

pub shape_of-taken : goal.shape_of-taken
shape_of-taken c = c.loop-i.invariant.1

pub returns : goal.returns
returns c =
    let e : c.loop-i.i ≡ c.args.n = omega arith in
    rw e at c.loop-i.invariant.2
