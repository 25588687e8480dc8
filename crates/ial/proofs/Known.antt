-- An answer is known by its numbers. Assumes nothing.
use mathlib.Core.Path.{◌≡◌, refl, sym, ap, ◌∙◌}
use mathlib.Core.Bool.{cond}
use Prim.Native.Nat.{ℕ}
use native.Mathlib.Omega.{arith}
use lib.Dec.{eqb}
use Rattle.std.specs.Prelude.{⊤, Ok, Err}
use Rattle.std.specs.declared.result.Result.{Result}
use Rattle.language.specs.Checking.{Verdict as Verdictᴸ}
use Rattle.answers.specs.declared.reasons.Reason.{Reason}
use Rattle.answers.specs.declared.reasons.Reason.TheVariants as reasons
use Rattle.answers.specs.declared.reasons.Stop.{Stop}
use Rattle.answers.specs.declared.reasons.Stop.TheVariants as stops
use Rattle.answers.specs.declared.reasons.Refusal.{Refusal}
use Rattle.answers.specs.declared.Ran.{Ran}
use Rattle.answers.specs.declared.Ran.TheVariants as rans
use Rattle.answers.specs.Reasons.{reason_number, stop_number}
use Rattle.answers.specs.Cases.{verdict_of, ran_of, wrote_of}

-- ---- a reason and a stop by their numbers

abbrev reason_of : ℕ → Reason
reason_of n =
    cond (eqb n 1) reasons.TextTooLong
    (cond (eqb n 2) reasons.NoToken
    (cond (eqb n 3) reasons.TokenNotAllowed
    (cond (eqb n 4) reasons.NumberOutOfRange
    (cond (eqb n 5) reasons.SizeExceeded
    (cond (eqb n 6) reasons.DeclaredTwice
    (cond (eqb n 7) reasons.NotDeclared
    (cond (eqb n 8) reasons.NoEntry
    (cond (eqb n 9) reasons.TableUnsound
    (cond (eqb n 10) reasons.TerminatorMisplaced
    (cond (eqb n 11) reasons.TypesWrong
    (cond (eqb n 12) reasons.AssignedTwice
    (cond (eqb n 13) reasons.MarkMismatched
    (cond (eqb n 14) reasons.PhiMisplaced
    (cond (eqb n 15) reasons.PhiMiscounted
    (cond (eqb n 16) reasons.NeverAssigned
    (cond (eqb n 17) reasons.LateAssigned
    (cond (eqb n 20) reasons.ArgumentsWrong
    (cond (eqb n 21) reasons.NoSuchFunction
    (cond (eqb n 22) reasons.LengthWrong
    (cond (eqb n 30) reasons.NotSsa
    (cond (eqb n 31) reasons.TranslationTooLarge
    (cond (eqb n 32) reasons.BufferTooShort
    (cond (eqb n 33) reasons.WrittenTooLong
    (cond (eqb n 60) reasons.StoreFull reasons.NoLimitFunction))))))))))))))))))))))))

numbered : (r : Reason) → reason_of (reason_number r) ≡ r
numbered reasons.TextTooLong = refl
numbered reasons.NoToken = refl
numbered reasons.TokenNotAllowed = refl
numbered reasons.NumberOutOfRange = refl
numbered reasons.SizeExceeded = refl
numbered reasons.DeclaredTwice = refl
numbered reasons.NotDeclared = refl
numbered reasons.NoEntry = refl
numbered reasons.TableUnsound = refl
numbered reasons.TerminatorMisplaced = refl
numbered reasons.TypesWrong = refl
numbered reasons.AssignedTwice = refl
numbered reasons.MarkMismatched = refl
numbered reasons.PhiMisplaced = refl
numbered reasons.PhiMiscounted = refl
numbered reasons.NeverAssigned = refl
numbered reasons.LateAssigned = refl
numbered reasons.ArgumentsWrong = refl
numbered reasons.NoSuchFunction = refl
numbered reasons.LengthWrong = refl
numbered reasons.NotSsa = refl
numbered reasons.TranslationTooLarge = refl
numbered reasons.BufferTooShort = refl
numbered reasons.WrittenTooLong = refl
numbered reasons.StoreFull = refl
numbered reasons.NoLimitFunction = refl

abbrev stop_of : ℕ → Stop
stop_of n = cond (eqb n 40) stops.ZeroDivisor (cond (eqb n 41) stops.ShiftTooFar (cond (eqb n 42) stops.QuotientOverflows stops.BudgetUsedUp))

stop_numbered : (s : Stop) → stop_of (stop_number s) ≡ s
stop_numbered stops.ZeroDivisor = refl
stop_numbered stops.ShiftTooFar = refl
stop_numbered stops.QuotientOverflows = refl
stop_numbered stops.BudgetUsedUp = refl

pub stop_known : (s x : Stop) → stop_number s ≡ stop_number x → s ≡ x
stop_known s x e = sym (stop_numbered s) ∙ ap stop_of e ∙ stop_numbered x

pub refusal_known : (e f : Refusal) → reason_number e.reason ≡ reason_number f.reason → e.place ≡ f.place → e ≡ f
refusal_known e f a b =
    let same : e.reason ≡ f.reason = sym (numbered e.reason) ∙ ap reason_of a ∙ numbered f.reason in
    ap (λ (r : Reason). record { reason = r; place = e.place }) same ∙ ap (λ (p : ℕ). record { reason = f.reason; place = p }) b

-- ---- answers

pub verdict_known : (v w : Result ⊤ Refusal) → verdict_of v ≡ verdict_of w → v ≡ w
verdict_known (Ok u) (Ok v) e = refl
verdict_known (Ok u) (Err f) e = absurd (let z : ◌≡◌ {A = ℕ} 0 1 = cc in omega arith)
verdict_known (Err f) (Ok u) e = absurd (let z : ◌≡◌ {A = ℕ} 0 1 = cc in omega arith)
verdict_known (Err f) (Err g) e =
    let a : reason_number f.reason ≡ reason_number g.reason = cc in
    let b : f.place ≡ g.place = cc in
    ap (λ (x : Refusal). Err x) (refusal_known f g a b)

pub ran_known : (x y : Result Ran Refusal) → ran_of x ≡ ran_of y → x ≡ y
ran_known (Ok (rans.Returned v s)) (Ok (rans.Returned w k)) e =
    let a : v ≡ w = cc in
    let b : s ≡ k = cc in
    rw (a, b) refl
ran_known (Ok (rans.Returned v s)) (Ok (rans.Left k)) e = absurd (let z : ◌≡◌ {A = ℕ} 0 1 = cc in omega arith)
ran_known (Ok (rans.Returned v s)) (Ok (rans.Stopped m q k)) e = absurd (let z : ◌≡◌ {A = ℕ} 0 1 = cc in omega arith)
ran_known (Ok (rans.Returned v s)) (Err g) e = absurd (let z : ◌≡◌ {A = ℕ} 0 1 = cc in omega arith)
ran_known (Ok (rans.Left s)) (Ok (rans.Returned w k)) e = absurd (let z : ◌≡◌ {A = ℕ} 0 1 = cc in omega arith)
ran_known (Ok (rans.Left s)) (Ok (rans.Left k)) e =
    let a : s ≡ k = cc in
    rw a refl
ran_known (Ok (rans.Left s)) (Ok (rans.Stopped m q k)) e = absurd (let z : ◌≡◌ {A = ℕ} 0 1 = cc in omega arith)
ran_known (Ok (rans.Left s)) (Err g) e = absurd (let z : ◌≡◌ {A = ℕ} 0 1 = cc in omega arith)
ran_known (Ok (rans.Stopped n p s)) (Ok (rans.Returned w k)) e = absurd (let z : ◌≡◌ {A = ℕ} 0 1 = cc in omega arith)
ran_known (Ok (rans.Stopped n p s)) (Ok (rans.Left k)) e = absurd (let z : ◌≡◌ {A = ℕ} 0 1 = cc in omega arith)
ran_known (Ok (rans.Stopped n p s)) (Ok (rans.Stopped m q k)) e =
    let a : stop_number n ≡ stop_number m = cc in
    let b : p ≡ q = cc in
    let c : s ≡ k = cc in
    rw (stop_known n m a, b, c) refl
ran_known (Ok (rans.Stopped n p s)) (Err g) e = absurd (let z : ◌≡◌ {A = ℕ} 0 1 = cc in omega arith)
ran_known (Err f) (Ok (rans.Returned w k)) e = absurd (let z : ◌≡◌ {A = ℕ} 0 1 = cc in omega arith)
ran_known (Err f) (Ok (rans.Left k)) e = absurd (let z : ◌≡◌ {A = ℕ} 0 1 = cc in omega arith)
ran_known (Err f) (Ok (rans.Stopped m q k)) e = absurd (let z : ◌≡◌ {A = ℕ} 0 1 = cc in omega arith)
ran_known (Err f) (Err g) e =
    let a : reason_number f.reason ≡ reason_number g.reason = cc in
    let b : f.place ≡ g.place = cc in
    ap (λ (x : Refusal). Err x) (refusal_known f g a b)

pub wrote_known : (x y : Result ℕ Refusal) → wrote_of x ≡ wrote_of y → x ≡ y
wrote_known (Ok n) (Ok m) e =
    let a : n ≡ m = cc in
    rw a refl
wrote_known (Ok n) (Err g) e = absurd (let z : ◌≡◌ {A = ℕ} 0 1 = cc in omega arith)
wrote_known (Err f) (Ok m) e = absurd (let z : ◌≡◌ {A = ℕ} 0 1 = cc in omega arith)
wrote_known (Err f) (Err g) e =
    let a : reason_number f.reason ≡ reason_number g.reason = cc in
    let b : f.place ≡ g.place = cc in
    ap (λ (x : Refusal). Err x) (refusal_known f g a b)
