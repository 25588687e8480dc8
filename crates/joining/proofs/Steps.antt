-- One step of a join: what comes first of both stores, and what is still to come then.
-- Assumes nothing.
use mathlib.Core.Bool.{Bool, true, false, cond}
use mathlib.Core.List.{List, [], ◌∷◌, ◌++◌, append_assoc}
use mathlib.Core.Path.{◌≡◌, refl, sym, ◌∙◌, ap, subst⁻¹}
use Prim.Native.Nat.{ℕ, ◌+◌, ◌≤◌, ◌<◌}
use native.Mathlib.Decide.{dec_lt, ℕ_discrete}
use native.Mathlib.Omega.{arith}
use lib.Dec.{eqb, ltb}
use lib.ListN.{length, length-append}
use lib.Seq.{sets}
use borrow.Author.Tests.{lt-ltb, le-ltb, eq-eqb, ne_eqb}
use Rattle.laws.proofs.Branches.{choose}
use Rattle.language.specs.Answers.{zeros}
use Rattle.records.specs.declared.Record.{Record}
use Rattle.records.specs.Records.{best}
use Rattle.records.specs.Stores.{capacity, store_length, record_cells, store_cells, record_at, joined, record_offset}
use Rattle.records.proofs.Cells.{empty_zeros}
use Rattle.numbers.proofs.Zeros.{length_zeros}
use Rattle.joining.specs.declared.Joint.{Joint}
use Rattle.joining.specs.Joints.{records_from, first, next_joint, joint, begun_store, JoinStepped, Joining}
use Rattle.joining.proofs.Begun.{length_begun, begun_one}
use Rattle.joining.proofs.Parts.{records_cons}

-- ---- the three cases: the one store's appliance is lower, the same, or greater

module _ (e f : Record) where
  first_lt : e.appliance < f.appliance → first e f ≡ e
  unfolding first
  first_lt h = rw (lt-ltb e.appliance f.appliance h)

  first_eq : e.appliance ≡ f.appliance → first e f ≡ best f e
  unfolding first
  first_eq h = rw (le-ltb e.appliance f.appliance (omega arith), eq-eqb e.appliance f.appliance h)

  first_gt : f.appliance < e.appliance → first e f ≡ f
  unfolding first
  first_gt h = rw (le-ltb e.appliance f.appliance (omega arith), ne_eqb e.appliance f.appliance (λ z. omega arith))

  module _ (i j w : ℕ) where
    next_lt : e.appliance < f.appliance → next_joint e f i j w ≡ joint (i + 1) j (w + 1)
    unfolding next_joint
    next_lt h = rw (lt-ltb e.appliance f.appliance h)

    next_eq : e.appliance ≡ f.appliance → next_joint e f i j w ≡ joint (i + 1) (j + 1) (w + 1)
    unfolding next_joint
    next_eq h = rw (le-ltb e.appliance f.appliance (omega arith), eq-eqb e.appliance f.appliance h)

    next_gt : f.appliance < e.appliance → next_joint e f i j w ≡ joint i (j + 1) (w + 1)
    unfolding next_joint
    next_gt h = rw (le-ltb e.appliance f.appliance (omega arith), ne_eqb e.appliance f.appliance (λ z. omega arith))

  module _ (es fs : List Record) where
    joined_lt : e.appliance < f.appliance → joined (e ∷ es) (f ∷ fs) ≡ e ∷ joined es (f ∷ fs)
    joined_lt h = rw (lt-ltb e.appliance f.appliance h)

    joined_eq : e.appliance ≡ f.appliance → joined (e ∷ es) (f ∷ fs) ≡ best f e ∷ joined es fs
    joined_eq h = rw (le-ltb e.appliance f.appliance (omega arith), eq-eqb e.appliance f.appliance h)

    joined_gt : f.appliance < e.appliance → joined (e ∷ es) (f ∷ fs) ≡ f ∷ joined (e ∷ es) fs
    joined_gt h = rw (le-ltb e.appliance f.appliance (omega arith), ne_eqb e.appliance f.appliance (λ z. omega arith))

  put_first : (w : ℕ) (out : List ℕ) {x : Record} {out' : List ℕ} → out' ≡ sets out (record_offset w) (record_cells x) → first e f ≡ x
      → out' ≡ sets out (record_offset w) (record_cells (first e f))
  put_first w out o m = o ∙ ap (λ (y : Record). sets out (record_offset w) (record_cells y)) (sym m)

  -- what the code does in each, with a and b the appliances that it read
  module _ (i j w : ℕ) (out : List ℕ) {a b : ℕ} {x : Record} {out' : List ℕ} (p : a ≡ e.appliance) (q : b ≡ f.appliance) (o : out' ≡ sets out (record_offset w) (record_cells x)) where
    pub stepped_lt : a < b → x ≡ e → JoinStepped e f i j w out (joint (i + 1) j (w + 1)) out'
    stepped_lt h m = let l : e.appliance < f.appliance = omega arith in record { bytes = put_first w out o (first_lt l ∙ sym m); reached = sym (next_lt i j w l) }

    pub stepped_eq : a ≡ b → x ≡ best f e → JoinStepped e f i j w out (joint (i + 1) (j + 1) (w + 1)) out'
    stepped_eq h m = let l : e.appliance ≡ f.appliance = omega arith in record { bytes = put_first w out o (first_eq l ∙ sym m); reached = sym (next_eq i j w l) }

    pub stepped_gt : b < a → x ≡ f → JoinStepped e f i j w out (joint i (j + 1) (w + 1)) out'
    stepped_gt h m = let l : f.appliance < e.appliance = omega arith in record { bytes = put_first w out o (first_gt l ∙ sym m); reached = sym (next_gt i j w l) }

-- ---- the join goes on

module _ (s u : List ℕ) (n k : ℕ) where
  pub joining_none : (out : List ℕ) → out ≡ zeros store_length → Joining s u n k 0 0 0 out
  unfolding begun_store store_cells
  joining_none out e =
      record { i_within = omega arith; j_within = omega arith; room = omega arith; written = []; count = refl; bytes = e ∙ empty_zeros; coming = refl }

  module _ {i j w : ℕ} {out : List ℕ} (g : Joining s u n k i j w out) where
    pub joining_length : length out ≡ store_length
    joining_length = ap length g.bytes ∙ length_begun g.written (omega (arith, g.count, g.room))

    pub joining_kept : {out₀ : List ℕ} → out₀ ≡ zeros store_length → length out ≡ length out₀
    joining_kept e = joining_length ∙ sym (ap length e ∙ length_zeros store_length)

    -- x is written, and the rest is what comes after it
    joining_with :
        (x : Record) (i' j' : ℕ) {out' : List ℕ} → i' ≤ n → j' ≤ k → w < capacity
        → joined (records_from s i n) (records_from u j k) ≡ x ∷ joined (records_from s i' n) (records_from u j' k)
        → out' ≡ sets out (record_offset w) (record_cells x) → Joining s u n k i' j' (w + 1) out'
    joining_with x i' j' a b c d o =
        let full : length g.written < capacity = omega (arith, g.count) in
        let place : record_offset w ≡ record_offset (length g.written) = omega (arith, g.count) in
        let rest : List Record = joined (records_from s i' n) (records_from u j' k) in
        record {
          i_within = a;
          j_within = b;
          room = omega arith;
          written = g.written ++ (x ∷ []);
          count = length-append g.written (x ∷ []) ∙ ap (λ (m : ℕ). m + 1) g.count;
          bytes = o ∙ ap (λ (t : List ℕ). sets t (record_offset w) (record_cells x)) g.bytes ∙ begun_one g.written x full place;
          coming = append_assoc g.written (x ∷ []) rest ∙ ap (λ (r : List Record). g.written ++ r) (sym d) ∙ g.coming;
        }

    module _ (h : i < n) (l : j < k) where
      abbrev e : Record
      e = record_at s i

      abbrev f : Record
      f = record_at u j

      both : joined (records_from s i n) (records_from u j k) ≡ joined (e ∷ records_from s (i + 1) n) (f ∷ records_from u (j + 1) k)
      both = rw (records_cons s i n h, records_cons u j k l)

      -- one step
      pub joining_more : {r : Joint} {out' : List ℕ} → w < capacity → JoinStepped e f i j w out r out' → Joining s u n k r.i r.j r.w out'
      joining_more {r} {out'} c t = by (dec_lt e.appliance f.appliance) (ℕ_discrete e.appliance f.appliance)
        where
          to : {q : Joint} → next_joint e f i j w ≡ q → Joining s u n k q.i q.j q.w out' → Joining s u n k r.i r.j r.w out'
          to d z = subst⁻¹ (λ (q : Joint). Joining s u n k q.i q.j q.w out') (t.reached ∙ d) z

          put : {x : Record} → first e f ≡ x → out' ≡ sets out (record_offset w) (record_cells x)
          put d = t.bytes ∙ ap (λ (y : Record). sets out (record_offset w) (record_cells y)) d

          by : Dec (e.appliance < f.appliance) → Dec (e.appliance ≡ f.appliance) → Joining s u n k r.i r.j r.w out'
          by (yes a) d =
              to (next_lt e f i j w a)
              (joining_with e (i + 1) j (omega arith) (omega arith) c
              (both ∙ joined_lt e f (records_from s (i + 1) n) (records_from u (j + 1) k) a ∙ ap (λ (z : List Record). e ∷ joined (records_from s (i + 1) n) z) (sym (records_cons u j k l)))
              (put (first_lt e f a)))
          by (no a) (yes d) =
              to (next_eq e f i j w d)
              (joining_with (best f e) (i + 1) (j + 1) (omega arith) (omega arith) c
              (both ∙ joined_eq e f (records_from s (i + 1) n) (records_from u (j + 1) k) d)
              (put (first_eq e f d)))
          by (no a) (no d) =
              let g : f.appliance < e.appliance = omega arith in
              to (next_gt e f i j w g)
              (joining_with f i (j + 1) (omega arith) (omega arith) c
              (both ∙ joined_gt e f (records_from s (i + 1) n) (records_from u (j + 1) k) g ∙ ap (λ (z : List Record). f ∷ joined z (records_from u (j + 1) k)) (sym (records_cons s i n h)))
              (put (first_gt e f g)))

-- one record more is written in each case
next_counts : (e f : Record) (i j w : ℕ) → (next_joint e f i j w).w ≡ w + 1
unfolding next_joint
next_counts e f i j w = by (ltb e.appliance f.appliance) (eqb e.appliance f.appliance)
  where
    by : (a b : Bool) → (cond a (joint (i + 1) j (w + 1)) (cond b (joint (i + 1) (j + 1) (w + 1)) (joint i (j + 1) (w + 1)))).w ≡ w + 1
    by true b = refl
    by false true = refl
    by false false = refl

pub stepped_counts : {e f : Record} {i j w : ℕ} {out out' : List ℕ} {r : Joint} → JoinStepped e f i j w out r out' → r.w ≡ w + 1
stepped_counts {e} {f} {i} {j} {w} h = ap (λ (r : Joint). r.w) h.reached ∙ next_counts e f i j w

-- where neither store is used up something is to come
pub joined_some : (s u : List ℕ) (n k i j : ℕ) → i < n → j < k → 0 < length (joined (records_from s i n) (records_from u j k))
joined_some s u n k i j h l =
    rw (records_cons s i n h, records_cons u j k l)
    (choose some (ltb (record_at s i).appliance (record_at u j).appliance) (λ t. omega arith)
    (choose some (eqb (record_at s i).appliance (record_at u j).appliance) (λ t. omega arith) (omega arith)))
  where
    some : List Record → Type 0
    some l = 0 < length l
