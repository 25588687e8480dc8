-- The round trip of the calls, from their contracts and the round trip over tables. Assumes nothing.
use mathlib.Core.Path.{◌≡◌, sym, ap, ◌∙◌}
use mathlib.Core.List.{List}
use Prim.Native.Nat.{ℕ}
use lib.ListN.{take, drop}
use Rattle.language.specs.Table.{table_length}
use Rattle.language.specs.Checking.{Verdict as Verdictᴸ}
use Rattle.language.specs.Answers.{Answer as Answerᴸ, Filled, Shown, Wrote, verdict_numbers, ran_numbers, wrote_numbers, read_answer, translate_answer, write_answer}
use Rattle.theorems.specs.RoundTrip.{RoundTrip, text_in, TranslatedAsText}
use Rattle.theorems.specs.OverTables.{TranslatableIn}
use Rattle.theorems.proofs.RoundTrip.{round_trip, written_is_0}
use Rattle.theorems.proofs.RoundTripTranslation.{demand3_as_text}
use Rattle.std.specs.Prelude.{Ok}
use Rattle.ial.specs.RoundTrip.{RoundTripOfCalls, RoundTripOfSymbols, Demand3AsTextOfCalls, Demand3AsTextOfSymbols}
use Rattle.ial.proofs.Known.{verdict_known}
use Rattle.ial.proofs.Demand.{call_translated, symbol_translated}

-- what reading the text answers, whoever holds it
module _ (t : List ℕ) (n k : ℕ) (trip : RoundTrip t n k) (b : List ℕ) (left : b ≡ (write_answer t n).buffer) where
  same_text : take k b ≡ text_in (write_answer t n) k
  same_text = ap (take k) left

  read_is : (m : ℕ) → read_answer (take k b) m ≡ read_answer (text_in (write_answer t n) k) m
  read_is m = ap (λ (l : List ℕ). read_answer l m) same_text

pub round_trip_of_calls : RoundTripOfCalls
round_trip_of_calls t n k b e =
    let left : b ≡ (write_answer t n).buffer = ap (λ (x : Shown). x.buffer) e in
    let trip : RoundTrip t n k = round_trip t n k (sym (ap (λ (x : Shown). x.answer) e)) in
    record {
      count = trip.count;
      text = same_text t n k trip b left ∙ trip.text;
      rest = ap (drop k) left ∙ trip.rest;
      reads = λ m r out c. c ∙ read_is t n k trip b left m ∙ trip.reads m;
      gives =
          λ r out c.
          let f = c ∙ read_is t n k trip b left table_length ∙ trip.gives in
          (verdict_known r (Ok tt) (ap (λ (x : Filled). x.answer) f), ap (λ (x : Filled). x.table) f);
      passes = λ v c. verdict_known v (Ok tt) (c ∙ trip.passes);
      runs = λ i args budget c x g u. u ∙ trip.runs i args budget c;
      again = λ m r b' u. u ∙ trip.again m;
    }

pub round_trip_of_symbols : RoundTripOfSymbols
round_trip_of_symbols t n r b e z =
    let numbers : (wrote_numbers (write_answer t n).answer).number ≡ 0 = sym (ap (λ (a : Answerᴸ). a.number) e.0) ∙ z in
    let count : r.value ≡ (wrote_numbers (write_answer t n).answer).value = ap (λ (a : Answerᴸ). a.value) e.0 in
    let answers : (write_answer t n).answer ≡ Wrote.wrote r.value = written_is_0 t n numbers ∙ ap Wrote.wrote (sym count) in
    let trip : RoundTrip t n r.value = round_trip t n r.value answers in
    record {
      count = trip.count;
      text = same_text t n r.value trip b e.1 ∙ trip.text;
      rest = ap (drop r.value) e.1 ∙ trip.rest;
      reads =
          λ m x out c.
          let f = read_is t n r.value trip b e.1 m ∙ trip.reads m in
          (c.0 ∙ ap (λ (y : Filled). verdict_numbers y.answer) f, c.1 ∙ ap (λ (y : Filled). y.table) f);
      gives =
          λ x out c.
          let f = read_is t n r.value trip b e.1 table_length ∙ trip.gives in
          (c.0 ∙ ap (λ (y : Filled). verdict_numbers y.answer) f, c.1 ∙ ap (λ (y : Filled). y.table) f);
      passes = λ v c. c ∙ ap verdict_numbers trip.passes;
      runs =
          λ i args budget c x g u.
          let f = trip.runs i args budget c in
          (u.0 ∙ ap (λ y. ran_numbers y.answer) f, u.1 ∙ ap (λ y. y.registers) f);
      again =
          λ m x b' u.
          let f = trip.again m in
          (u.0 ∙ ap (λ (y : Shown). wrote_numbers y.answer) f, u.1 ∙ ap (λ (y : Shown). y.buffer) f);
    }

-- The tables that the first two calls left are those of the definitions.
module _ (t : List ℕ) (i n k : ℕ) (h : TranslatableIn t i) (u b : List ℕ) (made : u ≡ (translate_answer t i table_length).table) where
  abbrev given : List ℕ
  given = (translate_answer t i table_length).table

  as_text : (write_answer u n).answer ≡ Wrote.wrote k → b ≡ (write_answer u n).buffer
      → ((read_answer (take k b) table_length).answer ≡ Verdictᴸ.accepted) × TranslatedAsText t i u (read_answer (take k b) table_length).table
  as_text e left =
      let d = demand3_as_text t i n k h (ap (λ (l : List ℕ). (write_answer l n).answer) (sym made) ∙ e) in
      let s : take k b ≡ text_in (write_answer given n) k = ap (take k) (left ∙ ap (λ (l : List ℕ). (write_answer l n).buffer) made) in
      (ap (λ (l : List ℕ). (read_answer l table_length).answer) s ∙ d.0, rw (s, made) d.1)

pub demand3_as_text_of_calls : Demand3AsTextOfCalls
demand3_as_text_of_calls t i m n k u b r v x y c =
    let h = call_translated t i m u x in
    let made : u ≡ (translate_answer t i table_length).table = ap (λ (f : Filled). f.table) x ∙ ap (λ (l : ℕ). (translate_answer t i l).table) h.1 in
    let d = as_text t i n k h.0 u b made (sym (ap (λ (s : Shown). s.answer) y)) (ap (λ (s : Shown). s.buffer) y) in
    let table : v ≡ (read_answer (take k b) table_length).table = ap (λ (f : Filled). f.table) c in
    (verdict_known r (Ok tt) (ap (λ (f : Filled). f.answer) c ∙ d.0), rw table d.1)

pub demand3_as_text_of_symbols : Demand3AsTextOfSymbols
demand3_as_text_of_symbols t i m n x y z u b v p p0 q q0 c =
    let h = symbol_translated t i m x u p p0 in
    let made : u ≡ (translate_answer t i table_length).table = p.1 ∙ ap (λ (l : ℕ). (translate_answer t i l).table) h.1 in
    let numbers : (wrote_numbers (write_answer u n).answer).number ≡ 0 = sym (ap (λ (a : Answerᴸ). a.number) q.0) ∙ q0 in
    let count : y.value ≡ (wrote_numbers (write_answer u n).answer).value = ap (λ (a : Answerᴸ). a.value) q.0 in
    let d = as_text t i n y.value h.0 u b made (written_is_0 u n numbers ∙ ap Wrote.wrote (sym count)) q.1 in
    (c.0 ∙ ap verdict_numbers d.0, rw c.1 d.1)
