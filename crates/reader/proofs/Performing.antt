-- An act done in code brings the reader where the definition's brings it, and so does a token. Assumes nothing.
use mathlib.Core.Path.{◌≡◌, refl, sym, ap, subst, ◌∙◌}
use mathlib.Core.Bool.{Bool, true, false, cond, not, false≢true, true≢false}
use mathlib.Core.List.{List, [], ◌∷◌, ◌++◌}
use Prim.Native.Nat.{ℕ, ◌+◌, ◌<◌}
use native.Mathlib.Omega.{arith}
use lib.Dec.{T, ltb, ltb→lt, lt→ltb}
use lib.ListN.{length, take, length-append}
use lib.Seq.{take-append_seam}
use Rattle.language.specs.Programs.{Func, max_functions, max_registers, max_blocks, max_rows, max_entries}
use Rattle.language.specs.Instructions.{Form, form_of, operand_of, load_type}
use Rattle.language.specs.Tokens.{Token, Found}
use Rattle.language.specs.Grammar.{Stage, Act, next_move, wrong_move}
use Rattle.language.specs.Reading.{Draft, Parts, Mention, row_as, row_of, mentions_in, draft_rows, ActOutcome, Parse, refuse, proceed, perform_act, after_act, fresh, if_resolved, resolve, undeclared, function_number, register_number, block_number, phi_entries, number_in_range}
use Rattle.language.specs.Reading as meaning
use Rattle.language.specs.Rooms.{Begun, begun, Room, Roomy, begun_at}
use Rattle.language.proofs.Rooms.{roomy_taken}
use Rattle.language.proofs.Stages.{Moves, moves}
use Rattle.grammar.specs.Meaning.{TokenSpot, Moves as Movesᶜ, spot_of, bytes_of, move_of, token_of, act_of, magnitude_of, stage_is}
use Rattle.grammar.specs.Ready.{is_top, blocks_in, StageReady}
use Rattle.grammar.proofs.Ready.{ready_reading}
use Rattle.grammar.specs.declared.Token.{Token as Tokenᶜ}
use Rattle.grammar.specs.declared.Token.TheVariants as tokens
use Rattle.grammar.specs.declared.Act.{Act as Actᶜ}
use Rattle.grammar.specs.declared.Move.{Move as Moveᶜ}
use Rattle.grammar.specs.declared.Stage.{Stage as Stageᶜ}
use Rattle.drafts.specs.State.{fault_at, Bounded, Counts, Lent, LentWhole, Stands, Comes, Closes, KeepsBounds, Acts, KeptAs, fresh_at, if_room_at, WholeRow}
use Rattle.drafts.specs.Cells.{open_cells}
use Rattle.drafts.proofs.WholeRows.{own_entries, own_mentions}
use Rattle.drafts.proofs.Sections.{open_fresh}
use Rattle.drafts.proofs.StateLaws.{cells_indexed}
use Rattle.drafts.specs.declared.state.Draft.{Draft as Draftᶜ}
use Rattle.std.specs.Prelude.{Option, Some, None, Result, Ok, Err}
use Rattle.answers.specs.declared.reasons.Reason.TheVariants as reasons
use Rattle.answers.specs.Reasons.{reason_number}
use Rattle.drafts.specs.declared.state.Fault.{Fault}
use Rattle.text_place.specs.declared.TextPlace.{TextPlace}
use Rattle.reader.specs.Parse.{depth, After, LentFor, Follows, Reads, ReaderReached, Beside, Means, Takes, EndTaken, wants, Holding, RoomFor, Enabled, LeavesLent, Performs}
use Rattle.reader.specs.declared.taking.Reader.{Reader}
use Rattle.reader.specs.declared.taking.Step.{Step}
use Rattle.reader.specs.declared.taking.Step.TheVariants as steps
use Rattle.reader.proofs.Acting.{up_to, after, in_function, Typed, OnlyAt, fits}
use Rattle.reader.proofs.Stages.{settled_after, after_test, after_fail}
use Rattle.reader.proofs.Stages.{after as afterwards}

-- ---- what an act comes to

-- The definition's answer, or numbers that stand for its draft.
data Lands (x : Lent) : ActOutcome → Result Draftᶜ Fault → Type 0 where
  refuses : (e : Fault) → Lands x (refuse (reason_number e.reason) e.at.byte) (Err e)
  proceeds : (d : Draft) (q : Draftᶜ) → Bounded q → Counts d q → LentFor q.functions x → (length d.functions < max_functions → Stands d q x)
      → Lands x (proceed d) (Ok q)

lent_whole : {n : ℕ} {x : Lent} → n < max_functions → LentFor n x → LentWhole x
lent_whole l h = record { cells = h.cells l; names = h.names; pending = h.pending; last = h.last; before = h.before }

whole_lent : {n : ℕ} {x : Lent} → LentWhole x → LentFor n x
whole_lent h = record { cells = λ l. h.cells; names = h.names; pending = h.pending; last = h.last; before = h.before }

comes : {x : Lent} {o : ActOutcome} {r : Result Draftᶜ Fault} → Comes x o r → KeepsBounds r → LentWhole x → Lands x o r
comes (Comes.refuses e) k w = Lands.refuses e
comes (Comes.proceeds d s h) k w = Lands.proceeds d s k h.counts (whole_lent w) (λ l. h)

-- By the act: the closing brace comes to a function closed.
abbrev Done : Act → Lent → ActOutcome → Result Draftᶜ Fault → Type 0
Done Act.wrong x o r = Lands x o r
Done Act.pass x o r = Lands x o r
Done Act.begin_function x o r = Lands x o r
Done Act.mark_ssa x o r = Lands x o r
Done Act.begin_register x o r = Lands x o r
Done Act.begin_block x o r = Lands x o r
Done (Act.set_result t) x o r = Lands x o r
Done (Act.name_function n) x o r = Lands x o r
Done (Act.name_block n) x o r = Lands x o r
Done (Act.name_parameter t n) x o r = Lands x o r
Done (Act.name_register t n) x o r = Lands x o r
Done (Act.begin_instruction op) x o r = Lands x o r
Done (Act.set_instruction op) x o r = Lands x o r
Done (Act.set_target n) x o r = Lands x o r
Done (Act.add_source n) x o r = Lands x o r
Done (Act.add_entry n) x o r = Lands x o r
Done (Act.add_mention n) x o r = Lands x o r
Done (Act.set_number neg v) x o r = Lands x o r
Done Act.end_instruction x o r = Lands x o r
Done Act.end_block x o r = Lands x o r
Done Act.end_function x o r = Closes x o r × LentWhole x

room : {x : Lent} {o : ActOutcome} {r : Result Draftᶜ Fault} (b : Bool) (p : TextPlace) → (b ≡ true → Lands x o r)
    → Lands x (cond b o (refuse 5 p.byte)) (cond b r (Err (fault_at reasons.SizeExceeded p)))
room true p h = h refl
room false p h = Lands.refuses (fault_at reasons.SizeExceeded p)

-- ---- a row that ends

-- its mentions are as many as its operand has blocks
row_mentions : (x : Parts) → length (mentions_in (row_of x)) ≡ blocks_in (operand_of (form_of x.op))
unfolding row_of
row_mentions x = by (form_of x.op)
  where
    by : (g : Form) → length (mentions_in (row_as g x)) ≡ blocks_in (operand_of g)
    by Form.nop = refl
    by Form.load = refl
    by Form.unary = refl
    by Form.binary = refl
    by Form.phi = refl
    by Form.jump = refl
    by Form.branch = refl
    by Form.return = refl
    by Form.leave = refl
    by Form.unknown = refl

-- ---- each act

module _ (s : Stage) (d : Draft) (c : Reader) (x : Lent) (f : Follows s d c x) (r : Result Draftᶜ Fault) (x' : Lent) where
  -- nothing lent is changed
  still : {o : ActOutcome} {q : Result Draftᶜ Fault} → LeavesLent x r x' q → Lands x o q → Lands x' o r
  still e h = rw (e.0, e.1) h

  stays : Lands x (proceed d) (Ok c.draft)
  stays = Lands.proceeds d c.draft f.bounded f.counts f.lent f.stands

  -- so many are there, and one more has room
  tests : (k n m : ℕ) (p : TextPlace) → n ≡ k → LeavesLent x r x' (if_room_at n m p c.draft) → Lands x' (cond (ltb k m) (proceed d) (refuse 5 p.byte)) r
  tests k n m p e h = still h (rw e (room (ltb k m) p (λ b. stays)))

  -- in the function in hand
  acts : {Fit : Draft → Type 0} {act : Draft → ActOutcome} → T (not (is_top s)) → Acts Fit act c.draft x r x' → Fit d → Lands x' (act d) r
  acts i a fit =
      let l = f.ready.inside i in
      comes (a.meaning d (f.stands l) fit) a.kept (a.whole (lent_whole (rw f.counts.functions l) f.lent))

  row_whole : OnlyAt s Act.end_instruction → WholeRow d
  row_whole e =
      let due : length d.parts.mentions + 0 ≡ blocks_in (operand_of (form_of d.parts.op)) = (subst (λ (t : Stage). StageReady t d) e f.ready).mentions 0 refl in
      (own_entries d.parts f.ready.entries, own_mentions d.parts (omega (arith, due, row_mentions d.parts)))

  fewer : (k : ℕ) → T (ltb k 2) → T (ltb k 3)
  fewer k h = lt→ltb k 3 (omega (arith, ltb→lt k 2 h))

  performs : (z : TokenSpot) (p : TextPlace) (a : Actᶜ) → Performs z.name p c.draft x r x' a
      → ((neg : Bool) (v : Option ℕ) → a ≡ Actᶜ.SetNumber neg v → KeptAs (magnitude_of z.large v) v)
      → T (up_to (act_of z a) (depth s)) → T (cond (in_function (act_of z a)) (not (is_top s)) true) → OnlyAt s (act_of z a)
      → Done (act_of z a) x' (perform_act (act_of z a) p.byte d) r
  unfolding perform_act meaning.begin_function meaning.begin_register meaning.begin_block
  performs z p Actᶜ.Wrong h m u i e = still h (Lands.refuses (fault_at reasons.TokenNotAllowed p))
  performs z p Actᶜ.Pass h m u i e = still h stays
  performs z p Actᶜ.BeginFunction h m u i e = tests (length d.functions) c.draft.functions max_functions p f.counts.functions h
  performs z p Actᶜ.MarkSsa h m u i e = acts i h tt
  performs z p Actᶜ.BeginRegister h m u i e = tests (length d.function.registers) c.draft.head.registers max_registers p f.counts.head.registers h
  performs z p Actᶜ.BeginBlock h m u i e = tests (length d.blocks) c.draft.blocks.closed max_blocks p f.counts.blocks.closed h
  performs z p (Actᶜ.SetResult k) h m u i e = acts i h tt
  performs z p Actᶜ.NameFunction h m u i e = acts i h (f.hand.name u)
  performs z p Actᶜ.NameBlock h m u i e = acts i h (f.hand.block u)
  performs z p (Actᶜ.NameRegister true t) h m u i e = acts i h tt
  performs z p (Actᶜ.NameRegister false t) h m u i e = acts i h tt
  performs z p (Actᶜ.BeginInstruction op) h m u i e = acts i h (f.hand.parts u)
  performs z p (Actᶜ.SetInstruction op) h m u i e = acts i h (f.hand.parts u)
  performs z p Actᶜ.SetTarget h m u i e = acts i h (f.hand.parts u)
  performs z p Actᶜ.AddSource h m u i e = acts i h tt
  performs z p Actᶜ.AddEntry h m u i e = acts i h tt
  performs z p Actᶜ.AddMention h m u i e = acts i h tt
  performs z p (Actᶜ.SetNumber neg v) h m u i e = acts i (h (magnitude_of z.large v) (m neg v refl)) tt
  performs z p Actᶜ.EndInstruction h m u i e = acts i h (row_whole e)
  performs z p Actᶜ.EndBlock h m u i e = acts i h tt
  performs z p Actᶜ.EndFunction h m u i e =
      let l = f.ready.inside i in (
        h.meaning d (f.stands l) (f.hand.block u, f.hand.parts (fewer (depth s) u)),
        h.whole (lent_whole (rw f.counts.functions l) f.lent),
      )

-- ---- a token

top_only : (s : Stage) → is_top s ≡ true → s ≡ Stage.top
top_only Stage.top e = refl
top_only Stage.header e = absurd (false≢true e)
top_only Stage.result e = absurd (false≢true e)
top_only Stage.function_name e = absurd (false≢true e)
top_only Stage.parameters e = absurd (false≢true e)
top_only Stage.first_parameter e = absurd (false≢true e)
top_only Stage.parameter e = absurd (false≢true e)
top_only Stage.parameter_end e = absurd (false≢true e)
top_only (Stage.parameter_name t) e = absurd (false≢true e)
top_only Stage.body e = absurd (false≢true e)
top_only Stage.declarations e = absurd (false≢true e)
top_only Stage.register_type e = absurd (false≢true e)
top_only Stage.register_end e = absurd (false≢true e)
top_only (Stage.register_name t) e = absurd (false≢true e)
top_only Stage.blocks e = absurd (false≢true e)
top_only Stage.block_name e = absurd (false≢true e)
top_only Stage.block_body e = absurd (false≢true e)
top_only Stage.first_instruction e = absurd (false≢true e)
top_only Stage.next_instruction e = absurd (false≢true e)
top_only Stage.assignment e = absurd (false≢true e)
top_only Stage.instruction e = absurd (false≢true e)
top_only (Stage.source k o) e = absurd (false≢true e)
top_only (Stage.source_comma k o) e = absurd (false≢true e)
top_only (Stage.operand o) e = absurd (false≢true e)
top_only Stage.number e = absurd (false≢true e)
top_only Stage.entry e = absurd (false≢true e)
top_only Stage.entry_end e = absurd (false≢true e)
top_only (Stage.mention k) e = absurd (false≢true e)
top_only (Stage.mention_comma k) e = absurd (false≢true e)
top_only Stage.operand_end e = absurd (false≢true e)
top_only Stage.instruction_end e = absurd (false≢true e)

-- What an act comes to, as a token's: by whether it closes a function.
abbrev pub taken_from : Bool → Stageᶜ → Result Draftᶜ Fault → Result (Step Reader) Fault
taken_from b s (Err e) = Err e
taken_from false s (Ok d) = Ok (steps.Reading (record { stage = s; draft = d }))
taken_from true s (Ok d) = Ok (steps.Closed (record { stage = s; draft = d }))

-- ---- the functions closed

snoc_same : (xs ys : List Func) (x y : Func) → xs ++ (x ∷ []) ≡ ys ++ (y ∷ []) → xs ≡ ys
snoc_same xs ys x y e =
    let l : length xs ≡ length ys = omega (arith, length-append xs (x ∷ []), length-append ys (y ∷ []), ap length e) in
    sym (take-append_seam xs (x ∷ [])) ∙ ap (λ (n : ℕ). take n (xs ++ (x ∷ []))) l ∙ ap (take (length ys)) e ∙ take-append_seam ys (y ∷ [])

abbrev closed_in : ActOutcome → List Func
closed_in (refuse n p) = []
closed_in (proceed d) = d.functions

-- Every act but the closing brace leaves them as they were.
abbrev pub closing : Act → Bool
closing Act.wrong = false
closing Act.pass = false
closing Act.begin_function = false
closing Act.mark_ssa = false
closing Act.begin_register = false
closing Act.begin_block = false
closing (Act.set_result t) = false
closing (Act.name_function n) = false
closing (Act.name_block n) = false
closing (Act.name_parameter t n) = false
closing (Act.name_register t n) = false
closing (Act.begin_instruction op) = false
closing (Act.set_instruction op) = false
closing (Act.set_target n) = false
closing (Act.add_source n) = false
closing (Act.add_entry n) = false
closing (Act.add_mention n) = false
closing (Act.set_number neg v) = false
closing Act.end_instruction = false
closing Act.end_block = false
closing Act.end_function = true

module _ (p : ℕ) (d : Draft) where
  abbrev Same : Draft → Type 0
  Same = λ e. e.functions ≡ d.functions

  abbrev registers : ℕ
  registers = length d.function.registers

  same_functions : (a : Act) → T (not (closing a)) → After Same (perform_act a p d)
  unfolding perform_act meaning.begin_function meaning.mark_ssa meaning.set_result meaning.name_function meaning.begin_register meaning.name_register meaning.begin_block meaning.name_block meaning.end_block meaning.begin_instruction meaning.set_target meaning.set_instruction meaning.add_source meaning.add_entry meaning.add_mention meaning.set_number meaning.end_instruction
  same_functions Act.wrong k = After.refused
  same_functions Act.pass k = After.proceeds refl
  same_functions Act.begin_function k = after_test (After.proceeds refl) (ltb (length d.functions) max_functions) 5 p
  same_functions Act.mark_ssa k = After.proceeds refl
  same_functions Act.begin_register k = after_test (After.proceeds refl) (ltb registers max_registers) 5 p
  same_functions Act.begin_block k = after_test (After.proceeds refl) (ltb (length d.blocks) max_blocks) 5 p
  same_functions (Act.set_result t) k = After.proceeds refl
  same_functions (Act.name_function n) k = after_fail (After.proceeds refl) (ltb (function_number d.functions n) (length d.functions)) 6 p
  same_functions (Act.name_block n) k = after_fail (After.proceeds refl) (ltb (block_number d.blocks n) (length d.blocks)) 6 p
  same_functions (Act.name_parameter t n) k = after_fail (After.proceeds refl) (ltb (register_number d.function.registers n) registers) 6 p
  same_functions (Act.name_register t n) k = after_fail (After.proceeds refl) (ltb (register_number d.function.registers n) registers) 6 p
  same_functions (Act.begin_instruction op) k = after_test (After.proceeds refl) (ltb (draft_rows d) max_rows) 5 p
  same_functions (Act.set_instruction op) k = After.proceeds refl
  same_functions (Act.set_target n) k = after_test (after_test (After.proceeds refl) (ltb (register_number d.function.registers n) registers) 7 p) (ltb (draft_rows d) max_rows) 5 p
  same_functions (Act.add_source n) k = after_test (After.proceeds refl) (ltb (register_number d.function.registers n) registers) 7 p
  same_functions (Act.add_entry n) k = after_test (after_test (After.proceeds refl) (ltb (register_number d.function.registers n) registers) 7 p) (ltb (phi_entries d) max_entries) 5 p
  same_functions (Act.add_mention n) k = After.proceeds refl
  same_functions (Act.set_number neg v) k = after_test (After.proceeds refl) (number_in_range (load_type d.parts.op) neg v) 4 p
  same_functions Act.end_instruction k = After.proceeds refl
  same_functions Act.end_block k = After.proceeds refl
  same_functions Act.end_function k = absurd k

  -- and that one closes one more
  one_more : (fs : List Func) (g : Func) → perform_act Act.end_function p d ≡ proceed (fresh (fs ++ (g ∷ []))) → fs ≡ d.functions
  unfolding perform_act meaning.end_function
  one_more fs g e = by (ltb (block_number d.blocks []) (length d.blocks)) (undeclared d.blocks) e
    where
      by : (b : Bool) (ms : List Mention) → cond b (if_resolved ms (proceed (fresh (d.functions ++ (resolve d.function d.blocks ∷ []))))) (refuse 8 p) ≡ proceed (fresh (fs ++ (g ∷ []))) → fs ≡ d.functions
      by true [] h = snoc_same fs d.functions g (resolve d.function d.blocks) (sym (ap closed_in h))
      by true (m ∷ ms) h = let z : ◌≡◌ {A = ℕ} 0 1 = cc in absurd (omega arith)
      by false ms h = let z : ◌≡◌ {A = ℕ} 0 1 = cc in absurd (omega arith)

module _ (fs : List Func) (s : Stage) (d : Draft) (same : d.functions ≡ fs) (c : Reader) (x : Lent) (f : Follows s d c x) (t : Token) (p : TextPlace) (n : Stageᶜ)
    (stage : stage_is n ≡ (next_move s t).stage) where
  abbrev now : Parse
  now = meaning.take_token (Parse.reading s d) (Found.token p.byte t)

  now_is : {o : ActOutcome} → perform_act (next_move s t).act p.byte d ≡ o → now ≡ after_act (next_move s t).stage o
  unfolding meaning.take_token
  now_is e = ap (after_act (next_move s t).stage) e

  -- where an act comes to, there the reader is
  lands_reads : T (not (closing (next_move s t).act)) → {o : ActOutcome} {r : Result Draftᶜ Fault} {x' : Lent} → Lands x' o r → perform_act (next_move s t).act p.byte d ≡ o → Reads fs x' now (taken_from false n r)
  lands_reads u (Lands.refuses q) e = rw (now_is e) (Reads.refused q)
  lands_reads u {x' = x'} (Lands.proceeds d' q b k l h) e =
      rw (now_is e)
      (Reads.reading (next_move s t).stage d' (record { stage = n; draft = q }) (afterwards (rw e at (same_functions p.byte d (next_move s t).act u)) ∙ same)
      (record {
        stage = stage;
        bounded = b;
        counts = k;
        lent = l;
        stands = h;
        ready = ready_reading (Found.token p.byte t) f.ready (now_is e);
        hand = settled_after s d p.byte t f.hand d' e;
        room = subst Roomy (now_is e) (roomy_taken (Parse.reading s d) (Found.token p.byte t) f.room);
      }))

  closes_reads : (next_move s t).act ≡ Act.end_function → is_top (next_move s t).stage ≡ true → {o : ActOutcome} {r : Result Draftᶜ Fault} {x' : Lent} → Closes x' o r → LentWhole x' → perform_act (next_move s t).act p.byte d ≡ o → Reads fs x' now (taken_from true n r)
  closes_reads i top (Closes.refuses q) w e = rw (now_is e) (Reads.refused q)
  closes_reads i top {x' = x'} (Closes.closes gs g l cells names) w e =
      let is = top_only (next_move s t).stage top in
      let these : gs ≡ fs = one_more p.byte d gs g (sym (ap (λ (a : Act). perform_act a p.byte d) i) ∙ e) ∙ same in
      rw (now_is e, is)
      (subst (λ (hs : List Func). Reads hs x' (Parse.reading Stage.top (fresh (gs ++ (g ∷ [])))) (Ok (steps.Closed (record { stage = n; draft = fresh_at (length gs + 1) })))) these
      (Reads.closed g (record { stage = n; draft = fresh_at (length gs + 1) })
      (record { less = l; stage = stage ∙ is; draft = refl; cells = cells; names = names; lent = whole_lent w })))

  -- by the act
  done_reads : (o : ActOutcome) (r : Result Draftᶜ Fault) (x' : Lent) (a : Act) → (next_move s t).act ≡ a → Done a x' o r → perform_act a p.byte d ≡ o → Reads fs x' now (taken_from (closing a) n r)
  done_reads o r x' Act.wrong i h e = lands_reads (rw i tt) h (rw i e)
  done_reads o r x' Act.pass i h e = lands_reads (rw i tt) h (rw i e)
  done_reads o r x' Act.begin_function i h e = lands_reads (rw i tt) h (rw i e)
  done_reads o r x' Act.mark_ssa i h e = lands_reads (rw i tt) h (rw i e)
  done_reads o r x' Act.begin_register i h e = lands_reads (rw i tt) h (rw i e)
  done_reads o r x' Act.begin_block i h e = lands_reads (rw i tt) h (rw i e)
  done_reads o r x' (Act.set_result k) i h e = lands_reads (rw i tt) h (rw i e)
  done_reads o r x' (Act.name_function k) i h e = lands_reads (rw i tt) h (rw i e)
  done_reads o r x' (Act.name_block k) i h e = lands_reads (rw i tt) h (rw i e)
  done_reads o r x' (Act.name_parameter j k) i h e = lands_reads (rw i tt) h (rw i e)
  done_reads o r x' (Act.name_register j k) i h e = lands_reads (rw i tt) h (rw i e)
  done_reads o r x' (Act.begin_instruction op) i h e = lands_reads (rw i tt) h (rw i e)
  done_reads o r x' (Act.set_instruction op) i h e = lands_reads (rw i tt) h (rw i e)
  done_reads o r x' (Act.set_target k) i h e = lands_reads (rw i tt) h (rw i e)
  done_reads o r x' (Act.add_source k) i h e = lands_reads (rw i tt) h (rw i e)
  done_reads o r x' (Act.add_entry k) i h e = lands_reads (rw i tt) h (rw i e)
  done_reads o r x' (Act.add_mention k) i h e = lands_reads (rw i tt) h (rw i e)
  done_reads o r x' (Act.set_number neg v) i h e = lands_reads (rw i tt) h (rw i e)
  done_reads o r x' Act.end_instruction i h e = lands_reads (rw i tt) h (rw i e)
  done_reads o r x' Act.end_block i h e = lands_reads (rw i tt) h (rw i e)
  done_reads o r x' Act.end_function i h e =
      closes_reads i ((fits s t).next ∙ ap (λ (a : Act). after a (is_top s)) i) h.0 h.1 (rw i e)

-- ---- the token in code

-- What a token does not hold itself.
abbrev spot_for : {bytes : List ℕ} {t : Tokenᶜ} {m : Token} → Means bytes t m → TokenSpot
spot_for {bytes} Means.named = record { name = bytes; large = 0 }
spot_for {bytes} (Means.word w) = record { name = bytes; large = 0 }
spot_for {bytes} (Means.number g v n k) = record { name = bytes; large = n }
spot_for {bytes} (Means.mark b) = record { name = bytes; large = 0 }
spot_for {bytes} Means.end = record { name = bytes; large = 0 }

kept_large : (n : ℕ) (v : Option ℕ) → KeptAs n v → magnitude_of n v ≡ n
kept_large n v KeptAs.exact = refl
kept_large n v (KeptAs.large h) = refl

spot_token : {bytes : List ℕ} {t : Tokenᶜ} {m : Token} (h : Means bytes t m) → token_of (spot_for h) t ≡ m
spot_token Means.named = refl
spot_token (Means.word w) = refl
spot_token (Means.number g v n k) = ap (Token.number g) (kept_large n v k)
spot_token (Means.mark b) = refl
spot_token Means.end = refl

spot_name : {bytes : List ℕ} {t : Tokenᶜ} {m : Token} (h : Means bytes t m) → (spot_for h).name ≡ bytes
spot_name Means.named = refl
spot_name (Means.word w) = refl
spot_name (Means.number g v n k) = refl
spot_name (Means.mark b) = refl
spot_name Means.end = refl

-- two numbers that are the same whatever the large ones are stand alike
same_kept : (v v' : Option ℕ) → ((f : ℕ) → magnitude_of f v' ≡ magnitude_of f v) → v' ≡ v
same_kept None None h = refl
same_kept None (Some u) h = absurd (omega (arith, h u, h (u + 1)))
same_kept (Some u) None h = absurd (omega (arith, h u, h (u + 1)))
same_kept (Some u) (Some w) h = ap Some (h 0)

-- a number in an act is the token's
kept_same : (n : ℕ) (v v' : Option ℕ) → v' ≡ v → KeptAs n v → KeptAs (magnitude_of n v') v'
kept_same n v v' e k = rw (e, kept_large n v k) k

module _ (t : Tokenᶜ) (m : Moveᶜ) (moved : Movesᶜ (next_move Stage.number) t m) (neg : Bool) (v : Option ℕ) (e : m.act ≡ Actᶜ.SetNumber neg v) where
  act_at : (z : TokenSpot) → Act.set_number neg (magnitude_of z.large v) ≡ (next_move Stage.number (token_of z t)).act
  act_at z = sym (ap (act_of (spot_of t z)) e) ∙ ap (λ y. y.act) (moved z)

act_kept : {bytes : List ℕ} {t : Tokenᶜ} {tok : Token} (h : Means bytes t tok) (m : Moveᶜ) → Movesᶜ (next_move Stage.number) t m
    → (neg : Bool) (v : Option ℕ) → m.act ≡ Actᶜ.SetNumber neg v → KeptAs (magnitude_of (spot_for h).large v) v
unfolding next_move
act_kept {bytes} Means.named m moved neg v e =
    let q = act_at tokens.Name m moved neg v e (record { name = bytes; large = 0 }) in
    let z : ◌≡◌ {A = ℕ} 0 1 = cc in absurd (omega arith)
act_kept {bytes} (Means.word w) m moved neg v e =
    let q = act_at (tokens.Word w) m moved neg v e (record { name = bytes; large = 0 }) in
    let z : ◌≡◌ {A = ℕ} 0 1 = cc in absurd (omega arith)
act_kept {bytes} (Means.number g v₀ n k) m moved neg v e =
    kept_same n v₀ v
    (same_kept v₀ v
    (λ f. let q = act_at (tokens.Number g v₀) m moved neg v e (record { name = bytes; large = f }) in cc))
    k
act_kept {bytes} (Means.mark b) m moved neg v e =
    let q = act_at (tokens.Mark b) m moved neg v e (record { name = bytes; large = 0 }) in
    let z : ◌≡◌ {A = ℕ} 0 1 = cc in absurd (omega arith)
act_kept {bytes} Means.end m moved neg v e =
    let q = act_at tokens.End m moved neg v e (record { name = bytes; large = 0 }) in
    let z : ◌≡◌ {A = ℕ} 0 1 = cc in absurd (omega arith)

-- ---- what the code has to show

-- the state before a token
pub reads_follows : {fs : List Func} {x : Lent} {parse : Parse} {c : Reader} → Reads fs x parse (Ok (steps.Reading c)) → (s : Stage) × (d : Draft) × (parse ≡ Parse.reading s d) × (d.functions ≡ fs) × Follows s d c x
reads_follows (Reads.reading s d c k f) = (s, d, refl, k, f)

-- what a stage has begun is what an act puts down
module _ (z : TokenSpot) {d : Draft} {q : Draftᶜ} (k : Counts d q) where
  rows_now : draft_rows d ≡ q.blocks.rows
  unfolding draft_rows
  rows_now = sym k.blocks.rows

  none_begun : (x : Begun) → Room x d → RoomFor (begun 0 0 0 0) q
  none_begun x h = omega (arith, h, k.functions, k.head.registers, k.blocks.closed, k.blocks.rows, rows_now)

  in_function_law : (x : Begun) → Room x d → length d.functions < max_functions → RoomFor (begun 1 0 0 0) q
  in_function_law x h l = omega (arith, h, k.functions, k.head.registers, k.blocks.closed, k.blocks.rows, rows_now)

  room_for : (x y : Begun) (a : Actᶜ) → Moves (act_of z a) x y → Room x d → (T (in_function (act_of z a)) → length d.functions < max_functions) → RoomFor (wants a) q
  room_for x y Actᶜ.Wrong m h i = none_begun x h
  room_for x y Actᶜ.Pass m h i = none_begun x h
  room_for x y Actᶜ.BeginFunction m h i = none_begun x h
  room_for x y Actᶜ.MarkSsa m h i = in_function_law x h (i tt)
  room_for x y Actᶜ.BeginRegister m h i = in_function_law x h (i tt)
  room_for x y Actᶜ.BeginBlock m h i = in_function_law x h (i tt)
  room_for x y (Actᶜ.SetResult u) m h i = in_function_law x h (i tt)
  room_for x y Actᶜ.NameFunction m h i = in_function_law x h (i tt)
  room_for x y (Actᶜ.BeginInstruction op) m h i = in_function_law x h (i tt)
  room_for x y (Actᶜ.SetInstruction op) m h i = in_function_law x h (i tt)
  room_for x y Actᶜ.SetTarget m h i = in_function_law x h (i tt)
  room_for x y Actᶜ.AddSource m h i = in_function_law x h (i tt)
  room_for x y Actᶜ.AddEntry m h i = in_function_law x h (i tt)
  room_for x y Actᶜ.AddMention m h i = in_function_law x h (i tt)
  room_for x y (Actᶜ.SetNumber neg v) m h i = in_function_law x h (i tt)
  room_for x y Actᶜ.EndFunction m h i = in_function_law x h (i tt)
  room_for x y Actᶜ.NameBlock Moves.name_block h i = omega (arith, h, k.functions, k.head.registers, k.blocks.closed, k.blocks.rows, rows_now)
  room_for x y (Actᶜ.NameRegister true u) Moves.name_parameter h i = omega (arith, h, k.functions, k.head.registers, k.blocks.closed, k.blocks.rows, rows_now)
  room_for x y (Actᶜ.NameRegister false u) Moves.name_register h i = omega (arith, h, k.functions, k.head.registers, k.blocks.closed, k.blocks.rows, rows_now)
  room_for x y Actᶜ.EndInstruction Moves.end_instruction h i = omega (arith, h, k.functions, k.head.registers, k.blocks.closed, k.blocks.rows, rows_now)
  room_for x y Actᶜ.EndBlock Moves.end_block h i = omega (arith, h, k.functions, k.head.registers, k.blocks.closed, k.blocks.rows, rows_now)

within_function : (b c : Bool) → T b → T (cond b c true) → T c
within_function true c h i = i
within_function false c h i = absurd h

-- a type that an act holds is a type
held_type : (z : TokenSpot) (s : Stage) (d : Draft) {c : Reader} {x : Lent} → Follows s d c x → (a : Actᶜ) → Typed s (act_of z a) → Holding a
held_type z s d f Actᶜ.Wrong h = tt
held_type z s d f Actᶜ.Pass h = tt
held_type z s d f Actᶜ.BeginFunction h = tt
held_type z s d f Actᶜ.MarkSsa h = tt
held_type z s d f Actᶜ.BeginRegister h = tt
held_type z s d f Actᶜ.BeginBlock h = tt
held_type z s d f (Actᶜ.SetResult u) h = tt
held_type z s d f Actᶜ.NameFunction h = tt
held_type z s d f (Actᶜ.BeginInstruction op) h = tt
held_type z s d f (Actᶜ.SetInstruction op) h = tt
held_type z s d f Actᶜ.SetTarget h = tt
held_type z s d f Actᶜ.AddSource h = tt
held_type z s d f Actᶜ.AddEntry h = tt
held_type z s d f Actᶜ.AddMention h = tt
held_type z s d f (Actᶜ.SetNumber neg v) h = tt
held_type z s d f Actᶜ.EndFunction h = tt
held_type z s d f Actᶜ.NameBlock h = tt
held_type z s d f Actᶜ.EndInstruction h = tt
held_type z s d f Actᶜ.EndBlock h = tt
held_type z s d f (Actᶜ.NameRegister true u) h = omega (arith, f.ready.types u h)
held_type z s d f (Actᶜ.NameRegister false u) h = omega (arith, f.ready.types u h)

-- The act that closes a function.
abbrev pub ends_function : Actᶜ → Bool
ends_function Actᶜ.Wrong = false
ends_function Actᶜ.Pass = false
ends_function Actᶜ.BeginFunction = false
ends_function Actᶜ.MarkSsa = false
ends_function Actᶜ.BeginRegister = false
ends_function Actᶜ.BeginBlock = false
ends_function (Actᶜ.SetResult u) = false
ends_function Actᶜ.NameFunction = false
ends_function Actᶜ.NameBlock = false
ends_function (Actᶜ.NameRegister k u) = false
ends_function (Actᶜ.BeginInstruction op) = false
ends_function (Actᶜ.SetInstruction op) = false
ends_function Actᶜ.SetTarget = false
ends_function Actᶜ.AddSource = false
ends_function Actᶜ.AddEntry = false
ends_function Actᶜ.AddMention = false
ends_function (Actᶜ.SetNumber neg v) = false
ends_function Actᶜ.EndInstruction = false
ends_function Actᶜ.EndBlock = false
ends_function Actᶜ.EndFunction = true

pub other_act : (a : Actᶜ) → (a ≡ Actᶜ.EndFunction → ⊥) → ends_function a ≡ false
other_act Actᶜ.Wrong n = refl
other_act Actᶜ.Pass n = refl
other_act Actᶜ.BeginFunction n = refl
other_act Actᶜ.MarkSsa n = refl
other_act Actᶜ.BeginRegister n = refl
other_act Actᶜ.BeginBlock n = refl
other_act (Actᶜ.SetResult u) n = refl
other_act Actᶜ.NameFunction n = refl
other_act Actᶜ.NameBlock n = refl
other_act (Actᶜ.NameRegister k u) n = refl
other_act (Actᶜ.BeginInstruction op) n = refl
other_act (Actᶜ.SetInstruction op) n = refl
other_act Actᶜ.SetTarget n = refl
other_act Actᶜ.AddSource n = refl
other_act Actᶜ.AddEntry n = refl
other_act Actᶜ.AddMention n = refl
other_act (Actᶜ.SetNumber neg v) n = refl
other_act Actᶜ.EndInstruction n = refl
other_act Actᶜ.EndBlock n = refl
other_act Actᶜ.EndFunction n = absurd (n refl)

closes_by : (a : Actᶜ) (z : TokenSpot) → ends_function a ≡ closing (act_of z a)
closes_by Actᶜ.Wrong z = refl
closes_by Actᶜ.Pass z = refl
closes_by Actᶜ.BeginFunction z = refl
closes_by Actᶜ.MarkSsa z = refl
closes_by Actᶜ.BeginRegister z = refl
closes_by Actᶜ.BeginBlock z = refl
closes_by (Actᶜ.SetResult u) z = refl
closes_by Actᶜ.NameFunction z = refl
closes_by Actᶜ.NameBlock z = refl
closes_by (Actᶜ.NameRegister true u) z = refl
closes_by (Actᶜ.NameRegister false u) z = refl
closes_by (Actᶜ.BeginInstruction op) z = refl
closes_by (Actᶜ.SetInstruction op) z = refl
closes_by Actᶜ.SetTarget z = refl
closes_by Actᶜ.AddSource z = refl
closes_by Actᶜ.AddEntry z = refl
closes_by Actᶜ.AddMention z = refl
closes_by (Actᶜ.SetNumber neg v) z = refl
closes_by Actᶜ.EndInstruction z = refl
closes_by Actᶜ.EndBlock z = refl
closes_by Actᶜ.EndFunction z = refl

-- a token taken by its act
pub taken_by : (bytes : List ℕ) (p : TextPlace) (t : Tokenᶜ) (c : Reader) (x : Lent) (m : Moveᶜ) (r : Result Draftᶜ Fault) (x' : Lent)
    → bytes_of t bytes ≡ bytes → Movesᶜ (next_move (stage_is c.stage)) t m → Performs bytes p c.draft x r x' m.act
    → Takes bytes p t c x (taken_from (ends_function m.act) m.stage r) x'
taken_by bytes p t c x m r x' own moved done fs parse reads tok means =
    let (s, d, e, k, f) = reads_follows reads in
    rw e (by s d k f)
  where
    z : TokenSpot
    z = spot_of t (spot_for means)

    named : bytes ≡ z.name
    named = sym own ∙ ap (bytes_of t) (sym (spot_name means))

    by : (s : Stage) (d : Draft) → d.functions ≡ fs → Follows s d c x → Reads fs x' (meaning.take_token (Parse.reading s d) (Found.token p.byte tok)) (taken_from (ends_function m.act) m.stage r)
    by s d k f =
        let moved' : Movesᶜ (next_move s) t m = subst (λ (u : Stage). Movesᶜ (next_move u) t m) f.stage moved in
        let move : move_of z m ≡ next_move s tok = moved' (spot_for means) ∙ ap (next_move s) (spot_token means) in
        let act : act_of z m.act ≡ (next_move s tok).act = ap (λ y. y.act) move in
        let fit = fits s tok in
        rw (closes_by m.act z)
        (done_reads fs s d k c x f tok p m.stage (ap (λ y. y.stage) move) (perform_act (act_of z m.act) p.byte d) r x' (act_of z m.act) (sym act)
        (performs s d c x f r x' z p m.act (subst (λ (n : List ℕ). Performs n p c.draft x r x' m.act) named done)
        (λ neg v h.
        let at : s ≡ Stage.number = subst (λ (a : Actᶜ). OnlyAt s (act_of z a)) h (subst (OnlyAt s) (sym act) fit.only) in
        act_kept means m (subst (λ (u : Stage). Movesᶜ (next_move u) t m) at moved') neg v h)
        (subst (λ (a : Act). T (up_to a (depth s))) (sym act) fit.hand)
        (subst (λ (a : Act). T (cond (in_function a) (not (is_top s)) true)) (sym act) fit.inside)
        (subst (OnlyAt s) (sym act) fit.only))
        refl)

pub enabled : (bytes : List ℕ) (p : TextPlace) (t : Tokenᶜ) (c : Reader) (x : Lent) (m : Moveᶜ)
    → ReaderReached c x → Beside t bytes p → Movesᶜ (next_move (stage_is c.stage)) t m → Enabled c.draft x bytes p m.act
enabled bytes p t c x m reached beside moved =
    let (s, d, e, k, f) = reads_follows reached.reads in
    by s d f
  where
    z : TokenSpot
    z = record { name = bytes; large = 0 }

    y : TokenSpot
    y = spot_of t z

    by : (s : Stage) (d : Draft) → Follows s d c x → Enabled c.draft x bytes p m.act
    by s d f =
        let moved' : Movesᶜ (next_move s) t m = subst (λ (u : Stage). Movesᶜ (next_move u) t m) f.stage moved in
        let act : act_of y m.act ≡ (next_move s (token_of z t)).act = ap (λ n. n.act) (moved' z) in
        let fit = fits s (token_of z t) in
        let inside : T (cond (in_function (act_of y m.act)) (not (is_top s)) true) = subst (λ (a : Act). T (cond (in_function a) (not (is_top s)) true)) (sym act) fit.inside in
        record {
          bounded = f.bounded;
          lent = f.lent;
          indexed = λ l. cells_indexed (f.stands (rw (← f.counts.functions) l));
          short = beside.short;
          low = beside.low;
          room =
              room_for y f.counts (begun_at s) _ m.act
              (subst (λ (a : Act). Moves a (begun_at s) (begun_at (next_move s (token_of z t)).stage)) (sym act) (moves s (token_of z t)).moves)
              f.room
              (λ h. f.ready.inside (within_function (in_function (act_of y m.act)) (not (is_top s)) h inside));
          holding = held_type y s d f m.act (subst (Typed s) (sym act) fit.typed);
        }

-- ---- the end

end_wrong : (s : Stage) → is_top s ≡ false → next_move s Token.end ≡ wrong_move
unfolding next_move
end_wrong Stage.top e = absurd (true≢false e)
end_wrong Stage.header e = refl
end_wrong Stage.result e = refl
end_wrong Stage.function_name e = refl
end_wrong Stage.parameters e = refl
end_wrong Stage.first_parameter e = refl
end_wrong Stage.parameter e = refl
end_wrong Stage.parameter_end e = refl
end_wrong (Stage.parameter_name t) e = refl
end_wrong Stage.body e = refl
end_wrong Stage.declarations e = refl
end_wrong Stage.register_type e = refl
end_wrong Stage.register_end e = refl
end_wrong (Stage.register_name t) e = refl
end_wrong Stage.blocks e = refl
end_wrong Stage.block_name e = refl
end_wrong Stage.block_body e = refl
end_wrong Stage.first_instruction e = refl
end_wrong Stage.next_instruction e = refl
end_wrong Stage.assignment e = refl
end_wrong Stage.instruction e = refl
end_wrong (Stage.source k o) e = refl
end_wrong (Stage.source_comma k o) e = refl
end_wrong (Stage.operand o) e = refl
end_wrong Stage.number e = refl
end_wrong Stage.entry e = refl
end_wrong Stage.entry_end e = refl
end_wrong (Stage.mention k) e = refl
end_wrong (Stage.mention_comma k) e = refl
end_wrong Stage.operand_end e = refl
end_wrong Stage.instruction_end e = refl

pub end_taken : (p : TextPlace) (c : Reader) (x : Lent) → is_top (stage_is c.stage) ≡ true → EndTaken p c x (Ok (steps.Ended c))
unfolding meaning.take_token perform_act next_move
end_taken p c x top fs parse reads =
    let (s, d, e, k, f) = reads_follows reads in
    let is : s ≡ Stage.top = sym f.stage ∙ top_only (stage_is c.stage) top in
    let none : d ≡ fresh d.functions = (subst (λ (u : Stage). StageReady u d) is f.ready).between tt in
    rw (e, is) (subst (λ (b : Draft). Reads fs x (Parse.reading Stage.top b) (Ok (steps.Ended c))) (sym (none ∙ ap fresh k)) (Reads.ended c (f.counts.functions ∙ ap length k)
    (λ l. (f.stands (rw k l)).cells ∙ ap open_cells none ∙ open_fresh d.functions)))

pub end_refused : (p : TextPlace) (c : Reader) (x : Lent) → is_top (stage_is c.stage) ≡ false → EndTaken p c x (Err (fault_at reasons.TokenNotAllowed p))
unfolding meaning.take_token perform_act
end_refused p c x inside fs parse reads =
    let (s, d, e, k, f) = reads_follows reads in
    rw (e, end_wrong s (sym (ap is_top f.stage) ∙ inside)) (Reads.refused (fault_at reasons.TokenNotAllowed p))
