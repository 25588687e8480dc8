-- `writer::write_table` meets its contract: a walk of its MIR, by hand. A writer is made of the lent output, passed from call to call in locals, and finished. All that the proof knows of the callees is that each meets its contract.
-- The output's borrow is given up for good: `new` is called at its own lifetime, share and ghost name, and what `finish` leaves of the last writer is what is left of the output.
-- Assumes nothing.
use mathlib.Core.Path.{◌≡◌, refl, sym, ◌∙◌, ap, subst}
use Prim.Native.Nat.{ℕ}
use mathlib.Core.List.{[], ◌∷◌, List}
use lib.Dec.{T as Holds}
use lib.ListN.{length}
use seplogic.Ra.Ura.{Ura}
use mir.Syntax.{named, erased, w8, w64}
use mir.Val.{Val, WT, has_ty}
use base.Logic.{SProp, ent, id⊢, ex_e, snd∗}
use base.Fml.{Lft, Share, GName, Fml, ftrue, flft, fbor}
use prog.Memory.{Memory}
use prog.Routine.{Routine}
use prog.Wp.{Calls, Loops, WpFn}
use types.Logic.{Logic, sem}
use contract.Monad.{Fun, fact}
use contract.Running.{tables}
use types.Kit.{Item, ⋆, ‵, raw, some, later, ◌⊛◌, ◌$◌, ◌∵◌, !, qed, by, move, keep, use1, use2, use3, split, join, pick, rewrite, fsplit, fjoin, feq_l, suffices, frame, await, done}
use types.Run.{stop, hop, fld, from, addr, of_opd, and_then, no_more, returns, enter}
use types.Part.{agg, whole, sub}
use types.SemTy.{Arr, Body}
use types.Hole.{Holey}
use denote.Memory.{mem as bytes}
use types.ByLocal.{alloc_all, pass_all, free_all, look_at, look_in_at, get, get_in, sets, lands_as}
use sound.WpLaws.{FmC}
use denote.RattleType.{owns}
use denote.Laws.{Is, shows}
use denote.Plain.{uint_Lawful, uint_row_laws}
use denote.Builtin.{u8, usize}
use denote.Ref.{Bor, MutBor, NamedLft}
use denote.Slice.{slice_val, MutSlice, ShrSlice, Room, finally, shr_slice_vals, mut_slice_vals, mut_slice_Tells, shr_slice_Tells, shr_slice_Lawful, shr_slice_copy}
use denote.Steps.{only, peeks, heard, nothing}
use denote.Struct.Laws as LL
use denote.Triple.Entry.{on_entry}
use denote.Triple.Spec.{triple_of}
use denote.Triple.Statement.{Contract, Triple}
use denote.Triple.Call.{calls_at}
use denote.Triple.Clauses.{ensured, lasts}
use denote.Triple.Table.{framed}
use denote.Triple.Walked.{says, needs, Stays, stay_none_slice, gave_slice, walk_of, Goes-none_slice, Goes-gave_slice, ends_at}
use denote.Exit.{yes}
use denote.Signature.{plain}
use Rattle.std.proofs.raw_atomic.Walks.{proved}
use Rattle.writer.specs.declared.Writer.{Writer}
use Rattle.language.specs.Table.{decode}
use Rattle.language.specs.MadeNames.{written}
use Rattle.page.specs.Page.{page, puts, closed}
use Rattle.page.proofs.Pages.{puts_length}
use Rattle.writer.specs.Writers.{page_of, writing, Checked}
use Rattle.writer.specs.contracts.Writer as T
use Rattle.writer.proofs.Writer.TheLaws as T'
use Rattle.writer.specs.contracts.new as new
use Rattle.writer.proofs.new.Symbol.{name as #new}
use Rattle.writer.proofs.new.Met as new-met
use Rattle.writer.specs.contracts.table as table
use Rattle.writer.proofs.table.Symbol.{name as #table}
use Rattle.writer.proofs.table.Met as table-met
use Rattle.writer.specs.contracts.finish as finish
use Rattle.writer.proofs.finish.Symbol.{name as #finish}
use Rattle.writer.proofs.finish.Met as finish-met
use Rattle.writer.specs.contracts.write_table as f
use Rattle.writer.proofs.write_table.Statement.{statement}
use Rattle.writer.proofs.write_table.Code as code

abbrev stayed : Stays f.ended.signature.params f.ended.kept
stayed = (gave_slice (0 ∷ []) tt (plain (λ _. u8)), (stay_none_slice (1 ∷ []) tt (plain (λ _. u8)) yes, tt))

module _ {M : Type 1} {𝓤 : Ura M} (𝓛 : Logic 𝓤) (mem : Memory → SProp 𝓤) (run : Routine → Fun 𝓤) where
  -- the contracts that the proof cites
  abbrev New : Contract 𝓤
  New = triple_of 𝓛 new.signature (new.spec 𝓛 mem run)

  abbrev Tabled : Contract 𝓤
  Tabled = triple_of 𝓛 table.signature (table.spec 𝓛 mem run)

  abbrev Finish : Contract 𝓤
  Finish = triple_of 𝓛 finish.signature (finish.spec 𝓛 mem run)

  -- of the first two callees' `ensured`, the clause alone: neither has a last value
  new_of : (κ : Lft) (x : MutBor (List ℕ)) (r : Writer) → ent 𝓤 (ensured 𝓛 new.ended (new.clauses 𝓛 mem run) (κ, tt) (x, tt) tt r) (fact 𝓤 ((r.out ≡ x) × (r.at ≡ 0)))
  new_of κ x r = ex_e 𝓤 _ (λ ws. snd∗ 𝓤 (sem 𝓛 (lasts new.ended (κ, tt) (x, tt) ws)) (fact 𝓤 ((r.out ≡ x) × (r.at ≡ 0))))

  table_of : (κ κ' : Lft) (h : Writer) (t : Bor (List ℕ)) (r : Writer) → ent 𝓤 (ensured 𝓛 table.ended (table.clauses 𝓛 mem run) (κ, (κ', tt)) (h, (t, tt)) tt r) (fact 𝓤 (r ≡ writing h (puts (page_of h) (written (decode t.now)))))
  table_of κ κ' h t r = ex_e 𝓤 _ (λ ws. snd∗ 𝓤 (sem 𝓛 (lasts table.ended (κ, (κ', tt)) (h, (t, tt)) ws)) (fact 𝓤 (r ≡ writing h (puts (page_of h) (written (decode t.now))))))

module _ {M : Type 1} {𝓤 : Ura M} (𝓛 : Logic 𝓤) (mem : Memory → SProp 𝓤) (run : Routine → Fun 𝓤) (κ κ' : Lft) (q q' : Share) (b o : ℕ) (γ : GName) (ys : List ℕ) (t : Bor (List ℕ)) where
  open 𝓛 use {H}

  abbrev α : NamedLft
  α = record { mir = named 0; lft = κ }

  abbrev x : MutBor (List ℕ)
  x = record { ref_ptr = (b, o); ghost_name = γ; now = ys }

  abbrev s : Val
  s = slice_val (b, o) (length ys)

  abbrev u : Val
  u = slice_val t.ref_ptr (length t.now)

  abbrev Own : Fml
  Own = (ShrSlice (named 1) κ' u8).own_val t (u ∷ [])

  -- the writers that `new` and `table` return
  abbrev h₀ : Writer
  h₀ = record { out = x; at = 0 }

  abbrev h₁ : Writer
  h₁ = writing h₀ (puts (page_of h₀) (written (decode t.now)))

  same : length h₁.out.now ≡ length ys
  same = puts_length (page ys 0) (written (decode t.now))

  -- the machine value of a writer has the struct's MIR type, whose lifetimes a local's erases
  typed : (h : Writer) (w : Val) → Is (T.the_row α) h (w ∷ []) → Holds (has_ty (T'.mir erased) w) × WT w
  typed h w is =
      let fields = LL.owed (T.the_type α) (T'.the_laws α) h _ is in
      subst (λ (z : Val). Holds (has_ty (T'.mir erased) z) × WT z) (sym (ap only (LL.tells (T.the_type α) (T'.the_laws α) h _ is))) (tt, ((tt, (record { fits = fields.0.0.1.0 }, tt)), (record { fits = fields.1.0.1 }, tt)))

  abbrev a : MutBor (List ℕ) × (Bor (List ℕ) × Unit {0})
  a = (x, (t, tt))

  abbrev vals : List Val × (List Val × Unit {0})
  vals = (s ∷ [], (u ∷ [], tt))

  abbrev y : (walk_of 𝓛 f.ended stayed (f.clauses 𝓛 mem run)).Ghost
  y = (((κ, (κ', tt)), (q, (q', tt)), tt, a, vals), tt)

  abbrev Post : Val → SProp 𝓤
  Post = (walk_of 𝓛 f.ended stayed (f.clauses 𝓛 mem run)).post y

  -- the writer's token, the table's, and what a writer h at the machine value w owns
  abbrev one : Item 𝓤
  one = ‵ (flft κ q) ⊛ ‵ ftrue

  abbrev other : Item 𝓤
  other = ‵ (flft κ' q') ⊛ ‵ ftrue

  abbrev both : Item 𝓤
  both = ‵ (flft κ q) ⊛ ‵ (flft κ' q') ⊛ ‵ ftrue

  abbrev holds : Writer → Val → Item 𝓤
  holds h w = ‵ ((T.the_row α).own_val h (w ∷ []))

  -- what each callee's triple binds outside, and that the caller has what it asks
  abbrev to_new : (New 𝓛 mem run).Ghost
  to_new = (((κ, tt), (q, tt), tt, (x, tt), (s ∷ [], tt)), tt)

  goes_new : ent 𝓤 (⋆ 𝓛 (one ∷ ‵ ((MutSlice (named 0) κ u8).own_val x (s ∷ [])) ∷ [])) ((New 𝓛 mem run).pre to_new)
  goes_new = qed 𝓛 (one ∷ ‵ ((MutSlice (named 0) κ u8).own_val x (s ∷ [])) ∷ []) ∵ nothing ! $ move ! (2 ∷ 0 ∷ []) $ fjoin ! $ move ! (1 ∷ 0 ∷ []) $ join ! $ frame ! $ done !

  abbrev to_table : Val → (Tabled 𝓛 mem run).Ghost
  to_table w = (((κ, (κ', tt)), (q, (q', tt)), tt, (h₀, (t, tt)), (w ∷ [], (u ∷ [], tt))), tt)

  goes_table : (w : Val) → Checked t.now → ent 𝓤 (⋆ 𝓛 (holds h₀ w ∷ one ∷ (other ⊛ ‵ Own) ∷ [])) ((Tabled 𝓛 mem run).pre (to_table w))
  goes_table w ok =
      qed 𝓛 (holds h₀ w ∷ one ∷ (other ⊛ ‵ Own) ∷ []) ∵ says ! ok $ move ! (1 ∷ []) $ split ! $ move ! (3 ∷ []) $ split ! $ move ! (2 ∷ 0 ∷ []) $ join ! $
      -- [both tokens; what the table owns; true; what the writer owns]
      frame ! $ fjoin ! $ move ! (1 ∷ 0 ∷ []) $ fjoin ! $ done !

  abbrev to_finish : Val → (Finish 𝓛 mem run).Ghost
  to_finish w = (((κ, tt), (q, tt), tt, (h₁, tt), (w ∷ [], tt)), tt)

  goes_finish : (w : Val) → ent 𝓤 (⋆ 𝓛 (one ∷ holds h₁ w ∷ [])) ((Finish 𝓛 mem run).pre (to_finish w))
  goes_finish w = qed 𝓛 (one ∷ holds h₁ w ∷ []) ∵ nothing ! $ move ! (2 ∷ 0 ∷ []) $ fjoin ! $ move ! (1 ∷ 0 ∷ []) $ join ! $ frame ! $ done !

  -- the output's borrow, given up: of n bytes
  abbrev lent : ℕ → Fml
  lent n = fbor κ (Body (Arr (Holey (bytes u8)) n) b o γ)

  abbrev left_over : ℕ → Val → List ℕ → List (Item 𝓤)
  left_over r w zs = one ∷ ‵ (finally u8 γ zs) ∷ ‵ (lent (length ys)) ∷ ‵ (usize.own_val r (w ∷ [])) ∷ other ∷ ‵ Own ∷ []

  exits : (r : ℕ) (w : Val) (zs : List ℕ) → (r ≡ h₁.at) × (zs ≡ closed h₁.out.now h₁.at) → length zs ≡ length h₁.out.now → ent 𝓤 (⋆ 𝓛 (left_over r w zs)) (Post w)
  exits r w zs e len =
      qed 𝓛 (left_over r w zs) ∵
      suffices ! _ (ends_at 𝓛 f.ended stayed (f.clauses 𝓛 mem run) y w r (zs, (tt, tt)) (len ∙ same, (tt, tt))) $ says ! (λ i. page (e.1 i) (e.0 i)) $
      split ! $ move ! (0 ∷ 5 ∷ []) $ join ! $ frame ! $ move ! (4 ∷ 0 ∷ []) $ fjoin ! $ move ! (1 ∷ 2 ∷ []) $ fjoin ! $ fjoin ! $ done !

  module _ (C : Calls 𝓤 H) (Λ : Loops 𝓤 H) (fm : FmC 𝓤 H 𝓛.laws C) (known_new : Triple 𝓤 (C #new) (New 𝓛 mem run)) (known_table : Triple 𝓤 (C #table) (Tabled 𝓛 mem run))
      (known_finish : Triple 𝓤 (C #finish) (Finish 𝓛 mem run)) where
    walk : Room u8 (length ys) → Is (ShrSlice (named 1) κ' u8) t (u ∷ []) → Checked t.now → ent 𝓤 (on_entry 𝓛 f.signature (κ, (κ', tt)) (q, (q', tt)) a vals) (WpFn 𝓤 H C Λ code.function (s ∷ u ∷ []) Post)
    walk room p ok =
        qed 𝓛 (both ∷ ‵ (owns (MutSlice (named 0) κ u8 ∷ ShrSlice (named 1) κ' u8 ∷ []) a vals) ∷ []) ∵ enter ! C Λ code.function (s ∷ u ∷ []) _ $
        alloc_all ! (λ l. pass_all ! refl ((tt, (tt, (record { fits = room.0 }, tt))), (((shr_slice_Lawful 𝓛 (named 1) κ' u8).typed t (u ∷ []) p).0, tt)) $
        sets ! (addr ! (from ! (fld ! refl (hop ! (look_in_at ! 1 (sub ! 0 refl (whole !))) (stop !))))) refl (tt, tt) $
        sets ! (agg ! (and_then ! (get ! refl) (and_then ! (get_in ! (fld ! refl (stop !)) (sub ! 1 refl (whole !))) (no_more !)))) refl (tt, (tt, (record { fits = room.0 }, tt))) $
        -- `new`
        split ! $ move ! (2 ∷ []) $ fsplit ! $ move ! (1 ∷ []) $ fsplit ! $ move ! (3 ∷ []) $ nothing ! $ move ! (1 ∷ 0 ∷ []) $ join ! $ move ! (0 ∷ 3 ∷ []) $
        -- [the writer's token; what out owns; what the table owns; true; the table's token; the locals]
        use2 𝓛 (raw ((New 𝓛 mem run).pre to_new)) goes_new $
        calls_at ! fm (New 𝓛 mem run) known_new to_new (and_then ! (get ! refl) (no_more !)) (λ w₀.
        use1 𝓛 (later (some (λ (r : Writer). (one ⊛ holds r w₀) ⊛ raw (ensured 𝓛 new.ended (new.clauses 𝓛 mem run) (κ, tt) (x, tt) tt r)))) (id⊢ 𝓤 _) $ await ! tt $ pick ! (λ r₀.
        split ! $ move ! (1 ∷ []) $ use1 𝓛 (raw (fact 𝓤 ((r₀.out ≡ x) × (r₀.at ≡ 0)))) (new_of 𝓛 mem run κ x r₀) $ heard ! ((r₀.out ≡ x) × (r₀.at ≡ 0)) (λ e₀.
        split ! $ rewrite ! 1 (λ (h : Writer). holds h w₀) (λ i. record { out = e₀.0 i; at = e₀.1 i }) refl $
        move ! (1 ∷ []) $ peeks ! (T.the_row α) (Is (T.the_row α)) (shows 𝓛 (T.the_row α)) h₀ (w₀ ∷ []) (λ is₀. lands_as ! refl refl (typed h₀ w₀ is₀) $
        -- `table`: [what the writer owns; its token; what the table owns; true; the table's token; the locals]
        move ! (2 ∷ []) $ use1 𝓛 (‵ Own ⊛ ‵ Own) ((shr_slice_copy 𝓛 (named 1) κ' u8 (uint_row_laws w8)).twice t (u ∷ [])) $ split ! $ move ! (5 ∷ 0 ∷ []) $ join ! $
        move ! (2 ∷ 3 ∷ 0 ∷ []) $ use3 𝓛 (raw ((Tabled 𝓛 mem run).pre (to_table w₀))) (goes_table w₀ ok) $
        calls_at ! fm (Tabled 𝓛 mem run) known_table (to_table w₀) (and_then ! (get ! refl) (and_then ! (get ! refl) (no_more !))) (λ w₁.
        use1 𝓛 (later (some (λ (r : Writer). (both ⊛ holds r w₁) ⊛ raw (ensured 𝓛 table.ended (table.clauses 𝓛 mem run) (κ, (κ', tt)) (h₀, (t, tt)) tt r)))) (id⊢ 𝓤 _) $ await ! tt $ pick ! (λ r₁.
        split ! $ move ! (1 ∷ []) $ use1 𝓛 (raw (fact 𝓤 (r₁ ≡ h₁))) (table_of 𝓛 mem run κ κ' h₀ t r₁) $ heard ! (r₁ ≡ h₁) (λ e₁.
        split ! $ rewrite ! 1 (λ (h : Writer). holds h w₁) e₁ refl $
        move ! (1 ∷ []) $ peeks ! (T.the_row α) (Is (T.the_row α)) (shows 𝓛 (T.the_row α)) h₁ (w₁ ∷ []) (λ is₁. lands_as ! refl refl (typed h₁ w₁ is₁) $
        sets ! (of_opd ! (get ! refl)) refl (typed h₁ w₁ is₁) $
        -- `finish`: [what the writer owns; both tokens; what the table owns; true; the locals]
        move ! (1 ∷ []) $ split ! $ nothing ! $ move ! (1 ∷ 0 ∷ []) $ join ! $ move ! (0 ∷ 2 ∷ []) $ use2 𝓛 (raw ((Finish 𝓛 mem run).pre (to_finish w₁))) (goes_finish w₁) $
        calls_at ! fm (Finish 𝓛 mem run) known_finish (to_finish w₁) (and_then ! (get ! refl) (no_more !)) (λ w.
        use1 𝓛 (later (some (λ (r : ℕ). (one ⊛ ‵ (usize.own_val r (w ∷ []))) ⊛ raw (ensured 𝓛 finish.ended (finish.clauses 𝓛 mem run) (κ, tt) (h₁, tt) tt r)))) (id⊢ 𝓤 _) $ await ! tt $ pick ! (λ r.
        split ! $ move ! (1 ∷ []) $ use1 𝓛 (some (λ (zs : (List ℕ × Unit {0}) × Unit {0}). ‵ (lasts finish.ended (κ, tt) (h₁, tt) zs) ⊛ raw (fact 𝓤 ((r ≡ h₁.at) × (zs.0.0 ≡ closed h₁.out.now h₁.at))))) (id⊢ 𝓤 _) $ pick ! (λ zs.
        split ! $ move ! (1 ∷ []) $ heard ! ((r ≡ h₁.at) × (zs.0.0 ≡ closed h₁.out.now h₁.at)) (λ e. fsplit ! $ fsplit ! $
        fsplit ! $ fsplit ! $ move ! (1 ∷ []) $ feq_l ! (λ len. rewrite ! 1 (λ (n : ℕ). ‵ (lent n)) same refl $
        -- [the last list; the borrow; true; true; the token and the result; the table's token; what the table owns; true; the locals]
        move ! (4 ∷ []) $ split ! $ move ! (1 ∷ []) $ peeks ! usize (Is usize) (shows 𝓛 usize) r (w ∷ []) (λ is.
        lands_as ! refl refl ((uint_Lawful 𝓛 w64).typed r _ is).0 $
        returns ! (look_at ! 0 refl) $ free_all ! refl $ keep ! (1 ∷ 2 ∷ 3 ∷ 0 ∷ 6 ∷ 7 ∷ []) $ by ! (exits r w zs.0.0 e len))))))))))))))))

pub write_table_spec : {M : Type 1} → statement M
write_table_spec 𝓤 𝓛 𝓜 𝓡 wired =
    let c = f.clauses 𝓛 𝓜.mem 𝓡.returns in
    proved 𝓛 f.ended stayed c 𝓜 𝓡 (Goes-gave_slice 𝓛 2 0 tt (plain (λ _. u8)), (Goes-none_slice 𝓛 2 (1 ∷ []) tt (plain (λ _. u8)) yes, tt))
    f.Key.name code.function (code.unfolded 𝓤 𝓛.H 𝓜 𝓡 wired)
    (λ κs. (mut_slice_vals, (shr_slice_vals, tt))) (λ κs. (mut_slice_Tells (named 0) κs.0 u8, (shr_slice_Tells (named 1) κs.1.0 u8, tt)))
    (λ κs qs bounds a g are. needs 𝓤 (Checked a.1.0.now) _ (λ ok.
    walk 𝓛 𝓜.mem 𝓡.returns κs.0 κs.1.0 qs.0 qs.1.0 a.0.ref_ptr.0 a.0.ref_ptr.1 a.0.ghost_name a.0.now a.1.0
    (tables 𝓤 𝓛.H 𝓜 𝓡 𝓡.env).C (tables 𝓤 𝓛.H 𝓜 𝓡 𝓡.env).Λ (framed 𝓤 𝓛.H 𝓜 (tables 𝓤 𝓛.H 𝓜 𝓡 𝓡.env))
    (new-met.met 𝓤 𝓛 𝓜 𝓡 (code.calls-writer::new 𝓡.env wired)) (table-met.met 𝓤 𝓛 𝓜 𝓡 (code.calls-writer::table 𝓡.env wired)) (finish-met.met 𝓤 𝓛 𝓜 𝓡 (code.calls-writer::finish 𝓡.env wired))
    are.0.0.1 are.1.0 ok))
