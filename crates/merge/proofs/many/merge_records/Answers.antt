-- `merge_records`: the check, the signature, the lengths, then all at once.
use mathlib.Core.Bool.{◌&&◌}
use mathlib.Core.List.{map}
use mathlib.Core.Path.{refl}
use Prim.Native.Nat.{◌%◌}
use lib.Dec.{eqb}
use lib.ListN.{length}
use borrow.Author.Tests.{eq-eqb, ne_eqb}
use Rattle.records.specs.Stores.{inserts, store_length}
use Rattle.records.specs.Limits.{judged_test}
use Rattle.records.specs.Answers.{Kept, IfLent, tests_of}
use Rattle.merge.proofs.Told.{both_right, first_wrong, second_wrong, many_refused, many_other, many_allowed}
use Rattle.merge.proofs.many.merge_records.Goals as goal

pub returns-then-checked-ne0 : goal.returns-then-checked-ne0
returns-then-checked-ne0 c =
    let st = c.args.store.now in
    let f = inserts (map (judged_test c.args.table.now c.args.function c.args.budget) (tests_of c.args.records.now)) in
    many_refused c.args.table.now c.args.function c.ial_check-checked.result c.ial_check-checked.ensures st
    (IfLent (eqb (length st) store_length && eqb (length c.args.records.now % 4) 0) st (Kept st f)) c.if-checked-ne0.true

pub returns-then-not-is_limit : goal.returns-then-not-is_limit
returns-then-not-is_limit c =
    let st = c.args.store.now in
    let f = inserts (map (judged_test c.args.table.now c.args.function c.args.budget) (tests_of c.args.records.now)) in
    many_other c.args.table.now c.args.function c.ial_check-checked.result c.ial_check-checked.ensures st
    (IfLent (eqb (length st) store_length && eqb (length c.args.records.now % 4) 0) st (Kept st f)) c.if-checked-ne0.false c.is_limit.result
    c.is_limit.ensures c.if-not-is_limit.true-raw

pub returns-then-store-ne-STORE_LENGTH : goal.returns-then-store-ne-STORE_LENGTH
returns-then-store-ne-STORE_LENGTH c =
    let st = c.args.store.now in
    let f = inserts (map (judged_test c.args.table.now c.args.function c.args.budget) (tests_of c.args.records.now)) in
    let b = eqb (length c.args.records.now % 4) 0 in
    many_allowed c.args.table.now c.args.function c.ial_check-checked.result c.ial_check-checked.ensures st (IfLent (eqb (length st) store_length && b) st (Kept st f)) c.if-checked-ne0.false c.is_limit.result
    c.is_limit.ensures _ c.if-not-is_limit.false-raw (first_wrong st (Kept st f) _ b c.if-store-ne-STORE_LENGTH.true refl)

pub returns-then-records-ne0 : goal.returns-then-records-ne0
returns-then-records-ne0 c =
    let st = c.args.store.now in
    let f = inserts (map (judged_test c.args.table.now c.args.function c.args.budget) (tests_of c.args.records.now)) in
    let b = eqb (length c.args.records.now % 4) 0 in
    many_allowed c.args.table.now c.args.function c.ial_check-checked.result c.ial_check-checked.ensures st (IfLent (eqb (length st) store_length && b) st (Kept st f)) c.if-checked-ne0.false c.is_limit.result
    c.is_limit.ensures _ c.if-not-is_limit.false-raw
    (second_wrong st (Kept st f) _ b c.if-store-ne-STORE_LENGTH.false (ne_eqb (length c.args.records.now % 4) 0 c.if-records-ne0.true) refl)

pub returns : goal.returns
returns c =
    let st = c.args.store.now in
    let f = inserts (map (judged_test c.args.table.now c.args.function c.args.budget) (tests_of c.args.records.now)) in
    let b = eqb (length c.args.records.now % 4) 0 in
    many_allowed c.args.table.now c.args.function c.ial_check-checked.result c.ial_check-checked.ensures st (IfLent (eqb (length st) store_length && b) st (Kept st f)) c.if-checked-ne0.false c.is_limit.result
    c.is_limit.ensures _ c.if-not-is_limit.false-raw
    (both_right st (Kept st f) _ b c.if-store-ne-STORE_LENGTH.false (eq-eqb (length c.args.records.now % 4) 0 c.if-records-ne0.false) c.merge_all.ensures)
