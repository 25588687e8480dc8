-- `Reader::take`: the grammar's move names the act, and the act lands where the definition's does.
use Rattle.std.proofs.lemmas.Result.{err_from_is_err_and}
use Rattle.reader.proofs.Ending.{end_token, not_end}
use Rattle.reader.proofs.Performing.{enabled, taken_by, other_act}
use Rattle.reader.proofs.taking.Reader.take.Goals as goal

pub returns-in-End : goal.returns-in-End
returns-in-End c =
    let a = c.args in
    record { takes = end_token a.name.now a.p a.token a.self _ c.end.result c.in-End.is (c.end.ensures.0 _); suits = rw c.in-End.is c.end.ensures.1 }

pub perform-requires : goal.perform-requires
perform-requires c =
    let a = c.args in
    enabled a.name.now a.p a.token a.self _ c.next_move-next.result c.requires.reader_reached c.requires.beside c.next_move-next.ensures

pub returns-in_err-draft : goal.returns-in_err-draft
returns-in_err-draft c =
    let a = c.args in
    let p = err_from_is_err_and c.from_residual.result c.from_residual.ensures.1 in rw (p.1, p.2) (record { takes = rw c.in_err-draft.was at (taken_by a.name.now a.p a.token a.self _ c.next_move-next.result c.perform.result _ c.requires.beside.bytes c.next_move-next.ensures c.perform.ensures); suits = tt })

pub returns-in-EndFunction : goal.returns-in-EndFunction
returns-in-EndFunction c =
    let a = c.args in
    record { takes = rw (c.in_ok-draft.was, c.in-EndFunction.is) at (taken_by a.name.now a.p a.token a.self _ c.next_move-next.result c.perform.result _ c.requires.beside.bytes c.next_move-next.ensures c.perform.ensures); suits = not_end a.token c.in_default.not-End }

pub returns : goal.returns
returns c =
    let a = c.args in
    record { takes = rw (c.in_ok-draft.was, other_act c.next_move-next.result.act c.in_default-act.not-EndFunction) at (taken_by a.name.now a.p a.token a.self _ c.next_move-next.result c.perform.result _ c.requires.beside.bytes c.next_move-next.ensures c.perform.ensures); suits = not_end a.token c.in_default.not-End }
