use mathlib.Core.Path.{◌≡◌, refl}
use native.Mathlib.Omega.{arith}
use borrow.Author.Count.{below_none}
use borrow.Author.Rules.{rules}
use lib.ListN.{length-set}
use Rattle.drafts.specs.Ending.{block_named}
use Rattle.drafts.proofs.EndingLaws.{named_by, found_more}
use Rattle.drafts.proofs.ending.resolve.Goals as goal

pub loop-k-init : goal.loop-k-init
loop-k-init c = (omega arith, refl, below_none _)

pub overflow_mul-k : goal.overflow_mul-k
overflow_mul-k c = omega arith

pub name_at-name-requires : goal.name_at-name-requires
name_at-name-requires c = omega arith

pub find_name-requires : goal.find_name-requires
find_name-requires c = omega arith

pub returns-in_default : goal.returns-in_default
returns-in_default c =
    let named = named_by c.args.f.now c.args.blocks c.args.pend.now c.loop-k.k c.name_at-name.ensures c.in_default.ensures in
    let inv = c.loop-k.invariant in
    record { resolved = record { most = inv.0; named = inv.2; missing = λ h. omega (arith, named) }; among = omega arith }

pub overflow_cast-found : goal.overflow_cast-found
overflow_cast-found c = omega arith

pub bounds-found-k : goal.bounds-found-k
bounds-found-k c = omega arith

pub loop-k-preserved : goal.loop-k-preserved
loop-k-preserved c =
    let named = named_by c.args.f.now c.args.blocks c.args.pend.now c.loop-k.k c.name_at-name.ensures c.in-Some.ensures.0 in
    let args = c.args in (
      omega arith,
      simp length-set (omega arith),
      found_more (block_named args.f.now args.blocks args.pend.now) args.blocks c.loop-k.found c.loop-k.k (omega arith) c.loop-k.invariant.2
          named c.in-Some.ensures.1,
    )

pub shape_of-found : goal.shape_of-found
shape_of-found c = omega arith

pub returns : goal.returns
returns c =
    let inv = c.loop-k.invariant in
    let all : c.loop-k.k ≡ c.args.names = omega arith in
    record { resolved = rw (← all) (record { most = omega arith; named = inv.2; missing = λ h. absurd (omega arith) }); among = search rules }
