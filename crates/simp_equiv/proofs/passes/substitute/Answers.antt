use Rattle.std.proofs.Common.{◌≡◌, ◌∙◌, [], sym, subst}
use Rattle.simp_base.specs.WorkState.{WorkState, has_unit, lists}
use Rattle.simp_base.proofs.LiftSteps.{logs_along}
use Rattle.simp_equiv.specs.Tables.{stand_in, HasPlaces, MovesFew}
use Rattle.simp_equiv.specs.Replacements.{replaced_entries, replacements}
use Rattle.std.specs.Prelude.{Result, Ok, Err}
use Rattle.std.specs.Result.{IsErrAnd}
use Rattle.drat_text.specs.declared.stop.LineStop.{LineStop}
use Rattle.simp_base.specs.declared.work.Run.{Run}
use Rattle.simp_equiv.specs.Ends.{EndsDone}
use Rattle.simp_base.specs.Causes.{HasCause}
use Rattle.simp_base.proofs.Stopping.{output_cause_after}
use Rattle.simp_base.specs.Stacked.{Stacked}
use Rattle.simp_equiv.specs.Rewritten.{Adding, Removing}
use Rattle.simp_equiv.proofs.Tabled.{has_places, moved_on}
use Rattle.simp_equiv.proofs.Ending.{table_leads, begins, ends_done}
use Rattle.simp_equiv.proofs.passes.substitute.Goals as goal

-- a stop that is handed on
handed_on : (old new : WorkState) (result : Result Run LineStop) (stop : LineStop) → IsErrAnd result (λ e. e ≡ stop) → HasCause old new stop → EndsDone old new result
handed_on old new (Ok x) stop e h = absurd e
handed_on old new (Err own) stop e h = subst (HasCause old new) (sym e) h

pub numbers_of-requires : goal.numbers_of-requires
numbers_of-requires g c = let w = c.args.work.now in has_places (has_unit w) (lists w.clauses) w.vars c.args.table.now c.requires.table

pub add_all-requires-clause-places : goal.add_all-requires-clause-places
add_all-requires-clause-places g c = let w = c.args.work.now in has_places (has_unit w) (lists w.clauses) w.vars c.args.table.now c.requires.table

pub add_all-requires-clause-leads : goal.add_all-requires-clause-leads
add_all-requires-clause-leads g c = table_leads c.args.work.now c.args.table.now c.requires.table

pub remove_all-requires-clause-places : goal.remove_all-requires-clause-places
remove_all-requires-clause-places g c =
    let w = c.args.work.now in let t = c.args.table.now in let a : Adding w c.add_all.new.work (stand_in t) [] = c.in_ok-add_all.ensures.added in
    subst (λ v. HasPlaces v t) (sym a.on.vars) (has_places (has_unit w) (lists w.clauses) w.vars t c.requires.table)

pub returns-in_err-remove_all-clause-log : goal.returns-in_err-remove_all-clause-log
returns-in_err-remove_all-clause-log g c =
    let w = c.args.work.now in let t = c.args.table.now in let a : Adding w c.add_all.new.work (stand_in t) [] = c.in_ok-add_all.ensures.added in
    logs_along w c.add_all.new.work c.remove_all.new.work a.on.log c.in_err-remove_all.ensures.removed.1

pub push_all-requires-clause-places : goal.push_all-requires-clause-places
push_all-requires-clause-places g c =
    let w = c.args.work.now in let t = c.args.table.now in let mid = c.add_all.new.work in let now = c.remove_all.new.work in
    let a : Adding w mid (stand_in t) [] = c.in_ok-add_all.ensures.added in
    let b = begins w mid w w t c.as_slice-2.result.now c.requires.table c.requires.consistent c.in-Ok.ensures.ordered (c.as_slice-2.ensures.value ∙ c.in-Ok.ensures.numbers) a in
    let r : Removing w now (stand_in t) [] = c.in_ok-remove_all.ensures.removed w b in
    subst (λ v. HasPlaces v t) (sym r.on.vars) (has_places (has_unit w) (lists w.clauses) w.vars t c.requires.table)

pub push_all-requires-clause-few : goal.push_all-requires-clause-few
push_all-requires-clause-few g c =
    let w = c.args.work.now in let t = c.args.table.now in let mid = c.add_all.new.work in let now = c.remove_all.new.work in
    let a : Adding w mid (stand_in t) [] = c.in_ok-add_all.ensures.added in
    let b = begins w mid w w t c.as_slice-2.result.now c.requires.table c.requires.consistent c.in-Ok.ensures.ordered (c.as_slice-2.ensures.value ∙ c.in-Ok.ensures.numbers) a in
    let r : Removing w now (stand_in t) [] = c.in_ok-remove_all.ensures.removed w b in
    subst (λ v. MovesFew v t) (sym r.on.vars) (moved_on (has_unit w) (lists w.clauses) w.vars t c.requires.table)

pub returns-in_err-push_all-clause-log : goal.returns-in_err-push_all-clause-log
returns-in_err-push_all-clause-log g c =
    let w = c.args.work.now in let t = c.args.table.now in let mid = c.add_all.new.work in let now = c.remove_all.new.work in
    let a : Adding w mid (stand_in t) [] = c.in_ok-add_all.ensures.added in
    let b = begins w mid w w t c.as_slice-2.result.now c.requires.table c.requires.consistent c.in-Ok.ensures.ordered (c.as_slice-2.ensures.value ∙ c.in-Ok.ensures.numbers) a in
    let r : Removing w now (stand_in t) [] = c.in_ok-remove_all.ensures.removed w b in
    logs_along w now c.push_all.new.work r.on.log c.in_err-push_all.ensures.stacked.2

pub returns-in_err-push_all-clause-ends : goal.returns-in_err-push_all-clause-ends
returns-in_err-push_all-clause-ends g c =
    let w = c.args.work.now in let t = c.args.table.now in let mid = c.add_all.new.work in let now = c.remove_all.new.work in
    let a : Adding w mid (stand_in t) [] = c.in_ok-add_all.ensures.added in
    let b = begins w mid w w t c.as_slice-2.result.now c.requires.table c.requires.consistent c.in-Ok.ensures.ordered (c.as_slice-2.ensures.value ∙ c.in-Ok.ensures.numbers) a in
    let r : Removing w now (stand_in t) [] = c.in_ok-remove_all.ensures.removed w b in
    handed_on w c.push_all.new.work c.from_residual-in_err-push_all.result c.in_err-push_all.field-0.0 c.from_residual-in_err-push_all.ensures.1
    (let s = c.in_err-push_all.ensures.stacked in (output_cause_after w.output now.output c.push_all.new.work.output c.in_err-push_all.field-0.0 r.on.quiet s.0, s.1 ∙ r.on.going))

pub returns-clause-ends : goal.returns-clause-ends
returns-clause-ends g c =
    let w = c.args.work.now in let t = c.args.table.now in let mid = c.add_all.new.work in let now = c.remove_all.new.work in
    let a : Adding w mid (stand_in t) [] = c.in_ok-add_all.ensures.added in
    let b = begins w mid w w t c.as_slice-2.result.now c.requires.table c.requires.consistent c.in-Ok.ensures.ordered (c.as_slice-2.ensures.value ∙ c.in-Ok.ensures.numbers) a in
    let r : Removing w now (stand_in t) [] = c.in_ok-remove_all.ensures.removed w b in
    ends_done w mid now c.push_all.new.work t c.as_slice-2.result.now c.requires.table c.requires.consistent c.in-Ok.ensures.ordered (c.as_slice-2.ensures.value ∙ c.in-Ok.ensures.numbers) r
    (subst (λ v. Stacked now c.push_all.new.work (replaced_entries (replacements (stand_in t) v))) r.on.vars c.in_ok-push_all.ensures.stacked)

pub returns-clause-log : goal.returns-clause-log
returns-clause-log g c =
    let w = c.args.work.now in let t = c.args.table.now in let mid = c.add_all.new.work in let now = c.remove_all.new.work in
    let a : Adding w mid (stand_in t) [] = c.in_ok-add_all.ensures.added in
    let b = begins w mid w w t c.as_slice-2.result.now c.requires.table c.requires.consistent c.in-Ok.ensures.ordered (c.as_slice-2.ensures.value ∙ c.in-Ok.ensures.numbers) a in
    let r : Removing w now (stand_in t) [] = c.in_ok-remove_all.ensures.removed w b in
    let s : Stacked now c.push_all.new.work (replaced_entries (replacements (stand_in t) now.vars)) = c.in_ok-push_all.ensures.stacked in
    logs_along w now c.push_all.new.work r.on.log s.log
