use Rattle.std.proofs.Common.{◌≡◌, true, false, List, [], ◌∷◌, ◌++◌, filter, length, ap, sym, subst, refl, ◌∙◌, arith, append_assoc, inr}
use Rattle.std.specs.Prelude.{Result, Ok, Err}
use Rattle.std.specs.Result.{result_from_control_flow}
use Rattle.std.specs.Vec.Iter.{into_iter_items}
use Rattle.std.proofs.lemmas.Result.{err_from_is_err_and}
use Rattle.std.proofs.lemmas.Bool.{lt-ltb, le-ltb}
use Rattle.sat_words.specs.Literal.{Literal}
use Rattle.rup_model.specs.NumberedLines.{NumberedLine}
use Rattle.drat_text.specs.LineState.{LineState}
use Rattle.drat_text.specs.LineOut.{PutLine, WasPut, deleted_line}
use Rattle.drat_text.specs.declared.stop.LineStop.{LineStop}
use Rattle.share_rule.specs.declared.rests.Rest.{Rest}
use Rattle.portfolio_run.specs.Resumed.{is_dropped, deletion_of, TookLines, TookFront}
use Rattle.portfolio_run.proofs.Each.{one_longer}
use Rattle.portfolio_run.proofs.Deleting.{took_more, took_spent, kept_more, kept_same, dropped_next, dropped_same, dropped_cut}
use Rattle.portfolio_run.proofs.rests.drop_rests.Goals as goal

-- a line that was taken stands
stands : {T : Type 0} (old new : LineState) (x : NumberedLine) (r : Result T LineStop) (y : T) → r ≡ Ok y → WasPut old new x r → PutLine old new x
stands {T} old new x r y is put = subst (λ (s : Result T LineStop). WasPut old new x s) is put

pub loop-rest-init : goal.loop-rest-init
loop-rest-init g c =
    let gives = c.into_iter-rest-iterator.ensures.into_iter_gives in
    let none = c.in-Ok.ensures.items in record {
      done = [];
      all = sym gives.0;
      kept = none;
      took = refl;
      unspent = c.requires.unspent;
      room = (let made = c.in-Ok.ensures.capacity in let many = c.len.ensures in let ok = c.args.rests.ok in let empty = ap length none in let same = ap length gives.0 in omega arith);
      count = gives.1 ∙ c.args.rests.ok.0 ∙ ap length (sym gives.0);
    }

pub loop-rest-preserved : goal.loop-rest-preserved
loop-rest-preserved g c =
    let at = c.loop-rest.invariant in
    let steps = c.in-Some.ensures.steps in
    let r = c.in-Some.rest in
    let stays : is_dropped r ≡ false = le-ltb 2 r.glue c.if-glue-gt-KEPT_GLUE.false in
    let items = c.push_reserved.ensures.items in record {
      done = at.done ++ r ∷ [];
      all = at.all ∙ ap (λ rs. at.done ++ rs) steps.0 ∙ sym (append_assoc at.done (r ∷ []) (into_iter_items c.next.new.self));
      kept = kept_more at.done r c.loop-rest.kept.items c.push_reserved.new.self.items items at.kept stays;
      took = subst (λ ds. TookLines (g.L.LineOut.told c.args.output.now) ds (g.L.LineOut.told c.loop-rest.output)) (sym (dropped_same at.done r stays)) at.took;
      unspent = at.unspent;
      room = (let was = at.room in let same = c.push_reserved.ensures.capacity in let more = ap length items ∙ one_longer c.loop-rest.kept.items (r.number, r.clause) in let less = ap length steps.0 in omega arith);
      count = (let was = at.count in let gone = steps.1 in let less = ap length steps.0 in omega arith);
    }

pub loop-rest-preserved-then-glue-gt-KEPT_GLUE : goal.loop-rest-preserved-then-glue-gt-KEPT_GLUE
loop-rest-preserved-then-glue-gt-KEPT_GLUE g c =
    let at = c.loop-rest.invariant in
    let steps = c.in-Some.ensures.steps in
    let r = c.in-Some.rest in
    let goes : is_dropped r ≡ true = lt-ltb 2 r.glue c.if-glue-gt-KEPT_GLUE.true in
    let told = g.L.LineOut.told in
    let took : TookLines (told c.args.output.now) (filter is_dropped (at.done ++ r ∷ [])) (told c.del.new.self) =
    subst (λ xs. TookLines (told c.args.output.now) xs (told c.del.new.self)) (sym (dropped_next at.done r goes))
    (took_more (filter is_dropped at.done) (told c.args.output.now) (told c.loop-rest.output) (told c.del.new.self) r at.took (stands (told c.loop-rest.output) (told c.del.new.self) (deletion_of (told c.loop-rest.output) r) c.del.result _ (c.branch-del.ensures ∙ ap result_from_control_flow c.in_ok-del.is)
    (subst (λ (ls : List Literal). WasPut (told c.loop-rest.output) (told c.del.new.self) (deleted_line (told c.loop-rest.output) r.number ls) c.del.result) c.lits.ensures.value c.del.ensures.put))) in record {
      done = at.done ++ r ∷ [];
      all = at.all ∙ ap (λ rs. at.done ++ rs) steps.0 ∙ sym (append_assoc at.done (r ∷ []) (into_iter_items c.next.new.self));
      kept = at.kept ∙ sym (kept_same at.done r goes);
      took = took;
      unspent = took_spent (filter is_dropped (at.done ++ r ∷ [])) (told c.args.output.now) (told c.del.new.self) took ∙ c.requires.unspent;
      room = (let was = at.room in let less = ap length steps.0 in omega arith);
      count = (let was = at.count in let gone = steps.1 in let less = ap length steps.0 in omega arith);
    }

-- the next of those that are to be deleted was refused
front_at : (rests done more : List Rest) (r : Rest) (old middle new : LineState) (stop : LineStop) → rests ≡ done ++ r ∷ more → is_dropped r ≡ true → TookLines old (filter is_dropped done) middle
    → WasPut {T = Unit {0}} middle new (deletion_of middle r) (Err stop) → TookFront rests old new stop
front_at rests done more r old middle new stop all goes took refused = record {
  front = filter is_dropped done;
  rest = r ∷ filter is_dropped more;
  front_of = ap (filter is_dropped) all ∙ dropped_cut done r more goes;
  middle = middle;
  took = took;
  cause = inr (r, filter is_dropped more, refl, refused);
}

pub returns-in_err-del-clause-stopped : goal.returns-in_err-del-clause-stopped
returns-in_err-del-clause-stopped g c =
    let at = c.loop-rest.invariant in
    let r = c.in-Some.rest in
    let told = g.L.LineOut.told in
    let p = err_from_is_err_and c.from_residual.result c.from_residual.ensures.1 in
    rw (p.1, p.2) (front_at c.args.rests.items at.done (into_iter_items c.next.new.self) r (told c.args.output.now) (told c.loop-rest.output) (told c.del.new.self) c.in_err-del.field-0.0
    (at.all ∙ ap (λ rs. at.done ++ rs) c.in-Some.ensures.steps.0) (lt-ltb 2 r.glue c.if-glue-gt-KEPT_GLUE.true) at.took (subst (λ (s : Result (Unit {0}) LineStop). WasPut (told c.loop-rest.output) (told c.del.new.self) (deletion_of (told c.loop-rest.output) r) s) (c.branch-del.ensures ∙ ap result_from_control_flow c.in_err-del.is)
    (subst (λ (ls : List Literal). WasPut (told c.loop-rest.output) (told c.del.new.self) (deleted_line (told c.loop-rest.output) r.number ls) c.del.result) c.lits.ensures.value c.del.ensures.put)))
