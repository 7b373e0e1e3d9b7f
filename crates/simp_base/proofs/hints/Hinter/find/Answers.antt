use Rattle.std.proofs.Common.{◌≡◌, ◌∙◌, ◌∷◌, [], true, ap}
use Rattle.std.specs.Prelude.{Result, Ok, Err, OnOk}
use Rattle.rup_model.specs.Hints.{numbered, hinted}
use Rattle.simp_base.proofs.UnitHints.{unit_hints, clash_hints, starts}
use Rattle.simp_base.proofs.hints.Hinter.find.Goals as goal

-- what follows of a success
on_ok_then : {T E : Type 0} (r : Result T E) (P Q : Type 0) → (P → Q) → OnOk r P → OnOk r Q
on_ok_then (Ok x) P Q f h = f h
on_ok_then (Err e) P Q f h = h

pub returns-in-Some : goal.returns-in-Some
returns-in-Some c =
    let cells = c.args.clauses.now.clauses in let lits = c.args.lits.now in let n = c.in-Some.number in let u = c.in-Some.ensures.some in
    on_ok_then c.put.result (c.put.new.self.hints.items ≡ n ∷ []) (hinted (numbered cells) lits c.put.new.self.hints.items ≡ true)
    (λ e. ap (hinted (numbered cells) lits) e ∙ unit_hints cells c.requires.own lits n u.0 u.1 u.2) c.put.ensures.hints

pub returns-in-Some-opposite_units : goal.returns-in-Some-opposite_units
returns-in-Some-opposite_units c =
    let cells = c.args.clauses.now.clauses in let lits = c.args.lits.now in let n = c.in-Some-opposite_units.first in let m = c.in-Some-opposite_units.second in
    let u = c.in-Some-opposite_units.ensures.some in let new = c.put-in-Some-opposite_units.new.self.hints.items in
    on_ok_then c.put-in-Some-opposite_units.result (new ≡ n ∷ m ∷ []) (hinted (numbered cells) lits new ≡ true)
    (λ e. ap (hinted (numbered cells) lits) e ∙ clash_hints cells c.requires.own lits c.in_default.ensures.none n m u.0 u.1 u.2) c.put-in-Some-opposite_units.ensures.hints

pub find_by_search-requires-clause-start : goal.find_by_search-requires-clause-start
find_by_search-requires-clause-start c = starts c.args.clauses.now.clauses c.requires.own c.args.lits.now c.in_default.ensures.none c.in_default-opposite_units.ensures.none
