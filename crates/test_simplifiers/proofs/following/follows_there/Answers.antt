use Rattle.std.proofs.Common.{◌≡◌, ◌∙◌, Bool, true, sym, ap, subst, List, Result, Ok, Err, IfOk}
use Rattle.sat_words.specs.Literal.{Literal}
use Rattle.rup_model.specs.Rup.{rup}
use Rattle.rup_model.proofs.Lists.{In_append_left}
use Rattle.rup_model.proofs.Growth.{rup_more}
use Rattle.simp_base.specs.WorkState.{WorkState, known, lists, unit_clauses}
use Rattle.test_simplifiers.proofs.following.follows_there.Goals as goal

from_all : {E : Type 0} (w : WorkState) (lits : List Literal) (r : Result Bool E) → IfOk r (λ yes. yes ≡ rup (lists w.clauses) lits) → IfOk r (λ yes. yes ≡ true → rup (known w) lits ≡ true)
from_all w lits (Ok answer) e = λ t. rup_more (lists w.clauses) (known w) lits (λ c i. In_append_left (lists w.clauses) (unit_clauses w.units) c i) (sym e ∙ t)
from_all w lits (Err x) e = e

pub returns : goal.returns
returns g c =
    let w : WorkState = c.args.work.now in
    let lits : List Literal = c.args.lits.now in
    let all : c.as_slice.result.now ≡ lists w.clauses = c.as_slice.ensures.value ∙ c.in_ok-clauses.ensures ∙ ap lists c.clauses.ensures.clauses in
    from_all w lits c.is_rup.result (subst (λ (G : List (List Literal)). IfOk c.is_rup.result (λ yes. yes ≡ rup G lits)) all c.is_rup.ensures)
