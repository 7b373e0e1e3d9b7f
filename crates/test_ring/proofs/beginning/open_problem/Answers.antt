use Rattle.std.proofs.Common.{◌∙◌, ◌≤◌, ◌^◌, ℕ, List, [], All, sym, ap, subst, arith}
use Rattle.sat_words.specs.Literal.{Literal, IsOn}
use Rattle.ring_port.specs.PortState.{PortState}
use Rattle.rup_model.specs.Opening.{IsOpening}
use Rattle.ring_port.specs.PlainPort.{CanOpen, starts_of, unit_lits, begun_with}
use Rattle.test_ring.proofs.beginning.open_problem.Goals as goal

pub new-requires-clause-opening : goal.new-requires-clause-opening
new-requires-clause-opening g c =
    let p = c.args.problem.ready in
    let same = c.in_ok-starts.ensures ∙ c.as_slice.ensures.value in
    subst (λ (ss : List (ℕ × List Literal)). CanOpen (starts_of ss) c.args.problem.listed.items (g.L.LineOut.told c.args.lines)) (sym same) (record {
      clauses = c.args.problem.formula.clauses;
      journal = [];
      over = record {
        opens = subst (λ (us : List Literal). IsOpening c.args.problem.formula.clauses (record { journal = []; starts = starts_of c.args.problem.start.items; units = us })) (sym p.listed) p.opens;
        lines = record { entries = c.requires.none; last = (let n = c.requires.last in omega arith) };
        paired = λ hinted. p.numbered;
      };
    })

pub new-requires-clause-starts_on : goal.new-requires-clause-starts_on
new-requires-clause-starts_on g c =
    let same = c.in_ok-starts.ensures ∙ c.as_slice.ensures.value in
    subst (λ (ss : List (ℕ × List Literal)). All (λ s. All (IsOn c.vars-vars.result) s.1) ss) (sym same) (subst (λ (n : ℕ). All (λ s. All (IsOn n) s.1) c.args.problem.start.items) (sym c.vars-vars.ensures) c.args.problem.ready.starts_on)

pub new-requires-clause-units_on : goal.new-requires-clause-units_on
new-requires-clause-units_on g c =
    let p = c.args.problem.ready in
    subst (λ (n : ℕ). All (IsOn n) (unit_lits c.args.problem.listed.items)) (sym c.vars-vars.ensures) (subst (All (IsOn c.args.problem.formula.vars)) (sym p.listed) p.units_on)

pub returns-clause-made : goal.returns-clause-made
returns-clause-made g c =
    let p = c.args.problem in
    let same = c.in_ok-starts.ensures ∙ c.as_slice.ensures.value in
    let out = g.L.LineOut.told c.args.lines in
    c.in-Ok.ensures.made ∙ ap (λ (n : ℕ). begun_with n c.in_ok-starts.starts p.listed.items out c.args.limit) c.vars-vars.ensures
    ∙ ap (λ (ss : List (ℕ × List Literal)). begun_with p.formula.vars ss p.listed.items out c.args.limit) same

pub returns-clause-small : goal.returns-clause-small
returns-clause-small g c =
    let vars : c.vars-vars.result ≤ 2 ^ 30 = omega (arith, c.if-vars.false) in
    subst (λ (s : PortState). s.vars ≤ 2 ^ 30) (sym c.in-Ok.ensures.made) vars
