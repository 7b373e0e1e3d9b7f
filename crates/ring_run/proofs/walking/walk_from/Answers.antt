use Rattle.std.proofs.Common.{◌≡◌, ◌∙◌, ℕ, ◌+◌, Bool, List, length, map, Some, None, sym, ap, subst, arith, All}
use Rattle.std.specs.Prelude.{if◌then◌else◌}
use Rattle.std.proofs.lemmas.Bool.{eq-eqb, ne_eqb}
use Rattle.rand_pcg.specs.Lcg.{Lcg}
use Rattle.random_bits.specs.Bits.{generator_of}
use Rattle.sat_words.specs.Literal.{Literal, IsOn}
use Rattle.sat_words.specs.Clause.{clause_of, has_opposites}
use Rattle.sat_words.specs.declared.shared.Cref.{Cref}
use Rattle.ring_port.specs.PortState.{lits_at}
use Rattle.ring_decide.specs.DeciderData.{DeciderData}
use Rattle.ring_walk.specs.WalkData.{IsNew, false_under}
use Rattle.ring_walk.specs.Walk.{HasWalked}
use Rattle.ring_walk.proofs.Walking.{best_long}
use Rattle.ring_run.specs.Searching.{IsHeldBy}
use Rattle.ring_run.specs.Walked.{walked_clauses, lits_of, IsStartModel}
use Rattle.ring_run.proofs.Beginning.{starts_held}
use Rattle.ring_run.proofs.WalkLemmas.{walked_are, on_walked, units_on, units_apart, start_model}
use Rattle.ring_run.proofs.walking.walk_from.Goals as goal
use Rattle.ring_run.proofs.walking.walk_from.Goals.{After-as_slice-3, After-best}

pub clauses_of-requires-clause-held : goal.clauses_of-requires-clause-held
clauses_of-requires-clause-held g c =
    let s = g.P.Port.state c.args.port.now in
    subst (All (IsHeldBy s)) (sym c.as_slice.ensures) (starts_held s c.args.job.now c.requires.job c.requires.held)

-- what the walker is made of
clauses_are : (g : _) (c : After-as_slice-3 g) → c.as_slice-2.result.now ≡ walked_clauses (g.P.Port.state c.args.port.now)
clauses_are g c =
    let s = g.P.Port.state c.args.port.now in
    c.as_slice-2.ensures.value ∙ c.in_ok-clauses.ensures.clauses ∙ ap (map (λ (x : Cref). clause_of (lits_at s x.address))) (c.as_slice.ensures ∙ c.requires.job.start) ∙ walked_are s s.start c.requires.held

units_are : (g : _) (c : After-as_slice-3 g) → c.as_slice-3.result.now ≡ lits_of c.args.trail.now.steps
units_are g c = c.as_slice-3.ensures.value ∙ c.in_ok-units.ensures.lits

pub new-requires-clause-on : goal.new-requires-clause-on
new-requires-clause-on g c =
    let s = g.P.Port.state c.args.port.now in
    subst (λ (n : ℕ). All (All (IsOn n)) c.as_slice-2.result.now) (sym c.requires.job.vars)
    (subst (All (All (IsOn s.vars))) (sym (clauses_are g (goal.at.new-requires-clause-on g c).After-as_slice-3)) (on_walked s.vars s.start c.requires.port.start))

pub new-requires-clause-units_on : goal.new-requires-clause-units_on
new-requires-clause-units_on g c =
    subst (λ (n : ℕ). All (IsOn n) c.as_slice-3.result.now) (c.requires.vars ∙ sym c.requires.job.vars)
    (subst (All (IsOn c.args.trail.now.vars)) (sym (units_are g (goal.at.new-requires-clause-units_on g c).After-as_slice-3)) (units_on c.args.trail.now c.true_lits.ensures.shape))

pub new-requires-clause-apart : goal.new-requires-clause-apart
new-requires-clause-apart g c = ap has_opposites (units_are g (goal.at.new-requires-clause-apart g c).After-as_slice-3) ∙ units_apart c.args.trail.now c.true_lits.ensures.shape

begins : (g : _) (c : After-best g) → IsNew (g.P.Port.state c.args.port.now).vars (walked_clauses (g.P.Port.state c.args.port.now)) (lits_of c.args.trail.now.steps) c.args.decider.now.phase c.in_ok-walker.walker
begins g c =
    let s = g.P.Port.state c.args.port.now in
    let at = (goal.at.take_phases-requires g c).After-as_slice-3 in
    let w = c.in_ok-walker.walker in
    subst (λ (n : ℕ). IsNew n (walked_clauses s) (lits_of c.args.trail.now.steps) c.args.decider.now.phase w) c.requires.job.vars
    (subst (λ (G : List (List Literal)). IsNew c.args.job.now.vars G (lits_of c.args.trail.now.steps) c.args.decider.now.phase w) (clauses_are g at)
    (subst (λ (us : List Literal). IsNew c.args.job.now.vars c.as_slice-2.result.now us c.args.decider.now.phase w) (units_are g at)
    (subst (λ (a : List Bool). IsNew c.args.job.now.vars c.as_slice-2.result.now c.as_slice-3.result.now a w) c.in_ok-first.ensures.phases c.in_ok-walker.ensures)))

long : (g : _) (c : After-best g) → length c.best.result.now ≡ (g.P.Port.state c.args.port.now).vars
long g c =
    ap (λ (a : List Bool). length a) c.best.ensures
    ∙ best_long c.in_ok-walker.walker c.walk-count.new.self c.new-generator.result c.walk-count.new.generator c.args.job.now.walk c.walk-count.result c.walk-count.ensures
    ∙ (begins g c).long

pub take_phases-requires : goal.take_phases-requires
take_phases-requires g c = long g c ∙ sym c.requires.decides.vars

walked : (g : _) (c : After-best g) → HasWalked c.in_ok-walker.walker (generator_of c.args.job.now.seed (16 + c.args.job.now.ring)) c.args.job.now.walk c.walk-count.result c.walk-count.new.self c.walk-count.new.generator
walked g c = subst (λ (x : Lcg). HasWalked c.in_ok-walker.walker x c.args.job.now.walk c.walk-count.result c.walk-count.new.self c.walk-count.new.generator) c.new-generator.ensures c.walk-count.ensures

pub returns-then-count-gt0-clause-walked : goal.returns-then-count-gt0-clause-walked
returns-then-count-gt0-clause-walked g c =
    let at = (goal.at.returns-then-count-gt0-clause-walked g c).After-best in
    record {
      start = c.in_ok-walker.walker;
      begins = begins g at;
      count = c.walk-count.result;
      over = c.walk-count.new.self;
      generator = c.walk-count.new.generator;
      walked = walked g at;
      phases = c.take_phases.ensures ∙ ap (λ (a : List Bool). record c.args.decider.now { phase = a }) c.best.ensures;
      kept = sym (ap (λ (b : Bool). if b then Some c.walk-count.new.self.best else None) (ne_eqb c.walk-count.result 0 (λ e. let h = c.if-count-gt0.true in omega arith)));
    }

pub returns-clause-walked : goal.returns-clause-walked
returns-clause-walked g c =
    let at = (goal.at.returns-clause-walked g c).After-best in
    let m : c.in_ok-phases.field-0 ≡ c.walk-count.new.self.best = c.in_ok-phases.ensures.phases ∙ ap (λ (d : DeciderData). d.phase) c.take_phases.ensures ∙ c.best.ensures in
    record {
      start = c.in_ok-walker.walker;
      begins = begins g at;
      count = c.walk-count.result;
      over = c.walk-count.new.self;
      generator = c.walk-count.new.generator;
      walked = walked g at;
      phases = c.take_phases.ensures ∙ ap (λ (a : List Bool). record c.args.decider.now { phase = a }) c.best.ensures;
      kept = ap (λ (a : List Bool). Some a) m ∙ sym (ap (λ (b : Bool). if b then Some c.walk-count.new.self.best else None) (eq-eqb c.walk-count.result 0 (let h = c.if-count-gt0.false in omega arith)));
    }

pub returns-clause-model : goal.returns-clause-model
returns-clause-model g c = λ a is.
    let at = (goal.at.returns-clause-model g c).After-best in
    let s = g.P.Port.state c.args.port.now in
    let m : c.in_ok-phases.field-0 ≡ c.walk-count.new.self.best = c.in_ok-phases.ensures.phases ∙ ap (λ (d : DeciderData). d.phase) c.take_phases.ensures ∙ c.best.ensures in
    let same : c.in_ok-phases.field-0 ≡ a = cc in
    let b = c.walk-count.new.self.best in
    let zero : c.walk-count.result ≡ 0 = (let h = c.if-count-gt0.false in omega arith) in
    let none : false_under (walked_clauses s) b ≡ 0 =
    ap (λ (G : List (List Literal)). false_under G b) (sym (begins g at).clauses) ∙ sym c.walk-count.ensures.walk.counted ∙ zero in
    let wide : length b ≡ s.vars = ap (λ (x : List Bool). length x) (sym c.best.ensures) ∙ long g at in
    subst (IsStartModel s) same (subst (IsStartModel s) (sym m) (start_model s b wide none))
