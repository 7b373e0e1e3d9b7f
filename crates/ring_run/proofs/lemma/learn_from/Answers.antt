use Rattle.std.proofs.Common.{◌≡◌, ℕ, [], ap, sym, subst, refl, inl, List}
use Rattle.sat_words.specs.Literal.{Literal}
use Rattle.ring_port.specs.PortState.{PortState}
use Rattle.ring_port.specs.Port.{AreHints}
use Rattle.ring_decide.specs.DeciderData.{DeciderData}
use Rattle.ring_run.specs.Searching.{IsAsserting, OffersNothing}
use Rattle.ring_run.specs.Ending.{EndsAt, WroteEmpty}
use Rattle.ring_run.specs.Learning.{CameOfDraw}
use Rattle.ring_run.specs.declared.job.End.TheVariants.{Memory}
use Rattle.ring_run.specs.declared.ring.Ring.{Ring}
use Rattle.ring_run.specs.declared.course.Next.TheVariants as course
use Rattle.ring_run.proofs.Asserting.{lemma_asserts}
use Rattle.ring_run.proofs.Behind.{BehindLemma, behind_end, behind_lemma, behind_memory, can_found}
use Rattle.ring_run.proofs.lemma.learn_from.Given.{Over}
use Rattle.ring_run.proofs.lemma.learn_from.Goals.{After-refute, After-bump_analyzed, After-learn_lemma}
use Rattle.ring_run.proofs.lemma.learn_from.Goals as goal

pub learn_lemma-requires-clause-lemma : goal.learn_lemma-requires-clause-lemma
learn_lemma-requires-clause-lemma g c =
    let s = g.P.Port.state c.args.port.now in
    let found = c.in-Lemma.ensures.found in
    let asserting : IsAsserting s c.args.ring.now.trail c.analyze.new.self.lits c.in-Lemma.back =
    lemma_asserts s c.args.ring.now.trail c.args.ring.now.watches c.args.conflict c.analyze.new.self.lits c.in-Lemma.back c.in-Lemma.glue c.args.ring.now.written c.requires.search c.requires.conflict found.0 found.1 in
    subst (λ (ls : List Literal). IsAsserting (g.P.Port.state c.analyze.new.port) c.args.ring.now.trail ls c.in-Lemma.back) (sym c.lits.ensures)
    (subst (λ (x : PortState). IsAsserting x c.args.ring.now.trail c.analyze.new.self.lits c.in-Lemma.back) (sym c.analyze.ensures.same) asserting)

pub learn_lemma-requires-clause-hints : goal.learn_lemma-requires-clause-hints
learn_lemma-requires-clause-hints g c =
    let u = g.P.Port.state c.analyze.new.port in
    let a = c.analyze.new.self in
    subst (λ (ns : List ℕ). AreHints u c.lits.result.now ns) (sym c.hints-in-Lemma.ensures)
    (subst (λ (ls : List Literal). AreHints u ls a.hints) (sym c.lits.ensures) (subst (λ (x : PortState). AreHints x a.lits a.hints) (sym c.analyze.ensures.same) c.analyze.ensures.hints))

pub refute-requires-clause-hints : goal.refute-requires-clause-hints
refute-requires-clause-hints g c =
    let u = g.P.Port.state c.analyze.new.port in
    let a = c.analyze.new.self in
    subst (λ (ns : List ℕ). AreHints u [] ns) (sym c.hints.ensures)
    (subst (λ (ls : List Literal). AreHints u ls a.hints) (c.analyze.ensures.none c.in-Empty.is) (subst (λ (x : PortState). AreHints x a.lits a.hints) (sym c.analyze.ensures.same) c.analyze.ensures.hints))

-- what the empty clause leaves
refuted : (g : Over) (c : After-refute g) → BehindLemma (g.P.Port.state c.args.port.now) (g.P.Port.state c.refute.new.port) c.args.ring.now c.args.ring.now c.args.conflict c.analyze.new.self.lits (course.Finish c.refute.result)
refuted g c =
    let s = g.P.Port.state c.args.port.now in
    let u = g.P.Port.state c.refute.new.port in
    let old = c.args.ring.now in
    let same = c.analyze.ensures.same in
    behind_end s u old old c.args.conflict c.analyze.new.self.lits c.refute.result
    (record { learned = refl; restarts = refl; active = refl; offers = record { exported = refl; offered = refl; place = refl } })
    (subst (λ (x : PortState). EndsAt x u c.refute.result) same c.refute.ensures.ends) c.refute.ensures.refusal
    (inl (c.in-Empty.ensures.found.0, subst (λ (x : PortState). WroteEmpty x u c.refute.result) same c.refute.ensures.empty, record { learned = refl; restarts = refl; exported = refl; offered = refl }))
    (subst (λ (x : PortState). OffersNothing x u) same c.refute.ensures.nothing)
    (subst (λ (x : PortState). u.held ≡ x.held) same c.refute.ensures.held) (subst (λ (x : PortState). u.looks ≡ x.looks) same c.refute.ensures.looks)
    c.requires.paced c.requires.offering

-- what is left if there is no room for the analyzed variables
crowded : (g : Over) (c : After-bump_analyzed g) → BehindLemma (g.P.Port.state c.args.port.now) (g.P.Port.state c.analyze.new.port) c.args.ring.now (record c.args.ring.now { decider = c.bump_analyzed.new.decider; bumps = c.bump_analyzed.new.bumps }) c.args.conflict c.analyze.new.self.lits (course.Finish Memory)
crowded g c =
    let old = c.args.ring.now in
    behind_memory (g.P.Port.state c.args.port.now) (g.P.Port.state c.analyze.new.port) old (record old { decider = c.bump_analyzed.new.decider; bumps = c.bump_analyzed.new.bumps }) c.args.conflict c.analyze.new.self.lits c.analyze.ensures.same
    (record { learned = refl; restarts = refl; active = ap (λ (d : DeciderData). d.active) c.bump_analyzed.ensures.same; offers = record { exported = refl; offered = refl; place = refl } })
    c.requires.paced c.requires.offering

-- what learning the lemma leaves
behind : (g : Over) (c : After-learn_lemma g) → BehindLemma (g.P.Port.state c.args.port.now) (g.P.Port.state c.learn_lemma.new.port) c.args.ring.now c.learn_lemma.new.ring c.args.conflict c.analyze.new.self.lits c.learn_lemma.result
behind g c =
    let s = g.P.Port.state c.args.port.now in
    let u = g.P.Port.state c.learn_lemma.new.port in
    let old = c.args.ring.now in
    let x : Ring = record old { decider = c.bump_analyzed.new.decider; bumps = c.bump_analyzed.new.bumps } in
    let new = c.learn_lemma.new.ring in
    let lits = c.analyze.new.self.lits in
    let back = c.in-Lemma.back in
    let glue = c.in-Lemma.glue in
    let course = c.learn_lemma.result in
    let came = subst (λ (ls : List Literal). CameOfDraw (g.P.Port.state c.analyze.new.port) u x new ls back glue course) c.lits.ensures c.learn_lemma.ensures.comes in
    behind_lemma s u old x c.args.conflict lits back glue c.bump_analyzed.ensures.same
    (can_found s old c.args.conflict lits back glue c.requires.search c.requires.paced c.requires.offering c.requires.listed c.requires.conflict c.in-Lemma.ensures.found)
    c.in-Lemma.ensures.found.1 new course (subst (λ (y : PortState). CameOfDraw y u x new lits back glue course) c.analyze.ensures.same came) c.learn_lemma.ensures.port

pub returns-in-Empty-clause-leads : goal.returns-in-Empty-clause-leads
returns-in-Empty-clause-leads g c = (refuted g (goal.at.returns-in-Empty-clause-leads g c).After-refute).leads

pub returns-in-Empty-clause-drawn : goal.returns-in-Empty-clause-drawn
returns-in-Empty-clause-drawn g c = (refuted g (goal.at.returns-in-Empty-clause-drawn g c).After-refute).drawn

pub returns-in-Empty-clause-learns : goal.returns-in-Empty-clause-learns
returns-in-Empty-clause-learns g c = (refuted g (goal.at.returns-in-Empty-clause-learns g c).After-refute).learns

pub returns-in-Empty-clause-tidied : goal.returns-in-Empty-clause-tidied
returns-in-Empty-clause-tidied g c = (refuted g (goal.at.returns-in-Empty-clause-tidied g c).After-refute).tidied

pub returns-in-Empty-clause-listed : goal.returns-in-Empty-clause-listed
returns-in-Empty-clause-listed g c = (refuted g (goal.at.returns-in-Empty-clause-listed g c).After-refute).listed

pub returns-in-Empty-clause-stored : goal.returns-in-Empty-clause-stored
returns-in-Empty-clause-stored g c = (refuted g (goal.at.returns-in-Empty-clause-stored g c).After-refute).stored

pub returns-in-Empty-clause-looks : goal.returns-in-Empty-clause-looks
returns-in-Empty-clause-looks g c = (refuted g (goal.at.returns-in-Empty-clause-looks g c).After-refute).looks

pub returns-in-Empty-clause-paced : goal.returns-in-Empty-clause-paced
returns-in-Empty-clause-paced g c = (refuted g (goal.at.returns-in-Empty-clause-paced g c).After-refute).paced

pub returns-in-Empty-clause-polls : goal.returns-in-Empty-clause-polls
returns-in-Empty-clause-polls g c = (refuted g (goal.at.returns-in-Empty-clause-polls g c).After-refute).polls

pub returns-in-Empty-clause-imports : goal.returns-in-Empty-clause-imports
returns-in-Empty-clause-imports g c = (refuted g (goal.at.returns-in-Empty-clause-imports g c).After-refute).imports

pub returns-in-Empty-clause-above : goal.returns-in-Empty-clause-above
returns-in-Empty-clause-above g c = (refuted g (goal.at.returns-in-Empty-clause-above g c).After-refute).above

pub returns-in-Empty-clause-in_time : goal.returns-in-Empty-clause-in_time
returns-in-Empty-clause-in_time g c = (refuted g (goal.at.returns-in-Empty-clause-in_time g c).After-refute).in_time

pub returns-in-Empty-clause-sums : goal.returns-in-Empty-clause-sums
returns-in-Empty-clause-sums g c = (refuted g (goal.at.returns-in-Empty-clause-sums g c).After-refute).sums

pub returns-in-Empty-clause-offering : goal.returns-in-Empty-clause-offering
returns-in-Empty-clause-offering g c = (refuted g (goal.at.returns-in-Empty-clause-offering g c).After-refute).offering

pub returns-in-Empty-clause-odd : goal.returns-in-Empty-clause-odd
returns-in-Empty-clause-odd g c = (refuted g (goal.at.returns-in-Empty-clause-odd g c).After-refute).odd

pub returns-in-Empty-clause-active : goal.returns-in-Empty-clause-active
returns-in-Empty-clause-active g c = (refuted g (goal.at.returns-in-Empty-clause-active g c).After-refute).active

pub returns-then-is_err-clause-leads : goal.returns-then-is_err-clause-leads
returns-then-is_err-clause-leads g c = (crowded g (goal.at.returns-then-is_err-clause-leads g c).After-bump_analyzed).leads

pub returns-then-is_err-clause-drawn : goal.returns-then-is_err-clause-drawn
returns-then-is_err-clause-drawn g c = (crowded g (goal.at.returns-then-is_err-clause-drawn g c).After-bump_analyzed).drawn

pub returns-then-is_err-clause-learns : goal.returns-then-is_err-clause-learns
returns-then-is_err-clause-learns g c = (crowded g (goal.at.returns-then-is_err-clause-learns g c).After-bump_analyzed).learns

pub returns-then-is_err-clause-tidied : goal.returns-then-is_err-clause-tidied
returns-then-is_err-clause-tidied g c = (crowded g (goal.at.returns-then-is_err-clause-tidied g c).After-bump_analyzed).tidied

pub returns-then-is_err-clause-listed : goal.returns-then-is_err-clause-listed
returns-then-is_err-clause-listed g c = (crowded g (goal.at.returns-then-is_err-clause-listed g c).After-bump_analyzed).listed

pub returns-then-is_err-clause-stored : goal.returns-then-is_err-clause-stored
returns-then-is_err-clause-stored g c = (crowded g (goal.at.returns-then-is_err-clause-stored g c).After-bump_analyzed).stored

pub returns-then-is_err-clause-looks : goal.returns-then-is_err-clause-looks
returns-then-is_err-clause-looks g c = (crowded g (goal.at.returns-then-is_err-clause-looks g c).After-bump_analyzed).looks

pub returns-then-is_err-clause-paced : goal.returns-then-is_err-clause-paced
returns-then-is_err-clause-paced g c = (crowded g (goal.at.returns-then-is_err-clause-paced g c).After-bump_analyzed).paced

pub returns-then-is_err-clause-polls : goal.returns-then-is_err-clause-polls
returns-then-is_err-clause-polls g c = (crowded g (goal.at.returns-then-is_err-clause-polls g c).After-bump_analyzed).polls

pub returns-then-is_err-clause-imports : goal.returns-then-is_err-clause-imports
returns-then-is_err-clause-imports g c = (crowded g (goal.at.returns-then-is_err-clause-imports g c).After-bump_analyzed).imports

pub returns-then-is_err-clause-above : goal.returns-then-is_err-clause-above
returns-then-is_err-clause-above g c = (crowded g (goal.at.returns-then-is_err-clause-above g c).After-bump_analyzed).above

pub returns-then-is_err-clause-in_time : goal.returns-then-is_err-clause-in_time
returns-then-is_err-clause-in_time g c = (crowded g (goal.at.returns-then-is_err-clause-in_time g c).After-bump_analyzed).in_time

pub returns-then-is_err-clause-sums : goal.returns-then-is_err-clause-sums
returns-then-is_err-clause-sums g c = (crowded g (goal.at.returns-then-is_err-clause-sums g c).After-bump_analyzed).sums

pub returns-then-is_err-clause-offering : goal.returns-then-is_err-clause-offering
returns-then-is_err-clause-offering g c = (crowded g (goal.at.returns-then-is_err-clause-offering g c).After-bump_analyzed).offering

pub returns-then-is_err-clause-odd : goal.returns-then-is_err-clause-odd
returns-then-is_err-clause-odd g c = (crowded g (goal.at.returns-then-is_err-clause-odd g c).After-bump_analyzed).odd

pub returns-then-is_err-clause-active : goal.returns-then-is_err-clause-active
returns-then-is_err-clause-active g c = (crowded g (goal.at.returns-then-is_err-clause-active g c).After-bump_analyzed).active

pub returns-else-is_err-clause-leads : goal.returns-else-is_err-clause-leads
returns-else-is_err-clause-leads g c = (behind g (goal.at.returns-else-is_err-clause-leads g c).After-learn_lemma).leads

pub returns-else-is_err-clause-drawn : goal.returns-else-is_err-clause-drawn
returns-else-is_err-clause-drawn g c = (behind g (goal.at.returns-else-is_err-clause-drawn g c).After-learn_lemma).drawn

pub returns-else-is_err-clause-learns : goal.returns-else-is_err-clause-learns
returns-else-is_err-clause-learns g c = (behind g (goal.at.returns-else-is_err-clause-learns g c).After-learn_lemma).learns

pub returns-else-is_err-clause-tidied : goal.returns-else-is_err-clause-tidied
returns-else-is_err-clause-tidied g c = (behind g (goal.at.returns-else-is_err-clause-tidied g c).After-learn_lemma).tidied

pub returns-else-is_err-clause-listed : goal.returns-else-is_err-clause-listed
returns-else-is_err-clause-listed g c = (behind g (goal.at.returns-else-is_err-clause-listed g c).After-learn_lemma).listed

pub returns-else-is_err-clause-stored : goal.returns-else-is_err-clause-stored
returns-else-is_err-clause-stored g c = (behind g (goal.at.returns-else-is_err-clause-stored g c).After-learn_lemma).stored

pub returns-else-is_err-clause-looks : goal.returns-else-is_err-clause-looks
returns-else-is_err-clause-looks g c = (behind g (goal.at.returns-else-is_err-clause-looks g c).After-learn_lemma).looks

pub returns-else-is_err-clause-paced : goal.returns-else-is_err-clause-paced
returns-else-is_err-clause-paced g c = (behind g (goal.at.returns-else-is_err-clause-paced g c).After-learn_lemma).paced

pub returns-else-is_err-clause-polls : goal.returns-else-is_err-clause-polls
returns-else-is_err-clause-polls g c = (behind g (goal.at.returns-else-is_err-clause-polls g c).After-learn_lemma).polls

pub returns-else-is_err-clause-imports : goal.returns-else-is_err-clause-imports
returns-else-is_err-clause-imports g c = (behind g (goal.at.returns-else-is_err-clause-imports g c).After-learn_lemma).imports

pub returns-else-is_err-clause-above : goal.returns-else-is_err-clause-above
returns-else-is_err-clause-above g c = (behind g (goal.at.returns-else-is_err-clause-above g c).After-learn_lemma).above

pub returns-else-is_err-clause-in_time : goal.returns-else-is_err-clause-in_time
returns-else-is_err-clause-in_time g c = (behind g (goal.at.returns-else-is_err-clause-in_time g c).After-learn_lemma).in_time

pub returns-else-is_err-clause-sums : goal.returns-else-is_err-clause-sums
returns-else-is_err-clause-sums g c = (behind g (goal.at.returns-else-is_err-clause-sums g c).After-learn_lemma).sums

pub returns-else-is_err-clause-offering : goal.returns-else-is_err-clause-offering
returns-else-is_err-clause-offering g c = (behind g (goal.at.returns-else-is_err-clause-offering g c).After-learn_lemma).offering

pub returns-else-is_err-clause-odd : goal.returns-else-is_err-clause-odd
returns-else-is_err-clause-odd g c = (behind g (goal.at.returns-else-is_err-clause-odd g c).After-learn_lemma).odd

pub returns-else-is_err-clause-active : goal.returns-else-is_err-clause-active
returns-else-is_err-clause-active g c = (behind g (goal.at.returns-else-is_err-clause-active g c).After-learn_lemma).active
