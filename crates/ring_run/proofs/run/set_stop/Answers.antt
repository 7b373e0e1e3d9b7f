use Rattle.std.specs.Prelude.{Some}
use Rattle.std.proofs.Common.{ap, inl, inr, refl, subst, ℕ}
use Rattle.sat_words.specs.declared.shared.Set.TheVariants.{Won, Lost}
use Rattle.ring_run.specs.Ending.{SetsStop}
use Rattle.ring_run.specs.declared.job.End.TheVariants.{Stopped}
use Rattle.ring_port.specs.PortState.{PortState}
use Rattle.ring_run.proofs.Polling.{polled_stopped}
use Rattle.ring_run.proofs.Offering.{nothing_set}
use Rattle.ring_run.proofs.Progress.{runs_stopped}
use Rattle.std.proofs.Common.{◌≡◌, ◌∙◌, sym}
use Rattle.std.specs.declared.option.Option.{Option}
use Rattle.sat_words.specs.declared.shared.Stop.{Stop}
use Rattle.ring_run.proofs.Tickets.{tickets_of, tickets_moved, tickets_stopped}
use Rattle.ring_run.proofs.run.set_stop.Goals as goal
use Rattle.ring_run.proofs.Rounds.{imports_stopped, tidy_stopped}
use Rattle.ring_run.proofs.InTime.{reduced_stopped}

stop_only : (s u : PortState) (stop : Option Stop) → u ≡ record s { stop = stop } → u ≡ record s { stop = u.stop }
stop_only s u stop is = is ∙ ap (λ (x : PortState). record s { stop = x.stop }) (sym is)

pub returns-in-Won-clause-runs : goal.returns-in-Won-clause-runs
returns-in-Won-clause-runs g c = λ start n p.
    let s = g.P.Port.state c.args.port.now in
    runs_stopped start s (g.P.Port.state c.stop.new.self) n (Some (record { kind = c.in-Some.kind; ring = s.ring })) p c.in-Won.ensures.set.1 c.stop.ensures.log c.stop.ensures.port

pub returns-in-Lost-clause-runs : goal.returns-in-Lost-clause-runs
returns-in-Lost-clause-runs g c = λ start n p.
    let s = g.P.Port.state c.args.port.now in
    runs_stopped start s (g.P.Port.state c.stop.new.self) n (Some c.in-Lost.stop) p c.in-Lost.ensures.set.1 c.stop.ensures.log c.stop.ensures.port

pub returns-in-Won-clause-nothing : goal.returns-in-Won-clause-nothing
returns-in-Won-clause-nothing g c = nothing_set (g.P.Port.state c.args.port.now) (g.P.Port.state c.stop.new.self) c.in-Some.kind c.stop.result c.stop.ensures.set

pub returns-in-Lost-clause-nothing : goal.returns-in-Lost-clause-nothing
returns-in-Lost-clause-nothing g c = nothing_set (g.P.Port.state c.args.port.now) (g.P.Port.state c.stop.new.self) c.in-Some.kind c.stop.result c.stop.ensures.set

pub returns-in-Won-clause-polled : goal.returns-in-Won-clause-polled
returns-in-Won-clause-polled g c = λ made p.
    polled_stopped (g.P.Port.state c.args.port.now) (g.P.Port.state c.stop.new.self) made c.args.end c.args.end (nothing_set (g.P.Port.state c.args.port.now) (g.P.Port.state c.stop.new.self) c.in-Some.kind c.stop.result c.stop.ensures.set) (inl refl) p

pub returns-in-Lost-clause-polled : goal.returns-in-Lost-clause-polled
returns-in-Lost-clause-polled g c = λ made p.
    polled_stopped (g.P.Port.state c.args.port.now) (g.P.Port.state c.stop.new.self) made c.args.end _ (nothing_set (g.P.Port.state c.args.port.now) (g.P.Port.state c.stop.new.self) c.in-Some.kind c.stop.result c.stop.ensures.set) (inr (c.in-Lost.stop, refl)) p

pub returns-in-Won-clause-imported : goal.returns-in-Won-clause-imported
returns-in-Won-clause-imported g c = λ start made p.
    imports_stopped start (g.P.Port.state c.args.port.now) (g.P.Port.state c.stop.new.self) made c.args.end c.args.end (nothing_set (g.P.Port.state c.args.port.now) (g.P.Port.state c.stop.new.self) c.in-Some.kind c.stop.result c.stop.ensures.set) (inl refl) p

pub returns-in-Lost-clause-imported : goal.returns-in-Lost-clause-imported
returns-in-Lost-clause-imported g c = λ start made p.
    imports_stopped start (g.P.Port.state c.args.port.now) (g.P.Port.state c.stop.new.self) made c.args.end _ (nothing_set (g.P.Port.state c.args.port.now) (g.P.Port.state c.stop.new.self) c.in-Some.kind c.stop.result c.stop.ensures.set) (inr (c.in-Lost.stop, refl)) p

pub returns-in-Won-clause-tidied : goal.returns-in-Won-clause-tidied
returns-in-Won-clause-tidied g c = λ p. tidy_stopped (g.P.Port.state c.args.port.now) (g.P.Port.state c.stop.new.self) c.args.end (ap (λ (x : PortState). x.waiting) c.in-Won.ensures.set.1) p

pub returns-in-Won-clause-in_time : goal.returns-in-Won-clause-in_time
returns-in-Won-clause-in_time g c = λ counts p.
    reduced_stopped (g.P.Port.state c.args.port.now) (g.P.Port.state c.stop.new.self) counts c.args.end (ap (λ (x : PortState). x.ring) c.in-Won.ensures.set.1) (ap (λ (x : PortState). x.mine) c.in-Won.ensures.set.1) p

pub returns-in-Won-clause-only : goal.returns-in-Won-clause-only
returns-in-Won-clause-only g c = stop_only (g.P.Port.state c.args.port.now) (g.P.Port.state c.stop.new.self) _ c.in-Won.ensures.set.1

pub returns-in-Lost-clause-only : goal.returns-in-Lost-clause-only
returns-in-Lost-clause-only g c = stop_only (g.P.Port.state c.args.port.now) (g.P.Port.state c.stop.new.self) _ c.in-Lost.ensures.set.1

pub returns-in-Won-clause-answer : goal.returns-in-Won-clause-answer
returns-in-Won-clause-answer g c = inl refl

pub returns-in-Lost-clause-answer : goal.returns-in-Lost-clause-answer
returns-in-Lost-clause-answer g c = inr (c.in-Lost.stop, refl)

pub returns-in_default-clause-answer : goal.returns-in_default-clause-answer
returns-in_default-clause-answer g c = inl refl

pub returns-in-Won-clause-set : goal.returns-in-Won-clause-set
returns-in-Won-clause-set g c =
    let s = g.P.Port.state c.args.port.now in
    let u = g.P.Port.state c.stop.new.self in
    subst (λ (o : Option ℕ). SetsStop s u o c.args.end c.args.end) (sym c.in-Some.is ∙ c.stop_kind.ensures) (Won, c.in-Won.ensures.set, refl)

pub returns-in-Lost-clause-set : goal.returns-in-Lost-clause-set
returns-in-Lost-clause-set g c =
    let s = g.P.Port.state c.args.port.now in
    let u = g.P.Port.state c.stop.new.self in
    subst (λ (o : Option ℕ). SetsStop s u o c.args.end (Stopped c.in-Lost.stop)) (sym c.in-Some.is ∙ c.stop_kind.ensures) (Lost c.in-Lost.stop, c.in-Lost.ensures.set, refl)

pub returns-in_default-clause-set : goal.returns-in_default-clause-set
returns-in_default-clause-set g c =
    let s = g.P.Port.state c.args.port.now in
    subst (λ (o : Option ℕ). SetsStop s s o c.args.end c.args.end) (sym c.in_default.is ∙ c.stop_kind.ensures) (refl, refl)

pub returns-in-Won-clause-tickets : goal.returns-in-Won-clause-tickets
returns-in-Won-clause-tickets g c = λ p. tickets_moved (g.P.Port.state c.args.port.now) (g.P.Port.state c.stop.new.self) c.args.end (ap tickets_of c.in-Won.ensures.set.1) p

pub returns-in-Lost-clause-tickets : goal.returns-in-Lost-clause-tickets
returns-in-Lost-clause-tickets g c = λ p.
    tickets_stopped (g.P.Port.state c.args.port.now) (g.P.Port.state c.stop.new.self) c.args.end c.in-Some.kind (ap tickets_of c.in-Lost.ensures.set.1) (sym c.in-Some.is ∙ c.stop_kind.ensures) p

pub returns-in_default-clause-tickets : goal.returns-in_default-clause-tickets
returns-in_default-clause-tickets g c = λ p. p
