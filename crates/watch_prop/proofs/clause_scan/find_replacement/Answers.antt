use Rattle.std.proofs.Common.{◌≡◌, ◌⊎◌, inl, inr}
use Rattle.ring_port.specs.PortState.{lits_at}
use Rattle.ring_trail.specs.TrailData.{IsFalseOn}
use Rattle.watch_prop.proofs.Opens.{found_open, none_open}
use Rattle.watch_prop.proofs.Ranks.{two_only}
use Rattle.watch_prop.proofs.clause_scan.find_replacement.Goals as goal

pub returns-then-entry-clause-none : goal.returns-then-entry-clause-none
returns-then-entry-clause-none g c k there =
    let p = c.requires.pair in
    let e = c.args.entry.now in
    elim (two_only (lits_at (g.P.Port.state c.args.port.now) e.clause.address) c.args._lit e.other k (p.only c.if-entry.true) p.first p.second p.apart there) as (λ _. (k ≡ c.args._lit) ⊎ ((k ≡ e.other) ⊎ IsFalseOn c.args.trail.now.steps k)) [
      | inl q ↦ inl q
      | inr q ↦ inr (inl q)
    ]

pub returns-clause-found : goal.returns-clause-found
returns-clause-found g c =
    found_open c.values.result.now c.args.trail.now.steps c.args.trail.now.vars (lits_at (g.P.Port.state c.args.port.now) c.args.entry.now.clause.address) c.args._lit c.args.entry.now.other c.find_open.result
    c.values.ensures.is_false c.requires.in_range c.requires.now_false c.find_open.ensures.first

pub returns-clause-none : goal.returns-clause-none
returns-clause-none g c =
    none_open c.values.result.now c.args.trail.now.steps c.args.trail.now.vars (lits_at (g.P.Port.state c.args.port.now) c.args.entry.now.clause.address) c.args._lit c.args.entry.now.other c.find_open.result
    c.values.ensures.is_false c.requires.in_range c.find_open.ensures.first
