use Rattle.std.proofs.Common.{◌≤◌, length, sym, subst}
use Rattle.sat_words.specs.Literal.{Literal}
use Rattle.rup_model.proofs.Lists.{has_In}
use Rattle.ring_port.specs.PortState.{lits_at}
use Rattle.ring_port.proofs.Holdings.{All_In}
use Rattle.watch_prop.specs.Choice.{IsBest}
use Rattle.watch_prop.specs.declared.choice.Best.{Best}
use Rattle.watch_prop.proofs.Ranks.{IsBest-pair}
use Rattle.watch_prop.proofs.choice.best_watches.Goals as goal

pub rank-requires : goal.rank-requires
rank-requires g c =
    let w = c.args.watch.now in
    let d = lits_at (g.P.Port.state c.args.port.now) w.clause.address in
    All_In (λ (l : Literal). l.var ≤ c.args.trail.now.vars) d w.first c.requires.in_range (has_In d w.first c.requires.pair.first)

pub rank-requires-then-watch : goal.rank-requires-then-watch
rank-requires-then-watch g c =
    let w = c.args.watch.now in
    let d = lits_at (g.P.Port.state c.args.port.now) w.clause.address in
    All_In (λ (l : Literal). l.var ≤ c.args.trail.now.vars) d w.second c.requires.in_range (has_In d w.second c.requires.pair.second)

pub returns-then-watch-clause-best : goal.returns-then-watch-clause-best
returns-then-watch-clause-best g c =
    let w = c.args.watch.now in
    let d = lits_at (g.P.Port.state c.args.port.now) w.clause.address in
    let p = c.requires.pair in
    subst (λ (b : Best). IsBest c.args.trail.now d (length d) b) (sym c.start.ensures)
    (IsBest-pair c.args.trail.now d w.first c.rank.result w.second c.rank-then-watch.result (p.only c.if-watch.true) p.first p.second p.apart c.rank.ensures c.rank-then-watch.ensures)
