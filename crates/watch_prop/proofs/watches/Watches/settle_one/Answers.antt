use Rattle.std.proofs.Common.{◌≡◌, ◌<◌, ◌+◌, List, Option, Some, None, sym, ap, subst, refl, length, get_or, arith}
use Rattle.std.specs.List.{filter_map}
use Rattle.ring_port.specs.PortState.{lits_at}
use Rattle.ring_trail.specs.TrailData.{TrailData}
use Rattle.watch_prop.specs.declared.watch.Watch.{Watch}
use Rattle.watch_prop.specs.WatchData.{WatchData, Lits, clause_in as slot_clause, attached}
use Rattle.watch_prop.specs.Watched.{At, Watched}
use Rattle.watch_prop.specs.Propagation.{HasReasons, IsQuiet}
use Rattle.watch_prop.proofs.Growing.{HasGrown-refl, Watched-grow, clause_in}
use Rattle.watch_prop.proofs.Reasons.{attached_some}
use Rattle.watch_prop.proofs.Entries.{on_vars, attachable_held}
use Rattle.watch_prop.proofs.Ranks.{among_has, best-forces, rank-open}
use Rattle.watch_prop.proofs.SlotsLemmas.{free_read}
use Rattle.watch_prop.proofs.Settling.{waiting, Watched-skip, same_clauses, best-conflict, Watched-listed, Watched-more}
use Rattle.watch_prop.proofs.Advancing.{advanced_none, advanced_watches}
use Rattle.watch_prop.proofs.Quiets.{quiet-true}
use Rattle.watch_prop.proofs.Rooms.{have-same}
use Rattle.watch_prop.proofs.watches.Watches.settle_one.Given.{Over}
use Rattle.watch_prop.proofs.watches.Watches.settle_one.Goals.{After-best_watches-best, After-make_true}
use Rattle.watch_prop.proofs.watches.Watches.settle_one.Goals as goal

skipped : (v w : WatchData) (h : Lits) (t : TrailData) (o : Option Watch) → v ≡ w → w.settled < length w.slots → o ≡ get_or v.slots v.settled None → o ≡ None → Watched w h t → Watched record v { settled = v.settled + 1 } h t
skipped v w h t o e lt q is k =
    Watched-skip v h t (v.settled + 1) (subst (λ (x : WatchData). Watched x h t) (sym e) k) (subst (λ (x : WatchData). x.settled < length x.slots) (sym e) lt) refl (λ s at. free_read v.slots v.settled o s q is at)

-- the watch that waits
here : (g : Over) (c : After-best_watches-best g) → At c.args.self.now.slots c.args.self.now.settled (Some c.in-Some.watch)
here g c = waiting record { vars = c.self.inside.vars; slots = c.self.inside.slots; lists = c.self.inside.lists.rows; rooms = c.self.inside.lists.rooms; size = c.self.inside.lists.size; settled = c.self.inside.settled } c.args.self.now c.get.result c.in-Some.watch c.self.view_is c.requires.there c.get.ensures c.in-Some.is

pub returns-then-best-decision_level-clause-settled : goal.returns-then-best-decision_level-clause-settled
returns-then-best-decision_level-clause-settled g c =
    let at = here g (goal.at.returns-then-best-decision_level-clause-settled g c).After-best_watches-best in
    best-conflict c.args.self.now (lits_at (g.P.Port.state c.args.port.now)) c.args.trail.now c.in-Some.watch c.args.self.now.settled c.best_watches-best.result at c.best_watches-best.ensures.best (let q = c.if-best-decision_level.true in omega (arith, q, c.decision_level-decision_level.ensures.level))

pub list-requires-clause-first : goal.list-requires-clause-first
list-requires-clause-first g c =
    let at = here g (goal.at.list-requires-clause-first g c).After-best_watches-best in
    let d = lits_at (g.P.Port.state c.args.port.now) c.in-Some.watch.clause.address in
    on_vars c.args.self.now.vars c.args.self.now.vars d c.best_watches-best.result.first refl (c.requires.watched.clauses c.args.self.now.settled c.in-Some.watch at) (among_has d (length d) c.best_watches-best.result.first c.best_watches-best.ensures.best.first_in)

pub list-requires-clause-second : goal.list-requires-clause-second
list-requires-clause-second g c =
    let at = here g (goal.at.list-requires-clause-second g c).After-best_watches-best in
    let d = lits_at (g.P.Port.state c.args.port.now) c.in-Some.watch.clause.address in
    on_vars c.args.self.now.vars c.args.self.now.vars d c.best_watches-best.result.second refl (c.requires.watched.clauses c.args.self.now.settled c.in-Some.watch at) (among_has d (length d) c.best_watches-best.result.second c.best_watches-best.ensures.best.second_in)

pub list-requires-2-clause-first : goal.list-requires-2-clause-first
list-requires-2-clause-first g c =
    let at = here g (goal.at.list-requires-2-clause-first g c).After-best_watches-best in
    let d = lits_at (g.P.Port.state c.args.port.now) c.in-Some.watch.clause.address in
    on_vars c.args.self.now.vars c.args.self.now.vars d c.best_watches-best.result.first refl (c.requires.watched.clauses c.args.self.now.settled c.in-Some.watch at) (among_has d (length d) c.best_watches-best.result.first c.best_watches-best.ensures.best.first_in)

pub list-requires-2-clause-second : goal.list-requires-2-clause-second
list-requires-2-clause-second g c =
    let at = here g (goal.at.list-requires-2-clause-second g c).After-best_watches-best in
    let d = lits_at (g.P.Port.state c.args.port.now) c.in-Some.watch.clause.address in
    on_vars c.args.self.now.vars c.args.self.now.vars d c.best_watches-best.result.second refl (c.requires.watched.clauses c.args.self.now.settled c.in-Some.watch at) (among_has d (length d) c.best_watches-best.result.second c.best_watches-best.ensures.best.second_in)

pub make_true-requires-clause-in_range : goal.make_true-requires-clause-in_range
make_true-requires-clause-in_range g c =
    let at = here g (goal.at.make_true-requires-clause-in_range g c).After-best_watches-best in
    let d = lits_at (g.P.Port.state c.args.port.now) c.in-Some.watch.clause.address in
    on_vars c.args.self.now.vars c.args.trail.now.vars d c.best_watches-best.result.first c.requires.watched.vars (c.requires.watched.clauses c.args.self.now.settled c.in-Some.watch at) (among_has d (length d) c.best_watches-best.result.first c.best_watches-best.ensures.best.first_in)

pub make_true-requires-clause-not_false : goal.make_true-requires-clause-not_false
make_true-requires-clause-not_false g c =
    rank-open c.args.trail.now c.best_watches-best.result.first c.best_watches-best.result.high c.decision_level-decision_level.ensures.trail c.best_watches-best.ensures.best.high_is (let q = c.if-best-decision_level.false in omega (arith, q, c.decision_level-decision_level.ensures.level))

pub list-requires-clause-there : goal.list-requires-clause-there
list-requires-clause-there g c =
    let at = here g (goal.at.list-requires-clause-there g c).After-best_watches-best in
    at

pub list-requires-2-clause-there : goal.list-requires-2-clause-there
list-requires-2-clause-there g c =
    let at = here g (goal.at.list-requires-2-clause-there g c).After-best_watches-best in
    at

pub returns-in-None-clause-kept : goal.returns-in-None-clause-kept
returns-in-None-clause-kept g c =
    advanced_watches (g.P.Port.state c.args.port.now) c.args.self.now _ c.args.trail.now (ap attached c.self.view_is) (ap (λ (w : WatchData). w.vars) c.self.view_is) (have-same c.args.self.now.rooms c.self.inside.lists.rooms (ap (λ (w : WatchData). w.rooms) c.self.view_is)) c.requires.reasons
    (skipped record { vars = c.self.inside.vars; slots = c.self.inside.slots; lists = c.self.inside.lists.rows; rooms = c.self.inside.lists.rooms; size = c.self.inside.lists.size; settled = c.self.inside.settled } c.args.self.now (lits_at (g.P.Port.state c.args.port.now)) c.args.trail.now c.get.result c.self.view_is c.requires.there c.get.ensures c.in-None.is c.requires.watched)

pub returns-then-best-decision_level-clause-kept : goal.returns-then-best-decision_level-clause-kept
returns-then-best-decision_level-clause-kept g c = advanced_none (g.P.Port.state c.args.port.now) c.args.self.now c.args.trail.now c.requires.reasons c.requires.watched

pub returns-in_err-list-clause-kept : goal.returns-in_err-list-clause-kept
returns-in_err-list-clause-kept g c =
    let more = c.in_err-list.ensures.err in
    advanced_watches (g.P.Port.state c.args.port.now) c.args.self.now c.list.new.self c.args.trail.now (ap (λ (ws : List (Option Watch)). filter_map slot_clause ws) more.slots) more.vars c.list.ensures.rooms c.requires.reasons
    (Watched-more c.args.self.now c.list.new.self (lits_at (g.P.Port.state c.args.port.now)) c.args.trail.now c.in-Some.watch c.best_watches-best.result.second c.requires.watched (here g (goal.at.returns-in_err-list-clause-kept g c).After-best_watches-best) (among_has _ _ _ c.best_watches-best.ensures.best.second_in) more)

pub returns-then-best-decision_level-2-clause-kept : goal.returns-then-best-decision_level-2-clause-kept
returns-then-best-decision_level-2-clause-kept g c =
    let at = here g (goal.at.returns-then-best-decision_level-2-clause-kept g c).After-best_watches-best in
    let t = c.args.trail.now in
    advanced_watches (g.P.Port.state c.args.port.now) c.args.self.now c.list.new.self t
    (same_clauses c.args.self.now c.list.new.self c.in-Some.watch c.best_watches-best.result.first c.best_watches-best.result.second at c.in_ok-list.ensures.ok)
    c.in_ok-list.ensures.ok.vars c.list.ensures.rooms c.requires.reasons
    (Watched-listed c.args.self.now c.list.new.self (lits_at (g.P.Port.state c.args.port.now)) t t c.in-Some.watch c.best_watches-best.result c.requires.watched c.decision_level-decision_level.ensures.trail at c.best_watches-best.ensures.best
    (let q = c.if-best-decision_level.false in omega (arith, q, c.decision_level-decision_level.ensures.level)) (HasGrown-refl t) refl
    (λ le. absurd (let q = c.if-best-decision_level-2.true in omega (arith, q, c.decision_level-decision_level.ensures.level, le))) c.requires.below c.in_ok-list.ensures.ok)

-- the clause gives the literal that it forces its reason
reasons_now : (g : Over) (c : After-make_true g) → HasReasons (attached c.args.self.now) (g.P.Port.state c.args.port.now) c.make_true.new.trail.steps
reasons_now g c =
    let a = here g (goal.at.After-make_true g c).After-best_watches-best in
    let s = g.P.Port.state c.args.port.now in
    let w = c.args.self.now in
    let d = lits_at s c.in-Some.watch.clause.address in
    c.make_true.ensures.reasons (attached w) s d
    (attached_some (attached w) s c.in-Some.watch.clause (clause_in w w.settled c.in-Some.watch a) (attachable_held w.vars s c.in-Some.watch.clause.address (c.requires.watched.clauses w.settled c.in-Some.watch a)))
    (best-forces c.args.trail.now d c.best_watches-best.result c.best_watches-best.ensures.best (let q = c.if-best-decision_level-2.false in omega (arith, q, c.decision_level-decision_level.ensures.level))) c.requires.reasons

-- nothing is made true where nothing was left to propagate
still_now : (g : Over) (c : After-make_true g) → IsQuiet c.args.self.now (lits_at (g.P.Port.state c.args.port.now)) c.args.trail.now → c.make_true.new.trail ≡ c.args.trail.now
still_now g c quiet =
    let a = here g (goal.at.After-make_true g c).After-best_watches-best in
    let w = c.args.self.now in
    c.make_true.ensures.still
    (quiet-true w (lits_at (g.P.Port.state c.args.port.now)) c.args.trail.now w.settled c.in-Some.watch c.best_watches-best.result c.decision_level-decision_level.ensures.trail quiet a c.best_watches-best.ensures.best
    (let q = c.if-best-decision_level-2.false in omega (arith, q, c.decision_level-decision_level.ensures.level))
    (rank-open c.args.trail.now c.best_watches-best.result.first c.best_watches-best.result.high c.decision_level-decision_level.ensures.trail c.best_watches-best.ensures.best.high_is (let q = c.if-best-decision_level.false in omega (arith, q, c.decision_level-decision_level.ensures.level))))

pub returns-in_err-list-2-clause-kept : goal.returns-in_err-list-2-clause-kept
returns-in_err-list-2-clause-kept g c =
    let more = c.in_err-list-2.ensures.err in
    let lits = lits_at (g.P.Port.state c.args.port.now) in
    record {
      clauses = ap (λ (ws : List (Option Watch)). filter_map slot_clause ws) more.slots;
      vars = more.vars;
      grown = c.make_true.ensures.grown;
      reasons = reasons_now g (goal.at.returns-in_err-list-2-clause-kept g c).After-make_true;
      watched = Watched-more c.args.self.now c.list-2.new.self lits c.make_true.new.trail c.in-Some.watch c.best_watches-best.result.second
          (Watched-grow c.args.self.now lits c.args.trail.now c.make_true.new.trail c.decision_level-decision_level.ensures.trail.done c.requires.watched c.make_true.ensures.grown c.make_true.ensures.done)
          (here g (goal.at.returns-in_err-list-2-clause-kept g c).After-best_watches-best) (among_has _ _ _ c.best_watches-best.ensures.best.second_in) more;
      rooms = c.list-2.ensures.rooms;
      still = still_now g (goal.at.returns-in_err-list-2-clause-kept g c).After-make_true;
    }

pub returns-clause-kept : goal.returns-clause-kept
returns-clause-kept g c =
    let at = here g (goal.at.returns-clause-kept g c).After-best_watches-best in
    let ok = c.in_ok-list-2.ensures.ok in
    record {
      clauses = same_clauses c.args.self.now c.list-2.new.self c.in-Some.watch c.best_watches-best.result.first c.best_watches-best.result.second at ok;
      vars = ok.vars;
      grown = c.make_true.ensures.grown;
      reasons = reasons_now g (goal.at.returns-clause-kept g c).After-make_true;
      watched = Watched-listed c.args.self.now c.list-2.new.self (lits_at (g.P.Port.state c.args.port.now)) c.args.trail.now c.make_true.new.trail c.in-Some.watch c.best_watches-best.result c.requires.watched c.decision_level-decision_level.ensures.trail at c.best_watches-best.ensures.best
          (let q = c.if-best-decision_level.false in omega (arith, q, c.decision_level-decision_level.ensures.level)) c.make_true.ensures.grown c.make_true.ensures.done
          (λ le. c.make_true.ensures.made) c.requires.below ok;
      rooms = c.list-2.ensures.rooms;
      still = still_now g (goal.at.returns-clause-kept g c).After-make_true;
    }
