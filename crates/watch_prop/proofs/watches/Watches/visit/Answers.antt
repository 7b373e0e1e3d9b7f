use Rattle.std.proofs.Common.{Contains, ◌≡◌, ℕ, ◌<◌, ◌≤◌, ◌+◌, List, ap, subst, sym, refl, ◌∙◌, arith, length, get_or, Option, Some}
use Rattle.std.specs.List.{filter_map}
use Rattle.sat_words.specs.Literal.{Literal}
use Rattle.sat_words.specs.declared.shared.Cref.{Cref}
use Rattle.ring_port.specs.PortState.{lits_at}
use Rattle.ring_trail.specs.declared.step.TrailStep.{TrailStep}
use Rattle.ring_trail.specs.TrailData.{TrailData, IsTrail}
use Rattle.ring_trail.proofs.Truths.{no_value}
use Rattle.ring_trail.proofs.Causes.{IsReasoned-forced}
use Rattle.watch_prop.specs.declared.watch.Watch.{Watch}
use Rattle.watch_prop.specs.declared.watch.Watcher.{Watcher}
use Rattle.watch_prop.specs.declared.watch.ListEntry.{ListEntry}
use Rattle.watch_prop.specs.WatchData.{WatchData, Lits, clause_in as slot_clause, attached, list_at}
use Rattle.watch_prop.specs.Watched.{At, Watched, IsAttachable}
use Rattle.watch_prop.specs.Lists.{Removed, Reblocked}
use Rattle.watch_prop.specs.Propagation.{attached_at, HasReasons}
use Rattle.watch_prop.specs.Visiting.{IsVisiting, IsStale, CanMove, CanBlock, IsForcing, Replaced}
use Rattle.watch_prop.proofs.ListsLemmas.{Removed-len}
use Rattle.watch_prop.proofs.Growing.{HasGrown-step, clause_in}
use Rattle.watch_prop.proofs.Reasons.{attached_some}
use Rattle.watch_prop.proofs.Entries.{entry_attachable, on_vars, attachable_held}
use Rattle.watch_prop.proofs.SlotsLemmas.{clauses-set}
use Rattle.watch_prop.proofs.Advancing.{advanced_none, advanced_watches}
use Rattle.watch_prop.specs.Aside.{other_slots, but}
use Rattle.watch_prop.proofs.Asides.{entry-whole, passes-refl}
use Rattle.watch_prop.proofs.Passing.{passes-stale, passes-blocked, passes-moved, replaced-but}
use Rattle.watch_prop.proofs.Quiets.{quiet-forces}
use Rattle.watch_prop.proofs.Rooms.{have-same}
use Rattle.watch_prop.proofs.Visits.{visiting-stale, visiting-settled, visiting-blocked, visiting-moved, visiting-forced}
use Rattle.watch_prop.proofs.watches.Watches.visit.Given.{Over}
use Rattle.watch_prop.proofs.watches.Watches.visit.Goals as goal

pub replace-requires-clause-new_in_range : goal.replace-requires-clause-new_in_range
replace-requires-clause-new_in_range g c =
    let w = but c.args.aside c.args.self.now in
    let s = g.P.Port.state c.args.port.now in
    let can = c.in-Moves.ensures.verdict in
    on_vars w.vars w.vars (lits_at s c.in-Moves.entry.clause.address) c.in-Moves.new refl
    (entry_attachable w (lits_at s) c.args.trail.now (get_or (list_at w.lists c.args.lit) c.args.place 0) c.args.lit c.in-Moves.entry c.requires.visiting.watched can.entry) can.is_open.inside

-- the clause of a watch that forces a literal
forcing_attachable : (w : WatchData) (h : Lits) (t : TrailData) (i : ℕ) (k : Literal) (c : Cref) → Watched w h t → IsForcing w h t i k c → IsAttachable w.vars (h c.address)
forcing_attachable w h t i k c v f = subst (λ (d : Cref). IsAttachable w.vars (h d.address)) f.at.clause (v.clauses i f.at.watch f.at.there)

pub assign-requires-clause-in_range : goal.assign-requires-clause-in_range
assign-requires-clause-in_range g c =
    let w = but c.args.aside c.args.self.now in
    let s = g.P.Port.state c.args.port.now in
    let f = c.in-Forced.ensures.verdict in
    on_vars w.vars c.args.trail.now.vars (lits_at s c.in-Forced.clause.address) c.in-Forced.other c.requires.visiting.watched.vars
    (forcing_attachable w (lits_at s) c.args.trail.now (get_or (list_at w.lists c.args.lit) c.args.place 0) c.in-Forced.other c.in-Forced.clause c.requires.visiting.watched f) f.forces.has_lit

pub assign-requires-clause-free : goal.assign-requires-clause-free
assign-requires-clause-free g c = no_value c.args.trail.now.steps c.in-Forced.other.var c.in-Forced.ensures.verdict.free

stale_visiting : (w v : WatchData) (h : Lits) (t : TrailData) (l : Literal) (place : ℕ) (lists : List (List Watcher)) (rooms : List ℕ) (size : ℕ) → v ≡ w → place < length (list_at w.lists l) → IsVisiting w h t l (place + 1)
    → IsStale w (get_or (list_at w.lists l) place 0) l → Removed v.lists lists l place → IsVisiting record v { lists = lists; rooms = rooms; size = size } h t l place × (place ≤ length (list_at lists l))
stale_visiting w v h t l place lists rooms size e lt k s r =
    let lt' = subst (λ (x : WatchData). place < length (list_at x.lists l)) (sym e) lt in (
      visiting-stale v h t l place lists rooms size lt'
          (subst (λ (x : WatchData). IsVisiting x h t l (place + 1)) (sym e) k)
          (subst (λ (x : WatchData). IsStale x (get_or (list_at x.lists l) place 0) l) (sym e) s) r,
      Removed-len v.lists lists l place lt' r,
    )

pub returns-in-Stale-clause-visited : goal.returns-in-Stale-clause-visited
returns-in-Stale-clause-visited g c =
    stale_visiting (but c.args.aside c.args.self.now) (but c.args.aside record { vars = c.self.inside.vars; slots = c.self.inside.slots; lists = c.self.inside.lists.rows; rooms = c.self.inside.lists.rooms; size = c.self.inside.lists.size; settled = c.self.inside.settled }) (lits_at (g.P.Port.state c.args.port.now)) c.args.trail.now c.args.lit c.args.place c.take.new.self.rows c.take.new.self.rooms c.take.new.self.size (ap (but c.args.aside) c.self.view_is) c.requires.there c.requires.visiting c.in-Stale.ensures.verdict c.take.ensures.removed

blocked_visiting : (w v : WatchData) (h : Lits) (t : TrailData) (l b : Literal) (place : ℕ) (lists : List (List Watcher)) (rooms : List ℕ) (size : ℕ) → v ≡ w → IsTrail t → place < length (list_at w.lists l) → IsVisiting w h t l (place + 1)
    → CanBlock w h t l (get_or (list_at w.lists l) place 0) b → Reblocked v.lists lists l place b → IsVisiting record v { lists = lists; rooms = rooms; size = size } h t l place × (place ≤ length (list_at lists l))
blocked_visiting w v h t l b place lists rooms size q trail lt k can r =
    let lt' = subst (λ (x : WatchData). place < length (list_at x.lists l)) (sym q) lt in (
      visiting-blocked v h t l b place lists rooms size trail lt'
          (subst (λ (x : WatchData). IsVisiting x h t l (place + 1)) (sym q) k)
          (subst (λ (x : WatchData). CanBlock x h t l (get_or (list_at x.lists l) place 0) b) (sym q) can) r,
      omega (arith, lt', ap (λ (xs : List ℕ). length xs) (r.same l)),
    )

blocked : (g : Over) (c : goal.After-set_blocker g) → IsVisiting record { vars = c.self.inside.vars; slots = other_slots c.args.aside c.self.inside.slots; lists = c.set_blocker.new.self.rows; rooms = c.set_blocker.new.self.rooms; size = c.set_blocker.new.self.size; settled = c.self.inside.settled } (lits_at (g.P.Port.state c.args.port.now)) c.args.trail.now c.args.lit c.args.place × (c.args.place ≤ length (list_at c.set_blocker.new.self.rows c.args.lit))
blocked g c =
    blocked_visiting (but c.args.aside c.args.self.now) (but c.args.aside record { vars = c.self.inside.vars; slots = c.self.inside.slots; lists = c.self.inside.lists.rows; rooms = c.self.inside.lists.rooms; size = c.self.inside.lists.size; settled = c.self.inside.settled }) (lits_at (g.P.Port.state c.args.port.now)) c.args.trail.now c.args.lit c.in-Blocked.blocker c.args.place c.set_blocker.new.self.rows c.set_blocker.new.self.rooms c.set_blocker.new.self.size (ap (but c.args.aside) c.self.view_is) c.decision_level-level.ensures.trail c.requires.there c.requires.visiting c.in-Blocked.ensures.verdict c.set_blocker.ensures.reblocked

pub returns-in-Blocked-clause-visited : goal.returns-in-Blocked-clause-visited
returns-in-Blocked-clause-visited g c = blocked g c

pub returns-in-Blocked-clause-kept : goal.returns-in-Blocked-clause-kept
returns-in-Blocked-clause-kept g c =
    advanced_watches (g.P.Port.state c.args.port.now) (but c.args.aside c.args.self.now) _ c.args.trail.now (ap (λ (w : WatchData). attached (but c.args.aside w)) c.self.view_is) (ap (λ (w : WatchData). w.vars) c.self.view_is) (have-same c.args.self.now.rooms c.set_blocker.new.self.rooms (c.set_blocker.ensures.rooms ∙ ap (λ (w : WatchData). w.rooms) c.self.view_is)) c.requires.reasons
    (blocked g c).0.watched

pub returns-in-Settled-clause-visited : goal.returns-in-Settled-clause-visited
returns-in-Settled-clause-visited g c =
    (visiting-settled (but c.args.aside c.args.self.now) (lits_at (g.P.Port.state c.args.port.now)) c.args.trail.now c.args.lit c.args.place c.requires.there c.requires.visiting c.in-Settled.ensures.verdict, (let q = c.requires.there in omega arith))

-- a watch that changes its literals keeps its clause
clauses_same : (w x : WatchData) (h : Lits) (t : TrailData) (l m : Literal) (index place : ℕ) (e : ListEntry) → CanMove w h t l index e m → Replaced w x e l m place → attached x ≡ attached w
clauses_same w x h t l m index place e can r =
    let old_at : At w.slots e.index (Some can.entry.watch) = subst (λ (n : ℕ). At w.slots n (Some can.entry.watch)) (sym can.entry.at_index) can.entry.there in
    ap (λ (ws : List (Option Watch)). filter_map slot_clause ws) r.slots
    ∙ clauses-set w.slots e.index can.entry.watch record { clause = e.clause; first = e.other; second = m; binary = e.binary } old_at (sym can.entry.clause)

replaced : (g : Over) (c : goal.In_ok-replace-in-Moves g) → Replaced (but c.args.aside c.args.self.now) (but c.args.aside c.replace.new.self) c.in-Moves.entry c.args.lit c.in-Moves.new c.args.place
replaced g c =
    let w = c.args.self.now in
    replaced-but c.args.aside (lits_at (g.P.Port.state c.args.port.now)) w c.replace.new.self c.args.trail.now c.args.lit c.in-Moves.new (get_or (list_at w.lists c.args.lit) c.args.place 0) c.args.place c.in-Moves.entry c.in-Moves.ensures.verdict c.in_ok-replace-in-Moves.ensures.ok

moved : (g : Over) (c : goal.In_ok-replace-in-Moves g) → IsVisiting (but c.args.aside c.replace.new.self) (lits_at (g.P.Port.state c.args.port.now)) c.args.trail.now c.args.lit c.args.place
moved g c =
    visiting-moved (but c.args.aside c.args.self.now) (but c.args.aside c.replace.new.self) (lits_at (g.P.Port.state c.args.port.now)) c.args.trail.now c.args.lit c.in-Moves.new c.args.place c.in-Moves.entry
    c.decision_level-level.ensures.trail.done c.requires.there c.requires.visiting c.in-Moves.ensures.verdict (replaced g c)

pub returns-in_ok-replace-in-Moves-clause-visited : goal.returns-in_ok-replace-in-Moves-clause-visited
returns-in_ok-replace-in-Moves-clause-visited g c =
    let r = c.in_ok-replace-in-Moves.ensures.ok in
    let can = c.in-Moves.ensures.verdict in
    let between : list_at r.between c.args.lit ≡ list_at c.args.self.now.lists c.args.lit = r.added.same c.args.lit (λ q. can.is_open.not_l (sym q)) in
    (moved g c, Removed-len r.between c.replace.new.self.lists c.args.lit c.args.place (subst (λ (xs : List ℕ). c.args.place < length xs) (sym between) c.requires.there) r.removed)

forced : (g : Over) (c : goal.After-assign g) → IsVisiting (but c.args.aside c.args.self.now) (lits_at (g.P.Port.state c.args.port.now)) c.assign.new.self c.args.lit c.args.place
forced g c =
    let t = c.args.trail.now in
    let s : TrailStep = record { lit = c.in-Forced.other; level = t.level; reason = Some c.in-Forced.clause } in
    let e = c.assign.ensures.step in
    visiting-forced (but c.args.aside c.args.self.now) (lits_at (g.P.Port.state c.args.port.now)) t c.assign.new.self c.args.lit c.in-Forced.other c.args.place c.in-Forced.clause s c.decision_level-level.ensures.trail.done c.requires.there c.requires.visiting
    c.in-Forced.ensures.verdict refl refl (ap (λ (u : TrailData). u.steps) e) (HasGrown-step t c.assign.new.self s e refl) (ap (λ (u : TrailData). u.done) e)

pub returns-in-Forced-clause-visited : goal.returns-in-Forced-clause-visited
returns-in-Forced-clause-visited g c = (forced g c, (let q = c.requires.there in omega arith))

pub returns-in-Stale-clause-kept : goal.returns-in-Stale-clause-kept
returns-in-Stale-clause-kept g c =
    advanced_watches (g.P.Port.state c.args.port.now) (but c.args.aside c.args.self.now) _ c.args.trail.now (ap (λ (w : WatchData). attached (but c.args.aside w)) c.self.view_is) (ap (λ (w : WatchData). w.vars) c.self.view_is) (have-same c.args.self.now.rooms c.take.new.self.rooms (c.take.ensures.rooms ∙ ap (λ (w : WatchData). w.rooms) c.self.view_is)) c.requires.reasons
    (stale_visiting (but c.args.aside c.args.self.now) (but c.args.aside record { vars = c.self.inside.vars; slots = c.self.inside.slots; lists = c.self.inside.lists.rows; rooms = c.self.inside.lists.rooms; size = c.self.inside.lists.size; settled = c.self.inside.settled }) (lits_at (g.P.Port.state c.args.port.now)) c.args.trail.now c.args.lit c.args.place c.take.new.self.rows c.take.new.self.rooms c.take.new.self.size (ap (but c.args.aside) c.self.view_is) c.requires.there c.requires.visiting c.in-Stale.ensures.verdict c.take.ensures.removed).0.watched

pub returns-in-Settled-clause-kept : goal.returns-in-Settled-clause-kept
returns-in-Settled-clause-kept g c = advanced_none (g.P.Port.state c.args.port.now) (but c.args.aside c.args.self.now) c.args.trail.now c.requires.reasons c.requires.visiting.watched

pub returns-in-False-clause-kept : goal.returns-in-False-clause-kept
returns-in-False-clause-kept g c = advanced_none (g.P.Port.state c.args.port.now) (but c.args.aside c.args.self.now) c.args.trail.now c.requires.reasons c.requires.visiting.watched

pub returns-in_err-replace-in-Moves-clause-kept : goal.returns-in_err-replace-in-Moves-clause-kept
returns-in_err-replace-in-Moves-clause-kept g c =
    rw c.in_err-replace-in-Moves.ensures.err (advanced_none (g.P.Port.state c.args.port.now) (but c.args.aside c.args.self.now) c.args.trail.now c.requires.reasons c.requires.visiting.watched)

pub returns-in_ok-replace-in-Moves-clause-kept : goal.returns-in_ok-replace-in-Moves-clause-kept
returns-in_ok-replace-in-Moves-clause-kept g c =
    let ok = c.in_ok-replace-in-Moves.ensures.ok in
    advanced_watches (g.P.Port.state c.args.port.now) (but c.args.aside c.args.self.now) (but c.args.aside c.replace.new.self) c.args.trail.now
    (clauses_same (but c.args.aside c.args.self.now) (but c.args.aside c.replace.new.self) (lits_at (g.P.Port.state c.args.port.now)) c.args.trail.now c.args.lit c.in-Moves.new (get_or (list_at c.args.self.now.lists c.args.lit) c.args.place 0) c.args.place c.in-Moves.entry c.in-Moves.ensures.verdict (replaced g c))
    ok.vars c.replace.ensures.rooms c.requires.reasons (moved g c).watched

pub returns-in-Forced-clause-kept : goal.returns-in-Forced-clause-kept
returns-in-Forced-clause-kept g c =
    let t = c.args.trail.now in
    let w = but c.args.aside c.args.self.now in
    let s = g.P.Port.state c.args.port.now in
    let f = c.in-Forced.ensures.verdict in
    let i = get_or (list_at w.lists c.args.lit) c.args.place 0 in
    let d = lits_at s c.in-Forced.clause.address in
    let member = subst (λ (x : Cref). Contains (attached w) x) f.at.clause (clause_in w i f.at.watch f.at.there) in
    record {
      clauses = refl;
      vars = refl;
      grown = HasGrown-step t c.assign.new.self record { lit = c.in-Forced.other; level = t.level; reason = Some c.in-Forced.clause } c.assign.ensures.step refl;
      reasons = subst (λ (u : TrailData). HasReasons (attached w) s u.steps) (sym c.assign.ensures.step)
          (IsReasoned-forced (attached_at (attached w) s) s.seen t c.in-Forced.other c.in-Forced.clause d c.requires.reasons
          (attached_some (attached w) s c.in-Forced.clause member (attachable_held w.vars s c.in-Forced.clause.address (forcing_attachable w (lits_at s) t i c.in-Forced.other c.in-Forced.clause c.requires.visiting.watched f))) f.forces);
      watched = (forced g c).watched;
      rooms = have-same _ _ refl;
      still = λ quiet. absurd (quiet-forces w (lits_at s) t i c.in-Forced.other c.in-Forced.clause c.decision_level-level.ensures.trail quiet f);
    }

pub replace-requires-clause-entry : goal.replace-requires-clause-entry
replace-requires-clause-entry g c =
    let w = c.args.self.now in
    entry-whole c.args.aside w (get_or (list_at w.lists c.args.lit) c.args.place 0) c.args.lit c.in-Moves.entry c.in-Moves.ensures.verdict.entry

-- The clause set aside

pub returns-in-Stale-clause-passed : goal.returns-in-Stale-clause-passed
returns-in-Stale-clause-passed g c =
    passes-stale c.args.aside (lits_at (g.P.Port.state c.args.port.now)) c.args.self.now record { vars = c.self.inside.vars; slots = c.self.inside.slots; lists = c.self.inside.lists.rows; rooms = c.self.inside.lists.rooms; size = c.self.inside.lists.size; settled = c.self.inside.settled } c.args.lit c.args.place c.take.new.self.rows c.take.new.self.rooms c.take.new.self.size c.self.view_is (c.judge.ensures.stale c.in-Stale.is) c.take.ensures.removed

pub returns-in-Blocked-clause-passed : goal.returns-in-Blocked-clause-passed
returns-in-Blocked-clause-passed g c =
    passes-blocked c.args.aside (lits_at (g.P.Port.state c.args.port.now)) c.args.self.now record { vars = c.self.inside.vars; slots = c.self.inside.slots; lists = c.self.inside.lists.rows; rooms = c.self.inside.lists.rooms; size = c.self.inside.lists.size; settled = c.self.inside.settled } c.args.trail.now c.args.lit c.in-Blocked.blocker c.args.place c.set_blocker.new.self.rows c.set_blocker.new.self.rooms c.set_blocker.new.self.size c.self.view_is
    c.requires.visiting.watched c.in-Blocked.ensures.verdict c.set_blocker.ensures.reblocked

pub returns-in-Settled-clause-passed : goal.returns-in-Settled-clause-passed
returns-in-Settled-clause-passed g c = passes-refl c.args.aside _ _ _ refl

pub returns-in-False-clause-passed : goal.returns-in-False-clause-passed
returns-in-False-clause-passed g c = passes-refl c.args.aside _ _ _ refl

pub returns-in-Forced-clause-passed : goal.returns-in-Forced-clause-passed
returns-in-Forced-clause-passed g c = passes-refl c.args.aside _ _ _ refl

pub returns-in_err-replace-in-Moves-clause-passed : goal.returns-in_err-replace-in-Moves-clause-passed
returns-in_err-replace-in-Moves-clause-passed g c = passes-refl c.args.aside _ _ _ c.in_err-replace-in-Moves.ensures.err

pub returns-in_ok-replace-in-Moves-clause-passed : goal.returns-in_ok-replace-in-Moves-clause-passed
returns-in_ok-replace-in-Moves-clause-passed g c =
    passes-moved c.args.aside (lits_at (g.P.Port.state c.args.port.now)) c.args.self.now c.replace.new.self c.args.trail.now c.args.lit c.in-Moves.new c.args.place c.in-Moves.entry
    c.requires.visiting.watched c.in-Moves.ensures.verdict c.in_ok-replace-in-Moves.ensures.ok
