use Rattle.std.proofs.Common.{◌∙◌, sym, arith}
use Rattle.std.proofs.lemmas.Bool.{false≢true}
use Rattle.ring_port.specs.PortState.{lits_at}
use Rattle.ring_trail.proofs.Truths.{neither}
use Rattle.watch_prop.specs.Aside.{but}
use Rattle.watch_prop.proofs.Asides.{entry-other, entry-aside, stale-other, others-len}
use Rattle.watch_prop.proofs.Entries.{all_on_vars, attachable_held, entry_attachable, entry_pair, on_vars, entry_two, entry_conflict, entry_forces}
use Rattle.watch_prop.proofs.watches.Watches.judge.Goals as goal

pub is_true-requires : goal.is_true-requires
is_true-requires g c =
    let w = but c.args.aside c.args.self.now in
    let s = g.P.Port.state c.args.port.now in
    let t = c.args.trail.now in
    let e = entry-other c.args.aside c.args.self.now c.watcher_at-watcher.result.slot c.args.lit c.in-Some.entry (sym c.is_aside.ensures ∙ c.if-is_aside.false) c.in-Some.ensures.found in
    on_vars w.vars t.vars (lits_at s c.in-Some.entry.clause.address) c.in-Some.entry.other c.requires.watched.vars
    (entry_attachable w (lits_at s) t c.watcher_at-watcher.result.slot c.args.lit c.in-Some.entry c.requires.watched e)
    (entry_pair w (lits_at s) t c.watcher_at-watcher.result.slot c.args.lit c.in-Some.entry c.requires.watched e).1

pub is_false-requires : goal.is_false-requires
is_false-requires g c =
    let w = but c.args.aside c.args.self.now in
    let s = g.P.Port.state c.args.port.now in
    let t = c.args.trail.now in
    let e = entry-other c.args.aside c.args.self.now c.watcher_at-watcher.result.slot c.args.lit c.in-Some.entry (sym c.is_aside.ensures ∙ c.if-is_aside.false) c.in-Some.ensures.found in
    on_vars w.vars t.vars (lits_at s c.in-Some.entry.clause.address) c.in-Some.entry.other c.requires.watched.vars
    (entry_attachable w (lits_at s) t c.watcher_at-watcher.result.slot c.args.lit c.in-Some.entry c.requires.watched e)
    (entry_pair w (lits_at s) t c.watcher_at-watcher.result.slot c.args.lit c.in-Some.entry c.requires.watched e).1

pub entry-requires : goal.entry-requires
entry-requires g c =
    let b = c.requires.watched.blocking c.args.lit c.watcher_at-watcher.result c.watcher_at-watcher.ensures.listed in
    omega (arith, b.slot, others-len c.args.aside c.args.self.now.slots)

pub find_replacement-requires-clause-pair : goal.find_replacement-requires-clause-pair
find_replacement-requires-clause-pair g c =
    entry_two (but c.args.aside c.args.self.now) (lits_at (g.P.Port.state c.args.port.now)) c.args.trail.now c.watcher_at-watcher.result.slot c.args.lit c.in-Some.entry c.requires.watched (entry-other c.args.aside c.args.self.now c.watcher_at-watcher.result.slot c.args.lit c.in-Some.entry (sym c.is_aside.ensures ∙ c.if-is_aside.false) c.in-Some.ensures.found)

pub returns-then-is_false-clause-verdict : goal.returns-then-is_false-clause-verdict
returns-then-is_false-clause-verdict g c =
    entry_conflict (but c.args.aside c.args.self.now) (lits_at (g.P.Port.state c.args.port.now)) c.args.trail.now c.watcher_at-watcher.result.slot c.args.lit c.in-Some.entry
    (entry-other c.args.aside c.args.self.now c.watcher_at-watcher.result.slot c.args.lit c.in-Some.entry (sym c.is_aside.ensures ∙ c.if-is_aside.false) c.in-Some.ensures.found) c.requires.now_false (c.is_false.ensures.0 c.if-is_false.true) c.in-None-find_replacement.ensures.none

pub returns-else-is_false-clause-verdict : goal.returns-else-is_false-clause-verdict
returns-else-is_false-clause-verdict g c =
    rw (← c.watcher_at-watcher.ensures.slot)
    (entry_forces (but c.args.aside c.args.self.now) (lits_at (g.P.Port.state c.args.port.now)) c.args.trail.now c.watcher_at-watcher.result.slot c.args.lit c.in-Some.entry
    c.requires.watched (entry-other c.args.aside c.args.self.now c.watcher_at-watcher.result.slot c.args.lit c.in-Some.entry (sym c.is_aside.ensures ∙ c.if-is_aside.false) c.in-Some.ensures.found) c.requires.now_false
    (neither c.args.trail.now.steps c.in-Some.entry.other
    (λ p. false≢true (sym c.if-is_true.false ∙ c.is_true.ensures.1 p))
    (λ p. false≢true (sym c.if-is_false.false ∙ c.is_false.ensures.1 p)))
    c.in-None-find_replacement.ensures.none)

pub returns-in-None-clause-verdict : goal.returns-in-None-clause-verdict
returns-in-None-clause-verdict g c =
    rw (← c.watcher_at-watcher.ensures.slot) (stale-other c.args.aside c.args.self.now c.watcher_at-watcher.result.slot c.args.lit c.in-None.ensures.stale)

pub returns-then-is_aside-clause-verdict : goal.returns-then-is_aside-clause-verdict
returns-then-is_aside-clause-verdict g c =
    rw (← c.watcher_at-watcher.ensures.slot)
    (entry-aside c.args.aside c.args.self.now (lits_at (g.P.Port.state c.args.port.now)) c.args.trail.now c.watcher_at-watcher.result.slot c.args.lit c.in-Some.entry (sym c.is_aside.ensures ∙ c.if-is_aside.true) c.in-Some.ensures.found)

pub returns-then-is_true-clause-verdict : goal.returns-then-is_true-clause-verdict
returns-then-is_true-clause-verdict g c =
    rw (← c.watcher_at-watcher.ensures.slot)
    (
    let e = entry-other c.args.aside c.args.self.now c.watcher_at-watcher.result.slot c.args.lit c.in-Some.entry (sym c.is_aside.ensures ∙ c.if-is_aside.false) c.in-Some.ensures.found in
    record {
      e = c.in-Some.entry;
      entry = e;
      inside = (entry_pair (but c.args.aside c.args.self.now) (lits_at (g.P.Port.state c.args.port.now)) c.args.trail.now c.watcher_at-watcher.result.slot c.args.lit c.in-Some.entry c.requires.watched e).1;
      is_true = c.is_true.ensures.0 c.if-is_true.true;
    })

pub is_true-requires-in-Some-find_replacement : goal.is_true-requires-in-Some-find_replacement
is_true-requires-in-Some-find_replacement g c =
    let w = but c.args.aside c.args.self.now in
    let s = g.P.Port.state c.args.port.now in
    let t = c.args.trail.now in
    let e = entry-other c.args.aside c.args.self.now c.watcher_at-watcher.result.slot c.args.lit c.in-Some.entry (sym c.is_aside.ensures ∙ c.if-is_aside.false) c.in-Some.ensures.found in
    on_vars w.vars t.vars (lits_at s c.in-Some.entry.clause.address) c.in-Some-find_replacement.new c.requires.watched.vars
    (entry_attachable w (lits_at s) t c.watcher_at-watcher.result.slot c.args.lit c.in-Some.entry c.requires.watched e)
    c.in-Some-find_replacement.ensures.found.inside

pub returns-then-is_true-2-clause-verdict : goal.returns-then-is_true-2-clause-verdict
returns-then-is_true-2-clause-verdict g c =
    rw (← c.watcher_at-watcher.ensures.slot)
    record {
      e = c.in-Some.entry;
      entry = entry-other c.args.aside c.args.self.now c.watcher_at-watcher.result.slot c.args.lit c.in-Some.entry (sym c.is_aside.ensures ∙ c.if-is_aside.false) c.in-Some.ensures.found;
      inside = c.in-Some-find_replacement.ensures.found.inside;
      is_true = c.is_true-in-Some-find_replacement.ensures.0 c.if-is_true-2.true;
    }

pub find_replacement-requires-clause-held : goal.find_replacement-requires-clause-held
find_replacement-requires-clause-held g c =
    let w = but c.args.aside c.args.self.now in
    let s = g.P.Port.state c.args.port.now in
    attachable_held w.vars s c.in-Some.entry.clause.address
    (entry_attachable w (lits_at s) c.args.trail.now c.watcher_at-watcher.result.slot c.args.lit c.in-Some.entry c.requires.watched (entry-other c.args.aside c.args.self.now c.watcher_at-watcher.result.slot c.args.lit c.in-Some.entry (sym c.is_aside.ensures ∙ c.if-is_aside.false) c.in-Some.ensures.found))

pub find_replacement-requires-clause-in_range : goal.find_replacement-requires-clause-in_range
find_replacement-requires-clause-in_range g c =
    let w = but c.args.aside c.args.self.now in
    let s = g.P.Port.state c.args.port.now in
    all_on_vars w.vars c.args.trail.now.vars (lits_at s c.in-Some.entry.clause.address) c.requires.watched.vars
    (entry_attachable w (lits_at s) c.args.trail.now c.watcher_at-watcher.result.slot c.args.lit c.in-Some.entry c.requires.watched (entry-other c.args.aside c.args.self.now c.watcher_at-watcher.result.slot c.args.lit c.in-Some.entry (sym c.is_aside.ensures ∙ c.if-is_aside.false) c.in-Some.ensures.found))
