use Rattle.std.proofs.Common.{ap, sym, ◌∙◌, ◌+◌, ◌-◌, subst, ◌≡◌, ◌⊎◌, ℕ, arith, inl, inr}
use Rattle.std.proofs.lemmas.Bool.{cases_lt}
use Rattle.reduce_db.specs.Moment.{lemmas_before}
use Rattle.ring_run.specs.Renewal.{IsDue, HasShrunk, IsIdle}
use Rattle.ring_run.proofs.Halted.{not_yet, renewing_halted}
use Rattle.ring_run.specs.Ended.{HasPolled}
use Rattle.ring_run.specs.Ending.{ComesTo}
use Rattle.ring_run.specs.Searching.{GoesOn}
use Rattle.ring_run.specs.Course.{imports_of}
use Rattle.ring_run.specs.declared.ring.Ring.{Ring}
use Rattle.ring_run.proofs.Lending.{offering_kept}
use Rattle.ring_run.proofs.Polling.{polls_same, polled_over, polled_halted, polling_same}
use Rattle.ring_run.proofs.Shrinking.{looks_halted, looks_kept}
use Rattle.ring_run.proofs.Turning.{compose}
use Rattle.ring_port.specs.PortState.{PortState}
use Rattle.ring_run.specs.Renewal.{TookImport}
use Rattle.ring_run.proofs.reduction.reduce_vivify_import.Goals as goal
use Rattle.ring_run.proofs.Rounds.{imports_halted, imports_over, imports_same, importing_same}
use Rattle.ring_run.specs.Ended.{ImportsBy}
use Rattle.ring_run.proofs.InTime.{in_time_halted}

pub returns-in-Err-clause-leads : goal.returns-in-Err-clause-leads
returns-in-Err-clause-leads g c = λ start p.
    let u = g.P.Port.state c.shrink_due.new.port in
    let ring = c.args.ring.now in
    let count : c.shrink_due.new.ring.learned ≡ ring.learned = ap (λ (r : Ring). r.learned) c.shrink_due.ensures.same in
    subst (λ n. ComesTo start u n c.in-Err.end) (sym count) (c.in-Err.ensures.over.ends ring.learned start p)

pub returns-in-Err-clause-polls : goal.returns-in-Err-clause-polls
returns-in-Err-clause-polls g c =
    let s = g.P.Port.state c.args.port.now in
    let u = g.P.Port.state c.shrink_due.new.port in
    let ring = c.args.ring.now in
    let made = ap (λ (r : Ring). r.restarts.made) c.shrink_due.ensures.same in
    subst (λ (n : ℕ). HasPolled u n c.in-Err.end) (sym made)
    (polled_halted u ring.restarts.made _ c.in-Err.ensures.over.halted (polled_over u ring (polls_same s u (imports_of ring) c.shrink_due.ensures.nothing c.requires.polling.polled)))

pub returns-in-Err-clause-looks : goal.returns-in-Err-clause-looks
returns-in-Err-clause-looks g c = λ base before.
    looks_halted (g.P.Port.state c.args.port.now) (g.P.Port.state c.shrink_due.new.port) c.args.ring.now c.shrink_due.new.ring base c.in-Err.end c.shrink_due.ensures.looks (ap (λ (r : Ring). r.learned) c.shrink_due.ensures.same) c.in-Err.ensures.over.none before

pub returns-in-Err-clause-offering : goal.returns-in-Err-clause-offering
returns-in-Err-clause-offering g c = λ p.
    let s = g.P.Port.state c.args.port.now in
    let u = g.P.Port.state c.shrink_due.new.port in
    let same = c.shrink_due.ensures.same in
    let nothing = c.shrink_due.ensures.nothing in
    offering_kept s u c.args.ring.now c.shrink_due.new.ring nothing.shared nothing.ring nothing.rings nothing.lemmas (ap (λ (r : Ring). r.exported) same) (ap (λ (r : Ring). r.offered) same) (ap (λ (r : Ring). r.learned) same) p

pub import-requires-clause-polling : goal.import-requires-clause-polling
import-requires-clause-polling g c =
    let s = g.P.Port.state c.args.port.now in
    let u = g.P.Port.state c.shrink_due.new.port in
    let same = c.shrink_due.ensures.same in
    let level = c.in-Ok.ensures.import.level in
    let before = c.requires.import.level in
    polling_same s u c.args.ring.now c.shrink_due.new.ring c.shrink_due.ensures.nothing (ap (λ (r : Ring). r.place) same) (ap (λ (r : Ring). r.restarts) same) (ap (λ (r : Ring). r.import_due) same) (level ∙ sym before) c.requires.polling

pub returns-clause-renewed : goal.returns-clause-renewed
returns-clause-renewed g c = λ on. record {
  due = λ due. (g.P.Port.state c.shrink_due.new.port, c.shrink_due.new.ring, c.in-Ok.ensures.due due, c.import.ensures.took on);
  early = λ early.
      (let idle = c.in-Ok.ensures.early early in
      let u = g.P.Port.state c.import.new.port in
      subst (λ (x : PortState). TookImport x u c.args.ring.now c.import.new.ring) idle.port
      (subst (λ (r : Ring). TookImport (g.P.Port.state c.shrink_due.new.port) u r c.import.new.ring) idle.ring (c.import.ensures.took on)));
}

pub returns-in-Err-clause-unlooked : goal.returns-in-Err-clause-unlooked
returns-in-Err-clause-unlooked g c = c.shrink_due.ensures.looks

pub returns-clause-unlooked : goal.returns-clause-unlooked
returns-clause-unlooked g c = c.import.ensures.unlooked ∙ c.shrink_due.ensures.looks

pub returns-clause-leads : goal.returns-clause-leads
returns-clause-leads g c =
    let s = g.P.Port.state c.args.port.now in
    let u = g.P.Port.state c.shrink_due.new.port in
    let ring = c.args.ring.now in
    let count : c.shrink_due.new.ring.learned ≡ ring.learned = ap (λ (r : Ring). r.learned) c.shrink_due.ensures.same in
    compose c.import.result s u (g.P.Port.state c.import.new.port) ring c.shrink_due.new.ring c.import.new.ring
    (λ start p. subst (GoesOn start u) (sym count) (c.in-Ok.ensures.keeps start ring.learned p))
    c.import.ensures.leads

pub returns-clause-offering : goal.returns-clause-offering
returns-clause-offering g c = λ p.
    let s = g.P.Port.state c.args.port.now in
    let u = g.P.Port.state c.shrink_due.new.port in
    let same = c.shrink_due.ensures.same in
    let nothing = c.shrink_due.ensures.nothing in
    c.import.ensures.offering (offering_kept s u c.args.ring.now c.shrink_due.new.ring nothing.shared nothing.ring nothing.rings nothing.lemmas (ap (λ (r : Ring). r.exported) same) (ap (λ (r : Ring). r.offered) same) (ap (λ (r : Ring). r.learned) same) p)

pub returns-clause-looks : goal.returns-clause-looks
returns-clause-looks g c = λ base before.
    let level = c.in-Ok.ensures.import.level in
    let first = c.requires.import.level in
    c.import.ensures.looks base (looks_kept (g.P.Port.state c.args.port.now) (g.P.Port.state c.shrink_due.new.port) c.args.ring.now c.shrink_due.new.ring base c.shrink_due.ensures.looks (ap (λ (r : Ring). r.learned) c.shrink_due.ensures.same) (level ∙ sym first) before)

pub returns-clause-steps : goal.returns-clause-steps
returns-clause-steps g c = λ on. omega (arith, c.in-Ok.ensures.steps, c.import.ensures.steps on)

pub returns-in-Err-clause-imports : goal.returns-in-Err-clause-imports
returns-in-Err-clause-imports g c = λ start p h.
    let s = g.P.Port.state c.args.port.now in
    let u = g.P.Port.state c.shrink_due.new.port in
    let ring = c.args.ring.now in
    let made = ap (λ (r : Ring). r.restarts.made) c.shrink_due.ensures.same in
    subst (λ (n : ℕ). ImportsBy start u n c.in-Err.end) (sym made)
    (imports_halted start u ring.restarts.made _ c.in-Err.ensures.over.halted (imports_over start u ring (imports_same start s u (imports_of ring) c.shrink_due.ensures.nothing h)))

pub returns-clause-imports : goal.returns-clause-imports
returns-clause-imports g c = λ start p h.
    let s = g.P.Port.state c.args.port.now in
    let u = g.P.Port.state c.shrink_due.new.port in
    let old = c.args.ring.now in
    let ring = c.shrink_due.new.ring in
    let same = c.shrink_due.ensures.same in
    let level = c.in-Ok.ensures.import.level in
    let before = c.requires.import.level in
    let nothing = c.shrink_due.ensures.nothing in
    let restarts = ap (λ (r : Ring). r.restarts) same in
    let import_due = ap (λ (r : Ring). r.import_due) same in
    c.import.ensures.imports start (polling_same s u old ring nothing (ap (λ (r : Ring). r.place) same) restarts import_due (level ∙ sym before) p) (importing_same start s u old ring nothing restarts import_due h)

pub returns-in-Err-clause-in_time : goal.returns-in-Err-clause-in_time
returns-in-Err-clause-in_time g c = in_time_halted (g.P.Port.state c.shrink_due.new.port) c.shrink_due.new.ring.restarts c.in-Err.end c.in-Err.ensures.over.halted

pub returns-clause-in_time : goal.returns-clause-in_time
returns-clause-in_time g c = c.import.ensures.in_time (let h = c.in-Ok.ensures.in_time in omega (arith, h))

pub returns-in-Err-clause-refused : goal.returns-in-Err-clause-refused
returns-in-Err-clause-refused g c = c.in-Err.ensures.over.refusal

pub returns-in-Err-clause-halts : goal.returns-in-Err-clause-halts
returns-in-Err-clause-halts g c = inl c.in-Err.ensures.halts

pub returns-clause-halts : goal.returns-clause-halts
returns-clause-halts g c =
    let s = g.P.Port.state c.args.port.now in
    let m = g.P.Port.state c.shrink_due.new.port in
    let old = c.args.ring.now in
    let ring = c.shrink_due.new.ring in
    let shrunk : (IsDue old × HasShrunk s m old ring) ⊎ ((IsDue old → ⊥) × IsIdle s m old ring) =
    elim (cases_lt (old.learned - old.reduced_at) (lemmas_before (old.reductions + 1))) as (λ _. (IsDue old × HasShrunk s m old ring) ⊎ ((IsDue old → ⊥) × IsIdle s m old ring)) [
      | inl early ↦ inr (not_yet old early, c.in-Ok.ensures.early early)
      | inr due ↦ inl (due, c.in-Ok.ensures.due due)
    ] in
    renewing_halted s m (g.P.Port.state c.import.new.port) old ring c.import.result shrunk c.import.ensures.halts

pub returns-clause-undrawn : goal.returns-clause-undrawn
returns-clause-undrawn g c = λ on.
    let took = c.import.ensures.took on in
    ap (λ (x : PortState). x.found) took.polled.state ∙ ap (λ (x : PortState). x.found) took.units.state ∙ c.shrink_due.ensures.nothing.found

pub import-requires-clause-analysis : goal.import-requires-clause-analysis
import-requires-clause-analysis g c = c.shrink_due.ensures.analysis ∙ c.requires.analysis ∙ sym c.in-Ok.ensures.vars
