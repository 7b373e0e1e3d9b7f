-- A ring that is made is ready to run.
use Rattle.std.proofs.Common.{◌≡◌, ◌≤◌, ◌^◌, ℕ, List, [], ◌∷◌, map, refl, sym, ap, subst, ◌∙◌, None, Option}
use Rattle.std.specs.Option.{option_map}
use Rattle.share_core.specs.declared.event.Stop.{Stop as CoreStop}
use Rattle.share_core.specs.declared.part.CoreOpening.{CoreOpening}
use Rattle.share_rule.specs.declared.view.View.{View}
use Rattle.share_rule.specs.FirstWords.{addresses}
use Rattle.share_rule.specs.Seen.{Seen}
use Rattle.share_rule.specs.Views.{start_glues}
use Rattle.ring_port.specs.PortState.{PortState, Holding, IsPort, HoldsStart}
use Rattle.share_rule.specs.declared.view.GlueAt.{GlueAt}
use Rattle.share_core.specs.declared.stored.ClauseAt.{ClauseAt}
use Rattle.sat_words.specs.declared.shared.Cref.{Cref}
use Rattle.ring_pass.specs.RingState.{begun_as, stop_as, holding_of}
use Rattle.ring_run.specs.declared.job.Job.{Job}
use Rattle.portfolio_run.specs.Jobs.{IsReady}

-- as many rings as the layout says
pub rings_are : (v : View) → Seen v → v.layout.rings ≡ v.opening.rings
rings_are v s = s.standing.rings ∙ ap (λ (o : CoreOpening). o.rings) (sym s.opening)

-- addresses of clauses, as the port has them
addresses_of : (gs : List GlueAt) (hs : List ClauseAt) → addresses hs ≡ map (λ (h : Holding). record { address = h.address }) (map (holding_of gs) hs)
addresses_of gs [] = refl
addresses_of gs (h ∷ hs) = ap (λ (cs : List Cref). record { address = h.address } ∷ cs) (addresses_of gs hs)

begun_ready : (v : View) (ring : ℕ) (home : List ℕ) (job : Job) → v.stop ≡ None → HoldsStart (begun_as v ring home) → IsPort (begun_as v ring home) → v.layout.vars ≤ 2 ^ 30 → job.vars ≡ v.layout.vars → job.ring ≡ ring → job.rings ≡ v.opening.rings → job.start ≡ addresses v.opening.starts → IsReady (begun_as v ring home) job
begun_ready v ring home job unstopped holds port small vars ring_is rings start = record {
  job_is = record {
    small = subst (λ (n : ℕ). n ≤ 2 ^ 30) (sym vars) small;
    ring = ring_is;
    rings = rings;
    vars = vars;
    start = start ∙ addresses_of (start_glues v.opening.starts) v.opening.starts;
  };
  untouched = record {
    held = holds;
    seen = refl;
    mine = refl;
    taken = refl;
    stop = ap (λ (o : Option CoreStop). option_map stop_as o) unstopped;
    refused = refl;
    shared = refl;
    polled = refl;
    ticket = refl;
    found = refl;
  };
  port = port;
}

pub is_ready : (v : View) (ring : ℕ) (home : List ℕ) (port : PortState) (job : Job) → v.stop ≡ None → port ≡ begun_as v ring home → HoldsStart port → IsPort port → v.layout.vars ≤ 2 ^ 30 → job.vars ≡ v.layout.vars → job.ring ≡ ring → job.rings ≡ v.opening.rings → job.start ≡ addresses v.opening.starts → IsReady port job
is_ready v ring home port job unstopped is holds isport small vars ring_is rings start =
    subst (λ (s : PortState). IsReady s job) (sym is) (begun_ready v ring home job unstopped (subst HoldsStart is holds) (subst IsPort is isport) small vars ring_is rings start)
