-- A ring that has drawn a ticket, or found that all have been drawn.
use Rattle.std.proofs.Common.{◌≡◌, ◌∙◌, ℕ, ◌<◌, ◌≤◌, Bool, true, false, List, sym, subst, ap, arith, refl}
use Rattle.std.specs.Prelude.{nat_le}
use Rattle.std.specs.List.{list_any}
use Rattle.sat_words.specs.Literal.{Literal}
use Rattle.sat_words.specs.Clause.{has, is_empty}
use Rattle.rup_model.specs.declared.journal.Entry.{Entry}
use Rattle.rup_model.specs.Journal.{added, learned}
use Rattle.ring_port.specs.PortState.{PortState, IsPort, held_at, known}
use Rattle.ring_port.specs.Port.{Refused}
use Rattle.ring_port.specs.declared.stops.PortStop.{PortStop}
use Rattle.ring_port.specs.Log.{KeepsLog}
use Rattle.ring_port.specs.Drawing.{Drew}
use Rattle.ring_trail.specs.TrailData.{TrailData}
use Rattle.watch_prop.specs.WatchData.{WatchData}
use Rattle.ring_run.specs.Ended.{IsInTime, Cause}
use Rattle.ring_run.specs.Searching.{Runs, GoesOn, OnlyWrote, IsAsserting}
use Rattle.ring_run.specs.Ending.{ComesTo, end_refused}
use Rattle.ring_run.specs.Course.{Searches, HasLemmas, IsOffering, IsPolling, IsImporting, imports_of}
use Rattle.ring_run.specs.declared.job.End.TheVariants.{Spent}
use Rattle.ring_run.specs.declared.ring.Ring.{Ring}
use Rattle.ring_run.proofs.Codes.{le_true, le_false}
use Rattle.ring_run.proofs.InTime.{in_time_wrote}
use Rattle.ring_run.proofs.Lately.{sees_same}
use Rattle.ring_run.proofs.Listing.{listed_same, same_imports}
use Rattle.ring_run.proofs.Numbering.{kept_wrote}
use Rattle.ring_run.proofs.Offering.{offers_kept}
use Rattle.ring_run.proofs.Polling.{SamePolls, place_moved, polls_as}
use Rattle.ring_run.proofs.Progress.{IsReady, Unchanged, same_refused, stays_same, refused_cause, unset, marked_wrote, runs_same, lines_moved, usable_none}
use Rattle.ring_run.proofs.Rounds.{imports_as}
use Rattle.ring_run.proofs.Standing.{reasoned_more}
use Rattle.ring_run.proofs.Telling.{told_same}
use Rattle.ring_run.proofs.Tickets.{drawn_by, found_same, limit_same, tickets_refused}
use Rattle.ring_run.proofs.Turning.{wrote_search}

module _ (s u : PortState) (d : Drew s u) (log : KeepsLog s u) (port : IsPort u) where
  pub drawn_wrote : OnlyWrote s u
  drawn_wrote = marked_wrote s u s.looks s.caught_up (nat_le u.found s.limit) u.found d.state log

  pub drawn_polls : SamePolls s u
  drawn_polls = record {
    polled = ap (λ (x : PortState). x.polled) d.state;
    polls = ap (λ (x : PortState). x.polls) d.state;
    caught_up = (let same = ap (λ (x : PortState). x.caught_up) d.state in omega (arith, same));
    ring = ap (λ (x : PortState). x.ring) d.state;
    rings = ap (λ (x : PortState). x.rings) d.state;
    depth = ap (λ (x : PortState). x.depth) d.state;
  }

  pub drawn_looks : u.looks ≡ s.looks
  drawn_looks = ap (λ (x : PortState). x.looks) d.state

  pub drawn_held : u.held ≡ s.held
  drawn_held = ap (λ (x : PortState). x.held) d.state

  pub drawn_searches : (t : TrailData) (w : WatchData) (n : ℕ) → Searches s t w n → Searches u t w n
  drawn_searches t w n p =
      wrote_search s u t w n n p drawn_wrote port (record {
        vars = p.stands.vars ∙ sym drawn_wrote.stays.vars;
        reasoned = reasoned_more s u t.steps drawn_wrote.held drawn_wrote.more p.stands.reasoned;
        seen = λ l h. p.stands.seen l (ap (λ (x : PortState). has x.seen l) (sym d.state) ∙ h);
      }) (told_same s u t n (ap (λ (x : PortState). x.seen) d.state) p.told)

  pub drawn_lemmas : (ring : Ring) → HasLemmas s ring → HasLemmas u ring
  drawn_lemmas ring p = listed_same s u ring ring drawn_wrote.stays.start drawn_wrote.recent refl (λ c there. there) refl refl refl (same_imports ring) (kept_wrote s u ring.lemmas.items drawn_wrote) p

  pub drawn_offering : (ring : Ring) → IsOffering s ring → IsOffering u ring
  drawn_offering ring p = record {
    counts = offers_kept s u ring.exported ring.offered (ap (λ (x : PortState). x.shared) d.state) (ap (λ (x : PortState). x.ring) d.state) (ap (λ (x : PortState). x.rings) d.state)
        (ap (λ (x : PortState). learned x.ring x.mine) d.state) p.counts;
    few = p.few;
  }

  pub drawn_polling : (ring : Ring) → IsPolling s ring → IsPolling u ring
  drawn_polling ring p = record {
    place = place_moved ring.place s u drawn_polls.ring drawn_polls.rings p.place;
    polled = polls_as s u (imports_of ring) drawn_polls p.polled;
    low = p.low;
  }

  pub drawn_importing : (start : PortState) (ring : Ring) → IsImporting start s ring → IsImporting start u ring
  drawn_importing start ring p = imports_as start s u (imports_of ring) drawn_polls p

  pub drawn_in_time : (n : ℕ) → IsInTime s n → IsInTime u n
  drawn_in_time n p = in_time_wrote s u n drawn_wrote p

  drawn_runs : (start : PortState) (n : ℕ) → Runs start s n → Runs start u n
  drawn_runs start n p =
      let mine : u.mine ≡ s.mine = ap (λ (x : PortState). x.mine) d.state in
      runs_same start s u n p drawn_wrote.stays drawn_held drawn_wrote.more mine (lines_moved s u s.mine drawn_wrote.stays (ap (λ (x : PortState). x.given) d.state) mine p.new_lines) port

  -- a lemma that was found before the draw may be learned after it
  pub drawn_asserting : (t : TrailData) (lits : List Literal) (back : ℕ) → IsAsserting s t lits back → IsAsserting u t lits back
  unfolding known held_at
  drawn_asserting t lits back a = subst (λ (x : PortState). IsAsserting x t lits back) (sym d.state) (still (nat_le u.found s.limit) u.found)
    where
      still : (ticket : Bool) (found : ℕ) → IsAsserting (record s { ticket = ticket; found = found }) t lits back
      still ticket found = record {
        first = a.first;
        rest = a.rest;
        parts = a.parts;
        implied = a.implied;
        clause = a.clause;
        first_false = a.first_false;
        ahead = a.ahead;
        behind = a.behind;
        of_unit = a.of_unit;
        closed = a.closed;
        is_new_to = record { unknown = record { own = a.is_new_to.unknown.own; others = a.is_new_to.unknown.others }; unlisted = a.is_new_to.unlisted };
      }

  -- with the ticket a run may learn
  pub drawn_ready : (start : PortState) (n : ℕ) → GoesOn start s n → u.found ≤ s.limit → IsReady start u n
  drawn_ready start n p left =
      let limit : u.limit ≡ s.limit = ap (λ (x : PortState). x.limit) d.state in
      let runs = drawn_runs start n p.runs in
      record {
        runs = runs;
        ticket = ap (λ (x : PortState). x.ticket) d.state ∙ le_true u.found s.limit left;
        left = omega (arith, left, limit);
        drawn = omega (arith, d.more, p.draws.within);
        going = ap (λ (J : List Entry). list_any is_empty (added J)) (ap (λ (x : PortState). x.mine) d.state) ∙ p.going;
        stop = ap (λ (x : PortState). x.stop) d.state ∙ p.stop;
        refused = ap (λ (x : PortState). x.refused) d.state ∙ p.refused;
        held = runs.held;
      }

  -- and without one it is at its end
  pub drawn_spent : (start : PortState) (n : ℕ) → GoesOn start s n → s.limit < u.found → ComesTo start u n Spent
  drawn_spent start n p gone =
      let limit : u.limit ≡ s.limit = ap (λ (x : PortState). x.limit) d.state in
      let none : u.ticket ≡ false = ap (λ (x : PortState). x.ticket) d.state ∙ le_false u.found s.limit gone in
      let runs = drawn_runs start n p.runs in
      record {
        runs = runs;
        cause = record {
          held = runs.held;
          stop = ap (λ (x : PortState). x.stop) d.state ∙ p.stop;
          going = ap (λ (J : List Entry). list_any is_empty (added J)) (ap (λ (x : PortState). x.mine) d.state) ∙ p.going;
          usable = usable_none u (ap (λ (x : PortState). x.refused) d.state ∙ p.refused);
        };
        unset = tt;
        tickets = (none, omega (arith, gone, limit));
        drawn = drawn_by u n false none (omega (arith, d.more, p.draws.within));
      }

-- a refusal leaves the ticket in hand
pub ready_refused : (start s u : PortState) (n : ℕ) (stop : PortStop) → IsReady start s n → Refused s u stop → KeepsLog s u → IsPort u → ComesTo start u n (end_refused stop)
ready_refused start s u n stop p r log port =
    let same : Unchanged s u = subst (Unchanged s) (sym r.state) (same_refused s u.output stop) in
    let stays = stays_same s u same log in
    let found : u.found ≡ s.found = found_same s u same.tickets in
    let limit : u.limit ≡ s.limit = limit_same s u same.tickets in
    record {
      runs = runs_same start s u n p.runs stays same.held (sees_same s u same.seen) same.mine (lines_moved s u s.mine stays same.given same.mine p.runs.new_lines) port;
      cause = subst (λ (x : PortState). Cause x (end_refused stop)) (sym r.state) (refused_cause s u.output stop r.reason (usable_none s p.refused) p.going);
      unset = unset u (end_refused stop) (same.stop ∙ p.stop);
      tickets = tickets_refused u stop (omega (arith, found, limit, p.left));
      drawn = drawn_by u n true (ap (λ (t : Bool × ℕ × ℕ). t.0) same.tickets ∙ p.ticket) (omega (arith, found, p.drawn));
    }
