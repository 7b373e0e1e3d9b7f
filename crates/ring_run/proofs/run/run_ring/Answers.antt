use Rattle.ring_run.proofs.Offering.{offers_stay}
use Rattle.ring_run.proofs.run.run_ring.Goals as goal
use Rattle.std.proofs.Common.{[], subst, sym}
use Rattle.ring_port.specs.PortState.{PortState}
use Rattle.ring_run.specs.Ended.{HasDrawnFor}
use Rattle.ring_run.proofs.Tickets.{spent_exactly}
use Rattle.ring_run.proofs.Numbering.{timely_spaced}

pub returns-clause-stays : goal.returns-clause-stays
returns-clause-stays g c = (c.set_stop.ensures.runs (g.P.Port.state c.args.port.now) c.run_job-end.result.1.learned c.run_job-end.ensures.ends.runs).stays

pub returns-clause-held : goal.returns-clause-held
returns-clause-held g c = (c.set_stop.ensures.runs (g.P.Port.state c.args.port.now) c.run_job-end.result.1.learned c.run_job-end.ensures.ends.runs).held

pub returns-clause-wrote : goal.returns-clause-wrote
returns-clause-wrote g c = (c.set_stop.ensures.runs (g.P.Port.state c.args.port.now) c.run_job-end.result.1.learned c.run_job-end.ensures.ends.runs).wrote

pub returns-clause-new : goal.returns-clause-new
returns-clause-new g c = (c.set_stop.ensures.runs (g.P.Port.state c.args.port.now) c.run_job-end.result.1.learned c.run_job-end.ensures.ends.runs).each_new

pub returns-clause-new_lines : goal.returns-clause-new_lines
returns-clause-new_lines g c = (c.set_stop.ensures.runs (g.P.Port.state c.args.port.now) c.run_job-end.result.1.learned c.run_job-end.ensures.ends.runs).new_lines

pub returns-clause-glued : goal.returns-clause-glued
returns-clause-glued g c = (c.set_stop.ensures.runs (g.P.Port.state c.args.port.now) c.run_job-end.result.1.learned c.run_job-end.ensures.ends.runs).glued

pub returns-clause-counts : goal.returns-clause-counts
returns-clause-counts g c = record {
  learned_is = (c.set_stop.ensures.runs (g.P.Port.state c.args.port.now) c.run_job-end.result.1.learned c.run_job-end.ensures.ends.runs).counted;
  offers = offers_stay (g.P.Port.state c.run_job-end.new.port) (g.P.Port.state c.set_stop.new.port) c.run_job-end.result.1.exported c.run_job-end.result.1.offered c.set_stop.ensures.nothing c.run_job-end.ensures.offers;
}

pub returns-clause-polled : goal.returns-clause-polled
returns-clause-polled g c = c.set_stop.ensures.polled c.run_job-end.result.1.restarts c.run_job-end.ensures.polled

pub returns-clause-spaced : goal.returns-clause-spaced
returns-clause-spaced g c = timely_spaced [] (g.P.Port.state c.set_stop.new.port).mine (c.set_stop.ensures.runs (g.P.Port.state c.args.port.now) c.run_job-end.result.1.learned c.run_job-end.ensures.ends.runs).timely

pub returns-clause-timely : goal.returns-clause-timely
returns-clause-timely g c = (c.set_stop.ensures.runs (g.P.Port.state c.args.port.now) c.run_job-end.result.1.learned c.run_job-end.ensures.ends.runs).timely

pub returns-clause-imported : goal.returns-clause-imported
returns-clause-imported g c = c.set_stop.ensures.imported (g.P.Port.state c.args.port.now) c.run_job-end.result.1.restarts c.run_job-end.ensures.imported

pub returns-clause-tidied : goal.returns-clause-tidied
returns-clause-tidied g c = λ none. c.set_stop.ensures.tidied (c.run_job-end.ensures.tidied none)

pub returns-clause-in_time : goal.returns-clause-in_time
returns-clause-in_time g c = c.set_stop.ensures.in_time c.run_job-end.result.1 c.run_job-end.ensures.in_time

pub returns-clause-lately : goal.returns-clause-lately
returns-clause-lately g c = (c.set_stop.ensures.runs (g.P.Port.state c.args.port.now) c.run_job-end.result.1.learned c.run_job-end.ensures.ends.runs).lately

pub returns-clause-ran : goal.returns-clause-ran
returns-clause-ran g c = record {
  before = g.P.Port.state c.run_job-end.new.port;
  found = c.run_job-end.result.0;
  ran = c.run_job-end.ensures.ran;
  set = c.set_stop.ensures.set;
}

pub returns-clause-drawn : goal.returns-clause-drawn
returns-clause-drawn g c =
    let n = c.run_job-end.result.1.learned in
    subst (λ (x : PortState). HasDrawnFor x n) (sym c.set_stop.ensures.only) c.run_job-end.ensures.ends.drawn

pub returns-clause-tickets : goal.returns-clause-tickets
returns-clause-tickets g c = c.set_stop.ensures.tickets c.run_job-end.ensures.ends.tickets

pub returns-clause-spent : goal.returns-clause-spent
returns-clause-spent g c = spent_exactly (g.P.Port.state c.set_stop.new.port) c.set_stop.result (c.set_stop.ensures.tickets c.run_job-end.ensures.ends.tickets)
