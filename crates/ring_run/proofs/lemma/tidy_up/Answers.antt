use Rattle.ring_run.proofs.Tidying.{tidied_keeps, tidied_over, tidied_wrote, tidied_seen, tidied_waiting, tidied_held, tidied_looks, tidied_nothing, tidied_lines, tidied_some}
use Rattle.ring_run.proofs.lemma.tidy_up.Goals as goal

pub returns-clause-ok : goal.returns-clause-ok
returns-clause-ok g c = tidied_keeps (g.P.Port.state c.args.port.now) (g.P.Port.state c.tidy.new.self) c.tidy.result c.tidy.ensures.tidied c.tidy.ensures.log c.tidy.ensures.port

pub returns-clause-over : goal.returns-clause-over
returns-clause-over g c = tidied_over (g.P.Port.state c.args.port.now) (g.P.Port.state c.tidy.new.self) c.tidy.result c.tidy.ensures.tidied c.tidy.ensures.log c.tidy.ensures.port

pub returns-clause-wrote : goal.returns-clause-wrote
returns-clause-wrote g c = tidied_wrote (g.P.Port.state c.args.port.now) (g.P.Port.state c.tidy.new.self) c.tidy.result c.tidy.ensures.tidied c.tidy.ensures.log

pub returns-clause-seen : goal.returns-clause-seen
returns-clause-seen g c = tidied_seen (g.P.Port.state c.args.port.now) (g.P.Port.state c.tidy.new.self) c.tidy.result c.tidy.ensures.tidied

pub returns-clause-tidied : goal.returns-clause-tidied
returns-clause-tidied g c = tidied_waiting (g.P.Port.state c.args.port.now) (g.P.Port.state c.tidy.new.self) c.tidy.result c.tidy.ensures.tidied

pub returns-clause-held : goal.returns-clause-held
returns-clause-held g c = tidied_held (g.P.Port.state c.args.port.now) (g.P.Port.state c.tidy.new.self) c.tidy.result c.tidy.ensures.tidied

pub returns-clause-looks : goal.returns-clause-looks
returns-clause-looks g c = tidied_looks (g.P.Port.state c.args.port.now) (g.P.Port.state c.tidy.new.self) c.tidy.result c.tidy.ensures.tidied

pub returns-clause-nothing : goal.returns-clause-nothing
returns-clause-nothing g c = tidied_nothing (g.P.Port.state c.args.port.now) (g.P.Port.state c.tidy.new.self) c.tidy.result c.tidy.ensures.tidied c.tidy.ensures.log

pub returns-clause-lines : goal.returns-clause-lines
returns-clause-lines g c = tidied_lines (g.P.Port.state c.args.port.now) (g.P.Port.state c.tidy.new.self) c.tidy.result c.tidy.ensures.tidied

pub returns-clause-some : goal.returns-clause-some
returns-clause-some g c = tidied_some (g.P.Port.state c.args.port.now) (g.P.Port.state c.tidy.new.self) c.tidy.result c.tidy.ensures.tidied
