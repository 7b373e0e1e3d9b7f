use Rattle.std.proofs.Common.{◌∙◌, ap}
use Rattle.share_rule.specs.Views.{own_stop}
use Rattle.share_rule.specs.Shown.{ring_of}
use Rattle.share_rule.proofs.exchange_laws.a_stop_is_of_one_ring.Goals as goal

pub returns-clause-stands : goal.returns-clause-stands
returns-clause-stands c v s t e = s.stops.stands t e

pub returns-clause-sets : goal.returns-clause-sets
returns-clause-sets c v s i p t e at = (s.parts i p at).set ∙ ap (own_stop (ring_of p)) (s.stops.stands t e)
