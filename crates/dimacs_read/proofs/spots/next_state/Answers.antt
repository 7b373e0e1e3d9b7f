use Rattle.dimacs_read.specs.declared.spot.State.TheVariants.{Preamble, Gap, Minus}
use Rattle.dimacs_read.proofs.Steps.{next_leads, next_stops}
use Rattle.dimacs_read.proofs.spots.next_state.Goals as goal

pub returns-in-Preamble-clause-leads : goal.returns-in-Preamble-clause-leads
returns-in-Preamble-clause-leads c = next_leads c.in_preamble.result Preamble c.args.spot c.args.body.now c.args.byte c.in-Preamble.is c.in_preamble.ensures

pub returns-in-Preamble-clause-stops : goal.returns-in-Preamble-clause-stops
returns-in-Preamble-clause-stops c = next_stops c.in_preamble.result Preamble c.args.spot c.args.body.now c.args.byte c.in-Preamble.is c.in_preamble.ensures

pub returns-in-Gap-clause-leads : goal.returns-in-Gap-clause-leads
returns-in-Gap-clause-leads c = next_leads c.after_blank.result Gap c.args.spot c.args.body.now c.args.byte c.in-Gap.is c.after_blank.ensures

pub returns-in-Gap-clause-stops : goal.returns-in-Gap-clause-stops
returns-in-Gap-clause-stops c = next_stops c.after_blank.result Gap c.args.spot c.args.body.now c.args.byte c.in-Gap.is c.after_blank.ensures

pub returns-in-Minus-clause-leads : goal.returns-in-Minus-clause-leads
returns-in-Minus-clause-leads c = next_leads c.after_minus.result Minus c.args.spot c.args.body.now c.args.byte c.in-Minus.is c.after_minus.ensures

pub returns-in-Minus-clause-stops : goal.returns-in-Minus-clause-stops
returns-in-Minus-clause-stops c = next_stops c.after_minus.result Minus c.args.spot c.args.body.now c.args.byte c.in-Minus.is c.after_minus.ensures
