use Rattle.std.proofs.Common.{None}
use Rattle.rup_model.specs.declared.journal.Kind.TheVariants.{Learn}
use Rattle.ring_port.proofs.PlainLemmas.{kept_refused, kept_unit}
use Rattle.ring_port.proofs.plain_calls.PlainPortPort.learn.Goals as goal

pub returns-in_err-put_unit-in-len1-clause-kept : goal.returns-in_err-put_unit-in-len1-clause-kept
returns-in_err-put_unit-in-len1-clause-kept g c = kept_refused c.args.self.now.state c.put_unit.new.self.state c.in_err-put_unit-in-len1.field-0.0 c.in_err-put_unit-in-len1.ensures.put

pub returns-in_ok-put_unit-in-len1-clause-kept : goal.returns-in_ok-put_unit-in-len1-clause-kept
returns-in_ok-put_unit-in-len1-clause-kept g c = kept_unit c.args.self.now.state c.put_unit.new.self.state c.lit-item.result Learn None c.in_ok-put_unit-in-len1.ensures.put
