use Rattle.std.proofs.Common.{◌∙◌, ◌<◌, sym, ap, subst, arith}
use Rattle.share_rule.specs.declared.view.View.{View}
use Rattle.share_rule.specs.Views.{times_in}
use Rattle.test_tables.proofs.Gathering.{other_right}
use Rattle.test_tables.proofs.rings.begin.Goals as goal

pub returns-clause-first : goal.returns-clause-first
returns-clause-first g c =
    let f = c.requires.first in
    let e = c.split-pass.ensures in
    let v : View = c.args.first.now.me.0 in
    let rings = ap (λ (u : View). u.opening.rings) e.old.1 in
    record {
      pass = e.pass.0;
      slots = e.pass.1.1 ∙ f.slots;
      rights = λ r le lt. subst (λ (u : View). 0 < times_in r u.rights) (sym e.old.1) (other_right c.args.ring r v.rights (f.rights c.args.ring (omega arith) c.requires.ring) (omega arith) (f.rights r (omega arith) (omega arith)));
    }
