use Rattle.std.proofs.Common.{◌∙◌, ◌+◌, ℕ, sym, ap, subst, vec_capacity}
use Rattle.share_rule.specs.declared.view.View.{View}
use Rattle.share_rule.proofs.Lists.{first_at}
use Rattle.ref_count.specs.Drops.{IsDropped}
use Rattle.ring_pass.proofs.GivesBack.{gave_of, left_back, last_back}
use Rattle.ring_pass.proofs.Stays.{loaded_twice, looked_both, clause_same}
use Rattle.ring_pass.proofs.offers.give_back.Goals as goal

pub returns-in-Left-clause-room : goal.returns-in-Left-clause-room
returns-in-Left-clause-room g c n can =
    let v : View = c.args.pass.now.me.0 in
    let w : View = c.drop_count.new.pass.me.0 in
    let a : ℕ = c.args.cell.address in
    let d = c.drop_count.ensures in
    let looked = looked_both v c.read_head-head.new.pass.me.0 c.read_clause.new.pass.me.0 (loaded_twice (a + 1) (a + 2) v c.read_head-head.new.pass.me.0 c.read_head-head.ensures.part) c.read_clause.ensures.looked in
    let gave = gave_of v c.read_clause.new.pass.me.0 w a d.part.0 c.requires.held.0 looked d.part.1 in
    let t = left_back v w a d.part.0 c.args.waiting.now.items (vec_capacity c.args.waiting.now) c.args.spares.now c.take_last-lits.new.self.items c.push_reserved.new.self.items c.take_last-lits.result c.clear.new.self c.args.spares.now.longest gave
    (subst (λ x. IsDropped d.part.0 x) c.in-Left.is d.part.2) c.take_last-lits.ensures.items c.push_reserved.ensures.items c.clear.ensures.items (c.clear.ensures.capacity ∙ c.read_clause.ensures.capacity) (λ i. c.args.spares.now.longest) n can in
    record { waits = t.0; places = t.1; buffers = t.2; enough = t.3 }

pub returns-in-Last-clause-room : goal.returns-in-Last-clause-room
returns-in-Last-clause-room g c n can =
    let v : View = c.args.pass.now.me.0 in
    let w : View = c.drop_count.new.pass.me.0 in
    let a : ℕ = c.args.cell.address in
    let d = c.drop_count.ensures in
    let e = c.read_head-head.ensures in
    let first = loaded_twice (a + 1) (a + 2) v c.read_head-head.new.pass.me.0 e.part in
    let looked = looked_both v c.read_head-head.new.pass.me.0 c.read_clause.new.pass.me.0 first c.read_clause.ensures.looked in
    let gave = gave_of v c.read_clause.new.pass.me.0 w a d.part.0 c.requires.held.0 looked d.part.1 in
    let t = last_back v w a d.part.0 c.args.waiting.now.items c.push_reserved-in-Last.new.self.items (vec_capacity c.args.waiting.now) (vec_capacity c.push_reserved-in-Last.new.self) c.args.spares.now c.take_last-lits.new.self.items c.take_last-lits.result _ c.args.spares.now.longest gave
    (subst (λ x. IsDropped d.part.0 x) c.in-Last.is d.part.2) c.take_last-lits.ensures.items c.push_reserved-in-Last.ensures.items
    (record { address = sym (first_at a _ c.requires.held.1).1; number = e.number; lits = c.read_clause.ensures.lits ∙ ap (λ h. h.lits) (clause_same v c.read_head-head.new.pass.me.0 a first) })
    c.push_reserved-in-Last.ensures.capacity (λ i. c.args.spares.now.longest) n can in
    record { waits = t.0; places = t.1; buffers = t.2; enough = t.3 }
