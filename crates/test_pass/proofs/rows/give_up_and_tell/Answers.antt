use Rattle.test_pass.proofs.rows.give_up_and_tell.Goals as goal

pub returns-clause-wrote : goal.returns-clause-wrote
returns-clause-wrote g c = record { middle = g.P.Port.state c.give_spare_up.new.port; gave = c.in_ok-give_spare_up.ensures.gave; wrote = c.in_ok-write_two.ensures.written }

pub returns-clause-told : goal.returns-clause-told
returns-clause-told g c = record {
  middle = g.Q.Port.state c.give_spare_up-2.new.port;
  between = g.Q.Port.state c.next_unit-unit.new.self;
  gave = c.in_ok-give_spare_up-2.ensures.gave;
  took_first = c.next_unit-unit.ensures.took;
  took_second = c.next_unit-none.ensures.took;
}
