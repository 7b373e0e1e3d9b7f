use Rattle.portfolio_run.proofs.parts.open_ring.Goals as goal

pub returns : goal.returns
returns g c =
    let e = c.into_pass.ensures in
    record {
      pass = e.pass;
      one = e.ring.0;
      free = e.ring.1;
      own = e.state.0;
      state = e.state.1;
      ended_is = e.ended;
      refused_is = e.refused;
      faulty_is = e.faulty;
      alone_is = e.alone;
      settled = (e.built, e.listed);
      end_is = c.unwrap.ensures;
    }
