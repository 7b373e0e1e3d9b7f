use Rattle.test_table.proofs.Keeping.{put_keeps}
use Rattle.test_table.proofs.slots.put_first.Goals as goal

pub returns-clause-held : goal.returns-clause-held
returns-clause-held g c =
    let p = c.put.ensures.part in
    put_keeps c.args.to 0 c.args.place c.args.cell.address p.0 p.1 c.args.ring.now.pass.me.0 c.put.new.pass.me.0 c.requires.ring.one p.2 c.requires.held
