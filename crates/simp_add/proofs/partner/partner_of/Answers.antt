use Rattle.simp_add.proofs.Choosing.{is_partner}
use Rattle.simp_add.proofs.partner.partner_of.Goals as goal

pub best-best-requires : goal.best-best-requires
best-best-requires g c = record { within = c.in_ok-count_all.ensures.touched.within }

pub returns-clause-partner : goal.returns-clause-partner
returns-clause-partner g c =
    is_partner c.args.work.now c.args.lit c.clauses-clauses.ensures.work c.args.numbers.now c.requires.rising c.requires.every
    c.count_all.new.tally.counts.items c.count_all.new.tally.touched.items c.in_ok-count_all.ensures.counted c.in_ok-count_all.ensures.touched c.best-best.result c.best-best.ensures
