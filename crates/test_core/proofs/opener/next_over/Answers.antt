use Rattle.test_core.proofs.opener.next_over.Goals as goal

pub next_round-requires-clause-built : goal.next_round-requires-clause-built
next_round-requires-clause-built c = (c.in_ok-may_begin.ensures.sound c.if-not-branch.false).built

pub next_round-requires-clause-ordered : goal.next_round-requires-clause-ordered
next_round-requires-clause-ordered c = (c.in_ok-may_begin.ensures.sound c.if-not-branch.false).ordered

pub next_round-requires-clause-opens : goal.next_round-requires-clause-opens
next_round-requires-clause-opens c = (c.in_ok-may_begin.ensures.sound c.if-not-branch.false).opens
