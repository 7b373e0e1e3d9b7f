use Rattle.watch_prop.proofs.DetachingLaws.{without-others}
use Rattle.watch_prop.proofs.laws.detaching_leaves_the_others.Goals as goal

pub returns : goal.returns
returns c = without-others
