use Rattle.std.proofs.Common.{◌∙◌, refl, sym, ap}
use Rattle.rup_model.specs.declared.journal.Entry.TheVariants.{Reduce}
use Rattle.rup_model.specs.Journal.{lines}
use Rattle.share_core.specs.Machine.{CoreData, data_of}
use Rattle.share_core.proofs.Shown.{kept_longer, lines_reduced}
use Rattle.share_core.proofs.Lookups.{lone_shown}
use Rattle.share_core.proofs.progress.Progress.reduce.Goals as goal

pub returns-clause-after : goal.returns-clause-after
returns-clause-after c =
    let d : CoreData = data_of c.args.origin.now c.args.self.now in
    lone_shown d c.args.ring (Reduce c.args.ring) c.push.new.self (kept_longer d c.requires.kept) refl c.in_ok-push.ensures

pub returns-clause-logged : goal.returns-clause-logged
returns-clause-logged c = lines_reduced c.args.origin.now.formula.clauses c.args.self.now.journal c.args.ring c.args.self.now.lines c.requires.kept.logged ∙ ap (lines c.args.origin.now.formula.clauses) (sym c.in_ok-push.ensures)
