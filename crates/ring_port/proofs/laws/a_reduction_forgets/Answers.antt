use Rattle.std.proofs.Common.{◌∙◌, ◌∷◌, [], sym, ap, subst, append-nil}
use Rattle.rup_model.specs.Basics.{EachAfter}
use Rattle.rup_model.specs.declared.journal.Entry.TheVariants.{Reduce}
use Rattle.rup_model.specs.Journal.{learned, IsSpaced}
use Rattle.rup_model.specs.Opening.{IsNew}
use Rattle.rup_model.proofs.Additions.{learned-append}
use Rattle.rup_model.proofs.Sequences.{each_last}
use Rattle.ring_port.specs.PortState.{PortState}
use Rattle.ring_port.proofs.laws.a_reduction_forgets.Goals as goal

pub returns-clause-learned : goal.returns-clause-learned
returns-clause-learned c = λ old new k.
    ap (λ (s : PortState). learned s.ring s.mine) k.state
    ∙ learned-append old.ring old.mine (Reduce old.ring ∷ [])
    ∙ append-nil (learned old.ring old.mine)

pub returns-clause-each_new : goal.returns-clause-each_new
returns-clause-each_new c = λ o old new k h.
    subst (λ (s : PortState). EachAfter (IsNew o) [] s.mine) (sym k.state) (each_last (IsNew o) [] old.mine (Reduce old.ring) h tt)

pub returns-clause-spaced : goal.returns-clause-spaced
returns-clause-spaced c = λ old new k may h.
    subst (λ (s : PortState). EachAfter IsSpaced [] s.mine) (sym k.state) (each_last IsSpaced [] old.mine (Reduce old.ring) h may)
