use Rattle.std.proofs.Common.{◌≡◌, ◌≤◌, ℕ, List, map, length, ap, sym, ◌∙◌, subst}
use Rattle.rup_model.specs.Basics.{below}
use Rattle.rup_model.specs.Journal.{learned}
use Rattle.rup_model.proofs.Sums.{below_same}
use Rattle.share_core.specs.State.{Placed, State}
use Rattle.share_core.specs.Sound.{Sound}
use Rattle.share_core.proofs.Plainly.{learned_own}
use Rattle.share_core.proofs.Tickets.{all_used, few_used, few_drawn}
use Rattle.share_core.proofs.ring_laws.tickets_are_counted.Goals as goal

-- what the rings learned, by the journal and by their own entries
both : (c : State) (s : Sound c) → below c.opening.rings (λ r. length (learned r s.entries.0)) ≡ below c.opening.rings (λ r. length (learned r (map (λ (w : Placed). w.entry) (c.part r).wrote)))
both c s = below_same c.opening.rings (λ r. length (learned r (map (λ (w : Placed). w.entry) (c.part r).wrote))) (λ r. length (learned r s.entries.0))
    (λ r lt. ap (λ cs. length cs) (learned_own r (length c.opening.journal) s.entries.0 ∙ ap (λ (w : List Placed). learned r (map (λ (p : Placed). p.entry) w)) (sym (s.entries.2 r lt))))

pub returns-clause-within : goal.returns-clause-within
returns-clause-within c = λ d s. (s.entries.0, s.entries.1, subst (λ (n : ℕ). n ≤ d.opening.limit) (sym (both d s)) (few_used d.opening d.drawn d.part s.tickets))

pub returns-clause-spent : goal.returns-clause-spent
returns-clause-spent c = λ d s past. (s.entries.0, s.entries.1, both d s ∙ all_used d.opening d.drawn d.part s.tickets s.opens.some_ring past)

pub returns-clause-parts : goal.returns-clause-parts
returns-clause-parts c = λ d s past. all_used d.opening d.drawn d.part s.tickets s.opens.some_ring past

pub returns-clause-draws : goal.returns-clause-draws
returns-clause-draws c = λ d s. few_drawn d.opening d.drawn d.part s.tickets
