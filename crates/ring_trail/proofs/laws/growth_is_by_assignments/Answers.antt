use Rattle.std.proofs.Common.{◌≡◌, ◌++◌, ◌∷◌, [], ℕ, All, List, ap, sym, refl, ◌∙◌, subst, append_assoc, append-nil, arith}
use Rattle.std.proofs.lemmas.List.Elements.{All-append, All-push}
use Rattle.ring_trail.specs.declared.step.TrailStep.{TrailStep}
use Rattle.ring_trail.specs.Closed.{IsClosed}
use Rattle.ring_trail.proofs.Causes.{IsClosed-more}
use Rattle.ring_trail.proofs.laws.growth_is_by_assignments.Goals as goal

pub returns-clause-none : goal.returns-clause-none
returns-clause-none c = λ t. record { vars = refl; level = refl; more = []; steps = sym (append-nil t.steps); at_level = λ k d h. absurd (omega arith) }

pub returns-clause-assigned : goal.returns-clause-assigned
returns-clause-assigned c = λ t u l r g.
    (let s : TrailStep = record { lit = l; level = u.level; reason = r } in
    record {
      vars = g.vars;
      level = g.level;
      more = g.more ++ s ∷ [];
      steps = ap (λ (xs : List TrailStep). xs ++ s ∷ []) g.steps ∙ append_assoc t.steps g.more (s ∷ []);
      at_level = All-push (λ (x : TrailStep). x.level ≡ t.level) g.more s g.at_level g.level;
    })

pub returns-clause-passed : goal.returns-clause-passed
returns-clause-passed c = λ t u n g. record { vars = g.vars; level = g.level; more = g.more; steps = g.steps; at_level = g.at_level }

pub returns-clause-again : goal.returns-clause-again
returns-clause-again c = λ t u w g h.
    (let there = subst (λ (n : ℕ). All (λ (x : TrailStep). x.level ≡ n) h.more) g.level h.at_level in
    record {
      vars = h.vars ∙ g.vars;
      level = h.level ∙ g.level;
      more = g.more ++ h.more;
      steps = h.steps ∙ ap (λ (xs : List TrailStep). xs ++ h.more) g.steps ∙ append_assoc t.steps g.more h.more;
      at_level = All-append (λ (x : TrailStep). x.level ≡ t.level) g.more h.more g.at_level there;
    })

pub returns-clause-closed : goal.returns-clause-closed
returns-clause-closed c = λ cs t u k g lt closed.
    subst (λ (xs : List TrailStep). IsClosed cs xs k) (sym g.steps)
    (IsClosed-more cs t.steps g.more k (λ p d h. let e = g.at_level p d h in omega arith) closed)
