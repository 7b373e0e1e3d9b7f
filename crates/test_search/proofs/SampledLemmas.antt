-- What calls keep of watches and a trail at level 0 over the small port.
use Rattle.std.proofs.Common.{◌≡◌, ◌∙◌, ◌+◌, ◌==◌, ℕ, zero, suc, not, true, false, List, [], ◌∷◌, ◌++◌, IsSome, None, sym, refl, ap, subst, add-one, inl, inr}
use Rattle.std.proofs.lemmas.List.{append-nil}
use Rattle.std.proofs.lemmas.List.Elements.{filter-append}
use Rattle.sat_words.specs.Literal.{Literal}
use Rattle.sat_words.specs.Clause.{has}
use Rattle.sat_words.specs.declared.shared.Cref.{Cref}
use Rattle.ring_port.specs.PortState.{held_at, lits_at}
use Rattle.ring_trail.specs.TrailData.{TrailData, IsTrail, HasGrown, assigned}
use Rattle.ring_trail.proofs.Causes.{IsReasoned-seen}
use Rattle.test_ports.specs.Sample.{sample_state}
use Rattle.test_ports.proofs.Sample.{held_first, held_second, held_third}
use Rattle.watch_prop.specs.WatchData.{WatchData, Lits, attached, without}
use Rattle.watch_prop.specs.Watched.{Watched, IsFresh}
use Rattle.watch_prop.specs.Propagation.{attached_at, HasReasons}
use Rattle.watch_prop.proofs.ListsLemmas.{cases_eq}
use Rattle.watch_prop.proofs.SlotsLemmas.{without-there, without-other}
use Rattle.watch_prop.proofs.TrailLaws.{Watched-assign}
use Rattle.test_search.specs.declared.sampled.SampleClause.{SampleClause}
use Rattle.test_search.specs.declared.sampled.SampleClause.TheVariants.{First, Second, Third}
use Rattle.test_search.specs.Sampled.{place_of, cref_of, left_by, IsSampled}
use Rattle.test_search.proofs.EmptyTrails.{empty_trail, fresh, reasons_with, reasons_of_none}

held_there : (c : SampleClause) → IsSome (held_at sample_state (place_of c))
held_there First = rw (held_first 0 false) refl
held_there Second = rw (held_second 0 false) refl
held_there Third = rw (held_third 0 false) refl

pub held_at_place : (c : SampleClause) (x : Cref) → x ≡ cref_of c → IsSome (held_at sample_state x.address)
held_at_place c x e = subst (λ (y : Cref). IsSome (held_at sample_state y.address)) (sym e) (held_there c)

pub nothing_sampled : (w : WatchData) (t : TrailData) → w.vars ≡ 5 → t ≡ empty_trail → ((lits : Lits) (u : TrailData) → u.vars ≡ 5 → IsFresh u → Watched w lits u) → IsSampled w t
nothing_sampled w t vars e watched =
    let trail_vars : t.vars ≡ 5 = ap (λ (u : TrailData). u.vars) e in
    record {
      clause_vars = vars;
      vars = trail_vars;
      level = ap (λ (u : TrailData). u.level) e;
      watched = watched (lits_at sample_state) t trail_vars (fresh t e);
      reasons = reasons_of_none (attached w) t.steps (ap (λ (u : TrailData). u.steps) e);
    }

-- one clause more
pub more_sampled : (w x : WatchData) (t : TrailData) (c : Cref) → IsSampled w t → x.vars ≡ w.vars → attached x ≡ attached w ++ c ∷ [] → Watched x (lits_at sample_state) t → IsSampled x t
more_sampled w x t c p vars more watched = record { clause_vars = vars ∙ p.clause_vars; vars = p.vars; level = p.level; watched = watched; reasons = reasons_with w x c t.steps more p.reasons }

-- others, if nothing is true
pub other_sampled : (w x : WatchData) (t : TrailData) → IsSampled w t → t.steps ≡ [] → x.vars ≡ w.vars → Watched x (lits_at sample_state) t → IsSampled x t
other_sampled w x t p bare vars watched = record { clause_vars = vars ∙ p.clause_vars; vars = p.vars; level = p.level; watched = watched; reasons = reasons_of_none (attached x) t.steps bare }

-- a unit that was seen
pub assigned_sampled : (w : WatchData) (t u : TrailData) (l : Literal) → IsSampled w t → IsTrail t → has sample_state.seen l ≡ true → u ≡ assigned t l None → IsSampled w u
assigned_sampled w t u l p shape seen is = subst (IsSampled w) (sym is) (record {
  clause_vars = p.clause_vars;
  vars = p.vars;
  level = p.level;
  watched = Watched-assign w (lits_at sample_state) t l None shape p.watched;
  reasons = IsReasoned-seen (attached_at (attached w) sample_state) sample_state.seen t l None p.reasons p.level seen;
})

-- what propagation makes true
pub grown_sampled : (w x : WatchData) (t u : TrailData) → IsSampled w t → x.vars ≡ w.vars → attached x ≡ attached w → HasGrown t u → HasReasons (attached w) sample_state u.steps → Watched x (lits_at sample_state) u → IsSampled x u
grown_sampled w x t u p vars same grown reasons watched = record {
  clause_vars = vars ∙ p.clause_vars;
  vars = grown.vars ∙ p.vars;
  level = grown.level ∙ p.level;
  watched = watched;
  reasons = subst (λ (cs : List Cref). HasReasons cs sample_state u.steps) (sym same) reasons;
}

-- a clause that comes and goes

without_again : (cs : List Cref) (a : ℕ) → without (without cs a) a ≡ without cs a
without_again [] a = refl
without_again (x ∷ cs) a =
    elim (cases_eq x.address a) as (λ _. without (without (x ∷ cs) a) a ≡ without (x ∷ cs) a) [
      | inl e ↦ let there = without-there x cs a e in ap (λ (ys : List Cref). without ys a) there ∙ without_again cs a ∙ sym there
      | inr n ↦ let other = without-other x cs a n in
          ap (λ (ys : List Cref). without ys a) other ∙ without-other x (without cs a) a n ∙ ap (λ (ys : List Cref). x ∷ ys) (without_again cs a) ∙ sym other
    ]

left_again : (n : ℕ) (cs : List Cref) → without (left_by n cs) 3 ≡ left_by (suc n) cs
left_again zero cs = refl
left_again (suc n) cs = without_again cs 3

pub come_and_gone : (n : ℕ) (cs : List Cref) → without (left_by n cs ++ cref_of Third ∷ []) 3 ≡ left_by (n + 1) cs
come_and_gone n cs =
    rw (add-one n) (filter-append (λ (c : Cref). not (c.address == 3)) (left_by n cs) (cref_of Third ∷ []) ∙ append-nil (without (left_by n cs) 3) ∙ left_again n cs)
