-- The trail's calls and the port's keep the watches.
use Rattle.std.proofs.Common.{◌≡◌, ℕ, ◌≤◌, ◌+◌, ◌==◌, true, List, [], ◌∷◌, length, Option, Some, None, sym, refl, ap, subst, ◌∙◌, inl, inr, arith, Contains}
use Rattle.std.specs.List.{list_any}
use Rattle.std.proofs.lemmas.Bool.{cases_Bool, eqb-true}
use Rattle.std.proofs.lemmas.List.{length-append, get_or_push}
use Rattle.sat_words.specs.Literal.{Literal}
use Rattle.sat_words.specs.Clause.{has}
use Rattle.sat_words.specs.declared.shared.Cref.{Cref}
use Rattle.rup_model.proofs.Lists.{any_In, In_any, Contains_In, In_Contains}
use Rattle.ring_port.specs.PortState.{PortState, clause_at}
use Rattle.ring_trail.specs.declared.step.TrailStep.{TrailStep}
use Rattle.ring_trail.specs.TrailData.{TrailData, IsTrail, no_step, level_at, decided, assigned, cut_back}
use Rattle.ring_trail.specs.Reasoned.{IsReasoned}
use Rattle.ring_trail.specs.Closed.{TrueWithin, HasTrue}
use Rattle.ring_trail.proofs.Causes.{IsReasoned-held, back-kept, back-only}
use Rattle.watch_prop.specs.declared.watch.Watch.{Watch}
use Rattle.watch_prop.specs.WatchData.{WatchData, Lits, attached}
use Rattle.watch_prop.specs.Watched.{At, Watched, IsAttachable, IsPair, IsGuarded, IsSettled}
use Rattle.watch_prop.specs.Propagation.{attached_at, HasReasons}
use Rattle.watch_prop.proofs.Growing.{Watched-grow, IsSettled-grow, HasGrown-step, clause_in}
use Rattle.watch_prop.proofs.Reasons.{same_number}

pub Watched-assign : (w : WatchData) (lits : Lits) (t : TrailData) (l : Literal) (r : Option Cref) → IsTrail t → Watched w lits t → Watched w lits (assigned t l r)
Watched-assign w lits t l r trail k =
    Watched-grow w lits t (assigned t l r) trail.done k (HasGrown-step t (assigned t l r) record { lit = l; level = t.level; reason = r } refl refl) refl

pub Watched-decide : (w : WatchData) (lits : Lits) (t : TrailData) (l : Literal) → t.done ≡ length t.steps → Watched w lits t → Watched w lits (decided t l)
Watched-decide w lits t l all k =
    let s : TrailStep = record { lit = l; level = t.level + 1; reason = None } in
    record {
      vars = k.vars;
      few = k.few;
      clauses = k.clauses;
      pairs = k.pairs;
      settled = λ i x lt at. IsSettled-grow w.lists t.steps (s ∷ []) t.done (lits x.clause.address) i x (omega arith) (k.settled i x lt at);
      blocking = k.blocking;
      fresh = λ p ge lt. ap (λ (x : TrailStep). x.level) (get_or_push t.steps s no_step p (let n = length-append t.steps (s ∷ []) in omega arith));
    }

pub Watched-back : (w : WatchData) (lits : Lits) (t : TrailData) (k : ℕ) → IsTrail t → k ≤ t.level → Watched w lits t → Watched w lits (cut_back t k)
Watched-back w lits t k trail below v =
    let u = cut_back t k in
    let true_back : (j : ℕ) (l : Literal) → j ≤ k → TrueWithin t.steps j l → TrueWithin u.steps j l
    = λ j l le h.
    let b = back-kept t k h.place trail h.in_range (let z = h.level in omega arith) in
    record { place = h.place; in_range = b.0; true_there = ap (λ (s : TrailStep). s.lit) b.1 ∙ h.true_there; level = (let z = h.level in let e = ap (λ (s : TrailStep). s.level) b.1 in omega arith) } in
    let guard : (c : List Literal) (l : Literal) → IsGuarded t.steps t.done c l → IsGuarded u.steps u.done c l
    = λ c l g p lt q.
    let b = back-only t k p trail (omega arith) in
    let e = b.2 in
    let h = g p (omega arith) (ap (λ (s : TrailStep). s.lit) (sym e) ∙ q) in
    let le : level_at t.steps p ≤ k = b.1 in
    subst (λ (s : TrailStep). HasTrue u.steps s.level c) (sym e) record { lit = h.lit; has_lit = h.has_lit; within = true_back (level_at t.steps p) h.lit le h.within } in
    record {
      vars = v.vars;
      few = v.few;
      clauses = v.clauses;
      pairs = v.pairs;
      settled = λ i x lt at.
          let z = v.settled i x lt at in
          record { first_listed = z.first_listed; second_listed = z.second_listed; first_guarded = guard (lits x.clause.address) x.first z.first_guarded; second_guarded = guard (lits x.clause.address) x.second z.second_guarded };
      blocking = v.blocking;
      fresh = λ p ge lt.
          let b = back-only t k p trail lt in
          let was = v.fresh p (omega arith) b.0 in
          let low : level_at t.steps p ≤ k = b.1 in
          let e = ap (λ (s : TrailStep). s.level) b.2 in
          omega (arith, was, low, e);
    }

pub Watched-port : (w : WatchData) (lits more : Lits) (t : TrailData) → ((c : Cref) → Contains (attached w) c → more c.address ≡ lits c.address) → Watched w lits t → Watched w more t
Watched-port w lits more t same v =
    let e : (i : ℕ) (s : Watch) → At w.slots i (Some s) → lits s.clause.address ≡ more s.clause.address = λ i s at. sym (same s.clause (clause_in w i s at)) in
    record {
      vars = v.vars;
      few = v.few;
      clauses = λ i s at. subst (λ (c : List Literal). IsAttachable w.vars c) (e i s at) (v.clauses i s at);
      pairs = λ i s at. subst (λ (c : List Literal). IsPair c s) (e i s at) (v.pairs i s at);
      settled = λ i s lt at. subst (λ (c : List Literal). IsSettled w.lists t.steps t.done c i s) (e i s at) (v.settled i s lt at);
      blocking = λ l x there. let b = v.blocking l x there in record { slot = b.slot; on = b.on; inside = λ s at. subst (λ (c : List Literal). has c x.blocker ≡ true) (e x.slot s at) (b.inside s at) };
      fresh = v.fresh;
    }

-- the clause at the address of an attached one
pub attached_is : (cs : List Cref) (s : PortState) (a : ℕ) (d : List Literal) → attached_at cs s a ≡ Some d → (c : Cref) × Contains cs c × (c.address ≡ a) × (clause_at s a ≡ Some d)
attached_is cs s a d e =
    elim (cases_Bool (list_any (λ (c : Cref). c.address == a) cs)) as (λ _. (c : Cref) × Contains cs c × (c.address ≡ a) × (clause_at s a ≡ Some d)) [
      | inl found ↦ (
          let m = In_any (λ (c : Cref). c.address == a) cs found in
          let here : attached_at cs s a ≡ clause_at s a = rw found refl in
          (m.0, In_Contains cs m.0 m.1, eqb-true m.0.address a m.2, sym here ∙ e))
      | inr missing ↦ absurd (let here : attached_at cs s a ≡ None = rw missing refl in let z : None ≡ Some d = sym here ∙ e in cc)
    ]

pub attached_at-in : (cs : List Cref) (s : PortState) (c : Cref) → Contains cs c → attached_at cs s c.address ≡ clause_at s c.address
attached_at-in cs s c there =
    let yes : list_any (λ (x : Cref). x.address == c.address) cs ≡ true = any_In (λ (x : Cref). x.address == c.address) cs c (Contains_In cs c there) (same_number c.address) in
    rw yes refl

pub Reasons-more : (cs ds : List Cref) (s r : PortState) (steps : List TrailStep) → ((c : Cref) → Contains cs c → Contains ds c × (clause_at r c.address ≡ clause_at s c.address))
    → ((l : Literal) → has s.seen l ≡ true → has r.seen l ≡ true) → HasReasons cs s steps → HasReasons ds r steps
Reasons-more cs ds s r steps keeps seen h =
    IsReasoned-held (attached_at cs s) (attached_at ds r) s.seen r.seen steps h
    (λ p c d lt reason e.
    let m = attached_is cs s c.address d e in
    let k = keeps m.0 m.1 in
    let at : attached_at ds r m.0.address ≡ clause_at s m.0.address = attached_at-in ds r m.0 k.0 ∙ k.1 in
    inl (subst (λ (a : ℕ). attached_at ds r a ≡ clause_at s a) m.2 at ∙ m.3))
    seen

pub Reasons-held : (cs : List Cref) (s : PortState) (steps : List TrailStep) → HasReasons cs s steps → IsReasoned (clause_at s) s.seen steps
Reasons-held cs s steps h =
    IsReasoned-held (attached_at cs s) (clause_at s) s.seen s.seen steps h (λ p c d lt reason e. inl (attached_is cs s c.address d e).3) (λ l q. q)
