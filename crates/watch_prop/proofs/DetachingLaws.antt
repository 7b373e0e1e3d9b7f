-- What is left if a clause is detached.
use Rattle.std.proofs.Common.{◌≡◌, ◌≢◌, ◌∙◌, ◌⊎◌, ◌↔◌, ℕ, ◌<◌, List, [], ◌∷◌, length, Some, sym, ap, subst, inl, inr, Contains}
use Rattle.sat_words.specs.Literal.{Literal}
use Rattle.sat_words.specs.declared.shared.Cref.{Cref}
use Rattle.rup_model.proofs.Lists.{In, In_map, map_In, Contains_In, In_Contains}
use Rattle.ring_port.specs.PortState.{PortState, clause_at}
use Rattle.ring_trail.specs.declared.step.TrailStep.{TrailStep}
use Rattle.ring_trail.specs.TrailData.{TrailData, reason_at}
use Rattle.ring_trail.specs.Reasoned.{IsSeen}
use Rattle.ring_trail.specs.Closed.{IsClosed}
use Rattle.ring_trail.proofs.Causes.{IsReasoned-held}
use Rattle.watch_prop.specs.WatchData.{WatchData, Lits, attached, clauses_of, without}
use Rattle.watch_prop.specs.Propagation.{attached_at, HasReasons, IsClosedBelow}
use Rattle.watch_prop.proofs.ListsLemmas.{cases_eq}
use Rattle.watch_prop.proofs.SlotsLemmas.{without-there, without-other}
use Rattle.watch_prop.proofs.TrailLaws.{attached_is, attached_at-in}

address_of : (x c : Cref) → x ≡ c → x.address ≡ c.address
address_of x c e = ap (λ (d : Cref). d.address) e

In_without : (cs : List Cref) (a : ℕ) (c : Cref) → In c cs → c.address ≢ a → In c (without cs a)
In_without [] a c h ne = absurd h
In_without (x ∷ cs) a c h ne =
    elim (cases_eq x.address a) as (λ _. In c (without (x ∷ cs) a)) [
      | inl e ↦ subst (λ (ys : List Cref). In c ys) (sym (without-there x cs a e))
          (elim h as (λ _. In c (without cs a)) [ inl q ↦ absurd (ne (sym (address_of x c q) ∙ e)) | inr m ↦ In_without cs a c m ne ])
      | inr n ↦ subst (λ (ys : List Cref). In c ys) (sym (without-other x cs a n))
          (elim h as (λ _. In c (x ∷ without cs a)) [ inl q ↦ inl q | inr m ↦ inr (In_without cs a c m ne) ])
    ]

without_In : (cs : List Cref) (a : ℕ) (c : Cref) → In c (without cs a) → In c cs × (c.address ≢ a)
without_In [] a c h = absurd h
without_In (x ∷ cs) a c h =
    elim (cases_eq x.address a) as (λ _. In c (x ∷ cs) × (c.address ≢ a)) [
      | inl e ↦ (let r = without_In cs a c (subst (λ (ys : List Cref). In c ys) (without-there x cs a e) h) in (inr r.0, r.1))
      | inr n ↦ (
          let k : In c (x ∷ without cs a) = subst (λ (ys : List Cref). In c ys) (without-other x cs a n) h in
          elim k as (λ _. In c (x ∷ cs) × (c.address ≢ a)) [
            | inl q ↦ (inl q, λ z. n (address_of x c q ∙ z))
            | inr m ↦ (let r = without_In cs a c m in (inr r.0, r.1))
          ])
    ]

left_in : (cs : List Cref) (a : ℕ) (c : Cref) → Contains cs c → c.address ≢ a → Contains (without cs a) c
left_in cs a c h ne = In_Contains (without cs a) c (In_without cs a c (Contains_In cs c h) ne)

was_in : (cs : List Cref) (a : ℕ) (c : Cref) → Contains (without cs a) c → Contains cs c × (c.address ≢ a)
was_in cs a c h = let r = without_In cs a c (Contains_In (without cs a) c h) in (In_Contains cs c r.0, r.1)

pub without-others : (cs : List Cref) (a : ℕ) (c : Cref) → Contains (without cs a) c ↔ (Contains cs c × (c.address ≢ a))
without-others cs a c = (λ h. was_in cs a c h, λ h. left_in cs a c h.0 h.1)

pub Reasons-without : (cs : List Cref) (s : PortState) (steps : List TrailStep) (a : ℕ) → ((p : ℕ) (c : Cref) → p < length steps → reason_at steps p ≡ Some c → c.address ≡ a → IsSeen s.seen steps p) → HasReasons cs s steps → HasReasons (without cs a) s steps
Reasons-without cs s steps a seen h =
    IsReasoned-held (attached_at cs s) (attached_at (without cs a) s) s.seen s.seen steps h
    (λ p c d lt reason e. elim (cases_eq c.address a) as (λ _. (attached_at (without cs a) s c.address ≡ Some d) ⊎ IsSeen s.seen steps p) [
      | inl q ↦ inr (seen p c lt reason q)
      | inr ne ↦ inl (
          let m = attached_is cs s c.address d e in
          let at = attached_at-in (without cs a) s m.0 (left_in cs a m.0 m.1 (λ z. ne (sym m.2 ∙ z))) in
          ap (λ (n : ℕ). attached_at (without cs a) s n) (sym m.2) ∙ at ∙ subst (λ (n : ℕ). clause_at s n ≡ Some d) (sym m.2) m.3)
    ])
    (λ l q. q)

pub Closed-at : (w x : WatchData) (lits : Lits) (steps : List TrailStep) (a k : ℕ) → attached x ≡ without (attached w) a → IsClosed (clauses_of w lits) steps k → IsClosed (clauses_of x lits) steps k
Closed-at w x lits steps a k e closed c there =
    let f : Cref → List Literal = λ d. lits d.address in
    let m = map_In f (attached x) c (Contains_In (clauses_of x lits) c there) in
    let was = was_in (attached w) a m.0 (subst (λ (cs : List Cref). Contains cs m.0) e (In_Contains (attached x) m.0 m.1)) in
    let inside = In_map f (attached w) m.0 (Contains_In (attached w) m.0 was.0) in
    closed c (In_Contains (clauses_of w lits) c (subst (λ (d : List Literal). In d (clauses_of w lits)) m.2 inside))

pub Closed-without : (w x : WatchData) (lits : Lits) (t : TrailData) (a : ℕ) → attached x ≡ without (attached w) a → IsClosedBelow w lits t → IsClosedBelow x lits t
Closed-without w x lits t a e below k lt = Closed-at w x lits t.steps a k e (below k lt)
