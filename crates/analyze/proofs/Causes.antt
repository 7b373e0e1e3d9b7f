-- Why the literal at a place is true, and under which number.
use Rattle.std.proofs.Common.{◌≡◌, ◌∙◌, ℕ, ◌<◌, true, List, length, sym, ap, subst, inl, inr, ◌⊎◌, Contains, Option, Some, None, IsSome, IfSome, arith}
use Rattle.std.specs.Prelude.{MatchOption}
use Rattle.std.proofs.lemmas.Bool.{false≢true}
use Rattle.sat_words.specs.Literal.{Literal, opposite}
use Rattle.sat_words.specs.Clause.{has}
use Rattle.sat_words.specs.declared.shared.Cref.{Cref}
use Rattle.rup_model.specs.Hints.{numbered}
use Rattle.rup_model.proofs.Lists.{has_In}
use Rattle.ring_port.specs.PortState.{Holding, PortState, AreNumbered, held_at, lits_at, clause_at, known_at, head_of}
use Rattle.sat_words.specs.declared.shared.Head.{Head}
use Rattle.ring_port.proofs.Holdings.{All_In, holding, lits_of_holding}
use Rattle.ring_trail.specs.declared.step.TrailStep.{TrailStep}
use Rattle.ring_trail.specs.TrailData.{TrailData, IsTrail, lit_at, level_at, reason_at}
use Rattle.ring_trail.specs.Reasoned.{IsForced, IsSeen, IsDecision, IsReasoned, WasUnit}
use Rattle.analyze.specs.Removable.{IsReasonOf}
use Rattle.analyze.specs.HintOrder.{IsToldAt, IsCause}
use Rattle.analyze.specs.Noting.{IsBacked}
use Rattle.analyze.proofs.Chains.{clause_held}
use Rattle.analyze.proofs.Judging.{one_reason}
use Rattle.analyze.proofs.Parts.{own_opposite}

-- a place has one cause
pub one_cause : (s : PortState) (steps : List TrailStep) (p : ℕ) (c d : List Literal) → IsCause s steps p c → IsCause s steps p d → c ≡ d
one_cause s steps p c d (inl x) (inl y) = x.1 ∙ sym y.1
one_cause s steps p c d (inl x) (inr y) = absurd (y.0 x.0)
one_cause s steps p c d (inr x) (inl y) = absurd (x.0 y.0)
one_cause s steps p c d (inr x) (inr y) = one_reason (clause_at s) steps p y.1.reason c d x.1 y.1.reason_is y.1.held_is

-- a place without a unit that is told was forced
pub forced_untold : (s : PortState) (steps : List TrailStep) (p : ℕ) → AreNumbered s → IsReasoned (clause_at s) s.seen steps → p < length steps → IsBacked steps p → (IsToldAt s steps p → ⊥) → IsForced (clause_at s) steps p
forced_untold s steps p n r lt back untold = by (r.caused p lt)
  where
    by : IsForced (clause_at s) steps p ⊎ (IsSeen s.seen steps p ⊎ IsDecision steps p) → IsForced (clause_at s) steps p
    by (inl f) = f
    by (inr (inl z)) =
        let t = All_In (λ (l : Literal). (k : ℕ) × Contains s.told (l, k)) s.seen (lit_at steps p) n.seen (has_In s.seen (lit_at steps p) z.seen_is) in
        absurd (untold (record { level = z.level; number = t.0; told = t.1 }))
    by (inr (inr d)) = elim back as (λ _. IsForced (clause_at s) steps p) [
      | inl zero ↦ absurd (let a = d.above in omega arith)
      | inr some ↦ absurd (none_some (reason_at steps p) d.none some)
    ]
      where
        none_some : (o : Option Cref) → o ≡ None → IsSome o → ⊥
        none_some None e h = absurd (false≢true h)
        none_some (Some x) e h = absurd (cc)

-- what forced it is its cause
pub record IsHeldCause (s : PortState) (steps : List TrailStep) (p : ℕ) (r : Cref) : Type 0 where
  pub held : IsSome (held_at s r.address)
  pub reason : IsReasonOf (clause_at s) steps p (lits_at s r.address)
  pub unit : WasUnit steps p (lits_at s r.address)

pub held_cause : (s : PortState) (steps : List TrailStep) (p : ℕ) (r : Cref) → IsForced (clause_at s) steps p → reason_at steps p ≡ Some r → IsHeldCause s steps p r
held_cause s steps p r f e =
    let both : Some f.reason ≡ Some r = sym f.reason_is ∙ e in
    let is : f.reason ≡ r = cc in
    let there : clause_at s r.address ≡ Some f.lits = ap (λ (x : Cref). clause_at s x.address) (sym is) ∙ f.held_is in
    let h = clause_held s r.address f.lits there in
    record {
      held = h.0;
      reason = subst (λ (c : List Literal). IsReasonOf (clause_at s) steps p c) (sym h.1) (record { reason = r; reason_is = e; held_is = there });
      unit = subst (λ (c : List Literal). WasUnit steps p c) (sym h.1) f.unit;
    }

-- the number of a clause that is held names it
pub named_held : (s : PortState) (a : ℕ) (head : Head) → AreNumbered s → IsSome (held_at s a) → IfSome (held_at s a) (λ (h : Holding). head ≡ head_of h) → numbered (known_at s) head.number ≡ Some (lits_at s a)
named_held s a head n some same =
    let h = holding s a some in
    let is : head.number ≡ h.0.number = ap (λ (x : Head). x.number) (subst (λ (o : Option Holding). IfSome o (λ (k : Holding). head ≡ head_of k)) h.3 same) in
    ap (numbered (known_at s)) is ∙ All_In (λ (k : Holding). numbered (known_at s) k.number ≡ Some k.lits) s.held h.0 n.held h.1 ∙ ap (λ (c : List Literal). Some c) (sym (lits_of_holding s a h.0 h.3))

-- the other literals of a unit clause are false by earlier places
pub falsifier_before : (t : TrailData) (p q : ℕ) (c : List Literal) → IsTrail t → p < length t.steps → q < length t.steps → WasUnit t.steps p c → has c (opposite (lit_at t.steps q)) ≡ true → q < p
falsifier_before t p q c shape lp lq u h = elim (u.others (opposite (lit_at t.steps q)) h) as (λ _. q < p) [
  | inl own ↦ absurd (
      let e : q ≡ p = shape.distinct q p lq lp (ap (λ (x : Literal). x.var) own) in
      own_opposite (lit_at t.steps p) (sym (ap (λ (r : ℕ). opposite (lit_at t.steps r)) (sym e) ∙ own)))
  | inr f ↦ (
      let b = f.before in
      let e : q ≡ f.place = shape.distinct q f.place lq (omega arith) (sym (ap (λ (x : Literal). x.var) f.false_there)) in
      omega arith)
]

-- at level 0 the port is asked
pub told_at : (s : PortState) (steps : List TrailStep) (p : ℕ) (o : Option ℕ) → level_at steps p ≡ 0
    → MatchOption o ((n : ℕ) → Contains s.told (lit_at steps p, n) → ⊥) (λ n. Contains s.told (lit_at steps p, n))
    → MatchOption o (IsToldAt s steps p → ⊥) (λ n. (level_at steps p ≡ 0) × Contains s.told (lit_at steps p, n))
told_at s steps p None zero h = λ x. h x.number x.told
told_at s steps p (Some n) zero h = (zero, h)
