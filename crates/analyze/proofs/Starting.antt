-- The three ways to start the tracer: from a clause that is false, from a literal of the line that is true, and from a unit.
use Rattle.std.proofs.Common.{◌≡◌, ◌∙◌, ℕ, ◌≤◌, true, false, List, [], ◌∷◌, length, sym, refl, subst, inl, inr, ◌⊎◌, Contains, IsSome, Option, arith}
use Rattle.std.proofs.lemmas.Bool.{cases_eq, false≢true}
use Rattle.sat_words.specs.Literal.{Literal, opposite}
use Rattle.sat_words.specs.Clause.{has}
use Rattle.sat_words.specs.declared.shared.Cref.{Cref}
use Rattle.rup_model.proofs.Lists.{has_In}
use Rattle.ring_port.specs.PortState.{PortState, AreNumbered, clause_at}
use Rattle.ring_port.proofs.Holdings.{All_In}
use Rattle.ring_trail.specs.declared.step.TrailStep.{TrailStep}
use Rattle.ring_trail.specs.TrailData.{TrailData, IsTrail, FalseBefore, IsFalseOn, IsFalseClause, lit_at, level_at}
use Rattle.ring_trail.specs.Reasoned.{Held, WasUnit}
use Rattle.analyze.specs.Levels.{clause_level}
use Rattle.analyze.specs.Tracing.{CanTraceClause, CanTraceLiteral}
use Rattle.analyze.specs.HintOrder.{IsCause}
use Rattle.analyze.specs.Noting.{IsBacked, CanTrace}
use Rattle.analyze.proofs.Chains.{has-one}
use Rattle.analyze.proofs.Causes.{falsifier_before}
use Rattle.analyze.proofs.Judging.{one_reason}
use Rattle.analyze.proofs.LevelLemmas.{level_of_lit-at, clause_level-above}

pub CanTrace-clause : (s : PortState) (steps : List TrailStep) (line c : List Literal) → CanTraceClause (clause_at s) steps line c → CanTrace s steps line c
CanTrace-clause s steps line c can = record {
  bound = length steps;
  refuted = can.refuted;
  none_true = can.none_true;
  before = λ p lt h. lt;
  support = can.support;
  supports = can.supports;
  starts = λ p lt above h. can.starts p (record { in_range = lt; above = above; has_opposite = h });
}

-- a conflict at level 0 is a start for the empty clause
pub CanTraceClause-zero : (held : Held) (t : TrailData) (c : List Literal) → IsTrail t → IsFalseClause t.steps c → clause_level t.steps c ≡ 0 → CanTraceClause held t.steps [] c
CanTraceClause-zero held t c shape bad zero = record {
  refuted = λ k h. inr (bad k h);
  none_true = λ p lt. refl;
  support = λ p. false;
  supports = λ p lt above y. absurd (false≢true y);
  starts = λ p f.
      (let k = opposite (lit_at t.steps p) in
      let l = level_of_lit-at t k p shape (record { in_range = f.in_range; var = refl }) in
      let a = clause_level-above t.steps c k f.has_opposite in
      absurd (let above = f.above in omega (arith, l, a, zero, above)));
}

module _ (s : PortState) (t : TrailData) (line : List Literal) (place : ℕ) (can : CanTraceLiteral (clause_at s) t.steps line place) where
  -- the literal has a reason, or is at level 0
  pub backed_literal : IsBacked t.steps place
  backed_literal = elim (cases_eq (level_at t.steps place) 0) as (λ _. IsBacked t.steps place) [
    | inl z ↦ inl z
    | inr ne ↦ elim (can.supports place can.in_range (omega arith) (can.starts (omega arith))) as (λ _. IsBacked t.steps place) [
      | inl given ↦ absurd (false≢true (sym can.apart ∙ given))
      | inr r ↦ inr (subst (λ (o : Option Cref). IsSome o) (sym r.reason.reason_is) refl)
    ]
  ]

  pub CanTrace-literal : (c : List Literal) → IsTrail t → IsCause s t.steps place c → WasUnit t.steps place c → CanTrace s t.steps line c
  CanTrace-literal c shape cause unit = record {
    bound = place;
    refuted = λ k h. elim (unit.others k h) as (λ _. (has line k ≡ true) ⊎ FalseBefore t.steps (length t.steps) k) [
      | inl own ↦ inl (subst (λ (l : Literal). has line l ≡ true) (sym own) can.true_there)
      | inr f ↦ inr (record { place = f.place; before = (let b = f.before in let r = can.in_range in omega (arith, b, r)); false_there = f.false_there })
    ];
    none_true = can.none_before;
    before = λ p lt h. falsifier_before t place p c shape can.in_range lt unit h;
    support = can.support;
    supports = can.supports;
    starts = λ p lt above h. (
        let low = falsifier_before t place p c shape can.in_range lt unit h in
        let up : level_at t.steps p ≤ level_at t.steps place = shape.rising p place (omega arith) can.in_range in
        elim (can.supports place can.in_range (omega arith) (can.starts (omega arith))) as (λ _. can.support p ≡ true) [
          | inl given ↦ absurd (false≢true (sym can.apart ∙ given))
          | inr r ↦ elim cause as (λ _. can.support p ≡ true) [
            | inl told ↦ absurd (let z = told.0.level in omega arith)
            | inr reason ↦ (
                let same : c ≡ r.lits = one_reason (clause_at s) t.steps place r.reason.reason c r.lits reason.1 r.reason.reason_is r.reason.held_is in
                r.others p low (record { in_range = lt; above = above; has_opposite = subst (λ (d : List Literal). has d (opposite (lit_at t.steps p)) ≡ true) same h }))
          ]
        ]);
  }

-- a unit that is false at level 0 is a start for the empty clause
pub CanTrace-unit : (s : PortState) (t : TrailData) (unit : Literal) → IsTrail t → t.level ≡ 0 → IsFalseOn t.steps unit → CanTrace s t.steps [] (unit ∷ [])
CanTrace-unit s t unit shape zero bad = record {
  bound = length t.steps;
  refuted = λ k h. inr (subst (λ (l : Literal). FalseBefore t.steps (length t.steps) l) (sym (has-one unit k h)) bad);
  none_true = λ p lt. refl;
  before = λ p lt h. lt;
  support = λ p. false;
  supports = λ p lt above y. absurd (false≢true y);
  starts = λ p lt above h. absurd (let w = shape.within p lt in omega arith);
}

-- a unit that is seen has a number
pub seen_told : (s : PortState) (l : Literal) → AreNumbered s → has s.seen l ≡ true → (n : ℕ) × Contains s.told (l, n)
seen_told s l n h = All_In (λ (k : Literal). (m : ℕ) × Contains s.told (k, m)) s.seen l n.seen (has_In s.seen l h)
