-- From what a line rests on to the notes, and from the notes to a set to start from.
use Rattle.std.proofs.Common.{◌≡◌, ◌∙◌, ℕ, ◌<◌, true, false, List, [], ◌∷◌, length, map, sym, refl, ap, subst, inl, inr, ◌⊎◌, arith}
use Rattle.std.proofs.lemmas.Bool.{cases_Bool, false≢true}
use Rattle.sat_words.specs.Literal.{Literal, opposite}
use Rattle.sat_words.specs.Clause.{has}
use Rattle.sat_words.proofs.Members.{opposite-opposite}
use Rattle.ring_port.specs.PortState.{PortState, clause_at}
use Rattle.ring_trail.specs.TrailData.{TrailData, lit_at}
use Rattle.analyze.specs.Removable.{RestsOn}
use Rattle.analyze.specs.MarksData.{MarksData, all_blank}
use Rattle.analyze.specs.HintOrder.{IsUsed}
use Rattle.analyze.specs.Noting.{note_at, is_found_note, is_found_at, IsNoting, HasNoted, IsStarted, HasNotedAll, AreUsed, IsStartSet, CanTrace}
use Rattle.analyze.specs.declared.tracer.Note.{Note}
use Rattle.analyze.specs.declared.tracer.Note.TheVariants.{Free, Given, Noted}
use Rattle.analyze.proofs.Chains.{has-map}
use Rattle.analyze.proofs.Noting.{found-none}

map_twice : (c : List Literal) → map opposite (map opposite c) ≡ c
map_twice [] = refl
map_twice (l ∷ c) = ap (λ (k : Literal). k ∷ map opposite (map opposite c)) (opposite-opposite l) ∙ ap (λ (d : List Literal). l ∷ d) (map_twice c)

-- the negations of a line have the literals whose negations are in the line
negated_has : (c : List Literal) (l : Literal) → has c (opposite l) ≡ true → has (map opposite c) l ≡ true
negated_has c l h = subst (λ (k : Literal). has (map opposite c) k ≡ true) (opposite-opposite l) (has-map opposite c (opposite l) h)

has_negated : (c : List Literal) (l : Literal) → has (map opposite c) l ≡ true → has c (opposite l) ≡ true
has_negated c l h = subst (λ (d : List Literal). has d (opposite l) ≡ true) (map_twice c) (has-map opposite (map opposite c) l h)

not_both : (n : Note) → n ≡ Given → n ≡ Noted → ⊥
not_both n a b = let both : Given ≡ Noted = sym a ∙ b in absurd (cc)

module _ (s : PortState) (t : TrailData) (line c : List Literal) (can : CanTrace s t.steps line c) (a b : MarksData Note) (noting : IsNoting t.steps t.vars b)
    (g : HasNoted t.steps Given (all_blank t.vars Free) a line) (h : HasNoted t.steps Noted a b c) where
  first_given : (p : ℕ) → is_found_at a.values p ≡ true → (note_at a.values p ≡ Given) × (has line (opposite (lit_at t.steps p)) ≡ true)
  first_given p y = elim (g.only p y) as (λ _. (note_at a.values p ≡ Given) × (has line (opposite (lit_at t.steps p)) ≡ true)) [
    | inl old ↦ absurd (false≢true (sym (found-none t.vars p) ∙ old))
    | inr new ↦ new
  ]

  given_in_line : (p : ℕ) → note_at b.values p ≡ Given → has line (opposite (lit_at t.steps p)) ≡ true
  given_in_line p e = elim (h.only p (ap is_found_note e)) as (λ _. has line (opposite (lit_at t.steps p)) ≡ true) [
    | inl was ↦ (first_given p was).1
    | inr new ↦ absurd (not_both (note_at b.values p) e new.0)
  ]

  line_is_given : (p : ℕ) → p < length t.steps → has line (opposite (lit_at t.steps p)) ≡ true → note_at b.values p ≡ Given
  line_is_given p lt y = let f = g.all p lt y in h.kept p f ∙ (first_given p f).0

  noted_in_clause : (p : ℕ) → note_at b.values p ≡ Noted → has c (opposite (lit_at t.steps p)) ≡ true
  noted_in_clause p e = elim (h.only p (ap is_found_note e)) as (λ _. has c (opposite (lit_at t.steps p)) ≡ true) [
    | inl was ↦ absurd (not_both (note_at b.values p) (h.kept p was ∙ (first_given p was).0) e)
    | inr new ↦ new.1
  ]

  -- with what was noted behind the clause's own places each is used
  pub AreUsed-from : (d : MarksData Note) → HasNotedAll s t.steps t.vars b d → AreUsed s t.steps d.values c
  AreUsed-from d all p e = elim (all.used p e) as (λ _. (has c (opposite (lit_at t.steps p)) ≡ true) ⊎ IsUsed s t.steps (λ q. note_at d.values q ≡ Noted) p) [
    | inl first ↦ inl (noted_in_clause p first)
    | inr u ↦ inr u
  ]

  pub IsStarted-from : IsStarted s t.steps t.vars b
  IsStarted-from = record {
    noting = noting;
    support = can.support;
    supports = λ p lt above y. elim (can.supports p lt above y) as (λ _. (note_at b.values p ≡ Given) ⊎ RestsOn (clause_at s) t.steps (λ q. can.support q ≡ true) p) [
      | inl in_line ↦ inl (line_is_given p lt in_line)
      | inr r ↦ inr r
    ];
    noted = λ p e above. can.starts p (noting.in_range p (ap is_found_note e)) above (noted_in_clause p e);
  }

  module _ (d : MarksData Note) (all : HasNotedAll s t.steps t.vars b d) where
    -- a place stays given
    given_before : (p : ℕ) → note_at d.values p ≡ Given → note_at b.values p ≡ Given
    given_before p e = elim (all.only p (ap is_found_note e)) as (λ _. note_at b.values p ≡ Given) [
      | inl was ↦ sym (all.kept p was) ∙ e
      | inr new ↦ absurd (not_both (note_at d.values p) e new.0)
    ]

    given_after : (p : ℕ) → note_at b.values p ≡ Given → note_at d.values p ≡ Given
    given_after p e = all.kept p (ap is_found_note e) ∙ e

    below_bound : (p : ℕ) → note_at b.values p ≡ Noted → p < can.bound
    below_bound p e = can.before p (noting.in_range p (ap is_found_note e)) (noted_in_clause p e)

    noted_below : (p : ℕ) → note_at d.values p ≡ Noted → p < can.bound
    noted_below p e = elim (all.only p (ap is_found_note e)) as (λ _. p < can.bound) [
      | inl was ↦ below_bound p (sym (all.kept p was) ∙ e)
      | inr new ↦ (let w = new.1 in let low = w.before in let high = below_bound w.place w.noted in omega (arith, low, high))
    ]

    pub IsStartSet-from : IsStartSet t.steps d.values c (has (map opposite line))
    IsStartSet-from = record {
      given = λ p e. negated_has line (lit_at t.steps p) (given_in_line p (given_before p e));
      not_true = λ p e. elim (cases_Bool (has (map opposite line) (lit_at t.steps p))) as (λ _. has (map opposite line) (lit_at t.steps p) ≡ false) [
        | inl y ↦ absurd (not_both (note_at d.values p) (given_after p (line_is_given p (all.noting.in_range p (ap is_found_note e)) (has_negated line (lit_at t.steps p) y))) e)
        | inr off ↦ off
      ];
      not_false = λ p e. elim (cases_Bool (has (map opposite line) (opposite (lit_at t.steps p)))) as (λ _. has (map opposite line) (opposite (lit_at t.steps p)) ≡ false) [
        | inl y ↦ absurd (false≢true (sym (can.none_true p (noted_below p e))
            ∙ subst (λ (k : Literal). has line k ≡ true) (opposite-opposite (lit_at t.steps p)) (has_negated line (opposite (lit_at t.steps p)) y)))
        | inr off ↦ off
      ];
      refuted = λ k y. elim (can.refuted k y) as (λ _. (has (map opposite line) (opposite k) ≡ true) ⊎ ((p : ℕ) × (is_found_at d.values p ≡ true) × (lit_at t.steps p ≡ opposite k))) [
        | inl in_line ↦ inl (has-map opposite line k in_line)
        | inr f ↦ (
            let found : is_found_at b.values f.place ≡ true = h.all f.place f.before (subst (λ (l : Literal). has c l ≡ true) (sym (ap opposite f.false_there ∙ opposite-opposite k)) y) in
            inr (f.place, ap is_found_note (all.kept f.place found) ∙ found, f.false_there))
      ];
    }
