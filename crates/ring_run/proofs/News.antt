-- A clause that contains no attached clause, and no literal that is seen, is new.
use Rattle.std.proofs.Common.{◌≡◌, ◌∙◌, ℕ, get_or, Bool, true, false, not, ◌||◌, List, [], ◌∷◌, ◌++◌, map, sym, subst, ap, refl, inl, inr, Some, Contains}
use Rattle.std.specs.List.{list_any}
use Rattle.std.proofs.lemmas.Bool.{or_cases, and_from, cases_Bool}
use Rattle.sat_words.specs.Literal.{Literal}
use Rattle.sat_words.specs.Clause.{has, includes}
use Rattle.sat_words.specs.declared.shared.Cref.{Cref}
use Rattle.rup_model.specs.Journal.{fresh, recent}
use Rattle.rup_model.specs.Opening.{Start, start_clauses, adds_unit}
use Rattle.rup_model.proofs.Lists.{In, In_any, all_In, In_append, In_has, has_In, In_Contains, In_get_or, map_In}
use Rattle.ring_port.specs.PortState.{PortState, Holding, held_at, lits_at, lits_in}
use Rattle.ring_port.specs.Port.{start_lits}
use Rattle.ring_port.specs.Log.{start_of}
use Rattle.ring_port.proofs.Holdings.{All_In}
use Rattle.ring_run.specs.Ended.{opening_of}
use Rattle.ring_run.specs.Searching.{HasClauses, IsAmong, IsNewTo, OpeningSeen}
use Rattle.ring_run.proofs.Remembering.{stands_there}
use Rattle.ring_run.proofs.Telling.{never}

-- a test that no element passes
none_passes : {X : Type 0} (p : X → Bool) (xs : List X) → ((x : X) → In x xs → p x ≡ true → ⊥) → not (list_any p xs) ≡ true
none_passes p xs none =
    elim (cases_Bool (list_any p xs)) as (λ _. not (list_any p xs) ≡ true) [
      | inl yes_any ↦ (let t = In_any p xs yes_any in absurd (none t.0 t.1 t.2))
      | inr no_any ↦ ap not no_any
    ]

-- the start clauses of the opening
same_starts : (hs : List Holding) → map (λ (x : Start). x.lits) (map start_of hs) ≡ map (λ (h : Holding). h.lits) hs
same_starts [] = refl
same_starts (h ∷ hs) = ap (λ (cs : List (List Literal)). h.lits ∷ cs) (same_starts hs)

module _ (s : PortState) (cs : List Cref) (lits : List Literal) (p : HasClauses s cs) (opening : OpeningSeen s)
    (none_inside : (c : List Literal) → Contains (map (λ (x : Cref). lits_at s x.address) cs) c → ((l : Literal) → has c l ≡ true → has lits l ≡ true) → ⊥)
    (none_seen : (l : Literal) → has lits l ≡ true → has s.seen l ≡ true → ⊥) where
  all_inside : (c : List Literal) → includes lits c ≡ true → (l : Literal) → has c l ≡ true → has lits l ≡ true
  all_inside c e l h = all_In (has lits) c l e (has_In c l h)

  no_start : (c : List Literal) → In c (start_lits s) → includes lits c ≡ true → ⊥
  no_start c there e =
      let t = map_In (λ (h : Holding). h.lits) s.start c there in
      let held : held_at s t.0.address ≡ Some t.0 = All_In (λ (h : Holding). held_at s h.address ≡ Some h) s.start t.0 p.starts_held t.1 in
      let inside = stands_there s cs (record { address = t.0.address }) (p.starts t.0 (In_Contains s.start t.0 t.1)) in
      none_inside c (subst (Contains (map (λ (x : Cref). lits_at s x.address) cs)) (ap lits_in held ∙ t.2) inside) (all_inside c e)

  no_lemma : (c : List Literal) → IsAmong s cs c → includes lits c ≡ true → ⊥
  no_lemma c (inl there) e = none_inside c there (all_inside c e)
  no_lemma c (inr unit) e =
      none_seen unit.lit (all_inside c e unit.lit (In_has c unit.lit (subst (In unit.lit) (sym unit.unit) (inl refl)))) unit.seen

  is_fresh : fresh (start_lits s) s.mine s.ring lits ≡ true
  is_fresh = none_passes (includes lits) (start_lits s ++ recent s.ring s.mine) (λ c there e.
      elim (In_append (start_lits s) (recent s.ring s.mine) c there) as (λ _. ⊥) [
        | inl start ↦ no_start c start e
        | inr own ↦ no_lemma c (p.own.lemmas c (In_Contains (recent s.ring s.mine) c own)) e
      ])

  no_unit_inside : not (list_any (λ l. has s.opening l || adds_unit s.ring s.mine l) lits) ≡ true
  no_unit_inside = none_passes (λ l. has s.opening l || adds_unit s.ring s.mine l) lits (λ l there e.
      elim (or_cases (has s.opening l) (adds_unit s.ring s.mine l) e) as (λ _. ⊥) [
        | inl listed ↦ none_seen l (In_has lits l there) (opening l listed)
        | inr wrote ↦ none_seen l (In_has lits l there) (p.own.units l wrote)
      ])

  taken_outside : (a : ℕ) → In a s.taken → includes lits (lits_at s a) ≡ false
  taken_outside a there = never (includes lits (lits_at s a)) (λ e. none_inside (lits_at s a) (stands_there s cs (record { address = a }) (p.taken a (In_Contains s.taken a there))) (all_inside (lits_at s a) e))

  pub new_to : IsNewTo s lits
  new_to = record {
    unknown = record { own = is_fresh; others = λ k d lt. taken_outside (get_or s.taken k d) (In_get_or s.taken k d lt) };
    unlisted = and_from (fresh (start_clauses (opening_of s)) s.mine s.ring lits) (not (list_any (λ l. has s.opening l || adds_unit s.ring s.mine l) lits))
        (ap (λ (ds : List (List Literal)). fresh ds s.mine s.ring lits) (same_starts s.start) ∙ is_fresh) no_unit_inside;
  }
