-- Marks of variables: what one more mark leaves.
use Rattle.std.proofs.Common.{◌≡◌, ◌∙◌, ◌⊎◌, ℕ, ◌+◌, ◌<◌, List, Bool, true, false, length, slice_set, slice_index_or, inl, inr, subst, sym, ap, Some, All, Contains}
use Rattle.std.specs.List.{slice_get}
use Rattle.std.proofs.lemmas.Option.{slice_get_within, get_or_from_slice_get}
use Rattle.sat_words.specs.Literal.{Literal}
use Rattle.sat_words.specs.Clause.{has}
use Rattle.std.proofs.lemmas.List.{get_or-set_other}
use Rattle.std.proofs.lemmas.Grind.{get_or-set_at}
use Rattle.watch_prop.proofs.ListsLemmas.{cases_eq}
use Rattle.ring_run.specs.Strategy.{AreMore, AreMarkedBy, OccurMarked, IsVariableOf}

pub set_there : (marks : List Bool) (i j : ℕ) → i < length marks → j ≡ i → slice_index_or (slice_set marks i true) j false ≡ true
set_there marks i j inside is = get_or-set_at marks i j true false is inside

-- what is marked stays so if one more is
pub more_set : (marks : List Bool) (i : ℕ) → i < length marks → AreMore marks (slice_set marks i true)
more_set marks i inside j h =
    elim (cases_eq j i) as (λ _. slice_index_or (slice_set marks i true) j false ≡ true) [
      | inl is ↦ set_there marks i j inside is
      | inr ne ↦ get_or-set_other marks i j true false ne ∙ h
    ]

-- a fact of each member, at a place
pub all_at : (P : Literal → Type 0) (c : List Literal) (i : ℕ) (l : Literal) → All P c → slice_get c i ≡ Some l → P l
all_at P c i l all e = subst P (get_or_from_slice_get c i l l e) (all i l (slice_get_within c i l e))

-- one more variable of the clause is marked
pub marked_set : (old marks : List Bool) (c : List Literal) (k : Literal) (i : ℕ) → AreMarkedBy old marks c → has c k ≡ true → k.var ≡ i + 1 → AreMarkedBy old (slice_set marks i true) c
marked_set old marks c k i p there var j h =
    elim (cases_eq j i) as (λ _. (slice_index_or old j false ≡ true) ⊎ IsVariableOf c (j + 1)) [
      | inl is ↦ inr (record { lit = k; has_lit = there; var = var ∙ ap (λ (n : ℕ). n + 1) (sym is) })
      | inr ne ↦ p j (sym (get_or-set_other marks i j true false ne) ∙ h)
    ]

-- and one more clause
pub occur_more : (old new : List Bool) (cs : List (List Literal)) (c : List Literal) → OccurMarked old cs → Contains cs c → AreMarkedBy old new c → OccurMarked new cs
occur_more old new cs c p member by i h =
    elim (by i h) [ inl was ↦ p i was | inr is ↦ record { clause = c; member = member; occurs = is } ]
