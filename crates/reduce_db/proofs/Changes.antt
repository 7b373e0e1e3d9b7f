-- How a ring's lemmas change.
use Rattle.std.proofs.Common.{◌≡◌, ◌≢◌, ◌∙◌, ◌==◌, ℕ, Bool, true, false, List, [], ◌∷◌, ◌++◌, All, Option, Some, None, IsSome, Contains, sym, refl, ap, subst, inl, inr, arith}
use Rattle.std.specs.List.{list_any}
use Rattle.std.proofs.lemmas.Bool.Decides.{nat_tests}
use Rattle.std.proofs.lemmas.List.Elements.{All-nil}
use Rattle.sat_words.specs.Literal.{Literal}
use Rattle.sat_words.specs.declared.shared.Cref.{Cref}
use Rattle.rup_model.specs.declared.journal.Kind.{Kind}
use Rattle.rup_model.proofs.Lists.{In, In_append, In_append_left, In_append_right, In_Contains, Contains_In, In_any}
use Rattle.ring_port.specs.PortState.{Holding, PortState, IsPort, held_at}
use Rattle.ring_port.specs.Port.{AddedClause, KeepsHeld}
use Rattle.ring_port.specs.Deleting.{IsNotTaken}
use Rattle.ring_port.proofs.Holdings.{All_In}
use Rattle.ring_port.proofs.LogSteps.{In_All}
use Rattle.watch_prop.specs.WatchData.{without}
use Rattle.watch_prop.proofs.DetachingLaws.{without-others}
use Rattle.reduce_db.specs.Lemmas.{AreDistinct, AreLemmas}

pub no_lemmas : (s : PortState) (cs : List Cref) → AreLemmas s cs []
no_lemmas s cs = record {
  distinct = tt;
  member = All-nil (Contains cs);
  held = All-nil (λ (c : Cref). IsSome (held_at s c.address));
  apart = All-nil (λ (c : Cref). IsNotTaken s c.address);
}

-- Lists without repeats

pub distinct_push : (cs : List Cref) (c : Cref) → AreDistinct cs → ((d : Cref) → In d cs → d.address ≢ c.address) → AreDistinct (cs ++ c ∷ [])
distinct_push [] c a f = (All-nil (λ (d : Cref). d.address ≢ c.address), tt)
distinct_push (x ∷ cs) c a f =
    (In_All (λ (d : Cref). d.address ≢ x.address) (cs ++ c ∷ []) all, distinct_push cs c a.1 (λ d m. f d (inr m)))
  where
    all : (d : Cref) → In d (cs ++ c ∷ []) → d.address ≢ x.address
    all d h = elim (In_append cs (c ∷ []) d h) as (λ _. d.address ≢ x.address) [
      | inl old ↦ All_In (λ (y : Cref). y.address ≢ x.address) cs d a.0 old
      | inr new ↦ (elim new as (λ _. d.address ≢ x.address) [
        | inl q ↦ (λ z. f x (inl refl) (sym z ∙ ap (λ (y : Cref). y.address) (sym q)))
        | inr none ↦ absurd none
      ])
    ]

middle_apart : (front back : List Cref) (c : Cref) → AreDistinct (front ++ c ∷ back) → (d : Cref) → In d (front ++ back) → d.address ≢ c.address
middle_apart [] back c a d m = All_In (λ (y : Cref). y.address ≢ c.address) back d a.0 m
middle_apart (x ∷ front) back c a d (inl q) = λ z. All_In (λ (y : Cref). y.address ≢ x.address) (front ++ c ∷ back) c a.0 (In_append_right front (c ∷ back) c (inl refl)) (sym z ∙ ap (λ (y : Cref). y.address) (sym q))
middle_apart (x ∷ front) back c a d (inr m) = middle_apart front back c a.1 d m

in_both : (front back : List Cref) (c d : Cref) → In d (front ++ back) → In d (front ++ c ∷ back)
in_both front back c d h = elim (In_append front back d h) as (λ _. In d (front ++ c ∷ back)) [
  | inl m ↦ In_append_left front (c ∷ back) d m
  | inr m ↦ In_append_right front (c ∷ back) d (inr m)
]

middle_gone : (front back : List Cref) (c : Cref) → AreDistinct (front ++ c ∷ back) → AreDistinct (front ++ back)
middle_gone [] back c a = a.1
middle_gone (x ∷ front) back c a =
    (In_All (λ (d : Cref). d.address ≢ x.address) (front ++ back) (λ d m. All_In (λ (y : Cref). y.address ≢ x.address) (front ++ c ∷ back) d a.0 (in_both front back c d m)), middle_gone front back c a.1)

-- Lemmas

pub lemmas_apart : (s : PortState) (cs front back : List Cref) (c : Cref) → AreLemmas s cs (front ++ c ∷ back) → All (λ (d : Cref). d.address ≢ c.address) (front ++ back)
lemmas_apart s cs front back c h = In_All (λ (d : Cref). d.address ≢ c.address) (front ++ back) (middle_apart front back c h.distinct)

pub lemma_leaves : (s : PortState) (cs front back : List Cref) (c : Cref) → AreLemmas s cs (front ++ c ∷ back) → AreLemmas s (without cs c.address) (front ++ back)
lemma_leaves s cs front back c h = record {
  distinct = middle_gone front back c h.distinct;
  member = In_All (Contains (without cs c.address)) (front ++ back)
      (λ d m. (without-others cs c.address d).1 (All_In (Contains cs) (front ++ c ∷ back) d h.member (in_both front back c d m), middle_apart front back c h.distinct d m));
  held = In_All (λ (d : Cref). IsSome (held_at s d.address)) (front ++ back) (λ d m. All_In (λ (y : Cref). IsSome (held_at s y.address)) (front ++ c ∷ back) d h.held (in_both front back c d m));
  apart = In_All (λ (d : Cref). IsNotTaken s d.address) (front ++ back) (λ d m. All_In (λ (y : Cref). IsNotTaken s y.address) (front ++ c ∷ back) d h.apart (in_both front back c d m));
}

none_held : (o : Option Holding) → IsSome o → o ≡ None → ⊥
none_held None h e = absurd (cc)
none_held (Some y) h e = absurd (cc)

then_at : (a b : ℕ) → (a == b) ≡ true → a ≡ b
then_at a b e = grind (arith, nat_tests)

false_by : (b : Bool) → (b ≡ true → ⊥) → b ≡ false
false_by true f = absurd (f refl)
false_by false f = refl

-- what was taken is held, so that an address that is free is none of it
free_not_taken : (s : PortState) (a : ℕ) → IsPort s → held_at s a ≡ None → IsNotTaken s a
free_not_taken s a port free = false_by (list_any (λ b. b == a) s.taken) (λ e. (
    let f = In_any (λ b. b == a) s.taken e in
    none_held (held_at s a) (subst (λ (b : ℕ). IsSome (held_at s b)) (then_at f.0 a f.2) (All_In (λ b. IsSome (held_at s b)) s.taken f.0 port.taken f.1)) free))

pub lemma_joins : (old new : PortState) (cs lemmas : List Cref) (lits : List Literal) (glue : ℕ) (kind : Kind) (c : Cref) → IsPort old → AddedClause old new lits glue kind c → KeepsHeld old new
    → AreLemmas old cs lemmas → AreLemmas new (cs ++ c ∷ []) (lemmas ++ c ∷ [])
lemma_joins old new cs lemmas lits glue kind c port k keeps h = record {
  distinct = distinct_push lemmas c h.distinct (λ d m e. none_held (held_at old c.address) (subst (λ (a : ℕ). IsSome (held_at old a)) e (All_In (λ (y : Cref). IsSome (held_at old y.address)) lemmas d h.held m)) k.free.not_held);
  member = both (Contains (cs ++ c ∷ []))
      (λ d m. In_Contains (cs ++ c ∷ []) d (In_append_left cs (c ∷ []) d (Contains_In cs d (All_In (Contains cs) lemmas d h.member m))))
      (In_Contains (cs ++ c ∷ []) c (In_append_right cs (c ∷ []) c (inl refl)));
  held = both (λ (d : Cref). IsSome (held_at new d.address))
      (λ d m. (let old_held = All_In (λ (y : Cref). IsSome (held_at old y.address)) lemmas d h.held m in subst IsSome (sym (keeps d.address old_held)) old_held))
      (subst IsSome (sym k.there) refl);
  apart = both (λ (d : Cref). IsNotTaken new d.address)
      (λ d m. same d.address (All_In (λ (y : Cref). IsNotTaken old y.address) lemmas d h.apart m))
      (same c.address (free_not_taken old c.address port k.free.not_held));
}
  where
    same : (a : ℕ) → IsNotTaken old a → IsNotTaken new a
    same a e = subst (λ (s : PortState). IsNotTaken s a) (sym k.state) e

    both : (P : Cref → Type 0) → ((d : Cref) → In d lemmas → P d) → P c → All P (lemmas ++ c ∷ [])
    both P f p = In_All P (lemmas ++ c ∷ []) (λ d m. elim (In_append lemmas (c ∷ []) d m) as (λ _. P d) [
      | inl x ↦ f d x
      | inr y ↦ (elim y as (λ _. P d) [ inl q ↦ subst P q p | inr none ↦ absurd none ])
    ])

pub lemmas_stay : (old new : PortState) (cs ds lemmas : List Cref) → ((c : Cref) → Contains lemmas c → Contains ds c × (held_at new c.address ≡ held_at old c.address) × IsNotTaken new c.address) → AreLemmas old cs lemmas → AreLemmas new ds lemmas
lemmas_stay old new cs ds lemmas f h = record {
  distinct = h.distinct;
  member = In_All (Contains ds) lemmas (λ c m. (f c (In_Contains lemmas c m)).0);
  held = In_All (λ (c : Cref). IsSome (held_at new c.address)) lemmas (λ c m. subst IsSome (sym (f c (In_Contains lemmas c m)).1) (All_In (λ (y : Cref). IsSome (held_at old y.address)) lemmas c h.held m));
  apart = In_All (λ (c : Cref). IsNotTaken new c.address) lemmas (λ c m. (f c (In_Contains lemmas c m)).2);
}
