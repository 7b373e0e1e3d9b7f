-- The lemmas that are left.
use Rattle.std.proofs.Common.{◌≡◌, ◌≢◌, ◌∙◌, ◌&&◌, Bool, true, false, not, cond, List, [], ◌∷◌, All, Contains, IsSome, sym, refl, ap, subst}
use Rattle.std.specs.List.{filter}
use Rattle.std.proofs.lemmas.Bool.{true≢false}
use Rattle.std.proofs.lemmas.List.Elements.{All-filter}
use Rattle.sat_words.specs.declared.shared.Cref.{Cref}
use Rattle.rup_model.proofs.Lists.{In_Contains}
use Rattle.ring_port.specs.PortState.{PortState, held_at}
use Rattle.ring_port.specs.Deleting.{IsNotTaken}
use Rattle.ring_port.proofs.Holdings.{All_In}
use Rattle.ring_port.proofs.LogSteps.{In_All}
use Rattle.ring_trail.specs.declared.step.TrailStep.{TrailStep}
use Rattle.watch_prop.specs.WatchData.{without_all}
use Rattle.reduce_db.specs.Lemmas.{AreDistinct, AreLemmas}
use Rattle.reduce_db.specs.Choice.{is_reason, IsChoice}
use Rattle.reduce_db.specs.Dropping.{DroppedAll}
use Rattle.reduce_db.proofs.Choosing.{passes_filter}
use Rattle.reduce_db.proofs.Drops.{stays_attached}

filter_distinct : (p : Cref → Bool) (xs : List Cref) → AreDistinct xs → AreDistinct (filter p xs)
filter_distinct p [] a = a
filter_distinct p (x ∷ xs) a = by (p x) (filter_distinct p xs a.1) (All-filter p (λ (d : Cref). d.address ≢ x.address) xs a.0)
  where
    by : (b : Bool) → AreDistinct (filter p xs) → All (λ (d : Cref). d.address ≢ x.address) (filter p xs) → AreDistinct (cond b (x ∷ filter p xs) (filter p xs))
    by true r q = (q, r)
    by false r q = r

no_reason_of : (a b r : Bool) → a && (b && not r) ≡ true → r ≡ false
no_reason_of a b false e = refl
no_reason_of true true true e = sym e
no_reason_of true false true e = absurd (true≢false (sym e))
no_reason_of false b true e = absurd (true≢false (sym e))

pub same_cref : (c d : Cref) → c.address ≡ d.address → c ≡ d
same_cref c d e = λ i. record { address = e i }

module _ (s : PortState) (steps : List TrailStep) (lemmas kept dropped : List Cref) (choice : IsChoice s steps lemmas kept dropped) where
  pub dropped_distinct : AreDistinct lemmas → AreDistinct dropped
  dropped_distinct a = subst AreDistinct (sym choice.dropped_is) (filter_distinct choice.drops lemmas a)

  pub dropped_each : (P : Cref → Type 0) → All P lemmas → All P dropped
  dropped_each P h = subst (All P) (sym choice.dropped_is) (All-filter choice.drops P lemmas h)

  pub dropped_free : All (λ (c : Cref). is_reason steps c.address ≡ false) dropped
  dropped_free = λ k d lt. no_reason_of _ _ _ (choice.droppable k d lt)

  -- what is kept and what is dropped is apart
  kept_apart : (c d : Cref) → Contains kept c → Contains dropped d → d.address ≢ c.address
  kept_apart c d k m e =
      let stays : not (choice.drops c) ≡ true = passes_filter (λ x. not (choice.drops x)) lemmas c (subst (λ (ys : List Cref). Contains ys c) choice.kept_is k) in
      let is_dropped : choice.drops d ≡ true = passes_filter choice.drops lemmas d (subst (λ (ys : List Cref). Contains ys d) choice.dropped_is m) in
      true≢false (sym stays ∙ ap not (ap choice.drops (sym (same_cref d c e)) ∙ is_dropped))

  was_lemma : (P : Cref → Type 0) → All P lemmas → All P kept
  was_lemma P h = subst (All P) (sym choice.kept_is) (All-filter (λ x. not (choice.drops x)) P lemmas h)

  pub lemmas_left : (new : PortState) (cs ws : List Cref) → AreLemmas s cs lemmas → DroppedAll s new dropped → ws ≡ without_all cs dropped → AreLemmas new ws kept
  lemmas_left new cs ws are gone e = record {
    distinct = subst AreDistinct (sym choice.kept_is) (filter_distinct (λ x. not (choice.drops x)) lemmas are.distinct);
    member = In_All (Contains ws) kept (λ c m. subst (λ (ys : List Cref). Contains ys c) (sym e)
        (stays_attached cs dropped c (All_In (Contains cs) kept c (was_lemma (Contains cs) are.member) m) (λ d g. kept_apart c d (In_Contains kept c m) g)));
    held = In_All (λ (c : Cref). IsSome (held_at new c.address)) kept (λ c m.
        subst IsSome (sym (gone.others c.address (λ d g. kept_apart c d (In_Contains kept c m) g)))
        (All_In (λ (x : Cref). IsSome (held_at s x.address)) kept c (was_lemma (λ (x : Cref). IsSome (held_at s x.address)) are.held) m));
    apart = In_All (λ (c : Cref). IsNotTaken new c.address) kept (λ c m.
        subst (λ (q : PortState). IsNotTaken q c.address) (sym gone.state)
        (All_In (λ (x : Cref). IsNotTaken s x.address) kept c (was_lemma (λ (x : Cref). IsNotTaken s x.address) are.apart) m));
  }
