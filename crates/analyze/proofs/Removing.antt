-- What minimisation finds is what the definitions say.
use Rattle.std.proofs.Common.{◌≡◌, ◌∙◌, ℕ, zero, suc, ◌<◌, Bool, true, false, not, List, length, Some, None, refl, sym, ap, subst, inl, inr, ◌⊎◌, arith}
use Rattle.std.proofs.lemmas.Bool.{false≢true}
use Rattle.sat_words.specs.Literal.{Literal}
use Rattle.ring_trail.specs.TrailData.{TrailData, IsTrail, level_at}
use Rattle.ring_trail.specs.Reasoned.{Held}
use Rattle.analyze.specs.MarksData.{MarksData}
use Rattle.analyze.specs.Walk.{MakesFalse, IsLeft}
use Rattle.analyze.specs.Marks.{IsWalked}
use Rattle.analyze.specs.Removable.{IsReasonOf, RestsOn, IsRemovableSet, IsRemovable}
use Rattle.analyze.specs.Minimising.{removability_at, is_found, is_removable, IsSettled, IsBlockedBy, IsBlocked, IsJudged}
use Rattle.analyze.specs.declared.minimise.Removability.{Removability}
use Rattle.analyze.specs.declared.minimise.Removability.TheVariants.{Unknown, Removable, Needed}
use Rattle.analyze.proofs.Judging.{one_reason}

pub removable_is : (v : Removability) → is_removable v ≡ true → v ≡ Removable
removable_is Unknown e = absurd (false≢true e)
removable_is Removable e = refl
removable_is Needed e = absurd (false≢true e)

pub removable_or_not : (v : Removability) → (is_removable v ≡ true) ⊎ (not (is_removable v) ≡ true)
removable_or_not Unknown = inr refl
removable_or_not Removable = inl refl
removable_or_not Needed = inr refl

pub found_needed : (v : Removability) → is_found v ≡ true → not (is_removable v) ≡ true → v ≡ Needed
found_needed Unknown f n = absurd (false≢true f)
found_needed Removable f n = absurd (false≢true n)
found_needed Needed f n = refl

-- the test whether it isn't found needed
not_needed : Removability → Bool
not_needed Unknown = true
not_needed Removable = true
not_needed Needed = false

-- a place that isn't removable hasn't both a settled reason and one that blocks it
module _ (held : Held) (t : TrailData) (ms : List Bool) (vs : MarksData Removability) (m : ℕ) (c : List Literal) (u : ℕ)
    (shape : IsTrail t) (j : IsJudged held t.steps t.vars ms vs) (w : IsWalked held t.steps m c ms u) where
  -- what is found removable is in each set that has what rests on it
  pub removable_sound : (n p : ℕ) → p < n → p < length t.steps → level_at t.steps p < m → removability_at vs.values p ≡ Removable → IsRemovable held t.steps m c u p
  removable_sound zero p h lt low e R set = absurd (omega arith)
  removable_sound (suc n) p h lt low e R set =
      let o : RestsOn held t.steps (IsSettled ms vs.values) p = j.cleared p e in
      set p (record {
        lits = o.lits;
        reason = o.reason;
        others = λ q b f. (
            let le = shape.rising q p (omega arith) lt in
            let lower : level_at t.steps q < m = omega arith in
            elim (o.others q b f) as (λ _. IsLeft held t.steps m c u q ⊎ (R q ≡ true)) [
              | inl y ↦ inl (record { in_range = f.in_range; above = f.above; lower = lower; reached = w.sound q y })
              | inr r ↦ inr (removable_sound n q (omega arith) f.in_range lower r R set)
            ]);
      })

  -- the places that aren't found needed are such a set
  unneeded : ℕ → Bool
  unneeded q = not_needed (removability_at vs.values q)

  unneeded_Needed : (q : ℕ) → removability_at vs.values q ≡ Needed → unneeded q ≡ true → ⊥
  unfolding unneeded not_needed
  unneeded_Needed q e y = false≢true (sym (ap not_needed e) ∙ y)

  blocked_not : (p : ℕ) → RestsOn held t.steps (λ q. IsLeft held t.steps m c u q ⊎ (unneeded q ≡ true)) p → IsBlocked held t.steps ms vs.values p → ⊥
  blocked_not p r (inl none) = let is = r.reason.reason_is in let both : None ≡ Some r.reason.reason = sym none ∙ is in cc
  blocked_not p r (inr b) =
      let b2 : IsBlockedBy t.steps ms vs.values p b.0 = b.2 in
      let b1 : IsReasonOf held t.steps p b.0 = b.1 in
      let same : r.lits ≡ b.0 = one_reason held t.steps p b1.reason r.lits b.0 r.reason b1.reason_is b1.held_is in
      elim (r.others b2.place b2.before (subst (λ (x : List Literal). MakesFalse t.steps x b2.place) (sym same) b2.falsifies)) as (λ _. ⊥) [
        | inl left ↦ false≢true (sym b2.not_marked ∙ w.complete b2.place left.reached)
        | inr y ↦ unneeded_Needed b2.place b2.needed y
      ]

  unneeded_set : IsRemovableSet held t.steps m c u unneeded
  unfolding unneeded not_needed
  unneeded_set p r = by (removability_at vs.values p) refl
    where
      by : (v : Removability) → removability_at vs.values p ≡ v → unneeded p ≡ true
      by Unknown e = ap not_needed e
      by Removable e = ap not_needed e
      by Needed e = absurd (blocked_not p r (j.blocked p e))

  -- so what is found needed isn't removable
  pub needed_stays : (p : ℕ) → removability_at vs.values p ≡ Needed → IsRemovable held t.steps m c u p → ⊥
  needed_stays p e r = unneeded_Needed p e (r unneeded unneeded_set)
