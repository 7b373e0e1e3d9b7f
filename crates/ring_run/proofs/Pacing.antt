-- What a ring counts for its restarts, after one lemma more.
use Rattle.std.proofs.Common.{◌≡◌, ◌∙◌, ℕ, ◌+◌, Bool, true, false, cond, ap, sym, refl}
use Rattle.restart_plan.specs.Plan.{Restarting, noted, asked, restarted, is_due}
use Rattle.restart_plan.proofs.Restarting.{exact-more}
use Rattle.ring_run.specs.Strategy.{IsPaced}

-- the question changes neither the count nor which ring it is
pub asked_count : (r : Restarting) → (asked r).count ≡ r.count
asked_count r = by (is_due r)
  where
    by : (b : Bool) → (cond b (restarted r) r).count ≡ r.count
    by true = refl
    by false = refl

pub asked_odd : (r : Restarting) → (asked r).odd ≡ r.odd
asked_odd r = by (is_due r)
  where
    by : (b : Bool) → (cond b (restarted r) r).odd ≡ r.odd
    by true = refl
    by false = refl

-- each lemma is followed by the question
pub paced_more : (r : Restarting) (n glue : ℕ) → IsPaced r n → IsPaced (asked (noted r glue)) (n + 1)
paced_more r n glue p = record {
  count = asked_count (noted r glue) ∙ ap (λ (k : ℕ). k + 1) p.count;
  exact = λ odd. exact-more r glue (p.exact (sym (asked_odd (noted r glue)) ∙ odd));
}
