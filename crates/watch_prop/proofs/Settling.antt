-- Clauses that wait, and those that come.
use Rattle.std.proofs.Common.{◌≡◌, ◌≢◌, ℕ, ◌<◌, ◌≤◌, ◌+◌, ◌⊎◌, List, [], ◌∷◌, ◌++◌, length, get_or, map, Option, Some, None, sym, refl, ap, subst, ◌∙◌, inl, inr, arith, All, true, Contains}
use Rattle.std.specs.List.{filter_map}
use Rattle.std.proofs.lemmas.List.{length-set, length-append, get_or_append_left}
use Rattle.sat_words.specs.Literal.{Literal}
use Rattle.sat_words.specs.Clause.{has}
use Rattle.sat_words.specs.declared.shared.Cref.{Cref}
use Rattle.ring_trail.specs.declared.step.TrailStep.{TrailStep}
use Rattle.ring_trail.specs.TrailData.{TrailData, HasGrown, IsTrail}
use Rattle.ring_trail.specs.Closed.{TrueWithin, IsClosed}
use Rattle.ring_trail.proofs.Causes.{IsClosed-more}
use Rattle.watch_prop.specs.declared.watch.Watch.{Watch}
use Rattle.watch_prop.specs.declared.watch.Watcher.{Watcher}
use Rattle.watch_prop.specs.declared.choice.Best.{Best}
use Rattle.watch_prop.specs.WatchData.{WatchData, Lits, clause_in as slot_clause, watchers_at, attached, clauses_of}
use Rattle.watch_prop.specs.Watched.{At, IsAttachable, IsPair, IsGuarded, IsSettled, IsBlocking, Watched}
use Rattle.watch_prop.specs.Propagation.{IsClosedBelow, IsConflict}
use Rattle.watch_prop.specs.Visiting.{ListsMore, Listed}
use Rattle.watch_prop.specs.Choice.{IsBest}
use Rattle.watch_prop.proofs.ListsLemmas.{cases_eq}
use Rattle.watch_prop.proofs.SlotsLemmas.{clauses-set, watch-same, watch-set, watch-push, watch_read}
use Rattle.watch_prop.proofs.Entries.{on_vars}
use Rattle.watch_prop.proofs.Growing.{Watched-grow, clause_in, clause_of}
use Rattle.watch_prop.proofs.Ranks.{best-guarded, best-false, among_has}

pub waiting : (v w : WatchData) (o : Option Watch) (s : Watch) → v ≡ w → w.settled < length w.slots → o ≡ get_or v.slots v.settled None → o ≡ Some s → At w.slots w.settled (Some s)
waiting v w o s e lt q is = subst (λ (x : WatchData). At x.slots x.settled (Some s)) e (watch_read v.slots v.settled o s (subst (λ (x : WatchData). x.settled < length x.slots) (sym e) lt) q is)

pub same_clauses : (w x : WatchData) (s : Watch) (k l : Literal) → At w.slots w.settled (Some s) → Listed w x s k l → attached x ≡ attached w
same_clauses w x s k l at r = ap (λ (ws : List (Option Watch)). filter_map slot_clause ws) r.slots ∙ clauses-set w.slots w.settled s record { clause = s.clause; first = k; second = l; binary = s.binary } at refl

-- a watcher of one clause's watch
blocks_one : (x : WatchData) (h : Lits) (y : Watch) (r : Watcher) (l : Literal) → r.slot < length x.slots → l.var ≤ x.vars → has (h y.clause.address) l ≡ true → r.blocker ≡ l → ((s : Watch) → At x.slots r.slot (Some s) → y ≡ s) → IsBlocking x h r
blocks_one x h y r l small on inside e is = record {
  slot = small;
  on = subst (λ (k : Literal). k.var ≤ x.vars) (sym e) on;
  inside = λ s at. subst (λ (k : Literal). has (h s.clause.address) k ≡ true) (sym e) (subst (λ (z : Watch). has (h z.clause.address) l ≡ true) (is s at) inside);
}

pub Watched-more : (w x : WatchData) (h : Lits) (t : TrailData) (y : Watch) (l : Literal) → Watched w h t → At w.slots w.settled (Some y) → has (h y.clause.address) l ≡ true → ListsMore w x l → Watched x h t
Watched-more w x h t y l k here inside m =
    let back : (i : ℕ) (s : Watch) → At x.slots i (Some s) → At w.slots i (Some s) = λ i s at. subst (λ (ws : List (Option Watch)). At ws i (Some s)) m.slots at in
    let slots_len : length x.slots ≡ length w.slots = ap (λ (ws : List (Option Watch)). length ws) m.slots in
    record {
      vars = k.vars ∙ sym m.vars;
      few = omega (arith, k.few, m.settled, ap (λ (ws : List (Option Watch)). length ws) m.slots);
      clauses = λ i s at. subst (λ (n : ℕ). IsAttachable n (h s.clause.address)) (sym m.vars) (k.clauses i s (back i s at));
      pairs = λ i s at. k.pairs i s (back i s at);
      settled = λ i s small at.
          let z = k.settled i s (omega (arith, m.settled)) (back i s at) in
          record { first_listed = m.kept s.first i z.first_listed; second_listed = m.kept s.second i z.second_listed; first_guarded = z.first_guarded; second_guarded = z.second_guarded };
      blocking = λ n r there. elim (m.only n r there) as (λ _. IsBlocking x h r) [
        | inl was ↦ (let b = k.blocking n r was in record { slot = omega (arith, b.slot, slots_len); on = subst (λ (p : ℕ). r.blocker.var ≤ p) (sym m.vars) b.on; inside = λ s at. b.inside s (back r.slot s at) })
        | inr q ↦ blocks_one x h y r l (let z = here.0 in omega (arith, z, q.0, slots_len)) (on_vars w.vars x.vars (h y.clause.address) l m.vars (k.clauses w.settled y here) inside) inside q.1
            (λ s at. watch-same w.slots w.settled y s here (subst (λ (n : ℕ). At w.slots n (Some s)) q.0 (back r.slot s at)))
      ];
      fresh = k.fresh;
    }

pub Watched-listed : (w x : WatchData) (h : Lits) (t u : TrailData) (s : Watch) (b : Best) → Watched w h t → IsTrail t → At w.slots w.settled (Some s) → IsBest t (h s.clause.address) (length (h s.clause.address)) b → t.level < b.high
    → HasGrown t u → u.done ≡ t.done → (b.low ≤ t.level → TrueWithin u.steps u.level b.first) → IsClosedBelow w h t → Listed w x s b.first b.second → Watched x h u
Watched-listed w x h t u s b k0 trail at best high g d made below r =
    let k = Watched-grow w h t u trail.done k0 g d in
    let c = h s.clause.address in
    let new : Watch = record { clause = s.clause; first = b.first; second = b.second; binary = s.binary } in
    let split : (i : ℕ) (y : Watch) → At x.slots i (Some y) → ((i ≡ w.settled) × (y ≡ new)) ⊎ ((i ≢ w.settled) × At w.slots i (Some y))
    = λ i y there. watch-set w.slots w.settled i new y (subst (λ (ws : List (Option Watch)). At ws i (Some y)) r.slots there) in
    let in_first = among_has c (length c) b.first best.first_in in
    let in_second = among_has c (length c) b.second best.second_in in
    let attachable = subst (λ (n : ℕ). IsAttachable n c) (sym r.vars) (k.clauses w.settled s at) in
    let on : (l : Literal) → has c l ≡ true → l.var ≤ x.vars = λ l inside. on_vars x.vars x.vars c l refl attachable inside in
    let slots_len : length x.slots ≡ length w.slots = ap (λ (ws : List (Option Watch)). length ws) r.slots ∙ length-set w.slots w.settled (Some new) in
    let new_at : (n : ℕ) (y : Watch) → n ≡ w.settled → At x.slots n (Some y) → new ≡ y
    = λ n y e there. elim (split n y there) as (λ _. new ≡ y) [ inl q ↦ sym q.1 | inr q ↦ absurd (q.0 e) ] in
    let old_blocking : (l : Literal) (y : Watcher) → Contains (watchers_at w.lists l) y → IsBlocking x h y
    = λ l y there.
    let z = k.blocking l y there in
    record {
      slot = omega (arith, z.slot, slots_len);
      on = subst (λ (n : ℕ). y.blocker.var ≤ n) (sym r.vars) z.on;
      inside = λ v a. elim (split y.slot v a) as (λ _. has (h v.clause.address) y.blocker ≡ true) [
        | inl q ↦ subst (λ (g : Watch). has (h g.clause.address) y.blocker ≡ true) (sym q.1) (z.inside s (subst (λ (n : ℕ). At w.slots n (Some s)) (sym q.0) at))
        | inr q ↦ z.inside v q.1
      ];
    } in
    let guards = best-guarded t u c b trail best g high made (λ n lt. below n lt c (clause_of w h w.settled s at)) in
    let settled_new : IsSettled x.lists u.steps u.done c w.settled new = record {
      first_listed = r.added_too.kept b.first w.settled r.added.there;
      second_listed = r.added_too.there;
      first_guarded = subst (λ (n : ℕ). IsGuarded u.steps n c b.first) (sym d) guards.0;
      second_guarded = subst (λ (n : ℕ). IsGuarded u.steps n c b.second) (sym d) guards.1;
    } in
    record {
      vars = k.vars ∙ sym r.vars;
      few = (let q = at.0 in omega (arith, r.settled, ap (λ (ws : List (Option Watch)). length ws) r.slots, length-set w.slots w.settled (Some new)));
      clauses = λ i y there. elim (split i y there) as (λ _. IsAttachable x.vars (h y.clause.address)) [
        | inl q ↦ subst (λ (e : Cref). IsAttachable x.vars (h e.address)) (ap (λ (z : Watch). z.clause) (sym q.1)) (subst (λ (n : ℕ). IsAttachable n c) (sym r.vars) (k.clauses w.settled s at))
        | inr q ↦ subst (λ (n : ℕ). IsAttachable n (h y.clause.address)) (sym r.vars) (k.clauses i y q.1)
      ];
      pairs = λ i y there. elim (split i y there) as (λ _. IsPair (h y.clause.address) y) [
        | inl q ↦ subst (λ (z : Watch). IsPair (h z.clause.address) z) (sym q.1) record { first = in_first; second = in_second; apart = best.apart; only = (k.pairs w.settled s at).only }
        | inr q ↦ k.pairs i y q.1
      ];
      settled = λ i y small there. elim (split i y there) as (λ _. IsSettled x.lists u.steps u.done (h y.clause.address) i y) [
        | inl q ↦ rw (q.0) (subst (λ (z : Watch). IsSettled x.lists u.steps u.done (h z.clause.address) w.settled z) (sym q.1) settled_new)
        | inr q ↦ (
            let z = k.settled i y (let n = q.0 in omega (arith, r.settled, n)) q.1 in
            record {
              first_listed = r.added_too.kept y.first i (r.added.kept y.first i z.first_listed);
              second_listed = r.added_too.kept y.second i (r.added.kept y.second i z.second_listed);
              first_guarded = z.first_guarded;
              second_guarded = z.second_guarded;
            })
      ];
      blocking = λ l y there. elim (r.added_too.only l y there) as (λ _. IsBlocking x h y) [
        | inr e ↦ blocks_one x h new y b.first (let g = at.0 in omega (arith, g, slots_len, ap (λ (z : Watcher). z.slot) e)) (on b.first in_first) in_first (ap (λ (z : Watcher). z.blocker) e) (λ v a. new_at y.slot v (ap (λ (z : Watcher). z.slot) e) a)
        | inl between ↦ elim (r.added.only l y between) as (λ _. IsBlocking x h y) [
          | inr e ↦ blocks_one x h new y b.second (let g = at.0 in omega (arith, g, slots_len, ap (λ (z : Watcher). z.slot) e)) (on b.second in_second) in_second (ap (λ (z : Watcher). z.blocker) e) (λ v a. new_at y.slot v (ap (λ (z : Watcher). z.slot) e) a)
          | inl was ↦ old_blocking l y was
        ]
      ];
      fresh = k.fresh;
    }

-- both of the best are false: so is the clause
pub best-conflict : (w : WatchData) (h : Lits) (t : TrailData) (s : Watch) (i : ℕ) (b : Best) → At w.slots i (Some s) → IsBest t (h s.clause.address) (length (h s.clause.address)) b → b.high ≤ t.level → IsConflict w h t s.clause
best-conflict w h t s i b at best le = record { member = clause_in w i s at; false_all = best-false t (h s.clause.address) b best le }

-- a level below the present one stays closed
pub closed-grow : (w x : WatchData) (h : Lits) (t u : TrailData) → attached x ≡ attached w → HasGrown t u → IsClosedBelow w h t → IsClosedBelow x h u
closed-grow w x h t u same g below k lt =
    let lt' : k < t.level = omega (arith, g.level) in
    let above : All (λ (y : TrailStep). k < y.level) g.more = λ i d h. (let z = g.at_level i d h in omega arith) in
    let grown : IsClosed (clauses_of w h) (t.steps ++ g.more) k = IsClosed-more (clauses_of w h) t.steps g.more k above (below k lt') in
    subst (λ (cs : List Cref). IsClosed (map (λ (c : Cref). h c.address) cs) u.steps k) (sym same)
    (subst (λ (xs : List TrailStep). IsClosed (clauses_of w h) xs k) (sym g.steps) grown)

-- a clause that waits comes to the end
pub Watched-push : (w : WatchData) (h : Lits) (t : TrailData) (s : Watch) → Watched w h t → IsAttachable w.vars (h s.clause.address) → IsPair (h s.clause.address) s → Watched record w { slots = w.slots ++ Some s ∷ [] } h t
Watched-push w h t s k ok pair =
    let n = length-append w.slots (Some s ∷ []) in
    record {
      vars = k.vars;
      few = omega (arith, k.few, n);
      clauses = λ i y at. elim (watch-push w.slots i s y at) as (λ _. IsAttachable w.vars (h y.clause.address)) [ inl q ↦ subst (λ (z : Watch). IsAttachable w.vars (h z.clause.address)) (sym q) ok | inr q ↦ k.clauses i y q ];
      pairs = λ i y at. elim (watch-push w.slots i s y at) as (λ _. IsPair (h y.clause.address) y) [ inl q ↦ subst (λ (z : Watch). IsPair (h z.clause.address) z) (sym q) pair | inr q ↦ k.pairs i y q ];
      settled = λ i y small at. k.settled i y small (omega (arith, k.few), sym (get_or_append_left w.slots (Some s ∷ []) (Some y) i (omega (arith, k.few))) ∙ at.1);
      blocking = λ l y there.
          let b = k.blocking l y there in
          record {
            slot = omega (arith, b.slot, n);
            on = b.on;
            inside = λ v a. b.inside v (b.slot, sym (get_or_append_left w.slots (Some s ∷ []) (Some v) y.slot b.slot) ∙ a.1);
          };
      fresh = k.fresh;
    }

-- a free slot that waits is passed
pub Watched-skip : (w : WatchData) (h : Lits) (t : TrailData) (n : ℕ) → Watched w h t → w.settled < length w.slots → n ≡ w.settled + 1 → ((s : Watch) → At w.slots w.settled (Some s) → ⊥) → Watched record w { settled = n } h t
Watched-skip w h t n k lt e none = record {
  vars = k.vars;
  few = omega arith;
  clauses = k.clauses;
  pairs = k.pairs;
  settled = λ i s small at. elim (cases_eq i w.settled) as (λ _. IsSettled w.lists t.steps t.done (h s.clause.address) i s) [
    | inl q ↦ absurd (none s (subst (λ (m : ℕ). At w.slots m (Some s)) q at))
    | inr ne ↦ k.settled i s (omega arith) at
  ];
  blocking = λ l x there. let b = k.blocking l x there in record { slot = b.slot; on = b.on; inside = b.inside };
  fresh = k.fresh;
}
