-- What each verdict leaves to be visited.
use Rattle.std.proofs.Common.{◌≡◌, ◌≢◌, ℕ, ◌<◌, ◌≤◌, ◌+◌, ◌⊎◌, true, List, [], ◌∷◌, ◌++◌, length, get_or, take, Option, Some, sym, refl, ap, subst, ◌∙◌, inl, inr, arith, Contains}
use Rattle.std.proofs.lemmas.List.{length-set, length-append, get_or_push, take_all}
use Rattle.sat_words.specs.Literal.{Literal, opposite}
use Rattle.sat_words.specs.Clause.{has}
use Rattle.sat_words.specs.declared.shared.Cref.{Cref}
use Rattle.ring_trail.specs.declared.step.TrailStep.{TrailStep}
use Rattle.ring_trail.specs.TrailData.{TrailData, IsTrail, HasGrown, no_step, lit_at, level_at}
use Rattle.ring_trail.specs.Closed.{HasTrue}
use Rattle.watch_prop.specs.declared.watch.Watch.{Watch}
use Rattle.watch_prop.specs.declared.watch.Watcher.{Watcher}
use Rattle.watch_prop.specs.declared.watch.ListEntry.{ListEntry}
use Rattle.watch_prop.specs.WatchData.{WatchData, Lits, list_at}
use Rattle.watch_prop.specs.Watched.{At, Watched, IsGuarded, IsSettled, IsPair, IsAttachable, IsBlocking}
use Rattle.watch_prop.specs.Lists.{Removed, Reblocked}
use Rattle.watch_prop.specs.Visiting.{IsVisiting, IsStale, Replaced, CanMove, CanBlock, IsForcing, IsSatisfied}
use Rattle.watch_prop.proofs.ListsLemmas.{cases_eq, Listed-removed, take_split}
use Rattle.watch_prop.proofs.Growing.{opposite-eq, Watched-grow, HasTrue-grow, IsGuarded-open}
use Rattle.watch_prop.proofs.SlotsLemmas.{watch-same, watch-set}
use Rattle.watch_prop.proofs.Entries.{on_vars, entry_attachable, entry_two, entry_satisfied}

pub visiting-start : (w : WatchData) (h : Lits) (t : TrailData) (l : Literal) (n : ℕ) → n ≡ length (list_at w.lists l) → Watched w h t → IsVisiting w h t l n
visiting-start w h t l n e v = record {
  watched = v;
  left = λ i s small at side.
      let z = v.settled i s small at in
      let all : (m : Literal) → m ≡ l → Contains (list_at w.lists m) i → Contains (take n (list_at w.lists l)) i
      = λ m q c. rw (e, take_all (length (list_at w.lists l)) (list_at w.lists l) (omega arith)) (subst (λ (k : Literal). Contains (list_at w.lists k) i) q c) in
      inl (elim side as (λ _. Contains (take n (list_at w.lists l)) i) [ inl q ↦ all s.first q z.first_listed | inr q ↦ all s.second q z.second_listed ]);
}

pub visiting-stale : (w : WatchData) (h : Lits) (t : TrailData) (l : Literal) (place : ℕ) (lists : List (List Watcher)) (rooms : List ℕ) (size : ℕ) → place < length (list_at w.lists l) → IsVisiting w h t l (place + 1)
    → IsStale w (get_or (list_at w.lists l) place 0) l → Removed w.lists lists l place → IsVisiting record w { lists = lists; rooms = rooms; size = size } h t l place
visiting-stale w h t l place lists rooms size lt v stale r =
    let k = v.watched in
    let index = get_or (list_at w.lists l) place 0 in
    let listed : (i : ℕ) (s : Watch) (m : Literal) → At w.slots i (Some s) → ((m ≡ s.first) ⊎ (m ≡ s.second)) → Contains (list_at w.lists m) i → Contains (list_at lists m) i
    = λ i s m at side h. Listed-removed w.lists lists l place m i r h
    (λ e q. let x = stale s (subst (λ (n : ℕ). At w.slots n (Some s)) q at) in elim side as (λ _. ⊥) [ inl f ↦ x.0 (sym f ∙ e) | inr f ↦ x.1 (sym f ∙ e) ]) in
    record {
      watched = record {
        vars = k.vars;
        few = k.few;
        clauses = k.clauses;
        pairs = k.pairs;
        settled = λ i s small at.
            let z = k.settled i s small at in
            record {
              first_listed = listed i s s.first at (inl refl) z.first_listed;
              second_listed = listed i s s.second at (inr refl) z.second_listed;
              first_guarded = z.first_guarded;
              second_guarded = z.second_guarded;
            };
        blocking = λ n y there. let b = k.blocking n y (r.only n y there) in record { slot = b.slot; on = b.on; inside = b.inside };
        fresh = k.fresh;
      };
      left = λ i s small at side.
          elim (v.left i s small at side) as (λ _. Contains (take place (list_at lists l)) i ⊎ HasTrue t.steps t.level (h s.clause.address)) [
            | inl c ↦ elim (take_split (list_at w.lists l) place i lt c) as (λ _. Contains (take place (list_at lists l)) i ⊎ HasTrue t.steps t.level (h s.clause.address)) [
              | inl b ↦ inl (subst (λ (xs : List ℕ). Contains xs i) (sym r.before) b)
              | inr q ↦ absurd (
                  let x = stale s (subst (λ (n : ℕ). At w.slots n (Some s)) (sym q) at) in
                  elim side as (λ _. ⊥) [ inl f ↦ x.0 f | inr f ↦ x.1 f ])
            ]
            | inr s ↦ inr s
          ];
    }

pub visiting-settled : (w : WatchData) (h : Lits) (t : TrailData) (l : Literal) (place : ℕ) → place < length (list_at w.lists l) → IsVisiting w h t l (place + 1)
    → IsSatisfied w h t (get_or (list_at w.lists l) place 0) → IsVisiting w h t l place
visiting-settled w h t l place lt v one = record {
  watched = v.watched;
  left = λ i s small at side.
      elim (v.left i s small at side) as (λ _. Contains (take place (list_at w.lists l)) i ⊎ HasTrue t.steps t.level (h s.clause.address)) [
        | inl c ↦ elim (take_split (list_at w.lists l) place i lt c) as (λ _. Contains (take place (list_at w.lists l)) i ⊎ HasTrue t.steps t.level (h s.clause.address)) [
          | inl b ↦ inl b
          | inr q ↦ inr (one s (subst (λ (n : ℕ). At w.slots n (Some s)) (sym q) at))
        ]
        | inr s ↦ inr s
      ];
}

-- a literal of the clause that is true becomes the blocker
pub visiting-blocked : (w : WatchData) (h : Lits) (t : TrailData) (l b : Literal) (place : ℕ) (lists : List (List Watcher)) (rooms : List ℕ) (size : ℕ) → IsTrail t → place < length (list_at w.lists l) → IsVisiting w h t l (place + 1)
    → CanBlock w h t l (get_or (list_at w.lists l) place 0) b → Reblocked w.lists lists l place b → IsVisiting record w { lists = lists; rooms = rooms; size = size } h t l place
visiting-blocked w h t l b place lists rooms size trail lt v can r =
    let k = v.watched in
    let e = can.e in
    let i = get_or (list_at w.lists l) place 0 in
    let x : WatchData = record w { lists = lists; rooms = rooms; size = size } in
    let kept : (m : Literal) (j : ℕ) → Contains (list_at w.lists m) j → Contains (list_at lists m) j = λ m j c. subst (λ (xs : List ℕ). Contains xs j) (sym (r.same m)) c in
    let watched : Watched x h t = record {
      vars = k.vars;
      few = k.few;
      clauses = k.clauses;
      pairs = k.pairs;
      settled = λ j s small at.
          let z = k.settled j s small at in
          record {
            first_listed = kept s.first j z.first_listed;
            second_listed = kept s.second j z.second_listed;
            first_guarded = z.first_guarded;
            second_guarded = z.second_guarded;
          };
      blocking = λ n y there. elim (r.only n y there) as (λ _. IsBlocking x h y) [
        | inl was ↦ (let z = k.blocking n y was in record { slot = z.slot; on = z.on; inside = z.inside })
        | inr q ↦ record {
          slot = (let z = can.entry.there.0 in omega (arith, z, q.0));
          on = subst (λ (m : Literal). m.var ≤ w.vars) (sym q.1) (on_vars w.vars w.vars (h e.clause.address) b refl (entry_attachable w h t i l e k can.entry) can.inside);
          inside = λ s at.
              let same : can.entry.watch ≡ s = watch-same w.slots i can.entry.watch s can.entry.there (subst (λ (m : ℕ). At w.slots m (Some s)) q.0 at) in
              subst (λ (m : Literal). has (h s.clause.address) m ≡ true) (sym q.1)
              (subst (λ (d : Cref). has (h d.address) b ≡ true) (sym can.entry.clause ∙ ap (λ (z : Watch). z.clause) same) can.inside);
        }
      ];
      fresh = k.fresh;
    } in
    let satisfied : IsSatisfied w h t i = entry_satisfied w h t i l b e trail can.entry can.inside can.is_true in
    let old = visiting-settled w h t l place lt v satisfied in
    record {
      watched = watched;
      left = λ j s small at side. subst (λ (xs : List ℕ). Contains (take place xs) j ⊎ HasTrue t.steps t.level (h s.clause.address)) (sym (r.same l)) (old.left j s small at side);
    }

pub visiting-grow : (w : WatchData) (h : Lits) (t u : TrailData) (l : Literal) (place : ℕ) → t.done ≤ length t.steps → HasGrown t u → u.done ≡ t.done → IsVisiting w h t l place → IsVisiting w h u l place
visiting-grow w h t u l place le g d v = record {
  watched = Watched-grow w h t u le v.watched g d;
  left = λ i s small at side.
      elim (v.left i s small at side) as (λ _. Contains (take place (list_at w.lists l)) i ⊎ HasTrue u.steps u.level (h s.clause.address)) [
        | inl c ↦ inl c
        | inr s' ↦ inr (rw (g.steps, g.level) (HasTrue-grow t.steps g.more t.level (h s.clause.address) s'))
      ];
}

pub visiting-moved : (w x : WatchData) (h : Lits) (t : TrailData) (l m : Literal) (place : ℕ) (e : ListEntry) → t.done ≤ length t.steps → place < length (list_at w.lists l) → IsVisiting w h t l (place + 1)
    → CanMove w h t l (get_or (list_at w.lists l) place 0) e m → Replaced w x e l m place → IsVisiting x h t l place
visiting-moved w x h t l m place e le lt v can r =
    let k = v.watched in
    let index = get_or (list_at w.lists l) place 0 in
    let old = can.entry.watch in
    let old_at : At w.slots e.index (Some old) = subst (λ (n : ℕ). At w.slots n (Some old)) (sym can.entry.at_index) can.entry.there in
    let between : list_at r.between l ≡ list_at w.lists l = r.added.same l (λ q. can.is_open.not_l (sym q)) in
    let index_is : get_or (list_at r.between l) place 0 ≡ e.index = ap (λ (xs : List ℕ). get_or xs place 0) between ∙ sym can.entry.at_index in
    let pair = k.pairs e.index old old_at in
    let same_clause : h old.clause.address ≡ h e.clause.address = ap (λ (c : Cref). h c.address) can.entry.clause in
    let other_in : has (h e.clause.address) e.other ≡ true
    = subst (λ (c : List Literal). has c e.other ≡ true) same_clause (elim can.entry.sides as (λ _. has (h old.clause.address) e.other ≡ true) [ inl q ↦ subst (λ (y : Literal). has (h old.clause.address) y ≡ true) q.1 pair.second | inr q ↦ subst (λ (y : Literal). has (h old.clause.address) y ≡ true) q.1 pair.first ]) in
    let other_ne : e.other ≢ l
    = λ q. elim can.entry.sides as (λ _. ⊥) [ inl z ↦ pair.apart (z.0 ∙ sym q ∙ sym z.1) | inr z ↦ pair.apart (z.1 ∙ q ∙ sym z.0) ] in
    let kept : (i : ℕ) (n : Literal) → i ≢ e.index ⊎ n ≢ l → Contains (list_at w.lists n) i → Contains (list_at x.lists n) i
    = λ i n ne c. Listed-removed r.between x.lists l place n i r.removed (r.added.kept n i c)
    (λ q z. elim ne as (λ _. ⊥) [ inl a ↦ a (z ∙ index_is) | inr b ↦ b q ]) in
    let other_settled : e.index < w.settled → Contains (list_at w.lists e.other) e.index × IsGuarded t.steps t.done (h e.clause.address) e.other
    = λ small.
    let z = k.settled e.index old small old_at in
    subst (λ (c : List Literal). Contains (list_at w.lists e.other) e.index × IsGuarded t.steps t.done c e.other) same_clause
    (elim can.entry.sides as (λ _. Contains (list_at w.lists e.other) e.index × IsGuarded t.steps t.done (h old.clause.address) e.other) [
      | inl q ↦ subst (λ (y : Literal). Contains (list_at w.lists y) e.index × IsGuarded t.steps t.done (h old.clause.address) y) q.1 (z.second_listed, z.second_guarded)
      | inr q ↦ subst (λ (y : Literal). Contains (list_at w.lists y) e.index × IsGuarded t.steps t.done (h old.clause.address) y) q.1 (z.first_listed, z.first_guarded)
    ]) in
    let new : Watch = record { clause = e.clause; first = e.other; second = m; binary = e.binary } in
    let split : (i : ℕ) (s : Watch) → At x.slots i (Some s) → ((i ≡ e.index) × (s ≡ new)) ⊎ ((i ≢ e.index) × At w.slots i (Some s))
    = λ i s at. watch-set w.slots e.index i new s (subst (λ (ws : List (Option Watch)). At ws i (Some s)) r.slots at) in
    let slots_len : length x.slots ≡ length w.slots = ap (λ (ws : List (Option Watch)). length ws) r.slots ∙ length-set w.slots e.index (Some new) in
    let new_settled : e.index < w.settled → IsSettled x.lists t.steps t.done (h e.clause.address) e.index new
    = λ small.
    let z = other_settled small in
    record {
      first_listed = kept e.index e.other (inr other_ne) z.0;
      second_listed = Listed-removed r.between x.lists l place m e.index r.removed r.added.there (λ q _. can.is_open.not_l q);
      first_guarded = z.1;
      second_guarded = IsGuarded-open t.steps t.done (h e.clause.address) m le can.is_open.not_false;
    } in
    record {
      watched = record {
        vars = k.vars ∙ sym r.vars;
        few = omega (arith, r.settled, k.few, ap (λ (ws : List (Option Watch)). length ws) r.slots, length-set w.slots e.index (Some new));
        clauses = λ i s at. elim (split i s at) as (λ _. IsAttachable x.vars (h s.clause.address)) [
          | inl q ↦ subst (λ (c : Cref). IsAttachable x.vars (h c.address)) (can.entry.clause ∙ ap (λ (y : Watch). y.clause) (sym q.1)) (subst (λ (n : ℕ). IsAttachable n (h old.clause.address)) (sym r.vars) (k.clauses e.index old old_at))
          | inr q ↦ subst (λ (n : ℕ). IsAttachable n (h s.clause.address)) (sym r.vars) (k.clauses i s q.1)
        ];
        pairs = λ i s at. elim (split i s at) as (λ _. IsPair (h s.clause.address) s) [
          | inl q ↦ subst (λ (y : Watch). IsPair (h y.clause.address) y) (sym q.1) record { first = other_in; second = can.is_open.inside; apart = λ z. can.is_open.not_other (sym z); only = (entry_two w h t index l e k can.entry).only }
          | inr q ↦ k.pairs i s q.1
        ];
        settled = λ i s small at. elim (split i s at) as (λ _. IsSettled x.lists t.steps t.done (h s.clause.address) i s) [
          | inl q ↦ rw (q.0) (subst (λ (y : Watch). IsSettled x.lists t.steps t.done (h y.clause.address) e.index y) (sym q.1) (new_settled (omega (arith, r.settled, q.0))))
          | inr q ↦ (
              let z = k.settled i s (omega (arith, r.settled)) q.1 in
              record {
                first_listed = kept i s.first (inl q.0) z.first_listed;
                second_listed = kept i s.second (inl q.0) z.second_listed;
                first_guarded = z.first_guarded;
                second_guarded = z.second_guarded;
              })
        ];
        blocking = λ n y there. elim (r.added.only n y (r.removed.only n y there)) as (λ _. IsBlocking x h y) [
          | inl was ↦ (
              let b = k.blocking n y was in
              record {
                slot = omega (arith, b.slot, slots_len);
                on = subst (λ (p : ℕ). y.blocker.var ≤ p) (sym r.vars) b.on;
                inside = λ s at. elim (split y.slot s at) as (λ _. has (h s.clause.address) y.blocker ≡ true) [
                  | inl q ↦ subst (λ (c : Cref). has (h c.address) y.blocker ≡ true) (can.entry.clause ∙ ap (λ (z : Watch). z.clause) (sym q.1)) (b.inside old (subst (λ (p : ℕ). At w.slots p (Some old)) (sym q.0) old_at))
                  | inr q ↦ b.inside s q.1
                ];
              })
          | inr z ↦ record {
            slot = (let a = old_at.0 in omega (arith, a, slots_len, ap (λ (u : Watcher). u.slot) z));
            on = subst (λ (u : Literal). u.var ≤ x.vars) (sym (ap (λ (u : Watcher). u.blocker) z)) (on_vars w.vars x.vars (h e.clause.address) e.other r.vars (entry_attachable w h t index l e k can.entry) other_in);
            inside = λ s at. subst (λ (u : Literal). has (h s.clause.address) u ≡ true) (sym (ap (λ (u : Watcher). u.blocker) z)) (elim (split y.slot s at) as (λ _. has (h s.clause.address) e.other ≡ true) [
              | inl q ↦ subst (λ (u : Watch). has (h u.clause.address) e.other ≡ true) (sym q.1) other_in
              | inr q ↦ absurd (q.0 (ap (λ (u : Watcher). u.slot) z))
            ]);
          }
        ];
        fresh = k.fresh;
      };
      left = λ i s small at side. elim (split i s at) as (λ _. Contains (take place (list_at x.lists l)) i ⊎ HasTrue t.steps t.level (h s.clause.address)) [
        | inl q ↦ absurd (elim side as (λ _. ⊥) [ inl f ↦ other_ne (ap (λ (y : Watch). y.first) (sym q.1) ∙ f) | inr f ↦ can.is_open.not_l (ap (λ (y : Watch). y.second) (sym q.1) ∙ f) ])
        | inr q ↦ elim (v.left i s (omega (arith, r.settled)) q.1 side) as (λ _. Contains (take place (list_at x.lists l)) i ⊎ HasTrue t.steps t.level (h s.clause.address)) [
          | inl c ↦ elim (take_split (list_at w.lists l) place i lt c) as (λ _. Contains (take place (list_at x.lists l)) i ⊎ HasTrue t.steps t.level (h s.clause.address)) [
            | inl b ↦ inl (subst (λ (xs : List ℕ). Contains xs i) (sym (r.removed.before ∙ ap (λ (xs : List ℕ). take place xs) between)) b)
            | inr z ↦ absurd (q.0 (sym z ∙ sym can.entry.at_index))
          ]
          | inr s' ↦ inr s'
        ]
      ];
    }

pub visiting-forced : (w : WatchData) (h : Lits) (t u : TrailData) (l k : Literal) (place : ℕ) (c : Cref) (s : TrailStep) → t.done ≤ length t.steps → place < length (list_at w.lists l) → IsVisiting w h t l (place + 1)
    → IsForcing w h t (get_or (list_at w.lists l) place 0) k c → s.lit ≡ k → s.level ≡ t.level → u.steps ≡ t.steps ++ s ∷ [] → HasGrown t u → u.done ≡ t.done → IsVisiting w h u l place
visiting-forced w h t u l k place c s le lt v f made lev steps g d =
    let here = get_or_push t.steps s no_step (length t.steps) refl in
    let satisfied : IsSatisfied w h u (get_or (list_at w.lists l) place 0)
    = λ y at.
    let same : f.at.watch ≡ y = watch-same w.slots (get_or (list_at w.lists l) place 0) f.at.watch y f.at.there at in
    rw steps record {
      lit = k;
      has_lit = subst (λ (x : Cref). has (h x.address) k ≡ true) (sym f.at.clause ∙ ap (λ (z : Watch). z.clause) same) f.forces.has_lit;
      within = record {
        place = length t.steps;
        in_range = omega (arith, length-append t.steps (s ∷ []));
        true_there = ap (λ (x : TrailStep). x.lit) here ∙ made;
        level = omega (arith, ap (λ (x : TrailStep). x.level) here, g.level, lev);
      };
    } in
    visiting-settled w h u l place lt (visiting-grow w h t u l (place + 1) le g d v) satisfied

-- the step at `done` is passed, once no watch of the literal that it makes false is left
pub Watched-advance_head : (w : WatchData) (h : Lits) (t : TrailData) (l : Literal) → t.done < length t.steps → lit_at t.steps t.done ≡ opposite l → IsVisiting w h t l 0 → Watched w h record t { done = t.done + 1 }
Watched-advance_head w h t l open_yet made v =
    let k = v.watched in
    let level : level_at t.steps t.done ≡ t.level = k.fresh t.done (omega arith) open_yet in
    let guard : (i : ℕ) (s : Watch) (m : Literal) → i < w.settled → At w.slots i (Some s) → ((s.first ≡ m) ⊎ (s.second ≡ m)) → IsGuarded t.steps t.done (h s.clause.address) m → IsGuarded t.steps (t.done + 1) (h s.clause.address) m
    = λ i s m small there side old p lt q.
    elim (cases_eq p t.done) as (λ _. HasTrue t.steps (level_at t.steps p) (h s.clause.address)) [
      | inr ne ↦ old p (omega arith) q
      | inl e ↦ (
          let lit : m ≡ l = opposite-eq m l (sym q ∙ ap (λ (n : ℕ). lit_at t.steps n) e ∙ made) in
          let side' : (s.first ≡ l) ⊎ (s.second ≡ l) = elim side as (λ _. (s.first ≡ l) ⊎ (s.second ≡ l)) [ inl f ↦ inl (f ∙ lit) | inr f ↦ inr (f ∙ lit) ] in
          elim (v.left i s small there side') as (λ _. HasTrue t.steps (level_at t.steps p) (h s.clause.address)) [
            | inl none ↦ absurd (omega (arith, none.1))
            | inr sat ↦ subst (λ (n : ℕ). HasTrue t.steps n (h s.clause.address)) (sym level ∙ ap (λ (n : ℕ). level_at t.steps n) (sym e)) sat
          ])
    ] in
    record {
      vars = k.vars;
      few = k.few;
      clauses = k.clauses;
      pairs = k.pairs;
      settled = λ i s small there.
          let z = k.settled i s small there in
          record {
            first_listed = z.first_listed;
            second_listed = z.second_listed;
            first_guarded = guard i s s.first small there (inl refl) z.first_guarded;
            second_guarded = guard i s s.second small there (inr refl) z.second_guarded;
          };
      blocking = k.blocking;
      fresh = λ p ge lt. k.fresh p (omega arith) lt;
    }
