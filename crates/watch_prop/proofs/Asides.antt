-- Watches with a clause set aside.
use Rattle.std.proofs.Common.{◌≡◌, ◌≢◌, ◌∙◌, ℕ, zero, suc, ◌<◌, ◌≤◌, ◌==◌, ◌⊎◌, Bool, true, false, not, cond, List, [], ◌∷◌, length, map, Option, Some, None, sym, refl, ap, subst, inl, inr, arith, Contains, get_or}
use Rattle.std.specs.List.{filter_map}
use Rattle.std.proofs.Math.ListN.{set}
use Rattle.std.proofs.lemmas.Bool.{true≢false, eqb-true}
use Rattle.std.proofs.lemmas.List.{length-map}
use Rattle.sat_words.specs.Literal.{Literal}
use Rattle.sat_words.specs.Clause.{has}
use Rattle.sat_words.specs.declared.shared.Cref.{Cref}
use Rattle.ring_trail.specs.TrailData.{TrailData}
use Rattle.watch_prop.specs.declared.watch.Watch.{Watch}
use Rattle.watch_prop.specs.declared.watch.Watcher.{Watcher}
use Rattle.watch_prop.specs.declared.watch.ListEntry.{ListEntry}
use Rattle.watch_prop.specs.WatchData.{WatchData, Lits, clause_in as slot_clause, attached, without, watchers_at, list_at}
use Rattle.watch_prop.specs.Watched.{At, Watched, IsSettled, IsBlocking}
use Rattle.watch_prop.specs.Detaching.{Thinned}
use Rattle.watch_prop.specs.Lists.{Removed}
use Rattle.watch_prop.specs.Visiting.{IsEntry, IsStale, IsSatisfied}
use Rattle.watch_prop.specs.Aside.{unless_at, if_at, is_at, other_slots, but, only, PassesOver}
use Rattle.watch_prop.proofs.ListsLemmas.{cases_eq, Listed-removed}
use Rattle.watch_prop.proofs.SlotsLemmas.{unsome, At-same, same_number, other_number}
use Rattle.watch_prop.proofs.Detaching.{Watched-thinned}

-- Slots

unless_there : (a : ℕ) (s : Watch) → s.clause.address ≡ a → unless_at a (Some s) ≡ None
unless_there a s e = ap (λ (b : Bool). cond b None (Some s)) (ap (λ (n : ℕ). s.clause.address == n) (sym e) ∙ same_number s.clause.address)

unless_other : (a : ℕ) (s : Watch) → s.clause.address ≢ a → unless_at a (Some s) ≡ Some s
unless_other a s ne = ap (λ (b : Bool). cond b None (Some s)) (other_number s.clause.address a ne)

if_there : (a : ℕ) (s : Watch) → s.clause.address ≡ a → if_at a (Some s) ≡ Some s
if_there a s e = ap (λ (b : Bool). cond b (Some s) None) (ap (λ (n : ℕ). s.clause.address == n) (sym e) ∙ same_number s.clause.address)

if_other : (a : ℕ) (s : Watch) → s.clause.address ≢ a → if_at a (Some s) ≡ None
if_other a s ne = ap (λ (b : Bool). cond b (Some s) None) (other_number s.clause.address a ne)

none_some : (s : Watch) → None ≡ Some s → ⊥
none_some s e = cc

-- a watch that is not left out is one of the slot, of another clause
unless_is : (a : ℕ) (o : Option Watch) (s : Watch) → unless_at a o ≡ Some s → (o ≡ Some s) × (s.clause.address ≢ a)
unless_is a None s e = absurd (none_some s e)
unless_is a (Some x) s e = elim (cases_eq x.clause.address a) as (λ _. (Some x ≡ Some s) × (s.clause.address ≢ a)) [
  | inl q ↦ absurd (none_some s (sym (unless_there a x q) ∙ e))
  | inr ne ↦ (
      let is : Some x ≡ Some s = sym (unless_other a x ne) ∙ e in
      (is, subst (λ (y : Watch). y.clause.address ≢ a) (unsome x s is) ne))
]

if_is : (a : ℕ) (o : Option Watch) (s : Watch) → if_at a o ≡ Some s → (o ≡ Some s) × (s.clause.address ≡ a)
if_is a None s e = absurd (none_some s e)
if_is a (Some x) s e = elim (cases_eq x.clause.address a) as (λ _. (Some x ≡ Some s) × (s.clause.address ≡ a)) [
  | inr ne ↦ absurd (none_some s (sym (if_other a x ne) ∙ e))
  | inl q ↦ (
      let is : Some x ≡ Some s = sym (if_there a x q) ∙ e in
      (is, subst (λ (y : Watch). y.clause.address ≡ a) (unsome x s is) q))
]

-- what stands in the slots after such a test
map_at : (f : Option Watch → Option Watch) (ws : List (Option Watch)) (i : ℕ) (o d : Option Watch) → i < length ws → get_or (map f ws) i o ≡ f (get_or ws i d)
map_at f [] i o d lt = absurd (omega arith)
map_at f (x ∷ ws) zero o d lt = refl
map_at f (x ∷ ws) (suc i) o d lt = map_at f ws i o d (omega arith)

At-map : (f : Option Watch → Option Watch) (ws : List (Option Watch)) (i : ℕ) (o d : Option Watch) → At ws i o → f o ≡ d → At (map f ws) i d
At-map f ws i o d at e = ((let z = at.0 in omega (arith, length-map ws f)), map_at f ws i d o at.0 ∙ ap f at.1 ∙ e)

map-At : (f : Option Watch → Option Watch) (ws : List (Option Watch)) (i : ℕ) (d : Option Watch) → At (map f ws) i d → (o : Option Watch) × At ws i o × (f o ≡ d)
map-At f ws i d at =
    let lt : i < length ws = (let z = at.0 in omega (arith, length-map ws f)) in
    let o = get_or ws i None in
    (o, (lt, same ws i lt), sym (map_at f ws i d None lt) ∙ at.1)
  where
    same : (xs : List (Option Watch)) (j : ℕ) → j < length xs → get_or xs j (get_or xs j None) ≡ get_or xs j None
    same [] j lt = absurd (omega arith)
    same (x ∷ xs) zero lt = refl
    same (x ∷ xs) (suc j) lt = same xs j (omega arith)

pub others-len : (o : Option Cref) (ws : List (Option Watch)) → length (other_slots o ws) ≡ length ws
others-len None ws = refl
others-len (Some c) ws = length-map ws (unless_at c.address)

-- the watch is of another clause than the one set aside
abbrev pub IsOther : Option Cref → Watch → Type 0
IsOther o s = (c : Cref) → o ≡ Some c → s.clause.address ≢ c.address

some_cref : (c d : Cref) → Some c ≡ Some d → c ≡ d
some_cref c d e = cc

pub other-at : (o : Option Cref) (ws : List (Option Watch)) (i : ℕ) (s : Watch) → At (other_slots o ws) i (Some s) → At ws i (Some s) × IsOther o s
other-at None ws i s at = (at, λ c e. absurd (let z : None ≡ Some c = e in cc))
other-at (Some c) ws i s at =
    let m = map-At (unless_at c.address) ws i (Some s) at in
    let u = unless_is c.address m.0 s m.2 in
    (subst (λ (x : Option Watch). At ws i x) u.0 m.1, λ d e q. u.1 (q ∙ ap (λ (x : Cref). x.address) (sym (some_cref c d e))))

pub at-other : (o : Option Cref) (ws : List (Option Watch)) (i : ℕ) (s : Watch) → At ws i (Some s) → IsOther o s → At (other_slots o ws) i (Some s)
at-other None ws i s at apart = at
at-other (Some c) ws i s at apart = At-map (unless_at c.address) ws i (Some s) (Some s) at (unless_other c.address s (apart c refl))

pub only-at : (c : Cref) (ws : List (Option Watch)) (i : ℕ) (s : Watch) → At (map (if_at c.address) ws) i (Some s) → At ws i (Some s) × (s.clause.address ≡ c.address)
only-at c ws i s at =
    let m = map-At (if_at c.address) ws i (Some s) at in
    let u = if_is c.address m.0 s m.2 in
    (subst (λ (x : Option Watch). At ws i x) u.0 m.1, u.1)

at-only : (c : Cref) (ws : List (Option Watch)) (i : ℕ) (s : Watch) → At ws i (Some s) → s.clause.address ≡ c.address → At (map (if_at c.address) ws) i (Some s)
at-only c ws i s at e = At-map (if_at c.address) ws i (Some s) (Some s) at (if_there c.address s e)

map-set : (f : Option Watch → Option Watch) (ws : List (Option Watch)) (i : ℕ) (x : Option Watch) → map f (set ws i x) ≡ set (map f ws) i (f x)
map-set f [] i x = refl
map-set f (y ∷ ws) zero x = refl
map-set f (y ∷ ws) (suc i) x = ap (λ (zs : List (Option Watch)). f y ∷ zs) (map-set f ws i x)

pub others-set : (o : Option Cref) (ws : List (Option Watch)) (i : ℕ) (s : Watch) → IsOther o s → other_slots o (set ws i (Some s)) ≡ set (other_slots o ws) i (Some s)
others-set None ws i s apart = refl
others-set (Some c) ws i s apart = map-set (unless_at c.address) ws i (Some s) ∙ ap (λ (x : Option Watch). set (map (unless_at c.address) ws) i x) (unless_other c.address s (apart c refl))

-- a watch of another clause may be exchanged for one of another clause
pub only-set : (c : Cref) (ws : List (Option Watch)) (i : ℕ) (s new : Watch) → At ws i (Some s) → s.clause.address ≢ c.address → new.clause.address ≢ c.address → map (if_at c.address) (set ws i (Some new)) ≡ map (if_at c.address) ws
only-set c [] i s new at ne ne' = refl
only-set c (y ∷ ws) zero s new at ne ne' =
    ap (λ (x : Option Watch). x ∷ map (if_at c.address) ws) (if_other c.address new ne' ∙ sym (if_other c.address s ne) ∙ ap (if_at c.address) (sym at.1))
only-set c (y ∷ ws) (suc i) s new at ne ne' = ap (λ (zs : List (Option Watch)). if_at c.address y ∷ zs) (only-set c ws i s new (let q = at.0 in omega arith, at.1) ne ne')

-- Clauses

others-clauses : (a : ℕ) (ws : List (Option Watch)) → filter_map slot_clause (map (unless_at a) ws) ≡ without (filter_map slot_clause ws) a
others-clauses a [] = refl
others-clauses a (None ∷ ws) = others-clauses a ws
others-clauses a (Some x ∷ ws) = by (x.clause.address == a) (others-clauses a ws)
  where
    by : (b : Bool) → filter_map slot_clause (map (unless_at a) ws) ≡ without (filter_map slot_clause ws) a
        → filter_map slot_clause (cond b None (Some x) ∷ map (unless_at a) ws) ≡ cond (not b) (x.clause ∷ without (filter_map slot_clause ws) a) (without (filter_map slot_clause ws) a)
    by true rest = rest
    by false rest = ap (λ (cs : List Cref). x.clause ∷ cs) rest

pub but-clauses : (w : WatchData) (c : Cref) → attached (but (Some c) w) ≡ without (attached w) c.address
but-clauses w c = others-clauses c.address w.slots

pub but-same : (v w : WatchData) (c : Cref) → attached w ≡ attached v → attached (but (Some c) w) ≡ attached (but (Some c) v)
but-same v w c e = but-clauses w c ∙ ap (λ (cs : List Cref). without cs c.address) e ∙ sym (but-clauses v c)

-- Both parts, and the whole

pub but-thinned : (o : Option Cref) (w : WatchData) → Thinned w (but o w)
but-thinned o w = record { vars = refl; settled = refl; len = others-len o w.slots; only = λ i s at. (other-at o w.slots i s at).0; lists = refl }

pub only-thinned : (c : Cref) (w : WatchData) → Thinned w (only c w)
only-thinned c w = record { vars = refl; settled = refl; len = length-map w.slots (if_at c.address); only = λ i s at. (only-at c w.slots i s at).0; lists = refl }

pub parts : (w : WatchData) (h : Lits) (t : TrailData) (c : Cref) → Watched w h t → Watched (but (Some c) w) h t × Watched (only c w) h t
parts w h t c k = (Watched-thinned w (but (Some c) w) h t (but-thinned (Some c) w) k, Watched-thinned w (only c w) h t (only-thinned c w) k)

pub whole : (w : WatchData) (h : Lits) (t : TrailData) (c : Cref) → Watched (but (Some c) w) h t → Watched (only c w) h t → Watched w h t
whole w h t c b o =
    let which : (i : ℕ) (s : Watch) → At w.slots i (Some s) → At (other_slots (Some c) w.slots) i (Some s) ⊎ At (map (if_at c.address) w.slots) i (Some s)
    = λ i s at. elim (cases_eq s.clause.address c.address) as (λ _. At (other_slots (Some c) w.slots) i (Some s) ⊎ At (map (if_at c.address) w.slots) i (Some s)) [
      | inl e ↦ inr (at-only c w.slots i s at e)
      | inr ne ↦ inl (at-other (Some c) w.slots i s at (λ d e q. ne (q ∙ ap (λ (x : Cref). x.address) (sym (some_cref c d e)))))
    ] in
    let n = others-len (Some c) w.slots in
    record {
      vars = b.vars;
      few = omega (arith, b.few, n);
      clauses = λ i s at. elim (which i s at) as (λ _. Rattle.watch_prop.specs.Watched.IsAttachable w.vars (h s.clause.address)) [ inl x ↦ b.clauses i s x | inr x ↦ o.clauses i s x ];
      pairs = λ i s at. elim (which i s at) as (λ _. Rattle.watch_prop.specs.Watched.IsPair (h s.clause.address) s) [ inl x ↦ b.pairs i s x | inr x ↦ o.pairs i s x ];
      settled = λ i s small at. elim (which i s at) as (λ _. IsSettled w.lists t.steps t.done (h s.clause.address) i s) [ inl x ↦ b.settled i s small x | inr x ↦ o.settled i s small x ];
      blocking = λ l y there.
          let p = b.blocking l y there in
          let q = o.blocking l y there in
          record {
            slot = omega (arith, p.slot, n);
            on = p.on;
            inside = λ s at. elim (which y.slot s at) as (λ _. has (h s.clause.address) y.blocker ≡ true) [ inl x ↦ p.inside s x | inr x ↦ q.inside s x ];
          };
      fresh = b.fresh;
    }

-- Entries

pub is_at-there : (o : Option Cref) (a : ℕ) → is_at o a ≡ true → (c : Cref) × (o ≡ Some c) × (a ≡ c.address)
is_at-there None a e = absurd (true≢false (sym e))
is_at-there (Some c) a e = (c, refl, eqb-true a c.address e)

pub is_at-other : (o : Option Cref) (s : Watch) → is_at o s.clause.address ≡ false → IsOther o s
is_at-other None s e c q = absurd (let z : None ≡ Some c = q in cc)
is_at-other (Some d) s e c q = λ h.
    let here : s.clause.address ≡ d.address = h ∙ ap (λ (x : Cref). x.address) (sym (some_cref d c q)) in
    true≢false (sym (ap (λ (n : ℕ). s.clause.address == n) (sym here) ∙ same_number s.clause.address) ∙ e)

pub entry-whole : (o : Option Cref) (w : WatchData) (i : ℕ) (l : Literal) (e : ListEntry) → IsEntry (but o w) i l e → IsEntry w i l e
entry-whole o w i l e n = record { at_index = n.at_index; watch = n.watch; there = (other-at o w.slots i n.watch n.there).0; clause = n.clause; binary = n.binary; sides = n.sides }

pub entry-other : (o : Option Cref) (w : WatchData) (i : ℕ) (l : Literal) (e : ListEntry) → is_at o e.clause.address ≡ false → IsEntry w i l e → IsEntry (but o w) i l e
entry-other o w i l e far n = record {
  at_index = n.at_index;
  watch = n.watch;
  there = at-other o w.slots i n.watch n.there (is_at-other o n.watch (ap (λ (d : Cref). is_at o d.address) n.clause ∙ far));
  clause = n.clause;
  binary = n.binary;
  sides = n.sides;
}

-- an entry of the clause set aside asks for nothing
pub entry-aside : (o : Option Cref) (w : WatchData) (h : Lits) (t : TrailData) (i : ℕ) (l : Literal) (e : ListEntry) → is_at o e.clause.address ≡ true → IsEntry w i l e → IsSatisfied (but o w) h t i
entry-aside o w h t i l e here n s at =
    absurd (
    let q = other-at o w.slots i s at in
    let c = is_at-there o e.clause.address here in
    let same : n.watch ≡ s = unsome n.watch s (At-same w.slots i (Some n.watch) (Some s) n.there q.0) in
    q.1 c.0 c.1 (ap (λ (x : Watch). x.clause.address) (sym same) ∙ ap (λ (d : Cref). d.address) n.clause ∙ c.2))

pub stale-other : (o : Option Cref) (w : WatchData) (i : ℕ) (l : Literal) → IsStale w i l → IsStale (but o w) i l
stale-other o w i l stale s at = stale s (other-at o w.slots i s at).0

-- Changes of lists that pass over the clause set aside

pub passes-refl : (o : Option Cref) (h : Lits) (v w : WatchData) → v ≡ w → PassesOver o h w v
passes-refl o h v w e = record { clauses = ap attached e; watched = λ c t q k. subst (λ (x : WatchData). Watched (only c x) h t) (sym e) k }

pub passes-trans : (o : Option Cref) (g h : Lits) (u v w : WatchData) → g ≡ h → PassesOver o h u v → PassesOver o g v w → PassesOver o h u w
passes-trans o g h u v w e p q = record {
  clauses = q.clauses ∙ p.clauses;
  watched = λ c t is k. subst (λ (x : Lits). Watched (only c w) x t) e (q.watched c t is (subst (λ (x : Lits). Watched (only c v) x t) (sym e) (p.watched c t is k)));
}

-- an entry that is stale drops out
pub Watched-dropped : (w : WatchData) (h : Lits) (t : TrailData) (l : Literal) (place : ℕ) (lists : List (List Watcher)) (rooms : List ℕ) (size : ℕ)
    → IsStale w (get_or (list_at w.lists l) place 0) l → Removed w.lists lists l place → Watched w h t → Watched record w { lists = lists; rooms = rooms; size = size } h t
Watched-dropped w h t l place lists rooms size stale r k =
    let listed : (i : ℕ) (s : Watch) (m : Literal) → At w.slots i (Some s) → ((m ≡ s.first) ⊎ (m ≡ s.second)) → Contains (list_at w.lists m) i → Contains (list_at lists m) i
    = λ i s m at side h. Listed-removed w.lists lists l place m i r h
    (λ e q. let x = stale s (subst (λ (n : ℕ). At w.slots n (Some s)) q at) in elim side as (λ _. ⊥) [ inl f ↦ x.0 (sym f ∙ e) | inr f ↦ x.1 (sym f ∙ e) ]) in
    record {
      vars = k.vars;
      few = k.few;
      clauses = k.clauses;
      pairs = k.pairs;
      settled = λ i s small at.
          let z = k.settled i s small at in
          record {
            first_listed = listed i s s.first at (inl refl) z.first_listed;
            second_listed = listed i s s.second at (inr refl) z.second_listed;
            first_guarded = z.first_guarded;
            second_guarded = z.second_guarded;
          };
      blocking = λ n y there. let b = k.blocking n y (r.only n y there) in record { slot = b.slot; on = b.on; inside = b.inside };
      fresh = k.fresh;
    }

-- entries of a slot without a watch come and go
pub Watched-besides : (w v : WatchData) (h : Lits) (t : TrailData) (i : ℕ) → v.vars ≡ w.vars → v.slots ≡ w.slots → v.settled ≡ w.settled → i < length w.slots → ((s : Watch) → At w.slots i (Some s) → ⊥)
    → ((m : Literal) (j : ℕ) → j ≢ i → Contains (list_at w.lists m) j → Contains (list_at v.lists m) j)
    → ((m : Literal) (y : Watcher) → Contains (watchers_at v.lists m) y → Contains (watchers_at w.lists m) y ⊎ ((y.slot ≡ i) × (y.blocker.var ≤ w.vars)))
    → Watched w h t → Watched v h t
Watched-besides w v h t i vars slots settled lt none kept new k =
    let back : (j : ℕ) (s : Watch) → At v.slots j (Some s) → At w.slots j (Some s) = λ j s at. subst (λ (ws : List (Option Watch)). At ws j (Some s)) slots at in
    let n : length v.slots ≡ length w.slots = ap (λ (ws : List (Option Watch)). length ws) slots in
    let apart : (j : ℕ) (s : Watch) → At w.slots j (Some s) → j ≢ i = λ j s at q. none s (subst (λ (m : ℕ). At w.slots m (Some s)) q at) in
    record {
      vars = k.vars ∙ sym vars;
      few = omega (arith, k.few, settled, n);
      clauses = λ j s at. subst (λ (m : ℕ). Rattle.watch_prop.specs.Watched.IsAttachable m (h s.clause.address)) (sym vars) (k.clauses j s (back j s at));
      pairs = λ j s at. k.pairs j s (back j s at);
      settled = λ j s small at.
          let z = k.settled j s (omega (arith, settled)) (back j s at) in
          record {
            first_listed = kept s.first j (apart j s (back j s at)) z.first_listed;
            second_listed = kept s.second j (apart j s (back j s at)) z.second_listed;
            first_guarded = z.first_guarded;
            second_guarded = z.second_guarded;
          };
      blocking = λ m y there. elim (new m y there) as (λ _. IsBlocking v h y) [
        | inl was ↦ (let b = k.blocking m y was in record { slot = omega (arith, b.slot, n); on = subst (λ (p : ℕ). y.blocker.var ≤ p) (sym vars) b.on; inside = λ s at. b.inside s (back y.slot s at) })
        | inr q ↦ record { slot = omega (arith, lt, q.0, n); on = subst (λ (p : ℕ). y.blocker.var ≤ p) (sym vars) q.1; inside = λ s at. absurd (apart y.slot s (back y.slot s at) q.0) }
      ];
      fresh = k.fresh;
    }

-- the entry's slot has no watch of the clause set aside
pub entry-none : (o : Option Cref) (w : WatchData) (i : ℕ) (l : Literal) (e : ListEntry) (c : Cref) → o ≡ Some c → IsEntry (but o w) i l e → (s : Watch) → At (only c w).slots i (Some s) → ⊥
entry-none o w i l e c is n s at =
    let q = other-at o w.slots i n.watch n.there in
    let p = only-at c w.slots i s at in
    let same : n.watch ≡ s = unsome n.watch s (At-same w.slots i (Some n.watch) (Some s) q.0 p.0) in
    q.1 c is (ap (λ (x : Watch). x.clause.address) same ∙ p.1)
