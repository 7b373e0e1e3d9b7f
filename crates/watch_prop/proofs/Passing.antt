-- What each verdict leaves of the clause set aside.
use Rattle.std.proofs.Common.{◌≡◌, ◌∙◌, ℕ, ◌≤◌, List, Option, Some, get_or, sym, refl, ap, subst, inl, inr, arith, ◌⊎◌, Contains, map}
use Rattle.std.specs.List.{filter_map}
use Rattle.std.proofs.lemmas.List.{length-map}
use Rattle.sat_words.specs.Literal.{Literal}
use Rattle.sat_words.specs.declared.shared.Cref.{Cref}
use Rattle.ring_trail.specs.TrailData.{TrailData}
use Rattle.watch_prop.specs.declared.watch.Watch.{Watch}
use Rattle.watch_prop.specs.declared.watch.Watcher.{Watcher}
use Rattle.watch_prop.specs.declared.watch.ListEntry.{ListEntry}
use Rattle.watch_prop.specs.WatchData.{WatchData, Lits, clause_in as slot_clause, attached, watchers_at, list_at}
use Rattle.watch_prop.specs.Watched.{At, Watched}
use Rattle.watch_prop.specs.Lists.{Removed, Reblocked}
use Rattle.watch_prop.specs.Visiting.{IsStale, CanBlock, CanMove, IsEntry, Replaced}
use Rattle.watch_prop.specs.Aside.{if_at, other_slots, but, only, PassesOver}
use Rattle.watch_prop.proofs.ListsLemmas.{Listed-removed}
use Rattle.watch_prop.proofs.SlotsLemmas.{clauses-set}
use Rattle.watch_prop.proofs.Entries.{on_vars, entry_attachable, entry_two}
use Rattle.watch_prop.proofs.Asides.{IsOther, others-len, other-at, others-set, only-set, only-at, entry-none, Watched-dropped, Watched-besides}

pub passes-stale : (o : Option Cref) (h : Lits) (w v : WatchData) (l : Literal) (place : ℕ) (lists : List (List Watcher)) (rooms : List ℕ) (size : ℕ) → v ≡ w
    → IsStale w (get_or (list_at w.lists l) place 0) l → Removed v.lists lists l place → PassesOver o h w record v { lists = lists; rooms = rooms; size = size }
passes-stale o h w v l place lists rooms size q stale r =
    let stale' : IsStale v (get_or (list_at v.lists l) place 0) l = subst (λ (x : WatchData). IsStale x (get_or (list_at x.lists l) place 0) l) (sym q) stale in
    record {
      clauses = ap attached q;
      watched = λ c t is k.
          Watched-dropped (only c v) h t l place lists rooms size (λ s at. stale' s (only-at c v.slots (get_or (list_at v.lists l) place 0) s at).0) r
          (subst (λ (x : WatchData). Watched (only c x) h t) (sym q) k);
    }

pub passes-blocked : (o : Option Cref) (h : Lits) (w v : WatchData) (t : TrailData) (l b : Literal) (place : ℕ) (lists : List (List Watcher)) (rooms : List ℕ) (size : ℕ) → v ≡ w
    → Watched (but o w) h t → CanBlock (but o w) h t l (get_or (list_at w.lists l) place 0) b → Reblocked v.lists lists l place b → PassesOver o h w record v { lists = lists; rooms = rooms; size = size }
passes-blocked o h w v t l b place lists rooms size q watched can r =
    let e = can.e in
    let i = get_or (list_at v.lists l) place 0 in
    let n : IsEntry (but o v) i l e = subst (λ (x : WatchData). IsEntry (but o x) (get_or (list_at x.lists l) place 0) l e) (sym q) can.entry in
    let k : Watched (but o v) h t = subst (λ (x : WatchData). Watched (but o x) h t) (sym q) watched in
    let on : b.var ≤ v.vars = on_vars v.vars v.vars (h e.clause.address) b refl (entry_attachable (but o v) h t i l e k n) can.inside in
    record {
      clauses = ap attached q;
      watched = λ c u is old.
          Watched-besides (only c v) (record (only c v) { lists = lists; rooms = rooms; size = size }) h u i refl refl refl
          (let z = n.there.0 in omega (arith, z, others-len o v.slots, length-map v.slots (if_at c.address)))
          (entry-none o v i l e c is n)
          (λ m j ne there. subst (λ (xs : List ℕ). Contains xs j) (sym (r.same m)) there)
          (λ m y there. elim (r.only m y there) as (λ _. Contains (watchers_at v.lists m) y ⊎ ((y.slot ≡ i) × (y.blocker.var ≤ v.vars))) [
            | inl was ↦ inl was
            | inr z ↦ inr (z.0, subst (λ (x : Literal). x.var ≤ v.vars) (sym z.1) on)
          ])
          (subst (λ (x : WatchData). Watched (only c x) h u) (sym q) old);
    }

-- the entry's clause is another than the one set aside
entry_apart : (o : Option Cref) (w : WatchData) (i : ℕ) (l : Literal) (e : ListEntry) (s : Watch) → IsEntry (but o w) i l e → s.clause ≡ e.clause → IsOther o s
entry_apart o w i l e s n is c q same = (other-at o w.slots i n.watch n.there).1 c q (ap (λ (d : Cref). d.address) (n.clause ∙ sym is) ∙ same)

pub replaced-but : (o : Option Cref) (h : Lits) (w x : WatchData) (t : TrailData) (l m : Literal) (index place : ℕ) (e : ListEntry) → CanMove (but o w) h t l index e m → Replaced w x e l m place → Replaced (but o w) (but o x) e l m place
replaced-but o h w x t l m index place e can r =
    let new : Watch = record { clause = e.clause; first = e.other; second = m; binary = e.binary } in
    record {
      vars = r.vars;
      settled = r.settled;
      slots = ap (other_slots o) r.slots ∙ others-set o w.slots e.index new (entry_apart o w index l e new can.entry refl);
      between = r.between;
      added = r.added;
      removed = r.removed;
    }

pub passes-moved : (o : Option Cref) (h : Lits) (w x : WatchData) (t : TrailData) (l m : Literal) (place : ℕ) (e : ListEntry) → Watched (but o w) h t → CanMove (but o w) h t l (get_or (list_at w.lists l) place 0) e m
    → Replaced w x e l m place → PassesOver o h w x
passes-moved o h w x t l m place e k can r =
    let i = get_or (list_at w.lists l) place 0 in
    let n = can.entry in
    let new : Watch = record { clause = e.clause; first = e.other; second = m; binary = e.binary } in
    let raw : At w.slots i (Some n.watch) = (other-at o w.slots i n.watch n.there).0 in
    let at : At w.slots e.index (Some n.watch) = subst (λ (j : ℕ). At w.slots j (Some n.watch)) (sym n.at_index) raw in
    let between : list_at r.between l ≡ list_at w.lists l = r.added.same l (λ q. can.is_open.not_l (sym q)) in
    let index_is : get_or (list_at r.between l) place 0 ≡ e.index = ap (λ (xs : List ℕ). get_or xs place 0) between ∙ sym n.at_index in
    let on : e.other.var ≤ w.vars = on_vars w.vars w.vars (h e.clause.address) e.other refl (entry_attachable (but o w) h t i l e k n) (entry_two (but o w) h t i l e k n).second in
    record {
      clauses = ap (λ (ws : List (Option Watch)). filter_map slot_clause ws) r.slots ∙ clauses-set w.slots e.index n.watch new at (sym n.clause);
      watched = λ c u is old.
          Watched-besides (only c w) (only c x) h u e.index r.vars
          (ap (λ (ws : List (Option Watch)). map (if_at c.address) ws) r.slots ∙ only-set c w.slots e.index n.watch new at (entry_apart o w i l e n.watch n n.clause c is) (entry_apart o w i l e new n refl c is))
          r.settled
          (let z = at.0 in omega (arith, z, length-map w.slots (if_at c.address)))
          (λ s there. entry-none o w i l e c is n s (subst (λ (j : ℕ). At (only c w).slots j (Some s)) n.at_index there))
          (λ y j ne there. Listed-removed r.between x.lists l place y j r.removed (r.added.kept y j there) (λ q z. ne (z ∙ index_is)))
          (λ y z there. elim (r.added.only y z (r.removed.only y z there)) as (λ _. Contains (watchers_at w.lists y) z ⊎ ((z.slot ≡ e.index) × (z.blocker.var ≤ w.vars))) [
            | inl was ↦ inl was
            | inr q ↦ inr (ap (λ (u : Watcher). u.slot) q, subst (λ (b : Literal). b.var ≤ w.vars) (sym (ap (λ (u : Watcher). u.blocker) q)) on)
          ])
          old;
    }
