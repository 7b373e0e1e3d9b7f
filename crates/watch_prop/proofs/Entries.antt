-- What an entry of a list says of its clause.
use Rattle.std.proofs.Common.{◌≡◌, ℕ, ◌≤◌, ◌⊎◌, true, List, sym, subst, inl, inr, arith, All, Bool, Some, ap, ◌∙◌, Contains, IsSome}
use Rattle.sat_words.specs.Literal.{Literal}
use Rattle.sat_words.specs.Clause.{has}
use Rattle.sat_words.specs.declared.shared.Cref.{Cref}
use Rattle.rup_model.proofs.Lists.{has_In}
use Rattle.ring_port.specs.PortState.{PortState, IsPort, IsOn, held_at, lits_at}
use Rattle.ring_port.proofs.Holdings.{All_In, held_is_kept}
use Rattle.ring_trail.specs.TrailData.{TrailData, IsTrail, IsTrueOn, IsFalseOn, HasNoPlace}
use Rattle.watch_prop.specs.declared.watch.Watch.{Watch}
use Rattle.watch_prop.specs.declared.watch.Watcher.{Watcher}
use Rattle.watch_prop.specs.declared.watch.ListEntry.{ListEntry}
use Rattle.watch_prop.specs.WatchData.{WatchData, Lits, attached}
use Rattle.watch_prop.specs.Watched.{At, Watched, IsAttachable, IsPairOf, IsBlocking}
use Rattle.watch_prop.specs.Propagation.{IsConflict}
use Rattle.watch_prop.specs.Visiting.{IsEntry, AllFalseBut, IsForcing, IsSatisfied}
use Rattle.watch_prop.proofs.Growing.{clause_in, TrueOn-within}
use Rattle.watch_prop.proofs.Reasons.{long_held}
use Rattle.watch_prop.proofs.SlotsLemmas.{watch-same}

pub entry_attachable : (w : WatchData) (h : Lits) (t : TrailData) (i : ℕ) (l : Literal) (e : ListEntry) → Watched w h t → IsEntry w i l e → IsAttachable w.vars (h e.clause.address)
entry_attachable w h t i l e k n = subst (λ (c : Cref). IsAttachable w.vars (h c.address)) n.clause (k.clauses i n.watch n.there)

pub entry_pair : (w : WatchData) (h : Lits) (t : TrailData) (i : ℕ) (l : Literal) (e : ListEntry) → Watched w h t → IsEntry w i l e → (has (h e.clause.address) l ≡ true) × (has (h e.clause.address) e.other ≡ true)
entry_pair w h t i l e k n =
    let p = k.pairs i n.watch n.there in
    let c = h n.watch.clause.address in
    let here : (has c l ≡ true) × (has c e.other ≡ true) = elim n.sides as (λ _. (has c l ≡ true) × (has c e.other ≡ true)) [
      | inl q ↦ (subst (λ (y : Literal). has c y ≡ true) q.0 p.first, subst (λ (y : Literal). has c y ≡ true) q.1 p.second)
      | inr q ↦ (subst (λ (y : Literal). has c y ≡ true) q.0 p.second, subst (λ (y : Literal). has c y ≡ true) q.1 p.first)
    ] in
    subst (λ (d : Cref). (has (h d.address) l ≡ true) × (has (h d.address) e.other ≡ true)) n.clause here

pub on_vars : (vars n : ℕ) (c : List Literal) (l : Literal) → n ≡ vars → IsAttachable vars c → has c l ≡ true → l.var ≤ n
on_vars vars n c l e ok there = (let on = All_In (IsOn vars) c l ok.on (has_In c l there) in let z = on.high in omega arith)

pub all_on_vars : (vars n : ℕ) (c : List Literal) → n ≡ vars → IsAttachable vars c → All (λ (l : Literal). l.var ≤ n) c
all_on_vars vars n c e ok = λ k d lt. (let z = (ok.on k d lt).high in omega arith)

-- a clause that is held may be attached
pub held_attachable : (s : PortState) (a vars : ℕ) → IsPort s → IsSome (held_at s a) → s.vars ≡ vars → IsAttachable vars (lits_at s a)
held_attachable s a vars port held e = let k = held_is_kept s a port held in subst (λ (n : ℕ). IsAttachable n (lits_at s a)) e record { shape = k.0; on = k.1 }

-- an attached clause is held
pub attachable_held : (vars : ℕ) (s : PortState) (a : ℕ) → IsAttachable vars (lits_at s a) → IsSome (held_at s a)
attachable_held vars s a ok = long_held s a (let z = ok.shape.long in omega arith)

pub entry_conflict : (w : WatchData) (h : Lits) (t : TrailData) (i : ℕ) (l : Literal) (e : ListEntry) → IsEntry w i l e → IsFalseOn t.steps l → IsFalseOn t.steps e.other → AllFalseBut t.steps (h e.clause.address) l e.other → IsConflict w h t e.clause
entry_conflict w h t i l e n f g all = record {
  member = subst (λ (c : Cref). Contains (attached w) c) n.clause (clause_in w i n.watch n.there);
  false_all = λ k there. elim (all k there) as (λ _. IsFalseOn t.steps k) [
    | inl q ↦ subst (λ (y : Literal). IsFalseOn t.steps y) (sym q) f
    | inr r ↦ elim r as (λ _. IsFalseOn t.steps k) [ inl q ↦ subst (λ (y : Literal). IsFalseOn t.steps y) (sym q) g | inr z ↦ z ]
  ];
}

pub entry_forces : (w : WatchData) (h : Lits) (t : TrailData) (i : ℕ) (l : Literal) (e : ListEntry) → Watched w h t → IsEntry w i l e → IsFalseOn t.steps l → HasNoPlace t.steps e.other.var → AllFalseBut t.steps (h e.clause.address) l e.other → IsForcing w h t i e.other e.clause
entry_forces w h t i l e k n f free all = record {
  at = record { watch = n.watch; there = n.there; clause = n.clause };
  free = free;
  forces = record {
    has_lit = (entry_pair w h t i l e k n).1;
    others = λ m there. elim (all m there) as (λ _. (m ≡ e.other) ⊎ IsFalseOn t.steps m) [
      | inl q ↦ inr (subst (λ (y : Literal). IsFalseOn t.steps y) (sym q) f)
      | inr r ↦ r
    ];
  };
}

pub entry_satisfied : (w : WatchData) (h : Lits) (t : TrailData) (i : ℕ) (l k : Literal) (e : ListEntry) → IsTrail t → IsEntry w i l e → has (h e.clause.address) k ≡ true → IsTrueOn t.steps k → IsSatisfied w h t i
entry_satisfied w h t i l k e trail n inside f s at =
    let same : n.watch ≡ s = watch-same w.slots i n.watch s n.there at in
    record {
      lit = k;
      has_lit = subst (λ (d : Cref). has (h d.address) k ≡ true) (sym n.clause ∙ ap (λ (y : Watch). y.clause) same) inside;
      within = TrueOn-within t k trail f;
    }

-- a blocker that is true spares the look at the clause
pub blocker_satisfied : (w : WatchData) (h : Lits) (t : TrailData) (i : ℕ) (x : Watcher) → IsTrail t → IsBlocking w h x → x.slot ≡ i → IsTrueOn t.steps x.blocker → IsSatisfied w h t i
blocker_satisfied w h t i x trail b e f s at = record {
  lit = x.blocker;
  has_lit = b.inside s (subst (λ (n : ℕ). At w.slots n (Some s)) (sym e) at);
  within = TrueOn-within t x.blocker trail f;
}

-- the two literals of an entry are a pair of its clause
pub entry_two : (w : WatchData) (h : Lits) (t : TrailData) (i : ℕ) (l : Literal) (e : ListEntry) → Watched w h t → IsEntry w i l e → IsPairOf (h e.clause.address) l e.other e.binary
entry_two w h t i l e k n =
    let p = k.pairs i n.watch n.there in
    let c = h n.watch.clause.address in
    let both : IsPairOf c l e.other n.watch.binary = elim n.sides as (λ _. IsPairOf c l e.other n.watch.binary) [
      | inl q ↦ record {
        first = subst (λ (y : Literal). has c y ≡ true) q.0 p.first;
        second = subst (λ (y : Literal). has c y ≡ true) q.1 p.second;
        apart = λ z. p.apart (q.0 ∙ z ∙ sym q.1);
        only = p.only;
      }
      | inr q ↦ record {
        first = subst (λ (y : Literal). has c y ≡ true) q.0 p.second;
        second = subst (λ (y : Literal). has c y ≡ true) q.1 p.first;
        apart = λ z. p.apart (q.1 ∙ sym z ∙ sym q.0);
        only = p.only;
      }
    ] in
    subst (λ (b : Bool). IsPairOf (h e.clause.address) l e.other b) n.binary (subst (λ (d : Cref). IsPairOf (h d.address) l e.other n.watch.binary) n.clause both)
