-- What holds between port, watches and trail after vivification.
use Rattle.std.proofs.Common.{◌≡◌, ◌≢◌, ◌∙◌, ◌++◌, ◌∷◌, [], ℕ, ◌≤◌, true, List, length, get_or, Option, Some, None, IsSome, Contains, sym, refl, ap, subst, inl, inr}
use Rattle.std.specs.Option.{option_map}
use Rattle.std.proofs.lemmas.Bool.{or_left}
use Rattle.sat_words.specs.Literal.{Literal, same}
use Rattle.sat_words.specs.Clause.{has, distinct_lits}
use Rattle.sat_words.specs.declared.shared.Cref.{Cref}
use Rattle.rup_model.specs.declared.journal.Kind.{Kind}
use Rattle.drat_text.specs.LineState.{LineState}
use Rattle.rup_model.proofs.Lists.{In, In_get_or, In_map, map_In, In_append, In_append_left, Contains_In, In_Contains}
use Rattle.ring_port.specs.declared.stops.PortStop.{PortStop}
use Rattle.ring_port.specs.declared.stops.PortStop.TheVariants.{Ended, Broken, ProofFault, NoHole, Memory}
use Rattle.ring_port.specs.PortState.{Holding, PortState, IsPort, held_at, lits_at, lits_in}
use Rattle.ring_port.specs.Port.{AddedClause, WroteUnit, Refused, KeepsHeld, after_refusal, holding_of}
use Rattle.ring_port.specs.Deleting.{DroppedOnce}
use Rattle.ring_port.proofs.Holdings.{held_is_kept, lits_of_holding}
use Rattle.ring_port.proofs.PlainLemmas.{dropped_others}
use Rattle.ring_trail.specs.declared.step.TrailStep.{TrailStep}
use Rattle.ring_trail.specs.TrailData.{TrailData, IsTrail, IsFalseOn}
use Rattle.ring_trail.specs.Closed.{IsClosed, IsClosedClause}
use Rattle.watch_prop.specs.WatchData.{WatchData, Lits, attached, without, clauses_of}
use Rattle.watch_prop.specs.Watched.{Watched}
use Rattle.watch_prop.specs.Propagation.{HasReasons, IsQuiet}
use Rattle.watch_prop.proofs.Growing.{watch_of}
use Rattle.watch_prop.proofs.Entries.{attachable_held}
use Rattle.watch_prop.proofs.TrailLaws.{Watched-port, Reasons-more}
use Rattle.watch_prop.proofs.DetachingLaws.{without-others, Reasons-without, Closed-at}
use Rattle.vivify.specs.Walk.{left_of, others}
use Rattle.vivify.specs.Walking.{IsNoReason}
use Rattle.vivify.specs.Outcome.{left_at}
use Rattle.vivify.proofs.Parts.{left_distinct}
use Rattle.vivify.proofs.Walked.{others_are}
use Rattle.vivify.proofs.Open.{left_not_false, open_is_closed}

-- port, watches and trail are as propagation leaves them
pub record Good (s : PortState) (w : WatchData) (t : TrailData) : Type 0 where
  pub watched : Watched w (lits_at s) t
  pub reasons : HasReasons (attached w) s t.steps
  pub quiet : IsQuiet w (lits_at s) t

closed_lits : (w : WatchData) (lits more : Lits) (steps : List TrailStep) (k : ℕ) → ((c : Cref) → Contains (attached w) c → more c.address ≡ lits c.address) → IsClosed (clauses_of w lits) steps k → IsClosed (clauses_of w more) steps k
closed_lits w lits more steps k alike h c there =
    let m = map_In (λ (d : Cref). more d.address) (attached w) c (Contains_In (clauses_of w more) c there) in
    let e : lits m.0.address ≡ c = sym (alike m.0 (In_Contains (attached w) m.0 m.1)) ∙ m.2 in
    h c (In_Contains (clauses_of w lits) c (subst (λ (d : List Literal). In d (clauses_of w lits)) e (In_map (λ (d : Cref). lits d.address) (attached w) m.0 m.1)))

-- the port changes, and what is attached is held as before
good_port : (s r : PortState) (w : WatchData) (t : TrailData) → ((c : Cref) → Contains (attached w) c → held_at r c.address ≡ held_at s c.address) → ((l : Literal) → has s.seen l ≡ true → has r.seen l ≡ true) → Good s w t → Good r w t
good_port s r w t alike seen g = record {
  watched = Watched-port w (lits_at s) (lits_at r) t (λ c m. ap lits_in (alike c m)) g.watched;
  reasons = Reasons-more (attached w) (attached w) s r t.steps (λ c m. (m, ap (λ (o : Option Holding). option_map (λ (h : Holding). h.lits) o) (alike c m))) seen g.reasons;
  quiet = record { done = g.quiet.done; closed = λ k. closed_lits w (lits_at s) (lits_at r) t.steps k (λ c m. ap lits_in (alike c m)) (g.quiet.closed k) };
}

-- a closed clause is attached
good_attach : (s : PortState) (w x : WatchData) (t : TrailData) (c : Cref) → attached x ≡ attached w ++ c ∷ [] → Watched x (lits_at s) t → ((k : ℕ) → IsClosedClause (lits_at s c.address) t.steps k) → Good s w t → Good s x t
good_attach s w x t c e watched closed g = record {
  watched = watched;
  reasons = Reasons-more (attached w) (attached x) s s t.steps
      (λ d m. (subst (λ (cs : List Cref). Contains cs d) (sym e) (In_Contains (attached w ++ c ∷ []) d (In_append_left (attached w) (c ∷ []) d (Contains_In (attached w) d m))), refl))
      (λ l h. h) g.reasons;
  quiet = record { done = g.quiet.done; closed = λ k d there. at k d (map_In (λ (y : Cref). lits_at s y.address) (attached x) d (Contains_In (clauses_of x (lits_at s)) d there)) };
}
  where
    at : (k : ℕ) (d : List Literal) → (y : Cref) × In y (attached x) × (lits_at s y.address ≡ d) → IsClosedClause d t.steps k
    at k d m = elim (In_append (attached w) (c ∷ []) m.0 (subst (In m.0) e m.1)) as (λ _. IsClosedClause d t.steps k) [
      | inl old ↦ g.quiet.closed k d (In_Contains (clauses_of w (lits_at s)) d (subst (λ (z : List Literal). In z (clauses_of w (lits_at s))) m.2 (In_map (λ (y : Cref). lits_at s y.address) (attached w) m.0 old)))
      | inr new ↦ (elim new as (λ _. IsClosedClause d t.steps k) [
        | inl q ↦ subst (λ (z : List Literal). IsClosedClause z t.steps k) (ap (λ (y : Cref). lits_at s y.address) q ∙ m.2) (closed k)
        | inr none ↦ absurd none
      ])
    ]

-- what is attached is held
attached_held : (s : PortState) (w : WatchData) (t : TrailData) (c : Cref) → Watched w (lits_at s) t → Contains (attached w) c → IsSome (held_at s c.address)
attached_held s w t c watched h =
    let m = watch_of w c h in
    subst (λ (x : Cref). IsSome (held_at s x.address)) m.3 (attachable_held w.vars s m.1.clause.address (watched.clauses m.0 m.1 m.2))

-- the walk leaves it so, of the port and the trail before it
pub good_walked : (s h : PortState) (w : WatchData) (t u : TrailData) → h ≡ s → u ≡ t → Watched w (lits_at h) u → HasReasons (attached w) h u.steps → IsQuiet w (lits_at h) u → Good s w t
good_walked s h w t u same back watched reasons quiet =
    subst (λ (x : TrailData). Good s w x) back (subst (λ (x : PortState). Good x w u) same record { watched = watched; reasons = reasons; quiet = quiet })

-- the clause is detached after the walk
pub good_detached : (s h p : PortState) (v w x : WatchData) (t u : TrailData) (a : ℕ) → h ≡ s → p ≡ h → u ≡ t → Watched w (lits_at h) u → HasReasons (attached w) h u.steps → IsQuiet w (lits_at h) u → IsNoReason s t.steps a → attached w ≡ attached v
    → ((z : TrailData) → Watched w (lits_at p) z → attached x ≡ without (attached w) a) → ((z : TrailData) → Watched w (lits_at p) z → Watched x (lits_at p) z) → Good s x t × (attached x ≡ without (attached v) a)
good_detached s h p v w x t u a same still back watched reasons quiet free kept gone left =
    let g = good_walked s h w t u same back watched reasons quiet in
    let port : p ≡ s = still ∙ same in
    let before : Watched w (lits_at p) t = subst (λ (y : PortState). Watched w (lits_at y) t) (sym port) g.watched in
    let e : attached x ≡ without (attached w) a = gone t before in (
      record {
        watched = subst (λ (y : PortState). Watched x (lits_at y) t) port (left t before);
        reasons = subst (λ (cs : List Cref). HasReasons cs s t.steps) (sym e) (Reasons-without (attached w) s t.steps a free g.reasons);
        quiet = record { done = g.quiet.done; closed = λ k. Closed-at w x (lits_at s) t.steps a k e (g.quiet.closed k) };
      },
      e ∙ ap (λ (cs : List Cref). without cs a) kept,
    )

seen_more : (p m : PortState) (l : Literal) (kind : Kind) (last : Option ℕ) → WroteUnit p m l kind last → (k : Literal) → has p.seen k ≡ true → has m.seen k ≡ true
seen_more p m l kind last k x h = k.sees x ∙ or_left (has p.seen x) (same l x) h

unit_held : (p m : PortState) (l : Literal) (kind : Kind) (last : Option ℕ) (a : ℕ) → WroteUnit p m l kind last → held_at m a ≡ held_at p a
unfolding held_at
unit_held p m l kind last a k = ap (λ (s : PortState). held_at s a) k.state

seen_same : (m n : PortState) (a : ℕ) → DroppedOnce m n a → (l : Literal) → has m.seen l ≡ true → has n.seen l ≡ true
seen_same m n a k l h = subst (λ (s : PortState). has s.seen l ≡ true) (sym k.state) h

pub good_unit : (s p m n : PortState) (v w : WatchData) (t u : TrailData) (a : ℕ) (l : Literal) (kind : Kind) (last : Option ℕ) → p ≡ s → u ≡ t → Good s w t → attached w ≡ without (attached v) a → WroteUnit p m l kind last → DroppedOnce m n a → Good n w u
good_unit s p m n v w t u a l kind last same back g e wrote dropped =
    subst (λ (z : TrailData). Good n w z) (sym back)
    (good_port m n w t (λ c h. dropped_others m n a c.address dropped ((without-others (attached v) a c).0 (subst (λ (cs : List Cref). Contains cs c) e h)).1) (seen_same m n a dropped)
    (good_port p m w t (λ c h. unit_held p m l kind last c.address wrote) (seen_more p m l kind last wrote)
    (subst (λ (z : PortState). Good z w t) (sym same) g)))

added_seen : (p m : PortState) (L : List Literal) (glue : ℕ) (kind : Kind) (d : Cref) → AddedClause p m L glue kind d → (l : Literal) → has p.seen l ≡ true → has m.seen l ≡ true
added_seen p m L glue kind d k l h = subst (λ (s : PortState). has s.seen l ≡ true) (sym k.state) h

pub good_shorter : (s p m q n : PortState) (v w x : WatchData) (t u : TrailData) (c d : Cref) (L : List Literal) (glue : ℕ) (kind : Kind) → p ≡ s → q ≡ m → u ≡ t → Good s w t → attached w ≡ without (attached v) c.address → IsSome (held_at s c.address)
    → AddedClause p m L glue kind d → KeepsHeld p m → ((k : ℕ) → IsClosedClause L t.steps k) → attached x ≡ attached w ++ d ∷ [] → ((z : TrailData) → Watched w (lits_at m) z → Watched x (lits_at m) z) → DroppedOnce q n c.address → Good n x u
good_shorter s p m q n v w x t u c d L glue kind same after back g e held added keeps closed grown watched dropped =
    subst (λ (z : TrailData). Good n x z) (sym back) last
  where
    first : Good p w t
    first = subst (λ (z : PortState). Good z w t) (sym same) g

    mid : Good m w t
    mid = good_port p m w t (λ y h. keeps y.address (attached_held p w t y first.watched h)) (added_seen p m L glue kind d added) first

    both : Good m x t
    both = good_attach m w x t d grown (watched t mid.watched) (λ k. subst (λ (z : List Literal). IsClosedClause z t.steps k) (sym (lits_of_holding m d.address (holding_of d added.number glue L) added.there)) (closed k)) mid

    none_held : (o : Option Holding) → IsSome o → o ≡ None → ⊥
    none_held None h f = absurd (cc)
    none_held (Some y) h f = absurd (cc)

    apart : d.address ≢ c.address
    apart f = none_held (held_at p c.address) (subst (λ (z : PortState). IsSome (held_at z c.address)) (sym same) held) (subst (λ (a : ℕ). held_at p a ≡ None) f added.free.not_held)

    away : (y : Cref) → Contains (attached x) y → y.address ≢ c.address
    away y h = elim (In_append (attached w) (d ∷ []) y (subst (In y) grown (Contains_In (attached x) y h))) as (λ _. y.address ≢ c.address) [
      | inl old ↦ ((without-others (attached v) c.address y).0 (subst (λ (cs : List Cref). Contains cs y) e (In_Contains (attached w) y old))).1
      | inr new ↦ (elim new as (λ _. y.address ≢ c.address) [ inl f ↦ (λ z. apart (ap (λ (b : Cref). b.address) f ∙ z)) | inr none ↦ absurd none ])
    ]

    once : DroppedOnce m n c.address
    once = subst (λ (z : PortState). DroppedOnce z n c.address) after dropped

    last : Good n x t
    last = good_port m n x t (λ y h. dropped_others m n c.address y.address once (away y h)) (seen_same m n c.address once) both

-- What is held

pub others_kept : (s p : PortState) → p ≡ s → (a : ℕ) → held_at p a ≡ held_at s a
others_kept s p e a = ap (λ (z : PortState). held_at z a) e

pub others_unit : (s p m n : PortState) (c a : ℕ) (l : Literal) (kind : Kind) (last : Option ℕ) → p ≡ s → WroteUnit p m l kind last → DroppedOnce m n c → a ≢ c → held_at n a ≡ held_at s a
others_unit s p m n c a l kind last e wrote dropped ne = dropped_others m n c a dropped ne ∙ unit_held p m l kind last a wrote ∙ others_kept s p e a

pub others_wrote : (s p m n : PortState) (a : ℕ) (l : Literal) (kind : Kind) (last : Option ℕ) → p ≡ s → WroteUnit p m l kind last → n ≡ m → held_at n a ≡ held_at s a
others_wrote s p m n a l kind last e wrote same = ap (λ (z : PortState). held_at z a) same ∙ unit_held p m l kind last a wrote ∙ others_kept s p e a

pub others_shorter : (s p m q n : PortState) (c a : ℕ) → p ≡ s → KeepsHeld p m → q ≡ m → DroppedOnce q n c → a ≢ c → IsSome (held_at s a) → held_at n a ≡ held_at s a
others_shorter s p m q n c a e keeps same dropped ne held =
    dropped_others q n c a dropped ne ∙ ap (λ (z : PortState). held_at z a) same ∙ keeps a (subst (λ (z : PortState). IsSome (held_at z a)) (sym e) held) ∙ others_kept s p e a

after_held : (s : PortState) (out : Option LineState) (stop : PortStop) (a : ℕ) → held_at (after_refusal s out stop) a ≡ held_at s a
unfolding held_at
after_held s out Ended a = refl
after_held s out Broken a = refl
after_held s out ProofFault a = refl
after_held s out (NoHole lack) a = refl
after_held s out Memory a = refl

pub others_refused : (s p n : PortState) (a : ℕ) (stop : PortStop) → p ≡ s → Refused p n stop → held_at n a ≡ held_at s a
others_refused s p n a stop e k = ap (λ (z : PortState). held_at z a) k.state ∙ after_held p n.output stop a ∙ others_kept s p e a

-- The literals left

pub left_open : (s : PortState) (v w : WatchData) (t : TrailData) (c : Cref) (L : List Literal) (l : Literal) → IsTrail t → t.level ≡ 0 → Good s w t → attached w ≡ without (attached v) c.address → L ≡ left_at s (attached v) t.steps c.address → In l L → IsFalseOn t.steps l → ⊥
left_open s v w t c L l shape zero' g e is there =
    left_not_false s w t (lits_at s c.address) l shape zero' g.reasons g.quiet
    (subst (In l) (is ∙ ap (λ (G : List (List Literal)). left_of G (lits_at s c.address)) (sym (others_are s v w t c.address e))) there)

pub left_closed : (s : PortState) (v w : WatchData) (t : TrailData) (c : Cref) (L : List Literal) → IsTrail t → t.level ≡ 0 → Good s w t → attached w ≡ without (attached v) c.address → L ≡ left_at s (attached v) t.steps c.address → IsPort s → IsSome (held_at s c.address) → 2 ≤ length L
    → (k : ℕ) → IsClosedClause L t.steps k
left_closed s v w t c L shape zero' g e is port held long k =
    open_is_closed L t.steps k long
    (subst (λ (M : List Literal). distinct_lits M ≡ true) (sym is) (left_distinct (others s (attached v) c.address t.steps) (lits_at s c.address) (held_is_kept s c.address port held).0.distinct))
    (λ l there. left_open s v w t c L l shape zero' g e is there)

pub first_in : (L : List Literal) (l : Literal) → 1 ≤ length L → l ≡ get_or L 0 l → In l L
first_in L l some e = subst (λ (x : Literal). In x L) (sym e) (In_get_or L 0 l some)
