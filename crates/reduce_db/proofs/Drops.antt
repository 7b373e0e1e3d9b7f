-- What dropping one lemma after the other leaves.
use Rattle.std.proofs.Common.{◌≡◌, ◌≢◌, ◌∙◌, ◌||◌, ◌==◌, ℕ, zero, suc, ◌<◌, ◌+◌, Bool, true, false, not, cond, List, [], ◌∷◌, ◌++◌, length, take, get_or, All, Contains, Option, Some, sym, refl, ap, subst, inl, inr, arith}
use Rattle.std.specs.List.{filter}
use Rattle.std.specs.Option.{option_map, option_map_or}
use Rattle.std.proofs.lemmas.Bool.{true≢false}
use Rattle.std.proofs.lemmas.Bool.Decides.{nat_tests}
use Rattle.std.specs.List.Sorted.{IsPermutation}
use Rattle.std.proofs.lemmas.List.{take_more}
use Rattle.std.proofs.lemmas.List.Elements.{All-tail, filter_agree}
use Rattle.std.proofs.lemmas.List.Sorted.{list_any-IsPermutation}
use Rattle.sat_words.specs.Literal.{Literal}
use Rattle.sat_words.specs.Clause.{has}
use Rattle.sat_words.specs.declared.shared.Cref.{Cref}
use Rattle.rup_model.proofs.Lists.{In, In_map, map_In, In_append_left, In_append_right, In_get_or, none_In, Contains_In, In_Contains}
use Rattle.ring_port.specs.PortState.{Holding, PortState, held_at, lits_at, lits_in, clause_at}
use Rattle.ring_port.specs.Deleting.{DroppedOnce}
use Rattle.ring_port.proofs.Holdings.{All_In}
use Rattle.ring_port.proofs.PlainLemmas.{dropped_others}
use Rattle.ring_trail.specs.declared.step.TrailStep.{TrailStep}
use Rattle.ring_trail.specs.TrailData.{TrailData, no_step, reason_at}
use Rattle.ring_trail.specs.Reasoned.{IsSeen}
use Rattle.ring_trail.specs.Closed.{IsClosed}
use Rattle.watch_prop.specs.WatchData.{WatchData, attached, without, is_among, without_all, clauses_of}
use Rattle.watch_prop.specs.Watched.{Watched}
use Rattle.watch_prop.specs.Propagation.{HasReasons}
use Rattle.watch_prop.proofs.TrailLaws.{Watched-port, Reasons-more}
use Rattle.watch_prop.proofs.DetachingLaws.{Reasons-without}
use Rattle.reduce_db.specs.Lemmas.{AreDistinct}
use Rattle.reduce_db.specs.Choice.{is_reason}
use Rattle.reduce_db.specs.Dropping.{DroppedEach, DroppedAll, StaysReady}

-- A list that has one more

no_cref : Cref
no_cref = record { address = 0 }

in_more : (xs : List Cref) (i : ℕ) (d e : Cref) → i < length xs → Contains (take i xs) e → Contains (take (i + 1) xs) e
in_more xs i d e lt h =
    subst (λ (ys : List Cref). Contains ys e) (sym (take_more xs i d lt))
    (In_Contains (take i xs ++ get_or xs i d ∷ []) e (In_append_left (take i xs) (get_or xs i d ∷ []) e (Contains_In (take i xs) e h)))

in_last : (xs : List Cref) (i : ℕ) (d : Cref) → i < length xs → Contains (take (i + 1) xs) (get_or xs i d)
in_last xs i d lt =
    subst (λ (ys : List Cref). Contains ys (get_or xs i d)) (sym (take_more xs i d lt))
    (In_Contains (take i xs ++ get_or xs i d ∷ []) (get_or xs i d) (In_append_right (take i xs) (get_or xs i d ∷ []) (get_or xs i d) (inl refl)))

-- those before a place are at other addresses
pub distinct_before : (xs : List Cref) (i : ℕ) (d e : Cref) → AreDistinct xs → i < length xs → In e (take i xs) → e.address ≢ (get_or xs i d).address
distinct_before [] i d e a lt h = absurd (omega arith)
distinct_before (x ∷ xs) zero d e a lt h = absurd h
distinct_before (x ∷ xs) (suc i) d e a lt (inl q) = λ z. a.0 i d (omega arith) (sym z ∙ ap (λ (c : Cref). c.address) (sym q))
distinct_before (x ∷ xs) (suc i) d e a lt (inr m) = distinct_before xs i d e a.1 (omega arith) m

-- The port

each_more : (old mid new : PortState) (cs : List Cref) (c : Cref) → DroppedEach old mid cs → DroppedOnce mid new c.address → DroppedEach old new (cs ++ c ∷ [])
each_more old mid new [] c e k = (new, subst (λ (s : PortState). DroppedOnce s new c.address) e k, refl)
each_more old mid new (x ∷ cs) c e k = (e.0, e.1, each_more e.0 mid new cs c e.2 k)

fields_after : (s r : PortState) (a : ℕ) → DroppedOnce s r a → r ≡ record s { held = r.held; waiting = r.waiting; last = r.last }
fields_after s r a k = k.state ∙ (λ i. record s { held = (sym (ap (λ (q : PortState). q.held) k.state)) i; waiting = r.waiting; last = (sym (ap (λ (q : PortState). q.last) k.state)) i })

fields_again : (old s r : PortState) → s ≡ record old { held = s.held; waiting = s.waiting; last = s.last } → r ≡ record s { held = r.held; waiting = r.waiting; last = r.last }
    → r ≡ record old { held = r.held; waiting = r.waiting; last = r.last }
fields_again old s r e f = f ∙ ap (λ (q : PortState). record q { held = r.held; waiting = r.waiting; last = r.last }) e

pub dropped_none : (s : PortState) → DroppedAll s s []
dropped_none s = record { each = refl; state = refl; others = λ a f. refl }

pub dropped_more : (old s r : PortState) (xs : List Cref) (i : ℕ) → i < length xs → DroppedAll old s (take i xs) → DroppedOnce s r (get_or xs i record { address = 0 }).address → DroppedAll old r (take (i + 1) xs)
dropped_more old s r xs i lt h k = record {
  each = subst (λ (ys : List Cref). DroppedEach old r ys) (sym (take_more xs i record { address = 0 } lt)) (each_more old s r (take i xs) (get_or xs i record { address = 0 }) h.each k);
  state = fields_again old s r h.state (fields_after s r (get_or xs i record { address = 0 }).address k);
  others = λ a f. dropped_others s r (get_or xs i record { address = 0 }).address a k (λ z. f (get_or xs i record { address = 0 }) (in_last xs i record { address = 0 } lt) (sym z))
      ∙ h.others a (λ c m. f c (in_more xs i record { address = 0 } c lt m));
}

-- one that comes later is still held as it was
pub held_yet : (old s : PortState) (xs : List Cref) (i : ℕ) → AreDistinct xs → i < length xs → DroppedAll old s (take i xs) → held_at s (get_or xs i record { address = 0 }).address ≡ held_at old (get_or xs i record { address = 0 }).address
held_yet old s xs i apart lt h = h.others (get_or xs i record { address = 0 }).address (λ c m. distinct_before xs i record { address = 0 } c apart lt (Contains_In (take i xs) c m))

-- What is attached

eq_sym : (a b : ℕ) → (a == b) ≡ (b == a)
eq_sym a b = grind (arith, nat_tests)

at_it : (x y : ℕ) → x ≡ y → (x == y) ≡ true
at_it x y q = grind (arith, nat_tests)

not_or : (a b : Bool) → not (a || b) ≡ cond (not a) (not b) false
not_or true b = refl
not_or false b = refl

filter_twice : (p q : Cref → Bool) (cs : List Cref) → filter q (filter p cs) ≡ filter (λ c. cond (p c) (q c) false) cs
filter_twice p q [] = refl
filter_twice p q (c ∷ cs) = by (p c) refl (filter_twice p q cs)
  where
    by : (b : Bool) → p c ≡ b → filter q (filter p cs) ≡ filter (λ c. cond (p c) (q c) false) cs → filter q (filter p (c ∷ cs)) ≡ filter (λ c. cond (p c) (q c) false) (c ∷ cs)
    by true e h = rw e (ap (λ (ys : List Cref). cond (q c) (c ∷ ys) ys) h)
    by false e h = rw e h

-- one of those that go first
without_first : (cs ds : List Cref) (c : Cref) → without_all (without cs c.address) ds ≡ without_all cs (c ∷ ds)
without_first cs ds c =
    filter_twice (λ (x : Cref). not (x.address == c.address)) (λ (x : Cref). not (is_among ds x.address)) cs
    ∙ filter_agree (λ (x : Cref). cond (not (x.address == c.address)) (not (is_among ds x.address)) false) (λ (x : Cref). not (is_among (c ∷ ds) x.address))
    (λ x. ap (λ (b : Bool). cond (not b) (not (is_among ds x.address)) false) (eq_sym x.address c.address) ∙ sym (not_or (c.address == x.address) (is_among ds x.address)))
    cs

without_none : (cs : List Cref) → cs ≡ without_all cs []
without_none [] = refl
without_none (c ∷ cs) = ap (λ (ys : List Cref). c ∷ ys) (without_none cs)

-- the order of those that go is nothing to those that stay
pub without_again : (cs ds es : List Cref) → IsPermutation ds es → without_all cs es ≡ without_all cs ds
without_again cs ds es p =
    filter_agree (λ (x : Cref). not (is_among es x.address)) (λ (x : Cref). not (is_among ds x.address))
    (λ x. ap not (sym (list_any-IsPermutation (λ (c : Cref). c.address == x.address) ds es p))) cs

-- what stays was there, and is at no address of those that go
stayed : (cs ds : List Cref) (c : Cref) → In c (without_all cs ds) → In c cs × (is_among ds c.address ≡ false)
stayed [] ds c h = absurd h
stayed (x ∷ cs) ds c h = by (is_among ds x.address) refl h (stayed cs ds c)
  where
    by : (b : Bool) → is_among ds x.address ≡ b → In c (cond (not b) (x ∷ without_all cs ds) (without_all cs ds)) → (In c (without_all cs ds) → In c cs × (is_among ds c.address ≡ false)) → In c (x ∷ cs) × (is_among ds c.address ≡ false)
    by true e k f = let r = f k in (inr r.0, r.1)
    by false e (inl q) f = (inl q, subst (λ (y : Cref). is_among ds y.address ≡ false) q e)
    by false e (inr k) f = let r = f k in (inr r.0, r.1)

pub no_other : (ds : List Cref) (a : ℕ) → is_among ds a ≡ false → (d : Cref) → Contains ds d → d.address ≢ a
no_other ds a e d m is =
    absurd (true≢false (sym (at_it d.address a is) ∙ none_In (λ (c : Cref). c.address == a) ds d e (Contains_In ds d m)))

not_among : (ds : List Cref) (a : ℕ) → ((d : Cref) → In d ds → d.address ≢ a) → is_among ds a ≡ false
not_among [] a f = refl
not_among (d ∷ ds) a f = ap (λ (b : Bool). b || is_among ds a) (not_at d.address a (f d (inl refl))) ∙ not_among ds a (λ e m. f e (inr m))
  where
    not_at : (x y : ℕ) → x ≢ y → (x == y) ≡ false
    not_at x y ne = grind (arith, nat_tests)

-- one at no address of those that go stays
pub stays_attached : (cs ds : List Cref) (c : Cref) → Contains cs c → ((d : Cref) → Contains ds d → d.address ≢ c.address) → Contains (without_all cs ds) c
stays_attached cs ds c m f = In_Contains (without_all cs ds) c (by cs (Contains_In cs c m))
  where
    e : is_among ds c.address ≡ false
    e = not_among ds c.address (λ d h. f d (In_Contains ds d h))

    by : (xs : List Cref) → In c xs → In c (without_all xs ds)
    by [] h = absurd h
    by (x ∷ xs) (inl q) = subst (λ (y : Cref). In c (cond (not (is_among ds y.address)) (y ∷ without_all xs ds) (without_all xs ds))) (sym q) (subst (λ (b : Bool). In c (cond (not b) (c ∷ without_all xs ds) (without_all xs ds))) (sym e) (inl refl))
    by (x ∷ xs) (inr h) = past (is_among ds x.address) (by xs h)
      where
        past : (b : Bool) → In c (without_all xs ds) → In c (cond (not b) (x ∷ without_all xs ds) (without_all xs ds))
        past true r = r
        past false r = inr r

-- Watches, reasons and closed clauses

lits_same : (s r : PortState) (a : ℕ) → held_at r a ≡ held_at s a → lits_at r a ≡ lits_at s a
lits_same s r a e = ap lits_in e

clause_same : (s r : PortState) (a : ℕ) → held_at r a ≡ held_at s a → clause_at r a ≡ clause_at s a
clause_same s r a e = ap (λ (o : Option Holding). option_map (λ (h : Holding). h.lits) o) e

no_reason : (steps : List TrailStep) (seen : List Literal) (a : ℕ) → is_reason steps a ≡ false → (p : ℕ) (c : Cref) → p < length steps → reason_at steps p ≡ Some c → c.address ≡ a → IsSeen seen steps p
no_reason steps seen a e p c lt reason is =
    let f : option_map_or (λ (d : Cref). d.address == a) (get_or steps p no_step).reason false ≡ false = none_In (λ (s : TrailStep). option_map_or (λ (d : Cref). d.address == a) s.reason false) steps (get_or steps p no_step) e (In_get_or steps p no_step lt) in
    let g : (c.address == a) ≡ false = subst (λ (o : Option Cref). option_map_or (λ (d : Cref). d.address == a) o false ≡ false) reason f in
    absurd (true≢false (sym (at_it c.address a is) ∙ g))

reasons_left : (cs ds : List Cref) (s : PortState) (steps : List TrailStep) → All (λ (c : Cref). is_reason steps c.address ≡ false) ds → HasReasons cs s steps → HasReasons (without_all cs ds) s steps
reasons_left cs [] s steps free h = subst (λ (xs : List Cref). HasReasons xs s steps) (without_none cs) h
reasons_left cs (d ∷ ds) s steps free h =
    subst (λ (xs : List Cref). HasReasons xs s steps) (without_first cs ds d)
    (reasons_left (without cs d.address) ds s steps (All-tail (λ (c : Cref). is_reason steps c.address ≡ false) d ds free)
    (Reasons-without cs s steps d.address (no_reason steps s.seen d.address (All_In (λ (c : Cref). is_reason steps c.address ≡ false) (d ∷ ds) d free (inl refl))) h))

-- the clauses that are left are held as they were, and no reason is gone
pub ready_dropped : (s r : PortState) (w x : WatchData) (t : TrailData) (ds : List Cref) → DroppedAll s r ds → All (λ (c : Cref). is_reason t.steps c.address ≡ false) ds → x.vars ≡ w.vars → attached x ≡ without_all (attached w) ds
    → (Watched w (lits_at s) t → Watched x (lits_at s) t) → StaysReady s r w x t
ready_dropped s r w x t ds k free vars e good = record {
  vars = vars;
  watched = λ h. Watched-port x (lits_at s) (lits_at r) t (λ c m. lits_same s r c.address (as_held c m)) (good h);
  reasons = λ h. Reasons-more (without_all (attached w) ds) (attached x) s r t.steps
      (λ c m. (subst (λ (cs : List Cref). Contains cs c) (sym e) m, clause_same s r c.address (as_held c (subst (λ (cs : List Cref). Contains cs c) (sym e) m))))
      (λ l q. subst (λ (z : PortState). has z.seen l ≡ true) (sym k.state) q)
      (reasons_left (attached w) ds s t.steps free h);
  closed = closed;
  quiet = λ h. record { done = h.done; closed = λ n. closed n (h.closed n) };
}
  where
    left : (c : Cref) → Contains (attached x) c → In c (attached w) × (is_among ds c.address ≡ false)
    left c m = stayed (attached w) ds c (subst (λ (cs : List Cref). In c cs) e (Contains_In (attached x) c m))

    as_held : (c : Cref) → Contains (attached x) c → held_at r c.address ≡ held_at s c.address
    as_held c m = k.others c.address (λ d there. no_other ds c.address (left c m).1 d there)

    closed : (n : ℕ) → IsClosed (clauses_of w (lits_at s)) t.steps n → IsClosed (clauses_of x (lits_at r)) t.steps n
    closed n h c there =
        let m = map_In (λ (d : Cref). lits_at r d.address) (attached x) c (Contains_In (clauses_of x (lits_at r)) c there) in
        let at = In_Contains (attached x) m.0 m.1 in
        let is : lits_at s m.0.address ≡ c = sym (lits_same s r m.0.address (as_held m.0 at)) ∙ m.2 in
        h c (In_Contains (clauses_of w (lits_at s)) c (subst (λ (d : List Literal). In d (clauses_of w (lits_at s))) is (In_map (λ (d : Cref). lits_at s d.address) (attached w) m.0 (left m.0 at).0)))
