-- What each call of the port leaves of the offers that a ring counts.
use Rattle.std.proofs.Common.{◌≡◌, ◌∙◌, ℕ, ◌+◌, ◌-◌, ◌*◌, ◌^◌, ◌≤◌, ◌<◌, ◌==◌, ◌&&◌, min, not, Bool, true, false, List, [], ◌∷◌, ◌++◌, length, map, filter, cond, sym, subst, ap, arith, refl, Some, None, Ok, Err, nat_eq, nat_le, append-nil, length-append, eq-eqb}
use Rattle.std.specs.List.{range_with_len}
use Rattle.std.specs.Option.{option_and_then}
use Rattle.std.specs.Prelude.{Result}
use Rattle.std.specs.declared.option.Option.{Option}
use Rattle.std.proofs.lemmas.Bool.{false≢true}
use Rattle.std.proofs.lemmas.Bool.Decides.{nat_tests}
use Rattle.std.proofs.lemmas.List.Elements.{filter-append}
use Rattle.sat_words.specs.Literal.{Literal}
use Rattle.sat_words.specs.declared.shared.Cref.{Cref}
use Rattle.sat_words.specs.declared.shared.Stop.{Stop}
use Rattle.rup_model.specs.declared.journal.Kind.{Kind}
use Rattle.rup_model.specs.declared.journal.Kind.TheVariants.{Learn, Derive, UnitLine}
use Rattle.rup_model.specs.declared.journal.Entry.{Entry}
use Rattle.rup_model.specs.declared.journal.Entry.TheVariants.{Add}
use Rattle.rup_model.specs.declared.journal.Addition.{Addition}
use Rattle.rup_model.specs.Journal.{learned, is_learn}
use Rattle.rup_model.proofs.Additions.{learned-append}
use Rattle.ring_port.specs.PortState.{PortState, Holding, Offer, held_at}
use Rattle.ring_port.specs.Port.{Learned, LearnedClause, UnitWritten, EmptyWritten, Refused, Looked, SetStop, entry_of}
use Rattle.ring_port.specs.Exchange.{Offered, class_of, class_at, other_rings}
use Rattle.ring_port.specs.declared.stops.PortStop.{PortStop}
use Rattle.sat_words.specs.declared.shared.Set.{Set}
use Rattle.sat_words.specs.declared.shared.Set.TheVariants.{Won, Lost}
use Rattle.ring_run.specs.Ended.{HasOffered, is_short, is_long}
use Rattle.ring_run.specs.Searching.{OffersNothing, HasLent, HasLentBy}
use Rattle.ring_run.proofs.Tickets.{found_same}
use Rattle.ring_run.proofs.Progress.{Unchanged, same_refused}

pub nothing_same : (s u : PortState) → u.shared ≡ s.shared → u.polled ≡ s.polled → u.polls ≡ s.polls → u.polls_after ≡ s.polls_after → min s.caught_up (2 ^ 64 - 1) ≤ u.caught_up → u.ring ≡ s.ring → u.rings ≡ s.rings → u.depth ≡ s.depth → u.mine ≡ s.mine → u.found ≡ s.found → OffersNothing s u
nothing_same s u shared polled polls polls_after caught_up ring rings depth mine found = record {
  shared = shared;
  polled = polled;
  polls = polls;
  polls_after = polls_after;
  caught_up = caught_up;
  ring = ring;
  rings = rings;
  depth = depth;
  found = found;
  lemmas = ap (λ (r : ℕ). learned r u.mine) ring ∙ ap (learned s.ring) mine;
}

pub nothing_none : (s : PortState) → OffersNothing s s
nothing_none s = record { shared = refl; polled = refl; polls = refl; polls_after = refl; caught_up = omega arith; ring = refl; rings = refl; depth = refl; found = refl; lemmas = refl }

pub nothing_then : (s u w : PortState) → OffersNothing s u → OffersNothing u w → OffersNothing s w
nothing_then s u w p q = record { shared = q.shared ∙ p.shared; polled = q.polled ∙ p.polled; polls = q.polls ∙ p.polls; polls_after = q.polls_after ∙ p.polls_after; caught_up = omega (arith, p.caught_up, q.caught_up); ring = q.ring ∙ p.ring; rings = q.rings ∙ p.rings; depth = q.depth ∙ p.depth; found = q.found ∙ p.found; lemmas = q.lemmas ∙ p.lemmas }

pub nothing_refused : (s u : PortState) (stop : PortStop) → Refused s u stop → OffersNothing s u
nothing_refused s u stop r =
    let same : Unchanged s u = subst (Unchanged s) (sym r.state) (same_refused s u.output stop) in
    nothing_same s u same.shared same.polled same.polls same.polls_after (omega (arith, same.caught_up)) same.ring same.rings same.depth same.mine (found_same s u same.tickets)

-- an entry of another kind is none that was learned
not_among : (r : ℕ) (x : Addition) → is_learn x.kind ≡ false → learned r (Add x ∷ []) ≡ []
not_among r x e = ap (λ (b : Bool). map (λ (y : Addition). y.lits) (cond b (x ∷ []) [])) (both (nat_eq x.ring r) (is_learn x.kind) e)
  where
    both : (a b : Bool) → b ≡ false → (a && b) ≡ false
    both true b e = e
    both false b e = refl

same_lemmas : (s : PortState) (number : ℕ) (lits : List Literal) (kind : Kind) (hints : List ℕ) → is_learn kind ≡ false → learned s.ring (s.mine ++ entry_of s number lits kind hints ∷ []) ≡ learned s.ring s.mine
same_lemmas s number lits kind hints other =
    learned-append s.ring s.mine (entry_of s number lits kind hints ∷ [])
    ∙ ap (λ (G : List (List Literal)). learned s.ring s.mine ++ G) (not_among s.ring (record { ring = s.ring; number = number; lits = lits; kind = kind; hints = hints }) other)
    ∙ append-nil (learned s.ring s.mine)

nothing_added : (s u : PortState) (number : ℕ) (lits : List Literal) (kind : Kind) (hints : List ℕ) → is_learn kind ≡ false → u.shared ≡ s.shared → u.polled ≡ s.polled → u.polls ≡ s.polls → u.polls_after ≡ s.polls_after → min s.caught_up (2 ^ 64 - 1) ≤ u.caught_up → u.ring ≡ s.ring → u.rings ≡ s.rings → u.depth ≡ s.depth
    → u.mine ≡ s.mine ++ entry_of s number lits kind hints ∷ [] → u.found ≡ s.found → OffersNothing s u
nothing_added s u number lits kind hints other shared polled polls polls_after caught_up ring rings depth mine found = record {
  shared = shared;
  polled = polled;
  polls = polls;
  polls_after = polls_after;
  caught_up = caught_up;
  ring = ring;
  rings = rings;
  depth = depth;
  found = found;
  lemmas = ap (λ (r : ℕ). learned r u.mine) ring ∙ ap (learned s.ring) mine ∙ same_lemmas s number lits kind hints other;
}

pub nothing_unit : (s u : PortState) (l : Literal) (r : Result (Unit {0}) PortStop) → UnitWritten s u l r → OffersNothing s u
nothing_unit s u l (Ok done) w =
    nothing_added s u w.number (l ∷ []) UnitLine w.hints refl (ap (λ (x : PortState). x.shared) w.state) (ap (λ (x : PortState). x.polled) w.state) (ap (λ (x : PortState). x.polls) w.state) (ap (λ (x : PortState). x.polls_after) w.state) (omega (arith, w.looked)) (ap (λ (x : PortState). x.ring) w.state) (ap (λ (x : PortState). x.rings) w.state) (ap (λ (x : PortState). x.depth) w.state) (ap (λ (x : PortState). x.mine) w.state) (ap (λ (x : PortState). x.found) w.state)
nothing_unit s u l (Err stop) w = nothing_refused s u stop w

pub nothing_empty : (s u : PortState) (r : Result (Unit {0}) PortStop) → EmptyWritten s u r → OffersNothing s u
nothing_empty s u (Ok done) w =
    nothing_added s u w.number [] Derive w.hints refl (ap (λ (x : PortState). x.shared) w.state) (ap (λ (x : PortState). x.polled) w.state) (ap (λ (x : PortState). x.polls) w.state) (ap (λ (x : PortState). x.polls_after) w.state) (let same = ap (λ (x : PortState). x.caught_up) w.state in omega (arith, same)) (ap (λ (x : PortState). x.ring) w.state) (ap (λ (x : PortState). x.rings) w.state) (ap (λ (x : PortState). x.depth) w.state) (ap (λ (x : PortState). x.mine) w.state) (ap (λ (x : PortState). x.found) w.state)
nothing_empty s u (Err stop) w = nothing_refused s u stop w

nothing_is : (s u : PortState) (looks : ℕ) (stop : Option Stop) → u ≡ record s { looks = looks; stop = stop } → OffersNothing s u
nothing_is s u looks stop is = nothing_same s u (ap (λ (x : PortState). x.shared) is) (ap (λ (x : PortState). x.polled) is) (ap (λ (x : PortState). x.polls) is) (ap (λ (x : PortState). x.polls_after) is) (let same = ap (λ (x : PortState). x.caught_up) is in omega (arith, same)) (ap (λ (x : PortState). x.ring) is) (ap (λ (x : PortState). x.rings) is) (ap (λ (x : PortState). x.depth) is) (ap (λ (x : PortState). x.mine) is) (ap (λ (x : PortState). x.found) is)

pub nothing_looked : (s u : PortState) (o : Option Stop) → Looked s u o → OffersNothing s u
nothing_looked s u None w = nothing_is s u _ s.stop w.1
nothing_looked s u (Some x) w = nothing_is s u s.looks (Some x) w.1

pub nothing_set : (s u : PortState) (kind : ℕ) (r : Set) → SetStop s u kind r → OffersNothing s u
nothing_set s u kind Won w = nothing_is s u s.looks _ w.1
nothing_set s u kind (Lost x) w = nothing_is s u s.looks _ w.1

pub others_same : (s u : PortState) → u.ring ≡ s.ring → u.rings ≡ s.rings → length (other_rings u) ≡ length (other_rings s)
others_same s u ring rings =
    ap (λ (r : ℕ). length (filter (λ (x : ℕ). not (x == r)) (range_with_len 0 u.rings))) ring
    ∙ ap (λ (n : ℕ). length (filter (λ (x : ℕ). not (x == s.ring)) (range_with_len 0 n))) rings

-- the counts stay true
pub offers_kept : (s u : PortState) (e o : ℕ) → u.shared ≡ s.shared → u.ring ≡ s.ring → u.rings ≡ s.rings → learned u.ring u.mine ≡ learned s.ring s.mine → HasOffered s e o → HasOffered u e o
offers_kept s u e o shared ring rings lemmas h = record {
  shared = shared ∙ h.shared ∙ ap (λ (n : ℕ). n * e) (sym (others_same s u ring rings));
  all = subst (λ (G : List (List Literal)). length (filter is_short G) ≤ e) (sym lemmas) h.all;
  few = subst (λ (G : List (List Literal)). e ≤ length (filter is_long G)) (sym lemmas) h.few;
  told = h.told ∙ ap (λ (n : ℕ). min n (2 ^ 64 - 1)) (sym shared);
}

pub offers_stay : (s u : PortState) (e o : ℕ) → OffersNothing s u → HasOffered s e o → HasOffered u e o
offers_stay s u e o p h = offers_kept s u e o p.shared p.ring p.rings p.lemmas h

-- before anything was learned
pub offers_begin : (s : PortState) → s.shared ≡ 0 → s.mine ≡ [] → HasOffered s 0 0
offers_begin s shared mine = record {
  shared = shared ∙ omega arith;
  all = subst (λ (J : List Entry). length (filter is_short (learned s.ring J)) ≤ 0) (sym mine) (omega arith);
  few = omega arith;
  told = ap (λ (n : ℕ). min n (2 ^ 64 - 1)) (sym shared);
}

-- what a lemma adds

among : (r : ℕ) (x : Addition) → x.ring ≡ r → is_learn x.kind ≡ true → learned r (Add x ∷ []) ≡ x.lits ∷ []
among r x same_ring e = ap (λ (b : Bool). map (λ (y : Addition). y.lits) (cond b (x ∷ []) [])) (both (nat_eq x.ring r) (is_learn x.kind) (eq-eqb x.ring r same_ring) e)
  where
    both : (a b : Bool) → a ≡ true → b ≡ true → (a && b) ≡ true
    both true b p q = q
    both false b p q = absurd (false≢true p)

lemmas_more : (s u : PortState) (number : ℕ) (lits : List Literal) (hints : List ℕ) → u.ring ≡ s.ring → u.mine ≡ s.mine ++ entry_of s number lits Learn hints ∷ [] → learned u.ring u.mine ≡ learned s.ring s.mine ++ lits ∷ []
lemmas_more s u number lits hints ring mine =
    ap (λ (r : ℕ). learned r u.mine) ring ∙ ap (learned s.ring) mine ∙ learned-append s.ring s.mine (entry_of s number lits Learn hints ∷ [])
    ∙ ap (λ (G : List (List Literal)). learned s.ring s.mine ++ G) (among s.ring (record { ring = s.ring; number = number; lits = lits; kind = Learn; hints = hints }) refl refl)

count_one : (p : List Literal → Bool) (G : List (List Literal)) (c : List Literal) → length (filter p (G ++ c ∷ [])) ≡ length (filter p G) + cond (p c) 1 0
count_one p G c =
    ap length (filter-append p G (c ∷ [])) ∙ length-append (filter p G) (filter p (c ∷ [])) ∙ ap (λ (n : ℕ). length (filter p G) + n) (alone (p c))
  where
    alone : (b : Bool) → length (cond b (c ∷ []) []) ≡ cond b 1 0
    alone true = refl
    alone false = refl

at_most_one : (b : Bool) → cond b 1 0 ≤ 1
at_most_one true = omega arith
at_most_one false = omega arith

-- of two to seven literals, and of less glue, each clause has a class; and only clauses of two literals or more have one
no_class : (size glue : ℕ) → class_of size glue ≡ None → 1 ≤ glue → glue < size → (nat_le 2 size && nat_le size 7) ≡ false
no_class size glue is some few = grind (arith, nat_tests)

min_more : (a n m : ℕ) → min (min a m + n) m ≡ min (a + n) m
min_more a n m = omega arith

spread : (n e : ℕ) → n * (e + 1) ≡ n * e + n
spread n e = omega arith

long_true : (c : List Literal) → 2 ≤ length c → is_long c ≡ true
long_true c h = grind (arith, nat_tests)

module _ (s u v : PortState) (e o more told glue : ℕ) (lits : List Literal) (h : HasOffered s e o) where
  offers_plain : (number : ℕ) (hints : List ℕ) → u.shared ≡ s.shared → u.ring ≡ s.ring → u.rings ≡ s.rings → u.mine ≡ s.mine ++ entry_of s number lits Learn hints ∷ [] → is_short lits ≡ false → HasOffered u e o
  offers_plain number hints shared ring rings mine not_short =
      let G = learned s.ring s.mine in
      let lemmas = lemmas_more s u number lits hints ring mine in
      record {
        shared = shared ∙ h.shared ∙ ap (λ (n : ℕ). n * e) (sym (others_same s u ring rings));
        all = subst (λ (K : List (List Literal)). length (filter is_short K) ≤ e) (sym lemmas)
            (let one = count_one is_short G lits in let none = ap {B = ℕ} (λ (b : Bool). cond b 1 0) not_short in omega (arith, one, none, h.all));
        few = subst (λ (K : List (List Literal)). e ≤ length (filter is_long K)) (sym lemmas) (let one = count_one is_long G lits in omega (arith, one, h.few));
        told = h.told ∙ ap (λ (n : ℕ). min n (2 ^ 64 - 1)) (sym shared);
      }

  offers_one : (number class address : ℕ) (hints : List ℕ) → u.shared ≡ s.shared → u.ring ≡ s.ring → u.rings ≡ s.rings → u.mine ≡ s.mine ++ entry_of s number lits Learn hints ∷ [] → 2 ≤ length lits → Offered u v class address
      → more ≡ e + 1 → told ≡ min (o + length (other_rings u)) (2 ^ 64 - 1) → HasOffered v more told
  offers_one number class address hints shared ring rings mine long lent is_more is_told =
      let G = learned s.ring s.mine in
      let ring_v : v.ring ≡ u.ring = ap (λ (x : PortState). x.ring) lent.state in
      let rings_v : v.rings ≡ u.rings = ap (λ (x : PortState). x.rings) lent.state in
      let lemmas_v : learned v.ring v.mine ≡ learned u.ring u.mine = ap (λ (x : PortState). learned x.ring x.mine) lent.state in
      let lemmas = lemmas_v ∙ lemmas_more s u number lits hints ring mine in
      let n : ℕ = length (other_rings s) in
      let of_u : length (other_rings u) ≡ n = others_same s u ring rings in
      let of_v : length (other_rings v) ≡ n = others_same u v ring_v rings_v ∙ of_u in
      let lent_shared : v.shared ≡ u.shared + length (other_rings u) = ap (λ (x : PortState). x.shared) lent.state in
      let sum_is : v.shared ≡ s.shared + n = omega (arith, lent_shared, shared, of_u) in
      record {
        shared = sum_is ∙ ap (λ (k : ℕ). k + n) h.shared ∙ sym (spread n e) ∙ ap (λ (k : ℕ). n * k) (sym is_more) ∙ ap (λ (k : ℕ). k * more) (sym of_v);
        all = subst (λ (K : List (List Literal)). length (filter is_short K) ≤ more) (sym lemmas)
            (let one = count_one is_short G lits in let most = at_most_one (is_short lits) in omega (arith, one, most, h.all, is_more));
        few = subst (λ (K : List (List Literal)). more ≤ length (filter is_long K)) (sym lemmas)
            (let one = count_one is_long G lits in let is = ap {B = ℕ} (λ (b : Bool). cond b 1 0) (long_true lits long) in omega (arith, one, is, h.few, is_more));
        told = is_told ∙ ap (λ (k : ℕ). min (o + k) (2 ^ 64 - 1)) of_u ∙ ap (λ (k : ℕ). min (k + n) (2 ^ 64 - 1)) h.told ∙ min_more s.shared n (2 ^ 64 - 1) ∙ ap (λ (k : ℕ). min k (2 ^ 64 - 1)) (sym sum_is);
      }

-- the class of what was learned
class_learned : (s u : PortState) (lits : List Literal) (glue : ℕ) (c : Cref) → LearnedClause s u lits glue c → class_at u c.address ≡ class_of (length lits) glue
class_learned s u lits glue c w = ap (option_and_then (λ (k : Holding). class_of (length k.lits) k.glue)) w.there

pub offers_learned : (s u v : PortState) (e o more told glue : ℕ) (lits : List Literal) (address : Option Cref) → HasOffered s e o → Learned s u lits glue (Ok address)
    → (2 ≤ length lits → (1 ≤ glue) × (glue < length lits)) → HasLent u v address e o more told → HasOffered v more told
offers_learned s u v e o more told glue lits None h w bounds lent =
    let not_short : is_short lits ≡ false = subst (λ (c : List Literal). is_short c ≡ false) (sym w.unit) refl in
    let here = offers_plain s u u e o e o glue lits h w.wrote.number w.wrote.hints (ap (λ (x : PortState). x.shared) w.wrote.state) (ap (λ (x : PortState). x.ring) w.wrote.state) (ap (λ (x : PortState). x.rings) w.wrote.state)
    (ap (λ (x : PortState). x.mine) w.wrote.state ∙ ap (λ (c : List Literal). s.mine ++ entry_of s w.wrote.number c Learn w.wrote.hints ∷ []) (sym w.unit)) not_short in
    subst (λ (x : PortState). HasOffered x more told) (sym lent.0) (subst (λ (n : ℕ). HasOffered u n told) (sym lent.1) (subst (HasOffered u e) (sym lent.2) here))
offers_learned s u v e o more told glue lits (Some c) h w bounds lent =
    by (class_of (length lits) glue) refl (subst (λ (k : Option ℕ). HasLentBy u v k c.address e o more told) (class_learned s u lits glue c w) lent)
  where
    shared_u : u.shared ≡ s.shared
    shared_u = ap (λ (x : PortState). x.shared) w.state

    ring_u : u.ring ≡ s.ring
    ring_u = ap (λ (x : PortState). x.ring) w.state

    rings_u : u.rings ≡ s.rings
    rings_u = ap (λ (x : PortState). x.rings) w.state

    mine_u : u.mine ≡ s.mine ++ entry_of s w.number lits Learn w.hints ∷ []
    mine_u = ap (λ (x : PortState). x.mine) w.state

    by : (k : Option ℕ) → class_of (length lits) glue ≡ k → HasLentBy u v k c.address e o more told → HasOffered v more told
    by None is q =
        let b = bounds w.long in
        let here = offers_plain s u u e o e o glue lits h w.number w.hints shared_u ring_u rings_u mine_u (no_class (length lits) glue is b.0 b.1) in
        subst (λ (x : PortState). HasOffered x more told) (sym q.0) (subst (λ (n : ℕ). HasOffered u n told) (sym q.1) (subst (HasOffered u e) (sym q.2) here))
    by (Some class) is q = offers_one s u v e o more told glue lits h w.number class c.address w.hints shared_u ring_u rings_u mine_u w.long q.0 q.1 q.2

-- what an offer leaves as it was: each clause is held where it was
pub record OnlyLent (old new : PortState) : Type 0 where
  pub state : new ≡ record old { held = new.held; shared = new.shared; puts = new.puts; waiting = new.waiting; last = new.last }
  pub same : (a : ℕ) → held_at new a ≡ held_at old a

lent_eta : (u : PortState) (held : List Holding) (shared : ℕ) (puts : List Offer) (waiting : List Holding) (last : Option ℕ)
    → ((a : ℕ) → held_at (record u { held = held; shared = shared; puts = puts; waiting = waiting; last = last }) a ≡ held_at u a)
    → OnlyLent u (record u { held = held; shared = shared; puts = puts; waiting = waiting; last = last })
lent_eta u held shared puts waiting last same = record { state = refl; same = same }

lent_none : (u v : PortState) → v ≡ u → OnlyLent u v
lent_none u v is = subst (OnlyLent u) (sym is) (record { state = refl; same = λ a. refl })

lent_by : (u v : PortState) (k : Option ℕ) (a e o more told : ℕ) → HasLentBy u v k a e o more told → OnlyLent u v
lent_by u v None a e o more told lent = lent_none u v lent.0
lent_by u v (Some class) a e o more told lent =
    subst (OnlyLent u) (sym lent.0.state) (lent_eta u v.held _ _ _ None (subst (λ (x : PortState). (b : ℕ) → held_at x b ≡ held_at u b) lent.0.state lent.0.same))

pub only_lent : (u v : PortState) (address : Option Cref) (e o more told : ℕ) → HasLent u v address e o more told → OnlyLent u v
only_lent u v None e o more told lent = lent_none u v lent.0
only_lent u v (Some c) e o more told lent = lent_by u v (class_at u c.address) c.address e o more told lent
