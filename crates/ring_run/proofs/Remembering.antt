-- What a ring learned and wrote is among what is attached and seen.
use Rattle.std.proofs.Common.{◌≡◌, ◌∙◌, ℕ, ◌==◌, ◌≤◌, ◌⊎◌, inl, inr, Bool, true, false, not, List, [], ◌∷◌, ◌++◌, length, map, cond, sym, subst, ap, arith, refl, Contains, eq-eqb}
use Rattle.std.specs.Prelude.{All, ◌&&◌, ◌||◌}
use Rattle.std.specs.List.{list_any, list_all, filter}
use Rattle.std.specs.declared.option.Option.{Option}
use Rattle.std.proofs.lemmas.Bool.{or_left, or_right, or_cases, and_parts, and_from, false≢true}
use Rattle.std.proofs.lemmas.List.{map-append}
use Rattle.std.proofs.lemmas.List.Elements.{filter-append}
use Rattle.std.proofs.lemmas.List.Folds.{list_any-append}
use Rattle.sat_words.specs.Literal.{Literal, same}
use Rattle.sat_words.specs.Clause.{has, same_set, distinct_lits}
use Rattle.sat_words.specs.declared.shared.Cref.{Cref}
use Rattle.sat_words.proofs.Members.{same-true, same-refl}
use Rattle.rup_model.specs.declared.journal.Kind.{Kind}
use Rattle.rup_model.specs.declared.journal.Kind.TheVariants.{Learn}
use Rattle.rup_model.specs.declared.journal.Entry.{Entry}
use Rattle.rup_model.specs.declared.journal.Entry.TheVariants.{Add}
use Rattle.rup_model.specs.declared.journal.Addition.{Addition}
use Rattle.rup_model.specs.Journal.{additions, learned, recent, recent_after, is_learn}
use Rattle.rup_model.specs.Opening.{adds_unit}
use Rattle.rup_model.proofs.Additions.{additions-append}
use Rattle.rup_model.proofs.Lists.{In, Contains_In, In_Contains, In_append, In_append_left, In_append_right, In_map, map_In}
use Rattle.rup_model.proofs.Sequences.{fold_last}
use Rattle.ring_port.specs.PortState.{PortState, Holding, held_at, lits_at, lits_in, clause_at}
use Rattle.ring_port.specs.Port.{LearnedClause, WroteUnit, KeepsHeld}
use Rattle.std.specs.Option.{option_map}
use Rattle.watch_prop.specs.WatchData.{Lits}
use Rattle.ring_run.specs.Searching.{IsHeldBy, IsAmong, Remembers}

-- What stays held

pub held_same : (s u : PortState) (a : ℕ) → u.held ≡ s.held → held_at u a ≡ held_at s a
unfolding held_at
held_same s u a e = ap (λ (hs : List Holding). held_at (record s { held = hs }) a) e

pub lits_same : (s u : PortState) → u.held ≡ s.held → lits_at u ≡ lits_at s
unfolding held_at
lits_same s u e = ap (λ (hs : List Holding). lits_at (record s { held = hs })) e

-- each clause is held where it was
abbrev pub HoldsAlike : PortState → PortState → Type 0
HoldsAlike s u = (a : ℕ) → held_at u a ≡ held_at s a

pub lits_alike : (s u : PortState) → HoldsAlike s u → lits_at u ≡ lits_at s
lits_alike s u e = λ i a. lits_in (e a i)

pub clause_alike : (s u : PortState) → HoldsAlike s u → (a : ℕ) → clause_at u a ≡ clause_at s a
clause_alike s u e a = ap (option_map (λ (h : Holding). h.lits)) (e a)

pub clause_at_same : (s u : PortState) → u.held ≡ s.held → (a : ℕ) → clause_at u a ≡ clause_at s a
clause_at_same s u e a = clause_alike s u (λ b. held_same s u b e) a

-- of each clause attached
abbrev pub LitsStay : PortState → PortState → List Cref → Type 0
LitsStay s u cs = (c : Cref) → Contains cs c → lits_at u c.address ≡ lits_at s c.address

pub lits_kept : (s u : PortState) (cs : List Cref) → KeepsHeld s u → All (IsHeldBy s) cs → LitsStay s u cs
lits_kept s u cs kept held c there = ap lits_in (kept c.address (subst (IsHeldBy s) there.2 (held there.0 c there.1)))

-- the literals of a clause attached are among theirs
pub stands_there : (s : PortState) (cs : List Cref) (c : Cref) → Contains cs c → Contains (map (λ (x : Cref). lits_at s x.address) cs) (lits_at s c.address)
stands_there s cs c there =
    In_Contains (map (λ (x : Cref). lits_at s x.address) cs) (lits_at s c.address) (In_map (λ (x : Cref). lits_at s x.address) cs c (Contains_In cs c there))

-- What the ring learned

learned_is : (r : ℕ) (x : Addition) (d : List Literal) → In d (learned r (Add x ∷ [])) → x.lits ≡ d
learned_is r x d h = by ((x.ring == r) && is_learn x.kind) h
  where
    by : (b : Bool) → In d (map (λ (y : Addition). y.lits) (cond b (x ∷ []) [])) → x.lits ≡ d
    by true (inl e) = e
    by true (inr none) = absurd none
    by false none = absurd none

-- one entry more
pub recent_cases : (r : ℕ) (J : List Entry) (x : Addition) (d : List Literal) → In d (recent r (J ++ Add x ∷ [])) → In d (recent r J) ⊎ (x.lits ≡ d)
recent_cases r J x d h =
    let more : recent r (J ++ Add x ∷ []) ≡ recent r J ++ learned r (Add x ∷ []) = fold_last (recent_after r) [] J (Add x) in
    elim (In_append (recent r J) (learned r (Add x ∷ [])) d (subst (In d) more h)) as (λ _. In d (recent r J) ⊎ (x.lits ≡ d)) [
      | inl old ↦ inl old
      | inr new ↦ inr (learned_is r x d new)
    ]

-- the units of entries and of more after them
pub adds_append : (r : ℕ) (J K : List Entry) (l : Literal) → adds_unit r (J ++ K) l ≡ (adds_unit r J l || adds_unit r K l)
adds_append r J K l =
    let p : Addition → Bool = λ y. y.ring == r in
    let lits : Addition → List Literal = λ y. y.lits in
    let parts : map lits (filter p (additions (J ++ K))) ≡ map lits (filter p (additions J)) ++ map lits (filter p (additions K))
    = ap (λ (ys : List Addition). map lits (filter p ys)) (additions-append J K) ∙ ap (map lits) (filter-append p (additions J) (additions K))
    ∙ map-append lits (filter p (additions J)) (filter p (additions K)) in
    ap (list_any (same_set (l ∷ []))) parts ∙ list_any-append (same_set (l ∷ [])) (map lits (filter p (additions J))) (map lits (filter p (additions K)))

pub unit_cases : (r : ℕ) (J : List Entry) (x : Addition) (l : Literal) → adds_unit r (J ++ Add x ∷ []) l ≡ true → (adds_unit r J l ≡ true) ⊎ (same_set (l ∷ []) x.lits ≡ true)
unit_cases r J x l h =
    elim (or_cases (adds_unit r J l) (adds_unit r (Add x ∷ []) l) (sym (adds_append r J (Add x ∷ []) l) ∙ h)) as (λ _. (adds_unit r J l ≡ true) ⊎ (same_set (l ∷ []) x.lits ≡ true)) [
      | inl old ↦ inl old
      | inr new ↦ inr (by (x.ring == r) new)
    ]
  where
    by : (b : Bool) → list_any (same_set (l ∷ [])) (map (λ (y : Addition). y.lits) (cond b (x ∷ []) [])) ≡ true → same_set (l ∷ []) x.lits ≡ true
    by true e = elim (or_cases (same_set (l ∷ []) x.lits) false e) as (λ _. same_set (l ∷ []) x.lits ≡ true) [ inl y ↦ y | inr n ↦ absurd (false≢true n) ]
    by false e = absurd (false≢true e)

-- the literals of a unit clause
same_unit : (l k : Literal) → same_set (l ∷ []) (k ∷ []) ≡ true → l ≡ k
same_unit l k e = by (and_parts (list_all (has (l ∷ [])) (k ∷ [])) (list_all (has (k ∷ [])) (l ∷ [])) e).1
  where
    by : (has (k ∷ []) l && true) ≡ true → l ≡ k
    by h =
        elim (or_cases (same l k) false (and_parts (has (k ∷ []) l) true h).0) as (λ _. l ≡ k) [
          | inl is ↦ same-true l k is
          | inr none ↦ absurd (false≢true none)
        ]

-- the line of a unit adds that unit
pub adds_one : (r : ℕ) (x : Addition) (l k : Literal) → x.ring ≡ r → x.lits ≡ l ∷ [] → adds_unit r (Add x ∷ []) k ≡ same l k
adds_one r x l k ring lits = alike (adds_unit r (Add x ∷ []) k) (same l k) (λ h.
    elim (unit_cases r [] x k h) as (λ _. same l k ≡ true) [
      | inl none ↦ absurd (false≢true none)
      | inr is ↦ ap (same l) (same_unit k l (ap (same_set (k ∷ [])) (sym lits) ∙ is)) ∙ same-refl l
    ]) (λ h. by (x.ring == r) (eq-eqb x.ring r ring) (ap (same_set (k ∷ [])) lits ∙ ap (λ (m : Literal). same_set (k ∷ []) (m ∷ [])) (same-true l k h) ∙ own k))
  where
    own : (m : Literal) → same_set (m ∷ []) (m ∷ []) ≡ true
    own m =
        let inside : (has (m ∷ []) m && true) ≡ true = and_from (has (m ∷ []) m) true (or_left (same m m) false (same-refl m)) refl in
        and_from (list_all (has (m ∷ [])) (m ∷ [])) (list_all (has (m ∷ [])) (m ∷ [])) inside inside

    alike : (b c : Bool) → (b ≡ true → c ≡ true) → (c ≡ true → b ≡ true) → b ≡ c
    alike true c there back = sym (there refl)
    alike false true there back = back refl
    alike false false there back = refl

    by : (b : Bool) → b ≡ true → same_set (k ∷ []) x.lits ≡ true → list_any (same_set (k ∷ [])) (map (λ (y : Addition). y.lits) (cond b (x ∷ []) [])) ≡ true
    by true is e = or_left (same_set (k ∷ []) x.lits) false e
    by false is e = absurd (false≢true is)

-- no clause of two literals that differ is a unit
pub no_unit : (l : Literal) (c : List Literal) → 2 ≤ length c → distinct_lits c ≡ true → same_set (l ∷ []) c ≡ true → ⊥
no_unit l [] long distinct e = absurd (omega arith)
no_unit l (a ∷ []) long distinct e = absurd (omega arith)
no_unit l (a ∷ b ∷ c) long distinct e =
    let all = (and_parts (list_all (has (l ∷ [])) (a ∷ b ∷ c)) (list_all (has (a ∷ b ∷ c)) (l ∷ [])) e).0 in
    let first = and_parts (has (l ∷ []) a) (has (l ∷ []) b && list_all (has (l ∷ [])) c) all in
    let second = and_parts (has (l ∷ []) b) (list_all (has (l ∷ [])) c) first.1 in
    let alike : a ≡ b = one a first.0 ∙ sym (one b second.0) in
    let twice : has (b ∷ c) a ≡ true = or_left (same a b) (has c a) (ap (same a) (sym alike) ∙ same-refl a) in
    differ (has (b ∷ c) a) (distinct_lits (b ∷ c)) twice distinct
  where
    one : (k : Literal) → has (l ∷ []) k ≡ true → k ≡ l
    one k h =
        elim (or_cases (same k l) false h) as (λ _. k ≡ l) [
          | inl is ↦ same-true k l is
          | inr none ↦ absurd (false≢true none)
        ]

    differ : (x y : Bool) → x ≡ true → (not x && y) ≡ true → ⊥
    differ true y p q = false≢true q
    differ false y p q = false≢true p

-- what is attached and seen stays so
among_more : (s u : PortState) (cs ds : List Cref) → LitsStay s u cs → ((c : Cref) → Contains cs c → Contains ds c) → ((l : Literal) → has s.seen l ≡ true → has u.seen l ≡ true)
    → (d : List Literal) → IsAmong s cs d → IsAmong u ds d
among_more s u cs ds stay into more d (inl there) =
    let t = map_In (λ (x : Cref). lits_at s x.address) cs d (Contains_In (map (λ (x : Cref). lits_at s x.address) cs) d there) in
    let inside : Contains cs t.0 = In_Contains cs t.0 t.1 in
    inl (In_Contains (map (λ (x : Cref). lits_at u x.address) ds) d
    (subst (λ (c : List Literal). In c (map (λ (x : Cref). lits_at u x.address) ds)) (stay t.0 inside ∙ t.2)
    (In_map (λ (x : Cref). lits_at u x.address) ds t.0 (Contains_In ds t.0 (into t.0 inside)))))
among_more s u cs ds stay into more d (inr unit) = inr (record { lit = unit.lit; unit = unit.unit; seen = more unit.lit unit.seen })

-- a call that added nothing
pub remembered_as : (s u : PortState) (cs ds : List Cref) → recent u.ring u.mine ≡ recent s.ring s.mine → ((l : Literal) → adds_unit u.ring u.mine l ≡ adds_unit s.ring s.mine l) → LitsStay s u cs → ((c : Cref) → Contains cs c → Contains ds c)
    → ((l : Literal) → has s.seen l ≡ true → has u.seen l ≡ true) → Remembers s cs → Remembers u ds
remembered_as s u cs ds lemmas units stay into more p = record {
  lemmas = λ d h. among_more s u cs ds stay into more d (p.lemmas d (subst (λ (G : List (List Literal)). Contains G d) lemmas h));
  units = λ l h. more l (p.units l (sym (units l) ∙ h));
}

-- a call that added no entry
pub remembered_same : (s u : PortState) (cs : List Cref) → u.ring ≡ s.ring → u.mine ≡ s.mine → LitsStay s u cs → ((l : Literal) → has s.seen l ≡ true → has u.seen l ≡ true) → Remembers s cs → Remembers u cs
remembered_same s u cs ring mine stay more p = record {
  lemmas = λ d h. among_more s u cs cs stay (λ c there. there) more d
      (p.lemmas d (subst (λ (r : ℕ). Contains (recent r s.mine) d) ring (subst (λ (J : List Entry). Contains (recent u.ring J) d) mine h)));
  units = λ l h. more l (p.units l (ap (λ (r : ℕ). adds_unit r s.mine l) (sym ring) ∙ ap (λ (J : List Entry). adds_unit u.ring J l) (sym mine) ∙ h));
}

-- a call that added one
remembered_entry : (s u : PortState) (cs ds : List Cref) (x : Addition) → u.ring ≡ s.ring → u.mine ≡ s.mine ++ Add x ∷ [] → LitsStay s u cs → ((c : Cref) → Contains cs c → Contains ds c)
    → ((l : Literal) → has s.seen l ≡ true → has u.seen l ≡ true) → IsAmong u ds x.lits → ((l : Literal) → same_set (l ∷ []) x.lits ≡ true → has u.seen l ≡ true) → Remembers s cs → Remembers u ds
remembered_entry s u cs ds x ring mine stay into more own unit p = record {
  lemmas = λ d h. elim (recent_cases s.ring s.mine x d (Contains_In (recent s.ring (s.mine ++ Add x ∷ [])) d
      (subst (λ (r : ℕ). Contains (recent r (s.mine ++ Add x ∷ [])) d) ring (subst (λ (J : List Entry). Contains (recent u.ring J) d) mine h)))) as (λ _. IsAmong u ds d) [
        | inl old ↦ among_more s u cs ds stay into more d (p.lemmas d (In_Contains (recent s.ring s.mine) d old))
        | inr is ↦ subst (IsAmong u ds) is own
      ];
  units = λ l h. elim (unit_cases s.ring s.mine x l (ap (λ (r : ℕ). adds_unit r (s.mine ++ Add x ∷ []) l) (sym ring) ∙ ap (λ (J : List Entry). adds_unit u.ring J l) (sym mine) ∙ h)) as (λ _. has u.seen l ≡ true) [
    | inl old ↦ more l (p.units l old)
    | inr new ↦ unit l new
  ];
}

pub unit_remembered : (s u : PortState) (l : Literal) (kind : Kind) (last : Option ℕ) → WroteUnit s u l kind last → (cs : List Cref) → Remembers s cs → Remembers u cs
unit_remembered s u l kind last w cs p =
    let x : Addition = record { ring = s.ring; number = w.number; lits = l ∷ []; kind = kind; hints = w.hints } in
    let seen : has u.seen l ≡ true = w.sees l ∙ or_right (has s.seen l) (same l l) (same-refl l) in
    remembered_entry s u cs cs x (ap (λ (y : PortState). y.ring) w.state) (ap (λ (y : PortState). y.mine) w.state)
    (λ c there. ap (λ (f : Lits). f c.address) (lits_same s u (ap (λ (y : PortState). y.held) w.state))) (λ c there. there)
    (λ k h. w.sees k ∙ or_left (has s.seen k) (same l k) h)
    (inr (record { lit = l; unit = refl; seen = seen }))
    (λ k h. ap (has u.seen) (same_unit k l h) ∙ seen) p

-- each unit that the ring added is seen, one more too
pub added_seen : (s u : PortState) (l : Literal) (kind : Kind) (last : Option ℕ) → WroteUnit s u l kind last → ((k : Literal) → adds_unit s.ring s.mine k ≡ true → has s.seen k ≡ true)
    → (k : Literal) → adds_unit u.ring u.mine k ≡ true → has u.seen k ≡ true
added_seen s u l kind last w p k h =
    let x : Addition = record { ring = s.ring; number = w.number; lits = l ∷ []; kind = kind; hints = w.hints } in
    let ring = ap (λ (y : PortState). y.ring) w.state in
    let mine = ap (λ (y : PortState). y.mine) w.state in
    elim (unit_cases s.ring s.mine x k (ap (λ (r : ℕ). adds_unit r (s.mine ++ Add x ∷ []) k) (sym ring) ∙ ap (λ (J : List Entry). adds_unit u.ring J k) (sym mine) ∙ h)) as (λ _. has u.seen k ≡ true) [
      | inl old ↦ w.sees k ∙ or_left (has s.seen k) (same l k) (p k old)
      | inr new ↦ ap (has u.seen) (same_unit k l new) ∙ (w.sees l ∙ or_right (has s.seen l) (same l l) (same-refl l))
    ]

pub clause_remembered : (s u : PortState) (lits : List Literal) (glue : ℕ) (c : Cref) (cs : List Cref) → distinct_lits lits ≡ true → LearnedClause s u lits glue c → LitsStay s u cs → Remembers s cs → Remembers u (cs ++ c ∷ [])
clause_remembered s u lits glue c cs distinct w stay p =
    let x : Addition = record { ring = s.ring; number = w.number; lits = lits; kind = Learn; hints = w.hints } in
    let ds = cs ++ c ∷ [] in
    remembered_entry s u cs ds x (ap (λ (y : PortState). y.ring) w.state) (ap (λ (y : PortState). y.mine) w.state) stay
    (λ d there. In_Contains ds d (In_append_left cs (c ∷ []) d (Contains_In cs d there)))
    (λ k h. ap (λ (ls : List Literal). has ls k) (ap (λ (y : PortState). y.seen) w.state) ∙ h)
    (inl (In_Contains (map (λ (y : Cref). lits_at u y.address) ds) lits
    (subst (λ (d : List Literal). In d (map (λ (y : Cref). lits_at u y.address) ds)) (ap lits_in w.there)
    (In_map (λ (y : Cref). lits_at u y.address) ds c (In_append_right cs (c ∷ []) c (inl refl))))))
    (λ l h. absurd (no_unit l lits w.long distinct h)) p
