-- Clauses come, each valid where it stands.
use Rattle.std.proofs.Common.{◌≡◌, ◌∙◌, ℕ, zero, suc, ◌+◌, ◌<◌, ◌≤◌, Bool, true, false, not, ◌||◌, List, [], ◌∷◌, ◌++◌, map, length, take, get_or, sym, refl, ap, subst, arith, inl, inr, ◌⊎◌, ⊎_elim, Contains, append-nil, append_assoc, length-append}
use Rattle.std.specs.List.{filter, All}
use Rattle.std.proofs.lemmas.Bool.{or_left, or_right, or_cases, cases_Bool, true≢false}
use Rattle.std.proofs.lemmas.List.{take_more}
use Rattle.std.proofs.lemmas.List.Elements.{Contains-get_or}
use Rattle.sat_words.specs.Literal.{Literal, opposite, same, IsOn}
use Rattle.sat_words.specs.Clause.{has, same_set, is_empty, clause_of}
use Rattle.sat_words.proofs.Members.{same-true, opposite-opposite}
use Rattle.rup_model.specs.Rup.{rup, rat, rat_on, resolvent}
use Rattle.rup_model.specs.declared.journal.Entry.{Entry}
use Rattle.rup_model.proofs.Covers.{has_same, same_back}
use Rattle.rup_model.proofs.Lists.{In, In_any, In_all, In_has, has_In, map_In, In_append, In_append_left, In_append_right, Contains_In, In_Contains}
use Rattle.rup_model.proofs.Quietly.{follows_unless, quiet_open}
use Rattle.drat_text.specs.LineState.{LineState}
use Rattle.drat_text.specs.declared.stop.LineStop.{LineStop}
use Rattle.drat_text.specs.declared.stop.LineStop.TheVariants.{Memory}
use Rattle.simp_base.specs.WorkState.{WorkState, IsWork, lists, numbered}
use Rattle.std.specs.Prelude.{Ok, Err}
use Rattle.sat_words.specs.Formats.{has_hints}
use Rattle.rup_model.specs.Hints.{Numbered, HintsFit}
use Rattle.rup_model.specs.Hints.{numbered as by_number}
use Rattle.simp_base.specs.Calls.{ruler_adds, Added, NotAdded, AddsToLog}
use Rattle.simp_base.specs.Log.{Stands, Continues, GrowsLog}
use Rattle.simp_base.proofs.Filters.{In_filter}
use Rattle.simp_base.proofs.Stopping.{not_added_cause, cause_after}
use Rattle.simp_base.proofs.Widening.{continues_grows, logs_grow_along}
use Rattle.simp_add.specs.Common.{others, is_alive}
use Rattle.simp_add.specs.Rule.{adds}
use Rattle.simp_add.proofs.Finding.{there_at, others_in, there_alive, alive_there}
use Rattle.sat_words.proofs.Insertion.{has-clause_of}
use Rattle.simp_base.proofs.Lists.{In_All}
use Rattle.simp_base.proofs.Known.{on_alive}
use Rattle.std.specs.Option.{option_map, unwrap_or}
use Rattle.simp_add.specs.Stages.{GoesOn, Stops, Grown, CanCome, set_at}

-- Works

pub goes_self : (w : WorkState) → w.ended ≡ false → w.output.spent ≡ false → IsWork w → GoesOn w w
goes_self w going unspent kept = record { going = going; unspent = unspent; work = kept; quiet = refl; units = refl; stack = refl }

pub goes_along : (a b c : WorkState) → GoesOn a b → GoesOn b c → GoesOn a c
goes_along a b c f g = record { going = g.going; unspent = g.unspent; work = g.work; quiet = g.quiet ∙ f.quiet; units = g.units ∙ f.units; stack = g.stack ∙ f.stack }

pub continues_along : (xs ys : List Entry) (a b c : WorkState) → Continues xs a b → Continues ys b c → Continues (xs ++ ys) a c
continues_along xs ys a b c f g = record {
  vars = g.vars ∙ f.vars;
  format = g.format ∙ f.format;
  stands = λ o mine h. subst (λ es. Stands o es c) (append_assoc mine xs ys) (g.stands o (mine ++ xs) (f.stands o mine h));
}

pub continues_self : (w : WorkState) → Continues [] w w
continues_self w = record { vars = refl; format = refl; stands = λ o mine h. subst (λ es. Stands o es w) (sym (append-nil mine)) h }

-- a call in the middle was refused
pub stopped_after : (start now new : WorkState) (stop : LineStop) → now.output.faults ≡ start.output.faults → GrowsLog start now → Stops now new stop → Stops start new stop
stopped_after start now new stop quiet log h = (cause_after start now new stop quiet h.0, logs_grow_along start now new log h.1)

-- Lists of additions

pub adds_append : (n : ℕ) (xs ys : List (List Literal)) → adds n (xs ++ ys) ≡ adds n xs ++ adds (n + length xs) ys
adds_append n [] ys = ap (λ (m : ℕ). adds m ys) (let e : n ≡ n + 0 = omega arith in e)
adds_append n (x ∷ xs) ys = ap (λ (es : List Entry). ruler_adds n x [] ∷ es) (adds_append (suc n) xs ys ∙ ap (λ (m : ℕ). adds (suc n) xs ++ adds m ys) (let e : suc n + length xs ≡ n + suc (length xs) = omega arith in e))

pub numbered_append : (n : ℕ) (xs ys : List (List Literal)) → numbered n (xs ++ ys) ≡ numbered n xs ++ numbered (n + length xs) ys
numbered_append n [] ys = ap (λ (m : ℕ). numbered m ys) (let e : n ≡ n + 0 = omega arith in e)
numbered_append n (x ∷ xs) ys = ap (λ (es : List (ℕ × List Literal)). (n, clause_of x) ∷ es) (numbered_append (suc n) xs ys ∙ ap (λ (m : ℕ). numbered (suc n) xs ++ numbered m ys) (let e : suc n + length xs ≡ n + suc (length xs) = omega arith in e))

-- Clauses that came

pub grown_none : (w : WorkState) → w.ended ≡ false → w.output.spent ≡ false → IsWork w → Grown w w []
grown_none w going unspent kept = record {
  on = goes_self w going unspent kept;
  vars = refl;
  unheld = refl;
  log = continues_self w;
  clauses = sym (append-nil w.clauses);
  last = omega arith;
}

pub grown_along : (a b c : WorkState) (xs ys : List (List Literal)) → Grown a b xs → Grown b c ys → Grown a c (xs ++ ys)
grown_along a b c xs ys f g =
    let next : b.output.last + 1 ≡ (a.output.last + 1) + length xs = (let e = f.last in omega arith) in
    record {
      on = goes_along a b c f.on g.on;
      vars = g.vars ∙ f.vars;
      unheld = g.unheld ∙ f.unheld;
      log = subst (λ (es : List Entry). Continues es a c) (sym (adds_append (a.output.last + 1) xs ys ∙ ap (λ (m : ℕ). adds (a.output.last + 1) xs ++ adds m ys) (sym next)))
          (continues_along (adds (a.output.last + 1) xs) (adds (b.output.last + 1) ys) a b c f.log g.log);
      clauses = g.clauses ∙ ap (λ (cs : List (ℕ × List Literal)). cs ++ numbered (b.output.last + 1) ys) f.clauses
          ∙ append_assoc a.clauses (numbered (a.output.last + 1) xs) (numbered (b.output.last + 1) ys)
          ∙ ap (λ (cs : List (ℕ × List Literal)). a.clauses ++ cs) (sym (numbered_append (a.output.last + 1) xs ys ∙ ap (λ (m : ℕ). numbered (a.output.last + 1) xs ++ numbered m ys) (sym next)));
      last = (let e = f.last in let h = g.last in let l = length-append xs ys in omega arith);
    }

-- a log without hints has none
no_hints : (b : Bool) (at : Numbered) (c : List Literal) (hints : List ℕ) → b ≡ false → HintsFit b at c hints → hints ≡ []
no_hints true at c hints e fit = absurd (true≢false e)
no_hints false at c hints e fit = fit

pub grown_added : (old new : WorkState) (lits : List Literal) (number : ℕ) → old.output.spent ≡ false → has_hints old.output.format ≡ false → is_empty lits ≡ false → IsWork new → Added old new lits number
    → AddsToLog old new lits (Ok number) → Grown old new (lits ∷ [])
grown_added old new lits number unspent plain some kept h adds_line = record {
  on = record {
    going = ap (λ (w : WorkState). w.ended) h.state ∙ some;
    unspent = ap (λ (s : LineState). s.spent) h.line.put.state ∙ unspent;
    work = kept;
    quiet = ap (λ (s : LineState). s.faults) h.line.put.state;
    units = ap (λ (w : WorkState). w.units) h.state;
    stack = ap (λ (w : WorkState). w.stack) h.state;
  };
  vars = ap (λ (w : WorkState). w.vars) h.state;
  unheld = ap (λ (w : WorkState). w.unheld) h.state;
  log = subst (λ (hs : List ℕ). Continues (ruler_adds (old.output.last + 1) lits hs ∷ []) old new) (no_hints (has_hints old.output.format) (by_number old.clauses) lits adds_line.hints plain adds_line.fit) adds_line.entries;
  clauses = ap (λ (w : WorkState). w.clauses) h.state ∙ ap (λ (n : ℕ). old.clauses ++ (n, clause_of lits) ∷ []) h.line.given;
  last = ap (λ (s : LineState). s.last) h.line.put.state;
}

pub not_added : (old new : WorkState) (lits : List Literal) (stop : LineStop) → old.ended ≡ false → NotAdded old new lits stop → AddsToLog old new lits (Err stop) → Stops old new stop
not_added old new lits stop going h adds_line = (not_added_cause old new lits stop going h, ([], continues_grows [] old new adds_line.entries))

-- memory ran out before a line was put
pub no_memory : (w : WorkState) → w.ended ≡ false → Stops w w Memory
no_memory w going = ((refl, going), ([], continues_grows [] w w (continues_self w)))

pub grown_log : (a b : WorkState) (made : List (List Literal)) → Grown a b made → GrowsLog a b
grown_log a b made g = (adds (a.output.last + 1) made, continues_grows (adds (a.output.last + 1) made) a b g.log)

-- Validity

-- a clause that has all literals of one of the clauses is RUP
pub contains_follows : (G : List (List Literal)) (c e : List Literal) → In e G → ((k : Literal) → has e k ≡ true → has c k ≡ true) → rup G c ≡ true
contains_follows G c e i more = follows_unless G c (λ S q neg. quiet_open G S q e i (λ k h. neg k (more k (In_has e k h))))

-- RAT, if each resolvent is RUP
pub rat_if : (G : List (List Literal)) (p : Literal) (c : List Literal) → ((d : List Literal) → In d G → has d (opposite p) ≡ true → rup G (resolvent p (p ∷ c) d) ≡ true) → rat G (p ∷ c) ≡ true
unfolding rat_on
rat_if G p c each = In_all (λ d. not (has d (opposite p)) || rup G (resolvent p (p ∷ c) d)) G (λ d i. elim (cases_Bool (has d (opposite p))) as (λ _. (not (has d (opposite p)) || rup G (resolvent p (p ∷ c) d)) ≡ true) [
  | inl h ↦ or_right _ _ (each d i h)
  | inr n ↦ or_left _ _ (ap not n)
])

-- no clause has the negation
pub rat_new : (G : List (List Literal)) (p : Literal) (c : List Literal) → ((d : List Literal) → In d G → has d (opposite p) ≡ false) → rat G (p ∷ c) ≡ true
rat_new G p c none = rat_if G p c (λ d i h. absurd (true≢false (sym h ∙ none d i)))

-- each clause with the new literal has another one that with the set is alive
pub rat_common : (G : List (List Literal)) (x : Literal) (C : List Literal) → ((d : List Literal) → In d G → has d x ≡ true → (j : Literal) × (has d j ≡ true) × (same x j ≡ false) × (is_alive G (j ∷ C) ≡ true)) → rat G (opposite x ∷ C) ≡ true
rat_common G x C each = rat_if G (opposite x) C (λ d i h.
    let t = each d i (ap (has d) (sym (opposite-opposite x)) ∙ h) in
    let e = In_any (same_set (t.0 ∷ C)) G t.3 in
    let rest = filter (λ k. not (same (opposite (opposite x)) k)) d in
    let apart : same (opposite (opposite x)) t.0 ≡ false = ap (λ (y : Literal). same y t.0) (opposite-opposite x) ∙ t.2 in
    contains_follows G (resolvent (opposite x) (opposite x ∷ C) d) e.0 e.1 (λ k k_in.
    elim (or_cases (same k t.0) (has C k) (has_same e.0 (t.0 ∷ C) k (same_back (t.0 ∷ C) e.0 e.2) k_in)) as (λ _. has (resolvent (opposite x) (opposite x ∷ C) d) k ≡ true) [
      | inl q ↦ In_has (resolvent (opposite x) (opposite x ∷ C) d) k (In_append_right (opposite x ∷ C) rest k (subst (λ (y : Literal). In y rest) (sym (same-true k t.0 q)) (In_filter (λ m. not (same (opposite (opposite x)) m)) d t.0 (has_In d t.0 t.1) (ap not apart))))
      | inr q ↦ In_has (resolvent (opposite x) (opposite x ∷ C) d) k (In_append_left (opposite x ∷ C) rest k (inr (has_In C k q)))
    ]))

-- One set after another

pub set_is : (w : WorkState) → IsWork w → (l : Literal) (n : ℕ) (c : List Literal) → Contains w.clauses (n, c) → set_at w.clauses l n ≡ others l c
set_is w kept l n c h = ap (λ o. unwrap_or (option_map (others l) o) []) (there_at w.clauses kept.numbers n c h)

pub grown_stay : (a b : WorkState) (made : List (List Literal)) → Grown a b made → (n : ℕ) (c : List Literal) → Contains a.clauses (n, c) → Contains b.clauses (n, c)
grown_stay a b made g n c h = subst (λ (cs : List (ℕ × List Literal)). Contains cs (n, c)) (sym g.clauses) (In_Contains (a.clauses ++ numbered (a.output.last + 1) made) (n, c) (In_append_left a.clauses (numbered (a.output.last + 1) made) (n, c) (Contains_In a.clauses (n, c) h)))

-- what is in the later work was there, or came
pub numbered_In : (n : ℕ) (made : List (List Literal)) (m : ℕ) (c : List Literal) → In {X = ℕ × List Literal} (m, c) (numbered n made) → (n ≤ m) × ((d : List Literal) × In d made × (c ≡ clause_of d))
numbered_In n [] m c i = absurd i
numbered_In n (d ∷ made) m c (inl e) = (let q : n ≡ m = ap (λ (y : ℕ × List Literal). y.0) e in omega arith, (d, inl refl, sym (ap (λ (y : ℕ × List Literal). y.1) e)))
numbered_In n (d ∷ made) m c (inr i) = let t = numbered_In (suc n) made m c i in (let le = t.0 in omega arith, (t.1.0, inr t.1.1, t.1.2))

pub In_numbered : (n : ℕ) (made : List (List Literal)) (d : List Literal) → In d made → (m : ℕ) × In {X = ℕ × List Literal} (m, clause_of d) (numbered n made)
In_numbered n [] d i = absurd i
In_numbered n (e ∷ made) d (inl q) = (n, inl (λ i. (n, clause_of (q i))))
In_numbered n (e ∷ made) d (inr i) = let t = In_numbered (suc n) made d i in (t.0, inr t.1)

pub grown_parts : (a b : WorkState) (made : List (List Literal)) → Grown a b made → (n : ℕ) (c : List Literal) → Contains b.clauses (n, c) → Contains a.clauses (n, c) ⊎ In {X = ℕ × List Literal} (n, c) (numbered (a.output.last + 1) made)
grown_parts a b made g n c h = elim (In_append a.clauses (numbered (a.output.last + 1) made) (n, c) (subst (λ (cs : List (ℕ × List Literal)). In {X = ℕ × List Literal} (n, c) cs) g.clauses (Contains_In b.clauses (n, c) h))) as (λ _. Contains a.clauses (n, c) ⊎ In {X = ℕ × List Literal} (n, c) (numbered (a.output.last + 1) made)) [
  | inl i ↦ inl (In_Contains a.clauses (n, c) i)
  | inr i ↦ inr i
]

pub alive_more : (a b : WorkState) (made : List (List Literal)) → Grown a b made → (c : List Literal) → is_alive (lists a.clauses) c ≡ true → is_alive (lists b.clauses) c ≡ true
alive_more a b made g c h = let t = there_alive a.clauses c h in alive_there b.clauses c t.0 t.1 (grown_stay a b made g t.0 t.1 t.2) t.3

-- clauses without the new literal do no harm
pub comes_later : (a b : WorkState) (x l : Literal) (n : ℕ) (made : List (List Literal)) → IsWork a → IsWork b → Grown a b made → ((d : List Literal) → In d made → has d x ≡ false) → CanCome a x l n → CanCome b x l n
comes_later a b x l n made kept later g free h =
    let same_at : set_at b.clauses l n ≡ set_at a.clauses l n = set_is b later l n h.clause (grown_stay a b made g n h.clause h.alive) ∙ sym (set_is a kept l n h.clause h.alive) in
    record {
      new = subst (λ (v : ℕ). IsOn v x) (sym g.vars) h.new;
      above = (let same = g.unheld in let lt = h.above in omega arith);
      clause = h.clause;
      alive = grown_stay a b made g n h.clause h.alive;
      free = ap (λ (C : List Literal). has C x) same_at ∙ h.free;
      defined = λ m d i j. elim (grown_parts a b made g m d i) as (λ _. (q : Literal) × (has d q ≡ true) × (same x q ≡ false) × (is_alive (lists b.clauses) (q ∷ set_at b.clauses l n) ≡ true)) [
        | inl old ↦ (let t = h.defined m d old j in (t.0, t.1, t.2, ap (λ (C : List Literal). is_alive (lists b.clauses) (t.0 ∷ C)) same_at ∙ alive_more a b made g (t.0 ∷ set_at a.clauses l n) t.3))
        | inr new ↦ (let t = numbered_In (a.output.last + 1) made m d new in absurd (true≢false (sym j ∙ ap (λ (c : List Literal). has c x) t.1.2 ∙ has-clause_of t.1.0 x ∙ free t.1.0 t.1.1)))
      ];
    }

-- it may be added by its RAT property
pub rat_comes : (w : WorkState) (x l : Literal) (n : ℕ) → CanCome w x l n → rat (lists w.clauses) (opposite x ∷ set_at w.clauses l n) ≡ true
rat_comes w x l n h = rat_common (lists w.clauses) x (set_at w.clauses l n) (λ d i q. (
    let t = map_In (λ (y : ℕ × List Literal). y.1) w.clauses d i in
    h.defined t.0.0 d (subst (λ (c : List Literal). Contains w.clauses (t.0.0, c)) t.2 (In_Contains w.clauses t.0 t.1)) q))

pub on_comes : (w : WorkState) (x l : Literal) (n : ℕ) → IsWork w → CanCome w x l n → All (IsOn w.vars) (opposite x ∷ set_at w.clauses l n)
on_comes w x l n kept h = In_All (IsOn w.vars) (opposite x ∷ set_at w.clauses l n) (λ k i. ⊎_elim
    (λ (e : opposite x ≡ k). subst (IsOn w.vars) e (record { low = h.new.low; high = h.new.high }))
    (λ (j : In k (set_at w.clauses l n)). (
    let is = set_is w kept l n h.clause h.alive in
    let m = others_in l k h.clause (In_has (others l h.clause) k (subst (λ (C : List Literal). In k C) is j)) in
    on_alive w kept n h.clause h.alive k (has_In h.clause k m.0)))
    i)

-- a literal is not its negation
pub differs : (x : Literal) → same x (opposite x) ≡ false
differs x = elim (cases_Bool (same x (opposite x))) as (λ _. same x (opposite x) ≡ false) [
  | inl e ↦ absurd (by x.neg (λ i. (same-true x (opposite x) e i).neg))
  | inr f ↦ f
]
  where
    by : (b : Bool) → b ≡ not b → ⊥
    by true q = true≢false q
    by false q = true≢false (sym q)

module _ (a b : WorkState) (x l : Literal) (numbers : List ℕ) (i : ℕ) (kept : IsWork a) (come : (n : ℕ) → Contains numbers n → CanCome a x l n)
    (g : Grown a b (map (λ n. opposite x ∷ set_at a.clauses l n) (take i numbers))) where
  in_take : (ns : List ℕ) (j n : ℕ) → In n (take j ns) → In n ns
  in_take [] zero n h = h
  in_take [] (suc j) n h = h
  in_take (m ∷ ns) zero n h = absurd h
  in_take (m ∷ ns) (suc j) n (inl e) = inl e
  in_take (m ∷ ns) (suc j) n (inr h) = inr (in_take ns j n h)

  pub commons_come : (n : ℕ) → Contains numbers n → CanCome b x l n
  commons_come n h = comes_later a b x l n (map (λ m. opposite x ∷ set_at a.clauses l m) (take i numbers)) kept g.on.work g
      (λ d q. (
      let t = map_In (λ m. opposite x ∷ set_at a.clauses l m) (take i numbers) d q in
      let f = (come t.0 (In_Contains numbers t.0 (in_take numbers i t.0 t.1))).free in
      ap (λ (c : List Literal). has c x) (sym t.2) ∙ (λ j. differs x j || f j)))
      (come n h)

  pub commons_next : (c : WorkState) → i < length numbers → Grown b c ((opposite x ∷ set_at b.clauses l (get_or numbers i 0)) ∷ []) → Grown a c (map (λ n. opposite x ∷ set_at a.clauses l n) (take (i + 1) numbers))
  commons_next c lt one =
      let n = get_or numbers i 0 in
      let h = come n (Contains-get_or numbers i 0 lt) in
      let same_at : set_at b.clauses l n ≡ set_at a.clauses l n = set_is b g.on.work l n h.clause (grown_stay a b (map (λ m. opposite x ∷ set_at a.clauses l m) (take i numbers)) g n h.clause h.alive) ∙ sym (set_is a kept l n h.clause h.alive) in
      let whole : map (λ m. opposite x ∷ set_at a.clauses l m) (take (i + 1) numbers) ≡ map (λ m. opposite x ∷ set_at a.clauses l m) (take i numbers) ++ (opposite x ∷ set_at a.clauses l n) ∷ [] =
      ap (map (λ m. opposite x ∷ set_at a.clauses l m)) (take_more numbers i 0 lt) ∙ map_both (take i numbers) (n ∷ []) in
      subst (λ (ms : List (List Literal)). Grown a c ms) (sym whole)
      (grown_along a b c (map (λ m. opposite x ∷ set_at a.clauses l m) (take i numbers)) ((opposite x ∷ set_at a.clauses l n) ∷ []) g (subst (λ (C : List Literal). Grown b c ((opposite x ∷ C) ∷ [])) same_at one))
    where
      map_both : (xs ys : List ℕ) → map (λ m. opposite x ∷ set_at a.clauses l m) (xs ++ ys) ≡ map (λ m. opposite x ∷ set_at a.clauses l m) xs ++ map (λ m. opposite x ∷ set_at a.clauses l m) ys
      map_both [] ys = refl
      map_both (n ∷ xs) ys = ap (λ (zs : List (List Literal)). (opposite x ∷ set_at a.clauses l n) ∷ zs) (map_both xs ys)
