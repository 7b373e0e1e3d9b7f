-- A reduction leaves a run and a search as they were, except for lemmas.
use Rattle.std.proofs.Common.{◌≡◌, ◌≢◌, ◌∙◌, ℕ, ◌+◌, ◌-◌, ◌<◌, ◌≤◌, ◌==◌, Bool, true, false, not, List, [], ◌∷◌, ◌++◌, length, map, sym, subst, ap, arith, inl, inr, refl, Contains, IsSome, Some, append-nil, eq-eqb, cond}
use Rattle.std.specs.Prelude.{All, ◌&&◌, if◌then◌else◌, Result, Ok, Err, OnOk, IfErr}
use Rattle.std.specs.List.{list_any, filter}
use Rattle.std.specs.declared.option.Option.{Option}
use Rattle.std.proofs.lemmas.Bool.{true≢false}
use Rattle.std.proofs.lemmas.Bool.Decides.{nat_tests}
use Rattle.std.proofs.lemmas.List.Elements.{All-filter}
use Rattle.sat_words.specs.Literal.{Literal}
use Rattle.sat_words.specs.Clause.{has, is_empty, same_set}
use Rattle.sat_words.specs.declared.shared.Cref.{Cref}
use Rattle.rup_model.specs.Basics.{EachAfter}
use Rattle.rup_model.specs.declared.journal.Addition.{Addition}
use Rattle.rup_model.specs.declared.journal.Entry.{Entry}
use Rattle.rup_model.specs.declared.journal.Entry.TheVariants.{Reduce}
use Rattle.rup_model.specs.Journal.{additions, added, learned, recent, recent_after, is_learn}
use Rattle.rup_model.specs.Opening.{adds_unit}
use Rattle.rup_model.proofs.Additions.{additions-append}
use Rattle.rup_model.proofs.Lists.{In, Contains_In, In_Contains, any_In}
use Rattle.rup_model.proofs.Sequences.{fold_last}
use Rattle.ring_port.specs.PortState.{PortState, Holding, HoldsStart, IsPort, held_at}
use Rattle.ring_port.specs.Log.{KeepsLog}
use Rattle.ring_port.specs.Deleting.{IsNotTaken, without_one}
use Rattle.ring_port.specs.Reducing.{MayReduce, NotedReduce}
use Rattle.ring_port.proofs.Holdings.{All_In}
use Rattle.ring_port.proofs.LogSteps.{In_All}
use Rattle.ring_port.specs.declared.stops.PortStop.{PortStop}
use Rattle.ring_trail.specs.declared.step.TrailStep.{TrailStep}
use Rattle.ring_trail.specs.TrailData.{TrailData}
use Rattle.watch_prop.specs.WatchData.{WatchData, Lits, attached, is_among, without_all}
use Rattle.watch_prop.specs.Watched.{Watched}
use Rattle.watch_prop.proofs.TrailLaws.{Reasons-more, Reasons-held}
use Rattle.reduce_db.specs.Lemmas.{AreDistinct, AreLemmas}
use Rattle.reduce_db.specs.Dropping.{DroppedEach, DroppedAll, StaysReady}
use Rattle.reduce_db.specs.Choice.{IsChoice}
use Rattle.reduce_db.specs.Moment.{lemmas_before}
use Rattle.reduce_db.specs.Reduction.{WasReduced, WasCutShort}
use Rattle.reduce_db.proofs.Choosing.{passes_filter}
use Rattle.reduce_db.proofs.Drops.{stays_attached}
use Rattle.ring_run.specs.Ended.{IsTimely, Stays, IsOwn, reductions}
use Rattle.ring_run.specs.Searching.{IsHeldBy, HasClauses, GoesOn, OffersNothing, OnlyWrote}
use Rattle.ring_run.specs.Ending.{ComesTo, end_refused}
use Rattle.ring_run.specs.Course.{last_start, HasLemmas, MayImport, AreOrdered}
use Rattle.ring_run.specs.Renewal.{AreUnmixed, AreSetApart}
use Rattle.ring_run.proofs.Listing.{SameImports, last_same}
use Rattle.ring_run.specs.declared.ring.Ring.{Ring}
use Rattle.ring_run.proofs.Remembering.{held_same, lits_same, clause_at_same}
use Rattle.ring_run.proofs.Lately.{lately_none}
use Rattle.ring_run.proofs.Standing.{reasoned_more}
use Rattle.ring_run.proofs.Progress.{runs_adds, going_more, stays_by, starts_kept, news_moved, lines_moved, glued_by, glued_same, out_of_memory}
use Rattle.ring_run.proofs.Telling.{told_same}
use Rattle.ring_run.proofs.Turning.{held_by_same, clauses_same}
use Rattle.ring_run.proofs.Numbering.{ordered_kept, ordered_filter, glue_kept, grown_none, reductions_reduced}
use Rattle.ring_run.proofs.Tickets.{tickets_of, draws_same}

-- The Reduce entry

same_additions : (r : ℕ) (J : List Entry) → additions (J ++ Reduce r ∷ []) ≡ additions J
same_additions r J = additions-append J (Reduce r ∷ []) ∙ append-nil (additions J)

forgets : (r : ℕ) (cs : List (List Literal)) → recent_after r cs (Reduce r) ≡ []
forgets r cs = ap (λ (b : Bool). if b then [] else (cs ++ learned r (Reduce r ∷ []))) (eq-eqb r r refl)

module _ (s u : PortState) (w : NotedReduce s u) where
  noted_held : u.held ≡ s.held
  noted_held = ap (λ (x : PortState). x.held) w.state

  noted_mine : u.mine ≡ s.mine ++ Reduce s.ring ∷ []
  noted_mine = ap (λ (x : PortState). x.mine) w.state

  noted_seen : u.seen ≡ s.seen
  noted_seen = ap (λ (x : PortState). x.seen) w.state

  noted_start : u.start ≡ s.start
  noted_start = ap (λ (x : PortState). x.start) w.state

  pub noted_none : u.taken ≡ []
  noted_none = ap (λ (x : PortState). x.taken) w.state

  pub noted_units : (l : Literal) → adds_unit u.ring u.mine l ≡ adds_unit s.ring s.mine l
  noted_units l =
      ap (λ (x : PortState). adds_unit x.ring x.mine l) w.state
      ∙ ap (λ (xs : List Addition). list_any (same_set (l ∷ [])) (map (λ (x : Addition). x.lits) (filter (λ (x : Addition). x.ring == s.ring) xs))) (same_additions s.ring s.mine)

  pub noted_looks : u.looks ≡ s.looks
  noted_looks = ap (λ (x : PortState). x.looks) w.state

  noted_stays : KeepsLog s u → Stays s u
  noted_stays log = record {
    start = noted_start;
    opening = ap (λ (x : PortState). x.opening) w.state;
    vars = ap (λ (x : PortState). x.vars) w.state;
    ring = ap (λ (x : PortState). x.ring) w.state;
    rings = ap (λ (x : PortState). x.rings) w.state;
    depth = ap (λ (x : PortState). x.depth) w.state;
    polled = omega (arith, ap (λ (x : PortState). x.polled) w.state);
    limit = ap (λ (x : PortState). x.limit) w.state;
    home = ap (λ (x : PortState). x.home) w.state;
    hinted = ap (λ (x : PortState). x.hinted) w.state;
    log = log;
  }

  pub noted_lately : recent u.ring u.mine ≡ []
  noted_lately = ap (λ (x : PortState). recent x.ring x.mine) w.state ∙ fold_last (recent_after s.ring) [] s.mine (Reduce s.ring) ∙ forgets s.ring (recent s.ring s.mine)

  pub noted_goes_on : (start : PortState) (n : ℕ) → GoesOn start s n → IsTimely s.mine (Reduce s.ring) → KeepsLog s u → IsPort u → GoesOn start u n
  noted_goes_on start n p may log port =
      let stays = noted_stays log in
      let none : length (learned s.ring (Reduce s.ring ∷ [])) ≡ 0 = refl in
      record {
        runs = runs_adds start s u n n (Reduce s.ring) p.runs stays (λ a h. held_same s u a noted_held) noted_mine p.runs.stays.ring (omega (arith, none)) tt
            (ap (λ (x : PortState). x.given) w.state) tt may (glued_same s u noted_held) (lately_none u noted_lately) port;
        draws = draws_same s u n (ap tickets_of w.state) p.draws;
        going = going_more s u (Reduce s.ring) noted_mine p.going refl;
        stop = ap (λ (x : PortState). x.stop) w.state ∙ p.stop;
        refused = ap (λ (x : PortState). x.refused) w.state ∙ p.refused;
        held = starts_kept s u noted_start (λ a h. held_same s u a noted_held) p.held;
      }

  -- nothing learned or taken need be attached
  pub noted_clauses : (cs : List Cref) → HasClauses s cs → IsPort u → HasClauses u cs
  noted_clauses cs p port = record {
    held = held_by_same s u cs noted_held p.held;
    starts = λ h there. p.starts h (subst (λ (hs : List Holding). Contains hs h) noted_start there);
    starts_held = starts_kept s u noted_start (λ a h. held_same s u a noted_held) p.starts_held;
    own = record {
      lemmas = λ c there. absurd (Contains_In [] c (subst (λ (G : List (List Literal)). Contains G c) noted_lately there));
      units = λ l h. ap (λ (ls : List Literal). has ls l) noted_seen ∙ p.own.units l (sym (noted_units l) ∙ h);
    };
    taken = λ a there. absurd (Contains_In [] a (subst (λ (xs : List ℕ). Contains xs a) noted_none there));
    refused = ap (λ (x : PortState). x.refused) w.state ∙ p.refused;
    stop = ap (λ (x : PortState). x.stop) w.state ∙ p.stop;
    port = port;
  }

  pub noted_import : (t : TrailData) (v : WatchData) (n : ℕ) → MayImport s t v n → IsPort u → MayImport u t v n
  noted_import t v n p port = record {
    clauses = noted_clauses (attached v) p.clauses port;
    stands = record {
      vars = p.stands.vars ∙ sym (ap (λ (x : PortState). x.vars) w.state);
      reasoned = reasoned_more s u t.steps noted_held (λ l h. ap (λ (ls : List Literal). has ls l) noted_seen ∙ h) p.stands.reasoned;
      seen = λ l h. p.stands.seen l (ap (λ (ls : List Literal). has ls l) (sym noted_seen) ∙ h);
    };
    trail = p.trail;
    level = p.level;
    watched = subst (λ (f : Lits). Watched v f t) (sym (lits_same s u noted_held)) p.watched;
    reasons = Reasons-more (attached v) (attached v) s u t.steps (λ c there. (there, clause_at_same s u noted_held c.address)) (λ l h. ap (λ (ls : List Literal). has ls l) noted_seen ∙ h) p.reasons;
    told = told_same s u t n noted_seen p.told;
    whole = p.whole;
  }

  pub noted_nothing : OffersNothing s u
  noted_nothing = record {
    shared = ap (λ (x : PortState). x.shared) w.state;
    polled = ap (λ (x : PortState). x.polled) w.state;
    polls = ap (λ (x : PortState). x.polls) w.state;
    polls_after = ap (λ (x : PortState). x.polls_after) w.state;
    caught_up = (let same = ap (λ (x : PortState). x.caught_up) w.state in omega (arith, same));
    ring = ap (λ (x : PortState). x.ring) w.state;
    rings = ap (λ (x : PortState). x.rings) w.state;
    depth = ap (λ (x : PortState). x.depth) w.state;
    found = ap (λ (x : PortState). x.found) w.state;
    lemmas = ap (λ (x : PortState). learned x.ring x.mine) w.state
        ∙ ap (λ (xs : List Addition). map (λ (x : Addition). x.lits) (filter (λ (x : Addition). (x.ring == s.ring) && is_learn x.kind) xs)) (same_additions s.ring s.mine);
  }

  -- the lemmas may be reduced then
  pub noted_lemmas : (ring : Ring) → HasLemmas s ring → HasClauses s (attached ring.watches) → AreLemmas u (attached ring.watches) ring.lemmas.items
  noted_lemmas ring p clauses = record {
    distinct = p.distinct;
    member = p.member;
    held = In_All (λ (c : Cref). IsSome (held_at u c.address)) ring.lemmas.items (λ c m. subst (λ (o : Option Holding). IsSome o) (sym (held_same s u c.address noted_held))
        (All_In (IsHeldBy s) (attached ring.watches) c clauses.held (Contains_In (attached ring.watches) c (All_In (Contains (attached ring.watches)) ring.lemmas.items c p.member m))));
    apart = In_All (λ (c : Cref). IsNotTaken u c.address) ring.lemmas.items (λ c m. ap (list_any (λ b. b == c.address)) noted_none);
  }

-- Dropped lemmas

pub less_one : (hs : List Holding) (a : ℕ) (h : Holding) → In h (without_one hs a) → In h hs
less_one [] a h there = there
less_one (k ∷ hs) a h there = by (k.address == a) (λ m. less_one hs a h m) there
  where
    by : (b : Bool) → (In h (without_one hs a) → In h hs) → In h (if b then hs else (k ∷ without_one hs a)) → In h (k ∷ hs)
    by true less m = inr m
    by false less (inl e) = inl e
    by false less (inr m) = inr (less m)

held_less : (s u : PortState) (cs : List Cref) → DroppedEach s u cs → (h : Holding) → In h u.held → In h s.held
held_less s u [] is h there = subst (λ (hs : List Holding). In h hs) (ap (λ (x : PortState). x.held) is) there
held_less s u (c ∷ cs) gone h there =
    less_one s.held c.address h (subst (λ (hs : List Holding). In h hs) (ap (λ (x : PortState). x.held) gone.1.state) (held_less gone.0 u cs gone.2 h there))

filter_In : (p : Cref → Bool) (cs : List Cref) (c : Cref) → In c (filter p cs) → In c cs
filter_In p [] c there = there
filter_In p (d ∷ cs) c there = by (p d) (λ m. filter_In p cs c m) there
  where
    by : (b : Bool) → (In c (filter p cs) → In c cs) → In c (cond b (d ∷ filter p cs) (filter p cs)) → In c (d ∷ cs)
    by true less (inl is) = inl is
    by true less (inr m) = inr (less m)
    by false less m = inr (less m)

at_again : (c : Cref) (a : ℕ) → c.address ≡ a → (c.address == a) ≡ true
at_again c a e = grind (arith, nat_tests)

module _ (s u : PortState) (dropped lemmas : List Cref) (gone : DroppedAll s u dropped) (among : All (Contains lemmas) dropped)
    (apart : (h : Holding) (c : Cref) → Contains s.start h → Contains lemmas c → c.address ≢ h.address) where
  -- no start clause is dropped
  start_stays : (h : Holding) → Contains s.start h → (c : Cref) → Contains dropped c → c.address ≢ h.address
  start_stays h there c m = apart h c there (All_In (Contains lemmas) dropped c among (Contains_In dropped c m))

  dropped_starts : HoldsStart s → HoldsStart u
  dropped_starts held = subst (All (λ (h : Holding). held_at u h.address ≡ Some h)) (sym (ap (λ (x : PortState). x.start) gone.state))
      (In_All (λ (h : Holding). held_at u h.address ≡ Some h) s.start
      (λ h m. gone.others h.address (λ c there. start_stays h (In_Contains s.start h m) c there) ∙ All_In (λ (h : Holding). held_at s h.address ≡ Some h) s.start h held m))

  dropped_stays : KeepsLog s u → Stays s u
  dropped_stays log = record {
    start = ap (λ (x : PortState). x.start) gone.state;
    opening = ap (λ (x : PortState). x.opening) gone.state;
    vars = ap (λ (x : PortState). x.vars) gone.state;
    ring = ap (λ (x : PortState). x.ring) gone.state;
    rings = ap (λ (x : PortState). x.rings) gone.state;
    depth = ap (λ (x : PortState). x.depth) gone.state;
    polled = omega (arith, ap (λ (x : PortState). x.polled) gone.state);
    limit = ap (λ (x : PortState). x.limit) gone.state;
    home = ap (λ (x : PortState). x.home) gone.state;
    hinted = ap (λ (x : PortState). x.hinted) gone.state;
    log = log;
  }

  pub dropped_goes_on : recent s.ring s.mine ≡ [] → (start : PortState) (n : ℕ) → GoesOn start s n → KeepsLog s u → IsPort u → GoesOn start u n
  dropped_goes_on none start n p log port =
      let stays = dropped_stays log in
      let mine : u.mine ≡ s.mine = ap (λ (x : PortState). x.mine) gone.state in
      record {
        runs = record {
          stays = stays_by start s u p.runs.stays stays;
          held = dropped_starts p.held;
          wrote = subst (All (IsOwn start.ring start.vars)) (sym mine) p.runs.wrote;
          counted = p.runs.counted ∙ ap (λ (J : List Entry). length (learned s.ring J)) (sym mine) ∙ ap (λ (r : ℕ). length (learned r u.mine)) (sym stays.ring);
          each_new = news_moved s u s.mine stays mine p.runs.each_new;
          new_lines = lines_moved s u s.mine stays (ap (λ (x : PortState). x.given) gone.state) mine p.runs.new_lines;
          timely = subst (EachAfter IsTimely []) (sym mine) p.runs.timely;
          glued = glued_by start s u p.runs.glued stays.polled (λ h there. inl (In_Contains s.held h (held_less s u dropped gone.each h (Contains_In u.held h there))));
          lately = lately_none u (ap (λ (x : PortState). recent x.ring x.mine) gone.state ∙ none);
          port = port;
        };
        draws = draws_same s u n (ap tickets_of gone.state) p.draws;
        going = ap (λ (J : List Entry). list_any is_empty (added J)) mine ∙ p.going;
        stop = ap (λ (x : PortState). x.stop) gone.state ∙ p.stop;
        refused = ap (λ (x : PortState). x.refused) gone.state ∙ p.refused;
        held = dropped_starts p.held;
      }

  -- what is attached yet is held as it was
  left_held : (cs : List Cref) (c : Cref) → Contains (without_all cs dropped) c → held_at u c.address ≡ held_at s c.address
  left_held cs c m = gone.others c.address (λ d there e. (
      let is : not (is_among dropped c.address) ≡ true = passes_filter (λ (x : Cref). not (is_among dropped x.address)) cs c m in
      let found : is_among dropped c.address ≡ true = any_In (λ (x : Cref). x.address == c.address) dropped d (Contains_In dropped d there) (at_again d c.address e) in
      true≢false (sym is ∙ ap not found)))

  pub dropped_clauses : (cs ds : List Cref) → HasClauses s cs → ds ≡ without_all cs dropped → s.taken ≡ [] → recent s.ring s.mine ≡ [] → IsPort u → HasClauses u ds
  dropped_clauses cs ds p is none lately port = record {
    held = subst (All (IsHeldBy u)) (sym is) (In_All (IsHeldBy u) (without_all cs dropped) (λ c m.
        subst (λ (o : Option Holding). IsSome o) (sym (left_held cs c (In_Contains (without_all cs dropped) c m)))
        (All_In (IsHeldBy s) (without_all cs dropped) c (All-filter (λ (x : Cref). not (is_among dropped x.address)) (IsHeldBy s) cs p.held) m)));
    starts = λ h there. (
        let here : Contains s.start h = subst (λ (hs : List Holding). Contains hs h) (ap (λ (x : PortState). x.start) gone.state) there in
        subst (λ (xs : List Cref). Contains xs (record { address = h.address })) (sym is)
        (stays_attached cs dropped (record { address = h.address }) (p.starts h here) (λ d m. start_stays h here d m)));
    starts_held = dropped_starts p.starts_held;
    own = record {
      lemmas = λ c there. absurd (Contains_In [] c (subst (λ (G : List (List Literal)). Contains G c) (ap (λ (x : PortState). recent x.ring x.mine) gone.state ∙ lately) there));
      units = λ l h. ap (λ (x : PortState). has x.seen l) gone.state ∙ p.own.units l (sym (ap (λ (x : PortState). adds_unit x.ring x.mine l) gone.state) ∙ h);
    };
    taken = λ a there. absurd (Contains_In [] a (subst (λ (xs : List ℕ). Contains xs a) (ap (λ (x : PortState). x.taken) gone.state ∙ none) there));
    refused = ap (λ (x : PortState). x.refused) gone.state ∙ p.refused;
    stop = ap (λ (x : PortState). x.stop) gone.state ∙ p.stop;
    port = port;
  }

  pub dropped_import : (t : TrailData) (v w : WatchData) (n : ℕ) → MayImport s t v n → attached w ≡ without_all (attached v) dropped → StaysReady s u v w t → s.taken ≡ [] → recent s.ring s.mine ≡ [] → IsPort u → MayImport u t w n
  dropped_import t v w n p is ready none lately port =
      let seen : u.seen ≡ s.seen = ap (λ (x : PortState). x.seen) gone.state in
      record {
        clauses = dropped_clauses (attached v) (attached w) p.clauses is none lately port;
        stands = record {
          vars = p.stands.vars ∙ sym (ap (λ (x : PortState). x.vars) gone.state);
          reasoned = Reasons-held (attached w) u t.steps (ready.reasons p.reasons);
          seen = λ l h. p.stands.seen l (ap (λ (ls : List Literal). has ls l) (sym seen) ∙ h);
        };
        trail = p.trail;
        level = p.level;
        watched = ready.watched p.watched;
        reasons = ready.reasons p.reasons;
        told = told_same s u t n seen p.told;
        whole = p.whole;
      }

pub dropped_nothing : (s u : PortState) (dropped : List Cref) → DroppedAll s u dropped → OffersNothing s u
dropped_nothing s u dropped gone = record {
  shared = ap (λ (x : PortState). x.shared) gone.state;
  polled = ap (λ (x : PortState). x.polled) gone.state;
  polls = ap (λ (x : PortState). x.polls) gone.state;
  polls_after = ap (λ (x : PortState). x.polls_after) gone.state;
  caught_up = (let same = ap (λ (x : PortState). x.caught_up) gone.state in omega (arith, same));
  ring = ap (λ (x : PortState). x.ring) gone.state;
  rings = ap (λ (x : PortState). x.rings) gone.state;
  depth = ap (λ (x : PortState). x.depth) gone.state;
  found = ap (λ (x : PortState). x.found) gone.state;
  lemmas = ap (λ (x : PortState). learned x.ring x.mine) gone.state;
}

-- as many lemmas were learned as a Reduce entry asks for
pub may_reduce : (s : PortState) (ring : Ring) → HasLemmas s ring → lemmas_before (ring.reductions + 1) ≤ ring.learned - ring.reduced_at → MayReduce s
may_reduce s ring p due = omega (arith, p.count, due)

-- and as its reduction comes after
pub timely_reduce : (s : PortState) (ring : Ring) → HasLemmas s ring → lemmas_before (ring.reductions + 1) ≤ ring.learned - ring.reduced_at → IsTimely s.mine (Reduce s.ring)
timely_reduce s ring p due = omega (arith, p.count, p.noted, due)

-- What a call that reduces leaves, after the Reduce entry

pub kept_among : (s : PortState) (steps : List TrailStep) (lemmas kept dropped : List Cref) → IsChoice s steps lemmas kept dropped → (c : Cref) → Contains kept c → Contains lemmas c
kept_among s steps lemmas kept dropped choice c m =
    In_Contains lemmas c (filter_In (λ x. not (choice.drops x)) lemmas c (Contains_In (filter (λ x. not (choice.drops x)) lemmas) c (subst (λ (xs : List Cref). Contains xs c) choice.kept_is m)))

pub dropped_among : (s : PortState) (steps : List TrailStep) (lemmas kept dropped : List Cref) → IsChoice s steps lemmas kept dropped → All (Contains lemmas) dropped
dropped_among s steps lemmas kept dropped choice = subst (All (Contains lemmas)) (sym choice.dropped_is) (All-filter choice.drops (Contains lemmas) lemmas (In_All (Contains lemmas) lemmas (λ c m. In_Contains lemmas c m)))

module _ (s m u : PortState) (ring : Ring) (noted : NotedReduce s m) (listed : HasLemmas s ring) where
  abbrev lemmas : List Cref
  lemmas = ring.lemmas.items

  apart_then : (h : Holding) (c : Cref) → Contains m.start h → Contains lemmas c → c.address ≢ h.address
  apart_then h c there member = listed.apart h c (subst (λ (hs : List Holding). Contains hs h) (noted_start s m noted) there) member

  pub cut_short_over : (stop : PortStop) → WasCutShort m u ring.trail.steps lemmas stop → KeepsLog m u → IsPort u → (start : PortState) (n : ℕ) → GoesOn start m n → ComesTo start u n (end_refused stop)
  cut_short_over stop w log port start n p =
      subst (λ (x : PortStop). ComesTo start u n (end_refused x)) (sym w.memory)
      (out_of_memory start u n (dropped_goes_on m u w.dropped lemmas w.port w.among apart_then (noted_lately s m noted) start n p log port))

  module _ (v w : WatchData) (steps : List TrailStep) (left : List Cref) (done : WasReduced m u v w steps lemmas left) where
    among : All (Contains lemmas) done.dropped
    among = dropped_among m steps lemmas left done.dropped done.choice

    pub reduced_goes_on : (start : PortState) (n : ℕ) → GoesOn start m n → KeepsLog m u → IsPort u → GoesOn start u n
    reduced_goes_on start n p log port = dropped_goes_on m u done.dropped lemmas done.port among apart_then (noted_lately s m noted) start n p log port

    lately : recent u.ring u.mine ≡ []
    lately = ap (λ (x : PortState). recent x.ring x.mine) done.port.state ∙ noted_lately s m noted

    start_same : u.start ≡ s.start
    start_same = ap (λ (x : PortState). x.start) done.port.state ∙ noted_start s m noted

    -- no import was dropped
    pub reduced_apart : (new : Ring) → new.lemmas.items ≡ left → SameImports ring new → AreSetApart s ring → AreSetApart u new
    reduced_apart new items same a = record {
      distinct = subst AreDistinct (sym same.imports) a.distinct;
      beyond = subst (λ (n : ℕ). All (λ (c : Cref). n < c.address) new.imports.items) (sym (last_same s u start_same)) (subst (All (λ (c : Cref). last_start s < c.address)) (sym same.imports) a.beyond);
      unmixed = λ c d inside import. a.unmixed c d (kept_among m steps lemmas left done.dropped done.choice c (subst (λ (cs : List Cref). Contains cs c) items inside)) (subst (λ (cs : List Cref). Contains cs d) same.imports import);
    }

    -- the lemmas that are left are listed
    pub reduced_lemmas : (new : Ring) → lemmas_before (ring.reductions + 1) ≤ ring.learned - ring.reduced_at → AreLemmas u (attached w) left → new.lemmas.items ≡ left → attached new.watches ≡ attached w
        → new.learned ≡ ring.learned → new.reductions ≡ ring.reductions + 1 → new.reduced_at ≡ ring.learned → SameImports ring new → AreUnmixed ring → attached v ≡ attached ring.watches → HasLemmas u new
    reduced_lemmas new due are items now learned_is reductions_is at same unmixed watched = record {
      ordered = subst (AreOrdered u) (sym items) ordered_left;
      glued = λ c inside. (
          let there : Contains left c = subst (λ (cs : List Cref). Contains cs c) items inside in
          let member = All_In (Contains (attached w)) left c are.member (Contains_In left c there) in
          glue_kept (held_at u c.address) (held_at s c.address) (held_left c member) (listed.glued c (kept_among m steps lemmas left done.dropped done.choice c there)));
      noted = (let one = reductions_reduced s.ring s.mine in
          let is = ap (λ (x : PortState). reductions x.ring x.mine) done.port.state ∙ ap (λ (x : PortState). reductions x.ring x.mine) noted.state in
          omega (arith, one, is, reductions_is, listed.noted));
      distinct = subst AreDistinct (sym items) are.distinct;
      member = subst (All (Contains (attached new.watches))) (sym items) (subst (λ (cs : List Cref). All (Contains cs) left) (sym now) are.member);
      apart = λ h c there member. apart_then h c (subst (λ (hs : List Holding). Contains hs h) (ap (λ (x : PortState). x.start) done.port.state) there)
          (kept_among m steps lemmas left done.dropped done.choice c (subst (λ (cs : List Cref). Contains cs c) items member));
      count = (let none = ap (λ (cs : List (List Literal)). length cs) lately in omega (arith, learned_is, at, none));
      few = omega (arith, listed.few, due, reductions_is, at);
      imported = subst (All (Contains (attached new.watches))) (sym same.imports) (subst (λ (cs : List Cref). All (Contains cs) ring.imports.items) (sym (now ∙ done.attached_now))
          (In_All (Contains (without_all (attached v) done.dropped)) ring.imports.items (λ d m. stays_attached (attached v) done.dropped d
          (subst (λ (cs : List Cref). Contains cs d) (sym watched) (All_In (Contains (attached ring.watches)) ring.imports.items d listed.imported m))
          (λ e gone. unmixed e d (All_In (Contains lemmas) done.dropped e among (Contains_In done.dropped e gone)) (In_Contains ring.imports.items d m)))));
      last = same.last_start ∙ listed.last ∙ sym (last_same s u start_same);
    }
      where
        held_left : (c : Cref) → Contains (attached w) c → held_at u c.address ≡ held_at s c.address
        held_left c member =
            left_held m u done.dropped lemmas done.port among apart_then (attached v) c (subst (λ (cs : List Cref). Contains cs c) done.attached_now member)
            ∙ held_same s m c.address (ap (λ (x : PortState). x.held) noted.state)

        ordered_left : AreOrdered u left
        ordered_left =
            ordered_kept m u left (λ c there. left_held m u done.dropped lemmas done.port among apart_then (attached v) c
            (subst (λ (cs : List Cref). Contains cs c) done.attached_now (All_In (Contains (attached w)) left c are.member there))) (grown_none m u (ap (λ (x : PortState). x.mine) done.port.state))
            (subst (AreOrdered m) (sym done.choice.kept_is) (ordered_filter m (λ x. not (done.choice.drops x)) lemmas
            (ordered_kept s m lemmas (λ c there. held_same s m c.address (ap (λ (x : PortState). x.held) noted.state)) (Reduce s.ring ∷ [], ap (λ (x : PortState). x.mine) noted.state) listed.ordered)))

  pub reduced_import : (t : TrailData) (v w : WatchData) (n : ℕ) (left : List Cref) → WasReduced m u v w t.steps lemmas left → MayImport m t v n → StaysReady m u v w t → IsPort u → MayImport u t w n
  reduced_import t v w n left done p ready port =
      dropped_import m u done.dropped lemmas done.port (dropped_among m t.steps lemmas left done.dropped done.choice) apart_then t v w n p done.attached_now ready (noted_none s m noted) (noted_lately s m noted) port

pub cut_short_nothing : (m u : PortState) (ring : Ring) (stop : PortStop) → WasCutShort m u ring.trail.steps ring.lemmas.items stop → OffersNothing m u
cut_short_nothing m u ring stop w = dropped_nothing m u w.dropped w.port

pub reduced_nothing : (m u : PortState) (ring : Ring) (v w : WatchData) (steps : List TrailStep) (left : List Cref) → WasReduced m u v w steps ring.lemmas.items left → OffersNothing m u
reduced_nothing m u ring v w steps left done = dropped_nothing m u done.dropped done.port

-- What is known of a call's answer

pub ok_then : {A E P Q : Type 0} (r : Result A E) → OnOk r P → (P → Q) → OnOk r Q
ok_then (Ok a) p f = f p
ok_then (Err e) p f = tt

pub err_then : {A E : Type 0} {P Q : E → Type 0} (r : Result A E) → IfErr r P → ((e : E) → P e → Q e) → IfErr r Q
err_then (Ok a) p f = tt
err_then (Err e) p f = f e p

-- a search may import over a port that has tidied
pub wrote_import : (s u : PortState) (r : Result (Unit {0}) PortStop) (t : TrailData) (w : WatchData) (n : ℕ) → MayImport s t w n → OnOk r (OnlyWrote s u) → OnOk r (u.seen ≡ s.seen) → IsPort u → OnOk r (MayImport u t w n)
wrote_import s u (Ok done) t w n p wrote seen port = record {
  clauses = clauses_same s u (attached w) p.clauses wrote.stays wrote.taken wrote.held wrote.stop wrote.refused (wrote.own (attached w) p.clauses.own) port;
  stands = record {
    vars = p.stands.vars ∙ sym wrote.stays.vars;
    reasoned = reasoned_more s u t.steps wrote.held wrote.more p.stands.reasoned;
    seen = λ l h. p.stands.seen l (ap (λ (ls : List Literal). has ls l) (sym seen) ∙ h);
  };
  trail = p.trail;
  level = p.level;
  watched = subst (λ (f : Lits). Watched w f t) (sym (lits_same s u wrote.held)) p.watched;
  reasons = Reasons-more (attached w) (attached w) s u t.steps (λ c there. (there, clause_at_same s u wrote.held c.address)) wrote.more p.reasons;
  told = told_same s u t n seen p.told;
  whole = p.whole;
}
wrote_import s u (Err stop) t w n p wrote seen port = tt
