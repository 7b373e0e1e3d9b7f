-- A ring that has learned a lemma.
use Rattle.std.proofs.Common.{◌≡◌, ◌∙◌, ℕ, ◌+◌, ◌<◌, ◌≤◌, true, List, [], ◌∷◌, ◌++◌, map, sym, subst, ap, arith, inl, inr, Some, None, IsSome, refl, Contains, Ok, append-nil, get_or}
use Rattle.std.specs.Prelude.{All}
use Rattle.std.specs.Option.{option_map, option_to_list}
use Rattle.std.specs.declared.option.Option.{Option}
use Rattle.std.proofs.lemmas.List.Elements.{All-append, All-cons, All-nil}
use Rattle.sat_words.specs.Literal.{Literal}
use Rattle.sat_words.specs.Clause.{has}
use Rattle.sat_words.specs.declared.shared.Cref.{Cref}
use Rattle.rup_model.specs.declared.journal.Kind.TheVariants.{Learn}
use Rattle.rup_model.proofs.Lists.{In, Contains_In, In_Contains, In_append, In_append_left, In_append_right, In_map, map_In}
use Rattle.ring_port.specs.PortState.{PortState, Holding, IsPort, held_at, lits_at, lits_in}
use Rattle.ring_port.specs.Port.{Learned, KeepsHeld, IsClause}
use Rattle.ring_port.specs.Log.{KeepsLog}
use Rattle.ring_trail.specs.declared.step.TrailStep.{TrailStep}
use Rattle.ring_trail.specs.TrailData.{TrailData, IsTrail, HasNoPlace, cut_back, assigned}
use Rattle.ring_trail.specs.Closed.{TrueWithin, IsClosedClause, IsClosed}
use Rattle.ring_trail.proofs.Causes.{IsReasoned-back, IsReasoned-forced, IsReasoned-seen, IsClosed-back, IsClosed-grown}
use Rattle.watch_prop.specs.WatchData.{attached, clauses_of}
use Rattle.watch_prop.specs.Watched.{Watched}
use Rattle.watch_prop.specs.Propagation.{HasReasons, attached_at}
use Rattle.watch_prop.proofs.TrailLaws.{Watched-assign, Watched-back, Watched-port, Reasons-more, Reasons-held}
use Rattle.watch_prop.proofs.Reasons.{attached_some}
use Rattle.ring_run.specs.Searching.{IsHeldBy, HasClauses, Stands, GoesOn, IsAsserting, IsGlueOf, SeenTrue, OpeningSeen, AreTold}
use Rattle.ring_run.specs.Course.{Searches, InSearch, GoesOnBy, Asserted, Restarted, HasLeft}
use Rattle.ring_run.specs.declared.ring.Ring.{Ring}
use Rattle.ring_run.proofs.Remembering.{LitsStay, lits_kept, unit_remembered, clause_remembered}
use Rattle.ring_run.proofs.Standing.{sees_old, sees_new, seen_of, within_more, within_last}
use Rattle.ring_run.proofs.Asserting.{back_within, forces_first, seen_back, first_has_no_value}
use Rattle.ring_run.proofs.Telling.{told_step, told_same, told_unit, told_back, unseen_false}
use Rattle.std.proofs.lemmas.Bool.{false≢true}
use Rattle.ring_run.proofs.Progress.{IsReady, clause_goes_on, unit_learned_goes_on, starts_kept}

pub learned_any : (start s u : PortState) (n glue : ℕ) (t : TrailData) (lits : List Literal) (back : ℕ) (address : Option Cref) → IsReady start s n → Stands s t → IsAsserting s t lits back → IsGlueOf t.steps lits glue → Learned s u lits glue (Ok address)
    → KeepsHeld s u → KeepsLog s u → IsPort u → GoesOn start u (n + 1)
learned_any start s u n glue t lits back (Some c) p stands a counts w kept log port =
    clause_goes_on start s u n glue t.steps lits c p (subst (λ (v : ℕ). IsClause v lits) stands.vars a.clause) a.is_new_to counts w kept log port
learned_any start s u n glue t lits back None p stands a counts w kept log port =
    unit_learned_goes_on start s u n lits p (subst (λ (v : ℕ). IsClause v lits) stands.vars a.clause) a.is_new_to w kept log port

-- what was held still is
pub held_more : (s u : PortState) (cs : List Cref) → KeepsHeld s u → All (IsHeldBy s) cs → All (IsHeldBy u) cs
held_more s u cs kept all = λ k d h. (let there = all k d h in subst (λ (o : Option Holding). IsSome o) (sym (kept (get_or cs k d).address there)) there)

same_first : (s : PortState) (t : TrailData) (lits : List Literal) (back : ℕ) (a : IsAsserting s t lits back) (first : Literal) (rest : List Literal) → lits ≡ first ∷ rest → a.first ≡ first
same_first s t lits back a first rest e = let both : a.first ∷ a.rest ≡ first ∷ rest = sym a.parts ∙ e in cc

-- what the call that learned a lemma leaves of the clauses attached, with the lemma's own
record Kept (s u : PortState) (cs : List Cref) (v : TrailData) (first : Literal) (lits : List Literal) (address : Option Cref) : Type 0 where
  pub clauses : HasClauses u (cs ++ option_to_list address)
  pub vars : u.vars ≡ s.vars
  pub opening : OpeningSeen u
  pub more : (l : Literal) → has s.seen l ≡ true → has u.seen l ≡ true
  pub newest : (d : List Literal) → In d (map (λ (x : Cref). lits_at u x.address) (option_to_list address)) → lits ≡ d
  pub reasons : HasReasons (cs ++ option_to_list address) u v.steps → HasReasons (cs ++ option_to_list address) u (assigned v first address).steps
  pub seen : SeenTrue s v.steps → SeenTrue u (assigned v first address).steps
  pub told : (n : ℕ) → AreTold s v n → HasNoPlace v.steps first.var → AreTold u (assigned v first address) n

learned_clause : (s u : PortState) (t v : TrailData) (cs : List Cref) (lits : List Literal) (back glue : ℕ) (c : Cref) (a : IsAsserting s t lits back) → HasClauses s cs → OpeningSeen s → Stands s t → IsTrail t → v ≡ cut_back t back
    → Learned s u lits glue (Ok (Some c)) → KeepsHeld s u → IsPort u → Kept s u cs v a.first lits (Some c)
learned_clause s u t v cs lits back glue c a p opening stands shape is w kept port =
    let seen = ap (λ (y : PortState). y.seen) w.state in
    let held : IsSome (held_at u c.address) = subst (λ (o : Option Holding). IsSome o) (sym w.there) refl in
    let there : Contains (cs ++ c ∷ []) c = In_Contains (cs ++ c ∷ []) c (In_append_right cs (c ∷ []) c (inl refl)) in
    let x : TrailStep = record { lit = a.first; level = v.level; reason = Some c } in
    record {
      clauses = record {
        held = All-append (IsHeldBy u) cs (c ∷ []) (held_more s u cs kept p.held) (All-cons (IsHeldBy u) c [] held (All-nil (IsHeldBy u)));
        starts = λ h start. In_Contains (cs ++ c ∷ []) (record { address = h.address }) (In_append_left cs (c ∷ []) (record { address = h.address })
            (Contains_In cs (record { address = h.address }) (p.starts h (subst (λ (hs : List Holding). Contains hs h) (ap (λ (y : PortState). y.start) w.state) start))));
        starts_held = starts_kept s u (ap (λ (y : PortState). y.start) w.state) kept p.starts_held;
        own = clause_remembered s u lits glue c cs a.clause.distinct w (lits_kept s u cs kept p.held) p.own;
        taken = λ a member. In_Contains (cs ++ c ∷ []) (record { address = a }) (In_append_left cs (c ∷ []) (record { address = a })
            (Contains_In cs (record { address = a }) (p.taken a (subst (λ (xs : List ℕ). Contains xs a) (ap (λ (y : PortState). y.taken) w.state) member))));
        refused = ap (λ (y : PortState). y.refused) w.state ∙ p.refused;
        stop = ap (λ (y : PortState). y.stop) w.state ∙ p.stop;
        port = port;
      };
      vars = ap (λ (y : PortState). y.vars) w.state;
      opening = λ l h. ap (λ (ls : List Literal). has ls l) seen ∙ opening l (ap (λ (ls : List Literal). has ls l) (sym (ap (λ (y : PortState). y.opening) w.state)) ∙ h);
      more = λ l h. ap (λ (ls : List Literal). has ls l) seen ∙ h;
      newest = λ d m. elim m as (λ _. lits ≡ d) [ inl e ↦ sym (ap lits_in w.there) ∙ e | inr none ↦ absurd none ];
      reasons = λ r. IsReasoned-forced (attached_at (cs ++ c ∷ []) u) u.seen v a.first c lits r
          (attached_some (cs ++ c ∷ []) u c there held ∙ ap Some (ap lits_in w.there)) (forces_first s t v lits back a shape is);
      seen = λ all l h. within_more v.steps (x ∷ []) 0 l (all l (sym (ap (λ (ls : List Literal). has ls l) seen) ∙ h));
      told = λ n told free. told_step u v (assigned v a.first (Some c)) x n refl (told_same s u v n seen told)
          (λ some. ap (λ (ls : List Literal). has ls a.first) seen ∙ unseen_false s t a.first stands shape a.first_false) told.all (λ up. up);
    }

learned_unit : (s u : PortState) (t v : TrailData) (cs : List Cref) (lits : List Literal) (back glue : ℕ) (a : IsAsserting s t lits back) → HasClauses s cs → OpeningSeen s → v ≡ cut_back t back
    → Learned s u lits glue (Ok None) → KeepsHeld s u → IsPort u → Kept s u cs v a.first lits None
learned_unit s u t v cs lits back glue a p opening is w kept port =
    let wrote = w.wrote in
    let none : cs ++ [] ≡ cs = append-nil cs in
    let both : a.first ∷ a.rest ≡ w.lit ∷ [] = sym a.parts ∙ w.unit in
    let first : a.first ≡ w.lit = cc in
    let rest : a.rest ≡ [] = cc in
    let level : v.level ≡ 0 = ap (λ (y : TrailData). y.level) is ∙ a.of_unit rest in
    let more = λ (l : Literal) (h : has s.seen l ≡ true). sees_old s.seen u.seen w.lit l wrote.sees h in
    let x : TrailStep = record { lit = a.first; level = v.level; reason = None } in
    record {
      clauses = subst (HasClauses u) (sym none) (record {
        held = held_more s u cs kept p.held;
        starts = λ h start. p.starts h (subst (λ (hs : List Holding). Contains hs h) (ap (λ (y : PortState). y.start) wrote.state) start);
        starts_held = starts_kept s u (ap (λ (y : PortState). y.start) wrote.state) kept p.starts_held;
        own = unit_remembered s u w.lit Learn None wrote cs p.own;
        taken = λ a member. p.taken a (subst (λ (xs : List ℕ). Contains xs a) (ap (λ (y : PortState). y.taken) wrote.state) member);
        refused = ap (λ (y : PortState). y.refused) wrote.state ∙ p.refused;
        stop = ap (λ (y : PortState). y.stop) wrote.state ∙ p.stop;
        port = port;
      });
      vars = ap (λ (y : PortState). y.vars) wrote.state;
      opening = λ l h. more l (opening l (ap (λ (ls : List Literal). has ls l) (sym (ap (λ (y : PortState). y.opening) wrote.state)) ∙ h));
      more = more;
      newest = λ d m. absurd m;
      reasons = λ r. IsReasoned-seen (attached_at (cs ++ []) u) u.seen v a.first None r level (ap (has u.seen) first ∙ sees_new s.seen u.seen w.lit wrote.sees);
      seen = λ all l h. elim (seen_of s u w.lit Learn None l wrote h) as (λ _. TrueWithin (v.steps ++ x ∷ []) 0 l) [
        | inl old ↦ within_more v.steps (x ∷ []) 0 l (all l old)
        | inr e ↦ subst (TrueWithin (v.steps ++ x ∷ []) 0) (first ∙ e) (within_last v.steps x 0 (omega arith))
      ];
      told = λ n told free. told_step u v (assigned v a.first None) x n refl (told_unit s u v n w.lit wrote.sees (subst (λ (l : Literal). HasNoPlace v.steps l.var) first free) told)
          (λ none. absurd (false≢true none)) (λ up. absurd (omega (arith, up, level))) (λ up. up);
    }

module _ (s u : PortState) (old new : Ring) (lits : List Literal) (back : ℕ) (address : Option Cref) (p : InSearch s old) (a : IsAsserting s old.trail lits back) (kept : KeepsHeld s u)
    (at : Asserted u old new lits back address) (k : Kept s u (attached old.watches) at.middle a.first lits address) where
  abbrev cs : List Cref
  cs = attached old.watches

  abbrev ds : List Cref
  ds = cs ++ option_to_list address

  stay : LitsStay s u cs
  stay = lits_kept s u cs kept p.clauses.held

  low : back ≤ old.trail.level
  low = back_within s old.trail lits back a p.trail

  level : at.middle.level ≡ back
  level = ap (λ (y : TrailData). y.level) at.went.is

  abbrev after : TrailData
  after = assigned at.middle a.first address

  is_after : new.trail ≡ after
  is_after = at.trail ∙ ap (λ (l : Literal). assigned at.middle l address) (sym (same_first s old.trail lits back a at.first at.rest at.parts))

  is_watched : Watched new.watches (lits_at u) after
  is_watched =
      let there = Watched-back old.watches (lits_at u) old.trail back p.trail low (Watched-port old.watches (lits_at s) (lits_at u) old.trail stay p.watched) in
      Watched-assign new.watches (lits_at u) at.middle a.first address at.went.shape (at.watched at.middle (subst (Watched old.watches (lits_at u)) (sym at.went.is) there))

  -- below the level to go back to each clause was closed before, and the lemma too
  closed_before : (j : ℕ) → j < back → IsClosed (map (λ (x : Cref). lits_at u x.address) ds) old.trail.steps j
  closed_before j below d there =
      let t = map_In (λ (x : Cref). lits_at u x.address) ds d (Contains_In (map (λ (x : Cref). lits_at u x.address) ds) d there) in
      elim (In_append cs (option_to_list address) t.0 t.1) as (λ _. IsClosedClause d old.trail.steps j) [
        | inl before ↦ (
            let inside : Contains cs t.0 = In_Contains cs t.0 before in
            subst (λ (c : List Literal). IsClosedClause c old.trail.steps j) (sym (stay t.0 inside) ∙ t.2)
            (p.closed j (omega (arith, low, below)) (lits_at s t.0.address)
            (In_Contains (clauses_of old.watches (lits_at s)) (lits_at s t.0.address) (In_map (λ (x : Cref). lits_at s x.address) cs t.0 before))))
        | inr own ↦ subst (λ (c : List Literal). IsClosedClause c old.trail.steps j)
            (k.newest d (subst (λ (c : List Literal). In c (map (λ (x : Cref). lits_at u x.address) (option_to_list address))) t.2 (In_map (λ (x : Cref). lits_at u x.address) (option_to_list address) t.0 own)))
            (a.closed j below)
      ]

  closed_after : (j : ℕ) → j < after.level → IsClosed (map (λ (x : Cref). lits_at u x.address) ds) after.steps j
  closed_after j below =
      let cut = IsClosed-back (map (λ (x : Cref). lits_at u x.address) ds) old.trail j back p.trail (omega (arith, level, below)) (closed_before j (omega (arith, level, below))) in
      IsClosed-grown (map (λ (x : Cref). lits_at u x.address) ds) at.middle.steps (record { lit = a.first; level = at.middle.level; reason = address }) j (omega (arith, below))
      (subst (λ (y : TrailData). IsClosed (map (λ (x : Cref). lits_at u x.address) ds) y.steps j) (sym at.went.is) cut)

  reasons_after : HasReasons ds u after.steps
  reasons_after = k.reasons (subst (λ (y : TrailData). HasReasons ds u y.steps) (sym at.went.is)
      (IsReasoned-back (attached_at ds u) u.seen old.trail back p.trail
      (Reasons-more cs ds s u old.trail.steps
      (λ c there. (
        In_Contains ds c (In_append_left cs (option_to_list address) c (Contains_In cs c there)),
        ap (option_map (λ (h : Holding). h.lits)) (kept c.address (subst (IsHeldBy s) there.2 (p.clauses.held there.0 c there.1))),
      )) k.more p.reasons)))

  told_after : AreTold u after old.written
  told_after = k.told old.written (told_back s old.trail at.middle back old.written p.told p.trail low at.went) (first_has_no_value s old.trail at.middle lits back a p.trail at.went)

  searches_after : Searches u after new.watches old.written
  searches_after = record {
    clauses = subst (HasClauses u) (sym at.clauses) k.clauses;
    opening = k.opening;
    stands = record {
      vars = ap (λ (y : TrailData). y.vars) at.went.is ∙ p.stands.vars ∙ sym k.vars;
      reasoned = Reasons-held ds u after.steps reasons_after;
      seen = k.seen (λ l h. seen_back s old.trail at.middle back l p.stands p.trail at.went h);
    };
    trail = subst IsTrail is_after at.shape;
    watched = is_watched;
    closed = λ j below. subst (λ (xs : List Cref). IsClosed (map (λ (x : Cref). lits_at u x.address) xs) after.steps j) (sym at.clauses) (closed_after j below);
    reasons = subst (λ (xs : List Cref). HasReasons xs u after.steps) (sym at.clauses) reasons_after;
    told = told_after;
  }

  asserted_search : InSearch u new
  asserted_search = subst (λ (n : ℕ). Searches u new.trail new.watches n) (sym at.written) (subst (λ (y : TrailData). Searches u y new.watches old.written) (sym is_after) searches_after)

pub in_search_after : (s u : PortState) (old new : Ring) (lits : List Literal) (back glue : ℕ) (address : Option Cref) → InSearch s old → IsAsserting s old.trail lits back
    → Learned s u lits glue (Ok address) → KeepsHeld s u → IsPort u → Asserted u old new lits back address → InSearch u new
in_search_after s u old new lits back glue (Some c) p a w kept port at =
    asserted_search s u old new lits back (Some c) p a kept at (learned_clause s u old.trail at.middle (attached old.watches) lits back glue c a p.clauses p.opening p.stands p.trail at.went.is w kept port)
in_search_after s u old new lits back glue None p a w kept port at =
    asserted_search s u old new lits back None p a kept at (learned_unit s u old.trail at.middle (attached old.watches) lits back glue a p.clauses p.opening at.went.is w kept port)

module _ (s u : PortState) (old new : Ring) (lits : List Literal) (back glue : ℕ) (c : Cref) (p : InSearch s old) (a : IsAsserting s old.trail lits back)
    (w : Learned s u lits glue (Ok (Some c))) (kept : KeepsHeld s u) (port : IsPort u) (at : Restarted u old new (Some c)) where
  abbrev cs0 : List Cref
  cs0 = attached old.watches

  abbrev ds0 : List Cref
  ds0 = cs0 ++ c ∷ []

  seen0 : u.seen ≡ s.seen
  seen0 = ap (λ (y : PortState). y.seen) w.state

  level0 : new.trail.level ≡ 0
  level0 = ap (λ (y : TrailData). y.level) at.went.is

  here0 : Kept s u cs0 (cut_back old.trail back) a.first lits (Some c)
  here0 = learned_clause s u old.trail (cut_back old.trail back) cs0 lits back glue c a p.clauses p.opening p.stands p.trail refl w kept port

  reasons0 : HasReasons ds0 u new.trail.steps
  reasons0 = subst (λ (y : TrailData). HasReasons ds0 u y.steps) (sym at.went.is)
      (IsReasoned-back (attached_at ds0 u) u.seen old.trail 0 p.trail
      (Reasons-more cs0 ds0 s u old.trail.steps
      (λ d there. (
        In_Contains ds0 d (In_append_left cs0 (c ∷ []) d (Contains_In cs0 d there)),
        ap (option_map (λ (h : Holding). h.lits)) (kept d.address (subst (IsHeldBy s) there.2 (p.clauses.held there.0 d there.1))),
      )) here0.more p.reasons))

  watched0 : Watched new.watches (lits_at u) new.trail
  watched0 = at.watched new.trail (subst (Watched old.watches (lits_at u)) (sym at.went.is)
      (Watched-back old.watches (lits_at u) old.trail 0 p.trail (omega arith) (Watched-port old.watches (lits_at s) (lits_at u) old.trail (lits_kept s u cs0 kept p.clauses.held) p.watched)))

  told0 : AreTold u new.trail old.written
  told0 = told_same s u new.trail old.written seen0 (told_back s old.trail new.trail 0 old.written p.told p.trail (omega arith) at.went)

  -- a search that has restarted after a lemma
  restarted_search : InSearch u new
  restarted_search = record {
    clauses = subst (HasClauses u) (sym at.clauses) here0.clauses;
    opening = here0.opening;
    stands = record {
      vars = ap (λ (y : TrailData). y.vars) at.went.is ∙ p.stands.vars ∙ sym here0.vars;
      reasoned = Reasons-held ds0 u new.trail.steps reasons0;
      seen = λ l h. seen_back s old.trail new.trail 0 l p.stands p.trail at.went (sym (ap (λ (ls : List Literal). has ls l) seen0) ∙ h);
    };
    trail = at.went.shape;
    watched = watched0;
    closed = λ j below. absurd (omega (arith, level0, below));
    reasons = subst (λ (xs : List Cref). HasReasons xs u new.trail.steps) (sym at.clauses) reasons0;
    told = subst (AreTold u new.trail) (sym at.written) told0;
  }

-- a lemma of one literal asks for level 0
unit_at_zero : (s u : PortState) (t : TrailData) (lits : List Literal) (back glue : ℕ) → IsAsserting s t lits back → Learned s u lits glue (Ok None) → back ≡ 0
unit_at_zero s u t lits back glue a w =
    let both : a.first ∷ a.rest ≡ w.lit ∷ [] = sym a.parts ∙ w.unit in
    let rest : a.rest ≡ [] = cc in
    a.of_unit rest

-- a search that has left its conflict
pub left_search : (s u : PortState) (old new : Ring) (lits : List Literal) (back glue : ℕ) (address : Option Cref) → InSearch s old → IsAsserting s old.trail lits back
    → Learned s u lits glue (Ok address) → KeepsHeld s u → IsPort u → HasLeft u old new lits back address → InSearch u new
left_search s u old new lits back glue address p a w kept port (inl at) = in_search_after s u old new lits back glue address p a w kept port at.1
left_search s u old new lits back glue (Some c) p a w kept port (inr at) = restarted_search s u old new lits back glue c p a w kept port at.2
left_search s u old new lits back glue None p a w kept port (inr at) = absurd (omega (arith, at.1, unit_at_zero s u old.trail lits back glue a w))

pub left_level : (u : PortState) (old new : Ring) (lits : List Literal) (back : ℕ) (address : Option Cref) → HasLeft u old new lits back address → new.trail.level ≤ back
left_level u old new lits back address (inl at) =
    let level = ap (λ (t : TrailData). t.level) at.1.trail in
    let is = ap (λ (t : TrailData). t.level) at.1.went.is in
    omega (arith, level, is)
left_level u old new lits back address (inr at) = let is = ap (λ (t : TrailData). t.level) at.2.went.is in omega (arith, is)

pub goes_on_by : (s u : PortState) (old new : Ring) → InSearch u new → ((start : PortState) → GoesOn start s old.learned → GoesOn start u new.learned) → GoesOnBy s old u new
goes_on_by s u old new p goes = record { search = p; goes = goes }
