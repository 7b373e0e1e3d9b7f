-- What a ring takes from the others leaves of its run and of its search.
use Rattle.std.proofs.Common.{◌≡◌, ◌∙◌, ℕ, ◌≤◌, ◌==◌, ◌&&◌, ◌⊎◌, inl, inr, Bool, true, false, List, [], ◌∷◌, ◌++◌, length, map, filter, cond, sym, subst, ap, arith, refl, IsSome, Contains, eq-eqb, length-append, append-nil}
use Rattle.std.specs.Prelude.{All}
use Rattle.std.specs.List.{list_any}
use Rattle.std.specs.Option.{option_map}
use Rattle.std.proofs.lemmas.List.{length-map}
use Rattle.std.proofs.lemmas.Bool.{or_left, or_right, and_from, false≢true}
use Rattle.std.proofs.lemmas.List.Elements.{All-append, All-cons, All-nil}
use Rattle.sat_words.specs.Literal.{Literal, same}
use Rattle.sat_words.specs.Clause.{has, same_set, is_empty}
use Rattle.sat_words.specs.declared.shared.Cref.{Cref}
use Rattle.sat_words.proofs.Members.{same-refl}
use Rattle.rup_model.specs.declared.journal.Kind.{Kind}
use Rattle.rup_model.specs.declared.journal.Kind.TheVariants.{Ruler, Learn, Derive, UnitLine}
use Rattle.rup_model.specs.declared.journal.Addition.{Addition}
use Rattle.rup_model.specs.declared.journal.Entry.{Entry}
use Rattle.rup_model.specs.declared.journal.Entry.TheVariants.{Add, Del, Reduce, Round}
use Rattle.rup_model.specs.Basics.{EachAfter}
use Rattle.rup_model.specs.Journal.{additions, added, learned, recent}
use Rattle.rup_model.specs.Opening.{adds_unit}
use Rattle.rup_model.proofs.Lists.{In, Contains_In, In_Contains, In_append, In_append_left, In_append_right, In_has, has_In, map_In}
use Rattle.ring_port.specs.PortState.{PortState, Holding, Slot, IsPort, held_at, lits_at, one_more}
use Rattle.ring_port.specs.Port.{TookUnit, KeepsHeld}
use Rattle.ring_port.specs.Exchange.{TookClause, looked_into}
use Rattle.ring_port.specs.Log.{KeepsLog}
use Rattle.ring_port.proofs.Holdings.{All_In}
use Rattle.ring_trail.specs.TrailData.{TrailData}
use Rattle.watch_prop.specs.WatchData.{WatchData, attached}
use Rattle.watch_prop.specs.Watched.{Watched}
use Rattle.watch_prop.specs.Propagation.{HasReasons}
use Rattle.watch_prop.proofs.TrailLaws.{Watched-port, Reasons-more, Reasons-held}
use Rattle.ring_run.specs.Ended.{IsTimely, Stays, IsOwn, IsOfKind, IsUntold, IsNewLine, AreNewLines, IsGlued, HoldsGlued, is_unit_line}
use Rattle.ring_run.specs.Searching.{HasClauses, KeepsOn, IsHeldBy, AddedSeen, OnlyPolled}
use Rattle.ring_run.specs.Course.{Searches}
use Rattle.ring_run.proofs.Remembering.{held_same, LitsStay, lits_kept, remembered_as}
use Rattle.ring_run.proofs.Lately.{sees_same, lately_same}
use Rattle.ring_run.proofs.Progress.{stays_by, news_moved, lines_moved, runs_same, starts_kept}
use Rattle.ring_run.proofs.Learning.{held_more}
use Rattle.ring_run.proofs.Telling.{never, told_same}
use Rattle.std.specs.declared.option.Option.{Option}
use Rattle.ring_run.proofs.Tickets.{tickets_of, limit_same, draws_same}

-- Units

unit_same : (l : Literal) → same_set (l ∷ []) (l ∷ []) ≡ true
unit_same l =
    let one : has (l ∷ []) l ≡ true = or_left (same l l) false (same-refl l) in
    and_from (has (l ∷ []) l && true) (has (l ∷ []) l && true) (and_from (has (l ∷ []) l) true one refl) (and_from (has (l ∷ []) l) true one refl)

abbrev lits_of : List Addition → List (List Literal)
lits_of xs = map (λ (x : Addition). x.lits) xs

-- the entry of a unit is one that adds it
adds_here : (r : ℕ) (J : List Entry) (x : Addition) (l : Literal) → In (Add x) J → x.ring ≡ r → x.lits ≡ l ∷ [] → adds_unit r J l ≡ true
adds_here r [] x l none ring lits = absurd none
adds_here r (e ∷ J) x l (inl is) ring lits = subst (λ (d : Entry). adds_unit r (d ∷ J) l ≡ true) (sym is) (by (x.ring == r) (eq-eqb x.ring r ring))
  where
    rest : List Addition
    rest = filter (λ (y : Addition). y.ring == r) (additions J)

    by : (b : Bool) → b ≡ true → list_any (same_set (l ∷ [])) (lits_of (cond b (x ∷ rest) rest)) ≡ true
    by true h = or_left (same_set (l ∷ []) x.lits) (list_any (same_set (l ∷ [])) (lits_of rest)) (subst (λ (c : List Literal). same_set (l ∷ []) c ≡ true) (sym lits) (unit_same l))
    by false h = absurd (false≢true h)
adds_here r (Add y ∷ J) x l (inr later) ring lits = by (y.ring == r) (adds_here r J x l later ring lits)
  where
    rest : List Addition
    rest = filter (λ (z : Addition). z.ring == r) (additions J)

    by : (b : Bool) → list_any (same_set (l ∷ [])) (lits_of rest) ≡ true → list_any (same_set (l ∷ [])) (lits_of (cond b (y ∷ rest) rest)) ≡ true
    by true h = or_right (same_set (l ∷ []) y.lits) (list_any (same_set (l ∷ [])) (lits_of rest)) h
    by false h = h
adds_here r (Del q n ∷ J) x l (inr later) ring lits = adds_here r J x l later ring lits
adds_here r (Reduce q ∷ J) x l (inr later) ring lits = adds_here r J x l later ring lits
adds_here r (Round y ∷ J) x l (inr later) ring lits = adds_here r J x l later ring lits

-- what each entry is after those before it, by what it is
each_in : (P Q : List Entry → Entry → Type 0) (before es : List Entry) → ((b : List Entry) (e : Entry) → In e es → P b e → Q b e) → EachAfter P before es → EachAfter Q before es
each_in P Q before [] f h = tt
each_in P Q before (e ∷ es) f h = (f before e (inl refl) h.0, each_in P Q (before ++ e ∷ []) es (λ b d there p. f b d (inr there) p) h.1)

single : (c : List Literal) → length c ≡ 1 → (l : Literal) × (c ≡ l ∷ [])
single [] e = absurd (omega (arith, e))
single (l ∷ []) e = (l, refl)
single (k ∷ l ∷ c) e = absurd (omega (arith, e))

unit_of : (kind : Kind) (c : List Literal) → is_unit_line kind ≡ true → IsOfKind kind c → length c ≡ 1
unit_of Ruler c e h = absurd (false≢true e)
unit_of Learn c e h = absurd (false≢true e)
unit_of Derive c e h = absurd (false≢true e)
unit_of UnitLine c e h = h

module _ (s w : PortState) (k : Literal) (took : TookUnit s w k) (seen : AddedSeen s) where
  given_is : w.given ≡ s.given ++ k ∷ []
  given_is = ap (λ (x : PortState). x.given) took.state

  -- a unit that the ring added is seen, so it isn't the one that came
  not_given : (l : Literal) → adds_unit s.ring s.mine l ≡ true → has s.given l ≡ false → has w.given l ≡ false
  not_given l adds before = never (has w.given l) (λ h.
      elim (In_append s.given (k ∷ []) l (subst (In l) given_is (has_In w.given l h))) as (λ _. ⊥) [
        | inl old ↦ false≢true (sym before ∙ In_has s.given l old)
        | inr (inl is) ↦ false≢true (sym took.fresh ∙ ap (has s.seen) is ∙ seen l adds)
        | inr (inr none) ↦ none
      ])

  still_untold : (vars : ℕ) (b : List Entry) (e : Entry) → In e s.mine → IsOwn s.ring vars e → IsNewLine s.opening s.given s.ring b e → IsNewLine s.opening w.given s.ring b e
  still_untold vars b (Add x) there own p = λ is_line.
      (let one = single x.lits (unit_of x.kind x.lits is_line own.2) in
      let u : IsUntold s.opening s.given s.ring b one.0 = subst (All (IsUntold s.opening s.given s.ring b)) one.1 (p is_line) 0 one.0 (omega arith) in
      subst (All (IsUntold s.opening w.given s.ring b)) (sym one.1)
      (All-cons (IsUntold s.opening w.given s.ring b) one.0 [] (record {
        not_listed = u.not_listed;
        not_given = not_given one.0 (adds_here s.ring s.mine x one.0 there own.0 one.1) u.not_given;
        not_added = u.not_added;
      }) (All-nil (IsUntold s.opening w.given s.ring b))))
  still_untold vars b (Del r n) there own p = tt
  still_untold vars b (Reduce r) there own p = tt
  still_untold vars b (Round x) there own p = tt

  took_lines : (vars : ℕ) → All (IsOwn s.ring vars) s.mine → AreNewLines s → AreNewLines w
  took_lines vars own p =
      let Q : List Literal → ℕ → List Entry → Type 0 = λ o r J. EachAfter (IsNewLine o w.given r) [] J in
      let there : Q s.opening s.ring s.mine = each_in (IsNewLine s.opening s.given s.ring) (IsNewLine s.opening w.given s.ring) [] s.mine
      (λ b e i q. still_untold vars b e i (All_In (IsOwn s.ring vars) s.mine e own i) q) p in
      subst (λ (J : List Entry). Q w.opening w.ring J) (sym (ap (λ (x : PortState). x.mine) took.state))
      (subst (λ (r : ℕ). Q w.opening r s.mine) (sym (ap (λ (x : PortState). x.ring) took.state)) (subst (λ (o : List Literal). Q o s.ring s.mine) (sym (ap (λ (x : PortState). x.opening) took.state)) there))

  took_stays : KeepsLog s w → Stays s w
  took_stays log = record {
    start = ap (λ (x : PortState). x.start) took.state;
    opening = ap (λ (x : PortState). x.opening) took.state;
    vars = ap (λ (x : PortState). x.vars) took.state;
    ring = ap (λ (x : PortState). x.ring) took.state;
    rings = ap (λ (x : PortState). x.rings) took.state;
    depth = ap (λ (x : PortState). x.depth) took.state;
    polled = omega (arith, ap (λ (x : PortState). x.polled) took.state);
    limit = ap (λ (x : PortState). x.limit) took.state;
    home = ap (λ (x : PortState). x.home) took.state;
    hinted = ap (λ (x : PortState). x.hinted) took.state;
    log = log;
  }

  -- a run that has been given a unit
  pub unit_taken : KeepsLog s w → IsPort w → KeepsOn s w
  unit_taken log port = λ start n p.
      (let stays = took_stays log in
      let held : w.held ≡ s.held = ap (λ (x : PortState). x.held) took.state in
      let mine : w.mine ≡ s.mine = ap (λ (x : PortState). x.mine) took.state in
      record {
        runs = runs_same start s w n p.runs stays held (λ l h. took.sees l ∙ or_left (has s.seen l) (same k l) h) mine
            (took_lines start.vars (subst (λ (r : ℕ). All (IsOwn r start.vars) s.mine) (sym p.runs.stays.ring) p.runs.wrote) p.runs.new_lines) port;
        draws = draws_same s w n (ap tickets_of took.state) p.draws;
        going = ap (λ (J : List Entry). list_any is_empty (added J)) mine ∙ p.going;
        stop = ap (λ (x : PortState). x.stop) took.state ∙ p.stop;
        refused = ap (λ (x : PortState). x.refused) took.state ∙ p.refused;
        held = starts_kept s w stays.start (λ a h. held_same s w a held) p.held;
      })

  pub still_added : AddedSeen w
  still_added l h =
      let before : adds_unit s.ring s.mine l ≡ true = sym (ap (λ (x : PortState). adds_unit x.ring x.mine l) took.state) ∙ h in
      took.sees l ∙ or_left (has s.seen l) (same k l) (seen l before)

-- Polls

-- a poll that took nothing, or a clause
pub record Polls (s u : PortState) (given : List Cref) : Type 0 where
  pub start : u.start ≡ s.start
  pub opening : u.opening ≡ s.opening
  pub vars : u.vars ≡ s.vars
  pub ring : u.ring ≡ s.ring
  pub rings : u.rings ≡ s.rings
  pub depth : u.depth ≡ s.depth
  pub polled : u.polled ≡ one_more s.polled
  pub taken : u.taken ≡ s.taken ++ map (λ (c : Cref). c.address) given
  pub tickets : tickets_of u ≡ tickets_of s
  pub home : u.home ≡ s.home
  pub hinted : u.hinted ≡ s.hinted
  pub seen : u.seen ≡ s.seen
  pub units : u.given ≡ s.given
  pub mine : u.mine ≡ s.mine
  pub stop : u.stop ≡ s.stop
  pub refused : u.refused ≡ s.refused
  pub kept : KeepsHeld s u
  pub holds : (h : Holding) → Contains u.held h → Contains s.held h ⊎ Contains (map (λ (c : Cref). c.address) given) h.address

pub polled_none : (s u : PortState) (ring class place : ℕ) → u ≡ looked_into ring class place s → Polls s u []
polled_none s u ring class place is = subst (λ (x : PortState). Polls s x []) (sym is) (record {
  start = refl;
  opening = refl;
  vars = refl;
  ring = refl;
  rings = refl;
  depth = refl;
  polled = refl;
  taken = sym (append-nil s.taken);
  tickets = refl;
  home = refl;
  hinted = refl;
  seen = refl;
  units = refl;
  mine = refl;
  stop = refl;
  refused = refl;
  kept = λ a h. held_same s (looked_into ring class place s) a refl;
  holds = λ h there. inl there;
})

pub polled_some : (s u : PortState) (ring class place : ℕ) (c : Cref) → TookClause s u ring class place c → KeepsHeld s u → Polls s u (c ∷ [])
polled_some s u ring class place c w kept = record {
  start = ap (λ (x : PortState). x.start) w.state;
  opening = ap (λ (x : PortState). x.opening) w.state;
  vars = ap (λ (x : PortState). x.vars) w.state;
  ring = ap (λ (x : PortState). x.ring) w.state;
  rings = ap (λ (x : PortState). x.rings) w.state;
  depth = ap (λ (x : PortState). x.depth) w.state;
  polled = ap (λ (x : PortState). x.polled) w.state;
  taken = ap (λ (x : PortState). x.taken) w.state;
  tickets = ap tickets_of w.state;
  home = ap (λ (x : PortState). x.home) w.state;
  hinted = ap (λ (x : PortState). x.hinted) w.state;
  seen = ap (λ (x : PortState). x.seen) w.state;
  units = ap (λ (x : PortState). x.given) w.state;
  mine = ap (λ (x : PortState). x.mine) w.state;
  stop = ap (λ (x : PortState). x.stop) w.state;
  refused = ap (λ (x : PortState). x.refused) w.state;
  kept = kept;
  holds = λ h there. elim (In_append s.held (w.clause ∷ []) h (Contains_In (s.held ++ w.clause ∷ []) h (subst (λ (hs : List Holding). Contains hs h) (ap (λ (x : PortState). x.held) w.state) there)))
      as (λ _. Contains s.held h ⊎ Contains (c.address ∷ []) h.address) [
        | inl old ↦ inl (In_Contains s.held h old)
        | inr (inl is) ↦ inr (In_Contains (c.address ∷ []) h.address (inl (sym w.address ∙ ap (λ (x : Holding). x.address) is)))
        | inr (inr none) ↦ absurd none
      ];
}

module _ (s u : PortState) (given : List Cref) (d : Polls s u given) (one : length given ≤ 1) where
  abbrev addresses : List ℕ
  addresses = map (λ (c : Cref). c.address) given

  polls_stays : KeepsLog s u → Stays s u
  polls_stays log = record {
    start = d.start;
    opening = d.opening;
    vars = d.vars;
    ring = d.ring;
    rings = d.rings;
    depth = d.depth;
    polled = omega (arith, d.polled);
    limit = limit_same s u d.tickets;
    home = d.home;
    hinted = d.hinted;
    log = log;
  }

  -- what is at an address that was held still is
  polls_glued : (start : PortState) → HoldsGlued start s → HoldsGlued start u
  polls_glued start p = record {
    others = p.others ++ addresses;
    few = (let long = length-append p.others addresses in let many = length-map given (λ (c : Cref). c.address) in omega (arith, p.few, d.polled, long, many, one));
    each = λ h there. elim (d.holds h there) as (λ _. Contains start.held h ⊎ (Contains (p.others ++ addresses) h.address ⊎ IsGlued h)) [
      | inl old ↦ elim (p.each h old) as (λ _. Contains start.held h ⊎ (Contains (p.others ++ addresses) h.address ⊎ IsGlued h)) [
        | inl first ↦ inl first
        | inr (inl before) ↦ inr (inl (In_Contains (p.others ++ addresses) h.address (In_append_left p.others addresses h.address (Contains_In p.others h.address before))))
        | inr (inr glued) ↦ inr (inr glued)
      ]
      | inr new ↦ inr (inl (In_Contains (p.others ++ addresses) h.address (In_append_right p.others addresses h.address (Contains_In addresses h.address new))))
    ];
  }

  pub polls_keep : KeepsLog s u → IsPort u → KeepsOn s u
  polls_keep log port = λ start n p.
      (let stays = polls_stays log in
      record {
        runs = record {
          stays = stays_by start s u p.runs.stays stays;
          held = starts_kept s u d.start d.kept p.runs.held;
          wrote = subst (All (IsOwn start.ring start.vars)) (sym d.mine) p.runs.wrote;
          counted = p.runs.counted ∙ ap (λ (J : List Entry). length (learned s.ring J)) (sym d.mine) ∙ ap (λ (r : ℕ). length (learned r u.mine)) (sym d.ring);
          each_new = news_moved s u s.mine stays d.mine p.runs.each_new;
          new_lines = lines_moved s u s.mine stays d.units d.mine p.runs.new_lines;
          timely = subst (EachAfter IsTimely []) (sym d.mine) p.runs.timely;
          glued = polls_glued start p.runs.glued;
          lately = lately_same s u d.ring d.mine d.kept (sees_same s u d.seen) p.runs.lately;
          port = port;
        };
        draws = draws_same s u n d.tickets p.draws;
        going = ap (λ (J : List Entry). list_any is_empty (added J)) d.mine ∙ p.going;
        stop = d.stop ∙ p.stop;
        refused = d.refused ∙ p.refused;
        held = starts_kept s u d.start d.kept p.held;
      })

  -- a search at level 0, if what was taken is attached
  pub polls_search : (t : TrailData) (w x : WatchData) (n : ℕ) → Searches s t w n → t.level ≡ 0 → IsPort u → attached x ≡ attached w ++ given → All (IsHeldBy u) given → ((v : TrailData) → Watched w (lits_at u) v → Watched x (lits_at u) v)
      → Searches u t x n
  polls_search t w x n p level port clauses held watched =
      let cs = attached w in
      let ds = cs ++ given in
      let into = λ (c : Cref) (there : Contains cs c). In_Contains ds c (In_append_left cs given c (Contains_In cs c there)) in
      let stay : LitsStay s u cs = lits_kept s u cs d.kept p.clauses.held in
      let more = λ (l : Literal) (h : has s.seen l ≡ true). ap (λ (ls : List Literal). has ls l) d.seen ∙ h in
      let reasons : HasReasons ds u t.steps = Reasons-more cs ds s u t.steps
      (λ c there. (into c there, ap (option_map (λ (h : Holding). h.lits)) (d.kept c.address (subst (IsHeldBy s) there.2 (p.clauses.held there.0 c there.1))))) more p.reasons in
      record {
        clauses = subst (HasClauses u) (sym clauses) (record {
          held = All-append (IsHeldBy u) cs given (held_more s u cs d.kept p.clauses.held) held;
          starts = λ h there. into (record { address = h.address }) (p.clauses.starts h (subst (λ (hs : List Holding). Contains hs h) d.start there));
          starts_held = starts_kept s u d.start d.kept p.clauses.starts_held;
          own = remembered_as s u cs ds (ap (λ (r : ℕ). recent r u.mine) d.ring ∙ ap (recent s.ring) d.mine)
              (λ l. ap (λ (r : ℕ). adds_unit r u.mine l) d.ring ∙ ap (λ (J : List Entry). adds_unit s.ring J l) d.mine) stay into more p.clauses.own;
          taken = λ a there. elim (In_append s.taken addresses a (Contains_In (s.taken ++ addresses) a (subst (λ (xs : List ℕ). Contains xs a) d.taken there))) as (λ _. Contains ds (record { address = a })) [
            | inl old ↦ into (record { address = a }) (p.clauses.taken a (In_Contains s.taken a old))
            | inr new ↦ (let c = map_In (λ (c : Cref). c.address) given a new in
                In_Contains ds (record { address = a }) (In_append_right cs given (record { address = a }) (subst (λ (b : ℕ). In (record { address = b }) given) c.2 c.1)))
          ];
          refused = d.refused ∙ p.clauses.refused;
          stop = d.stop ∙ p.clauses.stop;
          port = port;
        });
        opening = λ l h. more l (p.opening l (ap (λ (ls : List Literal). has ls l) (sym d.opening) ∙ h));
        stands = record {
          vars = p.stands.vars ∙ sym d.vars;
          reasoned = Reasons-held ds u t.steps reasons;
          seen = λ l h. p.stands.seen l (ap (λ (ls : List Literal). has ls l) (sym d.seen) ∙ h);
        };
        trail = p.trail;
        watched = watched t (Watched-port w (lits_at s) (lits_at u) t stay p.watched);
        closed = λ k below. absurd (omega (arith, level, below));
        reasons = subst (λ (xs : List Cref). HasReasons xs u t.steps) (sym clauses) reasons;
        told = told_same s u t n d.seen p.told;
      }

-- what a poll took is held
pub taken_held : (s u : PortState) (ring class place : ℕ) (c : Cref) → TookClause s u ring class place c → IsPort u → IsHeldBy u c
taken_held s u ring class place c w port =
    All_In (λ a. IsSome (held_at u a)) u.taken c.address port.taken
    (subst (In c.address) (sym (ap (λ (x : PortState). x.taken) w.state)) (In_append_right s.taken (c.address ∷ []) c.address (inl refl)))

-- nothing but what is held, taken and polled has changed
pub only_none : (s : PortState) → OnlyPolled s s
only_none s = record { kept = λ a h. refl; state = refl }

only_eta : (s : PortState) (held : List Holding) (taken : List ℕ) (polled : ℕ) (polls : List Slot) (after : List ℕ) → KeepsHeld s (record s { held = held; taken = taken; polled = polled; polls = polls; polls_after = after })
    → OnlyPolled s (record s { held = held; taken = taken; polled = polled; polls = polls; polls_after = after })
only_eta s held taken polled polls after kept = record { kept = kept; state = refl }

pub only_looked : (s u : PortState) (ring class place : ℕ) → u ≡ looked_into ring class place s → OnlyPolled s u
only_looked s u ring class place is = subst (OnlyPolled s) (sym is) (only_eta s s.held s.taken (one_more s.polled) (s.polls ++ record { ring = ring; class = class; place = place } ∷ []) (s.polls_after ++ s.caught_up ∷ []) (λ a h. held_same s (looked_into ring class place s) a refl))

pub only_took : (s u : PortState) (ring class place : ℕ) (c : Cref) → TookClause s u ring class place c → KeepsHeld s u → OnlyPolled s u
only_took s u ring class place c w kept = subst (OnlyPolled s) (sym w.state) (only_eta s (s.held ++ w.clause ∷ []) (s.taken ++ c.address ∷ []) (one_more s.polled) (s.polls ++ record { ring = ring; class = class; place = place } ∷ []) (s.polls_after ++ s.caught_up ∷ []) (subst (KeepsHeld s) w.state kept))

pub only_same : (s u : PortState) → u ≡ s → OnlyPolled s u
only_same s u is = subst (OnlyPolled s) (sym is) (only_none s)

pub only_then : (s u w : PortState) → OnlyPolled s u → OnlyPolled u w → OnlyPolled s w
only_then s u w p q =
    record {
      kept = λ a h. q.kept a (subst (λ (o : Option Holding). IsSome o) (sym (p.kept a h)) h) ∙ p.kept a h;
      state = q.state ∙ ap (λ (x : PortState). record x { held = w.held; taken = w.taken; polled = w.polled; polls = w.polls; polls_after = w.polls_after }) p.state;
    }
