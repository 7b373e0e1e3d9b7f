-- What each call of the port leaves of a run.
use Rattle.std.proofs.Common.{◌≡◌, ◌∙◌, ℕ, ◌+◌, ◌-◌, ◌^◌, min, ◌≤◌, Bool, true, false, List, [], ◌∷◌, ◌++◌, length, map, sym, subst, ap, arith, inl, inr, ◌⊎◌, ◌<◌, Contains, drop, Some, None, IsSome, refl, length-append, append-nil, slice_index_or, cond, nat_eq, eq-eqb}
use Rattle.std.specs.Prelude.{All, ◌&&◌, ◌≢◌, MatchOption, IfSome, IfErr, Result, Ok, Err}
use Rattle.std.specs.List.{list_any}
use Rattle.std.specs.declared.option.Option.{Option}
use Rattle.std.specs.Option.{option_map}
use Rattle.std.proofs.lemmas.List.{length-map}
use Rattle.std.proofs.lemmas.List.Elements.{All-append, All-cons, All-nil}
use Rattle.std.proofs.lemmas.Bool.{or_left, or_right, false≢true}
use Rattle.sat_words.specs.Literal.{Literal, same}
use Rattle.sat_words.specs.Clause.{has, is_empty}
use Rattle.sat_words.proofs.Members.{same-refl}
use Rattle.sat_words.specs.declared.shared.Cref.{Cref}
use Rattle.sat_words.specs.declared.shared.Stop.{Stop}
use Rattle.rup_model.specs.declared.journal.Kind.{Kind}
use Rattle.rup_model.specs.declared.journal.Kind.TheVariants.{Learn, Derive, UnitLine}
use Rattle.rup_model.specs.declared.journal.Entry.{Entry}
use Rattle.rup_model.specs.declared.journal.Entry.TheVariants.{Add}
use Rattle.rup_model.specs.declared.journal.Addition.{Addition}
use Rattle.drat_text.specs.LineState.{LineState}
use Rattle.rup_model.specs.Basics.{EachAfter}
use Rattle.rup_model.specs.Journal.{added, learned, recent, recent_after, is_learn}
use Rattle.rup_model.specs.Opening.{Opening, IsNew, adds_unit}
use Rattle.rup_model.proofs.Lists.{In_append, Contains_In, In_Contains, has_In}
use Rattle.std.specs.Set.{distinct_count, unique_keys, is_member}
use Rattle.std.proofs.lemmas.Map.Made.{distinct_count-le}
use Rattle.ring_port.proofs.Holdings.{All_In}
use Rattle.ring_trail.specs.declared.step.TrailStep.{TrailStep}
use Rattle.analyze.specs.Levels.{level_of_lit, count_of_levels}
use Rattle.rup_model.proofs.Sequences.{each_last, fold_last}
use Rattle.rup_model.proofs.Additions.{added-append, learned-append}
use Rattle.ring_port.specs.PortState.{PortState, Holding, IsPort, IsOn, HoldsStart, held_at}
use Rattle.ring_port.specs.Port.{holding_of, Learned, WroteUnit, UnitWritten, LearnedUnit, LearnedClause, EndedLog, Refused, HasReason, KeepsHeld, Looked, entry_of, after_refusal, IsClause, is_usable}
use Rattle.ring_port.specs.Log.{KeepsLog, start_of}
use Rattle.ring_port.specs.declared.stops.PortStop.{PortStop}
use Rattle.ring_port.specs.declared.stops.PortStop.TheVariants.{Ended, Broken, ProofFault, NoHole, Memory}
use Rattle.ring_run.specs.Ended.{IsTimely, Stays, IsOwn, AreNew, IsUntold, IsNewLine, AreNewLines, IsGlued, HoldsGlued, IsHeldOrSeen, HoldsRecent, Cause, stop_kind, opening_of}
use Rattle.ring_run.specs.Searching.{Runs, GoesOn, OnlyWrote, IsNewTo, UnitsSeen, IsGlueOf, HoldsByGlue}
use Rattle.ring_run.specs.Ending.{IsUnset, ComesTo, EndsAt, end_refused}
use Rattle.ring_run.specs.declared.job.End.{End}
use Rattle.ring_run.specs.declared.job.End.TheVariants as ring_end
use Rattle.ring_run.proofs.Numbering.{grown_none, grown_then, reductions_still, reductions_other}
use Rattle.ring_run.proofs.Tickets.{tickets_of, limit_same, draws_same, drawn_none, tickets_refused}
use Rattle.ring_run.proofs.Remembering.{held_same, lits_same, unit_remembered, remembered_same}
use Rattle.ring_run.proofs.Lately.{SeesMore, sees_same, lately_as, lately_same, lately_more}

pub stays_by : (s u w : PortState) → Stays s u → Stays u w → Stays s w
stays_by s u w p q = record {
  start = q.start ∙ p.start;
  opening = q.opening ∙ p.opening;
  vars = q.vars ∙ p.vars;
  ring = q.ring ∙ p.ring;
  rings = q.rings ∙ p.rings;
  depth = q.depth ∙ p.depth;
  polled = omega (arith, q.polled, p.polled);
  limit = q.limit ∙ p.limit;
  home = q.home ∙ p.home;
  hinted = q.hinted ∙ p.hinted;
  log = λ o h. q.log o (p.log o h);
}

-- what a run starts from
opening_moved : (s u : PortState) → Stays s u → opening_of u ≡ opening_of s
opening_moved s u p = ap (λ (hs : List Holding). made hs u.opening) p.start ∙ ap (made s.start) p.opening
  where
    made : List Holding → List Literal → Opening
    made hs ls = record { journal = []; starts = map start_of hs; units = ls }

-- entries whose clauses are new
pub news_moved : (s u : PortState) (J : List Entry) → Stays s u → u.mine ≡ J → EachAfter (IsNew (opening_of s)) [] J → AreNew u
news_moved s u J stays is p = subst (EachAfter (IsNew (opening_of u)) []) (sym is) (subst (λ (o : Opening). EachAfter (IsNew o) [] J) (sym (opening_moved s u stays)) p)

-- lines of units that are new
pub lines_moved : (s u : PortState) (J : List Entry) → Stays s u → u.given ≡ s.given → u.mine ≡ J → EachAfter (IsNewLine s.opening s.given s.ring) [] J → AreNewLines u
lines_moved s u J stays given is p =
    let Q : List Literal → List Literal → ℕ → List Entry → Type 0 = λ o g r K. EachAfter (IsNewLine o g r) [] K in
    subst (Q u.opening u.given u.ring) (sym is)
    (subst (λ r. Q u.opening u.given r J) (sym stays.ring) (subst (λ g. Q u.opening g s.ring J) (sym given) (subst (λ o. Q o s.given s.ring J) (sym stays.opening) p)))

-- glues of what is held
-- a call that holds nothing more, or what has such a glue
abbrev pub AddsGlued : PortState → PortState → Type 0
AddsGlued old new = (h : Holding) → Contains new.held h → Contains old.held h ⊎ IsGlued h

pub glued_same : (s u : PortState) → u.held ≡ s.held → AddsGlued s u
glued_same s u is h there = inl (subst (λ (hs : List Holding). Contains hs h) is there)

pub glued_by : (s u w : PortState) → HoldsGlued s u → min u.polled (2 ^ 64 - 1) ≤ w.polled → AddsGlued u w → HoldsGlued s w
glued_by s u w p more q = record {
  others = p.others;
  few = omega (arith, p.few, more);
  each = λ h there. elim (q h there) as (λ _. Contains s.held h ⊎ (Contains p.others h.address ⊎ IsGlued h)) [ inl old ↦ p.each h old | inr new ↦ inr (inr new) ];
}

pub starts_kept : (s u : PortState) → u.start ≡ s.start → KeepsHeld s u → HoldsStart s → HoldsStart u
starts_kept s u same kept held = subst (All (λ h. held_at u h.address ≡ Some h)) (sym same)
    (λ k d lt. (let is = held k d lt in kept (slice_index_or s.start k d).address (subst (λ (o : Option Holding). IsSome o) (sym is) refl) ∙ is))

-- a run goes on by an entry of its ring
pub runs_entry : (start s u : PortState) (n m : ℕ) (e : Entry) → Runs start s n → Stays s u → HoldsStart u → u.mine ≡ s.mine ++ e ∷ [] → IsOwn start.ring start.vars e
    → m ≡ n + length (learned s.ring (e ∷ [])) → IsNew (opening_of s) s.mine e → u.given ≡ s.given → IsNewLine s.opening s.given s.ring s.mine e → IsTimely s.mine e → AddsGlued s u → HoldsRecent u → IsPort u → Runs start u m
runs_entry start s u n m e p stays held is own count fresh given line timely glued lately port = record {
  stays = stays_by start s u p.stays stays;
  held = held;
  wrote = subst (All (IsOwn start.ring start.vars)) (sym is)
      (All-append (IsOwn start.ring start.vars) s.mine (e ∷ []) p.wrote (All-cons (IsOwn start.ring start.vars) e [] own (All-nil (IsOwn start.ring start.vars))));
  counted =
      (let split = ap length (learned-append s.ring s.mine (e ∷ [])) in
      let both = length-append (learned s.ring s.mine) (learned s.ring (e ∷ [])) in
      let here = ap (λ (r : ℕ). length (learned r u.mine)) stays.ring in
      let there = ap (λ (J : List Entry). length (learned s.ring J)) is in
      omega (arith, count, p.counted, split, both, here, there));
  each_new = news_moved s u (s.mine ++ e ∷ []) stays is (each_last (IsNew (opening_of s)) [] s.mine e p.each_new fresh);
  new_lines = lines_moved s u (s.mine ++ e ∷ []) stays given is (each_last (IsNewLine s.opening s.given s.ring) [] s.mine e p.new_lines line);
  timely = subst (EachAfter IsTimely []) (sym is) (each_last IsTimely [] s.mine e p.timely timely);
  glued = glued_by start s u p.glued stays.polled glued;
  lately = lately;
  port = port;
}

-- if what was held still is
pub runs_adds : (start s u : PortState) (n m : ℕ) (e : Entry) → Runs start s n → Stays s u → KeepsHeld s u → u.mine ≡ s.mine ++ e ∷ [] → IsOwn start.ring start.vars e
    → m ≡ n + length (learned s.ring (e ∷ [])) → IsNew (opening_of s) s.mine e → u.given ≡ s.given → IsNewLine s.opening s.given s.ring s.mine e → IsTimely s.mine e → AddsGlued s u → HoldsRecent u → IsPort u → Runs start u m
runs_adds start s u n m e p stays kept is own count fresh given line timely glued lately port =
    runs_entry start s u n m e p stays (starts_kept s u stays.start kept p.held) is own count fresh given line timely glued lately port

-- and by a call that writes nothing
pub runs_alike : (start s u : PortState) (n : ℕ) → Runs start s n → Stays s u → KeepsHeld s u → AddsGlued s u → SeesMore s u → u.mine ≡ s.mine → AreNewLines u → IsPort u → Runs start u n
runs_alike start s u n p stays kept adds more is lines port = record {
  stays = stays_by start s u p.stays stays;
  held = starts_kept s u stays.start kept p.held;
  wrote = subst (All (IsOwn start.ring start.vars)) (sym is) p.wrote;
  counted = p.counted ∙ ap (λ (J : List Entry). length (learned s.ring J)) (sym is) ∙ ap (λ (r : ℕ). length (learned r u.mine)) (sym stays.ring);
  each_new = news_moved s u s.mine stays is p.each_new;
  new_lines = lines;
  timely = subst (EachAfter IsTimely []) (sym is) p.timely;
  glued = glued_by start s u p.glued stays.polled adds;
  lately = lately_same s u stays.ring is kept more p.lately;
  port = port;
}

pub runs_same : (start s u : PortState) (n : ℕ) → Runs start s n → Stays s u → u.held ≡ s.held → SeesMore s u → u.mine ≡ s.mine → AreNewLines u → IsPort u → Runs start u n
runs_same start s u n p stays held more is lines port = runs_alike start s u n p stays (λ a h. held_same s u a held) (glued_same s u held) more is lines port

pub going_more : (s u : PortState) (e : Entry) → u.mine ≡ s.mine ++ e ∷ [] → list_any is_empty (added s.mine) ≡ false → list_any is_empty (added (e ∷ [])) ≡ false
    → list_any is_empty (added u.mine) ≡ false
going_more s u e is old new =
    ap (λ (J : List Entry). list_any is_empty (added J)) is ∙ ap (list_any is_empty) (added-append s.mine (e ∷ []))
    ∙ any_append (added s.mine) (added (e ∷ [])) old new
  where
    any_append : (xs ys : List (List Literal)) → list_any is_empty xs ≡ false → list_any is_empty ys ≡ false → list_any is_empty (xs ++ ys) ≡ false
    any_append [] ys p q = q
    any_append ([] ∷ xs) ys p q = cc
    any_append ((l ∷ c) ∷ xs) ys p q = any_append xs ys p q

-- What was learned lately

pub recent_still : (s u : PortState) → u.ring ≡ s.ring → u.mine ≡ s.mine → recent u.ring u.mine ≡ recent s.ring s.mine
recent_still s u ring mine = ap (λ (r : ℕ). recent r u.mine) ring ∙ ap (recent s.ring) mine

recent_added : (r : ℕ) (J : List Entry) (x : Addition) → recent r (J ++ Add x ∷ []) ≡ recent r J ++ learned r (Add x ∷ [])
recent_added r J x = fold_last (recent_after r) [] J (Add x)

pub none_learned : (r : ℕ) (x : Addition) → is_learn x.kind ≡ false → learned r (Add x ∷ []) ≡ []
none_learned r x e = ap (λ (b : Bool). map (λ (y : Addition). y.lits) (cond b (x ∷ []) [])) (both (nat_eq x.ring r) (is_learn x.kind) e)
  where
    both : (a b : Bool) → b ≡ false → (a && b) ≡ false
    both true b e = e
    both false b e = refl

-- an entry of another kind
pub recent_other : (s u : PortState) (number : ℕ) (lits : List Literal) (kind : Kind) (hints : List ℕ) → is_learn kind ≡ false → u.ring ≡ s.ring → u.mine ≡ s.mine ++ entry_of s number lits kind hints ∷ [] → recent u.ring u.mine ≡ recent s.ring s.mine
recent_other s u number lits kind hints other ring mine =
    let x : Addition = record { ring = s.ring; number = number; lits = lits; kind = kind; hints = hints } in
    ap (λ (r : ℕ). recent r u.mine) ring ∙ ap (recent s.ring) mine ∙ recent_added s.ring s.mine x
    ∙ ap (λ (cs : List (List Literal)). recent s.ring s.mine ++ cs) (none_learned s.ring x other) ∙ append-nil (recent s.ring s.mine)

-- a unit's line
stays_unit : (s u : PortState) (l : Literal) (kind : Kind) (last : Option ℕ) → WroteUnit s u l kind last → KeepsLog s u → Stays s u
stays_unit s u l kind last w log = record {
  start = ap (λ (x : PortState). x.start) w.state;
  opening = ap (λ (x : PortState). x.opening) w.state;
  vars = ap (λ (x : PortState). x.vars) w.state;
  ring = ap (λ (x : PortState). x.ring) w.state;
  rings = ap (λ (x : PortState). x.rings) w.state;
  depth = ap (λ (x : PortState). x.depth) w.state;
  polled = omega (arith, ap (λ (x : PortState). x.polled) w.state);
  limit = ap (λ (x : PortState). x.limit) w.state;
  home = ap (λ (x : PortState). x.home) w.state;
  hinted = ap (λ (x : PortState). x.hinted) w.state;
  log = log;
}

counted_if : (b : Bool) (x : Addition) → length (map (λ (y : Addition). y.lits) (cond b (x ∷ []) [])) ≡ cond b 1 0
counted_if true x = refl
counted_if false x = refl

-- an entry that isn't learned
pub not_learned : (r : ℕ) (x : Addition) → is_learn x.kind ≡ false → length (learned r (Add x ∷ [])) ≡ 0
not_learned r x e = ap (λ (b : Bool). length (map (λ (y : Addition). y.lits) (cond b (x ∷ []) []))) (both (nat_eq x.ring r) (is_learn x.kind) e)
  where
    both : (a b : Bool) → b ≡ false → (a && b) ≡ false
    both true b e = e
    both false b e = refl

-- a clause that the ring learned
pub one_learned : (r : ℕ) (x : Addition) → x.ring ≡ r → is_learn x.kind ≡ true → length (learned r (Add x ∷ [])) ≡ 1
one_learned r x same_ring e = ap (λ (b : Bool). length (map (λ (y : Addition). y.lits) (cond b (x ∷ []) []))) (both (nat_eq x.ring r) (is_learn x.kind) (eq-eqb x.ring r same_ring) e)
  where
    both : (a b : Bool) → a ≡ true → b ≡ true → (a && b) ≡ true
    both true b p q = q
    both false b p q = cc

-- a unit's line that is new: the unit was not seen before
pub new_line : (s : PortState) (l : Literal) (number : ℕ) (hints : List ℕ) → UnitsSeen s → IsPort s → has s.seen l ≡ false → IsNewLine s.opening s.given s.ring s.mine (entry_of s number (l ∷ []) UnitLine hints)
new_line s l number hints units port unseen is_line =
    All-cons (IsUntold s.opening s.given s.ring s.mine) l [] (record {
      not_listed = none (has s.opening l) (units.opening l);
      not_given = none (has s.given l) (λ h. All_In (λ (k : Literal). has s.seen k ≡ true) s.given l port.given (has_In s.given l h));
      not_added = none (adds_unit s.ring s.mine l) (units.added l);
    }) (All-nil (IsUntold s.opening s.given s.ring s.mine))
  where
    none : (b : Bool) → (b ≡ true → has s.seen l ≡ true) → b ≡ false
    none true f = absurd (false≢true (sym unseen ∙ f refl))
    none false f = refl

-- a unit's line by propagation
pub unit_goes_on : (start s u : PortState) (n : ℕ) (l : Literal) → GoesOn start s n → IsOn s.vars l → UnitsSeen s → has s.seen l ≡ false → WroteUnit s u l UnitLine s.last → KeepsLog s u → IsPort u → GoesOn start u n
unit_goes_on start s u n l p on units unseen w log port =
    let e : Entry = entry_of s w.number (l ∷ []) UnitLine w.hints in
    let stays = stays_unit s u l UnitLine s.last w log in
    let is : u.mine ≡ s.mine ++ e ∷ [] = ap (λ (x : PortState). x.mine) w.state in
    let held : u.held ≡ s.held = ap (λ (x : PortState). x.held) w.state in
    record {
      runs = runs_adds start s u n n e p.runs stays (λ a h. held_same s u a held) is
          (p.runs.stays.ring, subst (λ (v : ℕ). All (IsOn v) (l ∷ [])) p.runs.stays.vars (All-cons (IsOn s.vars) l [] on (All-nil (IsOn s.vars))), refl)
          (no_lemma s.ring w.number w.hints l) (λ learns. absurd (false≢true learns)) (ap (λ (x : PortState). x.given) w.state) (new_line s l w.number w.hints units p.runs.port unseen) tt (glued_same s u held)
          (lately_as s u (recent_other s u w.number (l ∷ []) UnitLine w.hints refl (ap (λ (x : PortState). x.ring) w.state) is) (λ a h. held_same s u a held) (λ k h. w.sees k ∙ or_left (has s.seen k) (same l k) h) p.runs.lately) port;
      draws = draws_same s u n (ap tickets_of w.state) p.draws;
      going = going_more s u e is p.going refl;
      stop = ap (λ (x : PortState). x.stop) w.state ∙ p.stop;
      refused = ap (λ (x : PortState). x.refused) w.state ∙ p.refused;
      held = starts_kept s u stays.start (λ a h. held_same s u a held) p.held;
    }
  where
    no_lemma : (r number : ℕ) (hints : List ℕ) (l : Literal) → n ≡ n + length (learned s.ring (entry_of s number (l ∷ []) UnitLine hints ∷ []))
    no_lemma r number hints l = omega (arith, not_learned s.ring (record { ring = s.ring; number = number; lits = l ∷ []; kind = UnitLine; hints = hints }) refl)

-- a refusal changes nothing but what it notes
pub record Unchanged (s u : PortState) : Type 0 where
  pub start : u.start ≡ s.start
  pub opening : u.opening ≡ s.opening
  pub vars : u.vars ≡ s.vars
  pub ring : u.ring ≡ s.ring
  pub rings : u.rings ≡ s.rings
  pub depth : u.depth ≡ s.depth
  pub waiting : u.waiting ≡ s.waiting
  pub shared : u.shared ≡ s.shared
  pub polled : u.polled ≡ s.polled
  pub polls : u.polls ≡ s.polls
  pub polls_after : u.polls_after ≡ s.polls_after
  pub caught_up : u.caught_up ≡ s.caught_up
  pub puts : u.puts ≡ s.puts
  pub taken : u.taken ≡ s.taken
  pub tickets : tickets_of u ≡ tickets_of s
  pub home : u.home ≡ s.home
  pub hinted : u.hinted ≡ s.hinted
  pub given : u.given ≡ s.given
  pub seen : u.seen ≡ s.seen
  pub looks : u.looks ≡ s.looks
  pub mine : u.mine ≡ s.mine
  pub stop : u.stop ≡ s.stop
  pub held : u.held ≡ s.held

but_noted : (s : PortState) (refused : Option PortStop) (ended : Bool) (output : Option LineState) → Unchanged s (record s { refused = refused; ended = ended; output = output })
but_noted s refused ended output = record {
  start = refl;
  opening = refl;
  vars = refl;
  ring = refl;
  rings = refl;
  depth = refl;
  waiting = refl;
  shared = refl;
  polled = refl;
  polls = refl;
  polls_after = refl;
  caught_up = refl;
  puts = refl;
  taken = refl;
  tickets = refl;
  home = refl;
  hinted = refl;
  given = refl;
  seen = refl;
  looks = refl;
  mine = refl;
  stop = refl;
  held = refl;
}

pub same_refused : (s : PortState) (output : Option LineState) (stop : PortStop) → Unchanged s (after_refusal s output stop)
same_refused s output Ended = but_noted s (Some Ended) true s.output
same_refused s output Broken = but_noted s (Some Broken) s.ended s.output
same_refused s output ProofFault = but_noted s (Some ProofFault) s.ended output
same_refused s output (NoHole lack) = but_noted s (Some (NoHole lack)) s.ended s.output
same_refused s output Memory = but_noted s s.refused s.ended s.output

-- what a refusal leaves is the cause of an end
pub refused_cause : (s : PortState) (output : Option LineState) (stop : PortStop) → HasReason s stop → is_usable s.refused ≡ true → list_any is_empty (added s.mine) ≡ false → Cause (after_refusal s output stop) (end_refused stop)
refused_cause s output Ended reason usable going = (refl, refl)
refused_cause s output Broken reason usable going = (refl, going)
refused_cause s output ProofFault reason usable going = (refl, going)
refused_cause s output (NoHole lack) reason usable going = (refl, reason.1, going)
refused_cause s output Memory reason usable going = (usable, going)

-- if no stop is known, none was set
pub unset : (s : PortState) (end : End) → s.stop ≡ None → IsUnset s end
unset s end none = by (stop_kind end)
  where
    by : (o : Option ℕ) → IfSome o (λ kind. s.stop ≡ None)
    by None = tt
    by (Some kind) = none

-- if nothing has been refused the port may be used
pub usable_none : (s : PortState) → s.refused ≡ None → is_usable s.refused ≡ true
usable_none s e = ap is_usable e

pub stays_same : (s u : PortState) → Unchanged s u → KeepsLog s u → Stays s u
stays_same s u p log = record {
  start = p.start;
  opening = p.opening;
  vars = p.vars;
  ring = p.ring;
  rings = p.rings;
  depth = p.depth;
  polled = omega (arith, p.polled);
  limit = limit_same s u p.tickets;
  home = p.home;
  hinted = p.hinted;
  log = log;
}

-- memory ran out in the ring
pub out_of_memory : (start s : PortState) (n : ℕ) → GoesOn start s n → ComesTo start s n ring_end.Memory
out_of_memory start s n p = record { runs = p.runs; cause = (usable_none s p.refused, p.going); unset = p.stop; tickets = p.draws.left; drawn = drawn_none s n p.draws }

pub refused_ends : (start s u : PortState) (n : ℕ) (stop : PortStop) → GoesOn start s n → Refused s u stop → KeepsLog s u → IsPort u → ComesTo start u n (end_refused stop)
refused_ends start s u n stop p r log port =
    let same : Unchanged s u = subst (Unchanged s) (sym r.state) (same_refused s u.output stop) in
    record {
      runs = runs_same start s u n p.runs (stays_same s u same log) same.held (sees_same s u same.seen) same.mine (lines_moved s u s.mine (stays_same s u same log) same.given same.mine p.runs.new_lines) port;
      cause = subst (λ (x : PortState). Cause x (end_refused stop)) (sym r.state) (refused_cause s u.output stop r.reason (usable_none s p.refused) p.going);
      unset = unset u (end_refused stop) (same.stop ∙ p.stop);
      tickets = tickets_refused u stop (draws_same s u n same.tickets p.draws).left;
      drawn = drawn_none u n (draws_same s u n same.tickets p.draws);
    }

pub unit_over : (s u : PortState) (l : Literal) (r : Result (Unit {0}) PortStop) → UnitWritten s u l r → KeepsLog s u → IsPort u → IfErr r (λ stop. EndsAt s u (end_refused stop))
unit_over s u l (Ok done) w log port = tt
unit_over s u l (Err stop) w log port = λ n start p. refused_ends start s u n stop p w log port

-- and leaves how often no stop was found
pub refused_looks : (s u : PortState) (stop : PortStop) → Refused s u stop → u.looks ≡ s.looks
refused_looks s u stop r = (subst (Unchanged s) (sym r.state) (same_refused s u.output stop)).looks

pub unit_looks : (s u : PortState) (l : Literal) (r : Result (Unit {0}) PortStop) → UnitWritten s u l r → u.looks ≡ s.looks
unit_looks s u l (Ok done) w = ap (λ (x : PortState). x.looks) w.state
unit_looks s u l (Err stop) w = refused_looks s u stop w

pub refused_held : (s u : PortState) (stop : PortStop) → Refused s u stop → u.held ≡ s.held
refused_held s u stop r = (subst (Unchanged s) (sym r.state) (same_refused s u.output stop)).held

-- a clause that was learned
stays_learned : (s u : PortState) (lits : List Literal) (glue : ℕ) (c : Cref) → LearnedClause s u lits glue c → KeepsLog s u → Stays s u
stays_learned s u lits glue c w log = record {
  start = ap (λ (x : PortState). x.start) w.state;
  opening = ap (λ (x : PortState). x.opening) w.state;
  vars = ap (λ (x : PortState). x.vars) w.state;
  ring = ap (λ (x : PortState). x.ring) w.state;
  rings = ap (λ (x : PortState). x.rings) w.state;
  depth = ap (λ (x : PortState). x.depth) w.state;
  polled = omega (arith, ap (λ (x : PortState). x.polled) w.state);
  limit = ap (λ (x : PortState). x.limit) w.state;
  home = ap (λ (x : PortState). x.home) w.state;
  hinted = ap (λ (x : PortState). x.hinted) w.state;
  log = log;
}

pub some_literal : (c : List Literal) → 1 ≤ length c → list_any is_empty (c ∷ []) ≡ false
some_literal [] h = absurd (omega arith)
some_literal (l ∷ c) h = refl

-- how many differ, of one or more
some_counted : (ns : List ℕ) → 1 ≤ length ns → 1 ≤ distinct_count nat_eq ns
some_counted [] h = absurd (omega arith)
some_counted (n ∷ []) h = omega arith
some_counted (n ∷ m ∷ ns) h = by (is_member nat_eq (m ∷ ns) n) (some_counted (m ∷ ns) (omega arith))
  where
    by : (b : Bool) → 1 ≤ distinct_count nat_eq (m ∷ ns) → 1 ≤ length (cond b (unique_keys nat_eq (m ∷ ns)) (n ∷ unique_keys nat_eq (m ∷ ns)))
    by true le = le
    by false le = omega arith

-- the glue of a lemma of two literals or more
pub glue_bounds : (steps : List TrailStep) (lits : List Literal) (glue : ℕ) → IsGlueOf steps lits glue → 2 ≤ length lits → (1 ≤ glue) × (glue < length lits)
glue_bounds steps [] glue is long = absurd (omega arith)
glue_bounds steps (k ∷ []) glue is long = absurd (omega arith)
glue_bounds steps (k ∷ l ∷ lits) glue is long =
    let many = length-map (l ∷ lits) (level_of_lit steps) in
    let some = some_counted (map (level_of_lit steps) (l ∷ lits)) (omega (arith, many)) in
    let few = distinct_count-le nat_eq (map (level_of_lit steps) (l ∷ lits)) in
    (omega (arith, some, is), omega (arith, few, is, many))

-- what is held after a lemma was held before, or has the lemma's literals and glue
pub held_learned : (s u : PortState) (lits : List Literal) (glue : ℕ) (c : Cref) → LearnedClause s u lits glue c → (h : Holding) → Contains u.held h
    → Contains s.held h ⊎ ((h.glue ≡ glue) × (h.lits ≡ lits))
held_learned s u lits glue c w h there =
    let x : Holding = holding_of c w.number glue lits in
    let is : u.held ≡ s.held ++ x ∷ [] = ap (λ (y : PortState). y.held) w.state in
    elim (In_append s.held (x ∷ []) h (Contains_In (s.held ++ x ∷ []) h (subst (λ (hs : List Holding). Contains hs h) is there))) as (λ _. Contains s.held h ⊎ ((h.glue ≡ glue) × (h.lits ≡ lits))) [
      | inl old ↦ inl (In_Contains s.held h old)
      | inr new ↦ inr (elim new as (λ _. (h.glue ≡ glue) × (h.lits ≡ lits)) [ inl e ↦ (ap (λ (k : Holding). k.glue) (sym e), ap (λ (k : Holding). k.lits) (sym e)) | inr none ↦ absurd none ])
    ]

clause_glued : (s u : PortState) (steps : List TrailStep) (lits : List Literal) (glue : ℕ) (c : Cref) → LearnedClause s u lits glue c → IsGlueOf steps lits glue → AddsGlued s u
clause_glued s u steps lits glue c w counts h there =
    let both = glue_bounds steps lits glue counts w.long in
    elim (held_learned s u lits glue c w h there) as (λ _. Contains s.held h ⊎ IsGlued h) [
      | inl old ↦ inl old
      | inr new ↦ inr (record { some = omega (arith, both.0, new.0); few = omega (arith, both.1, new.0, ap (λ (d : List Literal). length d) new.1) })
    ]

-- what a call that learned leaves of how often no stop was found, and of what is held
pub learned_looks : (s u : PortState) (lits : List Literal) (glue : ℕ) (address : Option Cref) → Learned s u lits glue (Ok address) → u.looks ≡ s.looks
learned_looks s u lits glue (Some c) w = ap (λ (x : PortState). x.looks) w.state
learned_looks s u lits glue None w = ap (λ (x : PortState). x.looks) w.wrote.state

pub learned_by_glue : (s u : PortState) (steps : List TrailStep) (lits : List Literal) (glue : ℕ) (address : Option Cref) → Learned s u lits glue (Ok address) → IsGlueOf steps lits glue → HoldsByGlue s u steps
learned_by_glue s u steps lits glue (Some c) w counts h there =
    elim (held_learned s u lits glue c w h there) as (λ _. Contains s.held h ⊎ IsGlueOf steps h.lits h.glue) [
      | inl old ↦ inl old
      | inr new ↦ inr (new.0 ∙ counts ∙ ap (λ (d : List Literal). count_of_levels steps (drop 1 d)) (sym new.1))
    ]
learned_by_glue s u steps lits glue None w counts h there = inl (subst (λ (hs : List Holding). Contains hs h) (ap (λ (x : PortState). x.held) w.wrote.state) there)

-- nothing has ended a run, and a ticket is in hand, with which a lemma may be learned
pub record IsReady (start s : PortState) (count : ℕ) : Type 0 where
  pub runs : Runs start s count
  pub ticket : s.ticket ≡ true
  pub left : s.found ≤ s.limit
  pub drawn : count < s.found
  pub going : list_any is_empty (added s.mine) ≡ false
  pub stop : s.stop ≡ None
  pub refused : s.refused ≡ None
  pub held : HoldsStart s

-- the entry of a lemma goes on with one more, and uses the ticket up
learned_goes_on : (start s u : PortState) (n number : ℕ) (lits : List Literal) (hints : List ℕ) → IsReady start s n → tickets_of u ≡ (false, s.found, s.limit) → Stays s u → IsClause s.vars lits → IsNewTo s lits → 1 ≤ length lits
    → u.mine ≡ s.mine ++ entry_of s number lits Learn hints ∷ [] → u.given ≡ s.given → AddsGlued s u → SeesMore s u → IsHeldOrSeen u lits → u.stop ≡ s.stop → u.refused ≡ s.refused → KeepsHeld s u → IsPort u → GoesOn start u (n + 1)
learned_goes_on start s u n number lits hints p used stays clause fresh some is given glued more own stop refused kept port =
    let e : Entry = entry_of s number lits Learn hints in
    let x : Addition = record { ring = s.ring; number = number; lits = lits; kind = Learn; hints = hints } in
    record {
      runs = runs_adds start s u n (n + 1) e p.runs stays kept is
          (p.runs.stays.ring, subst (λ (v : ℕ). All (IsOn v) lits) p.runs.stays.vars clause.on, some)
          (omega (arith, one_learned s.ring (record { ring = s.ring; number = number; lits = lits; kind = Learn; hints = hints }) refl refl)) (λ learns. fresh.unlisted) given (λ is_line. absurd (false≢true is_line)) tt glued (lately_more s u x stays.ring is kept more own p.runs.lately) port;
      draws = (
          let none : u.ticket ≡ false = ap (λ (t : Bool × ℕ × ℕ). t.0) used in
          let found : u.found ≡ s.found = ap (λ (t : Bool × ℕ × ℕ). t.1) used in
          let limit : u.limit ≡ s.limit = ap (λ (t : Bool × ℕ × ℕ). t.2) used in
          record { none = none; left = omega (arith, found, limit, p.left); within = omega (arith, found, p.drawn) });
      going = going_more s u e is p.going (some_literal lits some);
      stop = stop ∙ p.stop;
      refused = refused ∙ p.refused;
      held = starts_kept s u stays.start kept p.held;
    }

pub clause_goes_on : (start s u : PortState) (n glue : ℕ) (steps : List TrailStep) (lits : List Literal) (c : Cref) → IsReady start s n → IsClause s.vars lits → IsNewTo s lits → IsGlueOf steps lits glue → LearnedClause s u lits glue c → KeepsHeld s u → KeepsLog s u → IsPort u
    → GoesOn start u (n + 1)
clause_goes_on start s u n glue steps lits c p clause fresh counts w kept log port =
    learned_goes_on start s u n w.number lits w.hints p (ap tickets_of w.state) (stays_learned s u lits glue c w log) clause fresh (omega (arith, w.long))
    (ap (λ (x : PortState). x.mine) w.state) (ap (λ (x : PortState). x.given) w.state) (clause_glued s u steps lits glue c w counts) (sees_same s u (ap (λ (x : PortState). x.seen) w.state))
    (inl (record { address = c.address; there = ap (option_map (λ (h : Holding). h.lits)) w.there })) (ap (λ (x : PortState). x.stop) w.state) (ap (λ (x : PortState). x.refused) w.state) kept port

pub unit_learned_goes_on : (start s u : PortState) (n : ℕ) (lits : List Literal) → IsReady start s n → IsClause s.vars lits → IsNewTo s lits → LearnedUnit s u lits → KeepsHeld s u → KeepsLog s u → IsPort u
    → GoesOn start u (n + 1)
unit_learned_goes_on start s u n lits p clause fresh w kept log port =
    let wrote = w.wrote in
    learned_goes_on start s u n wrote.number lits wrote.hints p (ap tickets_of wrote.state) (stays_unit s u w.lit Learn None wrote log) clause fresh (omega (arith, ap length w.unit))
    (ap (λ (x : PortState). x.mine) wrote.state ∙ ap (λ (c : List Literal). s.mine ++ entry_of s wrote.number c Learn wrote.hints ∷ []) (sym w.unit))
    (ap (λ (x : PortState). x.given) wrote.state) (glued_same s u (ap (λ (x : PortState). x.held) wrote.state))
    (λ k h. wrote.sees k ∙ or_left (has s.seen k) (same w.lit k) h) (inr (record { lit = w.lit; unit = w.unit; seen = wrote.sees w.lit ∙ or_right (has s.seen w.lit) (same w.lit w.lit) (same-refl w.lit) }))
    (ap (λ (x : PortState). x.stop) wrote.state) (ap (λ (x : PortState). x.refused) wrote.state) kept port

-- the empty clause
pub empty_refutes : (start s u : PortState) (n : ℕ) → GoesOn start s n → EndedLog s u → KeepsLog s u → IsPort u → ComesTo start u n ring_end.Refuted
empty_refutes start s u n p w log port =
    let e : Entry = entry_of s w.number [] Derive w.hints in
    let stays : Stays s u = record {
      start = ap (λ (x : PortState). x.start) w.state;
      opening = ap (λ (x : PortState). x.opening) w.state;
      vars = ap (λ (x : PortState). x.vars) w.state;
      ring = ap (λ (x : PortState). x.ring) w.state;
      rings = ap (λ (x : PortState). x.rings) w.state;
      depth = ap (λ (x : PortState). x.depth) w.state;
      polled = omega (arith, ap (λ (x : PortState). x.polled) w.state);
      limit = ap (λ (x : PortState). x.limit) w.state;
      home = ap (λ (x : PortState). x.home) w.state;
      hinted = ap (λ (x : PortState). x.hinted) w.state;
      log = log;
    } in
    record {
      runs = runs_adds start s u n n e p.runs stays (λ a h. held_same s u a (ap (λ (x : PortState). x.held) w.state)) (ap (λ (x : PortState). x.mine) w.state)
          (p.runs.stays.ring, All-nil (IsOn start.vars), inl refl)
          (omega (arith, not_learned s.ring (record { ring = s.ring; number = w.number; lits = []; kind = Derive; hints = w.hints }) refl)) (λ learns. absurd (false≢true learns))
          (ap (λ (x : PortState). x.given) w.state) (λ is_line. absurd (false≢true is_line)) (λ two. absurd (omega (arith, two))) (glued_same s u (ap (λ (x : PortState). x.held) w.state))
          (lately_as s u (recent_other s u w.number [] Derive w.hints refl (ap (λ (x : PortState). x.ring) w.state) (ap (λ (x : PortState). x.mine) w.state)) (λ a h. held_same s u a (ap (λ (x : PortState). x.held) w.state)) (sees_same s u (ap (λ (x : PortState). x.seen) w.state)) p.runs.lately) port;
      cause = (ap (λ (x : PortState). x.ended) w.state, usable_none u (ap (λ (x : PortState). x.refused) w.state ∙ p.refused));
      unset = ap (λ (x : PortState). x.stop) w.state ∙ p.stop;
      tickets = (draws_same s u n (ap tickets_of w.state) p.draws).left;
      drawn = drawn_none u n (draws_same s u n (ap tickets_of w.state) p.draws);
    }

-- What was learned lately, and lines

-- a lemma
pub recent_lemma : (s u : PortState) (number : ℕ) (lits : List Literal) (hints : List ℕ) → u.ring ≡ s.ring → u.mine ≡ s.mine ++ entry_of s number lits Learn hints ∷ [] → length (recent u.ring u.mine) ≡ length (recent s.ring s.mine) + 1
recent_lemma s u number lits hints ring mine =
    let x : Addition = record { ring = s.ring; number = number; lits = lits; kind = Learn; hints = hints } in
    let is = ap (λ (r : ℕ). length (recent r u.mine)) ring ∙ ap (λ (J : List Entry). length (recent s.ring J)) mine ∙ ap (λ (cs : List (List Literal)). length cs) (recent_added s.ring s.mine x) in
    let both = length-append (recent s.ring s.mine) (learned s.ring (Add x ∷ [])) in
    let one = one_learned s.ring x refl refl in
    omega (arith, is, both, one)

pub wrote_none : (s : PortState) → OnlyWrote s s
wrote_none s = record {
  recent = refl;
  reduced = refl;
  grown = grown_none s s refl;
  stays = record { start = refl; opening = refl; vars = refl; ring = refl; rings = refl; depth = refl; polled = omega arith; limit = refl; home = refl; hinted = refl; log = λ o h. h };
  taken = refl;
  held = refl;
  own = λ cs p. p;
  stop = refl;
  refused = refl;
  more = λ l h. h;
}

pub wrote_by : (s u w : PortState) → OnlyWrote s u → OnlyWrote u w → OnlyWrote s w
wrote_by s u w p q = record {
  recent = q.recent ∙ p.recent;
  reduced = q.reduced ∙ p.reduced;
  grown = grown_then s u w p.grown q.grown;
  stays = stays_by s u w p.stays q.stays;
  taken = q.taken ∙ p.taken;
  held = q.held ∙ p.held;
  own = λ cs r. q.own cs (p.own cs r);
  stop = q.stop ∙ p.stop;
  refused = q.refused ∙ p.refused;
  more = λ l h. q.more l (p.more l h);
}

pub wrote_unit : (s u : PortState) (l : Literal) → WroteUnit s u l UnitLine s.last → KeepsLog s u → OnlyWrote s u
wrote_unit s u l w log = record {
  recent = recent_other s u w.number (l ∷ []) UnitLine w.hints refl (ap (λ (x : PortState). x.ring) w.state) (ap (λ (x : PortState). x.mine) w.state);
  reduced = reductions_other s u (record { ring = s.ring; number = w.number; lits = l ∷ []; kind = UnitLine; hints = w.hints }) (ap (λ (x : PortState). x.ring) w.state) (ap (λ (x : PortState). x.mine) w.state);
  grown = (entry_of s w.number (l ∷ []) UnitLine w.hints ∷ [], ap (λ (x : PortState). x.mine) w.state);
  stays = stays_unit s u l UnitLine s.last w log;
  taken = ap (λ (x : PortState). x.taken) w.state;
  held = ap (λ (x : PortState). x.held) w.state;
  own = unit_remembered s u l UnitLine s.last w;
  stop = ap (λ (x : PortState). x.stop) w.state;
  refused = ap (λ (x : PortState). x.refused) w.state;
  more = λ k h. w.sees k ∙ or_left (has s.seen k) (same l k) h;
}

-- what is counted and the tickets alone change
pub marked_wrote : (s u : PortState) (k n : ℕ) (ticket : Bool) (found : ℕ) → u ≡ record s { looks = k; caught_up = n; ticket = ticket; found = found } → KeepsLog s u → OnlyWrote s u
marked_wrote s u k n ticket found is log = record {
  recent = recent_still s u (ap (λ (x : PortState). x.ring) is) (ap (λ (x : PortState). x.mine) is);
  reduced = reductions_still s u (ap (λ (x : PortState). x.ring) is) (ap (λ (x : PortState). x.mine) is);
  grown = grown_none s u (ap (λ (x : PortState). x.mine) is);
  stays = record {
    start = ap (λ (x : PortState). x.start) is;
    opening = ap (λ (x : PortState). x.opening) is;
    vars = ap (λ (x : PortState). x.vars) is;
    ring = ap (λ (x : PortState). x.ring) is;
    rings = ap (λ (x : PortState). x.rings) is;
    depth = ap (λ (x : PortState). x.depth) is;
    polled = omega (arith, ap (λ (x : PortState). x.polled) is);
    limit = ap (λ (x : PortState). x.limit) is;
    home = ap (λ (x : PortState). x.home) is;
    hinted = ap (λ (x : PortState). x.hinted) is;
    log = log;
  };
  taken = ap (λ (x : PortState). x.taken) is;
  held = ap (λ (x : PortState). x.held) is;
  own = λ cs p. remembered_same s u cs (ap (λ (x : PortState). x.ring) is) (ap (λ (x : PortState). x.mine) is)
      (λ c there. ap (λ (f : ℕ → List Literal). f c.address) (lits_same s u (ap (λ (x : PortState). x.held) is))) (λ l h. ap (λ (ls : List Literal). has ls l) (ap (λ (x : PortState). x.seen) is) ∙ h) p;
  stop = ap (λ (x : PortState). x.stop) is;
  refused = ap (λ (x : PortState). x.refused) is;
  more = λ l h. ap (λ (ls : List Literal). has ls l) (ap (λ (x : PortState). x.seen) is) ∙ h;
}

-- a look that found no stop, or no other unit
pub counted_wrote : (s u : PortState) (k n : ℕ) → u ≡ record s { looks = k; caught_up = n } → KeepsLog s u → OnlyWrote s u
counted_wrote s u k n is log = marked_wrote s u k n s.ticket s.found is log

pub looked_wrote : (s u : PortState) (k : ℕ) → u ≡ record s { looks = k } → KeepsLog s u → OnlyWrote s u
looked_wrote s u k is log = counted_wrote s u k s.caught_up is log

pub counted_goes_on : (start s u : PortState) (n k m : ℕ) → GoesOn start s n → u ≡ record s { looks = k; caught_up = m } → KeepsLog s u → IsPort u → GoesOn start u n
counted_goes_on start s u n k m p is log port =
    let w = counted_wrote s u k m is log in
    let mine : u.mine ≡ s.mine = ap (λ (x : PortState). x.mine) is in
    record {
      runs = runs_same start s u n p.runs w.stays w.held w.more mine (lines_moved s u s.mine w.stays (ap (λ (x : PortState). x.given) is) mine p.runs.new_lines) port;
      draws = draws_same s u n (ap tickets_of is) p.draws;
      going = ap (λ (J : List Entry). list_any is_empty (added J)) mine ∙ p.going;
      stop = w.stop ∙ p.stop;
      refused = w.refused ∙ p.refused;
      held = starts_kept s u w.stays.start (λ a h. held_same s u a w.held) p.held;
    }

pub looked_goes_on : (start s u : PortState) (n k : ℕ) → GoesOn start s n → u ≡ record s { looks = k } → KeepsLog s u → IsPort u → GoesOn start u n
looked_goes_on start s u n k p is log port = counted_goes_on start s u n k s.caught_up p is log port

-- a stop that was seen or set
pub runs_stopped : (start s u : PortState) (n : ℕ) (stop : Option Stop) → Runs start s n → u ≡ record s { stop = stop } → KeepsLog s u → IsPort u → Runs start u n
runs_stopped start s u n stop p is log port =
    let stays : Stays s u = record {
      start = ap (λ (x : PortState). x.start) is;
      opening = ap (λ (x : PortState). x.opening) is;
      vars = ap (λ (x : PortState). x.vars) is;
      ring = ap (λ (x : PortState). x.ring) is;
      rings = ap (λ (x : PortState). x.rings) is;
      depth = ap (λ (x : PortState). x.depth) is;
      polled = omega (arith, ap (λ (x : PortState). x.polled) is);
      limit = ap (λ (x : PortState). x.limit) is;
      home = ap (λ (x : PortState). x.home) is;
      hinted = ap (λ (x : PortState). x.hinted) is;
      log = log;
    } in
    runs_same start s u n p stays (ap (λ (x : PortState). x.held) is) (sees_same s u (ap (λ (x : PortState). x.seen) is)) (ap (λ (x : PortState). x.mine) is) (lines_moved s u s.mine stays (ap (λ (x : PortState). x.given) is) (ap (λ (x : PortState). x.mine) is) p.new_lines) port

pub stop_seen : (start s u : PortState) (n : ℕ) (x : Stop) → GoesOn start s n → Looked s u (Some x) → KeepsLog s u → IsPort u → ComesTo start u n (ring_end.Stopped x)
stop_seen start s u n x p looked log port =
    let others : x.ring ≢ s.ring = subst (λ (o : Option Stop). MatchOption o (x.ring ≢ s.ring) (λ y. x ≡ y)) p.stop looked.0 in
    record {
      runs = runs_stopped start s u n (Some x) p.runs looked.1 log port;
      cause = (ap (λ (y : PortState). y.stop) looked.1, λ e. others (e ∙ ap (λ (y : PortState). y.ring) looked.1));
      unset = tt;
      tickets = (draws_same s u n (ap tickets_of looked.1) p.draws).left;
      drawn = drawn_none u n (draws_same s u n (ap tickets_of looked.1) p.draws);
    }
