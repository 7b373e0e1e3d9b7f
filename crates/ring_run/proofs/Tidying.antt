-- Deletions leave a run and a search as they were.
use Rattle.std.proofs.Common.{◌≡◌, ◌∙◌, ℕ, ◌==◌, ◌&&◌, List, [], ◌∷◌, ◌++◌, length, take, drop, map, sym, subst, ap, arith, refl, Ok, Err, append-nil}
use Rattle.std.specs.Prelude.{All, Result, OnOk, IfErr, IfSome, IsSome, Some, None}
use Rattle.std.specs.List.{list_any, filter, fold}
use Rattle.std.proofs.lemmas.List.Elements.{All-append, All-cons, All-nil}
use Rattle.std.proofs.lemmas.List.Sums.{fold-append}
use Rattle.std.specs.declared.option.Option.{Option}
use Rattle.sat_words.specs.Literal.{Literal}
use Rattle.sat_words.specs.Clause.{has, same_set, is_empty}
use Rattle.sat_words.specs.declared.shared.Cref.{Cref}
use Rattle.drat_text.specs.LineState.{LineState}
use Rattle.rup_model.specs.declared.journal.Addition.{Addition}
use Rattle.rup_model.specs.declared.journal.Entry.{Entry}
use Rattle.rup_model.specs.declared.journal.Entry.TheVariants.{Del}
use Rattle.rup_model.specs.Basics.{EachAfter}
use Rattle.rup_model.specs.Journal.{additions, added, learned, recent, recent_after, is_learn}
use Rattle.rup_model.specs.Opening.{IsNew, adds_unit}
use Rattle.rup_model.proofs.Additions.{additions-append}
use Rattle.rup_model.proofs.Sequences.{each_both}
use Rattle.ring_port.specs.PortState.{PortState, Holding, IsPort, held_at}
use Rattle.ring_port.specs.Deleting.{deletions, TidiedUpTo, TidiedSome, Tidied}
use Rattle.ring_port.specs.Log.{KeepsLog}
use Rattle.ring_port.specs.declared.stops.PortStop.{PortStop}
use Rattle.ring_port.specs.declared.stops.PortStop.TheVariants.{Ended, Broken, ProofFault, NoHole, Memory}
use Rattle.watch_prop.specs.WatchData.{Lits}
use Rattle.ring_run.specs.Ended.{reductions, IsTimely, Stays, IsOwn, IsNewLine, Cause, IsHalted, last_looks, opening_of}
use Rattle.ring_run.specs.Searching.{Runs, GoesOn, KeepsOn, OnlyWrote, OffersNothing, Remembers}
use Rattle.ring_run.specs.Ending.{EndsAt, end_refused, IsRefusal}
use Rattle.ring_run.specs.Course.{InSearch}
use Rattle.ring_run.specs.declared.ring.Ring.{Ring}
use Rattle.ring_run.proofs.Numbering.{reductions_deleted}
use Rattle.ring_run.proofs.Remembering.{held_same, lits_same, remembered_as}
use Rattle.ring_run.proofs.Lately.{sees_same, lately_as}
use Rattle.ring_run.proofs.Standing.{reasoned_more}
use Rattle.ring_run.proofs.Telling.{told_same}
use Rattle.ring_run.proofs.Turning.{wrote_search}
use Rattle.ring_run.proofs.Progress.{Unchanged, same_refused, stays_by, news_moved, lines_moved, glued_same, glued_by, starts_kept, usable_none, refused_cause, unset}
use Rattle.ring_run.proofs.Tickets.{tickets_of, found_same, limit_same, draws_same, drawn_none, tickets_refused}

-- Deletions in a journal

no_additions : (r : ℕ) (hs : List Holding) → additions (deletions r hs) ≡ []
no_additions r [] = refl
no_additions r (h ∷ hs) = no_additions r hs

same_additions : (r : ℕ) (J : List Entry) (hs : List Holding) → additions (J ++ deletions r hs) ≡ additions J
same_additions r J hs = additions-append J (deletions r hs) ∙ ap (λ (xs : List Addition). additions J ++ xs) (no_additions r hs) ∙ append-nil (additions J)

same_recent_after : (q r : ℕ) (hs : List Holding) (cs : List (List Literal)) → fold (recent_after q) cs (deletions r hs) ≡ cs
same_recent_after q r [] cs = refl
same_recent_after q r (h ∷ hs) cs = same_recent_after q r hs (cs ++ []) ∙ append-nil cs

same_recent : (q r : ℕ) (J : List Entry) (hs : List Holding) → recent q (J ++ deletions r hs) ≡ recent q J
same_recent q r J hs = fold-append (recent_after q) [] J (deletions r hs) ∙ same_recent_after q r hs (recent q J)

-- what holds of each deletion
each_deletion : (P : List Entry → Entry → Type 0) → ((before : List Entry) (r n : ℕ) → P before (Del r n)) → (before : List Entry) (r : ℕ) (hs : List Holding) → EachAfter P before (deletions r hs)
each_deletion P all before r [] = tt
each_deletion P all before r (h ∷ hs) = (all before r h.number, each_deletion P all (before ++ Del r h.number ∷ []) r hs)

own_deletions : (ring vars r : ℕ) (hs : List Holding) → r ≡ ring → All (IsOwn ring vars) (deletions r hs)
own_deletions ring vars r [] is = All-nil (IsOwn ring vars)
own_deletions ring vars r (h ∷ hs) is = All-cons (IsOwn ring vars) (Del r h.number) (deletions r hs) is (own_deletions ring vars r hs is)

-- Deletions by a port

-- clauses that waited were deleted, and no other call did more
record Deleted (s u : PortState) (hs : List Holding) : Type 0 where
  pub start : u.start ≡ s.start
  pub opening : u.opening ≡ s.opening
  pub vars : u.vars ≡ s.vars
  pub ring : u.ring ≡ s.ring
  pub rings : u.rings ≡ s.rings
  pub depth : u.depth ≡ s.depth
  pub shared : u.shared ≡ s.shared
  pub polled : u.polled ≡ s.polled
  pub polls : u.polls ≡ s.polls
  pub polls_after : u.polls_after ≡ s.polls_after
  pub caught_up : u.caught_up ≡ s.caught_up
  pub taken : u.taken ≡ s.taken
  pub tickets : tickets_of u ≡ tickets_of s
  pub home : u.home ≡ s.home
  pub hinted : u.hinted ≡ s.hinted
  pub given : u.given ≡ s.given
  pub seen : u.seen ≡ s.seen
  pub looks : u.looks ≡ s.looks
  pub stop : u.stop ≡ s.stop
  pub held : u.held ≡ s.held
  pub mine : u.mine ≡ s.mine ++ deletions s.ring hs

deleted_eta : (s : PortState) (waiting hs : List Holding) (output : Option LineState) → Deleted s (record s { waiting = waiting; mine = s.mine ++ deletions s.ring hs; output = output }) hs
deleted_eta s waiting hs output = record {
  start = refl;
  opening = refl;
  vars = refl;
  ring = refl;
  rings = refl;
  depth = refl;
  shared = refl;
  polled = refl;
  polls = refl;
  polls_after = refl;
  caught_up = refl;
  taken = refl;
  tickets = refl;
  home = refl;
  hinted = refl;
  given = refl;
  seen = refl;
  looks = refl;
  stop = refl;
  held = refl;
  mine = refl;
}

deleted_up_to : (s u : PortState) (k : ℕ) → TidiedUpTo s u k → Deleted s u (take k s.waiting)
deleted_up_to s u k w = subst (λ (x : PortState). Deleted s x (take k s.waiting)) (sym w.state) (deleted_eta s (drop k s.waiting) (take k s.waiting) u.output)

deleted_then : (s m u : PortState) (hs : List Holding) → Deleted s m hs → Unchanged m u → Deleted s u hs
deleted_then s m u hs p q = record {
  start = q.start ∙ p.start;
  opening = q.opening ∙ p.opening;
  vars = q.vars ∙ p.vars;
  ring = q.ring ∙ p.ring;
  rings = q.rings ∙ p.rings;
  depth = q.depth ∙ p.depth;
  shared = q.shared ∙ p.shared;
  polled = q.polled ∙ p.polled;
  polls = q.polls ∙ p.polls;
  polls_after = q.polls_after ∙ p.polls_after;
  caught_up = q.caught_up ∙ p.caught_up;
  taken = q.taken ∙ p.taken;
  tickets = q.tickets ∙ p.tickets;
  home = q.home ∙ p.home;
  hinted = q.hinted ∙ p.hinted;
  given = q.given ∙ p.given;
  seen = q.seen ∙ p.seen;
  looks = q.looks ∙ p.looks;
  stop = q.stop ∙ p.stop;
  held = q.held ∙ p.held;
  mine = q.mine ∙ p.mine;
}

-- some of what waited
tidied : (s u : PortState) (r : Result (Unit {0}) PortStop) → Tidied s u r → (hs : List Holding) × Deleted s u hs
tidied s u (Ok done) w = (take (length s.waiting) s.waiting, deleted_up_to s u (length s.waiting) w)
tidied s u (Err stop) w =
    let same : Unchanged w.middle u = subst (Unchanged w.middle) (sym w.refused.state) (same_refused w.middle u.output stop) in
    (take w.many s.waiting, deleted_then s w.middle u (take w.many s.waiting) (deleted_up_to s w.middle w.many w.first) same)

module _ (s u : PortState) (hs : List Holding) (d : Deleted s u hs) (log : KeepsLog s u) where
  deleted_stays : Stays s u
  deleted_stays = record {
    start = d.start;
    opening = d.opening;
    vars = d.vars;
    ring = d.ring;
    rings = d.rings;
    depth = d.depth;
    polled = omega (arith, d.polled);
    limit = limit_same s u d.tickets;
    home = d.home;
    hinted = d.hinted;
    log = log;
  }

  deleted_learned : learned u.ring u.mine ≡ learned s.ring s.mine
  deleted_learned =
      ap (λ (r : ℕ). learned r u.mine) d.ring ∙ ap (learned s.ring) d.mine
      ∙ ap (λ (xs : List Addition). map (λ (x : Addition). x.lits) (filter (λ (x : Addition). (x.ring == s.ring) && is_learn x.kind) xs)) (same_additions s.ring s.mine hs)

  deleted_added : added u.mine ≡ added s.mine
  deleted_added = ap added d.mine ∙ ap (λ (xs : List Addition). map (λ (x : Addition). x.lits) xs) (same_additions s.ring s.mine hs)

  deleted_recent : recent u.ring u.mine ≡ recent s.ring s.mine
  deleted_recent = ap (λ (r : ℕ). recent r u.mine) d.ring ∙ ap (recent s.ring) d.mine ∙ same_recent s.ring s.ring s.mine hs

  deleted_runs : (start : PortState) (n : ℕ) → Runs start s n → IsPort u → Runs start u n
  deleted_runs start n p port = record {
    stays = stays_by start s u p.stays deleted_stays;
    held = starts_kept s u d.start (λ a h. held_same s u a d.held) p.held;
    wrote = subst (All (IsOwn start.ring start.vars)) (sym d.mine)
        (All-append (IsOwn start.ring start.vars) s.mine (deletions s.ring hs) p.wrote (own_deletions start.ring start.vars s.ring hs p.stays.ring));
    counted = p.counted ∙ ap (λ (G : List (List Literal)). length G) (sym deleted_learned);
    each_new = news_moved s u (s.mine ++ deletions s.ring hs) deleted_stays d.mine
        (each_both (IsNew (opening_of s)) [] s.mine (deletions s.ring hs) p.each_new (each_deletion (IsNew (opening_of s)) (λ before r k. tt) s.mine s.ring hs));
    new_lines = lines_moved s u (s.mine ++ deletions s.ring hs) deleted_stays d.given d.mine
        (each_both (IsNewLine s.opening s.given s.ring) [] s.mine (deletions s.ring hs) p.new_lines (each_deletion (IsNewLine s.opening s.given s.ring) (λ before r k. tt) s.mine s.ring hs));
    timely = subst (EachAfter IsTimely []) (sym d.mine) (each_both IsTimely [] s.mine (deletions s.ring hs) p.timely (each_deletion IsTimely (λ before r k. tt) s.mine s.ring hs));
    glued = glued_by start s u p.glued deleted_stays.polled (glued_same s u d.held);
    lately = lately_as s u deleted_recent (λ a h. held_same s u a d.held) (sees_same s u d.seen) p.lately;
    port = port;
  }

  deleted_remembered : (cs : List Cref) → Remembers s cs → Remembers u cs
  deleted_remembered cs p = remembered_as s u cs cs deleted_recent
      (λ l. ap (λ (r : ℕ). adds_unit r u.mine l) d.ring ∙ ap (λ (J : List Entry). adds_unit s.ring J l) d.mine
      ∙ ap (λ (xs : List Addition). list_any (same_set (l ∷ [])) (map (λ (x : Addition). x.lits) (filter (λ (x : Addition). x.ring == s.ring) xs))) (same_additions s.ring s.mine hs))
      (λ c there. ap (λ (f : Lits). f c.address) (lits_same s u d.held)) (λ c there. there) (sees_same s u d.seen) p

  deleted_wrote : u.refused ≡ s.refused → OnlyWrote s u
  deleted_wrote refused = record {
    reduced = ap (λ (r : ℕ). reductions r u.mine) d.ring ∙ ap (reductions s.ring) d.mine ∙ reductions_deleted s.ring s.ring s.mine hs;
    grown = (deletions s.ring hs, d.mine);
    recent = deleted_recent;
    stays = deleted_stays;
    taken = d.taken;
    held = d.held;
    own = λ cs p. deleted_remembered cs p;
    stop = d.stop;
    refused = refused;
    more = sees_same s u d.seen;
  }

  deleted_goes_on : (start : PortState) (n : ℕ) → u.refused ≡ s.refused → GoesOn start s n → IsPort u → GoesOn start u n
  deleted_goes_on start n refused p port = record {
    runs = deleted_runs start n p.runs port;
    draws = draws_same s u n d.tickets p.draws;
    going = ap (list_any is_empty) deleted_added ∙ p.going;
    stop = d.stop ∙ p.stop;
    refused = refused ∙ p.refused;
    held = starts_kept s u d.start (λ a h. held_same s u a d.held) p.held;
  }

  deleted_nothing : OffersNothing s u
  deleted_nothing = record { shared = d.shared; polled = d.polled; polls = d.polls; polls_after = d.polls_after; caught_up = omega (arith, d.caught_up); ring = d.ring; rings = d.rings; depth = d.depth; found = found_same s u d.tickets; lemmas = deleted_learned }

-- What a call that tidies leaves

pub tidied_held : (s u : PortState) (r : Result (Unit {0}) PortStop) → Tidied s u r → u.held ≡ s.held
tidied_held s u r w = (tidied s u r w).1.held

pub tidied_looks : (s u : PortState) (r : Result (Unit {0}) PortStop) → Tidied s u r → u.looks ≡ s.looks
tidied_looks s u r w = (tidied s u r w).1.looks

pub tidied_nothing : (s u : PortState) (r : Result (Unit {0}) PortStop) → Tidied s u r → KeepsLog s u → OffersNothing s u
tidied_nothing s u r w log = let t = tidied s u r w in deleted_nothing s u t.0 t.1 log

pub tidied_seen : (s u : PortState) (r : Result (Unit {0}) PortStop) → Tidied s u r → OnOk r (u.seen ≡ s.seen)
tidied_seen s u (Ok done) w = ap (λ (x : PortState). x.seen) w.state
tidied_seen s u (Err stop) w = tt

pub none_left : (hs : List Holding) → drop (length hs) hs ≡ []
none_left [] = refl
none_left (h ∷ hs) = none_left hs

pub tidied_waiting : (s u : PortState) (r : Result (Unit {0}) PortStop) → Tidied s u r → OnOk r (u.waiting ≡ [])
tidied_waiting s u (Ok done) w = ap (λ (x : PortState). x.waiting) w.state ∙ none_left s.waiting
tidied_waiting s u (Err stop) w = tt

pub tidied_lines : (s u : PortState) (r : Result (Unit {0}) PortStop) → Tidied s u r → OnOk r (TidiedUpTo s u (length s.waiting))
tidied_lines s u (Ok done) w = w
tidied_lines s u (Err stop) w = tt

pub tidied_some : (s u : PortState) (r : Result (Unit {0}) PortStop) → Tidied s u r → IfErr r (TidiedSome s u)
tidied_some s u (Ok done) w = tt
tidied_some s u (Err stop) w = w

pub tidied_wrote : (s u : PortState) (r : Result (Unit {0}) PortStop) → Tidied s u r → KeepsLog s u → OnOk r (OnlyWrote s u)
tidied_wrote s u (Ok done) w log =
    let t = tidied s u (Ok done) w in
    deleted_wrote s u t.0 t.1 log (ap (λ (x : PortState). x.refused) w.state)
tidied_wrote s u (Err stop) w log = tt

pub tidied_keeps : (s u : PortState) (r : Result (Unit {0}) PortStop) → Tidied s u r → KeepsLog s u → IsPort u → OnOk r (KeepsOn s u)
tidied_keeps s u (Ok done) w log port = λ start n p.
    (let t = tidied s u (Ok done) w in
    deleted_goes_on s u t.0 t.1 log start n (ap (λ (x : PortState). x.refused) w.state) p port)
tidied_keeps s u (Err stop) w log port = tt

pub tidied_over : (s u : PortState) (r : Result (Unit {0}) PortStop) → Tidied s u r → KeepsLog s u → IsPort u → IfErr r (λ stop. EndsAt s u (end_refused stop))
tidied_over s u (Ok done) w log port = tt
tidied_over s u (Err stop) w log port = λ n start p.
    (let t = tidied s u (Err stop) w in
    let first = deleted_up_to s w.middle w.many w.first in
    let refused : w.middle.refused ≡ s.refused = ap (λ (x : PortState). x.refused) w.first.state in
    record {
      runs = deleted_runs s u t.0 t.1 log start n p.runs port;
      cause = subst (λ (x : PortState). Cause x (end_refused stop)) (sym w.refused.state)
          (refused_cause w.middle u.output stop w.refused.reason (usable_none w.middle (refused ∙ p.refused))
          (ap (λ (J : List Entry). list_any is_empty (added J)) first.mine
          ∙ ap (λ (xs : List Addition). list_any is_empty (map (λ (x : Addition). x.lits) xs)) (same_additions s.ring s.mine (take w.many s.waiting)) ∙ p.going));
      unset = unset u (end_refused stop) (t.1.stop ∙ p.stop);
      tickets = tickets_refused u stop (draws_same s u n t.1.tickets p.draws).left;
      drawn = drawn_none u n (draws_same s u n t.1.tickets p.draws);
    })

-- a search goes on over a port that has tidied
pub tidied_search : (s u : PortState) (ring : Ring) → InSearch s ring → OnlyWrote s u → u.seen ≡ s.seen → IsPort u → InSearch u ring
tidied_search s u ring p wrote seen port =
    wrote_search s u ring.trail ring.watches ring.written ring.written p wrote port (record {
      vars = p.stands.vars ∙ sym wrote.stays.vars;
      reasoned = reasoned_more s u ring.trail.steps wrote.held wrote.more p.stands.reasoned;
      seen = λ l h. p.stands.seen l (ap (λ (ls : List Literal). has ls l) (sym seen) ∙ h);
    }) (told_same s u ring.trail ring.written seen p.told)

-- a clause that was held still is
pub held_stays : (s u : PortState) (address : Option Cref) → u.held ≡ s.held → IfSome address (λ c. IsSome (held_at s c.address)) → IfSome address (λ c. IsSome (held_at u c.address))
held_stays s u None held h = tt
held_stays s u (Some c) held h = subst (λ (o : Option Holding). IsSome o) (sym (held_same s u c.address held)) h

pub refused_halted : (stop : PortStop) → IsHalted (end_refused stop)
refused_halted Ended = tt
refused_halted Broken = tt
refused_halted ProofFault = tt
refused_halted (NoHole lack) = tt
refused_halted Memory = tt

pub refused_refusal : (stop : PortStop) → IsRefusal (end_refused stop)
refused_refusal Ended = tt
refused_refusal Broken = tt
refused_refusal ProofFault = tt
refused_refusal (NoHole lack) = tt
refused_refusal Memory = tt

-- a refusal takes no look more
pub refused_last : (stop : PortStop) → last_looks (end_refused stop) ≡ 0
refused_last Ended = refl
refused_last Broken = refl
refused_last ProofFault = refl
refused_last (NoHole lack) = refl
refused_last Memory = refl
