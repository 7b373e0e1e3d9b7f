-- A ring that has offered a lemma.
use Rattle.std.proofs.Common.{◌≡◌, ◌∙◌, ℕ, ◌+◌, ◌≤◌, ◌==◌, Bool, true, false, cond, List, [], ◌∷◌, ◌++◌, sym, subst, ap, arith, inl, inr, Some, None, Ok, Contains, IsSome, refl, eq-eqb}
use Rattle.std.specs.Prelude.{IfSome}
use Rattle.std.specs.List.{list_any, find}
use Rattle.std.specs.Option.{option_to_list}
use Rattle.std.specs.declared.option.Option.{Option}
use Rattle.std.proofs.lemmas.Bool.{false≢true, eqb-true}
use Rattle.sat_words.specs.Literal.{Literal}
use Rattle.sat_words.specs.Clause.{has, is_empty}
use Rattle.sat_words.specs.declared.shared.Cref.{Cref}
use Rattle.rup_model.specs.declared.journal.Entry.{Entry}
use Rattle.rup_model.specs.Journal.{added, learned}
use Rattle.rup_model.proofs.Lists.{In, Contains_In, In_Contains}
use Rattle.ring_port.specs.PortState.{PortState, Holding, IsPort, held_at, lits_at, lits_in}
use Rattle.ring_port.specs.Port.{Learned}
use Rattle.ring_port.specs.Log.{KeepsLog}
use Rattle.ring_port.specs.Exchange.{class_at}
use Rattle.ring_port.proofs.Holdings.{found}
use Rattle.ring_port.proofs.Dropping.{find_In}
use Rattle.ring_trail.specs.declared.step.TrailStep.{TrailStep}
use Rattle.ring_trail.specs.TrailData.{TrailData}
use Rattle.watch_prop.specs.WatchData.{WatchData, Lits, attached}
use Rattle.watch_prop.specs.Watched.{Watched}
use Rattle.watch_prop.specs.Propagation.{IsClosedBelow}
use Rattle.watch_prop.proofs.TrailLaws.{Reasons-more}
use Rattle.ring_decide.specs.DeciderData.{DeciderData}
use Rattle.ring_run.specs.Strategy.{saved_above}
use Rattle.ring_run.specs.Ended.{Stays, HasOffered}
use Rattle.ring_run.specs.Searching.{GoesOn, OnlySaw, OffersNothing, HasLent, HasLentBy, HoldsByGlue, IsGlueOf}
use Rattle.ring_run.specs.Course.{Searches, InSearch, WentBack, Lists, HasLeft, AreSameOffers, IsOffering}
use Rattle.ring_run.specs.declared.ring.Ring.{Ring}
use Rattle.ring_run.proofs.Remembering.{HoldsAlike, lits_alike, clause_alike, remembered_same}
use Rattle.ring_run.proofs.Lately.{sees_same}
use Rattle.ring_run.proofs.Standing.{reasoned_alike}
use Rattle.ring_run.proofs.Progress.{runs_alike, lines_moved, starts_kept, glue_bounds}
use Rattle.ring_run.proofs.Telling.{told_same}
use Rattle.ring_run.proofs.Turning.{clauses_alike}
use Rattle.ring_run.proofs.Offering.{nothing_same, OnlyLent, offers_stay, offers_learned, offers_kept}
use Rattle.ring_run.proofs.Tickets.{tickets_of, draws_same}

lent_stays : (s u : PortState) → OnlyLent s u → KeepsLog s u → Stays s u
lent_stays s u p log =
    let is = p.state in
    record {
      start = ap (λ (x : PortState). x.start) is;
      opening = ap (λ (x : PortState). x.opening) is;
      vars = ap (λ (x : PortState). x.vars) is;
      ring = ap (λ (x : PortState). x.ring) is;
      rings = ap (λ (x : PortState). x.rings) is;
      depth = ap (λ (x : PortState). x.depth) is;
      polled = omega (arith, ap (λ (x : PortState). x.polled) is);
      limit = ap (λ (x : PortState). x.limit) is;
      home = ap (λ (x : PortState). x.home) is;
      hinted = ap (λ (x : PortState). x.hinted) is;
      log = log;
    }

-- a clause that is held is found at its address
some_there : (hs : List Holding) (h : Holding) → In h hs → IsSome (find (λ k. k.address == h.address) hs)
some_there [] h m = absurd m
some_there (k ∷ hs) h m = by (k.address == h.address) refl m (some_there hs h)
  where
    by : (b : Bool) → (k.address == h.address) ≡ b → In h (k ∷ hs) → (In h hs → IsSome (find (λ x. x.address == h.address) hs)) → IsSome (cond b (Some k) (find (λ x. x.address == h.address) hs))
    by true e m rest = refl
    by false e (inl is) rest = absurd (false≢true (sym e ∙ eq-eqb k.address h.address (ap (λ (x : Holding). x.address) is)))
    by false e (inr m) rest = rest m

found_one : (s : PortState) (h : Holding) → IsPort s → Contains s.held h → held_at s h.address ≡ Some h
unfolding held_at
found_one s h port there =
    let t = found (λ k. k.address == h.address) s.held (some_there s.held h (Contains_In s.held h there)) in
    t.is ∙ ap (λ (x : Holding). Some x) (port.one t.it h (In_Contains s.held t.it t.among) there (eqb-true t.it.address h.address t.passes))

holds_found : (s : PortState) (a : ℕ) (h : Holding) → held_at s a ≡ Some h → Contains s.held h
unfolding held_at
holds_found s a h is = In_Contains s.held h (find_In (λ k. k.address == a) s.held h is)

-- what is held then was held before
lent_contains : (s u : PortState) → HoldsAlike s u → IsPort u → (h : Holding) → Contains u.held h → Contains s.held h
lent_contains s u alike port h there = holds_found s h.address h (sym (alike h.address) ∙ found_one u h port there)

pub lent_goes_on : (start s u : PortState) (n : ℕ) → GoesOn start s n → OnlyLent s u → KeepsLog s u → IsPort u → GoesOn start u n
lent_goes_on start s u n p lent log port =
    let stays = lent_stays s u lent log in
    let mine : u.mine ≡ s.mine = ap (λ (x : PortState). x.mine) lent.state in
    record {
      runs = runs_alike start s u n p.runs stays (λ a h. lent.same a) (λ h there. inl (lent_contains s u lent.same port h there)) (sees_same s u (ap (λ (x : PortState). x.seen) lent.state)) mine
          (lines_moved s u s.mine stays (ap (λ (x : PortState). x.given) lent.state) mine p.runs.new_lines) port;
      draws = draws_same s u n (ap tickets_of lent.state) p.draws;
      going = ap (λ (J : List Entry). list_any is_empty (added J)) mine ∙ p.going;
      stop = ap (λ (x : PortState). x.stop) lent.state ∙ p.stop;
      refused = ap (λ (x : PortState). x.refused) lent.state ∙ p.refused;
      held = starts_kept s u stays.start (λ a h. lent.same a) p.held;
    }

lent_searches : (s u : PortState) (t : TrailData) (w : WatchData) (n : ℕ) → Searches s t w n → OnlyLent s u → KeepsLog s u → IsPort u → Searches u t w n
lent_searches s u t w n p lent log port =
    let is = lent.state in
    let stays = lent_stays s u lent log in
    let more : (l : Literal) → has s.seen l ≡ true → has u.seen l ≡ true = λ l h. ap (λ (ls : List Literal). has ls l) (ap (λ (x : PortState). x.seen) is) ∙ h in
    let own = remembered_same s u (attached w) (ap (λ (x : PortState). x.ring) is) (ap (λ (x : PortState). x.mine) is)
    (λ c there. ap (λ (f : Lits). f c.address) (lits_alike s u lent.same)) more p.clauses.own in
    record {
      clauses = clauses_alike s u (attached w) p.clauses stays (ap (λ (x : PortState). x.taken) is) lent.same (ap (λ (x : PortState). x.stop) is) (ap (λ (x : PortState). x.refused) is) own port;
      opening = λ l h. more l (p.opening l (ap (λ (ls : List Literal). has ls l) (sym stays.opening) ∙ h));
      stands = record {
        vars = p.stands.vars ∙ sym stays.vars;
        reasoned = reasoned_alike s u t.steps lent.same more p.stands.reasoned;
        seen = λ l h. p.stands.seen l (ap (λ (x : PortState). has x.seen l) (sym is) ∙ h);
      };
      trail = p.trail;
      watched = subst (λ (f : Lits). Watched w f t) (sym (lits_alike s u lent.same)) p.watched;
      closed = subst (λ (f : Lits). IsClosedBelow w f t) (sym (lits_alike s u lent.same)) p.closed;
      reasons = Reasons-more (attached w) (attached w) s u t.steps (λ c there. (there, clause_alike s u lent.same c.address)) more p.reasons;
      told = told_same s u t n (ap (λ (x : PortState). x.seen) is) p.told;
    }

pub lent_search : (s u : PortState) (ring : Ring) → InSearch s ring → OnlyLent s u → KeepsLog s u → IsPort u → InSearch u ring
lent_search s u ring p lent log port = lent_searches s u ring.trail ring.watches ring.written p lent log port

-- a conflict was left in the one state as in the other, since the same clauses are held
pub left_before : (s u : PortState) (old new : Ring) (lits : List Literal) (back : ℕ) (address : Option Cref) → HoldsAlike s u → HasLeft u old new lits back address → HasLeft s old new lits back address
left_before s u old new lits back address held (inl at) = inl (
  at.0,
  record {
    middle = at.1.middle;
    went = at.1.went;
    first = at.1.first;
    rest = at.1.rest;
    parts = at.1.parts;
    trail = at.1.trail;
    shape = at.1.shape;
    phases = at.1.phases;
    clauses = at.1.clauses;
    listed = at.1.listed;
    written = at.1.written;
    watched = subst (λ (f : Lits). (t : TrailData) → Watched old.watches f t → Watched new.watches f t) (lits_alike s u held) at.1.watched;
  },
)
left_before s u old new lits back address held (inr at) = inr (
  at.0,
  at.1,
  record {
    went = at.2.went;
    phases = at.2.phases;
    clauses = at.2.clauses;
    listed = at.2.listed;
    written = at.2.written;
    watched = subst (λ (f : Lits). (t : TrailData) → Watched old.watches f t → Watched new.watches f t) (lits_alike s u held) at.2.watched;
  },
)

-- two rings that a conflict leaves alike
pub record AreAlike (mid old : Ring) : Type 0 where
  pub import_due : mid.import_due ≡ old.import_due
  pub trail : mid.trail ≡ old.trail
  pub watches : mid.watches ≡ old.watches
  pub lemmas : mid.lemmas.items ≡ old.lemmas.items
  pub imports : mid.imports.items ≡ old.imports.items
  pub last_start : mid.last_start ≡ old.last_start
  pub reductions : mid.reductions ≡ old.reductions
  pub reduced_at : mid.reduced_at ≡ old.reduced_at
  pub next_probe : mid.next_probe ≡ old.next_probe
  pub written : mid.written ≡ old.written
  pub decider : mid.decider ≡ old.decider

lists_alike : (mid old new : Ring) (address : Option Cref) → AreAlike mid old → Lists mid new address → Lists old new address
lists_alike mid old new address p at = record {
  lemmas = at.lemmas ∙ ap (λ (cs : List Cref). cs ++ option_to_list address) p.lemmas;
  imports = at.imports ∙ p.imports;
  last_start = at.last_start ∙ p.last_start;
  reductions = at.reductions ∙ p.reductions;
  reduced_at = at.reduced_at ∙ p.reduced_at;
  next_probe = at.next_probe ∙ p.next_probe;
}

saved_alike : (mid old : Ring) (k : ℕ) → AreAlike mid old → saved_above mid.decider mid.trail.steps k ≡ saved_above old.decider old.trail.steps k
saved_alike mid old k p = ap (λ (d : DeciderData). saved_above d mid.trail.steps k) p.decider ∙ ap (λ (t : TrailData). saved_above old.decider t.steps k) p.trail

pub left_alike : (s : PortState) (mid old new : Ring) (lits : List Literal) (back : ℕ) (address : Option Cref) → AreAlike mid old → HasLeft s mid new lits back address → HasLeft s old new lits back address
left_alike s mid old new lits back address p (inl at) = inl (
  λ due. at.0 (p.import_due ∙ due),
  record {
    middle = at.1.middle;
    went = subst (λ (t : TrailData). WentBack t at.1.middle back) p.trail at.1.went;
    first = at.1.first;
    rest = at.1.rest;
    parts = at.1.parts;
    trail = at.1.trail;
    shape = at.1.shape;
    phases = at.1.phases ∙ saved_alike mid old back p;
    clauses = at.1.clauses ∙ ap (λ (w : WatchData). attached w ++ option_to_list address) p.watches;
    listed = lists_alike mid old new address p at.1.listed;
    written = at.1.written ∙ p.written;
    watched = λ t w. at.1.watched t (subst (λ (x : WatchData). Watched x (lits_at s) t) (sym p.watches) w);
  },
)
left_alike s mid old new lits back address p (inr at) = inr (
  sym p.import_due ∙ at.0,
  at.1,
  record {
    went = subst (λ (t : TrailData). WentBack t new.trail 0) p.trail at.2.went;
    phases = at.2.phases ∙ saved_alike mid old 0 p;
    clauses = at.2.clauses ∙ ap (λ (w : WatchData). attached w ++ option_to_list address) p.watches;
    listed = lists_alike mid old new address p at.2.listed;
    written = at.2.written ∙ p.written;
    watched = λ t w. at.2.watched t (subst (λ (x : WatchData). Watched x (lits_at s) t) (sym p.watches) w);
  },
)

-- the lemma stands where it is held
pub stored_at : (s u v : PortState) (lits : List Literal) (glue : ℕ) (address : Option Cref) → Learned s u lits glue (Ok address) → HoldsAlike u v → IfSome address (λ c. lits_at v c.address ≡ lits)
stored_at s u v lits glue (Some c) w alike = ap lits_in (alike c.address) ∙ ap lits_in w.there
stored_at s u v lits glue None w alike = tt

pub lent_glue : (s u v w : PortState) (steps : List TrailStep) → HoldsByGlue s u steps → OnlyLent u v → IsPort v → w.held ≡ v.held → HoldsByGlue s w steps
lent_glue s u v w steps p lent port held h there = p h (lent_contains u v lent.same port h (subst (λ (hs : List Holding). Contains hs h) held there))

-- what is counted stays true if nothing is learned or offered
pub offering_kept : (s u : PortState) (old new : Ring) → u.shared ≡ s.shared → u.ring ≡ s.ring → u.rings ≡ s.rings → learned u.ring u.mine ≡ learned s.ring s.mine → new.exported ≡ old.exported → new.offered ≡ old.offered → new.learned ≡ old.learned
    → IsOffering s old → IsOffering u new
offering_kept s u old new shared ring rings lemmas exported offered count p = record {
  counts = subst (HasOffered u new.exported) (sym offered) (subst (λ (e : ℕ). HasOffered u e old.offered) (sym exported) (offers_kept s u old.exported old.offered shared ring rings lemmas p.counts));
  few = omega (arith, exported, count, p.few);
}

pub offering_stays : (s u : PortState) (old new : Ring) → OffersNothing s u → AreSameOffers old new → new.learned ≡ old.learned → IsOffering s old → IsOffering u new
offering_stays s u old new nothing same learned p = record {
  counts = subst (HasOffered u new.exported) (sym same.offered) (subst (λ (e : ℕ). HasOffered u e old.offered) (sym same.exported) (offers_stay s u old.exported old.offered nothing p.counts));
  few = omega (arith, same.exported, learned, p.few);
}

lent_few_by : (u v : PortState) (k : Option ℕ) (a e o more told : ℕ) → HasLentBy u v k a e o more told → more ≤ e + 1
lent_few_by u v None a e o more told lent = omega (arith, lent.1)
lent_few_by u v (Some class) a e o more told lent = omega (arith, lent.1)

lent_few : (u v : PortState) (address : Option Cref) (e o more told : ℕ) → HasLent u v address e o more told → more ≤ e + 1
lent_few u v None e o more told lent = omega (arith, lent.1)
lent_few u v (Some c) e o more told lent = lent_few_by u v (class_at u c.address) c.address e o more told lent

-- after a lemma
pub offering_learned : (s u v : PortState) (old new : Ring) (steps : List TrailStep) (glue : ℕ) (lits : List Literal) (address : Option Cref) → IsOffering s old → Learned s u lits glue (Ok address) → IsGlueOf steps lits glue
    → HasLent u v address old.exported old.offered new.exported new.offered → new.learned ≡ old.learned + 1 → IsOffering v new
offering_learned s u v old new steps glue lits address p w counts lent learned = record {
  counts = offers_learned s u v old.exported old.offered new.exported new.offered glue lits address p.counts w (glue_bounds steps lits glue counts) lent;
  few = (let few = lent_few u v address old.exported old.offered new.exported new.offered lent in omega (arith, few, learned, p.few));
}

pub saw_nothing : (s u : PortState) → OnlySaw s u → OffersNothing s u
saw_nothing s u p = nothing_same s u p.shared p.polled p.polls p.polls_after p.caught_up p.stays.ring p.stays.rings p.stays.depth p.mine (ap (λ (x : PortState). x.found) p.state)

-- a lemma that has an address is held
pub lent_held : (s u v : PortState) (lits : List Literal) (glue : ℕ) (address : Option Cref) → Learned s u lits glue (Ok address) → OnlyLent u v → IfSome address (λ c. IsSome (held_at v c.address))
lent_held s u v lits glue (Some c) w lent =
    let held : IsSome (held_at u c.address) = subst (λ (o : Option Holding). IsSome o) (sym w.there) refl in
    subst (λ (o : Option Holding). IsSome o) (sym (lent.same c.address)) held
lent_held s u v lits glue None w lent = tt
