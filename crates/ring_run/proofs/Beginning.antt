-- How a run begins, and what it leaves.
use Rattle.std.proofs.Common.{◌≡◌, ◌∙◌, ◌+◌, ◌-◌, ◌%◌, ◌==◌, Bool, true, false, ℕ, List, [], length, map, sym, subst, ap, arith, inl, Some, IsSome, refl, Contains, get_or, eq-eqb, slice_index_or}
use Rattle.std.specs.Prelude.{All}
use Rattle.std.specs.List.{list_any}
use Rattle.std.specs.declared.option.Option.{Option}
use Rattle.std.proofs.lemmas.Bool.{false≢true}
use Rattle.std.proofs.lemmas.List.Elements.{All-nil}
use Rattle.reduce_db.specs.Lemmas.{AreDistinct}
use Rattle.sat_words.specs.Literal.{Literal}
use Rattle.sat_words.specs.Clause.{has, is_empty}
use Rattle.sat_words.specs.declared.shared.Cref.{Cref}
use Rattle.rup_model.specs.declared.journal.Entry.{Entry}
use Rattle.rup_model.specs.Basics.{EachAfter}
use Rattle.rup_model.specs.Journal.{added, learned, recent}
use Rattle.rup_model.specs.Opening.{adds_unit, IsNew}
use Rattle.rup_model.proofs.Lists.{In, Contains_In, In_Contains, In_map, map_In, In_get_or, has_In}
use Rattle.ring_port.specs.PortState.{PortState, Holding, HoldsStart, IsKept, IsOn, IsPort, held_at, lits_at, lits_in}
use Rattle.ring_port.proofs.Holdings.{All_In}
use Rattle.ring_trail.specs.TrailData.{TrailData, IsTrail}
use Rattle.watch_prop.specs.WatchData.{attached}
use Rattle.watch_prop.specs.Watched.{Watched, IsFresh}
use Rattle.ring_decide.specs.DeciderData.{DeciderData}
use Rattle.restart_plan.specs.Plan.{Restarting, IsRestarting, IsExact, AreMost, begun as nothing_came}
use Rattle.restart_plan.proofs.Restarting.{exact-none, exact-most}
use Rattle.ring_run.specs.Ended.{IsTimely, IsJobOf, IsUntouched, IsOwn, IsNewLine, HasRestarted, opening_of, reductions}
use Rattle.ring_run.specs.Strategy.{Decides, IsPaced, AreMarked, OccurMarked, OccursIn}
use Rattle.ring_run.specs.declared.job.Counts.{Counts}
use Rattle.ring_run.specs.Searching.{IsHeldBy, AreTold, Runs, GoesOn}
use Rattle.ring_run.specs.Course.{last_start, HasLemmas, MayImport, AreOrdered}
use Rattle.ring_run.specs.declared.job.Job.{Job}
use Rattle.ring_run.specs.declared.ring.Ring.{Ring}
use Rattle.ring_run.proofs.Numbering.{ordered_none}
use Rattle.ring_run.proofs.Lately.{lately_none}

pub runs_begin : (s : PortState) → IsUntouched s → IsPort s → Runs s s 0
runs_begin s p port = record {
  stays = record { start = refl; opening = refl; vars = refl; ring = refl; rings = refl; depth = refl; polled = omega arith; limit = refl; home = refl; hinted = refl; log = λ o h. h };
  held = p.held;
  wrote = subst (All (IsOwn s.ring s.vars)) (sym p.mine) (λ k d h. absurd (omega arith));
  counted = sym (ap (λ (J : List Entry). length (learned s.ring J)) p.mine);
  each_new = subst (EachAfter (IsNew (opening_of s)) []) (sym p.mine) tt;
  new_lines = subst (EachAfter (IsNewLine s.opening s.given s.ring) []) (sym p.mine) tt;
  timely = subst (EachAfter IsTimely []) (sym p.mine) tt;
  glued = record { others = []; few = omega arith; each = λ h there. inl there };
  lately = lately_none s (ap (λ (J : List Entry). recent s.ring J) p.mine);
  port = port;
}

pub goes_begin : (s : PortState) → IsUntouched s → IsPort s → GoesOn s s 0
goes_begin s p port = record {
  runs = runs_begin s p port;
  going = ap (λ (J : List Entry). list_any is_empty (added J)) p.mine;
  stop = p.stop;
  refused = p.refused;
  held = p.held;
  draws = record { none = p.ticket; left = omega (arith, p.found); within = omega arith };
}

-- no lemma is listed yet
pub listed_begin : (s : PortState) (ring : Ring) → s.mine ≡ [] → ring.learned ≡ 0 → ring.lemmas.items ≡ [] → ring.reductions ≡ 0 → ring.reduced_at ≡ 0 → ring.imports.items ≡ [] → ring.last_start ≡ last_start s → HasLemmas s ring
listed_begin s ring mine learned none reductions_none at no_imports last = record {
  ordered = subst (AreOrdered s) (sym none) (ordered_none s);
  glued = λ c m. absurd (Contains_In [] c (subst (λ (cs : List Cref). Contains cs c) none m));
  noted = reductions_none ∙ sym (ap (λ (J : List Entry). reductions s.ring J) mine);
  distinct = subst AreDistinct (sym none) tt;
  member = subst (All (Contains (attached ring.watches))) (sym none) (All-nil (Contains (attached ring.watches)));
  apart = λ h c there m. absurd (Contains_In [] c (subst (λ (cs : List Cref). Contains cs c) none m));
  count = (let lately = ap (λ (J : List Entry). length (recent s.ring J)) mine in omega (arith, lately, learned, at));
  few = omega (arith, reductions_none, at);
  imported = subst (All (Contains (attached ring.watches))) (sym no_imports) (All-nil (Contains (attached ring.watches)));
  last = last;
}

-- the start clauses of the job are held
pub starts_held : (s : PortState) (job : Job) → IsJobOf s job → HoldsStart s → All (IsHeldBy s) job.start
starts_held s job asked p = subst (All (IsHeldBy s)) (sym asked.start) held
  where
    of_start : (h : Holding) → held_at s h.address ≡ Some h → IsSome (held_at s h.address)
    of_start h e = subst (λ (o : Option Holding). IsSome o) (sym e) refl

    held : All (IsHeldBy s) (map (λ (h : Holding). record { address = h.address }) s.start)
    held = λ k d h.
        (let t = map_In (λ (x : Holding). record { address = x.address }) s.start (get_or (map (λ (x : Holding). record { address = x.address }) s.start) k d) (In_get_or (map (λ (x : Holding). record { address = x.address }) s.start) k d h) in
        subst (IsHeldBy s) t.2 (of_start t.0 (All_In (λ (x : Holding). held_at s x.address ≡ Some x) s.start t.0 p t.1)))

-- a ring that has attached the job's clauses, with nothing true
pub begun : (s : PortState) (job : Job) (ring : Ring) → IsJobOf s job → IsUntouched s → IsPort s → ring.trail ≡ record { vars = job.vars; level = 0; steps = []; done = 0 } → IsTrail ring.trail
    → attached ring.watches ≡ job.start → ((t : TrailData) → t.vars ≡ job.vars → IsFresh t → Watched ring.watches (lits_at s) t) → ring.written ≡ 0 → MayImport s ring.trail ring.watches ring.written
begun s job ring asked p port trail shape clauses watched none =
    let bare : length ring.trail.steps ≡ 0 = ap (λ (t : TrailData). length t.steps) trail in
    let is : attached ring.watches ≡ map (λ (h : Holding). record { address = h.address }) s.start = clauses ∙ asked.start in
    record {
      clauses = record {
        held = subst (All (IsHeldBy s)) (sym clauses) (starts_held s job asked p.held);
        starts = λ h there. subst (λ (cs : List Cref). Contains cs (record { address = h.address })) (sym is)
            (In_Contains (map (λ (k : Holding). record { address = k.address }) s.start) (record { address = h.address }) (In_map (λ (k : Holding). record { address = k.address }) s.start h (Contains_In s.start h there)));
        starts_held = p.held;
        own = record {
          lemmas = λ c h. absurd (Contains_In [] c (subst (λ (J : List Entry). Contains (recent s.ring J) c) p.mine h));
          units = λ l h. absurd (false≢true (ap (λ (J : List Entry). adds_unit s.ring J l) (sym p.mine) ∙ h));
        };
        taken = λ a there. absurd (Contains_In [] a (subst (λ (xs : List ℕ). Contains xs a) p.taken there));
        refused = p.refused;
        stop = p.stop;
        port = port;
      };
      stands = record {
        vars = ap (λ (t : TrailData). t.vars) trail ∙ asked.vars;
        reasoned = record { caused = λ q h. absurd (omega (arith, ap (λ (t : TrailData). length t.steps) trail)) };
        seen = λ l h. absurd (false≢true (ap (λ (ls : List Literal). has ls l) (sym p.seen) ∙ h));
      };
      trail = shape;
      level = ap (λ (t : TrailData). t.level) trail;
      watched = watched ring.trail (ap (λ (t : TrailData). t.vars) trail) (λ q le lt. absurd (omega (arith, lt, bare)));
      reasons = record { caused = λ q h. absurd (omega (arith, h, bare)) };
      told = subst (AreTold s ring.trail) (sym none) (record {
        few = omega arith;
        low = λ q h. absurd (omega (arith, h));
        first = λ q h. absurd (omega (arith, h));
        rest = λ q le lt some. absurd (omega (arith, lt, bare));
        all = λ up q lt. absurd (omega (arith, lt, bare));
      });
      whole = none ∙ sym bare;
    }

-- a decider whose active variables are those of the job's clauses
pub decides_begin : (s : PortState) (job : Job) (d : DeciderData) (marks : List Bool) → IsJobOf s job → HoldsStart s → IsPort s → d.active ≡ marks → length marks ≡ job.vars
    → ((c : Cref) → Contains job.start c → AreMarked marks (lits_at s c.address)) → OccurMarked marks (map (λ (c : Cref). lits_at s c.address) job.start) → Decides s d
decides_begin s job d marks asked held port is long marked only = record {
  vars = ap length is ∙ long ∙ asked.vars;
  active = λ h l there has_it.
      (let inside = Contains_In s.start h there in
      let on : IsOn s.vars l = All_In (IsOn s.vars) h.lits l (All_In (IsKept s.vars) s.start h port.start inside).on (has_In h.lits l has_it) in
      let at : held_at s h.address ≡ Some h = All_In (λ (x : Holding). held_at s x.address ≡ Some x) s.start h held inside in
      let member : Contains job.start (record { address = h.address }) = subst (λ (cs : List Cref). Contains cs (record { address = h.address })) (sym asked.start)
      (In_Contains (map (λ (k : Holding). record { address = k.address }) s.start) (record { address = h.address }) (In_map (λ (k : Holding). record { address = k.address }) s.start h inside)) in
      let mark = marked (record { address = h.address }) member l (ap (λ (c : List Literal). has c l) (ap lits_in at) ∙ has_it) in
      record {
        low = on.low;
        high = omega (arith, on.high, ap length is, long, asked.vars);
        active = subst (λ (bs : List Bool). slice_index_or bs (l.var - 1) false ≡ true) (sym is) mark;
      });
  only = λ v a.
      subst (OccursIn (map (λ (h : Holding). h.lits) s.start)) (let e : v - 1 + 1 ≡ v = omega (arith, a.low) in e)
      (started (v - 1) (only (v - 1) (subst (λ (bs : List Bool). slice_index_or bs (v - 1) false ≡ true) is a.active)));
}
  where
    started : (i : ℕ) → OccursIn (map (λ (c : Cref). lits_at s c.address) job.start) (i + 1) → OccursIn (map (λ (h : Holding). h.lits) s.start) (i + 1)
    started i o =
        let at = map_In (λ (c : Cref). lits_at s c.address) job.start o.clause (Contains_In (map (λ (c : Cref). lits_at s c.address) job.start) o.clause o.member) in
        let from = map_In (λ (h : Holding). record { address = h.address }) s.start at.0 (subst (In at.0) asked.start at.1) in
        let there : held_at s from.0.address ≡ Some from.0 = All_In (λ (x : Holding). held_at s x.address ≡ Some x) s.start from.0 held from.1 in
        let lits : from.0.lits ≡ o.clause = sym (ap lits_in there) ∙ ap (λ (c : Cref). lits_at s c.address) from.2 ∙ at.2 in
        record {
          clause = o.clause;
          member = In_Contains (map (λ (h : Holding). h.lits) s.start) o.clause (subst (λ (c : List Literal). In c (map (λ (h : Holding). h.lits) s.start)) lits (In_map (λ (h : Holding). h.lits) s.start from.0 from.1));
          occurs = o.occurs;
        }

-- no restart was made, and none is due
pub paced_begin : (odd : Bool) → IsPaced (nothing_came odd) 0
paced_begin odd = record {
  count = refl;
  exact = λ is. subst (λ (b : Bool). IsExact (nothing_came b)) (sym is) exact-none;
}

-- the ring's number is odd if its remainder by 2 is 1
odd_of : (ring : ℕ) → ring % 2 ≡ 1 → (ring % 2 == 1) ≡ true
odd_of ring e = eq-eqb (ring % 2) 1 e

pub restarted_by : (ring : ℕ) (r : Restarting) (counts : Counts) → r.odd ≡ (ring % 2 == 1) → IsRestarting r → IsPaced r counts.learned → counts.restarts ≡ r.made → HasRestarted ring counts
restarted_by ring r counts odd kept p made = record {
  few = omega (arith, kept.few, p.count, made);
  most = λ is. subst (λ (m : ℕ). AreMost m counts.learned) (sym made) (subst (AreMost r.made) p.count (exact-most r (p.exact (odd ∙ odd_of ring is))));
}

-- a ring that learned nothing made no restart
pub restarted_none : (ring : ℕ) → HasRestarted ring (record { learned = 0; exported = 0; offered = 0; restarts = 0 })
restarted_none ring = record {
  few = omega arith;
  most = λ odd. exact-most (nothing_came true) exact-none;
}
