-- Steps of a search, one after another.
use Rattle.std.proofs.Common.{◌≡◌, ◌∙◌, ℕ, ◌+◌, ◌-◌, ◌*◌, ◌<◌, ◌≤◌, ◌⊎◌, inl, inr, Bool, true, false, List, map, length, sym, subst, ap, arith, None, IsSome, Contains, get_or}
use Rattle.std.specs.Prelude.{All, if◌then◌else◌}
use Rattle.std.specs.declared.option.Option.{Option}
use Rattle.sat_words.specs.Literal.{Literal}
use Rattle.sat_words.specs.Clause.{has}
use Rattle.sat_words.specs.declared.shared.Cref.{Cref}
use Rattle.ring_port.specs.PortState.{PortState, Holding, IsPort, lits_at}
use Rattle.ring_trail.specs.declared.step.TrailStep.{TrailStep}
use Rattle.ring_trail.specs.TrailData.{TrailData, IsTrail, HasGrown, reason_at}
use Rattle.ring_trail.specs.Closed.{TrueWithin, IsClosed}
use Rattle.ring_trail.proofs.Causes.{IsClosed-more}
use Rattle.watch_prop.specs.WatchData.{WatchData, Lits, attached, clauses_of}
use Rattle.watch_prop.specs.Watched.{Watched}
use Rattle.watch_prop.specs.Propagation.{HasReasons, IsClosedBelow, IsQuiet}
use Rattle.watch_prop.proofs.TrailLaws.{Reasons-more, Reasons-held}
use Rattle.ring_run.specs.Ended.{Stays}
use Rattle.ring_run.specs.Searching.{IsHeldBy, HasClauses, Remembers, Stands, AreTold, OnlySaw, OnlyWrote, OpeningSeen, GoesOn}
use Rattle.ring_port.specs.Log.{KeepsLog}
use Rattle.ring_run.specs.Course.{Searches, InSearch, MayImport, Leads, IsFurther}
use Rattle.ring_run.specs.declared.ring.Ring.{Ring}
use Rattle.ring_run.specs.declared.course.Next.{Next}
use Rattle.ring_run.specs.declared.course.Next.TheVariants.{Go, Finish}
use Rattle.ring_run.proofs.Remembering.{HoldsAlike, held_same, lits_same, clause_at_same, remembered_same}
use Rattle.ring_run.proofs.Standing.{within_more, reasoned_more}
use Rattle.ring_run.proofs.Progress.{starts_kept, looked_wrote}
use Rattle.ring_run.proofs.Telling.{told_saw, told_grown, told_same}

held_by_alike : (s u : PortState) (cs : List Cref) → HoldsAlike s u → All (IsHeldBy s) cs → All (IsHeldBy u) cs
held_by_alike s u cs e all = λ k d h. subst (λ (o : Option Holding). IsSome o) (sym (e (get_or cs k d).address)) (all k d h)

pub held_by_same : (s u : PortState) (cs : List Cref) → u.held ≡ s.held → All (IsHeldBy s) cs → All (IsHeldBy u) cs
held_by_same s u cs e all = held_by_alike s u cs (λ a. held_same s u a e) all

-- what stays of the clauses attached if each clause is held where it was
pub clauses_alike : (s u : PortState) (cs : List Cref) → HasClauses s cs → Stays s u → u.taken ≡ s.taken → HoldsAlike s u → u.stop ≡ s.stop → u.refused ≡ s.refused → Remembers u cs → IsPort u → HasClauses u cs
clauses_alike s u cs p stays taken held stop refused own port = record {
  held = held_by_alike s u cs held p.held;
  starts = λ h there. p.starts h (subst (λ (hs : List Holding). Contains hs h) stays.start there);
  starts_held = starts_kept s u stays.start (λ a h. held a) p.starts_held;
  own = own;
  taken = λ a there. p.taken a (subst (λ (xs : List ℕ). Contains xs a) taken there);
  refused = refused ∙ p.refused;
  stop = stop ∙ p.stop;
  port = port;
}

-- and where nothing that is held changes
pub clauses_same : (s u : PortState) (cs : List Cref) → HasClauses s cs → Stays s u → u.taken ≡ s.taken → u.held ≡ s.held → u.stop ≡ s.stop → u.refused ≡ s.refused → Remembers u cs → IsPort u → HasClauses u cs
clauses_same s u cs p stays taken held stop refused own port = clauses_alike s u cs p stays taken (λ a. held_same s u a held) stop refused own port

-- lines of units leave a search as it is
pub wrote_search : (s u : PortState) (t : TrailData) (w : WatchData) (n m : ℕ) → Searches s t w n → OnlyWrote s u → IsPort u → Stands u t → AreTold u t m → Searches u t w m
wrote_search s u t w n m p wrote port stands told = record {
  clauses = clauses_same s u (attached w) p.clauses wrote.stays wrote.taken wrote.held wrote.stop wrote.refused (wrote.own (attached w) p.clauses.own) port;
  opening = λ l h. wrote.more l (p.opening l (ap (λ (ls : List Literal). has ls l) (sym wrote.stays.opening) ∙ h));
  stands = stands;
  trail = p.trail;
  watched = subst (λ (f : Lits). Watched w f t) (sym (lits_same s u wrote.held)) p.watched;
  closed = subst (λ (f : Lits). IsClosedBelow w f t) (sym (lits_same s u wrote.held)) p.closed;
  reasons = Reasons-more (attached w) (attached w) s u t.steps (λ c there. (there, clause_at_same s u wrote.held c.address)) wrote.more p.reasons;
  told = told;
}

-- nor does a look that found no stop
pub looked_search : (s u : PortState) (t : TrailData) (w : WatchData) (n k : ℕ) → Searches s t w n → u ≡ record s { looks = k } → KeepsLog s u → IsPort u → Searches u t w n
looked_search s u t w n k p is log port =
    let wrote = looked_wrote s u k is log in
    wrote_search s u t w n n p wrote port (record {
      vars = p.stands.vars ∙ sym wrote.stays.vars;
      reasoned = reasoned_more s u t.steps wrote.held wrote.more p.stands.reasoned;
      seen = λ l h. p.stands.seen l (ap (λ (x : PortState). has x.seen l) (sym is) ∙ h);
    }) (told_same s u t n (ap (λ (x : PortState). x.seen) is) p.told)

-- and what propagation came to
pub quiet_same : (s u : PortState) (t v : TrailData) (w x : WatchData) → u.held ≡ s.held → v ≡ t → x ≡ w → IsQuiet w (lits_at s) t → IsQuiet x (lits_at u) v
quiet_same s u t v w x held trail watches q =
    subst (λ (y : TrailData). IsQuiet x (lits_at u) y) (sym trail) (subst (λ (y : WatchData). IsQuiet y (lits_at u) t) (sym watches) (subst (λ (f : Lits). IsQuiet w f t) (sym (lits_same s u held)) q))

-- units that have come are those that a search starts with, or goes on with at level 0
pub saw_search : (s u : PortState) (t v : TrailData) (w : WatchData) (n : ℕ) → MayImport s t w n → OnlySaw s u → IsPort u → IsTrail v → HasGrown t v → Stands u v → OpeningSeen u → HasReasons (attached w) u v.steps
    → ((q : ℕ) → length t.steps ≤ q → q < length v.steps → reason_at v.steps q ≡ None) → Watched w (lits_at s) v → Searches u v w n
saw_search s u t v w n p saw port shape grown stands opening reasons bare watched =
    let cs = attached w in
    let level : v.level ≡ 0 = grown.level ∙ p.level in
    record {
      clauses = clauses_same s u cs p.clauses saw.stays saw.taken saw.held saw.stop saw.refused
          (remembered_same s u cs saw.stays.ring saw.mine (λ c there. ap (λ (f : Lits). f c.address) (lits_same s u saw.held)) saw.more p.clauses.own) port;
      opening = opening;
      stands = stands;
      trail = shape;
      watched = subst (λ (f : Lits). Watched w f v) (sym (lits_same s u saw.held)) watched;
      closed = λ k below. absurd (omega (arith, level, below));
      reasons = reasons;
      told = told_saw s u t v n p.told p.whole shape level grown saw.more bare;
    }

-- a trail that has grown by propagation
pub grown_search : (s u : PortState) (t v : TrailData) (w x : WatchData) (n : ℕ) → Searches s t w n → u ≡ s → IsTrail v → attached x ≡ attached w → HasGrown t v → HasReasons (attached w) s v.steps → Watched x (lits_at s) v
    → Searches u v x n
grown_search s u t v w x n p is shape same grown reasons watched = subst (λ (y : PortState). Searches y v x n) (sym is) (record {
  clauses = subst (HasClauses s) (sym same) p.clauses;
  opening = p.opening;
  stands = record {
    vars = grown.vars ∙ p.stands.vars;
    reasoned = Reasons-held (attached w) s v.steps reasons;
    seen = λ l h. subst (λ (steps : List TrailStep). TrueWithin steps 0 l) (sym grown.steps) (within_more t.steps grown.more 0 l (p.stands.seen l h));
  };
  trail = shape;
  watched = watched;
  closed = λ k below. subst (λ (cs : List Cref). IsClosed (map (λ (c : Cref). lits_at s c.address) cs) v.steps k) (sym same)
      (subst (λ (steps : List TrailStep). IsClosed (clauses_of w (lits_at s)) steps k) (sym grown.steps)
      (IsClosed-more (clauses_of w (lits_at s)) t.steps grown.more k (λ q d h. (let e = grown.at_level q d h in omega (arith, grown.level, below)))
      (p.closed k (omega (arith, grown.level, below)))));
  reasons = subst (λ (cs : List Cref). HasReasons cs s v.steps) (sym same) reasons;
  told = told_grown s t v n p.told p.stands shape grown;
})

-- one step after another
pub compose : (course : Next) (s middle u : PortState) (old between new : Ring) → ((start : PortState) → GoesOn start s old.learned → GoesOn start middle between.learned)
    → Leads middle between u new course → Leads s old u new course
compose Go s middle u old between new to p = record { search = p.search; goes = λ start q. p.goes start (to start q) }
compose (Finish end) s middle u old between new to p = λ start q. p start (to start q)

-- what an import that is yet to be counts for
abbrev pub due_of : (vars : ℕ) → Bool → ℕ
due_of vars import_due = if import_due then vars + 1 else 0

abbrev pub left_to_do : (limit found vars : ℕ) → Bool → ℕ → ℕ
left_to_do limit found vars import_due steps = (limit - found) * (2 * (vars + 1)) + due_of vars import_due + (vars - steps)

due_bound : (vars : ℕ) (b : Bool) → due_of vars b ≤ vars + 1
due_bound vars true = omega arith
due_bound vars false = omega arith

-- a draw, a longer trail, or an import leaves less to do
less_drawn : (limit n m vars k j : ℕ) (a b : Bool) → m ≤ limit → n < m → left_to_do limit m vars b j < left_to_do limit n vars a k
less_drawn limit n m vars k j a b few more =
    let left : limit - n ≡ (limit - m) + 1 + (m - n - 1) = omega arith in
    let spread : ((limit - m) + 1 + (m - n - 1)) * (2 * (vars + 1)) ≡ (limit - m) * (2 * (vars + 1)) + 2 * (vars + 1) + (m - n - 1) * (2 * (vars + 1)) = omega arith in
    let whole : (limit - n) * (2 * (vars + 1)) ≡ (limit - m) * (2 * (vars + 1)) + 2 * (vars + 1) + (m - n - 1) * (2 * (vars + 1)) = ap (λ (x : ℕ). x * (2 * (vars + 1))) left ∙ spread in
    let due = due_bound vars b in
    omega arith

less_kept : (limit n m vars k j : ℕ) (a b : Bool) → m ≡ n → due_of vars b + (vars - j) < due_of vars a + (vars - k) → left_to_do limit m vars b j < left_to_do limit n vars a k
less_kept limit n m vars k j a b is less =
    let same : (limit - m) * (2 * (vars + 1)) ≡ (limit - n) * (2 * (vars + 1)) = ap (λ (x : ℕ). (limit - x) * (2 * (vars + 1))) is in
    omega arith

less_left : (limit n m vars k j : ℕ) (a b : Bool) → m ≤ limit → k ≤ vars → (n < m) ⊎ (((m ≡ n) × (k ≤ j)) × (((b ≡ a) × (k < j)) ⊎ ((a ≡ true) × (b ≡ false)))) → j ≤ vars
    → left_to_do limit m vars b j < left_to_do limit n vars a k
less_left limit n m vars k j a b few short (inl more) high = less_drawn limit n m vars k j a b few more
less_left limit n m vars k j a b few short (inr ((is, some), inl (same, longer))) high =
    less_kept limit n m vars k j a b is (let e = ap (due_of vars) same in omega (arith, e))
less_left limit n m vars k j a b few short (inr ((is, some), inr (was, now))) high =
    less_kept limit n m vars k j a b is (let before = ap (due_of vars) was in let after = ap (due_of vars) now in omega (arith, before, after))

further_parts : (s : PortState) (old : Ring) (u : PortState) (new : Ring) → IsFurther s old u new
    → (s.found < u.found) ⊎ (((u.found ≡ s.found) × (length old.trail.steps ≤ length new.trail.steps)) × (((new.import_due ≡ old.import_due) × (length old.trail.steps < length new.trail.steps)) ⊎ ((old.import_due ≡ true) × (new.import_due ≡ false))))
further_parts s old u new (inl more) = inl more
further_parts s old u new (inr (kept, more)) = inr ((kept.found, kept.steps), more)

pub less_to_do : (s u : PortState) (old new : Ring) (limit : ℕ) → InSearch s old → InSearch u new → u.vars ≡ s.vars → u.found ≤ limit → IsFurther s old u new
    → left_to_do limit u.found new.trail.vars new.import_due (length new.trail.steps) < left_to_do limit s.found old.trail.vars old.import_due (length old.trail.steps)
less_to_do s u old new limit p q vars few further =
    let same : new.trail.vars ≡ old.trail.vars = q.stands.vars ∙ vars ∙ sym p.stands.vars in
    let high : length new.trail.steps ≤ old.trail.vars = omega (arith, q.trail.short, same) in
    subst (λ (v : ℕ). left_to_do limit u.found v new.import_due (length new.trail.steps) < left_to_do limit s.found old.trail.vars old.import_due (length old.trail.steps)) (sym same)
    (less_left limit s.found u.found old.trail.vars (length old.trail.steps) (length new.trail.steps) old.import_due new.import_due few p.trail.short (further_parts s old u new further) high)

-- a step after propagation
pub further_grown : (s m u : PortState) (old between new : Ring) → m ≡ s → between.import_due ≡ old.import_due → length old.trail.steps ≤ length between.trail.steps → IsFurther m between u new → IsFurther s old u new
further_grown s m u old between new same import_due steps further = by (subst (λ (x : PortState). IsFurther x between u new) same further)
  where
    by : IsFurther s between u new → IsFurther s old u new
    by (inl more) = inl more
    by (inr (kept, inl (alike, longer))) = inr (record { found = kept.found; steps = omega (arith, kept.steps, steps) }, inl (alike ∙ import_due, omega (arith, longer, steps)))
    by (inr (kept, inr (was, now))) = inr (record { found = kept.found; steps = omega (arith, kept.steps, steps) }, inr (sym import_due ∙ was, now))
