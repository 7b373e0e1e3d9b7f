-- A literal that is decided at level 0, what propagation makes of it, and the way back.
use Rattle.std.proofs.Common.{◌≡◌, ◌∙◌, ℕ, ◌<◌, ◌≤◌, ◌+◌, Bool, true, false, cond, nat_le, List, [], ◌∷◌, ◌++◌, length, map, None, sym, refl, ap, subst, inl, inr, arith, append-nil}
use Rattle.std.proofs.lemmas.Bool.{cases_lt, or_right}
use Rattle.std.proofs.lemmas.Bool.Decides.{nat_tests}
use Rattle.std.proofs.lemmas.List.Elements.{filter-append}
use Rattle.sat_words.specs.Literal.{Literal, opposite}
use Rattle.sat_words.specs.declared.shared.Cref.{Cref}
use Rattle.rup_model.specs.Rup.{conflicts, rup}
use Rattle.rup_model.proofs.Lists.{In}
use Rattle.ring_port.specs.PortState.{PortState, clause_at, lits_at, known}
use Rattle.ring_port.proofs.Holdings.{All_In}
use Rattle.ring_trail.specs.declared.step.TrailStep.{TrailStep}
use Rattle.ring_trail.specs.TrailData.{TrailData, IsTrail, HasGrown, level_at, up_to, decided, cut_back}
use Rattle.ring_trail.proofs.Causes.{back-only, IsClosed-grown}
use Rattle.ring_trail.proofs.Levels.{up_to-all}
use Rattle.watch_prop.specs.WatchData.{WatchData, attached, clauses_of}
use Rattle.watch_prop.specs.Watched.{Watched}
use Rattle.watch_prop.specs.Propagation.{attached_at, HasReasons, IsClosedBelow, IsConflict, IsQuiet}
use Rattle.watch_prop.specs.Rounds.{decisions_of, fixed_of, with_units}
use Rattle.watch_prop.proofs.TrailLaws.{Watched-back, Reasons-held}
use Rattle.watch_prop.proofs.TrailRounds.{derived_conflict}
use Rattle.watch_prop.proofs.Decisions.{derived_known, decisions_none, decisions_decided, decisions_grown, fixed_decided, fixed_grown}
use Rattle.watch_prop.proofs.Agreeing.{fixed_quiet, fixed_conflict}
use Rattle.ring_trail.specs.Reasoned.{IsReasoned}
use Rattle.analyze.specs.HintOrder.{AreInTrailOrder, AreTraced}
use Rattle.ring_probe.specs.Outcome.{fails}
use Rattle.ring_probe.proofs.Kept.{conflict_known}
use Rattle.ring_probe.proofs.Traced.{against}

pub rup_of : (G : List (List Literal)) (c : List Literal) → conflicts G (map opposite c) ≡ true → rup G c ≡ true
unfolding rup
rup_of G c e = or_right _ _ e

opposite_twice : (l : Literal) → opposite (opposite l) ≡ l
opposite_twice l = by l.neg refl
  where
    by : (b : Bool) → l.neg ≡ b → opposite (opposite l) ≡ l
    by true e = rw e (cc)
    by false e = rw e (cc)

-- steps above level 0

above_zero : (x : TrailStep) → 0 < x.level → nat_le x.level 0 ≡ false
above_zero x pos = grind (arith, nat_tests)

none_low : (more : List TrailStep) → ((x : TrailStep) → In x more → 0 < x.level) → up_to 0 more ≡ []
none_low [] f = refl
none_low (x ∷ more) f =
    ap (λ (b : Bool). cond b (x ∷ up_to 0 more) (up_to 0 more)) (above_zero x (f x (inl refl)))
    ∙ none_low more (λ y h. f y (inr h))

low_before : (steps more : List TrailStep) → ((x : TrailStep) → In x more → 0 < x.level) → up_to 0 (steps ++ more) ≡ up_to 0 steps
low_before steps more f =
    filter-append (λ (s : TrailStep). nat_le s.level 0) steps more
    ∙ ap (λ (xs : List TrailStep). up_to 0 steps ++ xs) (none_low more f)
    ∙ append-nil (up_to 0 steps)

same_trail : (a b : TrailData) → a.vars ≡ b.vars → a.level ≡ b.level → a.steps ≡ b.steps → a.done ≡ b.done → a ≡ b
same_trail a b p q r f = λ i. record { vars = p i; level = q i; steps = r i; done = f i }

-- a decision leaves the clauses closed below its level
pub closed_below : (s : PortState) (w : WatchData) (t : TrailData) (l : Literal) → IsQuiet w (lits_at s) t → IsClosedBelow w (lits_at s) (decided t l)
closed_below s w t l quiet k below =
    let x : TrailStep = record { lit = l; level = t.level + 1; reason = None } in
    IsClosed-grown (clauses_of w (lits_at s)) t.steps x k (omega (arith, below)) (quiet.closed k)

-- at level 0, with nothing left to propagate, a literal was decided and propagated
pub record IsTried (s : PortState) (v w : WatchData) (t u : TrailData) (l : Literal) : Type 0 where
  pub start : IsTrail t
  pub level : t.level ≡ 0
  pub rest : IsQuiet v (lits_at s) t
  pub opened : IsTrail (decided t l)
  pub shape : IsTrail u
  pub same : attached w ≡ attached v
  pub grown : HasGrown (decided t l) u
  pub reasons : HasReasons (attached v) s u.steps
  pub watched : Watched w (lits_at s) u

module _ (s : PortState) (v w : WatchData) (t u : TrailData) (l : Literal) (tried : IsTried s v w t u l) where
  above : 0 < (decided t l).level
  above = omega arith

  low : up_to 0 u.steps ≡ t.steps
  low =
      ap (up_to 0) tried.grown.steps
      ∙ low_before (decided t l).steps tried.grown.more (λ x h. let here : x.level ≡ t.level + 1 = All_In (λ (y : TrailStep). y.level ≡ t.level + 1) tried.grown.more x tried.grown.at_level h in omega arith)
      ∙ low_before t.steps (record { lit = l; level = t.level + 1; reason = None } ∷ []) new
      ∙ up_to-all 0 t.steps (λ p lt. let b = tried.start.within p lt in omega arith)
    where
      new : (x : TrailStep) → In x (record { lit = l; level = t.level + 1; reason = None } ∷ []) → 0 < x.level
      new x (inl q) = let e : t.level + 1 ≡ x.level = ap (λ (y : TrailStep). y.level) q in omega arith
      new x (inr none) = absurd none

  -- each step that wasn't propagated is above level 0
  done_low : length (up_to 0 u.steps) ≤ u.done
  done_low =
      elim (cases_lt u.done (length (up_to 0 u.steps))) as (λ _. length (up_to 0 u.steps) ≤ u.done) [
        | inl lt ↦ absurd (
            let b = back-only u 0 u.done tried.shape lt in
            let e = tried.watched.fresh u.done (omega arith) b.0 in
            let at : level_at u.steps u.done ≤ 0 = b.1 in
            let g = tried.grown.level in omega arith)
        | inr ge ↦ ge
      ]

  pub back : cut_back u 0 ≡ t
  back =
      let n : length (up_to 0 u.steps) ≡ length t.steps = ap (λ (xs : List TrailStep). length xs) low in
      let d = tried.rest.done in
      let f = done_low in
      same_trail (cut_back u 0) t tried.grown.vars (sym tried.level) low (omega (arith, n, d, f))

  pub watched_back : Watched w (lits_at s) t
  watched_back = subst (λ (x : TrailData). Watched w (lits_at s) x) back (Watched-back w (lits_at s) u 0 tried.shape (omega arith) tried.watched)

  pub reasons_after : HasReasons (attached w) s u.steps
  reasons_after = subst (λ (cs : List Cref). HasReasons cs s u.steps) (sym tried.same) tried.reasons

  pub decisions_after : decisions_of u.steps ≡ l ∷ []
  decisions_after =
      decisions_grown (attached_at (attached v) s) s.seen (decided t l) u tried.opened tried.grown tried.reasons
      ∙ decisions_decided t l
      ∙ ap (λ (ls : List Literal). ls ++ l ∷ []) (decisions_none t tried.start tried.level)

  ground_after : with_units (clauses_of w (lits_at s)) (fixed_of u.steps) ≡ with_units (clauses_of v (lits_at s)) (fixed_of t.steps)
  ground_after =
      ap (λ (cs : List Cref). with_units (map (λ (c : Cref). lits_at s c.address) cs) (fixed_of u.steps)) tried.same
      ∙ ap (λ (ls : List Literal). with_units (clauses_of v (lits_at s)) ls) (fixed_grown (decided t l) u above tried.grown ∙ fixed_decided t l)

  by_rounds : (b : Bool) → conflicts (with_units (clauses_of w (lits_at s)) (fixed_of u.steps)) (decisions_of u.steps) ≡ b → fails s (attached v) t.steps l ≡ b
  by_rounds b e =
      ap (λ (G : List (List Literal)). conflicts G (l ∷ [])) (sym ground_after)
      ∙ ap (λ (A : List Literal). conflicts (with_units (clauses_of w (lits_at s)) (fixed_of u.steps)) A) (sym decisions_after)
      ∙ e

  pub holds_then : IsQuiet w (lits_at s) u → fails s (attached v) t.steps l ≡ false
  holds_then quiet = by_rounds false (fixed_quiet w s u tried.shape quiet)

  pub fails_then : (c : Cref) → IsConflict w (lits_at s) u c → fails s (attached v) t.steps l ≡ true
  fails_then c bad = by_rounds true (fixed_conflict w s u c reasons_after bad)

  -- so its negation follows
  pub follows_then : (c : Cref) → IsConflict w (lits_at s) u c → rup (known s) (opposite l ∷ []) ≡ true
  follows_then c bad =
      rup_of (known s) (opposite l ∷ [])
      (subst (λ (A : List Literal). conflicts (known s) A ≡ true) (decisions_after ∙ ap (λ (k : Literal). k ∷ []) (sym (opposite_twice l)))
      (derived_conflict (known s) (decisions_of u.steps) u.steps (lits_at s c.address) (derived_known s u.steps (Reasons-held (attached w) s u.steps reasons_after)) (conflict_known s w u c tried.watched bad) bad.false_all))

  -- and hints in the order of this trail are those of its negation
  pub traced_then : (last : List Literal) (hints : List ℕ) → AreInTrailOrder s u.steps last hints → AreTraced s t.steps (opposite l ∷ []) hints
  traced_then last hints order = record {
    trail = u;
    shape = tried.shape;
    low = low ∙ sym (up_to-all 0 t.steps (λ p lt. let b = tried.start.within p lt in let z = tried.level in omega (arith, b, z)));
    reasoned = reasoned;
    decided = against (clause_at s) s.seen u l tried.shape reasoned decisions_after;
    last = last;
    order = order;
  }
    where
      reasoned : IsReasoned (clause_at s) s.seen u.steps
      reasoned = Reasons-held (attached w) s u.steps reasons_after
