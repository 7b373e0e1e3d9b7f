-- What is seen, and what is true for good.
use Rattle.std.proofs.Common.{◌≡◌, ◌∙◌, ℕ, ◌-◌, ◌<◌, ◌≤◌, ◌||◌, Bool, true, false, not, List, [], ◌∷◌, ◌++◌, length, sym, subst, ap, arith, inl, inr, ◌⊎◌, None, refl, append-nil, append_assoc, length-append}
use Rattle.std.specs.Option.{option_map}
use Rattle.std.specs.declared.option.Option.{Option}
use Rattle.std.proofs.lemmas.Bool.{or_left, or_right, or_cases, false≢true}
use Rattle.std.proofs.lemmas.List.{get_or_append_left}
use Rattle.std.proofs.lemmas.List.Elements.{All-append, All-cons, All-nil}
use Rattle.std.proofs.lemmas.List.Folds.{list_any-append}
use Rattle.std.proofs.Math.Seq.{get_or-append_seam}
use Rattle.sat_words.specs.Literal.{Literal, same}
use Rattle.sat_words.specs.Clause.{has}
use Rattle.sat_words.specs.declared.shared.Cref.{Cref}
use Rattle.sat_words.proofs.Members.{same-true, same-refl, same_equiv}
use Rattle.rup_model.specs.Rup.{rup}
use Rattle.ring_port.specs.PortState.{PortState, IsPort, known, one_more}
use Rattle.ring_port.specs.Port.{TookUnit, TookNone, WroteUnit, Sees}
use Rattle.rup_model.specs.declared.journal.Kind.{Kind}
use Rattle.rup_model.specs.declared.journal.Kind.TheVariants.{UnitLine}
use Rattle.ring_port.specs.Log.{KeepsLog}
use Rattle.ring_port.specs.PortState.{IsOn}
use Rattle.ring_port.proofs.Holdings.{seen_is_known, All_In}
use Rattle.rup_model.proofs.Lists.{has_In}
use Rattle.ring_trail.specs.declared.step.TrailStep.{TrailStep}
use Rattle.ring_trail.specs.TrailData.{TrailData, IsTrail, IsTrueOn, IsFalseOn, FalseBefore, HasNoPlace, HasGrown, no_step, step_at, lit_at, value_of, assigned}
use Rattle.ring_trail.specs.Reasoned.{IsReasoned}
use Rattle.ring_trail.specs.Closed.{TrueWithin}
use Rattle.ring_trail.proofs.Values.{step_of-no_place}
use Rattle.ring_trail.proofs.Causes.{IsReasoned-seen, IsReasoned-held}
use Rattle.watch_prop.specs.Propagation.{attached_at, HasReasons}
use Rattle.watch_prop.proofs.TrailLaws.{Reasons-more}
use Rattle.ring_port.specs.PortState.{clause_at}
use Rattle.ring_run.specs.Searching.{IsOpposed, OnlySaw, OpeningSeen, Stands}
use Rattle.ring_run.proofs.LevelZero.{false_at_zero}
use Rattle.ring_run.proofs.Remembering.{HoldsAlike, held_same, clause_alike, clause_at_same}
use Rattle.ring_run.proofs.Told.{or_none, or_assoc}

-- a literal that is true stays so as the trail grows
pub within_more : (steps more : List TrailStep) (k : ℕ) (l : Literal) → TrueWithin steps k l → TrueWithin (steps ++ more) k l
within_more steps more k l w =
    let is : step_at (steps ++ more) w.place ≡ step_at steps w.place = get_or_append_left steps more no_step w.place w.in_range in
    record {
      place = w.place;
      in_range = omega (arith, length-append steps more, w.in_range);
      true_there = ap (λ (s : TrailStep). s.lit) is ∙ w.true_there;
      level = omega (arith, ap (λ (s : TrailStep). s.level) is, w.level);
    }

-- the last literal is true at its level
pub within_last : (steps : List TrailStep) (x : TrailStep) (k : ℕ) → x.level ≤ k → TrueWithin (steps ++ x ∷ []) k x.lit
within_last steps x k h =
    let is : step_at (steps ++ x ∷ []) (length steps) ≡ x = get_or-append_seam steps x [] no_step in
    record {
      place = length steps;
      in_range = omega (arith, length-append steps (x ∷ []));
      true_there = ap (λ (s : TrailStep). s.lit) is;
      level = omega (arith, ap (λ (s : TrailStep). s.level) is, h);
    }

-- at level 0, what is true is so without a decision
pub within_zero : (t : TrailData) (l : Literal) → IsTrail t → t.level ≡ 0 → IsTrueOn t.steps l → TrueWithin t.steps 0 l
within_zero t l shape zero_level w = record {
  place = w.place;
  in_range = w.before;
  true_there = w.true_there;
  level = omega (arith, shape.within w.place w.before);
}

pub no_value : (steps : List TrailStep) (v : ℕ) → HasNoPlace steps v → value_of steps v ≡ None
no_value steps v free = ap (option_map (λ (s : TrailStep). not s.lit.neg)) (step_of-no_place steps v free)

-- one literal more at the present level
pub grown_by : (t u : TrailData) (l : Literal) (r : Option Cref) → HasGrown t u → HasGrown t (assigned u l r)
grown_by t u l r p =
    let x : TrailStep = record { lit = l; level = u.level; reason = r } in
    record {
      vars = p.vars;
      level = p.level;
      more = p.more ++ x ∷ [];
      steps = ap (λ (ss : List TrailStep). ss ++ x ∷ []) p.steps ∙ append_assoc t.steps p.more (x ∷ []);
      at_level = All-append (λ (s : TrailStep). s.level ≡ t.level) p.more (x ∷ []) p.at_level (All-cons (λ (s : TrailStep). s.level ≡ t.level) x [] p.level (All-nil (λ (s : TrailStep). s.level ≡ t.level)));
    }

-- the reasons stay if each clause is held where it was and more is seen
pub reasoned_alike : (s u : PortState) (steps : List TrailStep) → HoldsAlike s u → ((l : Literal) → has s.seen l ≡ true → has u.seen l ≡ true)
    → IsReasoned (clause_at s) s.seen steps → IsReasoned (clause_at u) u.seen steps
reasoned_alike s u steps e more r =
    IsReasoned-held (clause_at s) (clause_at u) s.seen u.seen steps r
    (λ p c d h is held. inl (clause_alike s u e c.address ∙ held)) more

pub reasoned_more : (s u : PortState) (steps : List TrailStep) → u.held ≡ s.held → ((l : Literal) → has s.seen l ≡ true → has u.seen l ≡ true)
    → IsReasoned (clause_at s) s.seen steps → IsReasoned (clause_at u) u.seen steps
reasoned_more s u steps e more r = reasoned_alike s u steps (λ a. held_same s u a e) more r

pub sees_old : (old new : List Literal) (l k : Literal) → Sees old new l → has old k ≡ true → has new k ≡ true
sees_old old new l k sees h = sees k ∙ or_left (has old k) (same l k) h

pub sees_new : (old new : List Literal) (l : Literal) → Sees old new l → has new l ≡ true
sees_new old new l sees = sees l ∙ or_right (has old l) (same l l) (same-refl l)

-- nothing but what is seen, given and yet to come has changed, and how many looks found no more
abbrev OnlySeen : PortState → PortState → Type 0
OnlySeen s u = u ≡ record s { seen = u.seen; told = u.told; given = u.given; coming = u.coming; kept = u.kept; caught_up = u.caught_up }

unit_alone : (u w : PortState) (l : Literal) → TookUnit u w l → OnlySeen u w
unit_alone u w l took = subst (OnlySeen u) (sym took.state) (of w.seen w.told w.coming)
  where
    of : (seen : List Literal) (told : List (Literal × ℕ)) (coming : ℕ) → OnlySeen u (record u { seen = seen; told = told; given = u.given ++ l ∷ []; coming = coming; kept = u.kept - 1 })
    of seen told coming = refl

look_alone : (u w : PortState) → TookNone u w → OnlySeen u w
look_alone u w took = subst (OnlySeen u) (sym took.state) of
  where
    of : OnlySeen u (record u { caught_up = one_more u.caught_up })
    of = refl

alone_then : (s u w : PortState) → OnlySeen s u → OnlySeen u w → OnlySeen s w
alone_then s u w p q = q ∙ ap (λ (x : PortState). record x { seen = w.seen; told = w.told; given = w.given; coming = w.coming; kept = w.kept; caught_up = w.caught_up }) p

-- one more came
came_more : (came : List Literal) (l k : Literal) → has (came ++ l ∷ []) k ≡ (has came k || same l k)
came_more came l k = list_any-append (same k) came (l ∷ []) ∙ ap (λ (b : Bool). has came k || b) (or_none (same k l) ∙ same_equiv.symm k l)

pub saw_begin : (s : PortState) → OnlySaw s s
saw_begin s = record {
  stays = record { start = refl; opening = refl; vars = refl; ring = refl; rings = refl; depth = refl; polled = omega arith; limit = refl; home = refl; hinted = refl; log = λ o h. h };
  shared = refl;
  polled = refl;
  polls = refl;
  polls_after = refl;
  caught_up = omega arith;
  waiting = refl;
  taken = refl;
  held = refl;
  mine = refl;
  stop = refl;
  refused = refl;
  looks = refl;
  more = λ k h. h;
  came = [];
  given = sym (append-nil s.given);
  sees = λ k. sym (or_none (has s.seen k));
  state = refl;
}

pub saw_more : (s u w : PortState) (l : Literal) → OnlySaw s u → TookUnit u w l → KeepsLog u w → OnlySaw s w
saw_more s u w l p took log =
    record {
      stays = record {
        start = ap (λ (x : PortState). x.start) took.state ∙ p.stays.start;
        opening = ap (λ (x : PortState). x.opening) took.state ∙ p.stays.opening;
        vars = ap (λ (x : PortState). x.vars) took.state ∙ p.stays.vars;
        ring = ap (λ (x : PortState). x.ring) took.state ∙ p.stays.ring;
        rings = ap (λ (x : PortState). x.rings) took.state ∙ p.stays.rings;
        depth = ap (λ (x : PortState). x.depth) took.state ∙ p.stays.depth;
        polled = omega (arith, ap (λ (x : PortState). x.polled) took.state, p.stays.polled);
        limit = ap (λ (x : PortState). x.limit) took.state ∙ p.stays.limit;
        home = ap (λ (x : PortState). x.home) took.state ∙ p.stays.home;
        hinted = ap (λ (x : PortState). x.hinted) took.state ∙ p.stays.hinted;
        log = λ o h. log o (p.stays.log o h);
      };
      shared = ap (λ (x : PortState). x.shared) took.state ∙ p.shared;
      polled = ap (λ (x : PortState). x.polled) took.state ∙ p.polled;
      polls = ap (λ (x : PortState). x.polls) took.state ∙ p.polls;
      polls_after = ap (λ (x : PortState). x.polls_after) took.state ∙ p.polls_after;
      caught_up = (let same = ap (λ (x : PortState). x.caught_up) took.state in omega (arith, same, p.caught_up));
      waiting = ap (λ (x : PortState). x.waiting) took.state ∙ p.waiting;
      taken = ap (λ (x : PortState). x.taken) took.state ∙ p.taken;
      held = ap (λ (x : PortState). x.held) took.state ∙ p.held;
      mine = ap (λ (x : PortState). x.mine) took.state ∙ p.mine;
      stop = ap (λ (x : PortState). x.stop) took.state ∙ p.stop;
      refused = ap (λ (x : PortState). x.refused) took.state ∙ p.refused;
      looks = ap (λ (x : PortState). x.looks) took.state ∙ p.looks;
      more = λ k h. sees_old u.seen w.seen l k took.sees (p.more k h);
      came = p.came ++ l ∷ [];
      given = ap (λ (x : PortState). x.given) took.state ∙ ap (λ (ls : List Literal). ls ++ l ∷ []) p.given ∙ append_assoc s.given p.came (l ∷ []);
      sees = λ k. took.sees k ∙ ap (λ (b : Bool). b || same l k) (p.sees k) ∙ or_assoc (has s.seen k) (has p.came k) (same l k) ∙ ap (λ (b : Bool). has s.seen k || b) (sym (came_more p.came l k));
      state = alone_then s u w p.state (unit_alone u w l took);
    }

-- a look that found no other unit
pub saw_none : (s u w : PortState) → OnlySaw s u → TookNone u w → KeepsLog u w → OnlySaw s w
saw_none s u w p took log = record {
  stays = record {
    start = ap (λ (x : PortState). x.start) took.state ∙ p.stays.start;
    opening = ap (λ (x : PortState). x.opening) took.state ∙ p.stays.opening;
    vars = ap (λ (x : PortState). x.vars) took.state ∙ p.stays.vars;
    ring = ap (λ (x : PortState). x.ring) took.state ∙ p.stays.ring;
    rings = ap (λ (x : PortState). x.rings) took.state ∙ p.stays.rings;
    depth = ap (λ (x : PortState). x.depth) took.state ∙ p.stays.depth;
    polled = omega (arith, ap (λ (x : PortState). x.polled) took.state, p.stays.polled);
    limit = ap (λ (x : PortState). x.limit) took.state ∙ p.stays.limit;
    home = ap (λ (x : PortState). x.home) took.state ∙ p.stays.home;
    hinted = ap (λ (x : PortState). x.hinted) took.state ∙ p.stays.hinted;
    log = λ o h. log o (p.stays.log o h);
  };
  shared = ap (λ (x : PortState). x.shared) took.state ∙ p.shared;
  polled = ap (λ (x : PortState). x.polled) took.state ∙ p.polled;
  polls = ap (λ (x : PortState). x.polls) took.state ∙ p.polls;
  polls_after = ap (λ (x : PortState). x.polls_after) took.state ∙ p.polls_after;
  caught_up = (let same = ap (λ (x : PortState). x.caught_up) took.state in omega (arith, same, p.caught_up));
  waiting = ap (λ (x : PortState). x.waiting) took.state ∙ p.waiting;
  taken = ap (λ (x : PortState). x.taken) took.state ∙ p.taken;
  held = ap (λ (x : PortState). x.held) took.state ∙ p.held;
  mine = ap (λ (x : PortState). x.mine) took.state ∙ p.mine;
  stop = ap (λ (x : PortState). x.stop) took.state ∙ p.stop;
  refused = ap (λ (x : PortState). x.refused) took.state ∙ p.refused;
  looks = ap (λ (x : PortState). x.looks) took.state ∙ p.looks;
  more = λ k h. ap (λ (ls : List Literal). has ls k) (ap (λ (x : PortState). x.seen) took.state) ∙ p.more k h;
  came = p.came;
  given = ap (λ (x : PortState). x.given) took.state ∙ p.given;
  sees = λ k. ap (λ (ls : List Literal). has ls k) (ap (λ (x : PortState). x.seen) took.state) ∙ p.sees k;
  state = alone_then s u w p.state (look_alone u w took);
}

pub stands_none : (u w : PortState) (t : TrailData) → Stands u t → TookNone u w → Stands w t
stands_none u w t p took = record {
  vars = p.vars ∙ sym (ap (λ (x : PortState). x.vars) took.state);
  reasoned = reasoned_more u w t.steps (ap (λ (x : PortState). x.held) took.state) (λ l h. ap (λ (ls : List Literal). has ls l) (ap (λ (x : PortState). x.seen) took.state) ∙ h) p.reasoned;
  seen = λ l h. p.seen l (ap (λ (ls : List Literal). has ls l) (sym (ap (λ (x : PortState). x.seen) took.state)) ∙ h);
}

pub opening_none : (u w : PortState) → TookNone u w → OpeningSeen w
opening_none u w took l h =
    ap (λ (ls : List Literal). has ls l) (ap (λ (x : PortState). x.seen) took.state) ∙ took.all l (ap (λ (ls : List Literal). has ls l) (sym (ap (λ (x : PortState). x.opening) took.state)) ∙ h)

pub reasons_none : (cs : List Cref) (u w : PortState) (steps : List TrailStep) → TookNone u w → HasReasons cs u steps → HasReasons cs w steps
reasons_none cs u w steps took r =
    Reasons-more cs cs u w steps (λ c there. (there, clause_at_same u w (ap (λ (x : PortState). x.held) took.state) c.address)) (λ l h. ap (λ (ls : List Literal). has ls l) (ap (λ (x : PortState). x.seen) took.state) ∙ h) r

-- what is seen is the literal, or was seen before
pub seen_case : (u w : PortState) (l k : Literal) → TookUnit u w l → has w.seen k ≡ true → (has u.seen k ≡ true) ⊎ (l ≡ k)
seen_case u w l k took h =
    elim (or_cases (has u.seen k) (same l k) (sym (took.sees k) ∙ h)) as (λ _. (has u.seen k ≡ true) ⊎ (l ≡ k)) [
      | inl old ↦ inl old
      | inr e ↦ inr (same-true l k e)
    ]

-- a unit that is true already
pub stands_seen : (u w : PortState) (t : TrailData) (l : Literal) → Stands u t → TookUnit u w l → TrueWithin t.steps 0 l → Stands w t
stands_seen u w t l p took within =
    record {
      vars = p.vars ∙ sym (ap (λ (x : PortState). x.vars) took.state);
      reasoned = reasoned_more u w t.steps (ap (λ (x : PortState). x.held) took.state) (λ k h. sees_old u.seen w.seen l k took.sees h) p.reasoned;
      seen = λ k h. elim (seen_case u w l k took h) as (λ _. TrueWithin t.steps 0 k) [
        | inl old ↦ p.seen k old
        | inr e ↦ subst (TrueWithin t.steps 0) e within
      ];
    }

-- a unit that is made true at level 0
pub stands_taken : (u w : PortState) (t : TrailData) (l : Literal) → Stands u t → TookUnit u w l → t.level ≡ 0 → Stands w (assigned t l None)
stands_taken u w t l p took zero_level =
    let x : TrailStep = record { lit = l; level = t.level; reason = None } in
    record {
      vars = p.vars ∙ sym (ap (λ (y : PortState). y.vars) took.state);
      reasoned = IsReasoned-seen (clause_at w) w.seen t l None
          (reasoned_more u w t.steps (ap (λ (y : PortState). y.held) took.state) (λ k h. sees_old u.seen w.seen l k took.sees h) p.reasoned)
          zero_level (sees_new u.seen w.seen l took.sees);
      seen = λ k h. elim (seen_case u w l k took h) as (λ _. TrueWithin (t.steps ++ x ∷ []) 0 k) [
        | inl old ↦ within_more t.steps (x ∷ []) 0 k (p.seen k old)
        | inr e ↦ subst (TrueWithin (t.steps ++ x ∷ []) 0) e (within_last t.steps x 0 (omega arith))
      ];
    }

-- the reasons stay after a unit has come
pub reasons_seen : (cs : List Cref) (u w : PortState) (steps : List TrailStep) (l : Literal) → TookUnit u w l → HasReasons cs u steps → HasReasons cs w steps
reasons_seen cs u w steps l took r =
    Reasons-more cs cs u w steps (λ c there. (there, clause_at_same u w (ap (λ (x : PortState). x.held) took.state) c.address)) (λ k h. sees_old u.seen w.seen l k took.sees h) r

pub reasons_taken : (cs : List Cref) (u w : PortState) (t : TrailData) (l : Literal) → TookUnit u w l → t.level ≡ 0 → HasReasons cs u t.steps → HasReasons cs w (assigned t l None).steps
reasons_taken cs u w t l took zero_level r =
    IsReasoned-seen (attached_at cs w) w.seen t l None (reasons_seen cs u w t.steps l took r) zero_level (sees_new u.seen w.seen l took.sees)

-- a unit that is false at level 0
pub opposed : (u w : PortState) (t : TrailData) (l : Literal) → Stands u t → TookUnit u w l → IsTrail t → t.level ≡ 0 → IsFalseOn t.steps l → IsOpposed w t l
opposed u w t l p took shape zero_level bad = record {
  reasoned = reasoned;
  seen = sees_new u.seen w.seen l took.sees;
  false_there = bad;
  implied = false_at_zero w t.steps (length t.steps) (l ∷ []) reasoned
      (omega arith) (λ q h. (let within = shape.within q h in omega arith))
      (seen_is_known w l (sees_new u.seen w.seen l took.sees))
      (λ k h. elim (or_cases (same k l) false h) as (λ _. FalseBefore t.steps (length t.steps) k) [
        | inl e ↦ subst (FalseBefore t.steps (length t.steps)) (sym (same-true k l e)) bad
        | inr none ↦ absurd (false≢true none)
      ]);
}
  where
    reasoned : IsReasoned (clause_at w) w.seen t.steps
    reasoned = reasoned_more u w t.steps (ap (λ (y : PortState). y.held) took.state) (λ k h. sees_old u.seen w.seen l k took.sees h) p.reasoned

-- a unit that has come is on the trail's variables
pub took_on : (u w : PortState) (t : TrailData) (l : Literal) → Stands u t → TookUnit u w l → IsPort w → l.var ≤ t.vars
took_on u w t l p took port =
    let on = All_In (IsOn w.vars) w.seen l port.seen (has_In w.seen l (sees_new u.seen w.seen l took.sees)) in
    omega (arith, on.high, p.vars, ap (λ (y : PortState). y.vars) took.state)

-- the literal at a place is on the port's variables
pub place_on : (s : PortState) (t : TrailData) (p : ℕ) → Stands s t → IsTrail t → p < length t.steps → IsOn s.vars (lit_at t.steps p)
place_on s t p st shape h = record { low = shape.low p h; high = omega (arith, shape.high p h, st.vars) }

-- what is seen after a unit's line is the unit, or was seen before
pub seen_of : (s u : PortState) (l : Literal) (kind : Kind) (last : Option ℕ) (k : Literal) → WroteUnit s u l kind last → has u.seen k ≡ true → (has s.seen k ≡ true) ⊎ (l ≡ k)
seen_of s u l kind last k w h =
    elim (or_cases (has s.seen k) (same l k) (sym (w.sees k) ∙ h)) as (λ _. (has s.seen k ≡ true) ⊎ (l ≡ k)) [
      | inl old ↦ inl old
      | inr e ↦ inr (same-true l k e)
    ]

-- the line of a unit that is true at level 0
pub stands_written : (s u : PortState) (t : TrailData) (place : ℕ) (l : Literal) → Stands s t → IsTrail t → t.level ≡ 0 → place < length t.steps → l ≡ lit_at t.steps place
    → WroteUnit s u l UnitLine s.last → Stands u t
stands_written s u t place l p shape zero_level h is w =
    record {
      vars = p.vars ∙ sym (ap (λ (x : PortState). x.vars) w.state);
      reasoned = reasoned_more s u t.steps (ap (λ (x : PortState). x.held) w.state) (λ k had. sees_old s.seen u.seen l k w.sees had) p.reasoned;
      seen = λ k had. elim (or_cases (has s.seen k) (same l k) (sym (w.sees k) ∙ had)) as (λ _. TrueWithin t.steps 0 k) [
        | inl old ↦ p.seen k old
        | inr e ↦ subst (TrueWithin t.steps 0) (same-true l k e)
            (within_zero t l shape zero_level (record { place = place; before = h; true_there = sym is }))
      ];
    }
