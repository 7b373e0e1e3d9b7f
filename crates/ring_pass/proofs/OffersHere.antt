-- A ring's part after it has put a cell for other rings.
use Rattle.std.proofs.Common.{◌≡◌, ◌≢◌, ℕ, ◌+◌, ◌<◌, ◌≤◌, ◌==◌, Bool, true, false, if◌then◌else◌, List, [], ◌∷◌, ◌++◌, length, refl, sym, ap, subst, ◌∙◌, inl, ⊎_elim, arith, eq-eqb, ne_eqb, length-append}
use Rattle.std.proofs.lemmas.List.{append_assoc, append-nil}
use Rattle.std.specs.Prelude.{All}
use mathlib.Core.Logic.{dite}
use native.Mathlib.Decide.{ℕ_discrete}
use Rattle.rup_model.specs.Basics.{one_if}
use Rattle.rup_model.proofs.Lists.{In, In_append, In_append_left, In_append_right}
use Rattle.rup_model.proofs.ProgramOpening.{All_from_In}
use Rattle.share_core.specs.declared.stored.ClauseAt.{ClauseAt}
use Rattle.share_core.specs.declared.stored.PutNote.{PutNote}
use Rattle.share_core.specs.State.{times_at, without_at, with_cell}
use Rattle.share_core.proofs.ClauseLists.{all_in, all_last, at_without, at_both, at_some, at_some_zero, at_in, in_at, without_in}
use Rattle.share_rule.specs.declared.view.GlueAt.{GlueAt}
use Rattle.share_rule.specs.declared.view.RingPart.{RingPart}
use Rattle.share_rule.specs.Steps.{share_part, drop_part}
use Rattle.share_rule.specs.Exchanges.{KeepsGlues, with_glue, gave_part}
use Rattle.share_rule.specs.Views.{clause_in, glue_in}
use Rattle.share_rule.proofs.Lists.{first_at}
use Rattle.ring_pass.specs.RingState.{AreShort}
use Rattle.ring_pass.specs.Offering.{puts_for, SameHeld, PutPart}
use Rattle.ring_pass.proofs.OtherRings.{puts_both}

-- Lists of what is held

-- clauses at one address are one clause
abbrev pub OneEach : List ClauseAt → Type 0
OneEach hs = (h k : ClauseAt) → In h hs → In k hs → h.address ≡ k.address → h ≡ k

-- the first at an address, in front of others
pub first_front : (a : ℕ) (hs ks : List ClauseAt) → 0 < times_at a hs → clause_in a (hs ++ ks) ≡ clause_in a hs
first_front a [] ks lt = absurd (omega arith)
first_front a (h ∷ hs) ks lt = dite (ℕ_discrete h.address a)
    (λ e. (λ i. if eq-eqb h.address a e i then h else clause_in a (hs ++ ks)) ∙ (λ i. if sym (eq-eqb h.address a e) i then h else clause_in a hs))
    (λ ne.
    let z : one_if (h.address == a) ≡ 0 = ap one_if (ne_eqb h.address a ne) in
    (λ i. if ne_eqb h.address a ne i then h else clause_in a (hs ++ ks)) ∙ first_front a hs ks (omega arith) ∙ (λ i. if sym (ne_eqb h.address a ne) i then h else clause_in a hs))

-- once more
again : (a : ℕ) (hs : List ClauseAt) → 0 < times_at a hs → (k : ClauseAt) → In k (hs ++ clause_in a hs ∷ []) → In k hs
again a hs lt k i = ⊎_elim (λ j. j) (λ j. ⊎_elim (λ e. subst (λ (x : ClauseAt). In x hs) e (first_at a hs lt).0) (λ n. absurd n) j) (In_append hs (clause_in a hs ∷ []) k i)

module _ (a : ℕ) (hs : List ClauseAt) (lt : 0 < times_at a hs) where
  -- what a put leaves of it
  abbrev left : List ClauseAt
  left = without_at a (hs ++ clause_in a hs ∷ [])

  left_times : (b : ℕ) → times_at b left ≡ times_at b hs
  left_times b =
      let e = (first_at a hs lt).1 in
      let more : (c : ℕ) → times_at c (hs ++ clause_in a hs ∷ []) ≡ times_at c hs + times_at c (clause_in a hs ∷ []) = λ c. at_both c hs (clause_in a hs ∷ []) in
      let t = at_without a b (hs ++ clause_in a hs ∷ []) (let m = more a in omega arith) in
      let m = more b in
      let same : one_if ((clause_in a hs).address == b) ≡ one_if (a == b) = ap (λ (c : ℕ). one_if (c == b)) e in
      omega arith

  left_in : (k : ClauseAt) → In k left → In k hs
  left_in k i = again a hs lt k (without_in a (hs ++ clause_in a hs ∷ []) k i)

  left_front : (b : ℕ) → 0 < times_at b hs → (y : ClauseAt) × In y left × In y hs × (y.address ≡ b)
  left_front b some =
      let m = left_times b in
      let t = in_at b left (omega arith) in
      (t.0, t.1, left_in t.0 t.1, t.2)

-- the same is held if a list has what a put leaves, and what is held is in it
module _ (p q : RingPart) (a : ℕ) (lt : 0 < times_at a p.core.held) (hs : List ClauseAt) (one : OneEach p.core.held) (each : OneEach hs) (in_left : (k : ClauseAt) → In k (left a p.core.held lt) → In k hs)
    (among : (k : ClauseAt) → In k q.core.held → In k hs) (times : (b : ℕ) → times_at b q.core.held ≡ times_at b p.core.held) (glues : (k : ClauseAt) → In k p.core.held → glue_in k.number q.glues ≡ glue_in k.number p.glues) where
  same_clause : (b : ℕ) → 0 < times_at b p.core.held → clause_in b q.core.held ≡ clause_in b p.core.held
  same_clause b some =
      let m = times b in
      let old = first_at b p.core.held some in
      let new = first_at b q.core.held (omega arith) in
      let y = left_front a p.core.held lt b some in
      each (clause_in b q.core.held) y.0 (among (clause_in b q.core.held) new.0) (in_left y.0 y.1) (new.1 ∙ sym y.3) ∙ one y.0 (clause_in b p.core.held) y.2 old.0 (y.3 ∙ sym old.1)

  held_same : SameHeld p q
  held_same = record { times = times; clause = same_clause; glue = λ b some. glues (clause_in b p.core.held) (first_at b p.core.held some).0 }

-- with a cell, or none
with_none : (x : ClauseAt) (hs : List ClauseAt) → x.address ≡ 0 → with_cell x hs ≡ hs
with_none x hs e i = if eq-eqb x.address 0 e i then hs else hs ++ x ∷ []

with_some : (x : ClauseAt) (hs : List ClauseAt) → x.address ≢ 0 → with_cell x hs ≡ hs ++ x ∷ []
with_some x hs ne i = if ne_eqb x.address 0 ne i then hs else hs ++ x ∷ []

pub in_with : (x : ClauseAt) (hs : List ClauseAt) (k : ClauseAt) → In k hs → In k (with_cell x hs)
in_with x hs k i = by (x.address == 0)
  where
    by : (b : Bool) → In k (if b then hs else hs ++ x ∷ [])
    by true = i
    by false = In_append_left hs (x ∷ []) k i

pub with_in : (x : ClauseAt) (hs : List ClauseAt) → x.address ≢ 0 → In x (with_cell x hs)
with_in x hs ne = subst (In x) (sym (with_some x hs ne)) (In_append_right hs (x ∷ []) x (inl refl))

-- the glue of a clause with another number
glue_next : (n : ℕ) (x : ClauseAt) (g : ℕ) (gs : List GlueAt) → (x.address ≢ 0 → n ≢ x.number) → glue_in n (with_glue x g gs) ≡ glue_in n gs
glue_next n x g gs apart = dite (ℕ_discrete x.address 0)
    (λ e. (λ i. glue_in n (if eq-eqb x.address 0 e i then gs else record { number = x.number; glue = g } ∷ gs)))
    (λ ne. (λ i. glue_in n (if ne_eqb x.address 0 ne i then gs else record { number = x.number; glue = g } ∷ gs)) ∙ (λ i. if ne_eqb x.number n (λ e. apart ne (sym e)) i then g else glue_in n gs))

-- One put

abbrev pub put_note : (to class place a : ℕ) → PutNote
put_note to class place a = record { to = to; class = class; place = place; address = a }

-- the part once the count is in the slot
abbrev pub swapped : (to class place a : ℕ) (x : ClauseAt) (g : ℕ) → RingPart → RingPart
swapped to class place a x g p = gave_part (put_note to class place a) x g (share_part a p)

-- what waits after a count was given up
abbrev pub back_of : ℕ → ClauseAt → List ClauseAt
back_of found h = if found == 1 then h ∷ [] else []

back_short : (found : ℕ) (h : ClauseAt) → length (back_of found h) ≤ 1
back_short found h = by (found == 1)
  where
    by : (b : Bool) → length (if b then h ∷ [] else []) ≤ 1
    by true = omega arith
    by false = omega arith

back_behind : (found : ℕ) (h : ClauseAt) (ws : List ClauseAt) → (if found == 1 then ws ++ h ∷ [] else ws) ≡ ws ++ back_of found h
back_behind found h ws = by (found == 1)
  where
    by : (b : Bool) → (if b then ws ++ h ∷ [] else ws) ≡ ws ++ (if b then h ∷ [] else [])
    by true = refl
    by false = sym (append-nil ws)

module _ (p : RingPart) (to class place a : ℕ) (x : ClauseAt) (g : ℕ) (lt : 0 < times_at a p.core.held) (one : OneEach p.core.held) (each : OneEach (swapped to class place a x g p).core.held)
    (keeps : KeepsGlues x g (share_part a p)) (apart : x.address ≢ 0 → (k : ClauseAt) → In k p.core.waiting → k.number ≢ x.number) where
  q : RingPart
  q = swapped to class place a x g p

  keeps_one : (k : ClauseAt) → In k p.core.held → glue_in k.number (with_glue x g p.glues) ≡ glue_in k.number p.glues
  keeps_one k i = all_in (λ (y : ClauseAt). glue_in y.number (with_glue x g p.glues) ≡ glue_in y.number p.glues) (p.core.held ++ clause_in a p.core.held ∷ []) k (In_append_left p.core.held (clause_in a p.core.held ∷ []) k i) keeps

  waiting_glues : All (λ h. glue_in h.number (with_glue x g p.glues) ≡ glue_in h.number p.glues) p.core.waiting
  waiting_glues = All_from_In (λ (h : ClauseAt). glue_in h.number (with_glue x g p.glues) ≡ glue_in h.number p.glues) p.core.waiting (λ k i. glue_next k.number x g p.glues (λ ne. apart ne k i))

  gave_short : (n : ℕ) → length (clause_in a p.core.held).lits ≤ n → AreShort n p.gave → AreShort n (p.gave ++ clause_in a (p.core.held ++ clause_in a p.core.held ∷ []) ∷ [])
  gave_short n le short = all_last (λ (h : ClauseAt). length h.lits ≤ n) p.gave (clause_in a (p.core.held ++ clause_in a p.core.held ∷ [])) short
      (subst (λ (h : ClauseAt). length h.lits ≤ n) (sym (first_front a p.core.held (clause_in a p.core.held ∷ []) lt)) le)

  times_none : x.address ≡ 0 → (b : ℕ) → times_at b (with_cell x (left a p.core.held lt)) ≡ times_at b p.core.held
  times_none e b = ap (times_at b) (with_none x (left a p.core.held lt) e) ∙ left_times a p.core.held lt b

  -- nothing came back
  pub put_none : x.address ≡ 0 → PutPart p (swapped to class place a x g p) class place a (to ∷ [])
  put_none e = record {
    back = [];
    few = omega arith;
    held = held_same p (swapped to class place a x g p) a lt (swapped to class place a x g p).core.held one each (in_with x (left a p.core.held lt)) (λ k i. i) (times_none e) keeps_one;
    glues = waiting_glues;
    gave = gave_short;
    part = λ i. record (swapped to class place a x g p) { core = record (swapped to class place a x g p).core { waiting = sym (append-nil p.core.waiting) i } };
  }

  some_there : x.address ≢ 0 → 0 < times_at x.address (with_cell x (left a p.core.held lt))
  some_there ne = at_in (with_cell x (left a p.core.held lt)) x (with_in x (left a p.core.held lt) ne)

  times_some : (ne : x.address ≢ 0) (b : ℕ) → times_at b (without_at (clause_in x.address (with_cell x (left a p.core.held lt))).address (with_cell x (left a p.core.held lt))) ≡ times_at b p.core.held
  times_some ne b =
      let hs : List ClauseAt = left a p.core.held lt in
      let at = (first_at x.address (with_cell x hs) (some_there ne)).1 in
      let all = left_times a p.core.held lt b in
      let t = at_without x.address b (with_cell x hs) (some_there ne) in
      ap (λ (c : ℕ). times_at b (without_at c (with_cell x hs))) at ∙ dite (ℕ_discrete b 0)
      (λ z.
      let m = at_some_zero x hs in
      let n : one_if (x.address == b) ≡ 0 = ap one_if (ne_eqb x.address b (λ f. ne (f ∙ z))) in
      let r = ap (λ (c : ℕ). times_at c (with_cell x hs)) z in
      let s = ap (λ (c : ℕ). times_at c hs) z in
      omega arith)
      (λ nz. let m = at_some x b hs nz in omega arith)

  -- a clause came back, and its count was given up
  pub put_some : (found : ℕ) → x.address ≢ 0 → PutPart p (drop_part x.address found (swapped to class place a x g p)) class place a (to ∷ [])
  put_some found ne = record {
    back = back_of found (clause_in x.address (with_cell x (left a p.core.held lt)));
    few = back_short found (clause_in x.address (with_cell x (left a p.core.held lt)));
    held = held_same p (drop_part x.address found (swapped to class place a x g p)) a lt (swapped to class place a x g p).core.held one each (in_with x (left a p.core.held lt))
        (λ k i. without_in (clause_in x.address (with_cell x (left a p.core.held lt))).address (with_cell x (left a p.core.held lt)) k i) (times_some ne) keeps_one;
    glues = waiting_glues;
    gave = gave_short;
    part = λ i. record (drop_part x.address found (swapped to class place a x g p)) { core = record (drop_part x.address found (swapped to class place a x g p)).core { waiting = back_behind found (clause_in x.address (with_cell x (left a p.core.held lt))) p.core.waiting i } };
  }

-- Puts one after the other

pub same_both_held : (p q r : RingPart) → SameHeld p q → SameHeld q r → SameHeld p r
same_both_held p q r s t = record {
  times = λ a. t.times a ∙ s.times a;
  clause = λ a lt. t.clause a (let m = s.times a in omega arith) ∙ s.clause a lt;
  glue = λ a lt. ap (λ (h : ClauseAt). glue_in h.number r.glues) (sym (s.clause a lt)) ∙ t.glue a (let m = s.times a in omega arith) ∙ ap (λ (h : ClauseAt). glue_in h.number q.glues) (s.clause a lt) ∙ s.glue a lt;
}

pub put_both : (p q r : RingPart) (class place a : ℕ) (xs ys : List ℕ) → 0 < times_at a p.core.held → PutPart p q class place a xs → PutPart q r class place a ys → PutPart p r class place a (xs ++ ys)
put_both p q r class place a xs ys lt s t =
    let long = length-append xs ys in
    let more = length-append s.back t.back in
    let few = s.few in
    let fewer = t.few in
    record {
      back = s.back ++ t.back;
      few = omega arith;
      held = same_both_held p q r s.held t.held;
      glues = All_from_In (λ (h : ClauseAt). glue_in h.number r.glues ≡ glue_in h.number p.glues) p.core.waiting (λ k i.
          let w : q.core.waiting ≡ p.core.waiting ++ s.back = ap (λ (y : RingPart). y.core.waiting) s.part in
          all_in (λ (h : ClauseAt). glue_in h.number r.glues ≡ glue_in h.number q.glues) q.core.waiting k (subst (In k) (sym w) (In_append_left p.core.waiting s.back k i)) t.glues
          ∙ all_in (λ (h : ClauseAt). glue_in h.number q.glues ≡ glue_in h.number p.glues) p.core.waiting k i s.glues);
      gave = λ n le short. t.gave n (subst (λ (h : ClauseAt). length h.lits ≤ n) (sym (s.held.clause a lt)) le) (s.gave n le short);
      part = t.part
          ∙ (λ i. record (s.part i) {
            core = record (s.part i).core {
              held = r.core.held;
              waiting = (s.part i).core.waiting ++ t.back;
              shared = (s.part i).core.shared + length ys;
              puts = (s.part i).core.puts ++ puts_for class place a ys;
            };
            glues = r.glues;
            gave = r.gave;
          })
          ∙ (λ i. record p {
            core = record p.core {
              held = r.core.held;
              waiting = append_assoc p.core.waiting s.back t.back i;
              shared = (let e : (p.core.shared + length xs) + length ys ≡ p.core.shared + length (xs ++ ys) = omega arith in e) i;
              puts = (append_assoc p.core.puts (puts_for class place a xs) (puts_for class place a ys) ∙ ap (λ (ns : List PutNote). p.core.puts ++ ns) (sym (puts_both class place a xs ys))) i;
            };
            glues = r.glues;
            gave = r.gave;
          });
    }

-- and none
pub put_nothing : (p : RingPart) (class place a : ℕ) → PutPart p p class place a []
put_nothing p class place a = record {
  back = [];
  few = omega arith;
  held = record { times = λ b. refl; clause = λ b lt. refl; glue = λ b lt. refl };
  glues = All_from_In (λ (h : ClauseAt). glue_in h.number p.glues ≡ glue_in h.number p.glues) p.core.waiting (λ k i. refl);
  gave = λ n le short. short;
  part = λ i. record p { core = record p.core { waiting = sym (append-nil p.core.waiting) i; shared = (let e : p.core.shared ≡ p.core.shared + 0 = omega arith in e) i; puts = sym (append-nil p.core.puts) i } };
}
