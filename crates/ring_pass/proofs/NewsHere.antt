-- What arrives on the way.
use Rattle.std.proofs.Common.{◌≡◌, ℕ, ◌-◌, ◌*◌, ◌<◌, ◌≤◌, true, List, [], ◌∷◌, ◌++◌, length, refl, sym, ap, subst, ◌∙◌, arith, length-append, append_assoc, append-nil}
use Rattle.std.specs.List.{All}
use Rattle.std.specs.Option.{is_some}
use Rattle.sat_words.specs.Literal.{Literal}
use Rattle.sat_words.specs.Clause.{has, distinct_lits}
use Rattle.share_core.specs.declared.part.Part.{Part}
use Rattle.share_rule.specs.declared.view.RingPart.{RingPart}
use Rattle.share_rule.specs.declared.view.View.{View}
use Rattle.share_rule.specs.Seen.{Seen}
use Rattle.share_rule.specs.Units.{count_part}
use Rattle.share_rule.specs.Views.{only}
use Rattle.ring_pass.specs.RingState.{HasUnits}
use Rattle.ring_pass.specs.Sights.{SawOne, SawAll, SawNews, SawRest}
use Rattle.ring_pass.proofs.SeenHere.{saw_part, saw_parts, saw_fresh, saw_place, all_parts, arrived_told, arrived_distinct}
use Rattle.ring_pass.proofs.Stays.{only_is, one_is}

-- nothing yet
pub news_none : (v : View) (seen arrived : List Literal) (a b : ℕ) → v.parts ≡ only v ∷ [] → HasUnits (only v) v.layout.vars seen a b → distinct_lits arrived ≡ true → All (λ l. has (only v).core.seen l ≡ true) arrived → SawNews v v seen arrived arrived
news_none v seen arrived a b one units d told = record {
  news = [];
  numbers = [];
  part = only v;
  parts = one;
  layout = refl;
  opening = refl;
  origin = refl;
  stop = refl;
  looks = refl;
  core = λ i. record (only v).core { seen = sym (append-nil (only v).core.seen) i; numbers = sym (append-nil (only v).core.numbers) i };
  glues = refl;
  gave = refl;
  polls = refl;
  caught_up = omega arith;
  turn = refl;
  refused = refl;
  ended = refl;
  failed = refl;
  seen_is = units.all;
  arrived_is = sym (append-nil arrived);
  distinct = d;
  told = told;
}

pub news_one : {v w : View} {seen arrived arrived' : List Literal} → SawNews v w seen arrived arrived' → w.parts ≡ only w ∷ []
news_one {v} {w} h = one_is w h.part h.parts

pub news_told : {v w : View} {seen arrived arrived' : List Literal} → SawNews v w seen arrived arrived' → All (λ l. has (only w).core.seen l ≡ true) arrived'
news_told {v} {w} {seen} {arrived} {arrived'} h = subst (λ (p : RingPart). All (λ l. has p.core.seen l ≡ true) arrived') (sym (only_is w h.part h.parts)) h.told

-- one more
pub news_more : (v w u : View) (seen seen' arrived arrived' arrived'' : List Literal) (x : Literal) → SawNews v w seen arrived arrived' → Seen u → SawOne w u seen seen' arrived' arrived'' x → SawNews v u seen' arrived arrived''
news_more v w u seen seen' arrived arrived' arrived'' x h s saw =
    let now : only w ≡ h.part = only_is w h.part h.parts in
    let one = news_one h in
    let ss : List Literal = (only w).core.seen in
    let ss_is : ss ≡ (only v).core.seen ++ h.news = ap (λ (p : RingPart). p.core.seen) now ∙ ap (λ (c : Part). c.seen) h.core in
    let core : (only w).core ≡ record (only v).core { seen = (only v).core.seen ++ h.news; numbers = (only v).core.numbers ++ h.numbers } = ap (λ (p : RingPart). p.core) now ∙ h.core in
    let then_is : only u ≡ saw_part x saw.number saw.listed (only w) = only_is u (saw_part x saw.number saw.listed (only w)) (saw_parts w u x saw.number saw.listed one saw.view) in
    record {
      news = h.news ++ x ∷ [];
      numbers = h.numbers ++ saw.number ∷ [];
      part = saw_part x saw.number saw.listed (only w);
      parts = saw_parts w u x saw.number saw.listed one saw.view;
      layout = ap (λ (y : View). y.layout) saw.view ∙ h.layout;
      opening = ap (λ (y : View). y.opening) saw.view ∙ h.opening;
      origin = ap (λ (y : View). y.origin) saw.view ∙ h.origin;
      stop = ap (λ (y : View). y.stop) saw.view ∙ h.stop;
      looks = ap (λ (y : View). y.looks) saw.view ∙ h.looks;
      core = (λ i. record (core i) { seen = (core i).seen ++ x ∷ []; numbers = (core i).numbers ++ saw.number ∷ [] })
          ∙ (λ i. record (only v).core { seen = append_assoc (only v).core.seen h.news (x ∷ []) i; numbers = append_assoc (only v).core.numbers h.numbers (saw.number ∷ []) i });
      glues = ap (λ (p : RingPart). p.glues) now ∙ h.glues;
      gave = ap (λ (p : RingPart). p.gave) now ∙ h.gave;
      polls = ap (λ (p : RingPart). p.polls) now ∙ h.polls;
      caught_up = subst (λ (k : ℕ). (only v).caught_up ≤ k) (ap (λ (p : RingPart). p.caught_up) (sym now) ∙ sym saw.caught_up ∙ ap (λ (p : RingPart). p.caught_up) then_is) h.caught_up;
      turn = ap (λ (p : RingPart). p.turn) now ∙ h.turn;
      refused = ap (λ (p : RingPart). p.refused) now ∙ h.refused;
      ended = ap (λ (p : RingPart). p.ended) now ∙ h.ended;
      failed = ap (λ (p : RingPart). p.failed) now ∙ h.failed;
      seen_is = saw.seen_is ∙ ap (λ (ls : List Literal). ls ++ x ∷ []) (h.seen_is ∙ sym (ap (λ (p : RingPart). p.core.seen) now));
      arrived_is = saw.arrived_is ∙ ap (λ (ls : List Literal). ls ++ x ∷ []) h.arrived_is ∙ append_assoc arrived h.news (x ∷ []);
      distinct = subst (λ (ls : List Literal). distinct_lits ls ≡ true) (sym saw.arrived_is) (arrived_distinct ss arrived' x h.distinct (news_told h) (saw_fresh w u x saw.number saw.listed one saw.view s));
      told = subst (λ (ls : List Literal). All (λ l. has (ss ++ x ∷ []) l ≡ true) ls) (sym saw.arrived_is) (arrived_told ss arrived' x (news_told h));
    }

-- and none is left
pub news_all : (v w u : View) (seen seen' arrived arrived' arrived'' : List Literal) → SawNews v w seen arrived arrived' → SawAll w u (length seen) seen seen' arrived' arrived'' → SawRest v u seen' arrived arrived''
news_all v w u seen seen' arrived arrived' arrived'' h saw =
    let now : only w ≡ h.part = only_is w h.part h.parts in
    let one = news_one h in
    let parts = all_parts w u (length seen) one saw.view in
    let x : RingPart = count_part (length seen) (only w) in
    let then_is : only u ≡ x = only_is u x parts in
    let more : (only v).caught_up ≤ (only u).caught_up = let was = h.caught_up in let same = ap (λ (p : RingPart). p.caught_up) now in let again = saw.caught_up in omega arith in
    record {
      saw = record {
        news = h.news;
        numbers = h.numbers;
        part = x;
        parts = parts;
        layout = ap (λ (y : View). y.layout) saw.view ∙ h.layout;
        opening = ap (λ (y : View). y.opening) saw.view ∙ h.opening;
        origin = ap (λ (y : View). y.origin) saw.view ∙ h.origin;
        stop = ap (λ (y : View). y.stop) saw.view ∙ h.stop;
        looks = ap (λ (y : View). y.looks) saw.view ∙ h.looks;
        core = ap (λ (p : RingPart). p.core) now ∙ h.core;
        glues = ap (λ (p : RingPart). p.glues) now ∙ h.glues;
        gave = ap (λ (p : RingPart). p.gave) now ∙ h.gave;
        polls = ap (λ (p : RingPart). p.polls) now ∙ h.polls;
        caught_up = subst (λ (k : ℕ). (only v).caught_up ≤ k) (ap (λ (p : RingPart). p.caught_up) then_is) more;
        turn = ap (λ (p : RingPart). p.turn) now ∙ h.turn;
        refused = ap (λ (p : RingPart). p.refused) now ∙ h.refused;
        ended = ap (λ (p : RingPart). p.ended) now ∙ h.ended;
        failed = ap (λ (p : RingPart). p.failed) now ∙ h.failed;
        seen_is = saw.seen_is ∙ h.seen_is ∙ sym (ap (λ (p : RingPart). p.core.seen) now);
        arrived_is = saw.arrived_is ∙ h.arrived_is;
        distinct = subst (λ (ls : List Literal). distinct_lits ls ≡ true) (sym saw.arrived_is) h.distinct;
        told = subst (λ (ls : List Literal). All (λ l. has (only w).core.seen l ≡ true) ls) (sym saw.arrived_is) (news_told h);
      };
      whole = ap (λ (p : RingPart). p.whole) then_is ∙ ap (λ (p : RingPart). is_some p.turn) now ∙ ap is_some h.turn;
      listed = ap (λ (p : RingPart). p.listed) then_is ∙ ap length (h.seen_is ∙ sym (ap (λ (p : RingPart). p.core.seen) now)) ∙ sym (ap (λ (p : RingPart). length p.core.seen) then_is);
    }

-- fewer may come
pub news_fewer : (w u : View) (seen seen' arrived' arrived'' : List Literal) (x : Literal) (a b : ℕ) → w.parts ≡ only w ∷ [] → HasUnits (only w) w.layout.vars seen a b → Seen u → SawOne w u seen seen' arrived' arrived'' x → 2 * u.layout.vars - length seen' < 2 * w.layout.vars - length seen
news_fewer w u seen seen' arrived' arrived'' x a b one units s saw =
    let place = saw_place w u x saw.number saw.listed one saw.view s in
    let vars = ap (λ (y : View). y.layout.vars) saw.view in
    let all = ap length units.all in
    let long = length-append seen (x ∷ []) in
    let is = ap length saw.seen_is in
    omega arith
