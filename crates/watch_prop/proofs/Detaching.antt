-- What is kept while clauses are detached, and while slots are compacted.
use Rattle.std.proofs.Common.{[], ◌≡◌, ◌≢◌, ℕ, ◌<◌, ◌≤◌, ◌+◌, true, false, List, length, get_or, take, Some, None, sym, refl, ap, subst, ◌∙◌, inl, inr, arith, Contains}
use Rattle.std.proofs.Math.ListN.{set}
use Rattle.std.proofs.lemmas.Bool.{cases_lt}
use Rattle.std.proofs.lemmas.List.{length-set, take_all}
use Rattle.sat_words.specs.Literal.{Literal}
use Rattle.sat_words.specs.Clause.{has}
use Rattle.sat_words.specs.declared.shared.Cref.{Cref}
use Rattle.ring_trail.specs.TrailData.{TrailData}
use Rattle.watch_prop.specs.declared.watch.Watch.{Watch}
use Rattle.watch_prop.specs.declared.watch.Watcher.{Watcher}
use Rattle.watch_prop.specs.WatchData.{WatchData, Lits, attached, watchers_at, list_at, without, is_among, without_all}
use Rattle.watch_prop.specs.Watched.{At, IsAttachable, IsSettled, Watched}
use Rattle.watch_prop.specs.Detaching.{Thinned, Freed, FreedAll, IsGoneFrom, Compacted}
use Rattle.watch_prop.proofs.ListsLemmas.{take_split}
use Rattle.watch_prop.proofs.SlotsLemmas.{watch-freed, without-freed, without-none, without_all-none, without_all-again}

Thinned-refl : (w : WatchData) → Thinned w w
Thinned-refl w = record { vars = refl; settled = refl; len = refl; only = λ i s at. at; lists = refl }

Thinned-trans : (u v w : WatchData) → Thinned u v → Thinned v w → Thinned u w
Thinned-trans u v w f g = record {
  vars = g.vars ∙ f.vars;
  settled = g.settled ∙ f.settled;
  len = g.len ∙ f.len;
  only = λ i s at. f.only i s (g.only i s at);
  lists = g.lists ∙ f.lists;
}

pub Freed-refl : (w : WatchData) (a : ℕ) → Freed w w a
Freed-refl w a = record { thinned = Thinned-refl w; others = refl }

pub Freed-trans : (u v w : WatchData) (a : ℕ) → Freed u v a → Freed v w a → Freed u w a
Freed-trans u v w a f g = record { thinned = Thinned-trans u v w f.thinned g.thinned; others = g.others ∙ f.others }

-- a slot of a clause at the address is freed
pub Freed-slot : (w : WatchData) (i : ℕ) (s : Watch) (a : ℕ) → At w.slots i (Some s) → s.clause.address ≡ a → Freed w record w { slots = set w.slots i None } a
Freed-slot w i s a at e = record {
  thinned = record {
    vars = refl;
    settled = refl;
    len = length-set w.slots i None;
    only = λ j x there. (watch-freed w.slots i j x there).1;
    lists = refl;
  };
  others = without-freed w.slots i s a at e;
}

pub Watched-thinned : (w x : WatchData) (h : Lits) (t : TrailData) → Thinned w x → Watched w h t → Watched x h t
Watched-thinned w x h t f k = record {
  vars = k.vars ∙ sym f.vars;
  few = omega (arith, k.few, f.settled, f.len);
  clauses = λ i s at. subst (λ (n : ℕ). IsAttachable n (h s.clause.address)) (sym f.vars) (k.clauses i s (f.only i s at));
  pairs = λ i s at. k.pairs i s (f.only i s at);
  settled = λ i s small at.
      let z = k.settled i s (omega (arith, f.settled)) (f.only i s at) in
      subst (λ (lists : List (List Watcher)). IsSettled lists t.steps t.done (h s.clause.address) i s) (sym f.lists) z;
  blocking = λ l y there.
      let b = k.blocking l y (subst (λ (lists : List (List Watcher)). Contains (watchers_at lists l) y) f.lists there) in
      record { slot = omega (arith, b.slot, f.len); on = subst (λ (n : ℕ). y.blocker.var ≤ n) (sym f.vars) b.on; inside = λ s at. b.inside s (f.only y.slot s at) };
  fresh = k.fresh;
}

-- what is gone from a literal's list stays gone
pub gone-later : (w u v : WatchData) (a : ℕ) (l : Literal) → IsGoneFrom w u a l → Freed u v a → IsGoneFrom w v a l
gone-later w u v a l gone f i s at side h = gone i s (f.thinned.only i s at) side h

-- and so it is for what was listed before other slots were freed
pub gone-earlier : (w u v : WatchData) (a : ℕ) (l : Literal) → Freed w u a → Freed u v a → IsGoneFrom u v a l → IsGoneFrom w v a l
gone-earlier w u v a l f g gone i s at side h = gone i s at side (subst (λ (lists : List (List Watcher)). Contains (list_at lists l) i) (sym f.thinned.lists) h)

-- once the slots that wait are done, and the lists of the literals of the clause, no watch of it is left
pub none_left : (w u v : WatchData) (h : Lits) (t : TrailData) (a : ℕ) → Watched w h t → Freed w u a → ((i : ℕ) (s : Watch) → w.settled ≤ i → At u.slots i (Some s) → s.clause.address ≢ a)
    → Freed u v a → ((l : Literal) → has (h a) l ≡ true → IsGoneFrom u v a l) → (i : ℕ) (s : Watch) → At v.slots i (Some s) → s.clause.address ≢ a
none_left w u v h t a k f waiting g listed i s at e =
    let at_u = g.thinned.only i s at in
    let at_w = f.thinned.only i s at_u in
    elim (cases_lt i w.settled) as (λ _. ⊥) [
      | inr past ↦ waiting i s past at_u e
      | inl small ↦ (
          let z = k.settled i s small at_w in
          let inside : has (h a) s.first ≡ true = subst (λ (n : ℕ). has (h n) s.first ≡ true) e (k.pairs i s at_w).first in
          listed s.first inside i s at (inl refl) (subst (λ (lists : List (List Watcher)). Contains (list_at lists s.first) i) (sym f.thinned.lists) z.first_listed) e)
    ]

pub detached : (w v : WatchData) (a : ℕ) → Freed w v a → ((i : ℕ) (s : Watch) → At v.slots i (Some s) → s.clause.address ≢ a) → attached v ≡ without (attached w) a
detached w v a f none = sym (without-none v.slots a none) ∙ f.others

-- Slots of several clauses

pub FreedAll-refl : (w : WatchData) (gone : List Cref) → FreedAll w w gone
FreedAll-refl w gone = record { thinned = Thinned-refl w; others = refl }

-- slots of one of these clauses were freed as well
pub FreedAll-one : (u v w : WatchData) (gone : List Cref) (a : ℕ) → is_among gone a ≡ true → FreedAll u v gone → Freed v w a → FreedAll u w gone
FreedAll-one u v w gone a there f g = record {
  thinned = Thinned-trans u v w f.thinned g.thinned;
  others = sym (without_all-again (attached w) gone a there) ∙ ap (λ (cs : List Cref). without_all cs gone) g.others ∙ without_all-again (attached v) gone a there ∙ f.others;
}

pub FreedAll-trans : (u v w : WatchData) (gone : List Cref) → FreedAll u v gone → FreedAll v w gone → FreedAll u w gone
FreedAll-trans u v w gone f g = record { thinned = Thinned-trans u v w f.thinned g.thinned; others = g.others ∙ f.others }

pub all_detached : (w v : WatchData) (gone : List Cref) → FreedAll w v gone → ((i : ℕ) (s : Watch) → At v.slots i (Some s) → is_among gone s.clause.address ≡ false) → attached v ≡ without_all (attached w) gone
all_detached w v gone f none = sym (without_all-none v.slots gone none) ∙ f.others

-- Walking down a list

-- the watches of the clause that were listed stand at the places that aren't visited yet
abbrev pub IsLeft : WatchData → WatchData → ℕ → Literal → ℕ → Type 0
IsLeft old new a l place = (i : ℕ) (s : Watch) → At new.slots i (Some s) → Contains (list_at old.lists l) i → s.clause.address ≡ a → Contains (take place (list_at old.lists l)) i

pub left-start : (w : WatchData) (a : ℕ) (l : Literal) (n : ℕ) → n ≡ length (list_at w.lists l) → IsLeft w w a l n
left-start w a l n e i s at h q = subst (λ (xs : List ℕ). Contains xs i) (sym (ap (λ (m : ℕ). take m (list_at w.lists l)) e ∙ take_all (length (list_at w.lists l)) (list_at w.lists l) (omega arith))) h

pub left-step : (w u v : WatchData) (a : ℕ) (l : Literal) (place : ℕ) → place < length (list_at w.lists l) → IsLeft w u a l (place + 1) → Freed w u a → Freed u v a
    → ((s : Watch) → At v.slots (get_or (list_at u.lists l) place 0) (Some s) → s.clause.address ≢ a) → IsLeft w v a l place
left-step w u v a l place lt left e f gone i s at h q =
    elim (take_split (list_at w.lists l) place i lt (left i s (f.thinned.only i s at) h q)) as (λ _. Contains (take place (list_at w.lists l)) i) [
      | inl there ↦ there
      | inr z ↦ absurd (
          let here : i ≡ get_or (list_at u.lists l) place 0 = sym z ∙ ap (λ (lists : List (List Watcher)). get_or (list_at lists l) place 0) (sym e.thinned.lists) in
          gone s (subst (λ (n : ℕ). At v.slots n (Some s)) here at) q)
    ]

pub left-end : (w v : WatchData) (a : ℕ) (l : Literal) → IsLeft w v a l 0 → IsGoneFrom w v a l
left-end w v a l left i s at side h e = absurd (let z = (left i s at h e).1 in omega arith)

-- Compacting

-- nothing is settled, and nothing is listed
pub Watched-unlisted : (w x : WatchData) (h : Lits) (t : TrailData) → x.vars ≡ w.vars → x.settled ≡ 0 → ((l : Literal) → watchers_at x.lists l ≡ []) → ((i : ℕ) (s : Watch) → At x.slots i (Some s) → Contains w.slots (Some s)) → Watched w h t → Watched x h t
Watched-unlisted w x h t vars settled empty only k = record {
  vars = k.vars ∙ sym vars;
  few = omega (arith, settled);
  clauses = λ i s at. let m = only i s at in subst (λ (n : ℕ). IsAttachable n (h s.clause.address)) (sym vars) (k.clauses m.0 s (m.1, m.2));
  pairs = λ i s at. let m = only i s at in k.pairs m.0 s (m.1, m.2);
  settled = λ i s small at. absurd (omega (arith, settled));
  blocking = λ l y there. absurd (let z = there.1 in omega (arith, z, ap (λ (ys : List Watcher). length ys) (empty l)));
  fresh = k.fresh;
}

pub Watched-compacted : (w x : WatchData) (h : Lits) (t : TrailData) → Compacted w x → Watched w h t → Watched x h t
Watched-compacted w x h t c k = Watched-unlisted w x h t c.vars c.settled c.empty c.only k
