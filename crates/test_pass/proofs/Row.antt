-- What the rings of the tests know.
use Rattle.std.proofs.Common.{◌≡◌, ◌≤◌, ◌≢◌, ◌∙◌, ◌==◌, ℕ, ◌||◌, Bool, not, filter, true, false, true≢false, List, [], ◌∷◌, ◌++◌, map, All, Contains, length, refl, sym, ap, subst, arith, Some, IsSome, Option}
use Rattle.std.specs.Prelude.{slice_get}
use Rattle.std.specs.List.{range_with_len}
use Rattle.std.specs.Option.{unwrap_or}
use Rattle.std.proofs.lemmas.Bool.{or_right, le-leb}
use Rattle.sat_words.specs.Literal.{Literal, opposite}
use Rattle.sat_words.specs.Clause.{has, has_opposites}
use Rattle.sat_words.specs.declared.shared.Cref.{Cref}
use Rattle.rup_model.specs.Rup.{rup}
use Rattle.rup_model.proofs.Derivation.{conflicts_from_derivation}
use Rattle.atomic_table.specs.declared.shared.Seat.{Seat}
use Rattle.share_core.specs.declared.stored.ClauseAt.{ClauseAt}
use Rattle.share_rule.specs.declared.Layout.{Layout}
use Rattle.share_rule.specs.declared.Shared.{Shared}
use Rattle.share_rule.specs.declared.view.RingPart.{RingPart}
use Rattle.share_rule.specs.declared.view.View.{View}
use Rattle.share_rule.specs.FirstWords.{starts_at, addresses}
use Rattle.share_rule.specs.Passes.{NoTurns}
use Rattle.share_rule.specs.Rests.{NoneBuild}
use Rattle.share_rule.specs.Views.{start_glues}
use Rattle.test_tables.specs.Samples.{IsFirst, IsGathered}
use Rattle.ring_port.specs.PortState.{Holding, PortState, HoldsStart, held_at, lits_at, lits_in, known}
use Rattle.ring_port.specs.Port.{is_usable, start_lits}
use Rattle.ring_port.specs.Drawing.{Drew}
use Rattle.ring_port.specs.Deleting.{DroppedOnce, TidiedUpTo}
use Rattle.ring_port.specs.Exchange.{looked_into, other_rings}
use Rattle.ring_port.proofs.Holdings.{held_is_known, lits_of_holding}
use Rattle.ring_port.proofs.PlainLemmas.{dropped_others, same_lookup}
use Rattle.ring_pass.specs.RingState.{holding_of, begun_as}
use Rattle.test_pass.specs.Samples.{plus, minus, first, second, third, spare, four, pair, later, IsAt, IsPlayer, IsFree, HasTicket, IsBegun, IsReady, IsIdle, IsReadyAgain, IsDone, BeginsWithFour, IsHome, Stays, Keeps}

-- What follows

may_use : (s : PortState) (a : ℕ) (c : List Literal) → IsAt s a c → Contains (known s) c
may_use s a c h = subst (λ (d : List Literal). Contains (known s) d) h.lits (held_is_known s a h.held)

pub pair_follows : (s : PortState) (c : List Literal) → IsPlayer s → c ≡ pair → rup (known s) c ≡ true
unfolding rup
pair_follows s c h e =
    subst (λ (d : List Literal). rup (known s) d ≡ true) (sym e)
    (or_right (has_opposites pair) _ (conflicts_from_derivation (known s) (map opposite pair) (plus 3 ∷ []) second ((first, may_use s h.one.0 first h.one.1, refl, refl), tt) (may_use s h.two.0 second h.two.1) refl))

pub later_follows : (s : PortState) (c : List Literal) → IsPlayer s → c ≡ later → rup (known s) c ≡ true
unfolding rup
later_follows s c h e =
    subst (λ (d : List Literal). rup (known s) d ≡ true) (sym e)
    (or_right (has_opposites later) _ (conflicts_from_derivation (known s) (map opposite later) (minus 1 ∷ []) second ((third, may_use s h.three.0 third h.three.1, refl, refl), tt) (may_use s h.two.0 second h.two.1) refl))

pub two_follows : (s : PortState) (c : List Literal) → IsPlayer s → c ≡ plus 2 ∷ [] → rup (known s) c ≡ true
unfolding rup
two_follows s c h e =
    subst (λ (d : List Literal). rup (known s) d ≡ true) (sym e)
    (or_right (has_opposites (plus 2 ∷ [])) _ (conflicts_from_derivation (known s) (minus 2 ∷ []) (minus 1 ∷ plus 3 ∷ []) second
    ((third, may_use s h.three.0 third h.three.1, refl, refl), ((first, may_use s h.one.0 first h.one.1, refl, refl), tt)) (may_use s h.two.0 second h.two.1) refl))

pub two_lits : (a b c d : Literal) → a ≡ c → b ≡ d → a ∷ b ∷ [] ≡ c ∷ d ∷ []
two_lits a b c d e f = λ i. e i ∷ f i ∷ []

-- a list of two is what is read at its two places
pub two_read : (xs : List Literal) (a b : Literal) → length xs ≡ 2 → slice_get xs 0 ≡ Some a → slice_get xs 1 ≡ Some b → xs ≡ a ∷ b ∷ []
two_read [] a b n e f = absurd (omega (arith, n))
two_read (x ∷ []) a b n e f = absurd (omega (arith, n))
two_read (x ∷ y ∷ []) a b n e f = two_lits x y a b (ap (λ (o : Option Literal). unwrap_or o a) e) (ap (λ (o : Option Literal). unwrap_or o b) f)
two_read (x ∷ y ∷ z ∷ zs) a b n e f = absurd (omega (arith, n))

-- a look leaves the clauses that are held
pub lits_stay : (s : PortState) (place a : ℕ) → lits_at (looked_into 0 0 place s) a ≡ lits_at s a
unfolding held_at
lits_stay s place a = refl

-- and their heads
pub heads_stay : (s : PortState) (place a : ℕ) → held_at (looked_into 0 0 place s) a ≡ held_at s a
unfolding held_at
heads_stay s place a = refl

-- a ring has the same others as long as it plays
pub others_stay : (s t : PortState) → IsPlayer s → IsPlayer t → t.ring ≡ s.ring → length (other_rings t) ≡ length (other_rings s)
others_stay s t h k ring =
    ap (λ (n : ℕ). length (filter (λ (r : ℕ). not (r == n)) (range_with_len 0 t.rings))) ring ∙ ap (λ (n : ℕ). length (filter (λ (r : ℕ). not (r == s.ring)) (range_with_len 0 n))) (k.rings ∙ sym h.rings)

-- What stays if a clause is given up

-- clauses that a test tells apart are at different addresses
at_left : (old new : PortState) (a b : ℕ) (c d : List Literal) (f : List Literal → Bool) → f c ≡ true → f d ≡ false → DroppedOnce old new a → IsAt old a d → IsAt old b c → IsAt new b c
at_left old new a b c d f has_it lacks_it k there h =
    let apart : b ≢ a = λ e. true≢false (sym has_it ∙ ap f (sym h.lits ∙ ap (lits_at old) e ∙ there.lits) ∙ lacks_it) in
    let same = dropped_others old new a b k apart in
    record { held = subst (λ (o : Option Holding). IsSome o) (sym same) h.held; lits = ap lits_in same ∙ h.lits }

player_left : (old new : PortState) (a : ℕ) (d : List Literal) (f : List Literal → Bool) → f first ≡ true → f second ≡ true → f third ≡ true → f d ≡ false → DroppedOnce old new a → IsAt old a d → IsPlayer old → IsPlayer new
player_left old new a d f one two three lacks_it k there h = record {
  vars = ap (λ (s : PortState). s.vars) k.state ∙ h.vars;
  rings = ap (λ (s : PortState). s.rings) k.state ∙ h.rings;
  depth = subst (λ (n : ℕ). 1 ≤ n) (sym (ap (λ (s : PortState). s.depth) k.state)) h.depth;
  usable = ap (λ (s : PortState). is_usable s.refused) k.state ∙ h.usable;
  plain = ap (λ (s : PortState). s.hinted) k.state ∙ h.plain;
  one = (h.one.0, at_left old new a h.one.0 first d f one lacks_it k there h.one.1);
  two = (h.two.0, at_left old new a h.two.0 second d f two lacks_it k there h.two.1);
  three = (h.three.0, at_left old new a h.three.0 third d f three lacks_it k there h.three.1);
}

stays_left : (old new : PortState) (a : ℕ) → DroppedOnce old new a → Stays old new
stays_left old new a k = record { ring = ap (λ (s : PortState). s.ring) k.state; depth = ap (λ (s : PortState). s.depth) k.state; home = ap (λ (s : PortState). s.home) k.state }

-- three literals, or the negation of 1; or 3 or its negation
abbrev is_start : List Literal → Bool
is_start c = has c (plus 3) || (has c (minus 3) || has c (minus 1))

pub pair_left : (old new : PortState) (a : ℕ) → DroppedOnce old new a → IsAt old a pair → IsIdle old → IsIdle new × Keeps old new
pair_left old new a k there h = (
  record {
    player = player_left old new a pair is_start refl refl refl refl k there h.player;
    taken = ap (λ (s : PortState). s.taken) k.state ∙ h.taken;
    free = subst (λ (s : PortState). IsFree s later) (sym k.state) h.free;
    draws = record { none = ap (λ (s : PortState). s.ticket) k.state ∙ h.draws.none; left = subst (λ (s : PortState). s.found ≤ s.limit) (sym k.state) h.draws.left };
  },
  record { same = stays_left old new a k; spare = λ b at. at_left old new a b spare pair is_start refl refl k there at },
)

-- 1 or its negation, or 3
abbrev is_other : List Literal → Bool
is_other c = has c (plus 1) || (has c (minus 1) || has c (plus 3))

pub later_left : (old new : PortState) (a : ℕ) → DroppedOnce old new a → IsAt old a later → IsDone old → IsDone new × Keeps old new
later_left old new a k there h = (
  record { player = player_left old new a later is_other refl refl refl refl k there h.player; taken = ap (λ (s : PortState). s.taken) k.state ∙ h.taken },
  record { same = stays_left old new a k; spare = λ b at. at_left old new a b spare later is_other refl refl k there at },
)

-- 1 or its negation
abbrev has_one : List Literal → Bool
has_one c = has c (plus 1) || has c (minus 1)

pub spare_left : (old new : PortState) (a : ℕ) → DroppedOnce old new a → IsAt old a spare → IsPlayer old → IsPlayer new
spare_left old new a k there h = player_left old new a spare has_one refl refl refl refl k there h

at_same : (s t : PortState) (a : ℕ) (c : List Literal) → t.held ≡ s.held → IsAt s a c → IsAt t a c
at_same s t a c e h = let same = same_lookup s t a e in record { held = subst (λ (o : Option Holding). IsSome o) (sym same) h.held; lits = ap lits_in same ∙ h.lits }

pub player_tidied : (s t : PortState) (k : ℕ) → TidiedUpTo s t k → IsPlayer s → IsPlayer t
player_tidied s t n k h =
    let same = ap (λ (x : PortState). x.held) k.state in
    record {
      vars = ap (λ (x : PortState). x.vars) k.state ∙ h.vars;
      rings = ap (λ (x : PortState). x.rings) k.state ∙ h.rings;
      depth = subst (λ (n : ℕ). 1 ≤ n) (sym (ap (λ (x : PortState). x.depth) k.state)) h.depth;
      usable = ap (λ (x : PortState). is_usable x.refused) k.state ∙ h.usable;
      plain = ap (λ (x : PortState). x.hinted) k.state ∙ h.plain;
      one = (h.one.0, at_same s t h.one.0 first same h.one.1);
      two = (h.two.0, at_same s t h.two.0 second same h.two.1);
      three = (h.three.0, at_same s t h.three.0 third same h.three.1);
    }

-- Draws

player_drew : (s t : PortState) → Drew s t → IsPlayer s → IsPlayer t
player_drew s t k h =
    let same = ap (λ (x : PortState). x.held) k.state in
    record {
      vars = ap (λ (x : PortState). x.vars) k.state ∙ h.vars;
      rings = ap (λ (x : PortState). x.rings) k.state ∙ h.rings;
      depth = subst (λ (n : ℕ). 1 ≤ n) (sym (ap (λ (x : PortState). x.depth) k.state)) h.depth;
      usable = ap (λ (x : PortState). is_usable x.refused) k.state ∙ h.usable;
      plain = ap (λ (x : PortState). x.hinted) k.state ∙ h.plain;
      one = (h.one.0, at_same s t h.one.0 first same h.one.1);
      two = (h.two.0, at_same s t h.two.0 second same h.two.1);
      three = (h.three.0, at_same s t h.three.0 third same h.three.1);
    }

ticket_drew : (s t : PortState) → Drew s t → t.found ≤ s.limit → HasTicket t
ticket_drew s t k few = record {
  some = ap (λ (x : PortState). x.ticket) k.state ∙ le-leb t.found s.limit few;
  left = subst (λ (n : ℕ). t.found ≤ n) (sym (ap (λ (x : PortState). x.limit) k.state)) few;
}

-- a draw that gives a ticket readies a ring that has done nothing
pub drew_first : (s t : PortState) → Drew s t → t.found ≤ s.limit → IsBegun s → IsReady t
drew_first s t k few h = record {
  player = player_drew s t k h.player;
  starts = ap start_lits k.state ∙ h.starts;
  mine = ap (λ (x : PortState). x.mine) k.state ∙ h.mine;
  taken = ap (λ (x : PortState). x.taken) k.state ∙ h.taken;
  drew = ticket_drew s t k few;
}

-- and one that may learn the later clause
pub drew_again : (s t : PortState) → Drew s t → t.found ≤ s.limit → IsIdle s → IsReadyAgain t
drew_again s t k few h = record {
  player = player_drew s t k h.player;
  taken = ap (λ (x : PortState). x.taken) k.state ∙ h.taken;
  free = subst (λ (x : PortState). IsFree x later) (sym k.state) h.free;
  drew = ticket_drew s t k few;
}

-- it keeps the clauses
pub drew_keeps : (s t : PortState) → Drew s t → Keeps s t
drew_keeps s t k = record {
  same = record { ring = ap (λ (x : PortState). x.ring) k.state; depth = ap (λ (x : PortState). x.depth) k.state; home = ap (λ (x : PortState). x.home) k.state };
  spare = λ a at. at_same s t a spare (ap (λ (x : PortState). x.held) k.state) at;
}

-- How a ring begins

abbrev starts : ℕ → List Holding
starts a = map (holding_of (start_glues (starts_at a four))) (starts_at a four)

at_start : (s : PortState) (h : Holding) → held_at s h.address ≡ Some h → IsAt s h.address h.lits
at_start s h e = record { held = subst (λ (o : Option Holding). IsSome o) (sym e) refl; lits = lits_of_holding s h.address h e }

-- all start clauses are held if the opening has them
held_starts : (s : PortState) (a : ℕ) → s.start ≡ starts a → HoldsStart s → All (λ (h : Holding). held_at s h.address ≡ Some h) (starts a)
held_starts s a e holds = subst (All (λ (h : Holding). held_at s h.address ≡ Some h)) e holds

module _ {B : Type 0} (t : Shared B) (s : PortState) (v : View) (r : ℕ) (home : List ℕ) (cs : List Cref) (is : s ≡ begun_as v r home) (four_is : BeginsWithFour t v.opening cs) (holds : HoldsStart s) where
  start_is : s.start ≡ starts four_is.from
  start_is = ap (λ (x : PortState). x.start) is ∙ ap (λ (hs : List ClauseAt). map (holding_of (start_glues hs)) hs) four_is.starts

  none : Holding
  none = record { address = 0; number = 0; glue = 0; lits = [] }

  held : All (λ (h : Holding). held_at s h.address ≡ Some h) (starts four_is.from)
  held = held_starts s four_is.from start_is holds

  pub depth_is : s.depth ≡ v.opening.depth
  depth_is = ap (λ (x : PortState). x.depth) is

  pub begins : v.layout ≡ t.layout → IsBegun s
  begins layout = record {
    player = record {
      vars = ap (λ (x : PortState). x.vars) is ∙ ap (λ (l : Layout). l.vars) layout ∙ four_is.vars;
      rings = ap (λ (x : PortState). x.rings) is ∙ four_is.rings;
      depth = subst (λ (n : ℕ). 1 ≤ n) (sym depth_is) four_is.depth;
      usable = ap (λ (x : PortState). is_usable x.refused) is;
      plain = ap (λ (x : PortState). x.hinted) is ∙ four_is.plain;
      one = (_, at_start s _ (held 0 none (omega arith)));
      two = (_, at_start s _ (held 1 none (omega arith)));
      three = (_, at_start s _ (held 2 none (omega arith)));
    };
    starts = ap (λ (hs : List Holding). map (λ (h : Holding). h.lits) hs) start_is;
    mine = ap (λ (x : PortState). x.mine) is;
    taken = ap (λ (x : PortState). x.taken) is;
    draws = record { none = ap (λ (x : PortState). x.ticket) is; left = (let none_found = ap (λ (x : PortState). x.found) is in omega arith) };
  }

  pub spare_at : (c : Cref) → slice_get cs 3 ≡ Some c → IsAt s c.address spare
  spare_at c get =
      let there : slice_get (addresses (starts_at four_is.from four)) 3 ≡ Some c = sym (ap (λ (ds : List Cref). slice_get ds 3) (four_is.cells ∙ ap addresses four_is.starts)) ∙ get in
      let same : c ≡ unwrap_or (slice_get (addresses (starts_at four_is.from four)) 3) c = sym (ap (λ (o : Option Cref). unwrap_or o c) there) in
      subst (λ (x : Cref). IsAt s x.address spare) (sym same) (at_start s _ (held 3 none (omega arith)))

-- How it ends

pub home_left : {B : Type 0} (t : Shared B) (s m u : PortState) → IsHome t s → Stays s m → Stays m u → IsHome t u
home_left t s m u h a b = λ p pass. b.home ∙ a.home ∙ h p pass

-- one more ring that builds no cell
pub none_more : (qs ps : List RingPart) (p : RingPart) → ps ≡ qs ++ p ∷ [] → p.core.making ≡ [] → NoneBuild qs → NoneBuild ps
none_more qs ps p is none h = subst NoneBuild (sym is) (by qs h)
  where
    by : (rs : List RingPart) → NoneBuild rs → NoneBuild (rs ++ p ∷ [])
    by [] k = (none, tt)
    by (r ∷ rs) k = (k.0, by rs k.1)

-- if both rings have begun, none is left to begin
pub all_begun : {B : Type 0} (t : Shared B) (p : Seat (Option B) View) → IsFirst t p 2 → p.me.0.opening.rings ≡ 2 → p.me.0.parts ≡ [] → IsGathered t p 2
all_begun t p h rings none_yet = record {
  pass = h.pass;
  slots = h.slots;
  rings = λ r le lt. let k = rings in absurd (omega arith);
  free = subst NoTurns (sym none_yet) tt;
}
