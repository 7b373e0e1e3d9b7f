-- The table is taken apart.
use Rattle.std.proofs.Common.{◌≡◌, ℕ, zero, suc, ◌<◌, ◌==◌, true, false, List, [], ◌∷◌, map, refl, sym, ap, ◌∙◌, subst, arith, ne_eqb, Option, Some, None, Bool}
use mathlib.Core.Option.{some, some-injective, some-ne-none}
use mathlib.Core.Logic.{dite}
use native.Mathlib.Decide.{ℕ_discrete}
use lib.ListN.{get_elem?}
use Rattle.atomic_table.specs.Table.{Final, Seen as Sees}
use Rattle.rup_model.specs.declared.journal.Entry.{Entry}
use Rattle.rup_model.specs.Basics.{one_if}
use Rattle.sat_words.specs.Literal.{Literal}
use Rattle.share_core.specs.declared.part.CoreOpening.{CoreOpening}
use Rattle.share_core.specs.declared.part.Part.{Part}
use Rattle.share_core.specs.declared.stored.Cell.{Cell}
use Rattle.share_core.specs.State.{State, times_at, maker_at}
use Rattle.share_core.specs.Sound.{Sound}
use Rattle.share_core.proofs.Counting.{none_some, made_by}
use Rattle.share_core.proofs.Leaving.{left_sound}
use Rattle.share_rule.specs.declared.view.BookOrigin.{BookOrigin}
use Rattle.share_rule.specs.declared.Layout.{Layout}
use Rattle.share_rule.specs.declared.rule.Key.{Key}
use Rattle.share_rule.specs.declared.view.RingPart.{RingPart}
use Rattle.share_rule.specs.declared.view.View.{View}
use Rattle.share_rule.specs.Views.{times_in, is_ready}
use Rattle.share_rule.specs.Seen.{Seen, turn_of}
use Rattle.share_rule.specs.Shown.{Shown, Shows, Words, ring_of}
use Rattle.share_rule.specs.Rests.{NoneBuild, IsAtEnd, HasHoles}
use Rattle.share_rule.specs.Books.{Account, StandsFor}
use Rattle.share_rule.specs.Room.{room}
use Rattle.share_rule.specs.Passes.{IsWhole, NoTurns, TellsFaults}
use Rattle.share_rule.proofs.Parts.{is_open, seen_with}
use Rattle.share_rule.proofs.Moves.{part_owner, told_own, turn_some}

part_at : (r : ℕ) (ps : List RingPart) → 0 < times_in r (map ring_of ps) → (i : ℕ) × (p : RingPart) × (get_elem? ps i ≡ some p) × (ring_of p ≡ r)
part_at r [] h = absurd (omega arith)
part_at r (p ∷ ps) h = dite (ℕ_discrete (ring_of p) r)
    (λ e. (0, p, refl, e))
    (λ ne. let z : one_if (ring_of p == r) ≡ 0 = ap one_if (ne_eqb (ring_of p) r ne) in let t = part_at r ps (omega arith) in (suc t.0, t.1, t.2, t.3))

no_turn_at : (ps : List RingPart) (i : ℕ) (p : RingPart) → NoTurns ps → get_elem? ps i ≡ some p → p.turn ≡ None
no_turn_at [] i p h e = absurd (some-ne-none p (sym e))
no_turn_at (q ∷ ps) zero p h e = ap (λ (x : RingPart). x.turn) (sym (some-injective q p e)) ∙ h.0
no_turn_at (q ∷ ps) (suc i) p h e = no_turn_at ps i p h.1 e

none_of : (t : Option ℕ) → ((r : ℕ) → t ≡ Some r → ⊥) → t ≡ None
none_of None h = refl
none_of (Some r) h = absurd (h r refl)

pub closes : {S : Type 0} (stands : S → BookOrigin → Layout → CoreOpening → List Entry → Bool → Type 0) (k : Key) (id : ℕ) (v : View) (ws : List ℕ) (xs : List (Option S)) (slot : Option S) → is_ready v.stage ≡ true → IsWhole v → NoTurns v.parts
    → Final (Sees (Shown stands k) id v) ws xs → get_elem? xs 0 ≡ some slot → (s : Seen v) × (b : S) × (slot ≡ Some b) × ((fault : Bool) × stands b v.origin v.layout v.opening s.core.journal fault × TellsFaults v.parts fault × Words v.layout s.core s.glue ws)
closes stands k id v ws xs slot ready whole none f at_slot =
    let s = f.0 in
    let h : Shows stands k.layout s = is_open stands k s id v f.1.0 f.1.1 ready in
    let c : State = h.core in
    let fit = h.each id v f.1.1 in
    let t = fit.told ready in
    let free : c.turn ≡ None = none_of c.turn (λ r e.
    let own = h.turned r e in
    let p = part_at r v.parts (whole r (subst (λ (o : CoreOpening). r < o.rings) (sym t.1) own.0)) in
    none_some (record { journal = c.journal }) (sym (no_turn_at v.parts p.0 p.1 none p.2) ∙ (fit.parts p.0 p.1 p.2).turn ∙ ap (turn_of c) p.3 ∙ turn_some c r e)) in
    let own : (r : ℕ) → r < c.opening.rings → h.owner r ≡ id =
    λ r lt. let p = part_at r v.parts (whole r (subst (λ (o : CoreOpening). r < o.rings) (sym t.1) lt)) in
    ap h.owner (sym p.3) ∙ (part_owner k.layout c h.glue h.owner id v p.0 p.1 fit p.2).1 in
    let home = h.home free in
    let seen = seen_with stands k.layout s id v h f.1.1 ready in (
      seen.0,
      home.0,
      some-injective slot (Some home.0) (sym at_slot ∙ f.4 0 (Some home.0) home.1),
      (
        h.fault,
        subst (λ (y : BookOrigin × (Layout × (CoreOpening × List Entry))). stands home.0 y.0 y.1.0 y.1.1.0 y.1.1.1 h.fault) (λ i. (sym (h.origins id v f.1.1 ready) i, (sym t.0 i, (sym t.1 i, ap (λ (q : State). q.journal) (sym seen.1) i)))) home.2,
        record {
          told = λ i p e. (h.faults id v i p f.1.1 e).told;
          teller = λ e. told_own stands k.layout s h id v f.1.1 own (h.teller e);
        },
        subst (λ (y : Layout × (State × ((ℕ → ℕ) × List ℕ))). Words y.0 y.1.0 y.1.1.0 y.1.1.1) (λ i. (sym t.0 i, (sym seen.1 i, (sym seen.2 i, f.2 i)))) h.words,
      ),
    )

none_built_at : (ps : List RingPart) (i : ℕ) (p : RingPart) → NoneBuild ps → get_elem? ps i ≡ some p → p.core.making ≡ []
none_built_at [] i p h e = absurd (some-ne-none p (sym e))
none_built_at (q ∷ ps) zero p h e = ap (λ (x : RingPart). x.core.making) (sym (some-injective q p e)) ∙ h.0
none_built_at (q ∷ ps) (suc i) p h e = none_built_at ps i p h.1 e

-- if no ring builds a cell, each is open
all_built : (v : View) (s : Seen v) → IsWhole v → NoneBuild v.parts → (a : ℕ) (x : Cell) → s.core.cell a ≡ Some x → x.maker ≡ None
all_built v s whole none a x is = none_of x.maker (λ r e.
    let c : State = s.core in
    let sound : Sound c = left_sound c.opening c s.left in
    let lt = (sound.counts.making a x r is e).1 in
    let p = part_at r v.parts (whole r (subst (λ (o : CoreOpening). r < o.rings) (sym s.opening) lt)) in
    let same : p.1.core ≡ c.part r = (s.parts p.0 p.1 p.2).part ∙ ap c.part p.3 in
    let made : times_at a p.1.core.making ≡ 1 = ap (λ (q : Part). times_at a q.making) same ∙ sound.counts.makes r a lt ∙ made_by r (maker_at (c.cell a)) (ap maker_at is ∙ e) in
    let no : times_at a p.1.core.making ≡ 0 = ap (times_at a) (none_built_at v.parts p.0 p.1 none p.2) in
    let z : ⊥ = omega arith in z)

-- the words at the end of a table whose rings build no cell
pub ends_so : (l : Layout) (v : View) (s : Seen v) (ws : List ℕ) → v.layout ≡ l → IsWhole v → NoneBuild v.parts → Words v.layout s.core s.glue ws → IsAtEnd l s.core s.glue ws
ends_so l v s ws same whole none words = subst (λ (k : Layout). IsAtEnd k s.core s.glue ws) same (record {
  sound = left_sound s.core.opening s.core s.left;
  small = s.small;
  places = s.places;
  words = words;
  built = all_built v s whole none;
})

module _ {B : Type 0} (account : B → Account) (written : B → BookOrigin → Layout → List (List Literal) → List Entry → Type 0) where
  -- the holes of its book are those of the core, unless a write has failed
  pub holes_so : (l : Layout) (v : View) (s : Seen v) (b : B) (fault : Bool) → v.layout ≡ l → StandsFor account written b v.origin v.layout v.opening s.core.journal fault → (account b).broken ≡ false → HasHoles l s.core (account b).holes
  holes_so l v s b fault same st whole = st.holes whole ∙ (λ i. (room (same i) (s.opening i) s.core.journal).holes)
