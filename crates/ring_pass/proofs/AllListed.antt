-- What keeps each unit that a ring wrote listed.
use Rattle.std.proofs.Common.{◌≡◌, Bool, true, false, ◌&&◌, ◌||◌, List, [], ◌∷◌, ◌++◌, map, refl, sym, ap, subst, ◌∙◌}
use Rattle.std.specs.List.{list_any, list_all}
use Rattle.std.proofs.lemmas.Bool.{and_parts, true≢false, false≢true}
use Rattle.std.proofs.lemmas.List.{map-append}
use Rattle.std.proofs.lemmas.List.Folds.{list_any-append}
use Rattle.sat_words.specs.Literal.{Literal, same}
use Rattle.sat_words.specs.Clause.{has, same_set}
use Rattle.sat_words.proofs.Members.{same-true}
use Rattle.rup_model.specs.declared.journal.Entry.{Entry}
use Rattle.rup_model.specs.Journal.{added}
use Rattle.rup_model.specs.Opening.{IsLong}
use Rattle.rup_model.proofs.Additions.{added-append}
use Rattle.rup_model.proofs.Units.{long_two, unit_short}
use Rattle.share_core.specs.declared.part.Placed.{Placed}
use Rattle.share_rule.specs.declared.view.RingPart.{RingPart}
use Rattle.ring_pass.specs.RingState.{HasListed}
use Rattle.ring_pass.specs.Sights.{wrote_unit}
use Rattle.ring_pass.specs.Writes.{entries_of}

-- Units among entries

-- these entries add the unit
abbrev pub adds : List Entry → Literal → Bool
adds es l = list_any (same_set (l ∷ [])) (added es)

adds_more : (es fs : List Entry) (l : Literal) → adds (es ++ fs) l ≡ (adds es l || adds fs l)
adds_more es fs l = ap (list_any (same_set (l ∷ []))) (added-append es fs) ∙ list_any-append (same_set (l ∷ [])) (added es) (added fs)

-- entries that add no unit
abbrev pub AddNone : List Entry → Type 0
AddNone es = (l : Literal) → adds es l ≡ false

-- a clause of two literals or more is no unit
pub long_none : (c : List Literal) → IsLong c → (l : Literal) → list_any (same_set (l ∷ [])) (c ∷ []) ≡ false
long_none c long l = by (same_set (l ∷ []) c) refl
  where
    by : (b : Bool) → same_set (l ∷ []) c ≡ b → (b || false) ≡ false
    by true e = absurd (true≢false (sym (long_two c long) ∙ unit_short l c e))
    by false e = refl

-- More entries

-- some that add no unit
pub listed_more : (p q : RingPart) (es : List Entry) → entries_of q ≡ entries_of p ++ es → q.core.seen ≡ p.core.seen → AddNone es → HasListed p → HasListed q
listed_more p q es wrote seen none h l w =
    ap (λ (ls : List Literal). has ls l) seen ∙ h l (by (wrote_unit p l) (sym (ap (λ (fs : List Entry). adds fs l) wrote ∙ adds_more (entries_of p) es l ∙ (λ i. wrote_unit p l || none l i)) ∙ w))
  where
    by : (b : Bool) → (b || false) ≡ true → b ≡ true
    by true e = refl
    by false e = e

-- one that adds no unit
pub listed_last : (p q : RingPart) (x : Placed) → q.core.wrote ≡ p.core.wrote ++ x ∷ [] → q.core.seen ≡ p.core.seen → AddNone (x.entry ∷ []) → HasListed p → HasListed q
listed_last p q x wrote seen none h =
    listed_more p q (x.entry ∷ []) (ap (map (λ (e : Placed). e.entry)) wrote ∙ map-append (λ (e : Placed). e.entry) p.core.wrote (x ∷ [])) seen none h

-- Units

-- more units are seen
pub listed_sees : (p q : RingPart) → entries_of q ≡ entries_of p → ((l : Literal) → has p.core.seen l ≡ true → has q.core.seen l ≡ true) → HasListed p → HasListed q
listed_sees p q wrote more h l w = more l (h l (ap (λ (es : List Entry). adds es l) (sym wrote) ∙ w))

-- two units that are the same
same_unit : (l k : Literal) → same_set (l ∷ []) (k ∷ []) ≡ true → k ≡ l
same_unit l k e = same-true k l (by (same k l) (and_parts (list_all (has (l ∷ [])) (k ∷ [])) (list_all (has (k ∷ [])) (l ∷ [])) e).0)
  where
    by : (b : Bool) → ((b || false) && true) ≡ true → b ≡ true
    by true h = refl
    by false h = h

-- one that adds a unit which is seen then
pub listed_unit : (p q : RingPart) (x : Placed) (lit : Literal) → q.core.wrote ≡ p.core.wrote ++ x ∷ [] → added (x.entry ∷ []) ≡ (lit ∷ []) ∷ [] → ((l : Literal) → has p.core.seen l ≡ true → has q.core.seen l ≡ true) → has q.core.seen lit ≡ true → HasListed p → HasListed q
listed_unit p q x lit wrote unit more there h l w = by (wrote_unit p l) (h l) (same_set (l ∷ []) (lit ∷ [])) refl (sym is ∙ w)
  where
    is : wrote_unit q l ≡ (wrote_unit p l || (same_set (l ∷ []) (lit ∷ []) || false))
    is = ap (λ (fs : List Entry). adds fs l) (ap (map (λ (e : Placed). e.entry)) wrote ∙ map-append (λ (e : Placed). e.entry) p.core.wrote (x ∷ [])) ∙ adds_more (entries_of p) (x.entry ∷ []) l
        ∙ (λ i. wrote_unit p l || list_any (same_set (l ∷ [])) (unit i))

    by : (a : Bool) → (a ≡ true → has p.core.seen l ≡ true) → (b : Bool) → same_set (l ∷ []) (lit ∷ []) ≡ b → (a || (b || false)) ≡ true → has q.core.seen l ≡ true
    by true old b e f = more l (old refl)
    by false old true e f = subst (λ (k : Literal). has q.core.seen k ≡ true) (same_unit l lit e) there
    by false old false e f = absurd (false≢true f)
