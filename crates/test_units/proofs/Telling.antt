-- The last unit that a ring wrote has its number in the journal that it takes later.
use Rattle.std.proofs.Common.{◌≡◌, ◌∙◌, ℕ, ◌+◌, ◌==◌, Bool, true, false, List, [], ◌∷◌, map, length, refl, sym, ap, subst, cond, Some, inl, inr}
use Rattle.std.proofs.lemmas.List.{map-append}
use lib.ListN.{get_elem?}
use Rattle.sat_words.specs.Literal.{Literal}
use Rattle.rup_model.specs.declared.journal.Addition.{Addition}
use Rattle.rup_model.specs.declared.journal.Kind.TheVariants.{Learn}
use Rattle.rup_model.specs.declared.journal.Entry.{Entry}
use Rattle.rup_model.specs.declared.journal.Entry.TheVariants.{Add}
use Rattle.rup_model.specs.Journal.{book, ring_of as writer_of}
use Rattle.rup_model.proofs.Lists.{In, In_append_right}
use Rattle.share_core.specs.declared.part.Part.{Part}
use Rattle.share_core.specs.declared.part.Placed.{Placed}
use Rattle.share_core.specs.Sound.{placed}
use Rattle.share_core.proofs.Leaving.{left_sound}
use Rattle.share_rule.specs.declared.view.View.{View}
use Rattle.share_rule.specs.Views.{only}
use Rattle.share_rule.specs.Seen.{IsPart, Seen, turn_of}
use Rattle.share_rule.specs.Shown.{ring_of}
use Rattle.share_rule.specs.Turns.{IsWriting, journal_in}
use Rattle.share_rule.proofs.Moves.{turn_is}
use Rattle.unit_share.proofs.Numbered.{unit_numbered}
use Rattle.test_units.specs.Samples.{WroteLast}

abbrev entries : List Placed → List Entry
entries ws = map (λ (w : Placed). w.entry) ws

in_cond : (e x : Entry) (r i : ℕ) (K : List Entry) → (In x (entries (placed r (i + 1) K)) → In x K)
    → (b : Bool) → In x (entries (cond b (record { place = i; entry = e } ∷ placed r (i + 1) K) (placed r (i + 1) K))) → In x (e ∷ K)
in_cond e x r i K more true (inl q) = inl q
in_cond e x r i K more true (inr q) = inr (more q)
in_cond e x r i K more false q = inr (more q)

-- the ring's entries are among all
in_own : (x : Entry) (r i : ℕ) (K : List Entry) → In x (entries (placed r i K)) → In x K
in_own x r i [] h = h
in_own x r i (e ∷ K) h = in_cond e x r i K (in_own x r (i + 1) K) (writer_of e == r) h

pub told_own : (v : View) → Seen v → IsWriting v → (ring number : ℕ) (lit : Literal) → WroteLast ring lit number (only v).core → (book v.opening.formula (journal_in (only v).turn)).clause number ≡ Some (lit ∷ [])
told_own v s w ring number lit own =
    let x : Addition = record { ring = ring; number = number; lits = lit ∷ []; kind = Learn; hints = [] } in
    let part : IsPart v.layout s.core s.glue (only v) = s.parts 0 (only v) (ap (λ ps. get_elem? ps 0) w.0) in
    let is : turn_of s.core (ring_of (only v)) ≡ Some w.1.0 = sym part.turn ∙ w.1.1 in
    let J : journal_in (only v).turn ≡ s.core.journal = ap journal_in w.1.1 ∙ turn_is s.core (ring_of (only v)) w.1.0 is in
    let sound = left_sound s.core.opening s.core s.left in
    let e = sound.entries in
    let K : List Entry = e.0 in
    let front : List Entry = s.core.opening.journal in
    let mine : In (Add x) (entries (only v).core.wrote) = subst (λ (ws : List Placed). In (Add x) (entries ws)) (sym own.2) (subst (In (Add x)) (sym (map-append (λ (p : Placed). p.entry) own.1 (record { place = own.0; entry = Add x } ∷ []))) (In_append_right (entries own.1) (Add x ∷ []) (Add x) (inl refl))) in
    let there : In (Add x) K = in_own (Add x) (ring_of (only v)) (length front) K (subst (λ (ws : List Placed). In (Add x) (entries ws)) (ap (λ (p : Part). p.wrote) part.part ∙ e.2 (ring_of (only v)) part.ring) mine) in
    (λ i. (book (s.opening i).formula (J i)).clause number) ∙ unit_numbered s.core.opening.formula s.core.journal x lit sound.log.log.fits (subst (In (Add x)) (sym e.1) (In_append_right front K (Add x) there)) refl
