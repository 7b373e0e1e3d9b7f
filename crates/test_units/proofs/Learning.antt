-- What a ring learned since it last reduced, in the journal that it took.
use Rattle.std.proofs.Common.{◌≡◌, ◌∙◌, true, List, ◌++◌, map, sym, ap, Some}
use Rattle.std.specs.Prelude.{not, ◌&&◌}
use Rattle.std.specs.List.{list_any}
use lib.ListN.{get_elem?}
use Rattle.sat_words.specs.Literal.{Literal}
use Rattle.sat_words.specs.Clause.{includes}
use Rattle.rup_model.specs.Journal.{fresh, recent}
use Rattle.rup_model.specs.Opening.{start_clauses}
use Rattle.share_core.specs.declared.part.Part.{Part}
use Rattle.share_core.specs.declared.part.Placed.{Placed}
use Rattle.share_core.specs.State.{opening_of, later}
use Rattle.share_core.specs.Learning.{may_learn}
use Rattle.share_core.proofs.Leaving.{left_sound}
use Rattle.share_core.proofs.Plainly.{recent_own}
use Rattle.share_rule.specs.declared.view.View.{View}
use Rattle.share_rule.specs.Views.{only}
use Rattle.share_rule.specs.Seen.{IsPart, Seen, turn_of}
use Rattle.share_rule.specs.Shown.{ring_of}
use Rattle.share_rule.specs.Turns.{IsWriting, journal_in}
use Rattle.share_rule.proofs.Moves.{turn_is}

-- after the opening it is what it learned by its own entries
pub recent_taken : (v : View) → Seen v → IsWriting v → recent (only v).core.ring (later v.opening (journal_in (only v).turn)) ≡ recent (only v).core.ring (map (λ (w : Placed). w.entry) (only v).core.wrote)
recent_taken v s w =
    let part : IsPart v.layout s.core s.glue (only v) = s.parts 0 (only v) (ap (λ ps. get_elem? ps 0) w.0) in
    let is : turn_of s.core (ring_of (only v)) ≡ Some w.1.0 = sym part.turn ∙ w.1.1 in
    let J : journal_in (only v).turn ≡ s.core.journal = ap journal_in w.1.1 ∙ turn_is s.core (ring_of (only v)) w.1.0 is in
    (λ i. recent (ring_of (only v)) (later (s.opening i) (J i))) ∙ recent_own s.core (ring_of (only v)) (left_sound s.core.opening s.core s.left) part.ring ∙ ap (λ (p : Part). recent (ring_of (only v)) (map (λ (w : Placed). w.entry) p.wrote)) (sym part.part)

-- so with a ticket a clause that is new by the ring's own entries may be learned
pub may_learn_taken : (v : View) → Seen v → IsWriting v → (lits : List Literal) → fresh (start_clauses (opening_of v.opening)) (map (λ (w : Placed). w.entry) (only v).core.wrote) (only v).core.ring lits ≡ true → (only v).core.ticket ≡ true → may_learn v.opening (journal_in (only v).turn) (only v).core (only v).core.ring lits ≡ true
may_learn_taken v s w lits new ticket = (λ i. ticket i && not (list_any (includes lits) (start_clauses (opening_of v.opening) ++ recent_taken v s w i))) ∙ new
