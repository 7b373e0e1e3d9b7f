-- The states that changed lists show.
use Rattle.std.proofs.Common.{◌≡◌, ℕ, zero, suc, ◌+◌, ◌-◌, ◌<◌, ◌≤◌, ◌==◌, Bool, not, cond, List, [], ◌∷◌, ◌++◌, length, drop, get_or, set, Some, None, refl, sym, ap, ◌∙◌, arith, length-set}
use Rattle.std.specs.List.{filter}
use Rattle.std.specs.Prelude.{nat_lt}
use Rattle.std.proofs.lemmas.List.{get_or-set_same, get_or-set_other}
use mathlib.Core.Logic.{dite}
use native.Mathlib.Decide.{ℕ_discrete}
use Rattle.sat_words.specs.Literal.{Literal}
use Rattle.rup_model.specs.declared.journal.Kind.{Kind}
use Rattle.rup_model.specs.declared.journal.Entry.{Entry}
use Rattle.rup_model.specs.declared.journal.Entry.TheVariants.{Add, Del}
use Rattle.rup_model.specs.Basics.{put}
use Rattle.rup_model.specs.Journal.{ring_of, book}
use Rattle.rup_model.proofs.Sums.{at_put}
use Rattle.share_core.specs.declared.event.Event.TheVariants.{AddClause, OpenCell, Share, DropCount, Bury, Put, Get, Draw}
use Rattle.share_core.specs.declared.stored.ClauseAt.{ClauseAt}
use Rattle.share_core.specs.declared.stored.PutNote.{PutNote}
use Rattle.share_core.specs.declared.stored.StoredCell.{StoredCell}
use Rattle.share_core.specs.declared.ring.RingState.{RingState}
use Rattle.share_core.specs.State.{without_at, with_cell, CoreOpening, Part, State, count_at, number_at, clause_at, slot_of}
use Rattle.share_core.specs.Learning.{ticket_after, after_learn}
use Rattle.share_core.specs.Events.{wrote_part, written, addition_of, drew_part, seen_part, made_part, buried_part, opened_part, shared_part, dropped_part, put_part, got_part, recounted as recounts, exchanged, after}
use Rattle.share_core.specs.Sound.{placed}
use Rattle.share_core.specs.Machine.{CoreData, state_of, cell_in, recounted, no_ring, ring_in, part_of}
use Rattle.share_core.proofs.Places.{cell_more, cell_less, cell_recounted}
use Rattle.share_core.proofs.Shown.{placed_here, placed_else}

pub in_range : {X : Type 0} (xs : List X) (i : ℕ) (d e : X) → i < length xs → get_or xs i d ≡ get_or xs i e
in_range [] i d e h = absurd (omega arith)
in_range (x ∷ xs) zero d e h = refl
in_range (x ∷ xs) (suc i) d e h = in_range xs i d e (omega arith)

-- states with the same fields
pub states_same : (c d : State) → c.opening ≡ d.opening → c.journal ≡ d.journal → ((a : ℕ) → c.cell a ≡ d.cell a) → ((r : ℕ) → c.granted r ≡ d.granted r)
    → ((r : ℕ) → c.part r ≡ d.part r) → ((s : ℕ) → c.slot s ≡ d.slot s) → c.units ≡ d.units → c.numbers ≡ d.numbers → c.turn ≡ d.turn → c.stop ≡ d.stop → c.drawn ≡ d.drawn → c ≡ d
states_same c d o j f g p s u w t q n = λ i. record { opening = o i; journal = j i; cell = λ a. f a i; granted = λ r. g r i; part = λ r. p r i; slot = λ k. s k i; units = u i; numbers = w i; turn = t i; stop = q i; drawn = n i }

-- the part of ring r alone
pub ring_parts : (rings : List RingState) (r : ℕ) (x : RingState) (n : ℕ) (J : List Entry) (p : Part) → r < length rings → part_of r n J x ≡ p
    → (i : ℕ) → part_of i n J (ring_in (set rings r x) i) ≡ put (λ k. part_of k n J (ring_in rings k)) r p i
ring_parts rings r x n J p lt is i = sym (at_put (λ k. part_of k n J (ring_in rings k)) r p (λ (q : Part). q ≡ part_of i n J (ring_in (set rings r x) i)) i
    (λ e. sym is ∙ ap (part_of r n J) (sym (get_or-set_same rings r x no_ring lt)) ∙ (λ j. part_of (sym e j) n J (ring_in (set rings r x) (sym e j))))
    (λ ne. ap (part_of i n J) (sym (get_or-set_other rings r i x no_ring ne))))

-- and one more entry of it
pub ring_writes : (rings : List RingState) (r : ℕ) (x : RingState) (n : ℕ) (J : List Entry) (e : Entry) (p : Part) → r < length rings → n ≤ length J → ring_of e ≡ r → part_of r n (J ++ e ∷ []) x ≡ p
    → (i : ℕ) → part_of i n (J ++ e ∷ []) (ring_in (set rings r x) i) ≡ put (λ k. part_of k n J (ring_in rings k)) r p i
ring_writes rings r x n J e p lt le own is i = sym (at_put (λ k. part_of k n J (ring_in rings k)) r p (λ (q : Part). q ≡ part_of i n (J ++ e ∷ []) (ring_in (set rings r x) i)) i
    (λ h. sym is ∙ ap (part_of r n (J ++ e ∷ [])) (sym (get_or-set_same rings r x no_ring lt)) ∙ (λ j. part_of (sym h j) n (J ++ e ∷ []) (ring_in (set rings r x) (sym h j))))
    (λ ne. let w = placed_else i n J e le (λ q. ne (sym q ∙ own)) in let y = ring_in rings i in
    (λ j. record { ring = i; held = y.held; making = y.making; waiting = y.waiting; seen = y.seen; numbers = y.numbers; shared = y.shared; wrote = sym w j; puts = y.puts; ticket = y.ticket; found = y.found })
    ∙ ap (part_of i n (J ++ e ∷ [])) (sym (get_or-set_other rings r i x no_ring ne))))

pub grants_same : (rings : List RingState) (r : ℕ) (x : RingState) → r < length rings → x.granted ≡ (ring_in rings r).granted → (i : ℕ) → (ring_in (set rings r x) i).granted ≡ (ring_in rings i).granted
grants_same rings r x lt same i = dite (ℕ_discrete i r)
    (λ e. ap (λ (k : ℕ). (ring_in (set rings r x) k).granted) e ∙ ap (λ (y : RingState). y.granted) (get_or-set_same rings r x no_ring lt) ∙ same ∙ ap (λ (k : ℕ). (ring_in rings k).granted) (sym e))
    (λ ne. ap (λ (y : RingState). y.granted) (get_or-set_other rings r i x no_ring ne))

pub slots_put : (slots : List ℕ) (s v : ℕ) → s < length slots → (k : ℕ) → get_or (set slots s v) k 0 ≡ put (λ i. get_or slots i 0) s v k
slots_put slots s v lt k = sym (at_put (λ i. get_or slots i 0) s v (λ (q : ℕ). q ≡ get_or (set slots s v) k 0) k
    (λ e. sym (get_or-set_same slots s v 0 lt) ∙ ap (λ (i : ℕ). get_or (set slots s v) i 0) (sym e))
    (λ ne. sym (get_or-set_other slots s k v 0 ne)))

opening_same : (d : CoreData) (r : ℕ) (x : RingState) → ◌≡◌ {A = CoreOpening} (record { formula = d.formula; rings = length (set d.rings r x); depth = d.depth; journal = d.before; starts = d.starts; units = d.first; numbers = d.first_numbers; limit = d.limit; hinted = d.hinted }) (state_of d).opening
opening_same d r x = let e = length-set d.rings r x in λ i. record { formula = d.formula; rings = e i; depth = d.depth; journal = d.before; starts = d.starts; units = d.first; numbers = d.first_numbers; limit = d.limit; hinted = d.hinted }

module _ (d : CoreData) (r : ℕ) (x : RingState) (p : Part) (lt : r < length d.rings) (same : x.granted ≡ (ring_in d.rings r).granted) where
  pub recounted_shown : (a n : ℕ) → part_of r (length d.before) d.journal x ≡ p → state_of (record d { cells = recounted a n d.cells; rings = set d.rings r x }) ≡ recounts (state_of d) r a n p
  recounted_shown a n is = states_same (state_of (record d { cells = recounted a n d.cells; rings = set d.rings r x })) (recounts (state_of d) r a n p) (opening_same d r x) refl (cell_recounted a n d.cells) (grants_same d.rings r x lt same)
      (ring_parts d.rings r x (length d.before) d.journal p lt is) (λ k. refl) refl refl refl refl refl

  pub exchanged_shown : (s a : ℕ) → s < length d.slots → part_of r (length d.before) d.journal x ≡ p → state_of (record d { slots = set d.slots s a; rings = set d.rings r x }) ≡ exchanged (state_of d) r s a p
  exchanged_shown s a room is = states_same (state_of (record d { slots = set d.slots s a; rings = set d.rings r x })) (exchanged (state_of d) r s a p) (opening_same d r x) refl (λ b. refl) (grants_same d.rings r x lt same)
      (ring_parts d.rings r x (length d.before) d.journal p lt is) (slots_put d.slots s a room) refl refl refl refl refl

  module _ (e : Entry) (le : length d.before ≤ length d.journal) (own : ring_of e ≡ r) (is : part_of r (length d.before) (d.journal ++ e ∷ []) x ≡ p) where
    pub begun_shown : (y : StoredCell) → cell_in y.address d.cells ≡ None
        → state_of (record d { journal = d.journal ++ e ∷ []; cells = d.cells ++ y ∷ []; rings = set d.rings r x }) ≡ record (state_of d) { journal = d.journal ++ e ∷ []; cell = put (state_of d).cell y.address (Some y.cell); part = put (state_of d).part r p }
    begun_shown y free = states_same (state_of (record d { journal = d.journal ++ e ∷ []; cells = d.cells ++ y ∷ []; rings = set d.rings r x })) (record (state_of d) { journal = d.journal ++ e ∷ []; cell = put (state_of d).cell y.address (Some y.cell); part = put (state_of d).part r p })
        (opening_same d r x) refl (cell_more y.address d.cells y refl free) (grants_same d.rings r x lt same) (ring_writes d.rings r x (length d.before) d.journal e p lt le own is) (λ k. refl) refl refl refl refl refl

    pub noted_shown : state_of (record d { journal = d.journal ++ e ∷ []; rings = set d.rings r x }) ≡ record (state_of d) { journal = d.journal ++ e ∷ []; part = put (state_of d).part r p }
    noted_shown = states_same (state_of (record d { journal = d.journal ++ e ∷ []; rings = set d.rings r x })) (record (state_of d) { journal = d.journal ++ e ∷ []; part = put (state_of d).part r p })
        (opening_same d r x) refl (λ a. refl) (grants_same d.rings r x lt same) (ring_writes d.rings r x (length d.before) d.journal e p lt le own is) (λ k. refl) refl refl refl refl refl

    pub buried_shown : (a : ℕ)
        → state_of (record d { journal = d.journal ++ e ∷ []; cells = filter (λ y. not (y.address == a)) d.cells; rings = set d.rings r x }) ≡ record (state_of d) { journal = d.journal ++ e ∷ []; cell = put (state_of d).cell a None; part = put (state_of d).part r p }
    buried_shown a = states_same (state_of (record d { journal = d.journal ++ e ∷ []; cells = filter (λ y. not (y.address == a)) d.cells; rings = set d.rings r x })) (record (state_of d) { journal = d.journal ++ e ∷ []; cell = put (state_of d).cell a None; part = put (state_of d).part r p })
        (opening_same d r x) refl (cell_less a d.cells) (grants_same d.rings r x lt same) (ring_writes d.rings r x (length d.before) d.journal e p lt le own is) (λ k. refl) refl refl refl refl refl

-- The events that change cells or slots, over the lists of a core
module _ (d : CoreData) (r : ℕ) (m : RingState) (lt : r < length d.rings) (own : m ≡ get_or d.rings r m) where
  pub mine : m ≡ ring_in d.rings r
  mine = own ∙ in_range d.rings r m no_ring lt

  pub share_shown : (a : ℕ) (h : ClauseAt) (H : List ClauseAt) (C : List StoredCell) → h ≡ clause_at (state_of d) a → H ≡ m.held ++ h ∷ [] → C ≡ recounted a (count_at (cell_in a d.cells) + 1) d.cells
      → state_of (record d { cells = C; rings = set d.rings r (record m { held = H; shared = m.shared + 1 }) }) ≡ after (state_of d) (Share r a)
  share_shown a h H C hs Hs Cs =
      ap (λ (K : List StoredCell). state_of (record d { cells = K; rings = set d.rings r (record m { held = H; shared = m.shared + 1 }) })) Cs
      ∙ recounted_shown d r (record m { held = H; shared = m.shared + 1 }) (shared_part (clause_at (state_of d) a) ((state_of d).part r)) lt (λ j. (mine j).granted) a (count_at (cell_in a d.cells) + 1)
      (let e : H ≡ (ring_in d.rings r).held ++ clause_at (state_of d) a ∷ [] = Hs ∙ (λ j. (mine j).held ++ hs j ∷ []) in
      λ j. record { ring = r; held = e j; making = (mine j).making; waiting = (mine j).waiting; seen = (mine j).seen; numbers = (mine j).numbers; shared = (mine j).shared + 1; wrote = placed r (length d.before) (drop (length d.before) d.journal); puts = (mine j).puts; ticket = (mine j).ticket; found = (mine j).found })

  pub open_shown : (a : ℕ) (h : ClauseAt) (H M : List ClauseAt) (C : List StoredCell) → h ≡ clause_at (state_of d) a → H ≡ m.held ++ h ∷ [] → M ≡ without_at a m.making → C ≡ recounted a 1 d.cells
      → state_of (record d { cells = C; rings = set d.rings r (record m { held = H; making = M }) }) ≡ after (state_of d) (OpenCell r a)
  open_shown a h H M C hs Hs Ms Cs =
      ap (λ (K : List StoredCell). state_of (record d { cells = K; rings = set d.rings r (record m { held = H; making = M }) })) Cs
      ∙ recounted_shown d r (record m { held = H; making = M }) (opened_part (clause_at (state_of d) a) ((state_of d).part r)) lt (λ j. (mine j).granted) a 1
      (let e : H ≡ (ring_in d.rings r).held ++ clause_at (state_of d) a ∷ [] = Hs ∙ (λ j. (mine j).held ++ hs j ∷ []) in
      let f : M ≡ without_at a (ring_in d.rings r).making = Ms ∙ (λ j. without_at a (mine j).making) in
      λ j. record { ring = r; held = e j; making = f j; waiting = (mine j).waiting; seen = (mine j).seen; numbers = (mine j).numbers; shared = (mine j).shared; wrote = placed r (length d.before) (drop (length d.before) d.journal); puts = (mine j).puts; ticket = (mine j).ticket; found = (mine j).found })

  pub drop_shown : (a : ℕ) (h : ClauseAt) (H W : List ClauseAt) (C : List StoredCell) → h ≡ clause_at (state_of d) a → H ≡ without_at a m.held
      → W ≡ cond (count_at (cell_in a d.cells) == 1) (m.waiting ++ h ∷ []) m.waiting → C ≡ recounted a (count_at (cell_in a d.cells) - 1) d.cells
      → state_of (record d { cells = C; rings = set d.rings r (record m { held = H; waiting = W }) }) ≡ after (state_of d) (DropCount r a)
  drop_shown a h H W C hs Hs Ws Cs =
      ap (λ (K : List StoredCell). state_of (record d { cells = K; rings = set d.rings r (record m { held = H; waiting = W }) })) Cs
      ∙ recounted_shown d r (record m { held = H; waiting = W }) (dropped_part (clause_at (state_of d) a) (count_at (cell_in a d.cells)) ((state_of d).part r)) lt (λ j. (mine j).granted) a (count_at (cell_in a d.cells) - 1)
      (let e : H ≡ without_at a (ring_in d.rings r).held = Hs ∙ (λ j. without_at a (mine j).held) in
      let f : W ≡ cond (count_at (cell_in a d.cells) == 1) ((ring_in d.rings r).waiting ++ clause_at (state_of d) a ∷ []) (ring_in d.rings r).waiting = Ws ∙ (λ j. cond (count_at (cell_in a d.cells) == 1) ((mine j).waiting ++ hs j ∷ []) (mine j).waiting) in
      λ j. record { ring = r; held = e j; making = (mine j).making; waiting = f j; seen = (mine j).seen; numbers = (mine j).numbers; shared = (mine j).shared; wrote = placed r (length d.before) (drop (length d.before) d.journal); puts = (mine j).puts; ticket = (mine j).ticket; found = (mine j).found })

  pub put_shown : (to k l a : ℕ) (h : ClauseAt) (H : List ClauseAt) (P : List PutNote) → slot_of (state_of d).opening r to k l < length d.slots
      → h ≡ clause_at (state_of d) (get_or d.slots (slot_of (state_of d).opening r to k l) 0) → H ≡ with_cell h (without_at a m.held) → P ≡ m.puts ++ record { to = to; class = k; place = l; address = a } ∷ []
      → state_of (record d { slots = set d.slots (slot_of (state_of d).opening r to k l) a; rings = set d.rings r (record m { held = H; puts = P }) }) ≡ after (state_of d) (Put r to k l a)
  put_shown to k l a h H P room hs Hs Ps =
      let s : ℕ = slot_of (state_of d).opening r to k l in
      let old : ClauseAt = clause_at (state_of d) (get_or d.slots s 0) in
      exchanged_shown d r (record m { held = H; puts = P }) (put_part (record { to = to; class = k; place = l; address = a }) old ((state_of d).part r)) lt (λ j. (mine j).granted) s a room
      (let e : H ≡ with_cell old (without_at a (ring_in d.rings r).held) = Hs ∙ (λ j. with_cell (hs j) (without_at a (mine j).held)) in
      let f : P ≡ (ring_in d.rings r).puts ++ record { to = to; class = k; place = l; address = a } ∷ [] = Ps ∙ (λ j. (mine j).puts ++ record { to = to; class = k; place = l; address = a } ∷ []) in
      λ j. record { ring = r; held = e j; making = (mine j).making; waiting = (mine j).waiting; seen = (mine j).seen; numbers = (mine j).numbers; shared = (mine j).shared; wrote = placed r (length d.before) (drop (length d.before) d.journal); puts = f j; ticket = (mine j).ticket; found = (mine j).found })

  pub get_shown : (from k l : ℕ) (h : ClauseAt) (H : List ClauseAt) → slot_of (state_of d).opening from r k l < length d.slots
      → h ≡ clause_at (state_of d) (get_or d.slots (slot_of (state_of d).opening from r k l) 0) → H ≡ with_cell h m.held
      → state_of (record d { slots = set d.slots (slot_of (state_of d).opening from r k l) 0; rings = set d.rings r (record m { held = H }) }) ≡ after (state_of d) (Get r from k l)
  get_shown from k l h H room hs Hs =
      let s : ℕ = slot_of (state_of d).opening from r k l in
      let old : ClauseAt = clause_at (state_of d) (get_or d.slots s 0) in
      exchanged_shown d r (record m { held = H }) (got_part old ((state_of d).part r)) lt (λ j. (mine j).granted) s 0 room
      (let e : H ≡ with_cell old (ring_in d.rings r).held = Hs ∙ (λ j. with_cell (hs j) (mine j).held) in
      λ j. record { ring = r; held = e j; making = (mine j).making; waiting = (mine j).waiting; seen = (mine j).seen; numbers = (mine j).numbers; shared = (mine j).shared; wrote = placed r (length d.before) (drop (length d.before) d.journal); puts = (mine j).puts; ticket = (mine j).ticket; found = (mine j).found })

  pub bury_shown : length d.before ≤ length d.journal → (a : ℕ) (W : List ClauseAt) (C : List StoredCell) (J : List Entry) → W ≡ without_at a m.waiting → C ≡ filter (λ y. not (y.address == a)) d.cells
      → J ≡ d.journal ++ Del r (number_at (cell_in a d.cells)) ∷ []
      → state_of (record d { journal = J; cells = C; rings = set d.rings r (record m { waiting = W }) }) ≡ after (state_of d) (Bury r a)
  bury_shown le a W C J Ws Cs Js =
      let e : Entry = Del r (number_at (cell_in a d.cells)) in
      (λ j. state_of (record d { journal = Js j; cells = Cs j; rings = set d.rings r (record m { waiting = W }) }))
      ∙ buried_shown d r (record m { waiting = W }) (buried_part a (length d.journal) e ((state_of d).part r)) lt (λ j. (mine j).granted) e le refl
      (let f : W ≡ without_at a (ring_in d.rings r).waiting = Ws ∙ (λ j. without_at a (mine j).waiting) in let w = placed_here r (length d.before) d.journal e le refl in
      λ j. record { ring = r; held = (mine j).held; making = (mine j).making; waiting = f j; seen = (mine j).seen; numbers = (mine j).numbers; shared = (mine j).shared; wrote = w j; puts = (mine j).puts; ticket = (mine j).ticket; found = (mine j).found }) a

  pub begin_shown : length d.before ≤ length d.journal → (kind : Kind) (lits : List Literal) (hints : List ℕ) (a n : ℕ) (M : List ClauseAt) (T : Bool) (C : List StoredCell) (J : List Entry) → n ≡ (book d.formula d.journal).next → cell_in a d.cells ≡ None → T ≡ ticket_after kind m.ticket
      → M ≡ m.making ++ record { address = a; number = n; lits = lits } ∷ [] → C ≡ d.cells ++ record { address = a; cell = record { lits = lits; number = n; count = 0; maker = Some r } } ∷ []
      → J ≡ d.journal ++ Add (record { ring = r; number = n; lits = lits; kind = kind; hints = hints }) ∷ []
      → state_of (record d { journal = J; cells = C; rings = set d.rings r (record m { making = M; ticket = T }) }) ≡ after (state_of d) (AddClause r kind lits hints a)
  begin_shown le kind lits hints a n M T C J ns free Ts Ms Cs Js =
      let b : ℕ = (book d.formula d.journal).next in
      let e : Entry = Add (record { ring = r; number = b; lits = lits; kind = kind; hints = hints }) in
      let y : StoredCell = record { address = a; cell = record { lits = lits; number = b; count = 0; maker = Some r } } in
      let h : ClauseAt = record { address = a; number = b; lits = lits } in
      let Cb : C ≡ d.cells ++ y ∷ [] = Cs ∙ (λ j. d.cells ++ record { address = a; cell = record { lits = lits; number = ns j; count = 0; maker = Some r } } ∷ []) in
      let Jb : J ≡ d.journal ++ e ∷ [] = Js ∙ (λ j. d.journal ++ Add (record { ring = r; number = ns j; lits = lits; kind = kind; hints = hints }) ∷ []) in
      (λ j. state_of (record d { journal = Jb j; cells = Cb j; rings = set d.rings r (record m { making = M; ticket = T }) }))
      ∙ begun_shown d r (record m { making = M; ticket = T }) (made_part h (length d.journal) e (after_learn kind ((state_of d).part r))) lt (λ j. (mine j).granted) e le refl
      (let f : M ≡ (ring_in d.rings r).making ++ h ∷ [] = Ms ∙ (λ j. (mine j).making ++ record { address = a; number = ns j; lits = lits } ∷ []) in let w = placed_here r (length d.before) d.journal e le refl in let t : T ≡ ticket_after kind (ring_in d.rings r).ticket = Ts ∙ (λ j. ticket_after kind (mine j).ticket) in
      λ j. record { ring = r; held = (mine j).held; making = f j; waiting = (mine j).waiting; seen = (mine j).seen; numbers = (mine j).numbers; shared = (mine j).shared; wrote = w j; puts = (mine j).puts; ticket = t j; found = (mine j).found }) y free

  pub tell_shown : length d.before ≤ length d.journal → (kind : Kind) (lits : List Literal) (hints : List ℕ) (n : ℕ) (T : Bool) (J : List Entry) → n ≡ (book d.formula d.journal).next → T ≡ ticket_after kind m.ticket
      → J ≡ d.journal ++ Add (record { ring = r; number = n; lits = lits; kind = kind; hints = hints }) ∷ []
      → state_of (record d { journal = J; rings = set d.rings r (record m { ticket = T }) }) ≡ written (state_of d) r (after_learn kind ((state_of d).part r)) (addition_of (state_of d) r kind lits hints)
  tell_shown le kind lits hints n T J ns Ts Js =
      let b : ℕ = (book d.formula d.journal).next in
      let e : Entry = Add (record { ring = r; number = b; lits = lits; kind = kind; hints = hints }) in
      let Jb : J ≡ d.journal ++ e ∷ [] = Js ∙ (λ j. d.journal ++ Add (record { ring = r; number = ns j; lits = lits; kind = kind; hints = hints }) ∷ []) in
      (λ j. state_of (record d { journal = Jb j; rings = set d.rings r (record m { ticket = T }) }))
      ∙ noted_shown d r (record m { ticket = T }) (wrote_part (length d.journal) e (after_learn kind ((state_of d).part r))) lt (λ j. (mine j).granted) e le refl
      (let w = placed_here r (length d.before) d.journal e le refl in let t : T ≡ ticket_after kind (ring_in d.rings r).ticket = Ts ∙ (λ j. ticket_after kind (mine j).ticket) in
      λ j. record { ring = r; held = (mine j).held; making = (mine j).making; waiting = (mine j).waiting; seen = (mine j).seen; numbers = (mine j).numbers; shared = (mine j).shared; wrote = w j; puts = (mine j).puts; ticket = t j; found = (mine j).found })

  pub seen_shown : (l : Literal) (k : ℕ) (S us : List Literal) (N ns : List ℕ) → S ≡ m.seen ++ l ∷ [] → N ≡ m.numbers ++ k ∷ []
      → state_of (record d { rings = set d.rings r (record m { seen = S; numbers = N }); units = us; numbers = ns }) ≡ record (state_of d) { units = us; numbers = ns; part = put (state_of d).part r (seen_part l k ((state_of d).part r)) }
  seen_shown l k S us N ns Ss Ns =
      let x : RingState = record m { seen = S; numbers = N } in
      let p : Part = seen_part l k ((state_of d).part r) in
      let e : S ≡ (ring_in d.rings r).seen ++ l ∷ [] = Ss ∙ (λ j. (mine j).seen ++ l ∷ []) in
      let f : N ≡ (ring_in d.rings r).numbers ++ k ∷ [] = Ns ∙ (λ j. (mine j).numbers ++ k ∷ []) in
      states_same (state_of (record d { rings = set d.rings r x; units = us; numbers = ns })) (record (state_of d) { units = us; numbers = ns; part = put (state_of d).part r p }) (opening_same d r x) refl (λ a. refl) (grants_same d.rings r x lt (λ j. (mine j).granted))
      (ring_parts d.rings r x (length d.before) d.journal p lt
      (λ j. record { ring = r; held = (mine j).held; making = (mine j).making; waiting = (mine j).waiting; seen = e j; numbers = f j; shared = (mine j).shared; wrote = placed r (length d.before) (drop (length d.before) d.journal); puts = (mine j).puts; ticket = (mine j).ticket; found = (mine j).found }))
      (λ k. refl) refl refl refl refl refl

  pub draw_shown : (T : Bool) (n : ℕ) → T ≡ nat_lt d.drawn d.limit → n ≡ d.drawn + 1
      → state_of (record d { rings = set d.rings r (record m { ticket = T; found = n }); drawn = n }) ≡ after (state_of d) (Draw r)
  draw_shown T n Ts ns =
      let x : RingState = record m { ticket = T; found = n } in
      let p : Part = drew_part d.limit d.drawn ((state_of d).part r) in
      states_same (state_of (record d { rings = set d.rings r x; drawn = n })) (after (state_of d) (Draw r)) (opening_same d r x) refl (λ a. refl) (grants_same d.rings r x lt (λ j. (mine j).granted))
      (ring_parts d.rings r x (length d.before) d.journal p lt
      (λ j. record { ring = r; held = (mine j).held; making = (mine j).making; waiting = (mine j).waiting; seen = (mine j).seen; numbers = (mine j).numbers; shared = (mine j).shared; wrote = placed r (length d.before) (drop (length d.before) d.journal); puts = (mine j).puts; ticket = Ts j; found = ns j }))
      (λ k. refl) refl refl refl refl ns

-- an entry of a ring that changes nothing else
pub lone_shown : (d : CoreData) (r : ℕ) (e : Entry) (J : List Entry) → length d.before ≤ length d.journal → ring_of e ≡ r → J ≡ d.journal ++ e ∷ [] → state_of (record d { journal = J }) ≡ written (state_of d) r ((state_of d).part r) e
lone_shown d r e J le own Js =
    let n : ℕ = length d.before in
    let K : List Entry = d.journal ++ e ∷ [] in
    (λ j. state_of (record d { journal = Js j }))
    ∙ states_same (state_of (record d { journal = K })) (written (state_of d) r ((state_of d).part r) e) refl refl (λ a. refl) (λ i. refl)
    (λ i. sym (at_put (state_of d).part r (wrote_part (length d.journal) e ((state_of d).part r)) (λ (q : Part). q ≡ part_of i n K (ring_in d.rings i)) i
    (λ h. let w = placed_here r n d.journal e le own in let y = ring_in d.rings r in
    (λ j. record { ring = r; held = y.held; making = y.making; waiting = y.waiting; seen = y.seen; numbers = y.numbers; shared = y.shared; wrote = sym w j; puts = y.puts; ticket = y.ticket; found = y.found })
    ∙ (λ j. part_of (sym h j) n K (ring_in d.rings (sym h j))))
    (λ ne. let w = placed_else i n d.journal e le (λ q. ne (sym q ∙ own)) in let y = ring_in d.rings i in
    λ j. record { ring = i; held = y.held; making = y.making; waiting = y.waiting; seen = y.seen; numbers = y.numbers; shared = y.shared; wrote = sym w j; puts = y.puts; ticket = y.ticket; found = y.found })))
    (λ k. refl) refl refl refl refl refl
