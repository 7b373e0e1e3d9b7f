-- Turns, listed units and the stop keep the state sound.
use Rattle.std.proofs.Common.{◌≡◌, ◌⊎◌, ℕ, ◌+◌, ◌<◌, ◌≤◌, Bool, true, false, not, List, [], ◌∷◌, ◌++◌, length, Option, Some, None, refl, sym, ap, ◌∙◌, subst, inl, inr, ⊎_elim, arith, true≢false, length-append, append-nil, append_assoc}
use Rattle.std.proofs.lemmas.Bool.{or_parts, and_parts, and_from}
use Rattle.sat_words.specs.Literal.{Literal, same}
use Rattle.sat_words.specs.Clause.{has, distinct_lits}
use Rattle.sat_words.proofs.Members.{same-refl}
use Rattle.std.specs.Prelude.{slice_index_or}
use Rattle.rup_model.specs.Journal.{book, is_told}
use Rattle.rup_model.proofs.Lists.{In, In_has, has_In, In_append}
use Rattle.rup_model.proofs.Sums.{at_put}
use Rattle.share_core.specs.declared.event.Stop.{Stop as StopWord}
use Rattle.share_core.specs.declared.event.Event.TheVariants.{Publish, See, Stop, Draw}
use Rattle.share_core.specs.State.{Part, State}
use Rattle.share_core.specs.Enabled.{IsEnabled}
use Rattle.share_core.specs.Events.{unit_at, listed_number, seen_part, drew_part, first_stop, after}
use Rattle.share_core.specs.Sound.{Sound}
use Rattle.share_core.proofs.Counting.{some_same}
use Rattle.share_core.proofs.Own.{owned_same}
use Rattle.share_core.proofs.Frames.{counts_same, part_only, part_slots, copies_put, has_seen, units_part}
use Rattle.share_core.proofs.Pairs.{paired_last, paired_long, unit_told}
use Rattle.share_core.proofs.Tickets.{tickets_put, tickets_drawn}

-- The list of units

next_at : {X : Type 0} (d : X) (us seen rest : List X) → us ≡ seen ++ rest → length seen < length us → (more : List X) × (us ≡ (seen ++ slice_index_or us (length seen) d ∷ []) ++ more)
next_at d us seen [] e lt = absurd (let q : length us ≡ length seen = ap length (e ∙ append-nil seen) in omega arith)
next_at {X} d us seen (y ∷ ys) e lt = (ys, e ∙ sym (append_assoc seen (y ∷ []) ys) ∙ ap (λ (z : X). (seen ++ z ∷ []) ++ ys) (sym (ap (λ (xs : List X). slice_index_or xs (length seen) d) e ∙ at_end seen y ys)))
  where
    at_end : (seen : List X) (y : X) (ys : List X) → slice_index_or (seen ++ y ∷ ys) (length seen) d ≡ y
    at_end [] y ys = refl
    at_end (x ∷ seen) y ys = at_end seen y ys

one_longer : {X Y : Type 0} (xs : List X) (ys : List Y) (x : X) (y : Y) → length xs ≡ length ys → length (xs ++ x ∷ []) ≡ length (ys ++ y ∷ [])
one_longer xs ys x y e = length-append xs (x ∷ []) ∙ ap (λ (n : ℕ). n + 1) e ∙ sym (length-append ys (y ∷ []))

seen_all : {X : Type 0} (us seen rest : List X) → us ≡ seen ++ rest → length seen ≡ length us → seen ≡ us
seen_all us seen [] e len = sym (e ∙ append-nil seen)
seen_all us seen (y ∷ ys) e len = absurd (let q : length us ≡ length (seen ++ y ∷ ys) = ap length e in let r = length-append seen (y ∷ ys) in omega arith)

has_last : (xs : List Literal) (l m : Literal) → has (xs ++ l ∷ []) m ≡ true → (has xs m ≡ true) ⊎ (l ≡ m)
has_last xs l m h = ⊎_elim (λ (i : In m xs). inl (In_has xs m i)) (λ (i : In m (l ∷ [])). last i) (In_append xs (l ∷ []) m (has_In (xs ++ l ∷ []) m h))
  where
    last : In m (l ∷ []) → (has xs m ≡ true) ⊎ (l ≡ m)
    last (inl q) = inr q
    last (inr q) = absurd q

distinct_last : (xs : List Literal) (l : Literal) → distinct_lits xs ≡ true → has xs l ≡ false → distinct_lits (xs ++ l ∷ []) ≡ true
distinct_last [] l h n = refl
distinct_last (x ∷ xs) l h n =
    let p = and_parts (not (has xs x)) (distinct_lits xs) h in
    let q = or_parts (same l x) (has xs l) n in
    and_from _ _ (apart (has (xs ++ l ∷ []) x) (λ t. has_last xs l x t) p.0 q.0) (distinct_last xs l p.1 q.1)
  where
    apart : (b : Bool) → (b ≡ true → (has xs x ≡ true) ⊎ (l ≡ x)) → not (has xs x) ≡ true → same l x ≡ false → not b ≡ true
    apart false f g i = refl
    apart true f g i = ⊎_elim (λ (t : has xs x ≡ true). absurd (true≢false (sym (sym (ap not t) ∙ g)))) (λ (t : l ≡ x). absurd (true≢false (sym (same-refl l) ∙ ap (same l) t ∙ i))) (f refl)

pub publishes : (c : State) (r : ℕ) (l : Literal) (n : ℕ) → Sound c → IsEnabled c (Publish r l n) → Sound (after c (Publish r l n))
publishes c r l n s e =
    let d : State = after c (Publish r l n) in
    let p : Part = seen_part l n (c.part r) in
    record {
      opens = s.opens;
      counts = part_only c d r p s e.0 refl refl refl refl refl refl refl refl (s.counts.named r);
      starts = s.starts;
      copies = copies_put c r p s (s.copies.held r e.0) (s.copies.making r e.0) (s.copies.waiting r e.0);
      cells = s.cells;
      whole = s.whole;
      slots = part_slots c d r p s refl refl refl;
      log = s.log;
      entries = owned_same c.opening c r p s.entries refl;
      freshness = s.freshness;
      units = record {
        paired = paired_last (book c.opening.formula c.journal) c.units c.numbers l n s.units.paired e.2;
        told = λ m h. ⊎_elim (λ (q : has c.units m ≡ true). s.units.told m q)
            (λ (q : l ≡ m). subst (λ (z : Literal). is_told c.opening.formula c.journal z ≡ true) q (unit_told c.opening.formula c.journal n l s.log.log.fits e.2)) (has_last c.units l m h);
        distinct = distinct_last c.units l s.units.distinct e.4;
        seen = λ i. at_put c.part r p (λ (q : Part). (rest : List Literal) × (c.units ++ l ∷ [] ≡ q.seen ++ rest)) i
            (λ _. (let h = s.units.seen r in let q = seen_all c.units (c.part r).seen h.0 h.1 e.3 in ([], ap (λ (xs : List Literal). xs ++ l ∷ []) (sym q) ∙ sym (append-nil ((c.part r).seen ++ l ∷ [])))))
            (λ _. (let h = s.units.seen i in (h.0 ++ l ∷ [], ap (λ (xs : List Literal). xs ++ l ∷ []) h.1 ∙ append_assoc (c.part i).seen h.0 (l ∷ []))));
        numbered = λ i. at_put c.part r p (λ (q : Part). (rest : List ℕ) × (c.numbers ++ n ∷ [] ≡ q.numbers ++ rest) × (length q.numbers ≡ length q.seen)) i
            (λ _. (let h = s.units.numbered r in let q = seen_all c.numbers (c.part r).numbers h.0 h.1 (h.2 ∙ e.3 ∙ sym (paired_long (book c.opening.formula c.journal) c.units c.numbers s.units.paired)) in
            ([], ap (λ (ns : List ℕ). ns ++ n ∷ []) (sym q) ∙ sym (append-nil ((c.part r).numbers ++ n ∷ [])), one_longer (c.part r).numbers (c.part r).seen n l h.2)))
            (λ _. (let h = s.units.numbered i in (h.0 ++ n ∷ [], ap (λ (ns : List ℕ). ns ++ n ∷ []) h.1 ∙ append_assoc (c.part i).numbers h.0 (n ∷ []), h.2)));
      };
      turns = s.turns;
      stops = s.stops;
      tickets = tickets_put c.opening c.drawn c.part r p s.tickets refl refl (λ t. t);
    }

pub sees : (c : State) (r : ℕ) → Sound c → IsEnabled c (See r) → Sound (after c (See r))
sees c r s e =
    let d : State = after c (See r) in
    let i : ℕ = length (c.part r).seen in
    let l : Literal = unit_at c.units i in
    let n : ℕ = listed_number c.numbers i in
    let p : Part = seen_part l n (c.part r) in
    record {
      opens = s.opens;
      counts = part_only c d r p s e.0 refl refl refl refl refl refl refl refl (s.counts.named r);
      starts = s.starts;
      copies = copies_put c r p s (s.copies.held r e.0) (s.copies.making r e.0) (s.copies.waiting r e.0);
      cells = s.cells;
      whole = s.whole;
      slots = part_slots c d r p s refl refl refl;
      log = s.log;
      entries = owned_same c.opening c r p s.entries refl;
      freshness = s.freshness;
      units = units_part c r p s (
        (let h = s.units.seen r in next_at (record { var = 0; neg = false }) c.units (c.part r).seen h.0 h.1 e.1),
        (let h = s.units.numbered r in let t = paired_long (book c.opening.formula c.journal) c.units c.numbers s.units.paired in let k = next_at 0 c.numbers (c.part r).numbers h.0 h.1 (omega arith) in
            (k.0, k.1 ∙ ap (λ (j : ℕ). ((c.part r).numbers ++ listed_number c.numbers j ∷ []) ++ k.0) h.2, one_longer (c.part r).numbers (c.part r).seen n l h.2)),
      );
      turns = s.turns;
      stops = s.stops;
      tickets = tickets_put c.opening c.drawn c.part r p s.tickets refl refl (λ t. t);
    }

-- The stop

first_or : (q : Option StopWord) (n t : StopWord) → first_stop q n ≡ Some t → (q ≡ Some t) ⊎ (n ≡ t)
first_or None n t h = inr (some_same n t h)
first_or (Some u) n t h = inl h

pub stops : (c : State) (r kind : ℕ) → Sound c → IsEnabled c (Stop r kind) → Sound (after c (Stop r kind))
stops c r kind s e =
    let new : StopWord = record { kind = kind; ring = r } in
    record {
      opens = s.opens;
      counts = counts_same c.opening c (after c (Stop r kind)) s.counts refl refl refl refl;
      starts = s.starts;
      copies = s.copies;
      cells = s.cells;
      whole = s.whole;
      slots = s.slots;
      log = s.log;
      entries = s.entries;
      freshness = s.freshness;
      units = s.units;
      turns = s.turns;
      stops = record {
        refuted = λ t is k. ⊎_elim (λ (q : c.stop ≡ Some t). s.stops.refuted t q k) (λ (q : new ≡ t). e.3 (ap (λ (z : StopWord). z.kind) q ∙ k)) (first_or c.stop new t is);
        kinds = λ t is. ⊎_elim (λ (q : c.stop ≡ Some t). s.stops.kinds t q) (λ (q : new ≡ t). subst (λ (z : StopWord). (1 ≤ z.kind) × (z.kind ≤ 5) × (z.ring < c.opening.rings)) q (e.1, e.2, e.0)) (first_or c.stop new t is);
      };
      tickets = s.tickets;
    }

-- The turn

pub turns : (c : State) (t : Option ℕ) → Sound c → ((r : ℕ) → t ≡ Some r → r < c.opening.rings) → Sound (record c { turn = t })
turns c t s rings = record {
  opens = s.opens;
  counts = counts_same c.opening c (record c { turn = t }) s.counts refl refl refl refl;
  starts = s.starts;
  copies = s.copies;
  cells = s.cells;
  whole = s.whole;
  slots = s.slots;
  log = s.log;
  entries = s.entries;
  freshness = s.freshness;
  units = s.units;
  turns = rings;
  stops = s.stops;
  tickets = s.tickets;
}

-- Tickets

pub draws : (c : State) (r : ℕ) → Sound c → IsEnabled c (Draw r) → Sound (after c (Draw r))
draws c r s e =
    let d : State = after c (Draw r) in
    let p : Part = drew_part c.opening.limit c.drawn (c.part r) in
    record {
      opens = s.opens;
      counts = part_only c d r p s e.0 refl refl refl refl refl refl refl refl (s.counts.named r);
      starts = s.starts;
      copies = copies_put c r p s (s.copies.held r e.0) (s.copies.making r e.0) (s.copies.waiting r e.0);
      cells = s.cells;
      whole = s.whole;
      slots = part_slots c d r p s refl refl refl;
      log = s.log;
      entries = owned_same c.opening c r p s.entries refl;
      freshness = s.freshness;
      units = units_part c r p s (has_seen c r s);
      turns = s.turns;
      stops = s.stops;
      tickets = tickets_drawn c.opening c.drawn c.part r s.tickets e.0 e.1 e.2;
    }
