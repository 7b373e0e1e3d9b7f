-- What comes from slots, one after another.
use Rattle.std.proofs.Common.{◌≡◌, ◌∙◌, ℕ, List, [], ◌∷◌, ◌++◌, Contains, map, sym, subst, ap, arith, refl, append-nil, append_assoc, length-append, inl, inr}
use Rattle.std.specs.Prelude.{All}
use Rattle.std.proofs.lemmas.List.{map-append}
use Rattle.sat_words.specs.declared.shared.Cref.{Cref}
use Rattle.rup_model.proofs.Lists.{Contains_In, In_Contains, In_append, In_append_left, In_append_right}
use Rattle.ring_port.proofs.Holdings.{All_In}
use Rattle.ring_port.proofs.LogSteps.{In_All}
use Rattle.watch_prop.specs.WatchData.{attached}
use Rattle.ring_port.specs.PortState.{PortState, Slot, Holding}
use Rattle.ring_port.specs.Exchange.{TookClause, looked_into}
use Rattle.ring_run.specs.Renewal.{TookSlots, PolledSome}
use Rattle.ring_run.specs.declared.ring.Ring.{Ring}
use Rattle.ring_run.proofs.Rounds.{IsFront, front_then, front_more, slot}

abbrev addresses_of : List Holding → List ℕ
addresses_of hs = map (λ (h : Holding). h.address) hs

abbrev crefs_of : List Holding → List Cref
crefs_of hs = map (λ (h : Holding). record { address = h.address }) hs

pub slots_begin : (s : PortState) (ring : Ring) → TookSlots s s ring ring []
slots_begin s ring = record {
  polls = sym (append-nil s.polls);
  moments = sym (append-nil s.polls_after);
  came = [];
  few = omega arith;
  held = sym (append-nil s.held);
  taken = sym (append-nil s.taken);
  clauses = sym (append-nil (attached ring.watches));
  imports = sym (append-nil ring.imports.items);
}

-- a slot in which nothing was
pub slots_none : (s u : PortState) (old new : Ring) (from class place : ℕ) → u ≡ looked_into from class place s → attached new.watches ≡ attached old.watches → new.imports.items ≡ old.imports.items → TookSlots s u old new (slot from class place ∷ [])
slots_none s u old new from class place is same imports = record {
  polls = ap (λ (x : PortState). x.polls) is;
  moments = ap (λ (x : PortState). x.polls_after) is;
  came = [];
  few = omega arith;
  held = ap (λ (x : PortState). x.held) is ∙ sym (append-nil s.held);
  taken = ap (λ (x : PortState). x.taken) is ∙ sym (append-nil s.taken);
  clauses = same ∙ sym (append-nil (attached old.watches));
  imports = imports ∙ sym (append-nil old.imports.items);
}

-- and one in which a clause was, that is attached and listed
pub slots_one : (s u : PortState) (old new : Ring) (from class place : ℕ) (c : Cref) → TookClause s u from class place c → attached new.watches ≡ attached old.watches ++ c ∷ [] → new.imports.items ≡ old.imports.items ++ c ∷ [] → TookSlots s u old new (slot from class place ∷ [])
slots_one s u old new from class place c took more imports = record {
  polls = ap (λ (x : PortState). x.polls) took.state;
  moments = ap (λ (x : PortState). x.polls_after) took.state;
  came = took.clause ∷ [];
  few = omega arith;
  held = ap (λ (x : PortState). x.held) took.state;
  taken = ap (λ (x : PortState). x.taken) took.state ∙ ap (λ (a : ℕ). s.taken ++ a ∷ []) (sym took.address);
  clauses = more ∙ ap (λ (a : ℕ). attached old.watches ++ record { address = a } ∷ []) (sym took.address);
  imports = imports ∙ ap (λ (a : ℕ). old.imports.items ++ record { address = a } ∷ []) (sym took.address);
}

joined : {A : Type 0} (old middle new xs ys : List A) → middle ≡ old ++ xs → new ≡ middle ++ ys → new ≡ old ++ (xs ++ ys)
joined old middle new xs ys first then = then ∙ ap (λ ws. ws ++ ys) first ∙ append_assoc old xs ys

-- this number once for each slot
abbrev pub each_at : ℕ → List Slot → List ℕ
each_at n xs = map (λ (_x : Slot). n) xs

-- more slots after these, before another look for units
pub slots_then : (s m u : PortState) (old between new : Ring) (xs ys slots : List Slot) → TookSlots s m old between xs → TookSlots m u between new ys → m.caught_up ≡ s.caught_up → slots ≡ xs ++ ys → TookSlots s u old new slots
slots_then s m u old between new xs ys slots p q unlooked is = subst (TookSlots s u old new) (sym is) (record {
  polls = joined s.polls m.polls u.polls xs ys p.polls q.polls;
  moments = joined s.polls_after m.polls_after u.polls_after (each_at s.caught_up xs) (each_at m.caught_up ys) p.moments q.moments
      ∙ ap (λ (n : ℕ). s.polls_after ++ (each_at s.caught_up xs ++ each_at n ys)) unlooked
      ∙ ap (λ (ns : List ℕ). s.polls_after ++ ns) (sym (map-append (λ (_x : Slot). s.caught_up) xs ys));
  came = p.came ++ q.came;
  few = (let came = length-append p.came q.came in let all = length-append xs ys in omega (arith, p.few, q.few, came, all));
  held = joined s.held m.held u.held p.came q.came p.held q.held;
  taken = joined s.taken m.taken u.taken (addresses_of p.came) (addresses_of q.came) p.taken q.taken
      ∙ ap (λ (ns : List ℕ). s.taken ++ ns) (sym (map-append (λ (h : Holding). h.address) p.came q.came));
  clauses = joined (attached old.watches) (attached between.watches) (attached new.watches) (crefs_of p.came) (crefs_of q.came) p.clauses q.clauses
      ∙ ap (λ (cs : List Cref). attached old.watches ++ cs) (sym (map-append (λ (h : Holding). record { address = h.address }) p.came q.came));
  imports = joined old.imports.items between.imports.items new.imports.items (crefs_of p.came) (crefs_of q.came) p.imports q.imports
      ∙ ap (λ (cs : List Cref). old.imports.items ++ cs) (sym (map-append (λ (h : Holding). record { address = h.address }) p.came q.came));
})

pub slots_as : (s u : PortState) (old new : Ring) (xs slots : List Slot) → xs ≡ slots → TookSlots s u old new xs → TookSlots s u old new slots
slots_as s u old new xs slots is p = subst (TookSlots s u old new) is p

-- Some of the slots

some_front : (s u : PortState) (xs slots : List Slot) → u.polls ≡ s.polls ++ xs → u.polls_after ≡ s.polls_after ++ each_at s.caught_up xs → IsFront xs slots → PolledSome s u slots
some_front s u xs slots polls moments front = record { along = record { looked = xs; left = front.0; polls = polls; parts = front.1 }; moments = moments }

-- none yet
pub some_none : (s u : PortState) (slots : List Slot) → u ≡ s → PolledSome s u slots
some_none s u slots is = record {
  along = record { looked = []; left = slots; polls = ap (λ (x : PortState). x.polls) is ∙ sym (append-nil s.polls); parts = refl };
  moments = ap (λ (x : PortState). x.polls_after) is ∙ sym (append-nil s.polls_after);
}

-- just one
pub some_looked : (s u : PortState) (from class place : ℕ) → u ≡ looked_into from class place s → PolledSome s u (slot from class place ∷ [])
some_looked s u from class place is = some_front s u (slot from class place ∷ []) (slot from class place ∷ []) (ap (λ (x : PortState). x.polls) is) (ap (λ (x : PortState). x.polls_after) is) ([], refl)

pub some_took : (s u w : PortState) (from class place : ℕ) (c : Cref) → TookClause s u from class place c → w ≡ u → PolledSome s w (slot from class place ∷ [])
some_took s u w from class place c took same = subst (λ (x : PortState). PolledSome s x (slot from class place ∷ [])) (sym same)
    (some_front s u (slot from class place ∷ []) (slot from class place ∷ []) (ap (λ (x : PortState). x.polls) took.state) (ap (λ (x : PortState). x.polls_after) took.state) ([], refl))

-- those of a step, among more
pub some_slots : (s u : PortState) (old new : Ring) (xs slots : List Slot) → TookSlots s u old new xs → IsFront xs slots → PolledSome s u slots
some_slots s u old new xs slots p front = some_front s u xs slots p.polls p.moments front

-- and after these some of the next ones
pub some_then : (s m u : PortState) (old between : Ring) (done xs slots : List Slot) → TookSlots s m old between done → m.caught_up ≡ s.caught_up → PolledSome m u xs → IsFront (done ++ xs) slots → PolledSome s u slots
some_then s m u old between done xs slots p unlooked q front =
    let some = q.along.looked in
    some_front s u (done ++ some) slots (joined s.polls m.polls u.polls done some p.polls q.along.polls)
    (joined s.polls_after m.polls_after u.polls_after (each_at s.caught_up done) (each_at m.caught_up some) p.moments q.moments
    ∙ ap (λ (n : ℕ). s.polls_after ++ (each_at s.caught_up done ++ each_at n some)) unlooked
    ∙ ap (λ (ns : List ℕ). s.polls_after ++ ns) (sym (map-append (λ (_x : Slot). s.caught_up) done some)))
    (front_then (done ++ some) (done ++ xs) slots (front_more done some xs (q.along.left, q.along.parts)) front)

-- what was attached still is
pub slots_more : (s u : PortState) (old new : Ring) (slots : List Slot) → TookSlots s u old new slots → (d : Cref) → Contains (attached old.watches) d → Contains (attached new.watches) d
slots_more s u old new slots p d there =
    subst (λ (cs : List Cref). Contains cs d) (sym p.clauses)
    (In_Contains (attached old.watches ++ crefs_of p.came) d (In_append_left (attached old.watches) (crefs_of p.came) d (Contains_In (attached old.watches) d there)))

-- what is listed stays attached, and so is what came
pub slots_imports : (s u : PortState) (old new : Ring) (slots : List Slot) → TookSlots s u old new slots → All (Contains (attached old.watches)) old.imports.items → All (Contains (attached new.watches)) new.imports.items
slots_imports s u old new slots p member =
    subst (All (Contains (attached new.watches))) (sym p.imports) (In_All (Contains (attached new.watches)) (old.imports.items ++ crefs_of p.came) (λ d m.
    elim (In_append old.imports.items (crefs_of p.came) d m) as (λ _. Contains (attached new.watches) d) [
      | inl before ↦ slots_more s u old new slots p d (All_In (Contains (attached old.watches)) old.imports.items d member before)
      | inr came ↦ subst (λ (cs : List Cref). Contains cs d) (sym p.clauses) (In_Contains (attached old.watches ++ crefs_of p.came) d (In_append_right (attached old.watches) (crefs_of p.came) d came))
    ]))
