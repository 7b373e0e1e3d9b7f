-- Slots have what was last put there.
use Rattle.std.proofs.Common.{◌≡◌, ◌≢◌, ℕ, ◌+◌, ◌*◌, ◌<◌, ◌==◌, cond, ◌&&◌, List, [], ◌∷◌, ◌++◌, refl, sym, ap, ◌∙◌, arith, eq-eqb, ne_eqb}
use Rattle.std.proofs.lemmas.Nat.{same_from_place}
use mathlib.Core.Path.{Path}
use mathlib.Core.Logic.{dite}
use native.Mathlib.Decide.{ℕ_discrete}
use Rattle.rup_model.specs.Basics.{put}
use Rattle.rup_model.proofs.Sums.{at_put, put_here}
use Rattle.rup_model.proofs.Sequences.{fold_last}
use Rattle.share_core.specs.declared.stored.PutNote.{PutNote}
use Rattle.share_core.specs.State.{CoreOpening, Part, State, slot_of}
use Rattle.share_core.specs.Sound.{put_after, last_put, SlotsSound}

pub puts_same : (c : State) (r : ℕ) (p : Part) → p.puts ≡ (c.part r).puts → (i : ℕ) → (put c.part r p i).puts ≡ (c.part i).puts
puts_same c r p same i = at_put c.part r p (λ (q : Part). q.puts ≡ (c.part i).puts) i (λ h. same ∙ ap (λ (k : ℕ). (c.part k).puts) (sym h)) (λ ne. refl)

-- slots stay if they and the puts do
pub slots_kept : (o : CoreOpening) (c d : State) → SlotsSound o c → Path (ℕ → ℕ) d.slot c.slot → ((i : ℕ) → (d.part i).puts ≡ (c.part i).puts) → SlotsSound o d
slots_kept o c d old ds puts r to k l rt tt' kt lt nz =
    let i : ℕ = slot_of o r to k l in
    let same : d.slot i ≡ c.slot i = (λ j. ds j i) in
    same ∙ old r to k l rt tt' kt lt (λ e. nz (same ∙ e)) ∙ sym (ap (last_put to k l) (puts r))

-- each slot stands where no other does
pub slot_own : (o : CoreOpening) (i j k l i' j' k' l' : ℕ) → j < o.rings → j' < o.rings → k < 4 → k' < 4 → l < o.depth → l' < o.depth → slot_of o i j k l ≡ slot_of o i' j' k' l' → (i ≡ i') × (j ≡ j') × (k ≡ k') × (l ≡ l')
slot_own o i j k l i' j' k' l' jt jt' kt kt' lt lt' e =
    let R : ℕ = o.rings in
    let p = same_from_place (4 * (i * R + j) + k) l (4 * (i' * R + j') + k') l' o.depth lt lt' e in
    let m : 4 * (i * R + j) + k ≡ 4 * (i' * R + j') + k' = p.0 in
    let q = same_from_place i j i' j' R jt jt' (omega arith) in
    let n : i * R + j ≡ i' * R + j' = omega arith in
    (q.0, q.1, omega arith, p.1)

last_here : (to k l : ℕ) (ps : List PutNote) (n : PutNote) → n.to ≡ to → n.class ≡ k → n.place ≡ l → last_put to k l (ps ++ n ∷ []) ≡ n.address
last_here to k l ps n e f g = fold_last (put_after to k l) 0 ps n ∙ (λ j. cond (eq-eqb n.to to e j && (eq-eqb n.class k f j && eq-eqb n.place l g j)) n.address (last_put to k l ps))

last_other : (to k l : ℕ) (ps : List PutNote) (n : PutNote) → (n.to ≡ to → n.class ≡ k → n.place ≡ l → ⊥) → last_put to k l (ps ++ n ∷ []) ≡ last_put to k l ps
last_other to k l ps n ne = fold_last (put_after to k l) 0 ps n ∙ dite (ℕ_discrete n.to to)
    (λ e. dite (ℕ_discrete n.class k)
    (λ f. (λ j. cond (eq-eqb n.to to e j && (eq-eqb n.class k f j && ne_eqb n.place l (λ g. ne e f g) j)) n.address (last_put to k l ps)))
    (λ h. (λ j. cond (eq-eqb n.to to e j && (ne_eqb n.class k h j && (n.place == l))) n.address (last_put to k l ps))))
    (λ h. (λ j. cond (ne_eqb n.to to h j && ((n.class == k) && (n.place == l))) n.address (last_put to k l ps)))

-- a put
pub slots_put : (o : CoreOpening) (c d : State) (r to k l a : ℕ) (p : Part) → SlotsSound o c → to < o.rings → k < 4 → l < o.depth
    → Path (ℕ → Part) d.part (put c.part r p) → Path (ℕ → ℕ) d.slot (put c.slot (slot_of o r to k l) a) → p.puts ≡ (c.part r).puts ++ record { to = to; class = k; place = l; address = a } ∷ [] → SlotsSound o d
slots_put o c d r to k l a p old tt' kt lt dp ds puts i j m h it jt mt ht nz =
    let s : ℕ = slot_of o r to k l in
    let x : ℕ = slot_of o i j m h in
    let n : PutNote = record { to = to; class = k; place = l; address = a } in
    (λ z. ds z x)
    ∙ at_put c.slot s a (λ (v : ℕ). v ≢ 0 → v ≡ last_put j m h (put c.part r p i).puts) x
    (λ e pos. let q = slot_own o i j m h r to k l jt tt' mt kt ht lt e in
    sym ((λ z. last_put j m h (put c.part r p (q.0 z)).puts)
    ∙ (λ z. last_put j m h (put_here c.part r p z).puts)
    ∙ ap (last_put j m h) puts
    ∙ last_here j m h (c.part r).puts n (sym q.1) (sym q.2) (sym q.3)))
    (λ ne pos. old i j m h it jt mt ht pos ∙ sym (at_put c.part r p (λ (w : Part). last_put j m h w.puts ≡ last_put j m h (c.part i).puts) i
    (λ y. ap (last_put j m h) puts ∙ last_other j m h (c.part r).puts n (λ e f g. ne (λ z. slot_of o (y z) (sym e z) (sym f z) (sym g z))) ∙ (λ z. last_put j m h (c.part (sym y z)).puts))
    (λ y. refl)))
    (λ e. nz ((λ z. ds z x) ∙ e))
    ∙ (λ z. last_put j m h (sym dp z i).puts)

-- a get
pub slots_got : (o : CoreOpening) (c d : State) (s : ℕ) → SlotsSound o c
    → ((i : ℕ) → (d.part i).puts ≡ (c.part i).puts) → Path (ℕ → ℕ) d.slot (put c.slot s 0) → SlotsSound o d
slots_got o c d s old puts ds i j m h it jt mt ht nz =
    let x : ℕ = slot_of o i j m h in
    (λ z. ds z x)
    ∙ at_put c.slot s 0 (λ (v : ℕ). v ≢ 0 → v ≡ last_put j m h (c.part i).puts) x
    (λ e pos. absurd (pos refl))
    (λ ne pos. old i j m h it jt mt ht pos)
    (λ e. nz ((λ z. ds z x) ∙ e))
    ∙ sym (ap (last_put j m h) (puts i))
