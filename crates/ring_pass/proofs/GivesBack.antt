-- A clause that came back, and its count given up.
use Rattle.std.proofs.Common.{◌≡◌, ◌≢◌, ℕ, ◌+◌, ◌≤◌, List, [], ◌∷◌, ◌++◌, length, refl, sym, ap, subst, ◌∙◌, inl, ⊎_elim, arith, length-append, vec_capacity}
use Rattle.std.specs.Prelude.{All}
use Rattle.std.specs.Global.{Vec}
use Rattle.sat_words.specs.Literal.{Literal}
use Rattle.rup_model.proofs.Lists.{In, In_append, In_append_left, In_append_right}
use Rattle.rup_model.proofs.ProgramOpening.{All_from_In}
use Rattle.share_core.proofs.ClauseLists.{all_in}
use Rattle.share_rule.specs.declared.view.RingPart.{RingPart}
use Rattle.share_rule.specs.declared.view.View.{View}
use Rattle.share_rule.specs.Steps.{drop_part, after_drop}
use Rattle.share_rule.specs.Views.{only, clause_of}
use Rattle.ring_pass.specs.declared.spares.Spares.{Spares}
use Rattle.ring_pass.specs.declared.waiting.Waiting.{Waiting}
use Rattle.ring_pass.specs.Looks.{OnlyLooked}
use Rattle.ring_pass.specs.RingState.{IsBuffer, IsWaiting, AreWaiting}
use Rattle.ring_pass.specs.Offering.{CanTakeBack, GaveBack}
use Rattle.ring_pass.proofs.DropsHere.{left_part, last_part, are_last}
use Rattle.ring_pass.proofs.Stays.{only_is, only_same, one_same, one_changed}

pub gave_of : (v r w : View) (a n : ℕ) → v.parts ≡ only v ∷ [] → OnlyLooked v r → w ≡ after_drop a n r → GaveBack v w a n
gave_of v r w a n one looked is = record {
  parts = one_changed (drop_part a n) r w (one_same v r looked one) (ap (λ (u : View). u.parts) is) ∙ (λ i. drop_part a n (only_same v r looked i) ∷ []);
  layout = ap (λ (u : View). u.layout) is ∙ looked.layout;
  opening = ap (λ (u : View). u.opening) is ∙ looked.opening;
  stop = ap (λ (u : View). u.stop) is ∙ looked.stop;
  looks = ap (λ (u : View). u.looks) is ∙ looked.looks;
}

-- Buffers

-- the last one
pub last_buffer : (n : ℕ) (bs front : List (Vec Literal)) (b : Vec Literal) → bs ≡ front ++ b ∷ [] → All (IsBuffer n) bs → IsBuffer n b
last_buffer n bs front b e all = all_in (IsBuffer n) bs b (subst (In b) (sym e) (In_append_right front (b ∷ []) b (inl refl))) all

front_buffers : (n : ℕ) (bs front : List (Vec Literal)) (b : Vec Literal) → bs ≡ front ++ b ∷ [] → All (IsBuffer n) bs → All (IsBuffer n) front
front_buffers n bs front b e all = All_from_In (IsBuffer n) front (λ k i. all_in (IsBuffer n) bs k (subst (In k) (sym e) (In_append_left front (b ∷ []) k i)) all)

more_buffers : (n : ℕ) (front : List (Vec Literal)) (b : Vec Literal) → All (IsBuffer n) front → IsBuffer n b → All (IsBuffer n) (front ++ b ∷ [])
more_buffers n front b all is = All_from_In (IsBuffer n) (front ++ b ∷ []) (λ k i. ⊎_elim (λ j. all_in (IsBuffer n) front k j all) (λ j. ⊎_elim (λ e. subst (IsBuffer n) e is) (λ f. absurd f) j) (In_append front (b ∷ []) k i))

-- Both ends

-- others hold it: the buffer is spare again
pub left_back : (v w : View) (a found : ℕ) (ws : List Waiting) (room : ℕ) (s : Spares) (front now : List (Vec Literal)) (b b' : Vec Literal) (long : ℕ) → GaveBack v w a found → found ≢ 1 → s.buffers.items ≡ front ++ b ∷ [] → now ≡ front ++ b' ∷ [] → b'.items ≡ [] → vec_capacity b' ≡ vec_capacity b → long ≡ s.longest
    → (n : ℕ) → CanTakeBack (only v) ws room s (n + 1) → (AreWaiting ws (only w).core.waiting) × (length ws + n ≤ room) × (All (IsBuffer long) now) × (n ≤ length now)
left_back v w a found ws room s front now b b' long gave ne had has empty same long_is n c =
    let is : only w ≡ record (only v) { core = record (only v).core { held = _ } } = only_is w (drop_part a found (only v)) gave.parts ∙ left_part a found (only v) ne in
    let buffer = last_buffer s.longest s.buffers.items front b had c.buffers in
    let le = buffer.1 in
    let places = c.places in
    let enough = c.enough in
    let before = ap length had in
    let after = ap length has in
    let sum = length-append front (b ∷ []) in
    let sum' = length-append front (b' ∷ []) in (
      subst (AreWaiting ws) (sym (ap (λ (y : RingPart). y.core.waiting) is)) c.waits,
      omega arith,
      subst (λ (k : ℕ). All (IsBuffer k) now) (sym long_is) (subst (All (IsBuffer s.longest)) (sym has) (more_buffers s.longest front b' (front_buffers s.longest s.buffers.items front b had c.buffers) (empty, omega arith))),
      omega arith,
    )

-- nobody does: it waits
pub last_back : (v w : View) (a found : ℕ) (ws ws' : List Waiting) (room room' : ℕ) (s : Spares) (front : List (Vec Literal)) (b : Vec Literal) (x : Waiting) (long : ℕ) → GaveBack v w a found → found ≡ 1 → s.buffers.items ≡ front ++ b ∷ [] → ws' ≡ ws ++ x ∷ [] → IsWaiting x (clause_of a v) → room' ≡ room → long ≡ s.longest
    → (n : ℕ) → CanTakeBack (only v) ws room s (n + 1) → (AreWaiting ws' (only w).core.waiting) × (length ws' + n ≤ room') × (All (IsBuffer long) front) × (n ≤ length front)
last_back v w a found ws ws' room room' s front b x long gave e had more waits same long_is n c =
    let is : (only w).core.waiting ≡ (only v).core.waiting ++ clause_of a v ∷ [] = ap (λ (y : RingPart). y.core.waiting) (only_is w (drop_part a found (only v)) gave.parts ∙ last_part a found (only v) e) in
    let places = c.places in
    let enough = c.enough in
    let before = ap length had in
    let after = ap length more in
    let sum = length-append front (b ∷ []) in
    let sum' = length-append ws (x ∷ []) in (
      subst (λ (xs : List Waiting). AreWaiting xs (only w).core.waiting) (sym more) (subst (AreWaiting (ws ++ x ∷ [])) (sym is) (are_last ws (only v).core.waiting x (clause_of a v) c.waits waits)),
      omega arith,
      subst (λ (k : ℕ). All (IsBuffer k) front) (sym long_is) (front_buffers s.longest s.buffers.items front b had c.buffers),
      omega arith,
    )
