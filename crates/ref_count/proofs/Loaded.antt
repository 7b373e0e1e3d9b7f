-- What loads leave as it was, and the two literals of a word.
use Rattle.std.proofs.Common.{◌≡◌, ℕ, ◌+◌, ◌*◌, ◌/◌, ◌^◌, ◌<◌, ◌≤◌, List, [], ◌∷◌, length, refl, sym, ap, subst, ◌∙◌, arith}
use Rattle.std.specs.Prelude.{slice_index_or, Option}
use Rattle.atomic_table.specs.declared.shared.Seat.{Seat}
use Rattle.share_rule.specs.declared.Shared.{Shared}
use Rattle.share_rule.specs.Passes.{IsPassOf}
use Rattle.share_rule.proofs.Parts.{held_of}
use Rattle.sat_words.specs.Literal.{Literal}
use Rattle.clause_cell.specs.Packing.{half, lit_word}
use Rattle.share_core.specs.State.{times_at}
use Rattle.share_rule.specs.declared.Layout.{Layout}
use Rattle.share_rule.specs.declared.view.RingPart.{RingPart}
use Rattle.share_rule.specs.declared.view.View.{View}
use Rattle.share_rule.specs.Layout.{InVars}
use Rattle.share_rule.specs.Steps.{after_load}
use Rattle.share_rule.specs.Views.{only, no_part, clause_in, clause_of, IsHolding}
use Rattle.ref_count.specs.Scans.{OnlyLoaded}
use Rattle.share_rule.proofs.Decoding.{Decoded, decoded}

only_same : (v w : View) → OnlyLoaded v w → only w ≡ only v
only_same v w h = ap (λ (ps : List RingPart). slice_index_or ps 0 no_part) h.parts

-- the literals of a cell stay
pub lits_same : (v w : View) (a : ℕ) → OnlyLoaded v w → (clause_of a w).lits ≡ (clause_of a v).lits
lits_same v w a h = ap (λ (p : RingPart). (clause_in a p.core.held).lits) (only_same v w h)

-- and it is held still
pub holding_same : (v w : View) (a : ℕ) → OnlyLoaded v w → IsHolding a v → IsHolding a w
holding_same v w a k h = (k.parts ∙ h.0 ∙ (λ i. sym (only_same v w k) i ∷ []), subst (λ (p : RingPart). 0 < times_at a p.core.held) (sym (only_same v w k)) h.1)

pub loaded : (v w : View) (word found : ℕ) → w ≡ after_load word found v → OnlyLoaded v w
loaded v w word found is = record { parts = ap (λ (u : View). u.parts) is; layout = ap (λ (u : View). u.layout) is; opening = ap (λ (u : View). u.opening) is; stop = ap (λ (u : View). u.stop) is; looks = ap (λ (u : View). u.looks) is }

pub loaded_more : (u v w : View) (word found : ℕ) → OnlyLoaded u v → w ≡ after_load word found v → OnlyLoaded u w
loaded_more u v w word found g is = let h = loaded v w word found is in record { parts = h.parts ∙ g.parts; layout = h.layout ∙ g.layout; opening = h.opening ∙ g.opening; stop = h.stop ∙ g.stop; looks = h.looks ∙ g.looks }

-- the two literals of a word
even_lit : (l : Layout) (lits : List Literal) (j n : ℕ) → l.vars ≤ 2 ^ 30 → InVars l lits → 2 * j < length lits → n ≡ lit_word lits j → Decoded lits (2 * j) (half n (2 * j))
even_lit l lits j n few vars lt word = decoded l lits (2 * j) n (half n (2 * j)) few vars lt (word ∙ ap (lit_word lits) (halved j)) refl
  where
    halved : (k : ℕ) → k ≡ 2 * k / 2
    halved k = omega arith

odd_lit : (l : Layout) (lits : List Literal) (j n : ℕ) → l.vars ≤ 2 ^ 30 → InVars l lits → 2 * j + 1 < length lits → n ≡ lit_word lits j → Decoded lits (2 * j + 1) (half n (2 * j + 1))
odd_lit l lits j n few vars lt word = decoded l lits (2 * j + 1) n (half n (2 * j + 1)) few vars lt (word ∙ ap (lit_word lits) (halved j)) refl
  where
    halved : (k : ℕ) → k ≡ (2 * k + 1) / 2
    halved k = omega arith

pub first_of : {B : Type 0} (t : Shared B) (p : Seat (Option B) View) (v : View) (a j n : ℕ) → IsPassOf t p → OnlyLoaded v p.me.0 → IsHolding a v → 2 * j < length (clause_of a v).lits → n ≡ lit_word (clause_of a p.me.0).lits j → Decoded (clause_of a v).lits (2 * j) (half n (2 * j))
first_of {B} t p v a j n pass stays held lt word =
    let few : p.me.0.layout.vars ≤ 2 ^ 30 = subst (λ (l : Layout). l.vars ≤ 2 ^ 30) (sym pass.2) t.vars in
    let h = held_of p.me.0 pass.3 a (holding_same v p.me.0 a stays held) in
    let same = lits_same v p.me.0 a stays in
    even_lit p.me.0.layout (clause_of a v).lits j n few (subst (InVars p.me.0.layout) same h.vars) lt (word ∙ ap (λ (ls : List Literal). lit_word ls j) same)

pub second_of : {B : Type 0} (t : Shared B) (p : Seat (Option B) View) (v : View) (a j n : ℕ) → IsPassOf t p → OnlyLoaded v p.me.0 → IsHolding a v → 2 * j + 1 < length (clause_of a v).lits → n ≡ lit_word (clause_of a p.me.0).lits j → Decoded (clause_of a v).lits (2 * j + 1) (half n (2 * j + 1))
second_of {B} t p v a j n pass stays held lt word =
    let few : p.me.0.layout.vars ≤ 2 ^ 30 = subst (λ (l : Layout). l.vars ≤ 2 ^ 30) (sym pass.2) t.vars in
    let h = held_of p.me.0 pass.3 a (holding_same v p.me.0 a stays held) in
    let same = lits_same v p.me.0 a stays in
    odd_lit p.me.0.layout (clause_of a v).lits j n few (subst (InVars p.me.0.layout) same h.vars) lt (word ∙ ap (λ (ls : List Literal). lit_word ls j) same)
