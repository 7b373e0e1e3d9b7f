-- What an offer does, ring by ring.
use Rattle.std.specs.Prelude.{◌≡◌, ℕ, ◌+◌, ◌<◌, ◌≤◌, ◌==◌, not, List, [], ◌∷◌, ◌++◌, map, filter, length, All}
use Rattle.std.specs.List.{range_with_len}
use Rattle.share_core.specs.declared.stored.ClauseAt.{ClauseAt}
use Rattle.share_core.specs.declared.stored.PutNote.{PutNote}
use Rattle.share_core.specs.State.{times_at}
use Rattle.share_rule.specs.declared.view.RingPart.{RingPart}
use Rattle.share_rule.specs.declared.view.View.{View}
use Rattle.share_rule.specs.Steps.{drop_part}
use Rattle.share_rule.specs.Views.{only, clause_in, glue_in}
use Rattle.ring_pass.specs.declared.spares.Spares.{Spares}
use Rattle.ring_pass.specs.declared.waiting.Waiting.{Waiting}
use Rattle.ring_pass.specs.RingState.{AreWaiting, IsBuffer, AreShort}

-- the rings below n except for this one, in order
abbrev pub others : (ring n : ℕ) → List ℕ
others ring n = filter (λ r. not (r == ring)) (range_with_len 0 n)

-- the cell put for each of these rings, at this place
abbrev pub puts_for : (class place address : ℕ) → List ℕ → List PutNote
puts_for class place address tos = map (λ r. record { to = r; class = class; place = place; address = address }) tos

-- n clauses that come back can be read before their counts are given up, and can wait
pub record CanTakeBack (p : RingPart) (ws : List Waiting) (room : ℕ) (s : Spares) (n : ℕ) : Type 0 where
  pub waits : AreWaiting ws p.core.waiting
  pub places : length ws + n ≤ room
  pub buffers : All (IsBuffer s.longest) s.buffers.items
  pub enough : n ≤ length s.buffers.items

-- at each address the same clause is held, as often and with the same glue
pub record SameHeld (p q : RingPart) : Type 0 where
  pub times : (a : ℕ) → times_at a q.core.held ≡ times_at a p.core.held
  pub clause : (a : ℕ) → 0 < times_at a p.core.held → clause_in a q.core.held ≡ clause_in a p.core.held
  pub glue : (a : ℕ) → 0 < times_at a p.core.held → glue_in (clause_in a p.core.held).number q.glues ≡ glue_in (clause_in a p.core.held).number p.glues

-- the part of a ring that has put a cell, which it holds, for these rings: at most as many clauses came back, which wait
pub record PutPart (p q : RingPart) (class place a : ℕ) (tos : List ℕ) : Type 0 where
  pub back : List ClauseAt
  pub few : length back ≤ length tos
  pub held : SameHeld p q
  pub glues : All (λ h. glue_in h.number q.glues ≡ glue_in h.number p.glues) p.core.waiting
  pub gave : (n : ℕ) → length (clause_in a p.core.held).lits ≤ n → AreShort n p.gave → AreShort n q.gave
  pub part : q ≡ record p {
    core = record p.core {
      held = q.core.held;
      waiting = p.core.waiting ++ back;
      shared = p.core.shared + length tos;
      puts = p.core.puts ++ puts_for class place a tos;
    };
    glues = q.glues;
    gave = q.gave;
  }

-- the pass of that ring
pub record PutFor (v w : View) (class place a : ℕ) (tos : List ℕ) : Type 0 where
  pub one : w.parts ≡ only w ∷ []
  pub part : PutPart (only v) (only w) class place a tos
  pub layout : w.layout ≡ v.layout
  pub opening : w.opening ≡ v.opening
  pub stop : w.stop ≡ v.stop
  pub looks : w.looks ≡ v.looks

-- a count was given up
pub record GaveBack (v w : View) (a found : ℕ) : Type 0 where
  pub parts : w.parts ≡ drop_part a found (only v) ∷ []
  pub layout : w.layout ≡ v.layout
  pub opening : w.opening ≡ v.opening
  pub stop : w.stop ≡ v.stop
  pub looks : w.looks ≡ v.looks
