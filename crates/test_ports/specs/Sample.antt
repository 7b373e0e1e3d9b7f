-- The state of the small port: three clauses that are held at the addresses 1 to 3, two units that were seen, and another ring's stop.
use Rattle.std.specs.Prelude.{ℕ, ◌-◌, ◌^◌, Bool, true, false, [], ◌∷◌, Some, None, ◌==◌, List, map, if◌then◌else◌}
use Rattle.std.specs.List.{range_with_len}
use Rattle.sat_words.specs.Literal.{Literal}
use Rattle.rup_model.specs.declared.journal.TheConstants.{LEARNED_PER_REDUCTION}
use Rattle.rup_model.specs.declared.journal.Kind.TheVariants.{Learn}
use Rattle.rup_model.specs.declared.journal.Entry.{Entry}
use Rattle.rup_model.specs.declared.journal.Entry.TheVariants.{Add}
use Rattle.ring_port.specs.PortState.{Holding, Offer, PortState}

-- the literal of a variable, negated or not
abbrev pub lit : ℕ → Bool → Literal
lit v n = record { var = v; neg = n }

-- the first clause that the port holds
abbrev pub first : Holding
first = record { address = 1; number = 1; glue = 0; lits = lit 1 true ∷ lit 2 false ∷ [] }

-- the second clause that the port holds
abbrev pub second : Holding
second = record { address = 2; number = 2; glue = 0; lits = lit 4 true ∷ lit 1 true ∷ lit 5 false ∷ [] }

-- the third clause that the port holds
abbrev pub third : Holding
third = record { address = 3; number = 3; glue = 0; lits = lit 4 true ∷ lit 2 true ∷ lit 5 true ∷ [] }

-- the count of looks that found no unit left stands at its last value; the log has hints, and the units' clauses come after the three
abbrev pub sample_state : PortState
sample_state = record {
  held = first ∷ second ∷ third ∷ [];
  waiting = [];
  seen = lit 1 false ∷ lit 4 false ∷ [];
  told = (lit 1 false, 4) ∷ (lit 4 false, 5) ∷ [];
  given = [];
  coming = 0;
  kept = 0;
  caught_up = 2 ^ 64 - 1;
  start = [];
  opening = [];
  mine = [];
  shared = 0;
  polled = 0;
  polls = [];
  polls_after = [];
  puts = [];
  taken = [];
  vars = 5;
  ring = 0;
  rings = 2;
  depth = 2;
  last = None;
  ticket = false;
  found = 0;
  limit = 1;
  stop = Some (record { kind = 1; ring = 1 });
  looks = 0;
  refused = None;
  ended = false;
  hinted = true;
  output = None;
  home = [];
}

-- the first clause, put for the other ring into the first slot of its class
abbrev pub put_first : Offer
put_first = record { ring = 1; class = 0; place = 0; address = 1 }

-- as many lemmas as a reduction needs
pub enough : List Entry
enough = map (λ n. Add (record { ring = 0; number = n; lits = []; kind = Learn; hints = [] })) (range_with_len 4 LEARNED_PER_REDUCTION)

-- the port at its stages: at 1 the first clause was learned last, at 2 it was offered, and at 3 enough was learned to reduce; before
-- and after the ticket was drawn
abbrev pub sample_at : ℕ → Bool → PortState
sample_at n drawn = record sample_state {
  mine = if n == 3 then enough else [];
  shared = if n == 2 then 1 else 0;
  puts = if n == 2 then put_first ∷ [] else [];
  last = if n == 1 then Some 1 else None;
  ticket = drawn;
  found = if drawn then 1 else 0;
}
