-- The numbers of a report.
use Rattle.std.specs.Prelude.{◌≡◌, ◌≤◌, ◌<◌, ℕ, List, [], ◌++◌, length, map, drop, sum, replicate, slice_index_or}
use Rattle.sat_words.specs.declared.shared.NoRoom.{NoRoom}
use Rattle.rup_model.specs.declared.journal.Entry.{Entry}
use Rattle.rup_model.specs.Journal.{learned}
use Rattle.ring_run.specs.declared.job.Counts.{Counts}
use Rattle.dimacs_read.specs.Codes.{number_of}
use Rattle.top_call.specs.declared.report.CallEnd.{CallEnd}
use Rattle.top_call.specs.declared.report.CallEnd.TheVariants.{BadInput, Room}
use Rattle.top_call.specs.declared.report.Tally.{Tally}

-- before the rings were to start
abbrev pub no_tally : Tally
no_tally = record { learned = []; offered = []; exported = []; need = 0; largest = 0; code = 0; line = 0 }

-- if the input was refused, with the number of the code and the line
abbrev pub bad_tally : ℕ → ℕ → Tally
bad_tally code line = record no_tally { code = code; line = line }

-- when the rings start, none of which has counted anything
abbrev pub zero_tally : ℕ → Tally
zero_tally rings = record no_tally { learned = replicate rings 0; offered = replicate rings 0; exported = replicate rings 0 }

-- there was room
abbrev pub no_lack : NoRoom
no_lack = record { need = 0; largest = 0 }

-- what the rings counted, in their order, with the need and the room
abbrev pub rings_tally : List Counts → NoRoom → Tally
rings_tally counts lack = record {
  learned = map (λ c. c.learned) counts;
  offered = map (λ c. c.offered) counts;
  exported = map (λ c. c.exported) counts;
  need = lack.need;
  largest = lack.largest;
  code = 0;
  line = 0;
}

-- the numbers, in the place of as many at the front of the old ones
abbrev pub over : List ℕ → List ℕ → List ℕ
over numbers old = numbers ++ drop (length numbers) old

-- after the rings have counted these
abbrev pub counted : List Counts → Tally → Tally
counted counts tally = record tally {
  learned = over (map (λ c. c.learned) counts) tally.learned;
  offered = over (map (λ c. c.offered) counts) tally.offered;
  exported = over (map (λ c. c.exported) counts) tally.exported;
}

-- there is a number for each of the rings
pub record HasRings (rings : ℕ) (tally : Tally) : Type 0 where
  pub learned : length tally.learned ≡ rings
  pub offered : length tally.offered ≡ rings
  pub exported : length tally.exported ≡ rings

-- the lists of a tally are what the rings counted
pub record Tells (counts : List Counts) (tally : Tally) : Type 0 where
  pub learned : tally.learned ≡ map (λ c. c.learned) counts
  pub offered : tally.offered ≡ map (λ c. c.offered) counts
  pub exported : tally.exported ≡ map (λ c. c.exported) counts

-- a number for each of the rings, that of the lemmas which it has learned; together they are at most as many as the rings may learn
pub record AreLearned (rings limit : ℕ) (journal : List Entry) (numbers : List ℕ) : Type 0 where
  pub many : length numbers ≡ rings
  pub each : (ring d : ℕ) → ring < rings → slice_index_or numbers ring d ≡ length (learned ring journal)
  pub within : sum numbers ≤ limit

-- with the numbers of an end that has some
abbrev pub noted : CallEnd → Tally → Tally
noted (BadInput code line) tally = record tally { code = number_of code; line = line }
noted (Room lack) tally = record tally { need = lack.need; largest = lack.largest }
noted _ tally = tally
