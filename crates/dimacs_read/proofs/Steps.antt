-- What is known of a byte at one spot, by what is known of it at another.
use Rattle.std.proofs.Common.{◌≡◌, ◌∙◌, ℕ, ◌+◌, Bool, false, List, [], ◌∷◌, sym, refl, arith}
use Rattle.std.proofs.lemmas.Bool.Decides.{nat_tests}
use Rattle.std.specs.Prelude.{nat_eq, Result, Ok, Err, IfOk, IfErr, MatchResult}
use Rattle.dimacs_read.specs.Grammar.{Mark}
use Rattle.dimacs_read.specs.Body.{IsFaultOf, IsLawful}
use Rattle.dimacs_read.specs.Bytes.{Passes}
use Rattle.dimacs_read.specs.State.{rest, Leads, Stops}
use Rattle.dimacs_read.specs.declared.body.Body.{Body}
use Rattle.dimacs_read.specs.declared.spot.State.{State}
use Rattle.dimacs_read.specs.declared.spot.State.TheVariants.{Line, Gap}
use Rattle.dimacs_read.specs.declared.stop.Halt.{Halt}
use Rattle.dimacs_read.specs.declared.stop.Halt.TheVariants.{Bad, Done, Memory}

-- what a byte at a spot leads to, whatever was read before
abbrev pub Next : State → ℕ → Result State Halt → Type 0
Next spot byte r = (b : Body) → MatchResult r (λ next. Leads spot b byte next b) (λ stop. Stops spot b byte stop b)

pub next_leads : (r : Result State Halt) (spot at : State) (b : Body) (byte : ℕ) → at ≡ spot → Next spot byte r → IfOk r (λ next. Leads at b byte next b)
next_leads (Ok next) spot at b byte is both = λ before text. rw is (both b before text)
next_leads (Err stop) spot at b byte is both = tt

stops_at : (spot at : State) (b : Body) (byte : ℕ) (stop : Halt) → at ≡ spot → Stops spot b byte stop b → Stops at b byte stop b
stops_at spot at b byte (Bad code) is h = λ before text. rw is (h before text)
stops_at spot at b byte Done is h = (λ before text. rw is (h.0 before text), h.1)
stops_at spot at b byte Memory is h = tt

pub next_stops : (r : Result State Halt) (spot at : State) (b : Body) (byte : ℕ) → at ≡ spot → Next spot byte r → IfErr r (λ stop. Stops at b byte stop b)
next_stops (Ok next) spot at b byte is both = tt
next_stops (Err stop) spot at b byte is both = stops_at spot at b byte stop is (both b)

unequal : (m n : ℕ) → (m ≡ n → ⊥) → nat_eq m n ≡ false
unequal m n h = grind (arith, nat_tests)

-- the first byte of a line that is no mark is a byte after a blank
pub line_is_gap : (byte : ℕ) (digit : Bool) (before : ℕ) (b : Body) (text : List ℕ) → Passes byte false false digit → (byte ≡ 99 → ⊥) → (byte ≡ 37 → ⊥)
    → rest Line before b (byte ∷ text) ≡ rest Gap before b (byte ∷ text)
line_is_gap byte digit before b text passes comment mark = rw (passes.newline_is, passes.blank_is, unequal byte 99 comment, unequal byte 37 mark) refl

pub line_leads : (r : Result State Halt) (b : Body) (byte : ℕ) (digit : Bool) → Passes byte false false digit → (byte ≡ 99 → ⊥) → (byte ≡ 37 → ⊥)
    → Next Gap byte r → IfOk r (λ next. Leads Line b byte next b)
line_leads (Ok next) b byte digit passes comment mark both = λ before text. both b before text ∙ sym (line_is_gap byte digit before b text passes comment mark)
line_leads (Err stop) b byte digit passes comment mark both = tt

line_stops_by : (stop : Halt) (b : Body) (byte : ℕ) (digit : Bool) → Passes byte false false digit → (byte ≡ 99 → ⊥) → (byte ≡ 37 → ⊥)
    → Stops Gap b byte stop b → Stops Line b byte stop b
line_stops_by (Bad code) b byte digit passes comment mark h = λ before text. line_is_gap byte digit before b text passes comment mark ∙ h before text
line_stops_by Done b byte digit passes comment mark h = (λ before text. line_is_gap byte digit before b text passes comment mark ∙ h.0 before text, h.1)
line_stops_by Memory b byte digit passes comment mark h = tt

pub line_stops : (r : Result State Halt) (b : Body) (byte : ℕ) (digit : Bool) → Passes byte false false digit → (byte ≡ 99 → ⊥) → (byte ≡ 37 → ⊥)
    → Next Gap byte r → IfErr r (λ stop. Stops Line b byte stop b)
line_stops (Ok next) b byte digit passes comment mark both = tt
line_stops (Err stop) b byte digit passes comment mark both = line_stops_by stop b byte digit passes comment mark (both b)

pub mark_stops : (b : Body) (byte : ℕ) (stop : Halt) → byte ≡ 37 → IsLawful b → IsFaultOf b Mark stop → Stops Line b byte stop b
mark_stops b byte (Bad code) is lawful bad = λ before text. rw is (bad (before + 1) [])
mark_stops b byte Done is lawful ends = (λ before text. rw is (ends (before + 1)), lawful)
mark_stops b byte Memory is lawful h = tt
