-- How a formula is decided, by the arguments.
use Rattle.std.specs.Prelude.{◌≡◌, ℕ, ◌≤◌, ◌^◌, Bool, true, false, if◌then◌else◌, Some, None, IfSome}
use Rattle.std.specs.declared.option.Option.{Option}
use Rattle.sat_words.specs.Formats.{has_hints}
use Rattle.portfolio_run.specs.declared.plan.Plan.{Plan as SearchPlan}
use Rattle.top_call.specs.declared.plan.CallPlan.{CallPlan}
use Rattle.top_call.specs.Words.{Command, proof_format}

-- how many rounds of simplifiers the ruler may take before each round of the rings
abbrev pub rounds_of : Bool → ℕ
rounds_of no_simplify = if no_simplify then 0 else 3

-- how the ruler and the rings are to search
abbrev pub search_of : Command → SearchPlan
search_of command = record {
  threads = command.threads;
  conflicts = command.conflicts;
  round = command.round;
  words = command.words;
  slots = command.slots;
  seed = command.seed;
  walk = command.walk;
  rounds = rounds_of command.no_simplify;
  additions = command.add;
  format = proof_format (Some command);
  keep_lines = command.check;
}

-- the search of no command
abbrev pub no_search : SearchPlan
no_search = record { threads = 0; conflicts = 0; round = None; words = 0; slots = 0; seed = 0; walk = 0; rounds = 0; additions = false; format = proof_format None; keep_lines = false }

-- what the arguments ask for
abbrev pub plan_of : Option Command → CallPlan
plan_of None = record { search = no_search; make = None }
plan_of (Some command) = record { search = search_of command; make = command.make }

-- what is asked of a search can be done: 1 to 16 rings, which together may learn at most 10^12 lemmas, and 1 to 10^12 in a round if
-- that has a bound, over no more words than can be numbered, with 1 to 16 slots for each two rings and class
pub record HasRanges (plan : SearchPlan) : Type 0 where
  pub some_rings : 1 ≤ plan.threads
  pub few_rings : plan.threads ≤ 16
  pub few_lemmas : plan.conflicts ≤ 10 ^ 12
  pub some_in_round : IfSome plan.round (λ every. 1 ≤ every)
  pub few_in_round : IfSome plan.round (λ every. every ≤ 10 ^ 12)
  pub few_words : plan.words ≤ 2 ^ 31
  pub some_slots : 1 ≤ plan.slots
  pub few_slots : plan.slots ≤ 16

-- and variables are added only if the proof has no hints
pub record IsInRange (plan : SearchPlan) : Type 0 where
  pub ranges : HasRanges plan
  pub plain : plan.additions ≡ true → has_hints plan.format ≡ false
