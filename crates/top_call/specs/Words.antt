-- The command line, as `clap` reads it: the options that the program has, and what the arguments ask for.
use Rattle.std.specs.Prelude.{◌≡◌, ◌⊎◌, ℕ, ◌^◌, ◌-◌, Bool, false, true, ◌&&◌, ◌||◌, if◌then◌else◌, List, [], ◌∷◌, Some, None, is_some, option_map, option_copied, codes}
use Rattle.std.specs.declared.option.Option.{Option}
use Rattle.std.specs.Str.{bytes_eq}
use Rattle.std.specs.Str.Parse.{digits_value, without_leading_plus}
use Rattle.clap.specs.Words.{App, Kinds, Row, Rule, fault_of, first_of, matches_of, one_of, found_of, one_text, IsUnsignedIn, new_app, new_rule, with_rule}
use Rattle.clap.specs.Simple.{on_top}
use Rattle.sat_words.specs.declared.line.ProofFormat.{ProofFormat}
use Rattle.sat_words.specs.declared.line.ProofFormat.TheVariants.{Text, Binary, Lrat}
use Rattle.top_call.specs.declared.words.Command.{Command as Asked}
use Rattle.clap.specs.declared.parser.matches.ArgMatches.{ArgMatches}
use Rattle.clap.specs.declared.builder.action.ArgAction.TheVariants.{Set, SetTrue}
use Rattle.clap.specs.declared.builder.value_parser.ValueParser.TheVariants.{Unsigned}

-- `--conflicts N`, with N from 1 to 10^12; without it N is 10^9
abbrev pub conflicts_rule : Rule
conflicts_rule = record (new_rule (codes "conflicts")) {
  long = Some (codes "conflicts");
  action = Some Set;
  parser = Some (Unsigned 1 (10 ^ 12));
  defaults = codes "1000000000" ∷ [];
}

-- `--round K`, with K from 1 to 10^12
abbrev pub round_rule : Rule
round_rule = record (new_rule (codes "round")) {
  long = Some (codes "round");
  action = Some Set;
  parser = Some (Unsigned 1 (10 ^ 12));
}

-- `--threads N`, with N from 1 to 16; without it N is 4
abbrev pub threads_rule : Rule
threads_rule = record (new_rule (codes "threads")) {
  long = Some (codes "threads");
  action = Some Set;
  parser = Some (Unsigned 1 16);
  defaults = codes "4" ∷ [];
}

-- `--words N`, with N from 64 to 2^31; without it N is 2^24
abbrev pub words_rule : Rule
words_rule = record (new_rule (codes "words")) {
  long = Some (codes "words");
  action = Some Set;
  parser = Some (Unsigned 64 (2 ^ 31));
  defaults = codes "16777216" ∷ [];
}

-- `--slots N`, with N from 1 to 16; without it N is 1
abbrev pub slots_rule : Rule
slots_rule = record (new_rule (codes "slots")) {
  long = Some (codes "slots");
  action = Some Set;
  parser = Some (Unsigned 1 16);
  defaults = codes "1" ∷ [];
}

-- `--seed N`, with N from 0 to 2^63 - 1; without it N is 0
abbrev pub seed_rule : Rule
seed_rule = record (new_rule (codes "seed")) {
  long = Some (codes "seed");
  action = Some Set;
  parser = Some (Unsigned 0 (2 ^ 63 - 1));
  defaults = codes "0" ∷ [];
}

-- `--walk N`, with N from 0 to 10^9; without it N is 0
abbrev pub walk_rule : Rule
walk_rule = record (new_rule (codes "walk")) {
  long = Some (codes "walk");
  action = Some Set;
  parser = Some (Unsigned 0 (10 ^ 9));
  defaults = codes "0" ∷ [];
}

-- `--proof PATH`
abbrev pub proof_rule : Rule
proof_rule = record (new_rule (codes "proof")) { long = Some (codes "proof") }

-- `--binary`
abbrev pub binary_rule : Rule
binary_rule = record (new_rule (codes "binary")) { long = Some (codes "binary"); action = Some SetTrue }

-- `--lrat`
abbrev pub lrat_rule : Rule
lrat_rule = record (new_rule (codes "lrat")) { long = Some (codes "lrat"); action = Some SetTrue }

-- `--no-simplify`
abbrev pub no_simplify_rule : Rule
no_simplify_rule = record (new_rule (codes "no-simplify")) { long = Some (codes "no-simplify"); action = Some SetTrue }

-- `--add`
abbrev pub add_rule : Rule
add_rule = record (new_rule (codes "add")) { long = Some (codes "add"); action = Some SetTrue }

-- `--check`
abbrev pub check_rule : Rule
check_rule = record (new_rule (codes "check")) { long = Some (codes "check"); action = Some SetTrue }

-- `--make N`, with N from 0 to 2^63 - 1
abbrev pub make_rule : Rule
make_rule = record (new_rule (codes "make")) {
  long = Some (codes "make");
  action = Some Set;
  parser = Some (Unsigned 0 (2 ^ 63 - 1));
}

-- FILE
abbrev pub file_rule : Rule
file_rule = new_rule (codes "file")

-- a command whose arguments have no program's name before them, with no flag for help and none for the version
abbrev pub bare_app : App
bare_app = on_top (λ s. record s { no_binary_name = true; disable_help_flag = true; disable_version_flag = true }) (new_app (codes "gimsatul"))

-- a command with more rules, in their order
abbrev pub with_rules : App → List Rule → App
with_rules app [] = app
with_rules app (rule ∷ rules) = with_rules (with_rule app rule) rules

-- the options of the program, in their order
abbrev pub solver_rules : List Rule
solver_rules = conflicts_rule ∷ round_rule ∷ threads_rule ∷ words_rule ∷ slots_rule ∷ seed_rule ∷ walk_rule ∷ proof_rule ∷ binary_rule ∷ lrat_rule ∷ no_simplify_rule ∷ add_rule ∷ check_rule ∷ make_rule ∷ file_rule ∷ []

-- the program's command
abbrev pub solver_app : App
solver_app = with_rules bare_app solver_rules

-- what the arguments ask for
pub record Command : Type 0 where
  -- how many rings search
  pub threads : ℕ
  -- how many lemmas the rings may learn together
  pub conflicts : ℕ
  -- how many of these they may learn in one round; if there is no such number, there is one round
  pub round : Option ℕ
  -- how many words of 64 bits there are for clauses
  pub words : ℕ
  -- how many slots each two rings have for each class of clauses
  pub slots : ℕ
  -- what the first phases are made of
  pub seed : ℕ
  -- how many steps each ring walks before it searches
  pub walk : ℕ
  -- whether only units are propagated, and nothing else is simplified
  pub no_simplify : Bool
  -- whether the simplifiers may add variables
  pub add : Bool
  -- the path of the proof, if it is wanted
  pub proof : Option (List ℕ)
  -- whether the proof is written in binary
  pub binary : Bool
  -- whether the proof has hints
  pub lrat : Bool
  -- whether the log is checked
  pub check : Bool
  -- the number of the formula that is made in place of an input, if one is
  pub make : Option ℕ
  -- the path of the input, if it is not standard input
  pub file : Option (List ℕ)

-- what the program's own command asks for
abbrev pub asked_by : Asked → Command
asked_by asked = record {
  threads = asked.threads;
  conflicts = asked.conflicts;
  round = asked.round;
  words = asked.words;
  slots = asked.slots;
  seed = asked.seed;
  walk = asked.walk;
  no_simplify = asked.no_simplify;
  add = asked.add;
  proof = option_copied asked.proof;
  binary = asked.binary;
  lrat = asked.lrat;
  check = asked.check;
  make = asked.make;
  file = option_copied asked.file;
}

-- the value of digits, with a plus sign before them or none
abbrev pub number_of : List ℕ → ℕ
number_of text = digits_value 10 (without_leading_plus text)

-- the value of a number's text, if there is one
abbrev pub number_in : Option (List ℕ) → ℕ
number_in None = 0
number_in (Some text) = number_of text

-- a flag that was used
abbrev pub flag_in : Option (List ℕ) → Bool
flag_in None = false
flag_in (Some text) = bytes_eq text (codes "true")

-- what the matches say
abbrev pub command_in : List Row → Command
command_in rows = record {
  threads = number_in (one_of (codes "threads") rows);
  conflicts = number_in (one_of (codes "conflicts") rows);
  round = option_map number_of (one_of (codes "round") rows);
  words = number_in (one_of (codes "words") rows);
  slots = number_in (one_of (codes "slots") rows);
  seed = number_in (one_of (codes "seed") rows);
  walk = number_in (one_of (codes "walk") rows);
  no_simplify = flag_in (first_of (codes "no-simplify") rows);
  add = flag_in (first_of (codes "add") rows);
  proof = first_of (codes "proof") rows;
  binary = flag_in (first_of (codes "binary") rows);
  lrat = flag_in (first_of (codes "lrat") rows);
  check = flag_in (first_of (codes "check") rows);
  make = option_map number_of (one_of (codes "make") rows);
  file = first_of (codes "file") rows;
}

-- a formula is made, and there is a file to read one from
abbrev pub has_two_formulas : Command → Bool
has_two_formulas command = is_some command.make && is_some command.file

-- the proof is to have hints, and also to be in binary or to have lines for which there are none
abbrev pub lrat_clashes : Command → Bool
lrat_clashes command = command.lrat && (command.add || command.binary)

-- the command, unless it asks for two things that exclude each other
abbrev pub unless_clashing : Command → Option Command
unless_clashing command = if has_two_formulas command || lrat_clashes command then None else Some command

-- the command, unless `clap` refuses the arguments with an error of some kind
abbrev pub unless_refused : Kinds → Command → Option Command
unless_refused [] command = unless_clashing command
unless_refused (kind ∷ kinds) command = None

-- what the arguments ask for; none if `clap` refuses them for another cause than want of memory, if `--make` stands with FILE, or
-- `--lrat` with `--add` or `--binary`
unfoldable pub command_of : List (List ℕ) → Option Command
command_of words = unless_refused (fault_of solver_app words) (command_in (matches_of solver_app words))

-- the path that is given for the proof
abbrev pub proof_path : Option Command → Option (List ℕ)
proof_path None = None
proof_path (Some command) = command.proof

-- how the lines of the proof are spelled: in DRAT as text, unless it is asked for with hints or in binary
abbrev pub proof_format : Option Command → ProofFormat
proof_format None = Text
proof_format (Some command) = if command.lrat then Lrat else if command.binary then Binary else Text

-- the path that is given for the input
abbrev pub file_path : Option Command → Option (List ℕ)
file_path None = None
file_path (Some command) = command.file

-- the number of the formula that is made, if one is
abbrev pub make_number : Option Command → Option ℕ
make_number None = None
make_number (Some command) = command.make

-- the matches have a number for this option, in its range
pub record HasNumber (id : List ℕ) (low high : ℕ) (matches : ArgMatches) : Type 0 where
  pub text : List ℕ
  pub given : one_text (found_of matches) id ≡ Some text
  pub accepted : IsUnsignedIn low high text

-- the matches have a number for `--conflicts`
abbrev pub HasLimit : ArgMatches → Type 0
HasLimit = HasNumber (codes "conflicts") 1 (10 ^ 12)

-- the matches have a number for `--round`, or no value
abbrev pub HasRound : ArgMatches → Type 0
HasRound matches = (one_text (found_of matches) (codes "round") ≡ None) ⊎ HasNumber (codes "round") 1 (10 ^ 12) matches

-- the matches have a number for `--threads`
abbrev pub HasThreads : ArgMatches → Type 0
HasThreads = HasNumber (codes "threads") 1 16

-- the matches have a number for `--words`
abbrev pub HasWords : ArgMatches → Type 0
HasWords = HasNumber (codes "words") 64 (2 ^ 31)

-- the matches have a number for `--slots`
abbrev pub HasSlots : ArgMatches → Type 0
HasSlots = HasNumber (codes "slots") 1 16

-- the matches have a number for `--seed`
abbrev pub HasSeed : ArgMatches → Type 0
HasSeed = HasNumber (codes "seed") 0 (2 ^ 63 - 1)

-- the matches have a number for `--walk`
abbrev pub HasWalk : ArgMatches → Type 0
HasWalk = HasNumber (codes "walk") 0 (10 ^ 9)

-- the matches have a number for `--make`, or no value
abbrev pub HasMade : ArgMatches → Type 0
HasMade matches = (one_text (found_of matches) (codes "make") ≡ None) ⊎ HasNumber (codes "make") 0 (2 ^ 63 - 1) matches
