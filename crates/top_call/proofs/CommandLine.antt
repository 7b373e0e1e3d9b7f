-- What a parse of the program's command gives.
use Rattle.std.proofs.Common.{◌≡◌, ◌∙◌, ◌<◌, ◌≤◌, ◌^◌, ◌-◌, ◌⊎◌, ℕ, zero, suc, Bool, true, false, not, List, [], ◌∷◌, length, map, codes, refl, sym, ap, subst, arith, inl, inr, Some, None, true≢false, is_some}
use Rattle.std.specs.Prelude.{◌&&◌, find, option_map, option_and_then, slice_get}
use Rattle.std.specs.List.{All, slice_index_or}
use Rattle.std.specs.Str.{bytes_eq}
use Rattle.std.specs.Borrow.{Bor}
use Rattle.std.specs.declared.option.Option.{Option}
use Rattle.std.proofs.lemmas.List.{get_or-map, length-map}
use Rattle.std.proofs.lemmas.List.Elements.{All-get_or}
use Rattle.std.proofs.lemmas.Slice.Eq.{bytes_eq-Decides}
use Rattle.clap.specs.Words.{Accepts, App, IsAmong, IsParsedFrom, IsPlain, IsPlainArg, Kinds, Rule, SameRules, app_of, args_of, fault_of, found_of, groups_of, is_simple, is_simple_and_free, items_of, matched_of, matches_of, one_text, parser_of, read_as, reading_of, rule_of}
use Rattle.clap.specs.Facts.{Entry, EntryPasses, HasIn, PassesArg, least_values, parser_of_value, unwrap_or_range}
use Rattle.clap.specs.Walk.{is_free_arg, is_simple_arg}
use Rattle.clap.specs.declared.builder.action.ArgAction.TheVariants.{Set, Count}
use Rattle.clap.specs.declared.builder.arg.Arg.{Arg}
use Rattle.clap.specs.declared.builder.command.Command.{Command as ClapCommand, out-Command}
use Rattle.clap.specs.declared.builder.value_parser.ValueParser.{ValueParser}
use Rattle.clap.specs.declared.builder.value_parser.ValueParser.TheVariants.{Unsigned}
use Rattle.clap.specs.declared.builder.value_parser.Reading.{Reading}
use Rattle.clap.specs.declared.parser.matches.ArgMatches.{ArgMatches}
use Rattle.clap.specs.declared.parser.matches.MatchedArg.{MatchedArg}
use Rattle.clap.specs.declared.error.kind.ErrorKind.{ErrorKind}
use Rattle.clap.proofs.CallerLemmas.{default_present, entry_by_id, same_rules_by_id}
use Rattle.clap.proofs.SimpleLemmas.{is_false, is_nil, plain_fields}
use Rattle.clap.proofs.WalkLemmas.{both}
use Rattle.top_call.specs.Words.{Command, HasNumber, HasThreads, HasLimit, HasRound, HasWords, HasSlots, HasSeed, HasWalk, HasMade, command_in, command_of, unless_clashing, unless_refused, solver_app, solver_rules, conflicts_rule, round_rule, threads_rule, words_rule, slots_rule, seed_rule, walk_rule, make_rule}

pub solver_simple : is_simple solver_app ≡ true
solver_simple = refl

pub solver_free : is_simple_and_free solver_app ≡ true
solver_free = refl

-- words that `clap` takes ask for what the matches say, unless they ask for both
pub lawful_words : (words : List (List ℕ)) → fault_of solver_app words ≡ [] → command_of words ≡ unless_clashing (command_in (matches_of solver_app words))
unfolding command_of
lawful_words words none = ap (λ (kinds : Kinds). unless_refused kinds (command_in (matches_of solver_app words))) none

refused_by : (kinds : Kinds) (kind : ErrorKind) (command : Command) → IsAmong kind kinds → unless_refused kinds command ≡ None
refused_by [] kind command among = absurd among
refused_by (x ∷ xs) kind command among = refl

-- words that it refuses ask for nothing
pub refused_words : (c : ClapCommand) (words : List (List ℕ)) (kind : ErrorKind) → app_of c ≡ solver_app → IsAmong kind (fault_of (app_of c) words) → command_of words ≡ None
unfolding command_of
refused_words c words kind app among = refused_by (fault_of solver_app words) kind (command_in (matches_of solver_app words)) (subst (λ (a : App). IsAmong kind (fault_of a words)) app among)

-- ---- the arguments

is_none : {X : Type 0} (o : Option X) → not (is_some o) ≡ true → o ≡ None
is_none None e = refl
is_none (Some x) e = absurd (true≢false (sym e))

plain_arg : (a : Arg) → is_simple_arg a ≡ true → is_free_arg a ≡ true → IsPlainArg a
plain_arg a simple free =
    let p = both _ _ simple in
    let q = both _ _ p.1 in
    let r = both _ _ q.1 in
    let x = both _ _ free in
    let y = both _ _ x.1 in
    (is_false _ x.0, is_nil _ y.0, is_nil _ p.0, is_nil _ r.0)

no_condition : (a : Arg) → is_simple_arg a ≡ true → (a.default_vals_ifs.items ≡ []) × (a.val_delim ≡ None)
no_condition a simple =
    let p = both _ _ simple in
    let q = both _ _ p.1 in
    let r = both _ _ q.1 in
    let s = both _ _ r.1 in
    (is_nil _ q.0, is_none _ s.0)

-- each rule passes the test
abbrev passes : (Rule → Bool) → List Rule → Bool
passes test [] = true
passes test (x ∷ rules) = test x && passes test rules

each_passes : (test : Rule → Bool) (rules : List Rule) → passes test rules ≡ true → (k : ℕ) (r : Rule) → k < length rules → test (slice_index_or rules k r) ≡ true
each_passes test [] e k r lt = absurd (omega arith)
each_passes test (x ∷ rules) e zero r lt = (both _ _ e).0
each_passes test (x ∷ rules) e (suc k) r lt = each_passes test rules (both _ _ e).1 k r (omega arith)

-- no rule has the id but the one at the place
abbrev is_alone : List ℕ → List Rule → ℕ → Bool
is_alone id [] place = true
is_alone id (x ∷ rules) zero = passes (λ r. not (bytes_eq r.id id)) rules
is_alone id (x ∷ rules) (suc place) = not (bytes_eq x.id id) && is_alone id rules place

other_id : (b : Bool) → not b ≡ true → b ≡ true → ⊥
other_id b e h = true≢false (sym e ∙ ap not h)

alone_at : (id : List ℕ) (rules : List Rule) (place : ℕ) → is_alone id rules place ≡ true → (k : ℕ) (r : Rule) → k < length rules → bytes_eq (slice_index_or rules k r).id id ≡ true → k ≡ place
alone_at id [] place e k r lt h = absurd (omega arith)
alone_at id (x ∷ rules) zero e zero r lt h = refl
alone_at id (x ∷ rules) zero e (suc k) r lt h = absurd (other_id (bytes_eq (slice_index_or rules k r).id id) (each_passes (λ y. not (bytes_eq y.id id)) rules e k r (omega arith)) h)
alone_at id (x ∷ rules) (suc place) e zero r lt h = absurd (other_id (bytes_eq x.id id) (both _ _ e).0 h)
alone_at id (x ∷ rules) (suc place) e (suc k) r lt h = ap suc (alone_at id rules place (both _ _ e).1 k r (omega arith) h)

-- how many rules there are
abbrev rules_count : ℕ
rules_count = 15

all_simple : (k : ℕ) (r : Rule) → k < rules_count → ((slice_index_or solver_rules k r).is_simple ≡ true) × ((slice_index_or solver_rules k r).is_free ≡ true)
all_simple k r lt = (each_passes (λ x. x.is_simple) solver_rules refl k r lt, each_passes (λ x. x.is_free) solver_rules refl k r lt)

first_arg : (xs : List Arg) → 0 < length xs → Arg
first_arg [] lt = absurd (omega arith)
first_arg (x ∷ xs) lt = x

-- no id is empty, and none is that of a flag which `clap` adds
long_id : (id other : List ℕ) → id ≡ other → (length id ≡ length other → ⊥) → ⊥
long_id id other is apart = apart (ap length is)

limit_alone : (codes "conflicts" ≡ codes "help") ⊎ (codes "conflicts" ≡ codes "version") → ⊥
limit_alone (inl h) = long_id (codes "conflicts") (codes "help") h (λ e. absurd (omega (arith, e)))
limit_alone (inr h) = long_id (codes "conflicts") (codes "version") h (λ e. absurd (omega (arith, e)))

round_alone : (codes "round" ≡ codes "help") ⊎ (codes "round" ≡ codes "version") → ⊥
round_alone (inl h) = long_id (codes "round") (codes "help") h (λ e. absurd (omega (arith, e)))
round_alone (inr h) = long_id (codes "round") (codes "version") h (λ e. absurd (omega (arith, e)))

threads_alone : (codes "threads" ≡ codes "help") ⊎ (codes "threads" ≡ codes "version") → ⊥
threads_alone (inl h) = long_id (codes "threads") (codes "help") h (λ e. absurd (omega (arith, e)))
threads_alone (inr h) = true≢false (sym (ap (λ (t : List ℕ). bytes_eq t (codes "version")) h))

words_alone : (codes "words" ≡ codes "help") ⊎ (codes "words" ≡ codes "version") → ⊥
words_alone (inl h) = long_id (codes "words") (codes "help") h (λ e. absurd (omega (arith, e)))
words_alone (inr h) = long_id (codes "words") (codes "version") h (λ e. absurd (omega (arith, e)))

slots_alone : (codes "slots" ≡ codes "help") ⊎ (codes "slots" ≡ codes "version") → ⊥
slots_alone (inl h) = long_id (codes "slots") (codes "help") h (λ e. absurd (omega (arith, e)))
slots_alone (inr h) = long_id (codes "slots") (codes "version") h (λ e. absurd (omega (arith, e)))

walk_alone : (codes "walk" ≡ codes "help") ⊎ (codes "walk" ≡ codes "version") → ⊥
walk_alone (inl h) = true≢false (sym (ap (λ (t : List ℕ). bytes_eq t (codes "help")) h))
walk_alone (inr h) = long_id (codes "walk") (codes "version") h (λ e. absurd (omega (arith, e)))

seed_alone : (codes "seed" ≡ codes "help") ⊎ (codes "seed" ≡ codes "version") → ⊥
seed_alone (inl h) = true≢false (sym (ap (λ (t : List ℕ). bytes_eq t (codes "help")) h))
seed_alone (inr h) = long_id (codes "seed") (codes "version") h (λ e. absurd (omega (arith, e)))

make_alone : (codes "make" ≡ codes "help") ⊎ (codes "make" ≡ codes "version") → ⊥
make_alone (inl h) = true≢false (sym (ap (λ (t : List ℕ). bytes_eq t (codes "help")) h))
make_alone (inr h) = long_id (codes "make") (codes "version") h (λ e. absurd (omega (arith, e)))

-- ---- the value of an argument

first_given : (P : Bor (List ℕ) → Type 0) (how : Reading) (vs : List (Bor (List ℕ))) → All P vs → 0 < length vs
    → (v : Bor (List ℕ)) × (option_map (λ s. read_as how s.now) (slice_get vs 0) ≡ Some (read_as how v.now)) × P v
first_given P how [] h lt = absurd (omega arith)
first_given P how (v ∷ vs) h lt = (v, refl, All-get_or P (v ∷ vs) 0 v (omega arith) h)

accepted_by : (a x : Arg) (q : ValueParser) (t : List ℕ) → SameRules a x → a.value_parser ≡ Some q → Accepts x.ignore_case (parser_of x) t → Accepts a.ignore_case q t
accepted_by a x q t s parser read =
    let is_q : parser_of x ≡ q = ap parser_of_value (s.parser q parser) in
    let as_q : Accepts x.ignore_case q t = subst (λ (w : ValueParser). Accepts x.ignore_case w t) is_q read in
    subst (λ (b : Bool). Accepts b q t) s.ignore_case as_q

-- an argument that is used or has a default has a value, which passed its parser
entry_gives : (built : ClapCommand) (e : Entry) (a : Arg) (q : ValueParser) → groups_of built ≡ [] → (e.0.now ≡ [] → ⊥)
    → ((j : ℕ) (x : Arg) → j < length (args_of built) → slice_index_or (args_of built) j x ≡ x → bytes_eq x.id.now e.0.now ≡ true → SameRules a x)
    → a.action ≡ Some Set → a.val_delim ≡ None → 1 ≤ least_values a → a.value_parser ≡ Some q → EntryPasses built e
    → (t : List ℕ) × (option_map (λ s. read_as e.1.reading s.now) (slice_get e.1.vals.items 0) ≡ Some (read_as (reading_of q) t)) × Accepts a.ignore_case q t
entry_gives built e a q no_groups named same set delim least parser pass =
    let no_group : e.1.is_group ≡ true → ⊥ = λ g. elim (pass.3 g) [
      | inl empty ↦ named empty
      | inr lots ↦
          let bad : 0 < 0 = rw no_groups at lots in
          absurd (omega arith)
    ] in
    let all : All (λ v. PassesArg built e.0.now v.now) e.1.vals.items = elim pass.0 [
      | inl g ↦ absurd (no_group g)
      | inr vals ↦ vals
    ] in
    let filled : 0 < length e.1.vals.items = elim pass.1 [
      | inl h ↦ absurd (no_group h.0)
      | inr (inl v) ↦ v
      | inr (inr (inl h)) ↦
          let any = h.1 in
          let is_set : any.1.action ≡ Some Set = (same any.0 any.1 any.2 any.3 any.4.0).action Set set in
          let bad : Set ≡ Count = rw is_set at any.4.1 in
          cc
      | inr (inr (inr any)) ↦
          let s = same any.0 any.1 any.2 any.3 any.4.0 in
          elim any.4.1 [
            | inl none ↦
                let one = s.least set least in
                absurd (omega arith)
            | inr has ↦
                let bad : false ≡ true = rw (s.val_delim, delim) at has in
                cc
          ]
    ] in
    let is : e.1.reading ≡ reading_of q = elim pass.4 [
      | inl g ↦ absurd (no_group g)
      | inr any ↦ sym any.4.1 ∙ ap reading_of (ap parser_of_value ((same any.0 any.1 any.2 any.3 any.4.0).parser q parser))
    ] in
    let head = first_given (λ v. PassesArg built e.0.now v.now) e.1.reading e.1.vals.items all filled in
    let any = head.2 in (
      head.0.now,
      head.1 ∙ ap (λ (how : Reading). Some (read_as how head.0.now)) is,
      accepted_by a any.1 q head.0.now (same any.0 any.1 any.2 any.3 any.4.0) parser any.4.1,
    )

-- an entry of the id is found
entry_found : (xs : List Entry) (id : List ℕ) → HasIn xs id → is_some (option_map (λ e. e.1) (find (λ e. bytes_eq e.0.now id) xs)) ≡ true
entry_found [] id (i, lt, at) = absurd (omega arith)
entry_found (x ∷ xs) id (i, lt, at) = go (entry_found xs id) (bytes_eq x.0.now id) refl i lt at
  where
    go : (HasIn xs id → is_some (option_map (λ e. e.1) (find (λ e. bytes_eq e.0.now id) xs)) ≡ true) → (b : Bool) → bytes_eq x.0.now id ≡ b → (i : ℕ) → i < length (x ∷ xs) → ((d : Entry) → bytes_eq (slice_index_or (x ∷ xs) i d).0.now id ≡ true)
        → is_some (option_map (λ e. e.1) (find (λ e. bytes_eq e.0.now id) (x ∷ xs))) ≡ true
    go more true e i lt at = rw e refl
    go more false e zero lt at = absurd (true≢false (sym (at x) ∙ e))
    go more false e (suc i) lt at = rw e (more (i, omega arith, at))

-- ---- the numbers

-- an option of the command that takes a number
record IsOption (place low high : ℕ) (id : List ℕ) (rule : Rule) : Type 0 where
  pub within : place < rules_count
  pub at : (d : Rule) → slice_index_or solver_rules place d ≡ rule
  pub alone : (k : ℕ) (r : Rule) → k < rules_count → bytes_eq (slice_index_or solver_rules k r).id id ≡ true → k ≡ place
  pub named : id ≡ [] → ⊥
  pub other : (id ≡ codes "help") ⊎ (id ≡ codes "version") → ⊥
  pub id_is : rule.id ≡ id
  pub simple : rule.is_simple ≡ true
  pub sets : rule.action ≡ Some Set
  pub parser : rule.parser ≡ Some (Unsigned low high)
  pub one : (unwrap_or_range rule.range).start_inclusive ≡ 1

limit_option : IsOption 0 1 (10 ^ 12) (codes "conflicts") conflicts_rule
limit_option = record { within = omega arith; at = λ d. refl; alone = alone_at (codes "conflicts") solver_rules 0 refl; named = λ e. cc e; other = limit_alone; id_is = refl; simple = refl; sets = refl; parser = refl; one = refl }

round_option : IsOption 1 1 (10 ^ 12) (codes "round") round_rule
round_option = record { within = omega arith; at = λ d. refl; alone = alone_at (codes "round") solver_rules 1 refl; named = λ e. cc e; other = round_alone; id_is = refl; simple = refl; sets = refl; parser = refl; one = refl }

threads_option : IsOption 2 1 16 (codes "threads") threads_rule
threads_option = record { within = omega arith; at = λ d. refl; alone = alone_at (codes "threads") solver_rules 2 refl; named = λ e. cc e; other = threads_alone; id_is = refl; simple = refl; sets = refl; parser = refl; one = refl }

words_option : IsOption 3 64 (2 ^ 31) (codes "words") words_rule
words_option = record { within = omega arith; at = λ d. refl; alone = alone_at (codes "words") solver_rules 3 refl; named = λ e. cc e; other = words_alone; id_is = refl; simple = refl; sets = refl; parser = refl; one = refl }

slots_option : IsOption 4 1 16 (codes "slots") slots_rule
slots_option = record { within = omega arith; at = λ d. refl; alone = alone_at (codes "slots") solver_rules 4 refl; named = λ e. cc e; other = slots_alone; id_is = refl; simple = refl; sets = refl; parser = refl; one = refl }

seed_option : IsOption 5 0 (2 ^ 63 - 1) (codes "seed") seed_rule
seed_option = record { within = omega arith; at = λ d. refl; alone = alone_at (codes "seed") solver_rules 5 refl; named = λ e. cc e; other = seed_alone; id_is = refl; simple = refl; sets = refl; parser = refl; one = refl }

walk_option : IsOption 6 0 (10 ^ 9) (codes "walk") walk_rule
walk_option = record { within = omega arith; at = λ d. refl; alone = alone_at (codes "walk") solver_rules 6 refl; named = λ e. cc e; other = walk_alone; id_is = refl; simple = refl; sets = refl; parser = refl; one = refl }

make_option : IsOption 13 0 (2 ^ 63 - 1) (codes "make") make_rule
make_option = record { within = omega arith; at = λ d. refl; alone = alone_at (codes "make") solver_rules 13 refl; named = λ e. cc e; other = make_alone; id_is = refl; simple = refl; sets = refl; parser = refl; one = refl }

module _ (c : ClapCommand) (m : ArgMatches) (app : app_of c ≡ solver_app) (p : IsParsedFrom c m) where
  rules_are : map rule_of (args_of c) ≡ solver_rules
  rules_are = ap (λ (a : App). a.top.rules) app

  long : length (args_of c) ≡ rules_count
  long = sym (length-map (args_of c) rule_of) ∙ ap length rules_are

  rule_at : (k : ℕ) (d : Arg) → k < length (args_of c) → rule_of (slice_index_or (args_of c) k d) ≡ slice_index_or solver_rules k (rule_of d)
  rule_at k d lt = sym (get_or-map rule_of (args_of c) k d (rule_of d) lt) ∙ ap (λ (rs : List Rule). slice_index_or rs k (rule_of d)) rules_are

  plain : IsPlain c
  plain = (
    λ k d lt.
        let is = rule_at k d lt in
        let all = all_simple k (rule_of d) (omega (arith, long)) in
        plain_arg (slice_index_or (args_of c) k d) (ap (λ (r : Rule). r.is_simple) is ∙ all.0) (ap (λ (r : Rule). r.is_free) is ∙ all.1),
    (plain_fields c (ap (λ (a : App). a.top.is_plain) app)).groups,
  )

  no_globals : (out-Command c).has_globals ≡ false
  no_globals = (plain_fields c (ap (λ (a : App). a.top.is_plain) app)).globals

  any_arg : Arg
  any_arg = first_arg (args_of c) (omega (arith, long))

  module _ (place low high : ℕ) (id : List ℕ) (rule : Rule) (option : IsOption place low high id rule) where
    abbrev here : Arg
    here = slice_index_or (args_of c) place any_arg

    fits : place < length (args_of c)
    fits = let w = option.within in omega (arith, long)

    is : rule_of here ≡ rule
    is = rule_at place any_arg fits ∙ option.at (rule_of any_arg)

    id_of : here.id.now ≡ id
    id_of = ap (λ (r : Rule). r.id) is ∙ option.id_is

    free : (here.default_vals_ifs.items ≡ []) × (here.val_delim ≡ None)
    free = no_condition here (ap (λ (r : Rule). r.is_simple) is ∙ option.simple)

    least : 1 ≤ least_values here
    least = let e : least_values here ≡ 1 = ap (λ (r : Rule). (unwrap_or_range r.range).start_inclusive) is ∙ option.one in omega (arith, e)

    unique : (j : ℕ) (e : Arg) → j < length (args_of c) → bytes_eq (slice_index_or (args_of c) j e).id.now here.id.now ≡ true → j ≡ place
    unique j e lt same =
        option.alone j (rule_of e) (omega (arith, long)) (subst (λ (t : List ℕ). bytes_eq t id ≡ true) (ap (λ (r : Rule). r.id) (rule_at j e lt)) (subst (λ (t : List ℕ). bytes_eq (slice_index_or (args_of c) j e).id.now t ≡ true) id_of same))

    kept : (j : ℕ) (x : Arg) → j < length (args_of p.built) → slice_index_or (args_of p.built) j x ≡ x → bytes_eq x.id.now here.id.now ≡ true → SameRules here x
    kept = same_rules_by_id c m p place any_arg fits unique (λ auto. option.other (elim auto [ inl h ↦ inl (sym id_of ∙ h) | inr h ↦ inr (sym id_of ∙ h) ]))

    values : All (EntryPasses p.built) (found_of m).entries.items
    values = (p.parsed (p.from.globals ∙ no_globals)).values

    number_by : (x : MatchedArg) → matched_of (found_of m) id ≡ Some x → (e : Entry) × (e.1 ≡ x) × (bytes_eq e.0.now id ≡ true) × EntryPasses p.built e → HasNumber id low high m
    number_by x at got =
        let key : got.0.0.now ≡ id = (bytes_eq-Decides got.0.0.now id).0 got.2 in
        let given = entry_gives p.built got.0 here (Unsigned low high) (p.from.plain plain).1 (λ e. option.named (sym key ∙ e))
        (λ j y lt there same. kept j y lt there (subst (λ (t : List ℕ). bytes_eq y.id.now t ≡ true) (key ∙ sym id_of) same))
        (ap (λ (r : Rule). r.action) is ∙ option.sets) free.1 least (ap (λ (r : Rule). r.parser) is ∙ option.parser) got.3 in
        record {
          text = given.0;
          given = ap (λ (o : Option MatchedArg). option_and_then (λ y. option_map (λ s. read_as y.reading s.now) (slice_get y.vals.items 0)) o) (at ∙ ap Some (sym got.1)) ∙ given.1;
          accepted = given.2;
        }

    -- what was matched has a number
    number_of_match : (x : MatchedArg) → matched_of (found_of m) id ≡ Some x → HasNumber id low high m
    number_of_match x at = number_by x at (entry_by_id (EntryPasses p.built) (found_of m).entries.items id x values at)

    -- the option has a number, or was not used
    number_or_none : (one_text (found_of m) id ≡ None) ⊎ HasNumber id low high m
    number_or_none = go (matched_of (found_of m) id) refl
      where
        go : (o : Option MatchedArg) → matched_of (found_of m) id ≡ o → (one_text (found_of m) id ≡ None) ⊎ HasNumber id low high m
        go None at = inl (ap (λ (o : Option MatchedArg). option_and_then (λ y. option_map (λ s. read_as y.reading s.now) (slice_get y.vals.items 0)) o) at)
        go (Some x) at = inr (number_of_match x at)

    number_there : is_some (matched_of (found_of m) id) ≡ true → HasNumber id low high m
    number_there = go (matched_of (found_of m) id) refl
      where
        go : (o : Option MatchedArg) → matched_of (found_of m) id ≡ o → is_some o ≡ true → HasNumber id low high m
        go None at some = absurd (true≢false (sym some))
        go (Some x) at some = number_of_match x at

    -- an option with a default has a number
    number_by_default : length rule.defaults ≡ 1 → HasNumber id low high m
    number_by_default default =
        let values : length (items_of here.default_vals) ≡ 1 = sym (length-map (items_of here.default_vals) (λ s. s.now)) ∙ ap (λ (r : Rule). length r.defaults) is ∙ default in
        let there = default_present c m p no_globals place any_arg fits (free.0, omega (arith, values)) in
        let found : HasIn (found_of m).entries.items id = subst (λ (t : List ℕ). HasIn (found_of m).entries.items t) id_of there in
        number_there (entry_found (found_of m).entries.items id found)

  -- the matches have a number for `--conflicts`
  pub limit_of : HasLimit m
  limit_of = number_by_default 0 1 (10 ^ 12) (codes "conflicts") conflicts_rule limit_option refl

  -- they have one for `--round`, or none
  pub round_of : HasRound m
  round_of = number_or_none 1 1 (10 ^ 12) (codes "round") round_rule round_option

  -- they have one for `--threads`
  pub threads_of : HasThreads m
  threads_of = number_by_default 2 1 16 (codes "threads") threads_rule threads_option refl

  -- they have one for `--words`
  pub words_of : HasWords m
  words_of = number_by_default 3 64 (2 ^ 31) (codes "words") words_rule words_option refl

  -- they have one for `--slots`
  pub slots_of : HasSlots m
  slots_of = number_by_default 4 1 16 (codes "slots") slots_rule slots_option refl

  -- they have one for `--seed`
  pub seed_of : HasSeed m
  seed_of = number_by_default 5 0 (2 ^ 63 - 1) (codes "seed") seed_rule seed_option refl

  -- they have one for `--walk`
  pub walk_of : HasWalk m
  walk_of = number_by_default 6 0 (10 ^ 9) (codes "walk") walk_rule walk_option refl

  -- they have one for `--make`, or none
  pub made_of : HasMade m
  made_of = number_or_none 13 0 (2 ^ 63 - 1) (codes "make") make_rule make_option
