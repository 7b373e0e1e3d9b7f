-- Truth by a literal's code: two places for each variable, that of the variable and after it that of its negation.
use Rattle.std.specs.Prelude.{◌≡◌, Bool, true, false, List, [], ◌∷◌, Option, None, Some, ⊤}
use Rattle.sat_words.specs.declared.values.Truth.{Truth}
use Rattle.sat_words.specs.declared.values.Truth.TheVariants.{Open, True, False}

-- how true a literal is by the value of its variable and whether it is negated
abbrev pub truth_of : Option Bool → Bool → Truth
truth_of None neg = Open
truth_of (Some true) true = False
truth_of (Some true) false = True
truth_of (Some false) true = True
truth_of (Some false) false = False

-- how true the negation is
abbrev pub turned : Truth → Truth
turned Open = Open
turned True = False
turned False = True

-- the value of a variable that is as true as this
abbrev pub value_from : Truth → Option Bool
value_from Open = None
value_from True = Some true
value_from False = Some false

-- the values of the variables
abbrev pub values_of : List Truth → List (Option Bool)
values_of [] = []
values_of (x ∷ []) = []
values_of (x ∷ y ∷ by_code) = value_from x ∷ values_of by_code

-- each variable has both places, and its negation is true if it is false
abbrev pub IsPaired : List Truth → Type 0
IsPaired [] = ⊤
IsPaired (x ∷ []) = ⊥
IsPaired (x ∷ y ∷ by_code) = (y ≡ turned x) × IsPaired by_code
