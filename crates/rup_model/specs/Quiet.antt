-- Where propagation stands still. A set of literals is here its test.
use Rattle.std.specs.Prelude.{◌≡◌, Bool, true, false, List}
use Rattle.std.specs.List.{list_any}
use Rattle.sat_words.specs.Literal.{Literal}
use Rattle.rup_model.specs.Rounds.{falsifies, round}

-- the set falsifies no clause, and has every literal that one forces
pub record IsQuiet (G : List (List Literal)) (S : Literal → Bool) : Type 0 where
  pub open_yet : list_any (falsifies S) G ≡ false
  pub closed : (l : Literal) → round G S l ≡ true → S l ≡ true
