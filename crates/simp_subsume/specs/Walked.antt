-- A walk through a clause that looks for the literals of another one.
use Rattle.std.specs.Prelude.{◌≡◌, ◌⊎◌, ◌+◌, ◌<◌, Option, None, Some}
use Rattle.sat_words.specs.Literal.{Literal, opposite}
use Rattle.simp_subsume.specs.declared.relation.Relation.{Relation}
use Rattle.simp_subsume.specs.declared.relation.Relation.TheVariants.{Within, Flipped}
use Rattle.simp_subsume.specs.declared.relation.Comparison.{Comparison}

-- the literal is passed over
pub record PassesOver (old : Comparison) (wanted lit : Literal) (new : Comparison) : Type 0 where
  pub before : lit.var < wanted.var
  pub walk : new ≡ old

-- it is the one that is looked for
pub record Finds (old : Comparison) (wanted lit : Literal) (new : Comparison) : Type 0 where
  pub is : lit ≡ wanted
  pub walk : new ≡ record { found = old.found + 1; flipped = old.flipped }

-- it is the negation of the one that is looked for, the first such
pub record FindsNegated (old : Comparison) (wanted lit : Literal) (new : Comparison) : Type 0 where
  pub is : lit ≡ opposite wanted
  pub first : old.flipped ≡ None
  pub walk : new ≡ record { found = old.found + 1; flipped = Some wanted }

-- it is another negation
pub record FindsAnother (old : Comparison) (wanted lit : Literal) : Type 0 where
  pub is : lit ≡ opposite wanted
  pub one : Literal
  pub flipped : old.flipped ≡ Some one

-- what one more literal does to the walk: nothing comes if it is beyond the one that is looked for, or another negation
abbrev pub IsStep : Comparison → Literal → Literal → Option Comparison → Type 0
IsStep old wanted lit None = (wanted.var < lit.var) ⊎ FindsAnother old wanted lit
IsStep old wanted lit (Some new) = PassesOver old wanted lit new ⊎ (Finds old wanted lit new ⊎ FindsNegated old wanted lit new)

-- how the clause stands to the other one if all its literals were found
abbrev pub found_as : Option Literal → Relation
found_as None = Within
found_as (Some l) = Flipped l

-- the relation, if all literals of the clause were found
abbrev pub all_found : Comparison → Relation
all_found w = found_as w.flipped
