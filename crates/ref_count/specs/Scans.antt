-- The search of a cell that is held for a literal that is not false.
use Rattle.std.specs.Prelude.{◌≡◌}
use Rattle.share_rule.specs.declared.view.View.{View}

-- words were loaded, and what the pass knows of the table is as before
pub record OnlyLoaded (old new : View) : Type 0 where
  pub parts : new.parts ≡ old.parts
  pub layout : new.layout ≡ old.layout
  pub opening : new.opening ≡ old.opening
  pub stop : new.stop ≡ old.stop
  pub looks : new.looks ≡ old.looks
