-- What reading leaves.
use Rattle.std.specs.Prelude.{◌≡◌}
use Rattle.share_rule.specs.declared.view.View.{View}

-- steps that only look change nothing that the port shows
pub record OnlyLooked (old new : View) : Type 0 where
  pub parts : new.parts ≡ old.parts
  pub layout : new.layout ≡ old.layout
  pub opening : new.opening ≡ old.opening
  pub stop : new.stop ≡ old.stop
  pub looks : new.looks ≡ old.looks
