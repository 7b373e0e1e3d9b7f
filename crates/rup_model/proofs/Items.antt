-- The item of a loop, as a member of the list that a function makes of the items.
use Rattle.std.proofs.Common.{◌≡◌, ◌∙◌, ℕ, ◌<◌, ◌≤◌, List, length, get_or, map, take, sym, ap, arith}
use Rattle.std.proofs.Math.ListN.{get_or-map}
use Rattle.std.proofs.lemmas.List.{length-map, take_all}

module _ {X Y : Type 0} (f : X → Y) (xs : List X) (i : ℕ) where
  pub map_below : i < length xs → i < length (map f xs)
  map_below lt = let e = length-map xs f in omega arith

  pub map_item : (x : X) → x ≡ get_or xs i x → f x ≡ get_or (map f xs) i (f x)
  map_item x at = ap f at ∙ sym (get_or-map f xs i x)

  pub map_end : length xs ≤ i → take i (map f xs) ≡ map f xs
  map_end le = let e = length-map xs f in take_all i (map f xs) (omega arith)
