-- A watch comes out of a slot as it went in.
use Rattle.std.proofs.Common.{◌≡◌, ◌∙◌, ℕ, ◌<◌, ◌+◌, ◌-◌, ◌*◌, ◌/◌, ◌%◌, ◌==◌, Bool, true, false, not, cond, List, [], ◌∷◌, length, map, get_or, Option, Some, None, sym, refl, ap, arith}
use Rattle.std.proofs.Math.ListN.{set}
use Rattle.std.specs.Int.{from_bool}
use Rattle.std.specs.List.{filter}
use Rattle.std.specs.Option.{is_some}
use Rattle.std.proofs.lemmas.Bool.Decides.{nat_tests}
use Rattle.std.proofs.lemmas.List.{length-map, map-set, get_or-map}
use Rattle.sat_words.specs.Literal.{Literal}
use Rattle.watch_prop.specs.declared.watch.Watch.{Watch}
use Rattle.watch_prop.specs.declared.slots.Slot.{Slot}
use Rattle.watch_prop.specs.Packed.{watch_in, with_literals}

-- The word of a clause's address, and of whether the clause is binary

is_used-packed : (a : ℕ) (b : Bool) → (2 * a + 1 + from_bool b == 0) ≡ false
is_used-packed a true = grind (arith, nat_tests)
is_used-packed a false = grind (arith, nat_tests)

address-packed : (a : ℕ) (b : Bool) → (2 * a + 1 + from_bool b - 1) / 2 ≡ a
address-packed a true = omega arith
address-packed a false = omega arith

is_binary-packed : (a : ℕ) (b : Bool) → ((2 * a + 1 + from_bool b) % 2 == 0) ≡ b
is_binary-packed a true = grind (arith, nat_tests)
is_binary-packed a false = grind (arith, nat_tests)

-- a slot has the watch that it was made of
pub holding : (s : Watch) → watch_in record { first = s.first; second = s.second; word = 2 * s.clause.address + 1 + from_bool s.binary } ≡ Some s
holding s =
    (λ i. cond (is_used-packed s.clause.address s.binary i) None (Some record { clause = record { address = (2 * s.clause.address + 1 + from_bool s.binary - 1) / 2 }; first = s.first; second = s.second; binary = (2 * s.clause.address + 1 + from_bool s.binary) % 2 == 0 }))
    ∙ (λ i. Some record { clause = record { address = address-packed s.clause.address s.binary i }; first = s.first; second = s.second; binary = is_binary-packed s.clause.address s.binary i })

-- Other literals

relit_either : (b : Bool) (s : Watch) (k l : Literal) → cond b None (Some record { clause = s.clause; first = k; second = l; binary = s.binary }) ≡ with_literals (cond b None (Some s)) k l
relit_either true s k l = refl
relit_either false s k l = refl

relit_slot : (s : Slot) (k l : Literal) → watch_in record { first = k; second = l; word = s.word } ≡ with_literals (watch_in s) k l
relit_slot s k l = relit_either (s.word == 0) record { clause = record { address = (s.word - 1) / 2 }; first = s.first; second = s.second; binary = s.word % 2 == 0 } k l

-- Slots

pub slot_read : (xs : List Slot) (ws : List (Option Watch)) (i : ℕ) (s : Slot) → map watch_in xs ≡ ws → i < length ws → s ≡ get_or xs i s → watch_in s ≡ get_or ws i None
slot_read xs ws i s e lt is =
    let inside : i < length xs = omega (arith, lt, length-map xs watch_in, ap (λ (ys : List (Option Watch)). length ys) e) in
    ap watch_in is ∙ sym (get_or-map watch_in xs i s None inside) ∙ ap (λ (ys : List (Option Watch)). get_or ys i None) e

pub slots_relit : (xs : List Slot) (ws : List (Option Watch)) (i : ℕ) (s : Slot) (k l : Literal) → map watch_in xs ≡ ws → i < length ws → s ≡ get_or xs i s → map watch_in (set xs i record { first = k; second = l; word = s.word }) ≡ set ws i (with_literals (get_or ws i None) k l)
slots_relit xs ws i s k l e lt is =
    map-set watch_in xs i record { first = k; second = l; word = s.word }
    ∙ ap (λ (o : Option Watch). set (map watch_in xs) i o) (relit_slot s k l ∙ ap (λ (o : Option Watch). with_literals o k l) (slot_read xs ws i s e lt is))
    ∙ ap (λ (ys : List (Option Watch)). set ys i (with_literals (get_or ws i None) k l)) e

pub slots_freed : (xs : List Slot) (ws : List (Option Watch)) (i : ℕ) (s : Slot) → map watch_in xs ≡ ws → map watch_in (set xs i record { first = s.first; second = s.second; word = 0 }) ≡ set ws i None
slots_freed xs ws i s e = map-set watch_in xs i record { first = s.first; second = s.second; word = 0 } ∙ ap (λ (ys : List (Option Watch)). set ys i None) e

-- a slot is in use
abbrev pub is_used : Slot → Bool
is_used s = not (s.word == 0)

used_either : (b : Bool) (x : Slot) (o : Option Watch) (w : Watch) (ys : List Slot) → watch_in x ≡ o → o ≡ cond b None (Some w) → map watch_in (cond (not b) (x ∷ ys) ys) ≡ cond (is_some o) (o ∷ map watch_in ys) (map watch_in ys)
used_either true x o w ys e q = ap (λ (p : Option Watch). cond (is_some p) (p ∷ map watch_in ys) (map watch_in ys)) (sym q)
used_either false x o w ys e q =
    ap (λ (p : Option Watch). p ∷ map watch_in ys) (e ∙ q)
    ∙ ap (λ (p : Option Watch). cond (is_some p) (p ∷ map watch_in ys) (map watch_in ys)) (sym q)

pub slots_used : (xs : List Slot) → map watch_in (filter is_used xs) ≡ filter is_some (map watch_in xs)
slots_used [] = refl
slots_used (x ∷ xs) =
    used_either (x.word == 0) x (watch_in x) record { clause = record { address = (x.word - 1) / 2 }; first = x.first; second = x.second; binary = x.word % 2 == 0 } (filter is_used xs) refl refl
    ∙ ap (λ (ys : List (Option Watch)). cond (is_some (watch_in x)) (watch_in x ∷ ys) ys) (slots_used xs)
