-- Reasons that are attached.
use Rattle.std.proofs.Common.{◌≡◌, ◌∙◌, ℕ, ◌≤◌, ◌==◌, true, List, [], length, sym, refl, ap, subst, arith, Some, None, IsSome, Contains}
use Rattle.std.specs.Option.{option_map, option_map_or}
use Rattle.std.specs.List.{list_any}
use Rattle.std.specs.declared.option.Option.{Option}
use Rattle.std.proofs.lemmas.Bool.{false≢true}
use Rattle.std.proofs.lemmas.Bool.Decides.{nat_tests}
use Rattle.sat_words.specs.declared.shared.Cref.{Cref}
use Rattle.rup_model.proofs.Lists.{any_In, Contains_In}
use Rattle.ring_port.specs.PortState.{PortState, Holding, held_at, lits_at, clause_at}
use Rattle.ring_trail.specs.declared.step.TrailStep.{TrailStep}
use Rattle.watch_prop.specs.Propagation.{attached_at, HasReasons}

-- the literals of a clause that is held
pub held_some : (s : PortState) (a : ℕ) → IsSome (held_at s a) → clause_at s a ≡ Some (lits_at s a)
held_some s a h = by (held_at s a) refl h
  where
    by : (o : Option Holding) → held_at s a ≡ o → IsSome o → clause_at s a ≡ Some (lits_at s a)
    by (Some k) is h = ap (option_map (λ (x : Holding). x.lits)) is ∙ ap Some (sym (ap (λ (o : Option Holding). option_map_or (λ (x : Holding). x.lits) o []) is))
    by None is h = absurd (false≢true h)

-- a clause with a literal is held
pub long_held : (s : PortState) (a : ℕ) → 1 ≤ length (lits_at s a) → IsSome (held_at s a)
long_held s a h = by (held_at s a) refl h
  where
    by : (o : Option Holding) → held_at s a ≡ o → 1 ≤ length (option_map_or (λ (x : Holding). x.lits) (held_at s a) []) → IsSome (held_at s a)
    by (Some k) is le = subst (λ (o : Option Holding). IsSome o) (sym is) refl
    by None is le = absurd (let n : length (option_map_or (λ (x : Holding). x.lits) (held_at s a) []) ≡ 0 = ap (λ (o : Option Holding). length (option_map_or (λ (x : Holding). x.lits) o [])) is in omega arith)

pub same_number : (n : ℕ) → (n == n) ≡ true
same_number n = grind (arith, nat_tests)

-- an attached clause that is held may be a reason
pub attached_some : (cs : List Cref) (s : PortState) (c : Cref) → Contains cs c → IsSome (held_at s c.address) → attached_at cs s c.address ≡ Some (lits_at s c.address)
attached_some cs s c there held =
    let e : list_any (λ (x : Cref). x.address == c.address) cs ≡ true = any_In (λ (x : Cref). x.address == c.address) cs c (Contains_In cs c there) (same_number c.address) in
    rw e (held_some s c.address held)

-- over the clauses attached and the port as they were
pub Reasons-over : (cs ds : List Cref) (s r : PortState) (steps : List TrailStep) → ds ≡ cs → r ≡ s → HasReasons cs s steps → HasReasons ds r steps
Reasons-over cs ds s r steps e f h = subst (λ (xs : List Cref). HasReasons xs r steps) (sym e) (subst (λ (y : PortState). HasReasons cs y steps) (sym f) h)

pub Reasons-back : (cs ds : List Cref) (s r : PortState) (steps : List TrailStep) → ds ≡ cs → r ≡ s → HasReasons ds r steps → HasReasons cs s steps
Reasons-back cs ds s r steps e f h = subst (λ (xs : List Cref). HasReasons xs s steps) e (subst (λ (y : PortState). HasReasons ds y steps) f h)
