-- Trails without steps, of the tests of watches, over the small port.
use Rattle.std.proofs.Common.{◌≡◌, ℕ, ◌<◌, ◌≤◌, List, [], ◌∷◌, ◌++◌, Contains, sym, refl, subst, arith}
use Rattle.std.proofs.lemmas.List.Elements.{Contains-append_left}
use Rattle.sat_words.specs.declared.shared.Cref.{Cref}
use Rattle.ring_trail.specs.declared.step.TrailStep.{TrailStep as Step}
use Rattle.ring_trail.specs.TrailData.{TrailData, level_at}
use Rattle.test_ports.specs.Sample.{sample_state}
use Rattle.watch_prop.specs.WatchData.{WatchData, attached}
use Rattle.watch_prop.specs.Watched.{IsFresh}
use Rattle.watch_prop.specs.Propagation.{HasReasons}
use Rattle.watch_prop.proofs.TrailLaws.{Reasons-more}

abbrev pub empty_trail : TrailData
empty_trail = record { vars = 5; level = 0; steps = []; done = 0 }

nothing : (p : ℕ) → 0 ≤ p → p < 0 → level_at [] p ≡ 0
nothing p ge lt = absurd (omega arith)

pub fresh : (t : TrailData) → t ≡ empty_trail → IsFresh t
fresh t e = subst (λ (u : TrailData). IsFresh u) (sym e) nothing

-- no step needs a reason
pub reasons_of_none : (cs : List Cref) (steps : List Step) → steps ≡ [] → HasReasons cs sample_state steps
reasons_of_none cs steps e = subst (λ (xs : List Step). HasReasons cs sample_state xs) (sym e) (record { caused = λ p h. absurd (omega arith) })

-- one clause more
pub reasons_with : (w x : WatchData) (c : Cref) (steps : List Step) → attached x ≡ attached w ++ c ∷ [] → HasReasons (attached w) sample_state steps → HasReasons (attached x) sample_state steps
reasons_with w x c steps e h =
    Reasons-more (attached w) (attached x) sample_state sample_state steps
    (λ d there. (subst (λ (cs : List Cref). Contains cs d) (sym e) (Contains-append_left (attached w) (c ∷ []) d there), refl)) (λ l q. q) h
