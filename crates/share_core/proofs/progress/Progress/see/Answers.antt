use Rattle.std.proofs.Common.{◌≡◌, ◌∙◌, ◌<◌, ◌++◌, ◌∷◌, [], ℕ, length, false, ap, arith}
use Rattle.rup_model.specs.Journal.{book}
use Rattle.sat_words.specs.Literal.{Literal}
use Rattle.share_core.specs.declared.ring.RingState.{RingState}
use Rattle.share_core.specs.Events.{unit_at, listed_number}
use Rattle.share_core.specs.Machine.{CoreData, data_of, ring_in}
use Rattle.share_core.proofs.Pairs.{paired_long}
use Rattle.share_core.proofs.Lookups.{in_range, seen_shown, mine}
use Rattle.share_core.proofs.progress.Progress.see.Goals as goal

-- there are as many numbers as units
pub bounds-as_slice-place-2 : goal.bounds-as_slice-place-2
bounds-as_slice-place-2 c =
    let d : CoreData = data_of c.args.origin.now c.args.self.now in
    let same = paired_long (book d.formula d.journal) d.units d.numbers c.requires.kept.sound.units.paired in
    let own = mine d c.args.ring c.index_mut-own.result.now c.requires.enabled.0 c.index_mut-own.ensures.value in
    let few : length (ring_in d.rings c.args.ring).seen < length d.units = c.requires.enabled.1 in
    let place = c.len-place.ensures in
    let seen = ap (λ (x : RingState). length x.seen) own in
    let numbers = ap length c.as_slice-2.ensures in omega arith

pub returns-clause-after : goal.returns-clause-after
returns-clause-after c =
    let d : CoreData = data_of c.args.origin.now c.args.self.now in
    let m : RingState = c.index_mut-own.result.now in
    let own = mine d c.args.ring m c.requires.enabled.0 c.index_mut-own.ensures.value in
    let k : ℕ = length (ring_in d.rings c.args.ring).seen in
    let place : c.len-place.result ≡ k = c.len-place.ensures ∙ ap (λ (x : RingState). length x.seen) own in
    let few : k < length d.units = c.requires.enabled.1 in
    let units = ap length c.as_slice.ensures in
    let lit : c.index-as_slice-place.result ≡ unit_at d.units k = c.index-as_slice-place.is ∙ in_range c.as_slice.result.now c.len-place.result c.index-as_slice-place.result (record { var = 0; neg = false }) (omega arith) ∙ (λ j. unit_at (c.as_slice.ensures j) (place j)) in
    let number : listed_number c.as_slice-2.result.now c.len-place.result ≡ listed_number d.numbers k = (λ j. listed_number (c.as_slice-2.ensures j) (place j)) in
    seen_shown d c.args.ring m c.requires.enabled.0 c.index_mut-own.ensures.value (unit_at d.units k) (listed_number d.numbers k) c.push.new.self d.units c.push-2.new.self d.numbers
    (c.in_ok-push.ensures ∙ ap (λ (l : Literal). m.seen ++ l ∷ []) lit) (c.in_ok-push-2.ensures ∙ ap (λ (n : ℕ). m.numbers ++ n ∷ []) number)
