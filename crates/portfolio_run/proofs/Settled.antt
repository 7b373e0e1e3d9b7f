-- Once all rings are gathered, each unit that one of them wrote is listed.
use Rattle.std.proofs.Common.{◌≡◌, ◌∙◌, ◌<◌, ℕ, suc, Bool, true, false, List, [], ◌∷◌, length, map, All, refl, sym, ap, subst, arith}
use Rattle.std.specs.List.{list_any}
use Rattle.std.proofs.lemmas.Bool.{true≢false, or_left}
use Rattle.std.proofs.lemmas.List.Folds.{list_any-append}
use Rattle.sat_words.specs.Literal.{Literal, same}
use Rattle.sat_words.specs.Clause.{has, same_set}
use Rattle.rup_model.specs.declared.journal.Entry.{Entry}
use Rattle.rup_model.specs.Journal.{added}
use Rattle.share_core.specs.declared.part.CoreOpening.{CoreOpening}
use Rattle.share_core.specs.declared.part.Part.{Part}
use Rattle.share_core.specs.declared.part.Placed.{Placed}
use Rattle.share_core.specs.Sound.{Sound, placed}
use Rattle.share_core.proofs.Leaving.{left_sound}
use Rattle.share_rule.specs.declared.view.RingPart.{RingPart}
use Rattle.share_rule.specs.declared.view.View.{View}
use Rattle.share_rule.specs.Passes.{IsWhole}
use Rattle.share_rule.specs.Rests.{NoneBuild}
use Rattle.share_rule.specs.Seen.{Seen}
use Rattle.portfolio_run.specs.Seats.{IsSettled}
use Rattle.portfolio_run.proofs.Concluded.{part_at}
use Rattle.portfolio_run.proofs.Each.{each_of}
use Rattle.portfolio_run.proofs.Gathering.{at_place}
use Rattle.portfolio_run.proofs.Interleaving.{own, none_adds}
use Rattle.portfolio_run.proofs.Placing.{placed_own, same_rest}

-- rings that are settled build no cell
pub none_builds : (ps : List RingPart) → All IsSettled ps → NoneBuild ps
none_builds [] h = tt
none_builds (p ∷ ps) h = ((h 0 p (omega arith)).0, none_builds ps (λ k d lt. h (suc k) d (omega arith)))

module _ (w : View) (s : Seen w) (whole : IsWhole w) (settled : All IsSettled w.parts) where
  pub sound : Sound s.core
  sound = left_sound s.core.opening s.core s.left

  -- the entries of the rings
  abbrev pub since : List Entry
  since = sound.log.begins.0

  wrote : (r : ℕ) → r < s.core.opening.rings → (s.core.part r).wrote ≡ placed r (length s.core.opening.journal) since
  wrote r lt = sound.entries.2 r lt ∙ ap (placed r (length s.core.opening.journal)) (same_rest s.core.opening.journal s.core.journal sound.entries.0 since sound.entries.1 sound.log.begins.1)

  -- what one ring wrote
  listed_of : (r : ℕ) → r < s.core.opening.rings → (l : Literal) → list_any (same_set (l ∷ [])) (added (own r since)) ≡ true → has s.core.units l ≡ true
  listed_of r lt l adds =
      let there = part_at r w.parts (whole r (subst (λ (o : CoreOpening). r < o.rings) (sym s.opening) lt)) in
      let q : RingPart = there.1 in
      let part : q.core ≡ s.core.part r = (s.parts there.0 q there.2).part ∙ ap s.core.part there.3 in
      let entries : map (λ (e : Placed). e.entry) q.core.wrote ≡ own r since = ap (λ (c : Part). map (λ (e : Placed). e.entry) c.wrote) part ∙ ap (map (λ (e : Placed). e.entry)) (wrote r lt) ∙ placed_own r (length s.core.opening.journal) since in
      let is = at_place (λ (n : ℕ) (x : RingPart). IsSettled x) 0 w.parts (each_of (λ (n : ℕ) (x : RingPart). IsSettled x) w.parts settled) there.0 q there.2 in
      let seen : has (s.core.part r).seen l ≡ true = ap (λ (c : Part). has c.seen l) (sym part) ∙ is.1 l (ap (λ (es : List Entry). list_any (same_set (l ∷ [])) (added es)) entries ∙ adds) in
      let all = sound.units.seen r in
      ap (λ (ls : List Literal). has ls l) all.1 ∙ list_any-append (same l) (s.core.part r).seen all.0 ∙ or_left (has (s.core.part r).seen l) (has all.0 l) seen

  -- what any of them wrote
  pub units_listed : (l : Literal) → list_any (same_set (l ∷ [])) (added since) ≡ true → has s.core.units l ≡ true
  units_listed l adds = by (has s.core.units l) refl
    where
      by : (b : Bool) → has s.core.units l ≡ b → has s.core.units l ≡ true
      by true e = e
      by false e = absurd (true≢false (sym adds ∙ none_adds (same_set (l ∷ [])) s.core.opening.rings since sound.log.begins.2 (λ r lt. none (list_any (same_set (l ∷ [])) (added (own r since))) (λ k. true≢false (sym (listed_of r lt l k) ∙ e)))))
        where
          none : (b : Bool) → (b ≡ true → ⊥) → b ≡ false
          none true f = absurd (f refl)
          none false f = refl
