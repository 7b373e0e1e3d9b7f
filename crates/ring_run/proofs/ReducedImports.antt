-- What a reduction leaves of what other rings gave.
use Rattle.std.proofs.Common.{◌≡◌, ◌≢◌, ◌∙◌, ℕ, ◌<◌, ◌==◌, false, List, sym, subst, ap, arith, refl, Contains, IsSome}
use Rattle.std.specs.Global.{Vec}
use Rattle.std.specs.Prelude.{All}
use Rattle.std.specs.List.{list_any}
use Rattle.sat_words.specs.Clause.{has}
use Rattle.sat_words.specs.declared.shared.Cref.{Cref}
use Rattle.rup_model.specs.Journal.{recent}
use Rattle.rup_model.proofs.Lists.{Contains_In, In_Contains}
use Rattle.ring_port.specs.PortState.{PortState, Holding, IsPort, held_at}
use Rattle.ring_port.specs.Log.{KeepsLog}
use Rattle.ring_port.specs.Deleting.{IsNotTaken}
use Rattle.ring_port.specs.declared.stops.PortStop.{PortStop}
use Rattle.ring_port.proofs.Holdings.{All_In}
use Rattle.ring_port.proofs.LogSteps.{In_All}
use Rattle.ring_trail.specs.declared.step.TrailStep.{TrailStep}
use Rattle.watch_prop.specs.WatchData.{WatchData, attached, is_among}
use Rattle.reduce_db.specs.Lemmas.{AreLemmas, AreToldApart}
use Rattle.reduce_db.specs.Dropping.{StaysReady}
use Rattle.reduce_db.specs.Reduction.{WasReduced, WasCutShort}
use Rattle.reduce_db.proofs.Drops.{stays_attached, no_other}
use Rattle.ring_run.specs.Ended.{reductions}
use Rattle.ring_run.specs.Searching.{OpeningSeen, OffersNothing, KeepsOn}
use Rattle.ring_run.specs.Ending.{ComesTo, EndsAt, end_refused}
use Rattle.ring_run.specs.Halting.{HaltsDropping, HaltsReducingImports}
use Rattle.ring_run.specs.Course.{last_start, HasLemmas}
use Rattle.ring_run.specs.Renewal.{IsResting, AreUnmixed, AreSetApart, HasReducedLemmas, HasReducedImports, HasReduced}
use Rattle.ring_run.specs.declared.job.End.{End}
use Rattle.ring_run.specs.declared.ring.Ring.{Ring}
use Rattle.ring_run.proofs.Progress.{out_of_memory}
use Rattle.ring_run.proofs.Numbering.{kept_none, grown_none}
use Rattle.ring_run.proofs.Listing.{listed_with, last_most}
use Rattle.ring_run.proofs.Reducing.{dropped_goes_on, dropped_import, dropped_nothing, kept_among, dropped_among}
use Rattle.ring_run.proofs.Resting.{held_member, resting_import, import_resting}

-- Imports that were told apart

module _ (s : PortState) (ring : Ring) (v : Vec Cref) (p : HasLemmas s ring) (told : AreToldApart ring.last_start ring.lemmas.items ring.imports.items v.items) where
  pub told_listed : HasLemmas s (record ring { imports = v })
  told_listed =
      listed_with s s ring (record ring { imports = v }) refl refl refl p.member refl refl refl refl
      (In_All (Contains (attached ring.watches)) v.items (λ c m. All_In (Contains (attached ring.watches)) ring.imports.items c p.imported (Contains_In ring.imports.items c (All_In (Contains ring.imports.items) v.items c told.among m))))
      (kept_none s ring.lemmas.items) p

  pub told_apart : AreSetApart s (record ring { imports = v })
  told_apart = record {
    distinct = told.distinct;
    beyond = subst (λ (n : ℕ). All (λ (c : Cref). n < c.address) v.items) p.last told.beyond;
    unmixed = λ c d inside import. no_other ring.lemmas.items d.address (All_In (λ (x : Cref). is_among ring.lemmas.items x.address ≡ false) v.items d told.free (Contains_In v.items d import)) c inside;
  }

-- Imports that were dropped

module _ (s u : PortState) (ring : Ring) (listed : HasLemmas s ring) (rests : IsResting s ring) (apart : AreSetApart s ring) where
  abbrev imports : List Cref
  imports = ring.imports.items

  start_apart : (h : Holding) (c : Cref) → Contains s.start h → Contains imports c → c.address ≢ h.address
  start_apart h c there m e =
      let most = last_most s h there in
      let beyond = All_In (λ (d : Cref). last_start s < d.address) imports c apart.beyond (Contains_In imports c m) in
      omega (arith, most, beyond, e)

  pub may_give_up : AreLemmas s (attached ring.watches) imports
  may_give_up = record {
    distinct = apart.distinct;
    member = listed.imported;
    held = In_All (λ (c : Cref). IsSome (held_at s c.address)) imports (λ c m. held_member s ring c rests (All_In (Contains (attached ring.watches)) imports c listed.imported m));
    apart = In_All (λ (c : Cref). IsNotTaken s c.address) imports (λ c m. ap (list_any (λ b. b == c.address)) rests.none_taken);
  }

  pub given_up_over : (stop : PortStop) → WasCutShort s u ring.trail.steps imports stop → KeepsLog s u → IsPort u → EndsAt s u (end_refused stop)
  given_up_over stop w log port n start p =
      subst (λ (x : PortStop). ComesTo start u n (end_refused x)) (sym w.memory)
      (out_of_memory start u n (dropped_goes_on s u w.dropped imports w.port w.among start_apart rests.lately start n p log port))

  pub given_up_nothing : (stop : PortStop) → WasCutShort s u ring.trail.steps imports stop → OffersNothing s u
  given_up_nothing stop w = dropped_nothing s u w.dropped w.port

  module _ (w : WatchData) (v : Vec Cref) (done : WasReduced s u ring.watches w ring.trail.steps imports v.items) where
    among : All (Contains imports) done.dropped
    among = dropped_among s ring.trail.steps imports v.items done.dropped done.choice

    -- no lemma was dropped
    lemma_stays : (c : Cref) → Contains ring.lemmas.items c → (d : Cref) → Contains done.dropped d → d.address ≢ c.address
    lemma_stays c inside d gone e = apart.unmixed c d inside (All_In (Contains imports) done.dropped d among (Contains_In done.dropped d gone)) (sym e)

    pub given_goes_on : KeepsLog s u → IsPort u → KeepsOn s u
    given_goes_on log port start n p = dropped_goes_on s u done.dropped imports done.port among start_apart rests.lately start n p log port

    pub given_nothing : OffersNothing s u
    given_nothing = dropped_nothing s u done.dropped done.port

    pub given_resting : StaysReady s u ring.watches w ring.trail → IsPort u → IsResting u (record ring { watches = w; imports = v })
    given_resting ready port =
        import_resting u (record ring { watches = w; imports = v })
        (dropped_import s u done.dropped imports done.port among start_apart ring.trail ring.watches w ring.written (resting_import s ring rests) done.attached_now ready rests.none_taken rests.lately port)
        opening (ready.quiet rests.quiet)
        (let is = ap (λ (x : PortState). reductions x.ring x.mine) done.port.state in omega (arith, is, rests.reduced))
        (ap (λ (x : PortState). recent x.ring x.mine) done.port.state ∙ rests.lately)
        (ap (λ (x : PortState). x.taken) done.port.state ∙ rests.none_taken)
      where
        opening : OpeningSeen u
        opening l h = ap (λ (x : PortState). has x.seen l) done.port.state ∙ rests.search.opening l (sym (ap (λ (x : PortState). has x.opening l) done.port.state) ∙ h)

    pub given_listed : AreLemmas u (attached w) v.items → HasLemmas u (record ring { watches = w; imports = v })
    given_listed are =
        listed_with s u ring (record ring { watches = w; imports = v }) (ap (λ (x : PortState). x.start) done.port.state) (ap (λ (x : PortState). recent x.ring x.mine) done.port.state) refl
        (In_All (Contains (attached w)) ring.lemmas.items (λ c m. subst (λ (cs : List Cref). Contains cs c) (sym done.attached_now)
        (stays_attached (attached ring.watches) done.dropped c (All_In (Contains (attached ring.watches)) ring.lemmas.items c listed.member m) (λ d gone. lemma_stays c (In_Contains ring.lemmas.items c m) d gone))))
        refl refl refl refl are.member
        (record {
          held = λ c inside. done.port.others c.address (λ d gone. lemma_stays c inside d gone);
          grown = grown_none s u (ap (λ (x : PortState). x.mine) done.port.state);
          noted = ap (λ (x : PortState). reductions x.ring x.mine) done.port.state;
        })
        listed

    pub given_unmixed : AreUnmixed (record ring { watches = w; imports = v })
    given_unmixed c d inside import = apart.unmixed c d inside (kept_among s ring.trail.steps imports v.items done.dropped done.choice d import)

-- Both

pub told_by : (ring : Ring) (xs ys apart : List Cref) → xs ≡ ring.imports.items → ys ≡ ring.lemmas.items → AreToldApart ring.last_start ys xs apart → AreToldApart ring.last_start ring.lemmas.items ring.imports.items apart
told_by ring xs ys apart imports lemmas told = subst (λ (zs : List Cref). AreToldApart ring.last_start zs ring.imports.items apart) lemmas (subst (λ (zs : List Cref). AreToldApart ring.last_start ys zs apart) imports told)

module _ (s m u : PortState) (ring between new : Ring) (v : Vec Cref) (first : between ≡ record ring { imports = v; watches = between.watches; lemmas = between.lemmas; reductions = between.reductions; reduced_at = between.reduced_at })
    (then : new ≡ record between { watches = new.watches; imports = new.imports }) where
  pub both_same : new ≡ record ring { watches = new.watches; lemmas = new.lemmas; imports = new.imports; reductions = new.reductions; reduced_at = new.reduced_at }
  both_same =
      then ∙ ap (λ (r : Ring). record r { watches = new.watches; imports = new.imports }) first
      ∙ ap (λ (w : Vec Cref). record ring { watches = new.watches; lemmas = w; imports = new.imports; reductions = between.reductions; reduced_at = between.reduced_at }) (sym (ap (λ (r : Ring). r.lemmas) then))
      ∙ ap (λ (n : ℕ). record ring { watches = new.watches; lemmas = new.lemmas; imports = new.imports; reductions = n; reduced_at = between.reduced_at }) (sym (ap (λ (r : Ring). r.reductions) then))
      ∙ ap (λ (n : ℕ). record ring { watches = new.watches; lemmas = new.lemmas; imports = new.imports; reductions = new.reductions; reduced_at = n }) (sym (ap (λ (r : Ring). r.reduced_at) then))

  -- what each reduction says, of both
  pub both_reduced : HasLemmas s ring → AreToldApart ring.last_start ring.lemmas.items ring.imports.items v.items → HasReducedLemmas s m (record ring { imports = v }) between → HasReducedImports m u between new → HasReduced s u ring new
  both_reduced p told own other = record {
    imports = v.items;
    apart = subst (λ (n : ℕ). AreToldApart n ring.lemmas.items ring.imports.items v.items) p.last told;
    noted = own.noted;
    entry = own.entry;
    between = m;
    watches = between.watches;
    lemmas_reduced = subst (WasReduced own.noted m ring.watches between.watches ring.trail.steps ring.lemmas.items) (ap (λ (r : Ring). r.lemmas.items) (sym then)) own.reduced;
    imports_reduced = subst (λ (cs : List Cref). WasReduced m u between.watches new.watches ring.trail.steps cs new.imports.items) (ap (λ (r : Ring). r.imports.items) first)
        (subst (λ (steps : List TrailStep). WasReduced m u between.watches new.watches steps between.imports.items new.imports.items) (ap (λ (r : Ring). r.trail.steps) first) other.reduced);
    closed = other.closed;
    counted = ap (λ (r : Ring). r.reductions) then ∙ own.counted;
    since = ap (λ (r : Ring). r.reduced_at) then ∙ own.since;
  }

module _ (s m u : PortState) (ring between : Ring) (v : Vec Cref) (first : between ≡ record ring { imports = v; watches = between.watches; lemmas = between.lemmas; reductions = between.reductions; reduced_at = between.reduced_at }) where
  -- what is said if the imports were not all dropped
  pub both_halt : HasLemmas s ring → AreToldApart ring.last_start ring.lemmas.items ring.imports.items v.items → HasReducedLemmas s m (record ring { imports = v }) between → (end : End) → HaltsDropping m u between.trail.steps between.imports.items end → HaltsReducingImports s u ring end
  both_halt p told own end cut = record {
    imports = v.items;
    apart = subst (λ (n : ℕ). AreToldApart n ring.lemmas.items ring.imports.items v.items) p.last told;
    between = m;
    ring = between;
    lemmas_reduced = record { noted = own.noted; entry = own.entry; reduced = own.reduced; counted = own.counted; since = own.since };
    halts = subst (λ (steps : List TrailStep). HaltsDropping m u steps v.items end) (ap (λ (r : Ring). r.trail.steps) first)
        (subst (λ (cs : List Cref). HaltsDropping m u between.trail.steps cs end) (ap (λ (r : Ring). r.imports.items) first) cut);
  }
