-- The lemmas that a ring lists.
use Rattle.std.proofs.Common.{◌≡◌, ◌≢◌, ◌∙◌, ℕ, ◌+◌, List, [], ◌∷◌, ◌++◌, length, sym, subst, ap, arith, inl, inr, refl, Contains, IsSome, Some, None, Ok, append-nil, ◌≤◌, map}
use Rattle.std.specs.Prelude.{All, max, fold}
use Rattle.std.specs.Option.{option_to_list, option_map_or}
use Rattle.std.specs.declared.option.Option.{Option}
use Rattle.sat_words.specs.Literal.{Literal}
use Rattle.sat_words.specs.declared.shared.Cref.{Cref}
use Rattle.rup_model.specs.declared.journal.Kind.TheVariants.{Learn}
use Rattle.rup_model.specs.Journal.{recent}
use Rattle.rup_model.proofs.Lists.{In, Contains_In, In_Contains, In_map, In_append, In_append_left, In_append_right}
use Rattle.ring_port.specs.PortState.{PortState, Holding, held_at}
use Rattle.ring_port.specs.Port.{AddedClause, Learned, KeepsHeld, holding_of}
use Rattle.ring_port.proofs.Holdings.{All_In}
use Rattle.ring_port.proofs.LogSteps.{In_All}
use Rattle.watch_prop.specs.WatchData.{attached}
use Rattle.reduce_db.specs.Lemmas.{AreDistinct}
use Rattle.reduce_db.proofs.Changes.{distinct_push}
use Rattle.ring_run.specs.Searching.{AreMoreClauses, HasClauses, IsHeldBy, HasGrownLog}
use Rattle.ring_run.specs.Course.{last_of, last_start, HasLemmas, HasLeft, Lists, AreOrdered, numbers, number_at}
use Rattle.ring_run.specs.declared.ring.Ring.{Ring}
use Rattle.ring_run.proofs.Progress.{recent_lemma}
use Rattle.ring_run.specs.Ended.{reductions}
use Rattle.ring_run.proofs.Numbering.{KeepsListed, ordered_kept, ordered_joined, numbers_added, glue_kept, grown_then, reductions_other}
use Rattle.rup_model.specs.declared.journal.Addition.{Addition}
use Rattle.rup_model.specs.declared.journal.Entry.TheVariants.{Add}
use Rattle.vivify.specs.Outcome.{glue_at}

-- the greatest address is that of none beyond it
fold_least : (a : ℕ) (cs : List Cref) → a ≤ fold (λ (last : ℕ) (c : Cref). max last c.address) a cs
fold_least a [] = omega arith
fold_least a (c ∷ cs) = let more = fold_least (max a c.address) cs in omega (arith, more)

fold_most : (a : ℕ) (cs : List Cref) (c : Cref) → In c cs → c.address ≤ fold (λ (last : ℕ) (c : Cref). max last c.address) a cs
fold_most a [] c m = absurd m
fold_most a (d ∷ cs) c (inl is) = let more = fold_least (max a d.address) cs in let e = ap (λ (x : Cref). x.address) is in omega (arith, more, e)
fold_most a (d ∷ cs) c (inr m) = fold_most (max a d.address) cs c m

pub last_most : (s : PortState) (h : Holding) → Contains s.start h → h.address ≤ last_start s
last_most s h there =
    fold_most 0 (map (λ (k : Holding). record { address = k.address }) s.start) (record { address = h.address }) (In_map (λ (k : Holding). record { address = k.address }) s.start h (Contains_In s.start h there))

pub last_same : (s u : PortState) → u.start ≡ s.start → last_start u ≡ last_start s
last_same s u start = ap (λ (hs : List Holding). last_of (map (λ (k : Holding). record { address = k.address }) hs)) start

-- the imports are those from before
pub record SameImports (old new : Ring) : Type 0 where
  pub imports : new.imports.items ≡ old.imports.items
  pub last_start : new.last_start ≡ old.last_start

pub same_imports : (ring : Ring) → SameImports ring ring
same_imports ring = record { imports = refl; last_start = refl }

-- no lemma more or less, and none detached; the imports may be others
pub listed_with : (s u : PortState) (old new : Ring) → u.start ≡ s.start → recent u.ring u.mine ≡ recent s.ring s.mine → new.lemmas.items ≡ old.lemmas.items → All (Contains (attached new.watches)) old.lemmas.items
    → new.learned ≡ old.learned → new.reductions ≡ old.reductions → new.reduced_at ≡ old.reduced_at → new.last_start ≡ old.last_start → All (Contains (attached new.watches)) new.imports.items → KeepsListed s u old.lemmas.items → HasLemmas s old → HasLemmas u new
listed_with s u old new start lately items member learned reductions_same at last imported k p = record {
  ordered = subst (AreOrdered u) (sym items) (ordered_kept s u old.lemmas.items (λ c m. k.held c (In_Contains old.lemmas.items c m)) k.grown p.ordered);
  glued = λ c m. (let there = subst (λ (cs : List Cref). Contains cs c) items m in glue_kept (held_at u c.address) (held_at s c.address) (k.held c there) (p.glued c there));
  noted = reductions_same ∙ p.noted ∙ sym k.noted;
  distinct = subst AreDistinct (sym items) p.distinct;
  member = subst (All (Contains (attached new.watches))) (sym items) member;
  apart = λ h c there inside. p.apart h c (subst (λ (hs : List Holding). Contains hs h) start there) (subst (λ (cs : List Cref). Contains cs c) items inside);
  count = (let many = ap (λ (cs : List (List Literal)). length cs) lately in omega (arith, p.count, learned, at, many));
  few = omega (arith, p.few, reductions_same, at);
  imported = imported;
  last = last ∙ p.last ∙ sym (last_same s u start);
}

-- no lemma more or less, and none detached
pub listed_same : (s u : PortState) (old new : Ring) → u.start ≡ s.start → recent u.ring u.mine ≡ recent s.ring s.mine → new.lemmas.items ≡ old.lemmas.items → AreMoreClauses (attached old.watches) (attached new.watches)
    → new.learned ≡ old.learned → new.reductions ≡ old.reductions → new.reduced_at ≡ old.reduced_at → SameImports old new → KeepsListed s u old.lemmas.items → HasLemmas s old → HasLemmas u new
listed_same s u old new start lately items more learned reductions_same at same k p =
    listed_with s u old new start lately items (moved old.lemmas.items p.member) learned reductions_same at same.last_start
    (subst (All (Contains (attached new.watches))) (sym same.imports) (moved old.imports.items p.imported)) k p
  where
    moved : (cs : List Cref) → All (Contains (attached old.watches)) cs → All (Contains (attached new.watches)) cs
    moved cs member = In_All (Contains (attached new.watches)) cs (λ c m. more c (All_In (Contains (attached old.watches)) cs c member m))

none_held : (o : Option Holding) → IsSome o → o ≡ None → ⊥
none_held None h e = absurd cc
none_held (Some y) h e = absurd cc

-- a clause of two literals or more joins the lemmas
module _ (s u : PortState) (cs lemmas : List Cref) (lits : List Literal) (glue : ℕ) (c : Cref) (clauses : HasClauses s cs) (w : AddedClause s u lits glue Learn c) (member : All (Contains cs) lemmas) where
  held_before : (d : Cref) → In d lemmas → IsSome (held_at s d.address)
  held_before d m = All_In (IsHeldBy s) cs d clauses.held (Contains_In cs d (All_In (Contains cs) lemmas d member m))

  pub joined_distinct : AreDistinct lemmas → AreDistinct (lemmas ++ c ∷ [])
  joined_distinct a = distinct_push lemmas c a (λ d m e. none_held (held_at s c.address) (subst (λ (a : ℕ). IsSome (held_at s a)) e (held_before d m)) w.free.not_held)

  pub joined_member : All (Contains (cs ++ c ∷ [])) (lemmas ++ c ∷ [])
  joined_member = In_All (Contains (cs ++ c ∷ [])) (lemmas ++ c ∷ []) (λ d m. elim (In_append lemmas (c ∷ []) d m) as (λ _. Contains (cs ++ c ∷ []) d) [
    | inl old ↦ In_Contains (cs ++ c ∷ []) d (In_append_left cs (c ∷ []) d (Contains_In cs d (All_In (Contains cs) lemmas d member old)))
    | inr new ↦ In_Contains (cs ++ c ∷ []) d (In_append_right cs (c ∷ []) d new)
  ])

  -- no start clause is at its address, since these are held
  new_apart : (h : Holding) → Contains s.start h → c.address ≢ h.address
  new_apart h there e =
      let is : held_at s h.address ≡ Some h = All_In (λ (k : Holding). held_at s k.address ≡ Some k) s.start h clauses.starts_held (Contains_In s.start h there) in
      let none : None ≡ Some h = sym w.free.not_held ∙ ap (held_at s) e ∙ is in
      none_held (Some h) refl (sym none)

  pub joined_apart : ((h : Holding) (d : Cref) → Contains s.start h → Contains lemmas d → d.address ≢ h.address) → (h : Holding) (d : Cref) → Contains s.start h → Contains (lemmas ++ c ∷ []) d → d.address ≢ h.address
  joined_apart p h d there m = elim (In_append lemmas (c ∷ []) d (Contains_In (lemmas ++ c ∷ []) d m)) as (λ _. d.address ≢ h.address) [
    | inl old ↦ p h d there (In_Contains lemmas d old)
    | inr (inl is) ↦ (λ e. new_apart h there (ap (λ (x : Cref). x.address) is ∙ e))
    | inr (inr none) ↦ absurd none
  ]

-- a lemma was learned, and listed if it has an address
pub listed_learned : (s u w : PortState) (old new : Ring) (lits : List Literal) (glue : ℕ) (address : Option Cref) → HasClauses s (attached old.watches) → Learned s u lits glue (Ok address)
    → w.start ≡ u.start → recent w.ring w.mine ≡ recent u.ring u.mine → Lists old new address → attached new.watches ≡ attached old.watches ++ option_to_list address → new.learned ≡ old.learned + 1
    → KeepsHeld s u → ((a : ℕ) → held_at w a ≡ held_at u a) → HasGrownLog u w → reductions w.ring w.mine ≡ reductions u.ring u.mine → (2 ≤ length lits → 1 ≤ glue) → HasLemmas s old → HasLemmas w new
listed_learned s u w old new lits glue (Some c) clauses k start lately lists now count kept alike grown noted bound p =
    let items : new.lemmas.items ≡ old.lemmas.items ++ c ∷ [] = lists.lemmas in
    let cs = attached old.watches in
    let x : Addition = record { ring = s.ring; number = k.number; lits = lits; kind = Learn; hints = k.hints } in
    let ring_u : u.ring ≡ s.ring = ap (λ (y : PortState). y.ring) k.state in
    let mine_u : u.mine ≡ s.mine ++ Add x ∷ [] = ap (λ (y : PortState). y.mine) k.state in
    let stay : (d : Cref) → In d old.lemmas.items → held_at u d.address ≡ held_at s d.address = λ d m. kept d.address (held_before s u cs old.lemmas.items lits glue c clauses k p.member d m) in
    let own : number_at u c.address ≡ k.number = ap (λ (o : Option Holding). option_map_or (λ (h : Holding). h.number) o 0) k.there in
    let joined : AreOrdered u (old.lemmas.items ++ c ∷ []) = ordered_joined s u old.lemmas.items c stay (numbers_added s u x mine_u ∙ ap (λ (n : ℕ). numbers s ++ n ∷ []) (sym own)) p.ordered in
    record {
      ordered = subst (AreOrdered w) (sym items) (ordered_kept u w (old.lemmas.items ++ c ∷ []) (λ d m. alike d.address) grown joined);
      glued = λ d m. glue_kept (held_at w d.address) (held_at u d.address) (alike d.address)
          (elim (In_append old.lemmas.items (c ∷ []) d (Contains_In (old.lemmas.items ++ c ∷ []) d (subst (λ (ds : List Cref). Contains ds d) items m))) as (λ _. 1 ≤ glue_at u d.address) [
            | inl old_one ↦ glue_kept (held_at u d.address) (held_at s d.address) (stay d old_one) (p.glued d (In_Contains old.lemmas.items d old_one))
            | inr (inl is) ↦ subst (λ (e : Cref). 1 ≤ glue_at u e.address) is (glue_kept (held_at u c.address) (Some (holding_of c k.number glue lits)) k.there (bound k.long))
            | inr (inr none) ↦ absurd none
          ]);
      noted = lists.reductions ∙ p.noted ∙ sym (noted ∙ reductions_other s u x ring_u mine_u);
      distinct = subst AreDistinct (sym items) (joined_distinct s u cs old.lemmas.items lits glue c clauses k p.member p.distinct);
      member = subst (λ (ds : List Cref). All (Contains ds) new.lemmas.items) (sym now)
          (subst (All (Contains (cs ++ c ∷ []))) (sym items) (joined_member s u cs old.lemmas.items lits glue c clauses k p.member));
      apart = λ h d there m. joined_apart s u cs old.lemmas.items lits glue c clauses k p.member p.apart h d
          (subst (λ (hs : List Holding). Contains hs h) (start ∙ ap (λ (x : PortState). x.start) k.state) there) (subst (λ (ds : List Cref). Contains ds d) items m);
      count = (let many = ap (λ (ls : List (List Literal)). length ls) lately in
          let more = recent_lemma s u k.number lits k.hints (ap (λ (x : PortState). x.ring) k.state) (ap (λ (x : PortState). x.mine) k.state) in
          omega (arith, p.count, count, lists.reduced_at, many, more));
      few = omega (arith, p.few, lists.reductions, lists.reduced_at);
      imported = subst (λ (ds : List Cref). All (Contains ds) new.imports.items) (sym now) (subst (All (Contains (cs ++ c ∷ []))) (sym lists.imports)
          (In_All (Contains (cs ++ c ∷ [])) old.imports.items (λ d m. In_Contains (cs ++ c ∷ []) d (In_append_left cs (c ∷ []) d (Contains_In cs d (All_In (Contains cs) old.imports.items d p.imported m))))));
      last = lists.last_start ∙ p.last ∙ sym (last_same s w (start ∙ ap (λ (y : PortState). y.start) k.state));
    }
listed_learned s u w old new lits glue None clauses k start lately lists now count kept alike grown noted bound p =
    let items : new.lemmas.items ≡ old.lemmas.items = lists.lemmas ∙ append-nil old.lemmas.items in
    let same : attached new.watches ≡ attached old.watches = now ∙ append-nil (attached old.watches) in
    let x : Addition = record { ring = s.ring; number = k.wrote.number; lits = k.lit ∷ []; kind = Learn; hints = k.wrote.hints } in
    let ring_u : u.ring ≡ s.ring = ap (λ (y : PortState). y.ring) k.wrote.state in
    let mine_u : u.mine ≡ s.mine ++ Add x ∷ [] = ap (λ (y : PortState). y.mine) k.wrote.state in
    let stay : (d : Cref) → In d old.lemmas.items → held_at w d.address ≡ held_at s d.address
    = λ d m. alike d.address ∙ kept d.address (All_In (IsHeldBy s) (attached old.watches) d clauses.held (Contains_In (attached old.watches) d (All_In (Contains (attached old.watches)) old.lemmas.items d p.member m))) in
    record {
      ordered = subst (AreOrdered w) (sym items) (ordered_kept s w old.lemmas.items stay (grown_then s u w (Add x ∷ [], mine_u) grown) p.ordered);
      glued = λ d m. (let there = subst (λ (ds : List Cref). Contains ds d) items m in glue_kept (held_at w d.address) (held_at s d.address) (stay d (Contains_In old.lemmas.items d there)) (p.glued d there));
      noted = lists.reductions ∙ p.noted ∙ sym (noted ∙ reductions_other s u x ring_u mine_u);
      distinct = subst AreDistinct (sym items) p.distinct;
      member = subst (λ (ds : List Cref). All (Contains ds) new.lemmas.items) (sym same) (subst (All (Contains (attached old.watches))) (sym items) p.member);
      apart = λ h d there m. p.apart h d (subst (λ (hs : List Holding). Contains hs h) (start ∙ ap (λ (x : PortState). x.start) k.wrote.state) there) (subst (λ (ds : List Cref). Contains ds d) items m);
      count = (let many = ap (λ (ls : List (List Literal)). length ls) lately in
          let more = recent_lemma s u k.wrote.number (k.lit ∷ []) k.wrote.hints (ap (λ (x : PortState). x.ring) k.wrote.state) (ap (λ (x : PortState). x.mine) k.wrote.state) in
          omega (arith, p.count, count, lists.reduced_at, many, more));
      few = omega (arith, p.few, lists.reductions, lists.reduced_at);
      imported = subst (λ (ds : List Cref). All (Contains ds) new.imports.items) (sym same) (subst (All (Contains (attached old.watches))) (sym lists.imports) p.imported);
      last = lists.last_start ∙ p.last ∙ sym (last_same s w (start ∙ ap (λ (y : PortState). y.start) k.wrote.state));
    }

-- if the conflict was left
pub left_lists : (s : PortState) (old new : Ring) (lits : List Literal) (back : ℕ) (address : Option Cref) → HasLeft s old new lits back address → Lists old new address × (attached new.watches ≡ attached old.watches ++ option_to_list address)
left_lists s old new lits back address (inl at) = (at.1.listed, at.1.clauses)
left_lists s old new lits back address (inr at) = (at.2.listed, at.2.clauses)
