-- Reading keeps the rule, and what is read of a cell that is held is its clause.
use Rattle.std.proofs.Common.{◌≡◌, ℕ, ◌<◌, true, List, [], ◌∷◌, set, refl, sym, ap, ◌∙◌, subst, inr, Option, Bool}
use Rattle.std.specs.Prelude.{slice_index}
use mathlib.Core.Option.{some, some-injective, some-ne-none}
use mathlib.Core.Option as maybe
use lib.ListN.{get_elem?}
use Rattle.atomic_table.specs.Table.{State as Table, Me, keeps, step, Allows}
use Rattle.rup_model.specs.declared.journal.Entry.{Entry}
use Rattle.share_core.specs.declared.event.Event.TheVariants.{Read}
use Rattle.share_core.specs.declared.part.CoreOpening.{CoreOpening}
use Rattle.share_core.specs.declared.part.Part.{Part}
use Rattle.share_core.specs.declared.stored.ClauseAt.{ClauseAt}
use Rattle.share_rule.specs.Views.{is_ready}
use Rattle.share_core.specs.State.{State, times_at, number_at, lits_at, clause_at}
use Rattle.share_core.specs.Events.{after}
use Rattle.share_core.specs.Sound.{Sound}
use Rattle.share_core.proofs.ClauseLists.{all_in}
use Rattle.share_rule.specs.declared.view.BookOrigin.{BookOrigin}
use Rattle.share_rule.specs.declared.Layout.{Layout}
use Rattle.share_rule.specs.declared.rule.Key.{Key}
use Rattle.share_rule.specs.declared.view.View.{View}
use Rattle.sat_words.specs.Literal.{Literal}
use Rattle.share_rule.specs.Cells.{Spells}
use Rattle.share_rule.specs.Views.{only, clause_in, glue_in, clause_of}
use Rattle.share_rule.specs.Steps.{after_load}
use Rattle.share_rule.specs.Seen.{IsPart}
use Rattle.share_rule.specs.Shown.{Shown, Shows, ring_of}
use Rattle.share_rule.specs.Told.{loaded, looked as looks_told}
use Rattle.share_core.proofs.Leaving.{left_sound}
use Rattle.share_rule.proofs.Lists.{first_at, set_itself}
use Rattle.share_rule.proofs.Parts.{held_is, held_clause, is_open}
use Rattle.share_rule.proofs.Moves.{one_ring, looked}
use Rattle.share_rule.proofs.Steps.{told}

module _ {S : Type 0} (stands : S → BookOrigin → Layout → CoreOpening → List Entry → Bool → Type 0) (k : Key) where
  -- what is read of a held cell
  pub words_of : (l : Layout) (s : Table (Option S) View) (h : Shows stands l s) (v : View) (p : IsPart l h.core h.glue (only v)) (a : ℕ) → 0 < times_at a (only v).core.held
      → Spells s.words a (clause_of a v).number (glue_in (clause_of a v).number (only v).glues) (clause_of a v).lits
  words_of l s h v part a holds =
      let c : State = h.core in
      let r : ℕ = ring_of (only v) in
      let held : 0 < times_at a (c.part r).held = subst (λ (q : Part). 0 < times_at a q.held) part.part holds in
      let sound : Sound c = left_sound c.opening c h.left in
      let is = held_is c sound r a part.ring held in
      let f = first_at a (only v).core.held holds in
      let clause : clause_of a v ≡ clause_at c a = ap (λ (q : Part). clause_in a q.held) part.part ∙ held_clause c sound r a part.ring held in
      let number : is.0.number ≡ (clause_of a v).number = sym (ap (λ (k : ClauseAt). k.number) clause ∙ ap number_at is.1) in
      let lits : is.0.lits ≡ (clause_of a v).lits = sym (ap (λ (k : ClauseAt). k.lits) clause ∙ ap lits_at is.1) in
      let glue : h.glue is.0.number ≡ glue_in (clause_of a v).number (only v).glues = ap h.glue number
      ∙ sym (all_in (λ (h' : ClauseAt). glue_in h'.number (only v).glues ≡ h.glue h'.number) (only v).core.held (clause_of a v) f.0 part.glues) in
      subst (λ (y : ℕ × (ℕ × List Literal)). Spells s.words a y.0 y.1.0 y.1.1) (λ i. (number i, (glue i, lits i))) (h.words.cell_is a is.0 is.1 is.2)

  -- a word is read
  pub load_next : (s : Table (Option S) View) (h : Shows stands k.layout s) (id w : ℕ) (v : View) → get_elem? s.views id ≡ some v → is_ready v.stage ≡ true
      → (n : Shows stands k.layout (record { words = set s.words w (slice_index s.words w); homes = s.homes; views = set s.views id (after_load w (slice_index s.words w) v) })) × (n.core ≡ h.core) × ((a : ℕ) → n.core ≡ after h.core (Read (ring_of (only v)) a))
  load_next s h id w v at ready =
      let old = looked stands k.layout s h id v (after_load w (slice_index s.words w) v) at refl refl refl refl refl refl (h.each id v at).stops in
      let next = subst (λ (ws : List ℕ). (n : Shows stands k.layout (record { words = ws; homes = s.homes; views = set s.views id (after_load w (slice_index s.words w) v) })) × (n.core ≡ h.core)) (sym (set_itself s.words w)) old in
      (next.0, next.1, λ a. next.1)

  pub looks : (slots id : ℕ) (me : Me (Option S) View) (w : ℕ) → is_ready me.0.stage ≡ true → Allows (Shown stands k) slots id me w (λ n. n) (looks_told (step slots w 0 0 maybe.none) me)
  looks slots id me w ready s shown wide at small =
      let h : Shows stands k.layout s = is_open stands k s id me.0 shown at ready in
      let n : ℕ = slice_index s.words w in
      let next = load_next s h id w me.0 at ready in
      (after_load w n me.0, keeps, tt, inr next.0, (refl, refl, told stands k s (set s.words w n) id me.0 (after_load w n me.0) at ready next.0))

  pub loads : (slots id : ℕ) (me : Me (Option S) View) (w : ℕ) → is_ready me.0.stage ≡ true → me.0.parts ≡ only me.0 ∷ []
      → Allows (Shown stands k) slots id me w (λ n. n) (loaded (step slots w 0 0 maybe.none) me)
  loads slots id me w ready one s shown wide at small =
      let l : Layout = k.layout in
      let v : View = me.0 in
      let h : Shows stands l s = is_open stands k s id v shown at ready in
      let n : ℕ = slice_index s.words w in
      let mine = one_ring l h.core h.glue h.owner id v (h.each id v at) one in
      let next = load_next s h id w v at ready in (
        after_load w n v,
        keeps,
        tt,
        inr next.0,
        (
          (refl, refl, told stands k s (set s.words w n) id v (after_load w n v) at ready next.0),
          record {
            number_is = λ a holds e. ap (slice_index s.words) e ∙ (words_of l s h v mine.0 a holds).number_is;
            head_is = λ a holds e. ap (slice_index s.words) e ∙ (words_of l s h v mine.0 a holds).head_is;
            lits_are = λ a j holds lt e. ap (slice_index s.words) e ∙ (words_of l s h v mine.0 a holds).lits_are j lt;
          },
        ),
      )
