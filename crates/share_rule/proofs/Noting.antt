-- Each note is its event, and so are all notes of a turn.
use Rattle.std.proofs.Common.{◌≡◌, ◌≢◌, ℕ, zero, suc, ◌^◌, ◌<◌, ◌≤◌, ◌==◌, ◌||◌, ◌&&◌, Bool, true, false, List, [], ◌∷◌, ◌++◌, length, drop, fold, map, All, refl, sym, ap, ◌∙◌, subst, ⊎_elim, arith, eq-eqb, ne_eqb, true≢false, Option, Some, None}
use Rattle.std.specs.Prelude.{if◌then◌else◌}
use Rattle.std.specs.Option.{is_none}
use Rattle.sat_words.specs.Literal.{Literal}
use Rattle.clause_cell.specs.Packing.{words_for}
use Rattle.clause_cell.specs.Free.{is_within, is_free, range, first_fit, without_fit}
use Rattle.clause_cell.proofs.Ranges.{taken_free}
use Rattle.rup_model.specs.declared.journal.Kind.{Kind}
use Rattle.rup_model.specs.declared.journal.Kind.TheVariants.{Derive}
use Rattle.rup_model.specs.declared.journal.Entry.{Entry}
use Rattle.rup_model.specs.declared.journal.Entry.TheVariants.{Del, Reduce as ReduceEntry}
use Rattle.rup_model.specs.Basics.{put, one_if}
use Rattle.std.proofs.lemmas.List.{drop-append-le}
use Rattle.std.proofs.lemmas.List.Elements.{All-append}
use Rattle.rup_model.specs.Journal.{added, ended}
use Rattle.rup_model.proofs.Additions.{added-append}
use Rattle.rup_model.proofs.Sums.{put_here, put_else, at_put, below_at}
use Rattle.share_core.specs.declared.event.Event.TheVariants as event
use Rattle.share_core.specs.declared.stored.ClauseAt.{ClauseAt}
use Rattle.share_core.specs.declared.stored.Cell.{Cell}
use Rattle.share_core.specs.declared.part.CoreOpening.{CoreOpening}
use Rattle.share_core.specs.declared.part.Part.{Part}
use Rattle.share_core.specs.State.{State, times_at, number_at}
use Rattle.share_core.specs.Events.{after, made_part, wrote_part, buried_part, written, begun, buried, addition_of, deletion_of}
use Rattle.share_core.specs.Enabled.{Writes}
use Rattle.share_core.specs.Learning.{ticket_after, after_learn}
use Rattle.share_core.specs.Sound.{Sound, IsCopy, idle_at}
use Rattle.share_core.proofs.Counting.{some_same, none_some, cell_cases}
use Rattle.share_core.proofs.ClauseLists.{all_in, all_map, all_one}
use Rattle.share_rule.specs.declared.Layout.{Layout}
use Rattle.share_rule.specs.declared.note.Note.{Note}
use Rattle.share_rule.specs.declared.note.Note.TheVariants.{Clause, Unit as UnitNote, Empty, Reduce, Bury}
use Rattle.share_rule.specs.Layout.{table_words}
use Rattle.share_rule.specs.Views.{glue_in}
use Rattle.share_core.specs.Left.{Left}
use Rattle.share_rule.specs.Layout.{InVars}
use Rattle.share_rule.specs.Seen.{IsRefused}
use Rattle.share_rule.specs.declared.view.Refusal.{Refusal}
use Rattle.share_rule.specs.declared.view.Refusal.TheVariants.{Ended, Broken, ProofFault, NoHole}
use Rattle.clause_cell.specs.declared.holes.Hole.{Hole}
use Rattle.share_rule.specs.Room.{Room, with_clause, without_words, freed, room_after, room, IsTiled, Places}
use Rattle.share_rule.specs.Turns.{event_of, next_number, entry_of, noted_core, Sheet, noted, sheet_after, IsGoing, MayNote, AllNoted}
use Rattle.share_rule.proofs.Lists.{all_more}
use Rattle.share_core.proofs.Leaving.{left_sound, left_one}
use Rattle.share_rule.proofs.Parts.{cell_below}
use Rattle.share_rule.proofs.Rooms.{within_is, RoomSound, room_sound, room_more, freed_else, placed_tiled, freed_tiled}
use Rattle.share_rule.proofs.Tightness.{tight_more}
use Rattle.share_rule.proofs.Sheets.{begins_long, waiting_clause, beside_same, beside_both, IsSheet, Noted, next_after, long_entry}

abbrev with_ticket : Bool → Part → Part
with_ticket t p = record p { ticket = t }

none_by : (q : Option Hole) → ((r : Hole) → q ≡ Some r → ⊥) → q ≡ None
none_by None h = refl
none_by (Some r) h = absurd (h r refl)

-- who has words once those of a number are free
freed_some : (m : Room) (n k : ℕ) (q r : Hole) → m.words n ≡ Some r → (freed m n).words k ≡ Some q → (k ≢ n) × (m.words k ≡ Some q)
freed_some m n k q r is h = at_put m.words n None (λ (z : Option Hole). z ≡ Some q → (k ≢ n) × (m.words k ≡ Some q)) k
    (λ _ z. absurd (none_some q z))
    (λ ne z. (ne, z))
    ((λ i. (without_words n m (sym is i)).words k) ∙ h)

module _ (l : Layout) (small : table_words l ≤ 2 ^ 63) (r : ℕ) where
  module _ (c : State) (glue : ℕ → ℕ) (s : Sheet) (left : Left c.opening c) (pl : Places l c) (lt : r < c.opening.rings) (turn : c.turn ≡ Some r) (sh : IsSheet c glue r s) where
    abbrev o : CoreOpening
    o = c.opening

    sound : Sound c
    sound = left_sound c.opening c left

    abbrev M : Room
    M = room l o c.journal

    abbrev N : ℕ
    N = next_number o c.journal

    room_next : (e : Entry) → room l o (c.journal ++ e ∷ []) ≡ room_after M e
    room_next e = room_more l o c.journal (e ∷ []) (begins_long c sound)

    still : (K : List Entry) → ended o.formula c.journal ≡ false → (k : Layout) (failed : Bool) (x : Refusal) → IsRefused k o c.journal failed x → IsRefused k o (c.journal ++ K) failed x
    still K going k failed Ended e = absurd (true≢false (sym e ∙ going))
    still K going k failed Broken h = h
    still K going k failed ProofFault h = h
    still K going k failed (NoHole need most) h = tight_more k o c.journal K need most h

    writes : IsGoing o s.journal → Writes c r
    writes g = subst (λ (J : List Entry). IsGoing o J → Writes c r) (sym sh.journal) (λ k. record { turn = turn; going = k.going; room = k.room }) g

    -- the rings' additions stay on the variables
    entries_next : (e : Entry) → All (InVars l) (added (e ∷ [])) → All (InVars l) (added (drop (length o.journal) (c.journal ++ e ∷ [])))
    entries_next e h =
        subst (All (InVars l)) (sym (ap added (drop-append-le (length o.journal) c.journal (e ∷ []) (begins_long c sound)) ∙ added-append (drop (length o.journal) c.journal) (e ∷ [])))
        (All-append (InVars l) (added (drop (length o.journal) c.journal)) (added (e ∷ [])) pl.entries h)

    plain_note : (n : Note) (t : Bool) (e : Entry) → All (InVars l) (added (e ∷ [])) → written c r (with_ticket t (c.part r)) e ≡ after c (event_of r n) → ended o.formula c.journal ≡ false → Left o (written c r (with_ticket t (c.part r)) e) → entry_of o r c.journal (c.part r) n ≡ e → room_after M e ≡ M → noted_core o r c.journal n (c.part r) ≡ wrote_part (length c.journal) e (with_ticket t (c.part r))
        → All (λ h. glue_in h.number (noted o r s n).glues ≡ glue h.number) (noted o r s n).part.held → All (λ h. glue_in h.number (noted o r s n).glues ≡ glue h.number) (noted o r s n).part.making
        → Noted l r c glue (n ∷ []) (noted o r s n)
    plain_note n t e on runs going left' entry free part held made = record {
      core = written c r (with_ticket t (c.part r)) e;
      runs = runs;
      glue' = glue;
      left = left';
      places = record {
        rings = pl.rings;
        depth = pl.depth;
        limit = pl.limit;
        small = pl.small;
        words = λ a x is. ap (λ (m : Room). m.words x.number) (room_next e ∙ free) ∙ pl.words a x is;
        only = λ k q h. pl.only k q (ap (λ (m : Room). m.words k) (sym (room_next e ∙ free)) ∙ h);
        tiled = subst (IsTiled l) (sym (room_next e ∙ free)) pl.tiled;
        vars = pl.vars;
        starts = pl.starts;
        entries = entries_next e on;
        units = pl.units;
        few = pl.few;
        first = pl.first;
      };
      beside = record {
        opening = refl;
        granted = λ i. refl;
        slot = λ i. refl;
        drawn = refl;
        units = refl;
        numbers = refl;
        turn = refl;
        stop = refl;
        others = put_else c.part r (wrote_part (length c.journal) e (with_ticket t (c.part r)));
        open_cells = λ a x is op. is;
        built = λ a i x is m. is;
        counted = λ a x is n. is;
        next = next_after o c.journal e;
        refused = still (e ∷ []) going;
        glue_else = λ k lt'. refl;
      };
      sheet = record {
        journal = (λ i. sh.journal i ++ entry_of o r (sh.journal i) (sh.part i) n ∷ []) ∙ ap (λ (x : Entry). c.journal ++ x ∷ []) entry;
        part = (λ i. noted_core o r (sh.journal i) n (sh.part i)) ∙ part ∙ sym (put_here c.part r (wrote_part (length c.journal) e (with_ticket t (c.part r))));
        held_glues = held;
        made_glues = made;
      };
    }

    none_on : InVars l []
    none_on i k lt = absurd (omega arith)

    none_added : All (InVars l) []
    none_added i k lt = absurd (omega arith)

    may : (n : Note) → MayNote l o r s.journal s.part n → MayNote l o r c.journal (c.part r) n
    may n h = subst (λ (y : List Entry × Part). MayNote l o r y.0 y.1 n) (λ i. (sh.journal i, sh.part i)) h

    unit_note : (kind : Kind) (lit : Literal) (hints : List ℕ) → IsGoing o s.journal → MayNote l o r s.journal s.part (UnitNote kind lit hints) → Noted l r c glue ((UnitNote kind lit hints) ∷ []) (noted o r s (UnitNote kind lit hints))
    unit_note kind lit hints going h = let k = may (UnitNote kind lit hints) h in
        plain_note (UnitNote kind lit hints) (ticket_after kind (c.part r).ticket) (addition_of c r kind (lit ∷ []) hints) (all_one (InVars l) (lit ∷ []) k.2) refl (writes going).going (left_one o c (event.AddUnit r kind lit hints) left (lt, writes going, k.0, k.1)) refl refl refl sh.held_glues sh.made_glues

    empty_note : (hints : List ℕ) → IsGoing o s.journal → MayNote l o r s.journal s.part (Empty hints) → Noted l r c glue ((Empty hints) ∷ []) (noted o r s (Empty hints))
    empty_note hints going h = let k = may (Empty hints) h in
        plain_note (Empty hints) (c.part r).ticket (addition_of c r Derive [] hints) (all_one (InVars l) [] none_on) refl (writes going).going (left_one o c (event.AddEmpty r hints) left (lt, writes going, k)) refl refl refl sh.held_glues sh.made_glues

    reduce_note : IsGoing o s.journal → MayNote l o r s.journal s.part Reduce → Noted l r c glue (Reduce ∷ []) (noted o r s Reduce)
    reduce_note going h = let k = may Reduce h in
        plain_note Reduce (c.part r).ticket (ReduceEntry r) none_added refl (writes going).going (left_one o c (event.Reduce r) left (lt, writes going, k)) refl refl refl sh.held_glues sh.made_glues

    -- the ring's clauses are known by numbers below the next
    held_below : (h : ClauseAt) → IsCopy c.cell h → h.number < N
    held_below h k = let q = cell_below c sound h.address k.0 k.1 in let e : k.0.number ≡ h.number = k.2 in omega arith

    clause_note : (kind : Kind) (lits : List Literal) (hints : List ℕ) (g a : ℕ) → IsGoing o s.journal → MayNote l o r s.journal s.part (Clause kind lits hints g a) → Noted l r c glue ((Clause kind lits hints g a) ∷ []) (noted o r s (Clause kind lits hints g a))
    clause_note kind lits hints g a going h =
        let k = may (Clause kind lits hints g a) h in
        let long : 2 ≤ length lits = (k.1).long in
        let need : ℕ = words_for (length lits) in
        let fit : first_fit need M.holes ≡ Some a = k.4 in
        let rs : RoomSound l M = room_sound l small o c.journal in
        let is_hole : is_free M.holes a ≡ true = taken_free 0 need M.holes a a (omega arith) rs.apart fit ∙ or_first (is_within a need a) (is_free (without_fit need M.holes) a) (within_is a need a (omega arith) (omega arith)) in
        let free : c.cell a ≡ None = ⊎_elim
        (λ (e : c.cell a ≡ None). e)
        (λ (t : (x : Cell) × (c.cell a ≡ Some x)). absurd (true≢false (sym is_hole ∙ rs.busy t.0.number a (range a (words_for (length t.0.lits))) (pl.words a t.0 t.1) (within_is a (words_for (length t.0.lits)) a (omega arith) (omega arith)))))
        (cell_cases (c.cell a)) in
        let some : a ≢ 0 = let q = (rs.free a is_hole).0 in λ e. omega arith in
        let d : State = begun c r kind lits hints a in
        let e : Entry = addition_of c r kind lits hints in
        let new : Cell = record { lits = lits; number = N; count = 0; maker = Some r } in
        let p' : Part = made_part (record { address = a; number = N; lits = lits }) (length c.journal) e (after_learn kind (c.part r)) in
        let glue' : ℕ → ℕ = put glue N g in
        let after_it : room l o (c.journal ++ e ∷ []) ≡ record { holes = without_fit need M.holes; words = put M.words N (Some (range a need)) } =
        room_next e ∙ long_entry M N lits r kind long ∙ ap (with_clause N (length lits) M) fit in
        let else_glue : (h : ClauseAt) → IsCopy c.cell h → glue_in h.number s.glues ≡ glue h.number → glue_in h.number (record { number = next_number o s.journal; glue = g } ∷ s.glues) ≡ glue' h.number =
        λ h' copy was. let low = held_below h' copy in let same : next_number o s.journal ≡ N = ap (next_number o) sh.journal in
        (λ i. if ne_eqb (next_number o s.journal) h'.number (λ q. omega arith) i then g else glue_in h'.number s.glues) ∙ was ∙ sym (put_else glue N g h'.number (λ q. omega arith)) in
        record {
          core = d;
          runs = refl;
          glue' = glue';
          left = left_one o c (event.AddClause r kind lits hints a) left (lt, writes going, k.0, k.1, free, some, k.2);
          places = record {
            rings = pl.rings;
            depth = pl.depth;
            limit = pl.limit;
            small = pl.small;
            words = λ b y. at_put c.cell a (Some new) (λ (q : Option Cell). q ≡ Some y → (room l o (c.journal ++ e ∷ [])).words y.number ≡ Some (range b (words_for (length y.lits)))) b
                (λ here is. subst (λ (z : Cell). (room l o (c.journal ++ e ∷ [])).words z.number ≡ Some (range b (words_for (length z.lits)))) (some_same new y is)
                (ap (λ (m : Room). m.words N) after_it ∙ put_here M.words N (Some (range a need)) ∙ ap (λ (q : ℕ). Some (range q need)) (sym here)))
                (λ ne is. let low = cell_below c sound b y is in ap (λ (m : Room). m.words y.number) after_it ∙ put_else M.words N (Some (range a need)) y.number (λ q. omega arith) ∙ pl.words b y is);
            only = λ k q h. at_put M.words N (Some (range a need)) (λ (z : Option Hole). z ≡ Some q → (x : Cell) × (put c.cell a (Some new) q.first ≡ Some x) × (x.number ≡ k)) k
                (λ here is. (new, ap (put c.cell a (Some new)) (ap (λ (z : Hole). z.first) (sym (some_same (range a need) q is))) ∙ put_here c.cell a (Some new), sym here))
                (λ _ is. (let t = pl.only k q is in (t.0, put_else c.cell a (Some new) q.first (λ z. none_some t.0 (sym free ∙ ap c.cell (sym z) ∙ t.1)) ∙ t.1, t.2)))
                (ap (λ (m : Room). m.words k) (sym after_it) ∙ h);
            tiled = subst (IsTiled l) (sym (room_next e ∙ long_entry M N lits r kind long))
                (placed_tiled l small M N (length lits) rs (none_by (M.words N) (λ q is. (let t = pl.only N q is in let low = cell_below c sound q.first t.0 t.1 in let same = t.2 in omega (arith, low, same)))) pl.tiled);
            vars = λ b y. at_put c.cell a (Some new) (λ (q : Option Cell). q ≡ Some y → InVars l y.lits) b
                (λ here is. subst (λ (z : Cell). InVars l z.lits) (some_same new y is) k.3)
                (λ ne is. pl.vars b y is);
            starts = pl.starts;
            entries = entries_next e (all_one (InVars l) lits k.3);
            units = pl.units;
            few = pl.few;
            first = pl.first;
          };
          beside = record {
            opening = refl;
            granted = λ i. refl;
            slot = λ i. refl;
            drawn = refl;
            units = refl;
            numbers = refl;
            turn = refl;
            stop = refl;
            others = put_else c.part r p';
            open_cells = λ b x. at_put c.cell a (Some new) (λ (q : Option Cell). q ≡ Some x → x.maker ≡ None → c.cell b ≡ Some x) b
                (λ here is op. absurd (none_some r (sym op ∙ sym (ap (λ (z : Cell). z.maker) (some_same new x is)))))
                (λ ne is op. is);
            built = λ b i x is m. put_else c.cell a (Some new) b (λ q. absurd (none_some x (sym free ∙ ap c.cell (sym q) ∙ is))) ∙ is;
            counted = λ b x is m. put_else c.cell a (Some new) b (λ q. absurd (none_some x (sym free ∙ ap c.cell (sym q) ∙ is))) ∙ is;
            next = next_after o c.journal e;
            refused = still (e ∷ []) (writes going).going;
            glue_else = λ n low. put_else glue N g n (λ q. omega arith);
          };
          sheet = record {
            journal = λ i. sh.journal i ++ entry_of o r (sh.journal i) (sh.part i) (Clause kind lits hints g a) ∷ [];
            part = (λ i. noted_core o r (sh.journal i) (Clause kind lits hints g a) (sh.part i)) ∙ sym (put_here c.part r p');
            held_glues = all_map (λ (h : ClauseAt). glue_in h.number s.glues ≡ glue h.number) (λ (h : ClauseAt). glue_in h.number (record { number = next_number o s.journal; glue = g } ∷ s.glues) ≡ glue' h.number) s.part.held
                (λ x i was. else_glue x (all_in (IsCopy c.cell) s.part.held x i (subst (λ (p : Part). All (IsCopy c.cell) p.held) (sym sh.part) (sound.copies.held r lt))) was) sh.held_glues;
            made_glues = all_more (λ (h : ClauseAt). glue_in h.number (record { number = next_number o s.journal; glue = g } ∷ s.glues) ≡ glue' h.number) s.part.making (record { address = a; number = next_number o s.journal; lits = lits })
                (all_map (λ (h : ClauseAt). glue_in h.number s.glues ≡ glue h.number) (λ (h : ClauseAt). glue_in h.number (record { number = next_number o s.journal; glue = g } ∷ s.glues) ≡ glue' h.number) s.part.making
                (λ x i was. else_glue x (all_in (IsCopy c.cell) s.part.making x i (subst (λ (p : Part). All (IsCopy c.cell) p.making) (sym sh.part) (sound.copies.making r lt))) was) sh.made_glues)
                ((λ i. if eq-eqb (next_number o s.journal) (next_number o s.journal) refl i then g else glue_in (next_number o s.journal) s.glues) ∙ sym (put_here glue N g) ∙ ap glue' (sym (ap (next_number o) sh.journal)));
          };
        }
      where
        or_first : (x y : Bool) → x ≡ true → (x || y) ≡ true
        or_first true y q = refl
        or_first false y q = absurd (true≢false (sym q))

    bury_note : (a : ℕ) → IsGoing o s.journal → MayNote l o r s.journal s.part (Bury a) → Noted l r c glue ((Bury a) ∷ []) (noted o r s (Bury a))
    bury_note a going h =
        let k = may (Bury a) h in
        let at = waiting_clause c sound r a lt k in
        let x : Cell = at.1.0 in
        let there : c.cell a ≡ Some x = at.1.1 in
        let n : ℕ = number_at (c.cell a) in
        let d : State = buried c r a in
        let e : Entry = deletion_of c r a in
        let p' : Part = buried_part a (length c.journal) e (c.part r) in
        let n_is : n ≡ x.number = ap number_at there in
        let entry : entry_of o r c.journal (c.part r) (Bury a) ≡ e = ap (λ (h' : ClauseAt). Del r h'.number) at.0 in
        let busy = sound.counts.waits a in
        let mine = below_at o.rings r (λ i. times_at a (c.part i).waiting) lt in
        let is_idle : x.count ≡ 0 = idle x.maker x.count (let z : idle_at (c.cell a) ≡ idle_at (Some x) = ap idle_at there in omega arith) in
        let is_open : x.maker ≡ None = opens x.maker (x.count) (let z : idle_at (c.cell a) ≡ idle_at (Some x) = ap idle_at there in omega arith) in
        record {
          core = d;
          runs = refl;
          glue' = glue;
          left = left_one o c (event.Bury r a) left (lt, writes going, k);
          places = record {
            rings = pl.rings;
            depth = pl.depth;
            limit = pl.limit;
            small = pl.small;
            words = λ b y. at_put c.cell a None (λ (q : Option Cell). q ≡ Some y → (room l o (c.journal ++ e ∷ [])).words y.number ≡ Some (range b (words_for (length y.lits)))) b
                (λ here is. absurd (none_some y is))
                (λ ne is. ap (λ (m : Room). m.words y.number) (room_next e) ∙ freed_else M n y.number (λ q. ne (sound.cells.own b a y x is there (q ∙ n_is))) ∙ pl.words b y is);
            only = λ k q h.
                (let was : M.words n ≡ Some (range a (words_for (length x.lits))) = ap M.words n_is ∙ pl.words a x there in
                let old = freed_some M n k q (range a (words_for (length x.lits))) was (ap (λ (m : Room). m.words k) (sym (room_next e)) ∙ h) in
                let t = pl.only k q old.1 in
                (t.0, put_else c.cell a None q.first (λ z. old.0 (sym t.2 ∙ ap (λ (y : Cell). y.number) (some_same t.0 x (sym t.1 ∙ ap c.cell z ∙ there)) ∙ sym n_is)) ∙ t.1, t.2));
            tiled = subst (IsTiled l) (sym (room_next e)) (freed_tiled l small M n (room_sound l small o c.journal) pl.tiled);
            vars = λ b y. at_put c.cell a None (λ (q : Option Cell). q ≡ Some y → InVars l y.lits) b
                (λ here is. absurd (none_some y is))
                (λ ne is. pl.vars b y is);
            starts = pl.starts;
            entries = entries_next e none_added;
            units = pl.units;
            few = pl.few;
            first = pl.first;
          };
          beside = record {
            opening = refl;
            granted = λ i. refl;
            slot = λ i. refl;
            drawn = refl;
            units = refl;
            numbers = refl;
            turn = refl;
            stop = refl;
            others = put_else c.part r p';
            open_cells = λ b y. at_put c.cell a None (λ (q : Option Cell). q ≡ Some y → y.maker ≡ None → c.cell b ≡ Some y) b
                (λ here is op. absurd (none_some y is))
                (λ ne is op. is);
            built = λ b i y is m. put_else c.cell a None b (λ q. absurd (none_some i (sym is_open ∙ ap (λ (z : Cell). z.maker) (some_same x y (sym there ∙ ap c.cell (sym q) ∙ is)) ∙ m))) ∙ is;
            counted = λ b y is m. put_else c.cell a None b (λ q. let z = ap (λ (k : Cell). k.count) (some_same x y (sym there ∙ ap c.cell (sym q) ∙ is)) in absurd (omega arith)) ∙ is;
            next = next_after o c.journal e;
            refused = still (e ∷ []) (writes going).going;
            glue_else = λ m low. refl;
          };
          sheet = record {
            journal = (λ i. sh.journal i ++ entry_of o r (sh.journal i) (sh.part i) (Bury a) ∷ []) ∙ ap (λ (y : Entry). c.journal ++ y ∷ []) entry;
            part = (λ i. noted_core o r (sh.journal i) (Bury a) (sh.part i)) ∙ ap (λ (y : Entry). buried_part a (length c.journal) y (c.part r)) entry ∙ sym (put_here c.part r p');
            held_glues = sh.held_glues;
            made_glues = sh.made_glues;
          };
        }
      where
        opens : (m : Option ℕ) (n : ℕ) → 0 < one_if (is_none m && (n == 0)) → m ≡ None
        opens None n h = refl
        opens (Some i) n h = absurd (omega arith)

        idle : (m : Option ℕ) (n : ℕ) → 0 < one_if (is_none m && (n == 0)) → n ≡ 0
        idle None zero h = refl
        idle None (suc n) h = let z : one_if (suc n == 0) ≡ 0 = ap one_if (ne_eqb (suc n) 0 (λ e. omega arith)) in absurd (omega arith)
        idle (Some i) n h = absurd (omega arith)

    one_note : (n : Note) → IsGoing o s.journal → MayNote l o r s.journal s.part n → Noted l r c glue (n ∷ []) (noted o r s n)
    one_note (Clause kind lits hints g a) going h = clause_note kind lits hints g a going h
    one_note (UnitNote kind lit hints) going h = unit_note kind lit hints going h
    one_note (Empty hints) going h = empty_note hints going h
    one_note Reduce going h = reduce_note going h
    one_note (Bury a) going h = bury_note a going h

  -- all notes of one turn, in order
  pub all_notes : (ns : List Note) (c : State) (glue : ℕ → ℕ) (s : Sheet) → Left c.opening c → Places l c → r < c.opening.rings → c.turn ≡ Some r → IsSheet c glue r s → AllNoted l c.opening r s ns
      → Noted l r c glue ns (sheet_after c.opening r s ns)
  all_notes [] c glue s left pl lt turn sh h = record { core = c; runs = refl; glue' = glue; left = left; places = pl; beside = beside_same r c glue; sheet = sh }
  all_notes (n ∷ ns) c glue s left pl lt turn sh h =
      let x : Noted l r c glue (n ∷ []) (noted c.opening r s n) = one_note c glue s left pl lt turn sh n h.0 h.1 in
      let d : State = x.core in
      let same : d.opening ≡ c.opening = x.beside.opening in
      let y : Noted l r d x.glue' ns (sheet_after d.opening r (noted c.opening r s n) ns) = all_notes ns d x.glue' (noted c.opening r s n) x.left x.places (subst (λ (q : CoreOpening). r < q.rings) (sym same) lt) (x.beside.turn ∙ turn) x.sheet
      (subst (λ (q : CoreOpening). AllNoted l q r (noted c.opening r s n) ns) (sym same) h.2) in
      record {
        core = y.core;
        runs = y.runs ∙ ap (λ (q : State). fold after q (map (event_of r) ns)) x.runs;
        glue' = y.glue';
        left = y.left;
        places = y.places;
        beside = beside_both r c d y.core glue x.glue' y.glue' x.beside y.beside;
        sheet = subst (λ (q : CoreOpening). IsSheet y.core y.glue' r (sheet_after q r (noted c.opening r s n) ns)) same y.sheet;
      }
