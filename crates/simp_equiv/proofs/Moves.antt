-- The steps of the program are those of the search.
use Rattle.std.proofs.Common.{◌≡◌, ℕ, zero, suc, ◌+◌, ◌*◌, ◌<◌, ◌≤◌, List, [], ◌∷◌, ◌++◌, length, get_or, reverse, take, refl, sym, ap, subst, ◌∙◌, inl, inr, ◌⊎◌, arith, length-append, map}
use Rattle.std.proofs.Math.ListN.{set}
use Rattle.std.specs.List.{slice_index, slice_index_or, count_by, sum_by}
use Rattle.std.proofs.lemmas.Bool.{cases_lt, cases_eq}
use Rattle.std.proofs.lemmas.List.{length-take-le, length-set, get_or-set_other, get_or-take}
use Rattle.std.proofs.lemmas.List.Sums.{sum_by-append}
use Rattle.simp_equiv.specs.Graphs.{targets, Edge, InRange, Connected, AreComponents}
use Rattle.simp_equiv.specs.Searches.{mark_in, stack_in, is_new, left_of, most_left, work_left, Searching, IsSearch, ClosedTo, first_frame}
use Rattle.simp_equiv.specs.States.{IsSearching, frames_of, Onward, IsStep, IsExplored, number_of}
use Rattle.simp_equiv.specs.declared.components.Mark.{Mark}
use Rattle.simp_equiv.specs.declared.components.Mark.TheVariants.{New, Open, Closed}
use Rattle.simp_equiv.specs.declared.components.StackFrame.{StackFrame}
use Rattle.simp_equiv.specs.declared.components.Search.{Search}
use Rattle.simp_equiv.proofs.Steps.{ClosedFrom, taken_on, with_low, start_root, meet_new, meet_open, meet_closed, finish_into, close_component, connected_same, same_connected}
use Rattle.simp_equiv.proofs.Lists.{reverse_last, set_same, open_in_range, grown_lists, count_opened, count_alike, targets_few, closed_lists, count_closed}

-- what a step shows of the four parts after it
record Made (G : List (List ℕ)) (before marks : List Mark) (stack : List ℕ) (fs : List StackFrame) (closed work : ℕ) : Type 0 where
  search : IsSearch G marks stack fs closed
  falls : work_left G marks fs < work
  onward : Onward before marks

as_step : (G : List (List ℕ)) (old new : Search) (fs gs : List StackFrame) (marks : List Mark) (stack : List ℕ) (closed : ℕ)
    → Made G old.marks.items marks stack gs closed (work_left G old.marks.items fs)
    → new.marks.items ≡ marks → new.stack.items ≡ stack → frames_of new ≡ gs → new.closed ≡ closed → IsStep G old new fs
as_step G old new fs gs marks stack closed made e f g h =
    let m : Made G old.marks.items new.marks.items new.stack.items (frames_of new) new.closed (work_left G old.marks.items fs) =
    subst (λ (x : List Mark). Made G old.marks.items x new.stack.items (frames_of new) new.closed (work_left G old.marks.items fs)) (sym e)
    (subst (λ (x : List ℕ). Made G old.marks.items marks x (frames_of new) new.closed (work_left G old.marks.items fs)) (sym f)
    (subst (λ (x : List StackFrame). Made G old.marks.items marks stack x new.closed (work_left G old.marks.items fs)) (sym g)
    (subst (λ (x : ℕ). Made G old.marks.items marks stack gs x (work_left G old.marks.items fs)) (sym h) made))) in
    record { searching = m.search; falls = m.falls; onward = m.onward }

sum_cons : {X : Type 0} (f : X → ℕ) (x : X) (xs : List X) → sum_by f (x ∷ xs) ≡ f x + sum_by f xs
sum_cons f x xs = let e : sum_by f ((x ∷ []) ++ xs) ≡ (0 + f x) + sum_by f xs = sum_by-append f (x ∷ []) xs in omega (arith, e)

onward_set : (marks : List Mark) (v p : ℕ) → v < length marks → Onward marks (set marks v (Open p))
onward_set marks v p h w e =
    elim (cases_eq w v) as (λ _. mark_in marks w ≡ New) [
      | inl s ↦ (let x : Open p ≡ New = sym (set_same marks v (Open p) New h) ∙ ap (mark_in (set marks v (Open p))) (sym s) ∙ e in absurd (cc))
      | inr ne ↦ sym (get_or-set_other marks v w (Open p) New ne) ∙ e
    ]

last_longer : (stack : List ℕ) (v : ℕ) → length (stack ++ v ∷ []) ≡ length stack + 1
last_longer stack v = length-append stack (v ∷ [])

work_opened : (c d k a b l r S : ℕ) → d + 1 ≡ c → a < k → b + 1 ≤ l → r ≡ a + (b + S) → d * k + r < c * k + (l + S)
work_opened c d k a b l r S e lt le q =
    let m : c * k ≡ (d + 1) * k = ap (λ n. n * k) (sym e) in
    omega (arith, m)

opened : (G : List (List ℕ)) (marks : List Mark) (stack : List ℕ) (f : StackFrame) (fs : List StackFrame) (closed v : ℕ) → IsSearch G marks stack (f ∷ fs) closed
    → f.next < length (targets G f.node) → v ≡ slice_index_or (targets G f.node) f.next v → v < length marks → mark_in marks v ≡ New
    → Made G marks (set marks v (Open (length stack))) (stack ++ v ∷ []) (first_frame v (length stack) ∷ taken_on f f.low ∷ fs) closed (work_left G marks (f ∷ fs))
opened G marks stack f fs closed v s more here lt fresh =
    let c = count_opened marks v (length stack) lt fresh in
    let long = last_longer stack v in
    record {
      search = record {
        sized = length-set marks v (Open (length stack)) ∙ s.sized;
        room = let r = s.room in omega (arith, c, long);
        searching = subst (λ (n : ℕ). Searching G (mark_in (set marks v (Open (length stack)))) (stack_in (stack ++ v ∷ [])) n (first_frame v (length stack) ∷ taken_on f f.low ∷ fs) closed) (sym long)
            (meet_new G (mark_in marks) (mark_in (set marks v (Open (length stack)))) (stack_in stack) (stack_in (stack ++ v ∷ [])) (length stack) v f fs closed
            (grown_lists marks stack v fresh lt) s.searching more here);
      };
      falls =
          let few = targets_few G v in
          let one = sum_cons (left_of G) (first_frame v (length stack)) (taken_on f f.low ∷ fs) in
          let two = sum_cons (left_of G) (taken_on f f.low) fs in
          let was = sum_cons (left_of G) f fs in
          subst (λ (n : ℕ). work_left G (set marks v (Open (length stack))) (first_frame v (length stack) ∷ taken_on f f.low ∷ fs) < count_by is_new marks * most_left G + n) (sym was)
          (work_opened (count_by is_new marks) (count_by is_new (set marks v (Open (length stack)))) (most_left G)
          (left_of G (first_frame v (length stack))) (left_of G (taken_on f f.low)) (left_of G f) (sum_by (left_of G) (first_frame v (length stack) ∷ taken_on f f.low ∷ fs)) (sum_by (left_of G) fs)
          c (omega (arith, few)) (omega arith) (omega (arith, one, two)));
      onward = onward_set marks v (length stack) lt;
    }

-- an edge to a new node
pub step_new : (G : List (List ℕ)) (old new : Search) (f : StackFrame) (v : ℕ) → IsSearching G old (f ∷ frames_of old)
    → f.next < length (targets G f.node) → v ≡ slice_index_or (targets G f.node) f.next v → v < length old.marks.items → mark_in old.marks.items v ≡ New
    → new.marks.items ≡ set old.marks.items v (Open (length old.stack.items)) → new.stack.items ≡ old.stack.items ++ v ∷ []
    → new.frames.items ≡ (old.frames.items ++ taken_on f f.low ∷ []) ++ first_frame v (length old.stack.items) ∷ [] → new.closed ≡ old.closed
    → IsStep G old new (f ∷ frames_of old)
step_new G old new f v s more here lt fresh e g h k =
    as_step G old new (f ∷ frames_of old) _ _ _ _ (opened G old.marks.items old.stack.items f (frames_of old) old.closed v s more here lt fresh) e g
    (ap reverse h ∙ reverse_last (old.frames.items ++ taken_on f f.low ∷ []) (first_frame v (length old.stack.items))
    ∙ ap (λ (x : List StackFrame). first_frame v (length old.stack.items) ∷ x) (reverse_last old.frames.items (taken_on f f.low))) k

-- an edge to another node
retaken : (G : List (List ℕ)) (marks : List Mark) (stack : List ℕ) (f : StackFrame) (fs : List StackFrame) (closed low : ℕ) → IsSearch G marks stack (f ∷ fs) closed
    → f.next < length (targets G f.node) → Searching G (mark_in marks) (stack_in stack) (length stack) (taken_on f low ∷ fs) closed
    → Made G marks marks stack (taken_on f low ∷ fs) closed (work_left G marks (f ∷ fs))
retaken G marks stack f fs closed low s more after = record {
  search = record { sized = s.sized; room = s.room; searching = after };
  falls =
      let one = sum_cons (left_of G) (taken_on f low) fs in
      let was = sum_cons (left_of G) f fs in
      let less : left_of G (taken_on f low) < left_of G f = omega arith in
      omega (arith, one, was, less);
  onward = λ v e. e;
}

pub step_open : (G : List (List ℕ)) (old new : Search) (f : StackFrame) (v q low : ℕ) → IsSearching G old (f ∷ frames_of old)
    → f.next < length (targets G f.node) → v ≡ slice_index_or (targets G f.node) f.next v → mark_in old.marks.items v ≡ Open q
    → low ≤ f.low → low ≤ q → (low ≡ f.low) ⊎ (low ≡ q)
    → new.marks.items ≡ old.marks.items → new.stack.items ≡ old.stack.items
    → new.frames.items ≡ old.frames.items ++ taken_on f low ∷ [] → new.closed ≡ old.closed
    → IsStep G old new (f ∷ frames_of old)
step_open G old new f v q low s more here marked le le_q which e g h k =
    as_step G old new (f ∷ frames_of old) _ _ _ _
    (retaken G old.marks.items old.stack.items f (frames_of old) old.closed low s more
    (meet_open G (mark_in old.marks.items) (stack_in old.stack.items) (length old.stack.items) v q f (frames_of old) old.closed s.searching more here marked low le le_q which)) e g
    (ap reverse h ∙ reverse_last old.frames.items (taken_on f low)) k

pub step_closed : (G : List (List ℕ)) (old new : Search) (f : StackFrame) (v d : ℕ) → IsSearching G old (f ∷ frames_of old)
    → f.next < length (targets G f.node) → v ≡ slice_index_or (targets G f.node) f.next v → mark_in old.marks.items v ≡ Closed d
    → new.marks.items ≡ old.marks.items → new.stack.items ≡ old.stack.items
    → new.frames.items ≡ old.frames.items ++ taken_on f f.low ∷ [] → new.closed ≡ old.closed
    → IsStep G old new (f ∷ frames_of old)
step_closed G old new f v d s more here marked e g h k =
    as_step G old new (f ∷ frames_of old) _ _ _ _
    (retaken G old.marks.items old.stack.items f (frames_of old) old.closed f.low s more
    (meet_closed G (mark_in old.marks.items) (stack_in old.stack.items) (length old.stack.items) v d f (frames_of old) old.closed s.searching here marked)) e g
    (ap reverse h ∙ reverse_last old.frames.items (taken_on f f.low)) k

-- a frame that ends below another
finished : (G : List (List ℕ)) (marks : List Mark) (stack : List ℕ) (f b : StackFrame) (fs : List StackFrame) (closed low : ℕ) → IsSearch G marks stack (f ∷ b ∷ fs) closed
    → length (targets G f.node) ≤ f.next → f.low < f.place → low ≤ b.low → low ≤ f.low → (low ≡ b.low) ⊎ (low ≡ f.low)
    → Made G marks marks stack (with_low b low ∷ fs) closed (work_left G marks (f ∷ b ∷ fs))
finished G marks stack f b fs closed low s over less le_b le_f which = record {
  search = record {
    sized = s.sized;
    room = s.room;
    searching = finish_into G (mark_in marks) (stack_in stack) (length stack) f b fs closed s.searching over less low le_b le_f which;
  };
  falls =
      let one = sum_cons (left_of G) (with_low b low) fs in
      let was = sum_cons (left_of G) f (b ∷ fs) in
      let was_b = sum_cons (left_of G) b fs in
      omega (arith, one, was, was_b);
  onward = λ v e. e;
}

pub step_finish : (G : List (List ℕ)) (old new : Search) (f b : StackFrame) (rest : List StackFrame) (low : ℕ) → IsSearching G old (f ∷ frames_of old)
    → old.frames.items ≡ rest ++ b ∷ []
    → length (targets G f.node) ≤ f.next → f.low < f.place → low ≤ b.low → low ≤ f.low → (low ≡ b.low) ⊎ (low ≡ f.low)
    → new.marks.items ≡ old.marks.items → new.stack.items ≡ old.stack.items
    → new.frames.items ≡ rest ++ with_low b low ∷ [] → new.closed ≡ old.closed
    → IsStep G old new (f ∷ frames_of old)
step_finish G old new f b rest low s was over less le_b le_f which e g h k =
    let back : frames_of old ≡ b ∷ reverse rest = ap reverse was ∙ reverse_last rest b in
    let t : IsSearching G old (f ∷ b ∷ reverse rest) = subst (λ (x : List StackFrame). IsSearching G old (f ∷ x)) back s in
    subst (λ (x : List StackFrame). IsStep G old new (f ∷ x)) (sym back)
    (as_step G old new (f ∷ b ∷ reverse rest) _ _ _ _ (finished G old.marks.items old.stack.items f b (reverse rest) old.closed low t over less le_b le_f which) e g
    (ap reverse h ∙ reverse_last rest (with_low b low)) k)

-- if no frame is left the low place is the frame's own
pub lowest : (G : List (List ℕ)) (s : Search) (f : StackFrame) → IsSearching G s (f ∷ []) → f.low < f.place → ⊥
lowest G s f h lt = let e : f.place ≡ 0 = h.searching.governed.1 in omega arith

-- a component is closed
pub step_close : (G : List (List ℕ)) (old new : Search) (f : StackFrame) → IsSearching G old (f ∷ frames_of old)
    → length (targets G f.node) ≤ f.next → f.place ≤ f.low
    → ClosedTo old.stack.items old.marks.items new.marks.items old.closed f.place → new.stack.items ≡ take f.place old.stack.items
    → new.frames.items ≡ old.frames.items → new.closed ≡ old.closed + 1
    → IsStep G old new (f ∷ frames_of old)
step_close G old new f s over high k g h n =
    let c = closed_lists G old.marks.items new.marks.items old.stack.items (f ∷ frames_of old) old.closed f.place k s.searching in
    let count : count_by is_new new.marks.items ≡ count_by is_new old.marks.items = count_alike new.marks.items old.marks.items k.sized (count_closed (mark_in old.marks.items) (mark_in new.marks.items) f.place old.closed c) in
    let within : f.place < length old.stack.items = s.searching.governed.0.within in
    let height : length (take f.place old.stack.items) ≡ f.place = length-take-le f.place old.stack.items (omega arith) in
    let room = s.room in
    as_step G old new (f ∷ frames_of old) (frames_of old) new.marks.items (take f.place old.stack.items) (old.closed + 1)
    (record {
      search = record {
        sized = k.sized ∙ s.sized;
        room = omega (arith, count, height);
        searching = subst (λ (x : ℕ). Searching G (mark_in new.marks.items) (stack_in (take f.place old.stack.items)) x (frames_of old) (old.closed + 1)) (sym height)
            (close_component G (mark_in old.marks.items) (mark_in new.marks.items) (stack_in old.stack.items) (stack_in (take f.place old.stack.items)) (length old.stack.items) f (frames_of old) old.closed
            s.searching over high c (λ p lt. get_or-take f.place old.stack.items p 0 lt));
      };
      falls =
          let was = sum_cons (left_of G) f (frames_of old) in
          let same : count_by is_new new.marks.items * most_left G ≡ count_by is_new old.marks.items * most_left G = ap (λ x. x * most_left G) count in
          omega (arith, was, same);
      onward = λ v e. onward v e c;
    }) refl g (ap reverse h) n
  where
    onward : (v : ℕ) → mark_in new.marks.items v ≡ New → ClosedFrom (mark_in old.marks.items) (mark_in new.marks.items) f.place old.closed → mark_in old.marks.items v ≡ New
    onward v e c = by (mark_in old.marks.items v) refl
      where
        by : (x : Mark) → mark_in old.marks.items v ≡ x → mark_in old.marks.items v ≡ New
        by New p = p
        by (Closed d) p = let x : Closed d ≡ New = sym p ∙ sym (c.other v (λ q h. let y : Closed d ≡ Open q = sym p ∙ h in cc)) ∙ e in absurd (cc)
        by (Open q) p =
            elim (cases_lt q f.place) as (λ _. mark_in old.marks.items v ≡ New) [
              | inl lt ↦ (let x : Open q ≡ New = sym (c.kept v q p lt) ∙ e in absurd (cc))
              | inr ge ↦ (let x : Closed old.closed ≡ New = sym (c.above v q p ge) ∙ e in absurd (cc))
            ]

-- Ranges

pub target_in_range : (G : List (List ℕ)) (s : Search) (f : StackFrame) (fs : List StackFrame) (v : ℕ) → InRange G → IsSearching G s fs
    → f.next < length (targets G f.node) → v ≡ slice_index_or (targets G f.node) f.next v → v < length s.marks.items
target_in_range G s f fs v range h more here = let lt : v < length G = range f.node v (f.next, more, sym here) in let e = h.sized in omega arith

pub frame_in_range : (G : List (List ℕ)) (s : Search) (f : StackFrame) (fs : List StackFrame) → IsSearching G s (f ∷ fs) → f.node < length G
frame_in_range G s f fs h =
    let c = h.searching.governed.0 in
    let e : mark_in s.marks.items f.node ≡ Open f.place = ap (mark_in s.marks.items) (sym c.here) ∙ h.searching.marked f.place c.within in
    let lt : f.node < length s.marks.items = open_in_range s.marks.items f.node f.place e in
    let z = h.sized in omega arith

pub stack_in_range : (G : List (List ℕ)) (s : Search) (fs : List StackFrame) → IsSearching G s fs → (p : ℕ) → p < length s.stack.items → slice_index_or s.stack.items p 0 < length s.marks.items
stack_in_range G s fs h p lt = open_in_range s.marks.items (stack_in s.stack.items p) p (h.searching.marked p lt)

-- the mark that was read
pub mark_read : (marks : List Mark) (v : ℕ) (m : Mark) → v < length marks → m ≡ get_or marks v m → mark_in marks v ≡ m
mark_read [] v m h e = absurd (omega arith)
mark_read (x ∷ marks) zero m h e = sym e
mark_read (x ∷ marks) (suc v) m h e = mark_read marks v m (omega arith) e

-- a root
pub root_opened : (G : List (List ℕ)) (old new : Search) (v : ℕ) → IsSearching G old [] → old.frames.items ≡ [] → v < length old.marks.items → mark_in old.marks.items v ≡ New
    → new.marks.items ≡ set old.marks.items v (Open (length old.stack.items)) → new.stack.items ≡ old.stack.items ++ v ∷ []
    → new.frames.items ≡ old.frames.items ++ first_frame v (length old.stack.items) ∷ [] → new.closed ≡ old.closed
    → IsSearching G new (frames_of new)
root_opened G old new v s none lt fresh e g h k =
    (as_step G old new (v_frame ∷ []) _ _ _ _ made e g (ap reverse (h ∙ ap (λ (x : List StackFrame). x ++ v_frame ∷ []) none)) k).searching
  where
    v_frame : StackFrame
    v_frame = first_frame v (length old.stack.items)

    made : Made G old.marks.items (set old.marks.items v (Open (length old.stack.items))) (old.stack.items ++ v ∷ []) (first_frame v (length old.stack.items) ∷ []) old.closed (work_left G old.marks.items (first_frame v (length old.stack.items) ∷ []))
    made =
        let c = count_opened old.marks.items v (length old.stack.items) lt fresh in
        let long = last_longer old.stack.items v in
        record {
          search = record {
            sized = length-set old.marks.items v (Open (length old.stack.items)) ∙ s.sized;
            room = let r = s.room in omega (arith, c, long);
            searching = subst (λ (n : ℕ). Searching G (mark_in (set old.marks.items v (Open (length old.stack.items)))) (stack_in (old.stack.items ++ v ∷ [])) n (first_frame v (length old.stack.items) ∷ []) old.closed) (sym long)
                (start_root G (mark_in old.marks.items) (mark_in (set old.marks.items v (Open (length old.stack.items)))) (stack_in old.stack.items) (stack_in (old.stack.items ++ v ∷ [])) (length old.stack.items) v old.closed
                (grown_lists old.marks.items old.stack.items v fresh lt) s.searching);
          };
          falls =
              let m : count_by is_new old.marks.items * most_left G ≡ (count_by is_new (set old.marks.items v (Open (length old.stack.items))) + 1) * most_left G = ap (λ x. x * most_left G) (sym c) in
              omega (arith, m);
          onward = onward_set old.marks.items v (length old.stack.items) lt;
        }

-- no frame is left
pub explored : (G : List (List ℕ)) (old new : Search) → IsSearching G new (frames_of new) → new.frames.items ≡ [] → Onward old.marks.items new.marks.items → IsExplored G old new
explored G old new s none on = record {
  searching = subst (λ (x : List StackFrame). IsSearching G new x) (ap reverse none) s;
  empty = none;
  onward = on;
}

-- The end

number_at : (marks : List Mark) (k : ℕ) → slice_index (map number_of marks) k ≡ number_of (mark_in marks k)
number_at [] k = refl
number_at (m ∷ marks) zero = refl
number_at (m ∷ marks) (suc k) = number_at marks k

length_mapped : (marks : List Mark) → length (map number_of marks) ≡ length marks
length_mapped [] = refl
length_mapped (m ∷ marks) = ap suc (length_mapped marks)

pub all_numbered : (G : List (List ℕ)) (s : Search) (numbers : List ℕ) → IsSearching G s [] → ((v : ℕ) → v < length G → mark_in s.marks.items v ≡ New → ⊥)
    → numbers ≡ map number_of s.marks.items → AreComponents G numbers
all_numbered G s numbers h met e = record {
  each = ap length e ∙ length_mapped s.marks.items ∙ h.sized;
  few = λ k lt. let t = closed k lt in let e = read k t.0 t.1 in let b : t.0 < s.closed = h.searching.numbered k t.0 t.1 in let r = h.room in omega (arith, e, b, r);
  connected = λ k l kr lr. (λ q. to k l (closed k kr) (closed l lr) q, λ r. from k l (closed k kr) (closed l lr) r);
}
  where
    none : length s.stack.items ≡ 0
    none = h.searching.governed

    last : Searching G (mark_in s.marks.items) (stack_in s.stack.items) 0 [] s.closed
    last = subst (λ (n : ℕ). Searching G (mark_in s.marks.items) (stack_in s.stack.items) n [] s.closed) none h.searching

    closed : (v : ℕ) → v < length G → (c : ℕ) × (mark_in s.marks.items v ≡ Closed c)
    closed v lt = by (mark_in s.marks.items v) refl
      where
        by : (m : Mark) → mark_in s.marks.items v ≡ m → (c : ℕ) × (mark_in s.marks.items v ≡ Closed c)
        by New p = absurd (met v lt p)
        by (Closed c) p = (c, p)
        by (Open q) p = let t = (last.placed v q p).0 in absurd (omega arith)

    read : (v c : ℕ) → mark_in s.marks.items v ≡ Closed c → slice_index numbers v ≡ c
    read v c p = ap (λ (x : List ℕ). slice_index x v) e ∙ number_at s.marks.items v ∙ ap number_of p

    to : (k l : ℕ) → (c : ℕ) × (mark_in s.marks.items k ≡ Closed c) → (d : ℕ) × (mark_in s.marks.items l ≡ Closed d) → slice_index numbers k ≡ slice_index numbers l → Connected (Edge G) k l
    to k l a b q =
        let same : b.0 ≡ a.0 = sym (read l b.0 b.1) ∙ sym q ∙ read k a.0 a.1 in
        same_connected G (mark_in s.marks.items) (stack_in s.stack.items) s.closed last k l a.0 a.1 (b.1 ∙ ap Closed same)

    from : (k l : ℕ) → (c : ℕ) × (mark_in s.marks.items k ≡ Closed c) → (d : ℕ) × (mark_in s.marks.items l ≡ Closed d) → Connected (Edge G) k l → slice_index numbers k ≡ slice_index numbers l
    from k l a b r =
        read k a.0 a.1 ∙ connected_same G (mark_in s.marks.items) (stack_in s.stack.items) s.closed last k l a.0 b.0 a.1 b.1 r ∙ sym (read l b.0 b.1)
