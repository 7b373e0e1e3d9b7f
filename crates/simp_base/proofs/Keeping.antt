-- What is kept of a work.
use Rattle.std.proofs.Common.{◌≡◌, ◌≢◌, ℕ, zero, suc, ◌+◌, ◌<◌, ◌≤◌, Bool, true, false, List, [], ◌∷◌, ◌++◌, length, get_or, refl, sym, ap, ◌∙◌, subst, inl, inr, arith}
use Rattle.std.specs.List.{All, Contains}
use Rattle.std.proofs.lemmas.List.{get_or_default}
use Rattle.std.proofs.lemmas.List.Elements.{All-append}
use Rattle.sat_words.specs.Literal.{Literal, same}
use Rattle.sat_words.specs.Clause.{has, is_empty, clause_of, distinct_lits, two_or_more}
use Rattle.std.proofs.Common.{◌||◌, not}
use Rattle.std.specs.List.{list_any}
use Rattle.std.proofs.lemmas.Bool.{false≢true, and_parts, and_from, or_parts, or_left, or_right, cases_Bool}
use Rattle.std.proofs.lemmas.List.Folds.{list_any-append}
use Rattle.sat_words.proofs.Members.{same-true, same-refl}
use Rattle.std.specs.Prelude.{Result, Ok, Err}
use Rattle.drat_text.specs.declared.stop.LineStop.{LineStop}
use Rattle.drat_text.specs.declared.stop.LineStop.TheVariants.{ProofFault, Full, Memory}
use Rattle.rup_model.specs.NumberedLines.{NumberedLine}
use Rattle.sat_words.proofs.Insertion.{same_set-clause_of}
use Rattle.rup_model.proofs.Lists.{In_has, has_In, In_any, any_In, In_map, map_In, In_Contains, Contains_In}
use Rattle.rup_model.proofs.Covers.{has_same, same_back}
use Rattle.model_stack.specs.declared.stack.Fix.{Fix}
use Rattle.drat_text.specs.LineState.{LineState}
use Rattle.drat_text.specs.LineOut.{PutLine, WasPut, added_line, deleted_line}
use Rattle.simp_base.specs.WorkState.{WorkState, IsWork, IsFixOn, HaveOwnNumbers, lists, is_only, is_alive_unit}
use Rattle.sat_words.specs.Literal.{IsOn}
use Rattle.simp_base.proofs.Lists.{All_In, In_All, one_All}
use Rattle.simp_base.specs.Tables.{RemovedNumber}
use Rattle.simp_base.specs.Calls.{AreHints, AddedLine, IsListed, NotPut, NotAdded, Deleted, WasAdded, WasAddedLine}
use Rattle.simp_base.proofs.Removal.{own_less, others_less, removed_All, removed_each, one_clause}

pub clause_of_on : (vars : ℕ) (lits : List Literal) → All (IsOn vars) lits → All (IsOn vars) (clause_of lits)
clause_of_on vars lits all =
    In_All (IsOn vars) (clause_of lits) (λ l i. All_In (IsOn vars) lits l all (has_In lits l (has_same (clause_of lits) lits l (same_back lits (clause_of lits) (same_set-clause_of lits)) (In_has (clause_of lits) l i))))

-- one number more, which is above those given
pub numbers_more : (cs : List (ℕ × List Literal)) (last number : ℕ) (c : List Literal) → HaveOwnNumbers cs → All (λ x. x.0 ≤ last) cs → last < number → HaveOwnNumbers (cs ++ (number, c) ∷ [])
numbers_more [] last number c own given lt i j d ij jl q = absurd (omega arith)
numbers_more (x ∷ cs) last number c own given lt zero zero d ij jl q = absurd (omega arith)
numbers_more (x ∷ cs) last number c own given lt (suc i) zero d ij jl q = absurd (omega arith)
numbers_more (x ∷ cs) last number c own given lt zero (suc j) d ij jl q = last_apart cs j jl (λ k kl. own zero (suc k) d (omega arith) (omega arith)) q
  where
    first_low : x.0 ≤ last
    first_low = given zero d (omega arith)

    last_apart : (ys : List (ℕ × List Literal)) (k : ℕ) → suc k < suc (length (ys ++ (number, c) ∷ [])) → ((m : ℕ) → m < length ys → x.0 ≢ (get_or ys m d).0) → x.0 ≡ (get_or (ys ++ (number, c) ∷ []) k d).0 → ⊥
    last_apart [] zero kl ne e = let f = first_low in omega arith
    last_apart [] (suc k) kl ne e = absurd (omega arith)
    last_apart (y ∷ ys) zero kl ne e = ne zero (omega arith) e
    last_apart (y ∷ ys) (suc k) kl ne e = last_apart ys k (omega arith) (λ m ml. ne (suc m) (omega arith)) e
numbers_more (x ∷ cs) last number c own given lt (suc i) (suc j) d ij jl q =
    numbers_more cs last number c (λ a b e ab bl. own (suc a) (suc b) e (omega arith) (omega arith)) (λ k e kl. given (suc k) e (omega arith)) lt i j d (omega arith) (omega arith) q

lists_more : (cs : List (ℕ × List Literal)) (number : ℕ) (c : List Literal) → lists (cs ++ (number, c) ∷ []) ≡ lists cs ++ c ∷ []
lists_more [] number c = refl
lists_more (x ∷ cs) number c = ap (λ ds. x.1 ∷ ds) (lists_more cs number c)

-- units whose clauses are held still are if one comes
units_more : (w : WorkState) (number : ℕ) (c : List Literal) → All (λ l. is_alive_unit w l ≡ true) w.units → All (λ l. is_alive_unit (record w { clauses = w.clauses ++ (number, c) ∷ [] }) l ≡ true) w.units
units_more w number c held k d lt =
    ap (list_any (is_only (get_or w.units k d))) (lists_more w.clauses number c)
    ∙ list_any-append (is_only (get_or w.units k d)) (lists w.clauses) (c ∷ []) ∙ or_left _ _ (held k d lt)

pub work_added : (w : WorkState) → IsWork w → (lits : List Literal) → All (IsOn w.vars) lits → (number : ℕ) (b : LineState) → AddedLine w.output b w.clauses lits number
    → (cs : List (ℕ × List Literal)) → cs ≡ w.clauses ++ (number, clause_of lits) ∷ [] → (en : Bool) → IsWork (record w { clauses = cs; ended = en; output = b })
work_added w kept lits on number b put cs is en =
    let last : b.last ≡ w.output.last + 1 = ap (λ (s : LineState). s.last) put.put.state in
    let given = put.given in
    subst (λ ds. IsWork (record w { clauses = ds; ended = en; output = b })) (sym is) (record {
      unheld = kept.unheld;
      numbers = numbers_more w.clauses w.output.last number (clause_of lits) kept.numbers kept.given (omega arith);
      given = All-append (λ x. x.0 ≤ b.last) w.clauses ((number, clause_of lits) ∷ []) (λ k d lt. let g = kept.given k d lt in omega arith) (one_All (λ x. x.0 ≤ b.last) (number, clause_of lits) (omega arith));
      clauses_on = subst (All (All (IsOn w.vars))) (sym (lists_more w.clauses number (clause_of lits))) (All-append (All (IsOn w.vars)) (lists w.clauses) (clause_of lits ∷ []) kept.clauses_on (one_All (All (IsOn w.vars)) (clause_of lits) (clause_of_on w.vars lits on)));
      units_on = kept.units_on;
      stack_on = kept.stack_on;
      distinct = kept.distinct;
      units_held = units_more w number (clause_of lits) kept.units_held;
    })

All_lists : (P : List Literal → Type 0) (cs : List (ℕ × List Literal)) → All P (lists cs) → All (λ x. P x.1) cs
All_lists P [] all k d lt = absurd (omega arith)
All_lists P (x ∷ cs) all zero d lt = all zero d.1 (omega arith)
All_lists P (x ∷ cs) all (suc k) d lt = All_lists P cs (λ m e ml. all (suc m) e (omega arith)) k d (omega arith)

lists_All : (P : List Literal → Type 0) (cs : List (ℕ × List Literal)) → All (λ x. P x.1) cs → All P (lists cs)
lists_All P [] all k d lt = absurd (omega arith)
lists_All P (x ∷ cs) all zero d lt = all zero (0, d) (omega arith)
lists_All P (x ∷ cs) all (suc k) d lt = lists_All P cs (λ m e ml. all (suc m) e (omega arith)) k d (omega arith)

pub only_told : (l : Literal) (c : List Literal) → is_only l c ≡ true → c ≡ l ∷ []
only_told l [] h = absurd (false≢true h)
only_told l (k ∷ []) h = ap (λ m. m ∷ []) (same-true k l h)
only_told l (k ∷ j ∷ c) h = absurd (false≢true h)

-- the clause of a unit still is held if one of two literals or more goes
pub unit_stays : (cells : List (ℕ × List Literal)) → HaveOwnNumbers cells → (number : ℕ) (c : List Literal) → Contains cells (number, c) → two_or_more c ≡ true → (cs : List (ℕ × List Literal)) → RemovedNumber cells cs number
    → (n : ℕ) (l : Literal) → Contains cells (n, l ∷ []) → Contains cs (n, l ∷ [])
unit_stays cells own number c alive two cs was n l there =
    let apart : n ≢ number = λ q. (
    let same_c = one_clause cells own number was.place was.removed.within was.here c alive in
    let same_u = one_clause cells own number was.place was.removed.within was.here (l ∷ []) (subst (λ (m : ℕ). Contains cells (m, l ∷ [])) q there) in
    let both = get_or_default cells was.place (number, l ∷ []) (number, c) was.removed.within in
    false≢true (ap two_or_more (ap (λ (x : ℕ × List Literal). x.1) (sym same_u ∙ both ∙ same_c)) ∙ two)) in
    (others_less cells cs was.place was.removed own number was.here n (l ∷ [])).1 (there, apart)

-- units whose clauses are held still are then
units_less : (w : WorkState) → IsWork w → (number : ℕ) (c : List Literal) → Contains w.clauses (number, c) → two_or_more c ≡ true → (cs : List (ℕ × List Literal)) → RemovedNumber w.clauses cs number
    → All (λ l. is_alive_unit w l ≡ true) w.units → All (λ l. is_alive_unit (record w { clauses = cs }) l ≡ true) w.units
units_less w kept number c alive two cs was held k d lt =
    let l = get_or w.units k d in
    let t = In_any (is_only l) (lists w.clauses) (held k d lt) in
    let u = map_In (λ (x : ℕ × List Literal). x.1) w.clauses t.0 t.1 in
    let one : u.0.1 ≡ l ∷ [] = u.2 ∙ only_told l t.0 t.2 in
    let there : Contains w.clauses (u.0.0, l ∷ []) = subst (λ (x : List Literal). Contains w.clauses (u.0.0, x)) one (In_Contains w.clauses u.0 u.1) in
    let left = unit_stays w.clauses kept.numbers number c alive two cs was u.0.0 l there in
    any_In (is_only l) (lists cs) (l ∷ []) (In_map (λ (x : ℕ × List Literal). x.1) cs (u.0.0, l ∷ []) (Contains_In cs (u.0.0, l ∷ []) left)) (same-refl l)

pub work_deleted : (w : WorkState) → IsWork w → (number : ℕ) (c d : List Literal) (b : LineState) → Contains w.clauses (number, c) → two_or_more c ≡ true → PutLine w.output b (deleted_line w.output number d)
    → (cs : List (ℕ × List Literal)) (gone : RemovedNumber w.clauses cs number) → IsWork (record w { clauses = cs; output = b })
work_deleted w kept number c d b alive two put cs was =
    let place = was.place in
    let gone = was.removed in
    let last : b.last ≡ w.output.last = ap (λ (s : LineState). s.last) put.state in
    record {
      unheld = kept.unheld;
      numbers = own_less w.clauses cs place gone kept.numbers;
      given = removed_All w.clauses cs place gone (λ x. x.0 ≤ b.last) (λ k d lt. let g = kept.given k d lt in omega arith);
      clauses_on = lists_All (All (IsOn w.vars)) cs (removed_All w.clauses cs place gone (λ x. All (IsOn w.vars) x.1) (All_lists (All (IsOn w.vars)) w.clauses kept.clauses_on));
      units_on = kept.units_on;
      stack_on = kept.stack_on;
      distinct = kept.distinct;
      units_held = units_less w kept number c alive two cs was kept.units_held;
    }

pub kept_not_put : (old new : WorkState) (x : NumberedLine) (stop : LineStop) → IsWork old → NotPut old new x stop → IsWork new
kept_not_put old new x ProofFault kept was =
    let last : new.output.last ≡ old.output.last = ap (λ (s : LineState). s.last) was.put.state in
    subst IsWork (sym was.state) (record {
      unheld = kept.unheld;
      numbers = kept.numbers;
      given = λ k d lt. (let g = kept.given k d lt in omega arith);
      clauses_on = kept.clauses_on;
      units_on = kept.units_on;
      stack_on = kept.stack_on;
      distinct = kept.distinct;
      units_held = kept.units_held;
    })
kept_not_put old new x Full kept was = subst IsWork (sym was.1) kept
kept_not_put old new x Memory kept was = subst IsWork (sym was) kept

-- an addition that does not stand is a line that does not
pub not_put_at : (old new : WorkState) (lits : List Literal) (stop : LineStop) → NotAdded old new lits stop → (hints : List ℕ) × NotPut old new (added_line old.output lits hints) stop
not_put_at old new lits ProofFault was = (was.0, was.2)
not_put_at old new lits Full was = ([], was)
not_put_at old new lits Memory was = ([], was)

-- if the output failed at the line, its hints are those that are wanted
pub hints_not_put : (old new : WorkState) (lits : List Literal) (stop : LineStop) (was : NotAdded old new lits stop) → stop ≡ ProofFault → AreHints old.output old.clauses lits (not_put_at old new lits stop was).0
unfolding not_put_at
hints_not_put old new lits ProofFault was is = was.1
hints_not_put old new lits Full was is = absurd (let no : ⊥ = cc in no)
hints_not_put old new lits Memory was is = absurd (let no : ⊥ = cc in no)

pub not_put_of : (w : WorkState) (b : LineState) (x : NumberedLine) (stop : LineStop) → WasPut {T = Unit {0}} w.output b x (Err stop) → NotPut w (record w { output = b }) x stop
not_put_of w b x ProofFault h = record { put = h; state = refl }
not_put_of w b x Full h = (h.full, ap (λ (s : LineState). record w { output = s }) h.state)
not_put_of w b x Memory h = ap (λ (s : LineState). record w { output = s }) h

-- after a line that does not stand the work is one, and the output has as many entries and the last number
pub kept_not_put_at : (w : WorkState) (b : LineState) (x : NumberedLine) (stop : LineStop) → IsWork w → WasPut {T = Unit {0}} w.output b x (Err stop)
    → IsWork (record w { output = b }) × (b.last ≡ w.output.last) × (b.entries ≡ w.output.entries)
kept_not_put_at w b x stop kept was = let same = counts stop was in (kept_not_put w (record w { output = b }) x stop kept (not_put_of w b x stop was), same.0, same.1)
  where
    counts : (k : LineStop) → WasPut {T = Unit {0}} w.output b x (Err k) → (b.last ≡ w.output.last) × (b.entries ≡ w.output.entries)
    counts ProofFault h = (ap (λ (s : LineState). s.last) h.state, ap (λ (s : LineState). s.entries) h.state)
    counts Full h = (ap (λ (s : LineState). s.last) h.state, ap (λ (s : LineState). s.entries) h.state)
    counts Memory h = (ap (λ (s : LineState). s.last) h, ap (λ (s : LineState). s.entries) h)

pub deleted_by : (w : WorkState) → IsWork w → (number : ℕ) (c : List Literal) → Contains w.clauses (number, c) → (cs : List (ℕ × List Literal)) → RemovedNumber w.clauses cs number
    → (b : LineState) → PutLine w.output b (deleted_line w.output number c) → Deleted w (record w { clauses = cs; output = b }) number
deleted_by w kept number c alive cs gone b put = record {
  clause = c;
  alive = alive;
  put = put;
  others = others_less w.clauses cs gone.place gone.removed kept.numbers number gone.here;
  each = removed_each w.clauses cs gone.place gone.removed number c (number, c) (one_clause w.clauses kept.numbers number gone.place gone.removed.within gone.here c alive);
  state = refl;
}

-- the work after a call

pub kept_after_add : (old new : WorkState) (lits : List Literal) (result : Result ℕ LineStop) → IsWork old → All (IsOn old.vars) lits → WasAdded old new lits result → IsWork new
kept_after_add old new lits (Ok number) kept on was = subst IsWork (sym was.state) (work_added old kept lits on number new.output was.line (old.clauses ++ (number, clause_of lits) ∷ []) refl (is_empty lits))
kept_after_add old new lits (Err stop) kept on was = let p = not_put_at old new lits stop was in kept_not_put old new (added_line old.output lits p.0) stop kept p.1

pub not_added_of : (w : WorkState) (b : LineState) (lits : List Literal) (stop : LineStop) → WasAddedLine w.output b w.clauses lits (Err stop) → NotAdded w (record w { output = b }) lits stop
not_added_of w b lits ProofFault h = (h.hints, h.fit, record { put = h.put; state = refl })
not_added_of w b lits Full h = (h.full, ap (λ (s : LineState). record w { output = s }) h.state)
not_added_of w b lits Memory h = ap (λ (s : LineState). record w { output = s }) h

-- after an addition that does not stand the work is one, and the output has as many entries and the last number
pub kept_not_added : (w : WorkState) (b : LineState) (lits : List Literal) (stop : LineStop) → IsWork w → WasAddedLine w.output b w.clauses lits (Err stop)
    → IsWork (record w { output = b }) × (b.last ≡ w.output.last) × (b.entries ≡ w.output.entries)
kept_not_added w b lits stop kept was =
    let p = not_put_at w (record w { output = b }) lits stop (not_added_of w b lits stop was) in
    let same = counts stop was in
    (kept_not_put w (record w { output = b }) (added_line w.output lits p.0) stop kept p.1, same.0, same.1)
  where
    counts : (k : LineStop) → WasAddedLine w.output b w.clauses lits (Err k) → (b.last ≡ w.output.last) × (b.entries ≡ w.output.entries)
    counts ProofFault h = (ap (λ (s : LineState). s.last) h.put.state, ap (λ (s : LineState). s.entries) h.put.state)
    counts Full h = (ap (λ (s : LineState). s.last) h.state, ap (λ (s : LineState). s.entries) h.state)
    counts Memory h = (ap (λ (s : LineState). s.last) h, ap (λ (s : LineState). s.entries) h)

any_lists : (p : List Literal → Bool) (cs : List (ℕ × List Literal)) → list_any (λ c. p c.1) cs ≡ list_any p (lists cs)
any_lists p [] = refl
any_lists p (c ∷ cs) = ap (λ b. p c.1 || b) (any_lists p cs)

pub unit_is_alive : (l : Literal) (cs : List (ℕ × List Literal)) → list_any (λ c. is_only l c.1) cs ≡ list_any (is_only l) (lists cs)
unit_is_alive l cs = any_lists (is_only l) cs

-- one unit more is listed
not_true : (b : Bool) → not b ≡ true → b ≡ false
not_true true h = absurd (false≢true h)
not_true false h = refl

has_more : (us : List Literal) (l k : Literal) → has us k ≡ false → same k l ≡ false → has (us ++ l ∷ []) k ≡ false
has_more [] l k h e = ap (λ b. b || false) e
has_more (u ∷ us) l k h e = let p = or_parts (same k u) (has us k) h in or_neither _ _ p.0 (has_more us l k p.1 e)
  where
    or_neither : (a b : Bool) → a ≡ false → b ≡ false → (a || b) ≡ false
    or_neither a b f g = ap (λ x. x || b) f ∙ g

same_sym : (a b : Literal) → same b a ≡ false → same a b ≡ false
same_sym a b f = elim (cases_Bool (same a b)) as (λ _. same a b ≡ false) [ inl t ↦ absurd (false≢true (sym f ∙ ap (λ (x : Literal). same x a) (sym (same-true a b t)) ∙ same-refl a)) | inr g ↦ g ]

distinct_more : (us : List Literal) (l : Literal) → distinct_lits us ≡ true → has us l ≡ false → distinct_lits (us ++ l ∷ []) ≡ true
distinct_more [] l d n = refl
distinct_more (k ∷ us) l d n =
    let parts = and_parts (not (has us k)) (distinct_lits us) d in
    let away = or_parts (same l k) (has us l) n in
    and_from _ _ (ap not (has_more us l k (not_true (has us k) parts.0) (same_sym k l away.0))) (distinct_more us l parts.1 away.1)

pub work_listed : (w : WorkState) → IsWork w → (l : Literal) → IsOn w.vars l → has w.units l ≡ false → is_alive_unit w l ≡ true → (us : List Literal) → us ≡ w.units ++ l ∷ [] → IsWork (record w { units = us })
work_listed w kept l on new alive us is = subst (λ ks. IsWork (record w { units = ks })) (sym is) (record {
  unheld = kept.unheld;
  numbers = kept.numbers;
  given = kept.given;
  clauses_on = kept.clauses_on;
  units_on = All-append (IsOn w.vars) w.units (l ∷ []) kept.units_on (one_All (IsOn w.vars) l on);
  stack_on = kept.stack_on;
  distinct = distinct_more w.units l kept.distinct new;
  units_held = All-append (λ k. is_alive_unit w k ≡ true) w.units (l ∷ []) kept.units_held (one_All (λ k. is_alive_unit w k ≡ true) l alive);
})

pub listed_silent : (w : WorkState) (l : Literal) (us : List Literal) → has w.units l ≡ false → is_alive_unit w l ≡ true → us ≡ w.units ++ l ∷ [] → IsListed (has w.units l) (is_alive_unit w l) w (record w { units = us }) l
listed_silent w l us new alive is =
    subst (λ b. IsListed b (is_alive_unit w l) w (record w { units = us }) l) (sym new)
    (subst (λ b. IsListed false b w (record w { units = us }) l) (sym alive) (ap (λ (ks : List Literal). record w { units = ks }) is))

pub listed_line : (w : WorkState) (l : Literal) (b : LineState) (number : ℕ) (cs : List (ℕ × List Literal)) (us : List Literal) → has w.units l ≡ false → is_alive_unit w l ≡ false → AddedLine w.output b w.clauses (l ∷ []) number
    → cs ≡ w.clauses ++ (number, l ∷ []) ∷ [] → us ≡ w.units ++ l ∷ [] → IsListed (has w.units l) (is_alive_unit w l) w (record w { clauses = cs; units = us; output = b }) l
listed_line w l b number cs us new none put cis is =
    subst (λ x. IsListed x (is_alive_unit w l) w (record w { clauses = cs; units = us; output = b }) l) (sym new)
    (subst (λ x. IsListed false x w (record w { clauses = cs; units = us; output = b }) l) (sym none) (record {
      number = number;
      line = put;
      state = λ i. record w { clauses = cis i; units = is i; output = b };
    }))

pub work_listed_line : (w : WorkState) → IsWork w → (l : Literal) → IsOn w.vars l → (b : LineState) (number : ℕ) (cs : List (ℕ × List Literal)) (us : List Literal) → has w.units l ≡ false → AddedLine w.output b w.clauses (l ∷ []) number
    → cs ≡ w.clauses ++ (number, l ∷ []) ∷ [] → us ≡ w.units ++ l ∷ [] → IsWork (record w { clauses = cs; units = us; output = b })
work_listed_line w kept l on b number cs us new put cis is =
    work_listed (record w { clauses = cs; output = b })
    (work_added w kept (l ∷ []) (one_All (IsOn w.vars) l on) number b put cs cis w.ended)
    l on new
    (ap (λ ds. list_any (is_only l) (lists ds)) cis ∙ ap (list_any (is_only l)) (lists_more w.clauses number (l ∷ []))
    ∙ list_any-append (is_only l) (lists w.clauses) ((l ∷ []) ∷ []) ∙ or_right _ _ (or_left _ _ (same-refl l)))
    us is

-- one entry more on the stack
pub work_pushed : (w : WorkState) → IsWork w → (l : Literal) (c : List Literal) → has c l ≡ true → All (IsOn w.vars) c → (S : List Fix) → S ≡ w.stack ++ record { lit = l; clause = c } ∷ [] → IsWork (record w { stack = S })
work_pushed w kept l c holds on S is = subst (λ T. IsWork (record w { stack = T })) (sym is) (record {
  unheld = kept.unheld;
  numbers = kept.numbers;
  given = kept.given;
  clauses_on = kept.clauses_on;
  units_on = kept.units_on;
  stack_on = All-append (IsFixOn w.vars) w.stack (record { lit = l; clause = c } ∷ []) kept.stack_on (one_All (IsFixOn w.vars) (record { lit = l; clause = c }) (record { lit = All_In (IsOn w.vars) c l on (has_In c l holds); clause = on }));
  distinct = kept.distinct;
  units_held = kept.units_held;
})
