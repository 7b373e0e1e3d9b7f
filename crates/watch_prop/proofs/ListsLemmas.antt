-- Lists of places, one for each literal.
use Rattle.std.proofs.Common.{◌≡◌, ◌≢◌, ℕ, ◌<◌, ◌≤◌, ◌+◌, ◌-◌, ◌⊎◌, true, false, List, [], ◌∷◌, ◌++◌, length, get_or, take, nat_eq, map, sym, ap, subst, ◌∙◌, inl, inr, arith, Contains}
use Rattle.std.proofs.Math.ListN.{set}
use Rattle.std.specs.List.{swap_remove}
use Rattle.std.proofs.lemmas.Bool.{cases_Bool, cases_lt}
use Rattle.std.proofs.lemmas.Bool.Decides.{nat_tests}
use Rattle.std.proofs.lemmas.List.{length-set, get_or-set_same, get_or-set_other, length-take-le, get_or-take, get_or_default, take-take, take-set, take_more, map-set, get_or-map, set-get_or, length-take, length-map, map-append, take-map}
use Rattle.std.proofs.lemmas.List.Elements.{Contains-append_left, Contains-push, Contains-push_cases}
use Rattle.sat_words.specs.Literal.{Literal, code_of, literal_of}
use Rattle.sat_words.specs.Codes.{literal_of-code_of}
use Rattle.watch_prop.specs.declared.watch.Watcher.{Watcher}
use Rattle.watch_prop.specs.WatchData.{watchers_at, list_at}
use Rattle.watch_prop.specs.Lists.{Added, Removed, Reblocked}

test_true : (i j : ℕ) → nat_eq i j ≡ true → i ≡ j
test_true i j e = grind (arith, nat_tests)

test_false : (i j : ℕ) → nat_eq i j ≡ false → i ≢ j
test_false i j e = grind (arith, nat_tests)

pub cases_eq : (i j : ℕ) → (i ≡ j) ⊎ (i ≢ j)
cases_eq i j = elim (cases_Bool (nat_eq i j)) as (λ _. (i ≡ j) ⊎ (i ≢ j)) [ inl e ↦ inl (test_true i j e) | inr e ↦ inr (test_false i j e) ]

pub same_code : (m l : Literal) → code_of m ≡ code_of l → m ≡ l
same_code m l e = sym (literal_of-code_of m) ∙ ap literal_of e ∙ literal_of-code_of l

pub cases_lit : (m l : Literal) → (m ≡ l) ⊎ (m ≢ l)
cases_lit m l = elim (cases_eq (code_of m) (code_of l)) as (λ _. (m ≡ l) ⊎ (m ≢ l)) [ inl e ↦ inl (same_code m l e) | inr n ↦ inr (λ q. n (ap code_of q)) ]

abbrev slots_of : List Watcher → List ℕ
slots_of xs = map (λ (x : Watcher). x.slot) xs

watchers_same : (lists : List (List Watcher)) (l : Literal) (xs : List Watcher) → code_of l < length lists → watchers_at (set lists (code_of l) xs) l ≡ xs
watchers_same lists l xs lt = get_or-set_same lists (code_of l) xs [] lt

watchers_other : (lists : List (List Watcher)) (l m : Literal) (xs : List Watcher) → m ≢ l → watchers_at (set lists (code_of l) xs) m ≡ watchers_at lists m
watchers_other lists l m xs ne = get_or-set_other lists (code_of l) (code_of m) xs [] (λ q. ne (same_code m l q))

at_same : (lists : List (List Watcher)) (l : Literal) (xs : List Watcher) → code_of l < length lists → list_at (set lists (code_of l) xs) l ≡ slots_of xs
at_same lists l xs lt = ap slots_of (watchers_same lists l xs lt)

at_other : (lists : List (List Watcher)) (l m : Literal) (xs : List Watcher) → m ≢ l → list_at (set lists (code_of l) xs) m ≡ list_at lists m
at_other lists l m xs ne = ap slots_of (watchers_other lists l m xs ne)

-- a watcher of a list that was changed
changed : (lists : List (List Watcher)) (l m : Literal) (xs : List Watcher) (y : Watcher) → code_of l < length lists → Contains (watchers_at (set lists (code_of l) xs) m) y → ((m ≡ l) × Contains xs y) ⊎ Contains (watchers_at lists m) y
changed lists l m xs y lt h =
    elim (cases_lit m l) as (λ _. ((m ≡ l) × Contains xs y) ⊎ Contains (watchers_at lists m) y) [
      | inl e ↦ inl (e, subst (λ (ys : List Watcher). Contains ys y) (watchers_same lists l xs lt) (subst (λ (k : Literal). Contains (watchers_at (set lists (code_of l) xs) k) y) e h))
      | inr n ↦ inr (subst (λ (ys : List Watcher). Contains ys y) (watchers_other lists l m xs n) h)
    ]

pub Added-set : (lists : List (List Watcher)) (l : Literal) (x : Watcher) → code_of l < length lists → Added lists (set lists (code_of l) (watchers_at lists l ++ x ∷ [])) l x
Added-set lists l x lt =
    let xs = watchers_at lists l ++ x ∷ [] in
    let i = x.slot in
    let now : list_at (set lists (code_of l) xs) l ≡ list_at lists l ++ i ∷ [] = at_same lists l xs lt ∙ map-append (λ (y : Watcher). y.slot) (watchers_at lists l) (x ∷ []) in
    record {
      len = length-set lists (code_of l) xs;
      there = subst (λ (ys : List ℕ). Contains ys i) (sym now) (Contains-push (list_at lists l) i);
      kept = λ m j h.
          elim (cases_lit m l) as (λ _. Contains (list_at (set lists (code_of l) xs) m) j) [
            | inl e ↦ (
                let h' : Contains (list_at lists l) j = subst (λ (k : Literal). Contains (list_at lists k) j) e h in
                subst (λ (k : Literal). Contains (list_at (set lists (code_of l) xs) k) j) (sym e)
                (subst (λ (ys : List ℕ). Contains ys j) (sym now) (Contains-append_left (list_at lists l) (i ∷ []) j h')))
            | inr n ↦ subst (λ (ys : List ℕ). Contains ys j) (sym (at_other lists l m xs n)) h
          ];
      same = λ m n. at_other lists l m xs n;
      only = λ m y h. elim (changed lists l m xs y lt h) as (λ _. Contains (watchers_at lists m) y ⊎ (y ≡ x)) [
        | inl q ↦ elim (Contains-push_cases (watchers_at lists l) x y q.1) as (λ _. Contains (watchers_at lists m) y ⊎ (y ≡ x)) [
          | inl there ↦ inl (subst (λ (k : Literal). Contains (watchers_at lists k) y) (sym q.0) there)
          | inr e ↦ inr (sym e)
        ]
        | inr there ↦ inl there
      ];
    }

length-swap_remove : (xs : List ℕ) (p d : ℕ) → length (swap_remove xs p d) ≡ length xs - 1
length-swap_remove xs p d =
    let y = get_or xs (length xs - 1) d in
    length-take-le (length xs - 1) (set xs p y) (omega (arith, length-set xs p y))

kept-swap_remove : (xs : List ℕ) (p d : ℕ) → p < length xs → (j : ℕ) → Contains xs j → j ≢ get_or xs p 0 → Contains (swap_remove xs p d) j
kept-swap_remove xs p d lt j h ne =
    let n = length xs in
    let y = get_or xs (n - 1) d in
    let len = length-swap_remove xs p d in
    let apart : h.0 ≢ p = λ q. ne (sym h.2 ∙ ap (λ (k : ℕ). get_or xs k j) q ∙ get_or_default xs p j 0 lt) in
    elim (cases_lt h.0 (n - 1)) as (λ _. Contains (swap_remove xs p d) j) [
      | inl l ↦ (h.0, omega (arith, len), get_or-take (n - 1) (set xs p y) h.0 j l ∙ get_or-set_other xs p h.0 y j apart ∙ h.2)
      | inr g ↦ (
          let last : h.0 ≡ n - 1 = omega (arith, h.1) in
          let before : p < n - 1 = omega (arith, apart) in
          (p, omega (arith, len), get_or-take (n - 1) (set xs p y) p j before ∙ get_or-set_same xs p y j lt ∙ get_or_default xs (n - 1) d j (omega (arith, h.1)) ∙ ap (λ (k : ℕ). get_or xs k j) (sym last) ∙ h.2))
    ]

map-swap_remove : (xs : List Watcher) (p : ℕ) (d : Watcher) → p < length xs → slots_of (swap_remove xs p d) ≡ swap_remove (slots_of xs) p d.slot
map-swap_remove xs p d lt =
    let f : Watcher → ℕ = λ x. x.slot in
    let n = length-map xs f in
    let y = get_or xs (length xs - 1) d in
    sym (take-map f (length xs - 1) (set xs p y))
    ∙ ap (λ (zs : List ℕ). take (length xs - 1) zs) (map-set f xs p y ∙ ap (λ (k : ℕ). set (slots_of xs) p k) (sym (get_or-map f xs (length xs - 1) d d.slot (omega arith))))
    ∙ ap (λ (k : ℕ). take (k - 1) (set (slots_of xs) p (get_or (slots_of xs) (k - 1) d.slot))) (sym n)

-- what is left was there
left-swap_remove : (xs : List Watcher) (p : ℕ) (d y : Watcher) → p < length xs → Contains (swap_remove xs p d) y → Contains xs y
left-swap_remove xs p d y lt h =
    let z = get_or xs (length xs - 1) d in
    let n = length xs - 1 in
    let len : length (swap_remove xs p d) ≡ n = length-take-le n (set xs p z) (omega (arith, length-set xs p z)) in
    let small : h.0 < n = omega (arith, h.1, len) in
    let here : get_or (set xs p z) h.0 y ≡ y = sym (get_or-take n (set xs p z) h.0 y small) ∙ h.2 in
    elim (cases_eq h.0 p) as (λ _. Contains xs y) [
      | inl e ↦ (n, omega arith, get_or_default xs n y d (omega arith) ∙ sym (get_or-set_same xs p z y lt) ∙ ap (λ (k : ℕ). get_or (set xs p z) k y) (sym e) ∙ here)
      | inr ne ↦ (h.0, omega arith, sym (get_or-set_other xs p h.0 z y ne) ∙ here)
    ]

pub Removed-set : (lists : List (List Watcher)) (l : Literal) (p : ℕ) (d : Watcher) → code_of l < length lists → p < length (list_at lists l) → Removed lists (set lists (code_of l) (swap_remove (watchers_at lists l) p d)) l p
Removed-set lists l p d lt inside =
    let ws = watchers_at lists l in
    let ys = swap_remove ws p d in
    let xs = list_at lists l in
    let inside' : p < length ws = omega (arith, inside, length-map ws (λ (x : Watcher). x.slot)) in
    let now : list_at (set lists (code_of l) ys) l ≡ swap_remove xs p d.slot = at_same lists l ys lt ∙ map-swap_remove ws p d inside' in
    record {
      len = length-set lists (code_of l) ys;
      kept = λ j h ne. subst (λ (zs : List ℕ). Contains zs j) (sym now) (kept-swap_remove xs p d.slot inside j h ne);
      same = λ m n. at_other lists l m ys n;
      before = ap (λ (zs : List ℕ). take p zs) now ∙ take-take p (length xs - 1) (set xs p (get_or xs (length xs - 1) d.slot)) (omega arith) ∙ take-set xs p (get_or xs (length xs - 1) d.slot);
      only = λ m y h. elim (changed lists l m ys y lt h) as (λ _. Contains (watchers_at lists m) y) [
        | inl q ↦ subst (λ (k : Literal). Contains (watchers_at lists k) y) (sym q.0) (left-swap_remove ws p d y inside' q.1)
        | inr there ↦ there
      ];
    }

pub Reblocked-set : (lists : List (List Watcher)) (l : Literal) (p : ℕ) (x : Watcher) → code_of l < length lists → p < length (list_at lists l) → x.slot ≡ get_or (list_at lists l) p 0 → Reblocked lists (set lists (code_of l) (set (watchers_at lists l) p x)) l p x.blocker
Reblocked-set lists l p x lt inside e =
    let ws = watchers_at lists l in
    let ys = set ws p x in
    let f : Watcher → ℕ = λ y. y.slot in
    let inside' : p < length ws = omega (arith, inside, length-map ws f) in
    let now : list_at (set lists (code_of l) ys) l ≡ list_at lists l = at_same lists l ys lt ∙ map-set f ws p x ∙ ap (λ (n : ℕ). set (slots_of ws) p n) e ∙ set-get_or (slots_of ws) p 0 in
    record {
      len = length-set lists (code_of l) ys;
      same = λ m. elim (cases_lit m l) as (λ _. list_at (set lists (code_of l) ys) m ≡ list_at lists m) [
        | inl q ↦ subst (λ (k : Literal). list_at (set lists (code_of l) ys) k ≡ list_at lists k) (sym q) now
        | inr n ↦ at_other lists l m ys n
      ];
      only = λ m y h. elim (changed lists l m ys y lt h) as (λ _. Contains (watchers_at lists m) y ⊎ ((y.slot ≡ get_or (list_at lists l) p 0) × (y.blocker ≡ x.blocker))) [
        | inl q ↦ elim (cases_eq q.1.0 p) as (λ _. Contains (watchers_at lists m) y ⊎ ((y.slot ≡ get_or (list_at lists l) p 0) × (y.blocker ≡ x.blocker))) [
          | inl z ↦ (
              let is : x ≡ y = sym (get_or-set_same ws p x y inside') ∙ ap (λ (k : ℕ). get_or ys k y) (sym z) ∙ q.1.2 in
              inr (ap f (sym is) ∙ e, ap (λ (w : Watcher). w.blocker) (sym is)))
          | inr ne ↦ inl (subst (λ (k : Literal). Contains (watchers_at lists k) y) (sym q.0)
              (q.1.0, omega (arith, q.1.1, length-set ws p x), sym (get_or-set_other ws p q.1.0 x y ne) ∙ q.1.2))
        ]
        | inr there ↦ inl there
      ];
    }

-- what is listed stays listed, except for the entry that went
pub Listed-removed : (old new : List (List Watcher)) (l : Literal) (p : ℕ) (m : Literal) (i : ℕ) → Removed old new l p → Contains (list_at old m) i → (m ≡ l → i ≢ get_or (list_at old l) p 0) → Contains (list_at new m) i
Listed-removed old new l p m i r h ne =
    elim (cases_lit m l) as (λ _. Contains (list_at new m) i) [
      | inl e ↦ subst (λ (k : Literal). Contains (list_at new k) i) (sym e) (r.kept i (subst (λ (k : Literal). Contains (list_at old k) i) e h) (ne e))
      | inr n ↦ subst (λ (ys : List ℕ). Contains ys i) (sym (r.same m n)) h
    ]

pub take_split : (xs : List ℕ) (p i : ℕ) → p < length xs → Contains (take (p + 1) xs) i → Contains (take p xs) i ⊎ (get_or xs p 0 ≡ i)
take_split xs p i lt h = Contains-push_cases (take p xs) (get_or xs p 0) i (subst (λ (ys : List ℕ). Contains ys i) (take_more xs p 0 lt) h)

pub Removed-len : (old new : List (List Watcher)) (l : Literal) (p : ℕ) → p < length (list_at old l) → Removed old new l p → p ≤ length (list_at new l)
Removed-len old new l p lt r = omega (arith, length-take p (list_at new l), length-take p (list_at old l), ap (λ (xs : List ℕ). length xs) r.before)
