-- Lists in one vector: what a change of one stretch leaves to the others.
use Rattle.std.proofs.Common.{◌≡◌, ◌≢◌, ℕ, zero, suc, ◌<◌, ◌≤◌, ◌+◌, ◌-◌, ◌*◌, ◌⊎◌, max, nat_lt, Bool, true, false, cond, List, [], ◌∷◌, ◌++◌, length, get_or, take, drop, map, sum, sym, refl, ap, subst, ◌∙◌, inl, inr, arith}
use Rattle.std.proofs.Math.ListN.{set}
use Rattle.std.specs.List.{swap_remove, sum_by}
use Rattle.std.proofs.lemmas.Bool.{cases_lt}
use Rattle.std.proofs.lemmas.Bool.Decides.{nat_tests}
use Rattle.std.proofs.lemmas.List.{length-set, get_or-set_same, get_or-set_other, length-take-le, length-drop, length-append, get_or-take, get_or-drop, get_or_default, get_or_append_left, get_or_push, same_lists, map-set, get_or-map, set-get_or, length-map, get_or_past, take-set, take_all}
use Rattle.std.proofs.lemmas.List.Sums.{sum_by_more, sum-map}
use Rattle.watch_prop.specs.declared.watch.Watcher.{Watcher}
use Rattle.watch_prop.specs.declared.stretches.Stretch.{Stretch}
use Rattle.watch_prop.specs.Watched.{At}
use Rattle.sat_words.specs.Literal.{Literal, code_of}
use Rattle.watch_prop.specs.WatchData.{watchers_at, list_at}
use Rattle.watch_prop.specs.Layout.{ListData, row_of, AreLaid, HasRoom, grown_rooms, AreLaidOut}
use Rattle.watch_prop.proofs.ListsLemmas.{cases_eq}
use Rattle.watch_prop.proofs.SlotsLemmas.{At-set}

-- Rows

pub length-row : (xs : List Watcher) (s : Stretch) → s.start + s.len ≤ length xs → length (row_of xs s) ≡ s.len
length-row xs s le = length-take-le s.len (drop s.start xs) (omega (arith, length-drop s.start xs))

pub row-at : (xs : List Watcher) (s : Stretch) (k : ℕ) (d : Watcher) → k < s.len → get_or (row_of xs s) k d ≡ get_or xs (s.start + k) d
row-at xs s k d lt = get_or-take s.len (drop s.start xs) k d lt ∙ get_or-drop s.start xs k d

-- a row whose watchers are these
pub row-is : (xs : List Watcher) (s : Stretch) (ys : List Watcher) → s.start + s.len ≤ length xs → length ys ≡ s.len → ((k : ℕ) (d : Watcher) → k < s.len → get_or xs (s.start + k) d ≡ get_or ys k d) → row_of xs s ≡ ys
row-is xs s ys le n same =
    let m = length-row xs s le in
    same_lists (row_of xs s) ys (omega (arith, m, n)) (λ k d lt. row-at xs s k d (omega (arith, m)) ∙ same k d (omega (arith, m)))

-- a row stays if its watchers do
pub row-same : (xs ys : List Watcher) (s : Stretch) → s.start + s.len ≤ length xs → s.start + s.len ≤ length ys → ((k : ℕ) (d : Watcher) → s.start ≤ k → k < s.start + s.len → get_or ys k d ≡ get_or xs k d) → row_of ys s ≡ row_of xs s
row-same xs ys s le le' same =
    row-is ys s (row_of xs s) le' (length-row xs s le) (λ k d lt. same (s.start + k) d (omega arith) (omega arith) ∙ sym (row-at xs s k d lt))

-- rows of which one changed
pub rows-set : (xs ys : List Watcher) (ss : List Stretch) (i : ℕ) (s : Stretch) (row : List Watcher) → i < length ss → row_of ys s ≡ row → ((j : ℕ) (r : Stretch) → j ≢ i → At ss j r → row_of ys r ≡ row_of xs r)
    → map (row_of ys) (set ss i s) ≡ set (map (row_of xs) ss) i row
rows-set xs ys ss i s row lt here others =
    let n = length-map ss (row_of xs) in
    let m = length-map ss (row_of ys) in
    map-set (row_of ys) ss i s
    ∙ same_lists (set (map (row_of ys) ss) i (row_of ys s)) (set (map (row_of xs) ss) i row) (omega (arith, length-set (map (row_of ys) ss) i (row_of ys s), length-set (map (row_of xs) ss) i row, n, m))
    (λ k d small.
    let small' : k < length ss = omega (arith, length-set (map (row_of ys) ss) i (row_of ys s), m) in
    elim (cases_eq k i) as (λ _. get_or (set (map (row_of ys) ss) i (row_of ys s)) k d ≡ get_or (set (map (row_of xs) ss) i row) k d) [
      | inl e ↦ (
          ap (λ (p : ℕ). get_or (set (map (row_of ys) ss) i (row_of ys s)) p d) e ∙ get_or-set_same (map (row_of ys) ss) i (row_of ys s) d (omega (arith, m))
          ∙ here ∙ sym (get_or-set_same (map (row_of xs) ss) i row d (omega (arith, n))) ∙ ap (λ (p : ℕ). get_or (set (map (row_of xs) ss) i row) p d) (sym e))
      | inr ne ↦ (
          let r = get_or ss k s in
          get_or-set_other (map (row_of ys) ss) i k (row_of ys s) d ne ∙ get_or-map (row_of ys) ss k s d small'
          ∙ others k r ne (small', get_or_default ss k r s small') ∙ sym (get_or-map (row_of xs) ss k s d small') ∙ sym (get_or-set_other (map (row_of xs) ss) i k row d ne))
    ])

-- the row at a place
pub row_there : (xs : List Watcher) (ss : List Stretch) (i : ℕ) (s : Stretch) → At ss i s → get_or (map (row_of xs) ss) i [] ≡ row_of xs s
row_there xs ss i s at = get_or-map (row_of xs) ss i s [] at.0 ∙ ap (row_of xs) at.1

pub room_there : (ss : List Stretch) (i : ℕ) (s : Stretch) → At ss i s → get_or (map (λ (r : Stretch). r.room) ss) i 0 ≡ s.room
room_there ss i s at = get_or-map (λ (r : Stretch). r.room) ss i s 0 at.0 ∙ ap (λ (r : Stretch). r.room) at.1

-- a row that is as it was
pub rows-kept : (xs ys : List Watcher) (ss : List Stretch) (i : ℕ) (old s : Stretch) → At ss i old → row_of ys s ≡ row_of xs old → ((j : ℕ) (r : Stretch) → j ≢ i → At ss j r → row_of ys r ≡ row_of xs r)
    → map (row_of ys) (set ss i s) ≡ map (row_of xs) ss
rows-kept xs ys ss i old s at here others =
    rows-set xs ys ss i s (row_of xs old) at.0 here others
    ∙ ap (λ (row : List Watcher). set (map (row_of xs) ss) i row) (sym (row_there xs ss i old at))
    ∙ set-get_or (map (row_of xs) ss) i []

-- One place of a stretch

module _ (xs : List Watcher) (ss : List Stretch) (laid : AreLaid xs ss) (i : ℕ) (s : Stretch) (at : At ss i s) where
  -- a place in the stretch is in no other
  pub others-set : (p : ℕ) (x : Watcher) → s.start ≤ p → p < s.start + s.room → (j : ℕ) (r : Stretch) → j ≢ i → At ss j r → row_of (set xs p x) r ≡ row_of xs r
  others-set p x low high j r ne there =
      let in_r = laid.inside j r there in
      let few_r = laid.few j r there in
      let apart = laid.apart i j s r at there (λ q. ne (sym q)) in
      row-same xs (set xs p x) r (omega arith) (omega (arith, length-set xs p x)) (λ k d ge lt. get_or-set_other xs p k x d (λ q. elim apart as (λ _. ⊥) [ inl a ↦ omega arith | inr a ↦ omega arith ]))

  -- the stretch may have another length, within its room
  pub laid-len : (p : ℕ) (x : Watcher) (n : ℕ) → n ≤ s.room → AreLaid (set xs p x) (set ss i record { start = s.start; len = n; room = s.room })
  laid-len p x n le =
      let new : Stretch = record { start = s.start; len = n; room = s.room } in
      let len = length-set xs p x in
      let was : (j : ℕ) (r : Stretch) → At (set ss i new) j r → (q : Stretch) × At ss j q × (r.start ≡ q.start) × (r.room ≡ q.room) × ((r.len ≤ r.room))
      = λ j r there. elim (At-set ss i j new r there) as (λ _. (q : Stretch) × At ss j q × (r.start ≡ q.start) × (r.room ≡ q.room) × ((r.len ≤ r.room))) [
        | inl z ↦ (s, subst (λ (k : ℕ). At ss k s) (sym z.0) at, ap (λ (y : Stretch). y.start) z.1, ap (λ (y : Stretch). y.room) z.1, subst (λ (y : Stretch). y.len ≤ y.room) (sym z.1) le)
        | inr z ↦ (r, z.1, refl, refl, laid.few j r z.1)
      ] in
      record {
        few = λ j r there. (was j r there).4;
        inside = λ j r there. let w = was j r there in let z = laid.inside j w.0 w.1 in omega (arith, z, w.2, w.3, len);
        apart = λ j k r y there there' ne.
            let v = was j r there in
            let w = was k y there' in
            elim (laid.apart j k v.0 w.0 v.1 w.1 ne) as (λ _. (r.start + r.room ≤ y.start) ⊎ (y.start + y.room ≤ r.start)) [
              | inl a ↦ inl (omega (arith, a, v.2, v.3, w.2, w.3))
              | inr a ↦ inr (omega (arith, a, v.2, v.3, w.2, w.3))
            ];
      }

  within : s.start + s.len ≤ length xs
  within = let a = laid.inside i s at in let b = laid.few i s at in omega arith

  -- one watcher more
  pub rows-put : (x : Watcher) → s.len < s.room → map (row_of (set xs (s.start + s.len) x)) (set ss i record { start = s.start; len = s.len + 1; room = s.room }) ≡ set (map (row_of xs) ss) i (get_or (map (row_of xs) ss) i [] ++ x ∷ [])
  rows-put x lt =
      let p = s.start + s.len in
      let new : Stretch = record { start = s.start; len = s.len + 1; room = s.room } in
      let a = laid.inside i s at in
      let n = length-row xs s within in
      let row = row_of xs s ++ x ∷ [] in
      let here : row_of (set xs p x) new ≡ row
      = row-is (set xs p x) new row (omega (arith, a, length-set xs p x)) (omega (arith, n, length-append (row_of xs s) (x ∷ [])))
      (λ k d small. elim (cases_eq k s.len) as (λ _. get_or (set xs p x) (s.start + k) d ≡ get_or row k d) [
        | inl e ↦ ap (λ (m : ℕ). get_or (set xs p x) (s.start + m) d) e ∙ get_or-set_same xs p x d (omega (arith, a)) ∙ sym (get_or_push (row_of xs s) x d k (omega (arith, n, e)))
        | inr ne ↦ get_or-set_other xs p (s.start + k) x d (omega arith) ∙ sym (row-at xs s k d (omega arith)) ∙ sym (get_or_append_left (row_of xs s) (x ∷ []) d k (omega (arith, n)))
      ]) in
      rows-set xs (set xs p x) ss i new row at.0 here (others-set p x (omega arith) (omega arith))
      ∙ ap (λ (r : List Watcher). set (map (row_of xs) ss) i (r ++ x ∷ [])) (sym (row_there xs ss i s at))

  -- one watcher less
  pub rows-take : (place : ℕ) (d : Watcher) → place < s.len → map (row_of (set xs (s.start + place) (get_or xs (s.start + s.len - 1) d))) (set ss i record { start = s.start; len = s.len - 1; room = s.room })
      ≡ set (map (row_of xs) ss) i (swap_remove (get_or (map (row_of xs) ss) i []) place d)
  rows-take place d lt =
      let p = s.start + place in
      let x = get_or xs (s.start + s.len - 1) d in
      let new : Stretch = record { start = s.start; len = s.len - 1; room = s.room } in
      let a = laid.inside i s at in
      let b = laid.few i s at in
      let n = length-row xs s within in
      let old = row_of xs s in
      let last : x ≡ get_or old (length old - 1) d = ap (λ (m : ℕ). get_or xs m d) (omega (arith, n)) ∙ sym (row-at xs s (length old - 1) d (omega (arith, n))) in
      let y = get_or old (length old - 1) d in
      let row = swap_remove old place d in
      let len : length row ≡ s.len - 1 = length-take-le (length old - 1) (set old place y) (omega (arith, length-set old place y)) ∙ omega (arith, n) in
      let here : row_of (set xs p x) new ≡ row
      = row-is (set xs p x) new row (omega (arith, a, b, length-set xs p x)) len
      (λ k e small. sym (get_or-take (length old - 1) (set old place y) k e (omega (arith, n)) ∙ elim (cases_eq k place) as (λ _. get_or (set old place y) k e ≡ get_or (set xs p x) (s.start + k) e) [
        | inl q ↦ ap (λ (m : ℕ). get_or (set old place y) m e) q ∙ get_or-set_same old place y e (omega (arith, n)) ∙ sym last ∙ sym (get_or-set_same xs p x e (omega (arith, a, b))) ∙ ap (λ (m : ℕ). get_or (set xs p x) (s.start + m) e) (sym q)
        | inr ne ↦ get_or-set_other old place k y e ne ∙ row-at xs s k e (omega arith) ∙ sym (get_or-set_other xs p (s.start + k) x e (omega arith))
      ])) in
      rows-set xs (set xs p x) ss i new row at.0 here (others-set p x (omega arith) (omega arith))
      ∙ ap (λ (r : List Watcher). set (map (row_of xs) ss) i (swap_remove r place d)) (sym (row_there xs ss i s at))

  -- another watcher at a place
  pub rows-change : (place : ℕ) (x : Watcher) → place < s.len → map (row_of (set xs (s.start + place) x)) ss ≡ set (map (row_of xs) ss) i (set (get_or (map (row_of xs) ss) i []) place x)
  rows-change place x lt =
      let p = s.start + place in
      let a = laid.inside i s at in
      let b = laid.few i s at in
      let n = length-row xs s within in
      let old = row_of xs s in
      let row = set old place x in
      let here : row_of (set xs p x) s ≡ row
      = row-is (set xs p x) s row (omega (arith, a, b, length-set xs p x)) (length-set old place x ∙ n)
      (λ k e small. elim (cases_eq k place) as (λ _. get_or (set xs p x) (s.start + k) e ≡ get_or row k e) [
        | inl q ↦ ap (λ (m : ℕ). get_or (set xs p x) (s.start + m) e) q ∙ get_or-set_same xs p x e (omega (arith, a, b)) ∙ sym (get_or-set_same old place x e (omega (arith, n))) ∙ ap (λ (m : ℕ). get_or row m e) (sym q)
        | inr ne ↦ get_or-set_other xs p (s.start + k) x e (omega arith) ∙ sym (row-at xs s k e small) ∙ sym (get_or-set_other old place k x e ne)
      ]) in
      let same : set ss i s ≡ ss = ap (λ (r : Stretch). set ss i r) (sym at.1) ∙ set-get_or ss i s in
      ap (λ (rs : List Stretch). map (row_of (set xs p x)) rs) (sym same)
      ∙ rows-set xs (set xs p x) ss i s row at.0 here (others-set p x (omega arith) (omega arith))
      ∙ ap (λ (r : List Watcher). set (map (row_of xs) ss) i (set r place x)) (sym (row_there xs ss i s at))

  pub laid-change : (p : ℕ) (x : Watcher) → AreLaid (set xs p x) ss
  laid-change p x = record { few = laid.few; inside = λ j r there. (let z = laid.inside j r there in omega (arith, z, length-set xs p x)); apart = laid.apart }

  -- the stretch moves to the end of the vector
  module _ (ys : List Watcher) (room : ℕ) (len : length ys ≡ length xs + room) (before : (k : ℕ) (d : Watcher) → k < length xs → get_or ys k d ≡ get_or xs k d) where
    pub rows-moved : s.len ≤ room → ((k : ℕ) (d : Watcher) → k < s.len → get_or ys (length xs + k) d ≡ get_or xs (s.start + k) d)
        → map (row_of ys) (set ss i record { start = length xs; len = s.len; room = room }) ≡ map (row_of xs) ss
    rows-moved fits copied =
        let new : Stretch = record { start = length xs; len = s.len; room = room } in
        let here : row_of ys new ≡ row_of xs s = row-is ys new (row_of xs s) (omega (arith, len)) (length-row xs s within) (λ k d lt. copied k d lt ∙ sym (row-at xs s k d lt)) in
        rows-kept xs ys ss i s new at here
        (λ j r ne there.
        let a = laid.inside j r there in
        let b = laid.few j r there in
        row-same xs ys r (omega arith) (omega (arith, len)) (λ k d ge lt. before k d (omega arith)))

    pub laid-moved : s.len ≤ room → AreLaid ys (set ss i record { start = length xs; len = s.len; room = room })
    laid-moved fits =
        let new : Stretch = record { start = length xs; len = s.len; room = room } in
        let split : (j : ℕ) (r : Stretch) → At (set ss i new) j r → ((j ≡ i) × (r ≡ new)) ⊎ ((j ≢ i) × At ss j r) = λ j r there. At-set ss i j new r there in
        record {
          few = λ j r there. elim (split j r there) as (λ _. r.len ≤ r.room) [
            | inl z ↦ subst (λ (y : Stretch). y.len ≤ y.room) (sym z.1) fits
            | inr z ↦ laid.few j r z.1
          ];
          inside = λ j r there. elim (split j r there) as (λ _. r.start + r.room ≤ length ys) [
            | inl z ↦ subst (λ (y : Stretch). y.start + y.room ≤ length ys) (sym z.1) (omega (arith, len))
            | inr z ↦ (let a = laid.inside j r z.1 in omega (arith, a, len))
          ];
          apart = λ j k r y there there' ne. elim (split j r there) as (λ _. (r.start + r.room ≤ y.start) ⊎ (y.start + y.room ≤ r.start)) [
            | inl v ↦ elim (split k y there') as (λ _. (r.start + r.room ≤ y.start) ⊎ (y.start + y.room ≤ r.start)) [
              | inl w ↦ absurd (ne (v.0 ∙ sym w.0))
              | inr w ↦ inr (let a = laid.inside k y w.1 in let q = ap (λ (z : Stretch). z.start) v.1 in omega (arith, a, q))
            ]
            | inr v ↦ elim (split k y there') as (λ _. (r.start + r.room ≤ y.start) ⊎ (y.start + y.room ≤ r.start)) [
              | inl w ↦ inl (let a = laid.inside j r v.1 in let q = ap (λ (z : Stretch). z.start) w.1 in omega (arith, a, q))
              | inr w ↦ laid.apart j k r y v.1 w.1 ne
            ]
          ];
        }

-- stretches without watchers
pub empty_rows : (xs : List Watcher) (ss : List Stretch) → ((i : ℕ) (s : Stretch) → At ss i s → s.len ≡ 0) → (k : ℕ) → get_or (map (row_of xs) ss) k [] ≡ []
empty_rows xs [] none k = get_or_past [] k [] (omega arith)
empty_rows xs (s ∷ ss) none zero = ap (λ (n : ℕ). take n (drop s.start xs)) (none 0 s (omega arith, refl))
empty_rows xs (s ∷ ss) none (suc k) = empty_rows xs ss (λ i r at. none (suc i) r (let q = at.0 in omega arith, at.1)) k

-- Where the parts of the lists are seen as one value

abbrev pub data_of : List Watcher → List Stretch → ListData
data_of xs ss = record { rows = map (row_of xs) ss; rooms = map (λ (s : Stretch). s.room) ss; size = length xs }

-- a stretch at a code
module _ (xs : List Watcher) (ss : List Stretch) (w : ListData) (is : data_of xs ss ≡ w) where
  pub rows-are : map (row_of xs) ss ≡ w.rows
  rows-are = ap (λ (x : ListData). x.rows) is

  pub stretch-at : (i : ℕ) (s : Stretch) → i < length w.rows → s ≡ get_or ss i s → At ss i s
  stretch-at i s lt e = (omega (arith, lt, ap (λ (rs : List (List Watcher)). length rs) rows-are, length-map ss (row_of xs)), sym e)

  pub row-len : (i : ℕ) (s : Stretch) → AreLaid xs ss → At ss i s → length (get_or w.rows i []) ≡ s.len
  row-len i s laid at = ap (λ (rs : List (List Watcher)). length (get_or rs i [])) (sym rows-are) ∙ ap (λ (r : List Watcher). length r) (row_there xs ss i s at) ∙ length-row xs s (let a = laid.inside i s at in let b = laid.few i s at in omega arith)

  pub list-len : (l : Literal) (s : Stretch) → AreLaid xs ss → At ss (code_of l) s → length (list_at w.rows l) ≡ s.len
  list-len l s laid at = length-map (watchers_at w.rows l) (λ (x : Watcher). x.slot) ∙ row-len (code_of l) s laid at

  pub room-free : (i : ℕ) (s : Stretch) → AreLaid xs ss → At ss i s → HasRoom w i → s.len < s.room
  room-free i s laid at free = omega (arith, free, row-len i s laid at, ap (λ (x : ListData). get_or x.rooms i 0) is, room_there ss i s at)

  -- the slot of the watcher at a place
  pub slot-at : (l : Literal) (s : Stretch) (place : ℕ) (x : Watcher) → AreLaid xs ss → At ss (code_of l) s → place < s.len → x ≡ get_or xs (s.start + place) x → x.slot ≡ get_or (list_at w.rows l) place 0
  slot-at l s place x laid at lt e =
      let row = watchers_at w.rows l in
      let here : row_of xs s ≡ row = sym (row_there xs ss (code_of l) s at) ∙ ap (λ (rs : List (List Watcher)). get_or rs (code_of l) []) rows-are in
      ap (λ (y : Watcher). y.slot) (e ∙ sym (row-at xs s place x lt) ∙ ap (λ (r : List Watcher). get_or r place x) here)
      ∙ sym (get_or-map (λ (y : Watcher). y.slot) row place x 0 (let n = row-len (code_of l) s laid at in omega (arith, n)))

-- Empty stretches one after the other

-- one more
pub laid-out-more : (ss : List Stretch) (i end room : ℕ) → i < length ss → AreLaidOut ss i end → AreLaidOut (set ss i record { start = end; len = 0; room = room }) (i + 1) (end + room)
laid-out-more ss i end room lt o =
    let new : Stretch = record { start = end; len = 0; room = room } in
    let ts = set ss i new in
    let n = length-set ss i new in
    let split : (j : ℕ) (r : Stretch) → At ts j r → ((j ≡ i) × (r ≡ new)) ⊎ ((j ≢ i) × At ss j r) = λ j r at. At-set ss i j new r at in
    record {
      empty = λ j r small at. elim (split j r at) as (λ _. r.len ≡ 0) [
        | inl z ↦ ap (λ (y : Stretch). y.len) z.1
        | inr z ↦ o.empty j r (let q = z.0 in omega arith) z.1
      ];
      before = λ j r small at. elim (split j r at) as (λ _. r.start + r.room ≤ end + room) [
        | inl z ↦ subst (λ (y : Stretch). y.start + y.room ≤ end + room) (sym z.1) (omega arith)
        | inr z ↦ (let b = o.before j r (let q = z.0 in omega arith) z.1 in omega arith)
      ];
      in_order = λ j k r y less small at at'. elim (split k y at') as (λ _. r.start + r.room ≤ y.start) [
        | inl z ↦ elim (split j r at) as (λ _. r.start + r.room ≤ y.start) [
          | inl v ↦ absurd (let a = v.0 in let b = z.0 in omega arith)
          | inr v ↦ (let b = o.before j r (let q = z.0 in omega arith) v.1 in let q = ap (λ (u : Stretch). u.start) z.1 in omega (arith, b, q))
        ]
        | inr z ↦ elim (split j r at) as (λ _. r.start + r.room ≤ y.start) [
          | inl v ↦ absurd (let a = v.0 in let b = z.0 in omega arith)
          | inr v ↦ o.in_order j k r y less (let q = z.0 in omega arith) v.1 z.1
        ]
      ];
      total =
          let f : Stretch → ℕ = λ s. s.room in
          let more = sum_by_more f ts i new (omega (arith, n)) in
          let front = ap (λ (rs : List Stretch). sum_by f rs) (take-set ss i new) in
          let here = ap f (get_or-set_same ss i new new lt) in
          omega (arith, more, front, here, o.total);
    }

pub laid-out-none : (ss : List Stretch) → AreLaidOut ss 0 0
laid-out-none ss = record {
  empty = λ j r small at. absurd (omega arith);
  before = λ j r small at. absurd (omega arith);
  in_order = λ j k r y less small at at'. absurd (omega arith);
  total = refl;
}

-- they are laid in a vector that ends with the last
pub laid-out : (xs : List Watcher) (ss : List Stretch) (n end : ℕ) → n ≡ length ss → AreLaidOut ss n end → end ≤ length xs → AreLaid xs ss
laid-out xs ss n end e o size = record {
  few = λ i s at. (let z = o.empty i s (let q = at.0 in omega arith) at in omega arith);
  inside = λ i s at. (let z = o.before i s (let q = at.0 in omega arith) at in omega arith);
  apart = λ i j s r at at' ne. elim (cases_lt i j) as (λ _. (s.start + s.room ≤ r.start) ⊎ (r.start + r.room ≤ s.start)) [
    | inl lt ↦ inl (o.in_order i j s r lt (let q = at'.0 in omega arith) at at')
    | inr ge ↦ inr (o.in_order j i r s (omega arith) (let q = at.0 in omega arith) at' at)
  ];
}

pub laid-out-sum : (ss : List Stretch) (n end : ℕ) → n ≡ length ss → AreLaidOut ss n end → end ≡ sum (map (λ (s : Stretch). s.room) ss)
laid-out-sum ss n end e o =
    let f : Stretch → ℕ = λ s. s.room in
    o.total ∙ ap (λ (rs : List Stretch). sum_by f rs) (take_all n ss (omega arith)) ∙ sym (sum-map f ss)

-- Rooms

pub rooms-set : (ss : List Stretch) (i : ℕ) (new : Stretch) → map (λ (s : Stretch). s.room) (set ss i new) ≡ set (map (λ (s : Stretch). s.room) ss) i new.room
rooms-set ss i new = map-set (λ (s : Stretch). s.room) ss i new

-- a stretch that is changed may keep its room
pub rooms-kept : (ss : List Stretch) (i : ℕ) (s new : Stretch) → At ss i s → new.room ≡ s.room → map (λ (r : Stretch). r.room) (set ss i new) ≡ map (λ (r : Stretch). r.room) ss
rooms-kept ss i s new at e =
    let rooms = map (λ (r : Stretch). r.room) ss in
    rooms-set ss i new ∙ ap (λ (n : ℕ). set rooms i n) (e ∙ sym (room_there ss i s at)) ∙ set-get_or rooms i 0

less_test : (m n : ℕ) → m < n → nat_lt m n ≡ true
less_test m n lt = grind (arith, nat_tests)

no_less_test : (m n : ℕ) → n ≤ m → nat_lt m n ≡ false
no_less_test m n le = grind (arith, nat_tests)

-- a list with room keeps it
pub grown-kept : (x : ListData) (i : ℕ) → HasRoom x i → grown_rooms x i ≡ x.rooms
grown-kept x i free =
    ap (λ (b : Bool). set x.rooms i (cond b (get_or x.rooms i 0) (max (2 * get_or x.rooms i 0) 4))) (less_test (length (get_or x.rows i [])) (get_or x.rooms i 0) free)
    ∙ set-get_or x.rooms i 0

-- one without gets twice as much
pub grown-moved : (x : ListData) (i : ℕ) → get_or x.rooms i 0 ≤ length (get_or x.rows i []) → grown_rooms x i ≡ set x.rooms i (max (2 * get_or x.rooms i 0) 4)
grown-moved x i full =
    ap (λ (b : Bool). set x.rooms i (cond b (get_or x.rooms i 0) (max (2 * get_or x.rooms i 0) 4))) (no_less_test (length (get_or x.rows i [])) (get_or x.rooms i 0) full)
