use Rattle.std.proofs.Common.{◌≡◌, ℕ, ◌<◌, ◌≤◌, ◌+◌, ◌*◌, max, List, length, get_or, map, sym, ap, subst, ◌∙◌, arith}
use Rattle.std.proofs.Math.ListN.{set}
use Rattle.std.proofs.lemmas.List.{length-set, get_or-set_same}
use Rattle.watch_prop.specs.declared.watch.Watcher.{Watcher}
use Rattle.watch_prop.specs.declared.stretches.Stretch.{Stretch}
use Rattle.watch_prop.specs.Watched.{At}
use Rattle.watch_prop.specs.Layout.{ListData, row_of, AreLaid, HasRoom}
use Rattle.watch_prop.proofs.LayoutLemmas.{rooms-set, data_of, rows-are, stretch-at, rows-moved, laid-moved, length-row, row_there, room_there}
use Rattle.watch_prop.proofs.lists.Lists.move_to_end.Goals as goal

at : (c : goal.After-self-1) → At c.self.inside.stretches.items c.args.code c.index-old.result.now
at c = stretch-at c.self.inside.watchers.items c.self.inside.stretches.items c.args.self.now c.self.view_is c.args.code c.index-old.result.now c.requires c.index-old.ensures

start_is : (c : goal.After-self-1) → c.len-start.result ≡ length c.self.inside.watchers.items
start_is c = (let q = c.self.inside.watchers.ok in omega (arith, c.len-start.ensures, q))

grown : (c : goal.After-self-1) → length c.copy_within.new.self.items ≡ length c.self.inside.watchers.items + c.max-room.result
grown c = omega (arith, c.copy_within.ensures.len, c.in_ok-resize.ensures.len, c.len-start.ensures)

before : (c : goal.After-self-1) (k : ℕ) (d : Watcher) → k < length c.self.inside.watchers.items → get_or c.copy_within.new.self.items k d ≡ get_or c.self.inside.watchers.items k d
before c k d lt = c.copy_within.ensures.by_index.1 k d (omega (arith, c.len-start.ensures, lt)) ∙ c.in_ok-resize.ensures.by_index.0 k d (omega (arith, c.len-start.ensures, lt)) (let q = c.self.inside.watchers.ok in omega (arith, lt, q))

fits : (c : goal.After-self-1) → c.index-old.result.now.len ≤ c.max-room.result
fits c = (let few = c.self.invariant.few c.args.code c.index-old.result.now (at c) in omega (arith, few, c.max-room.ensures))

copied : (c : goal.After-self-1) (k : ℕ) (d : Watcher) → k < c.index-old.result.now.len → get_or c.copy_within.new.self.items (length c.self.inside.watchers.items + k) d ≡ get_or c.self.inside.watchers.items (c.index-old.result.now.start + k) d
copied c k d lt =
    let xs = c.self.inside.watchers.items in
    let s = c.index-old.result.now in
    let few = c.self.invariant.few c.args.code s (at c) in
    let inside = c.self.invariant.inside c.args.code s (at c) in
    let n = length xs in
    c.copy_within.ensures.by_index.0 (n + k) d (omega (arith, c.len-start.ensures)) (omega (arith, c.len-start.ensures, lt))
    ∙ ap (λ (p : ℕ). get_or c.resize.new.self.items (s.start + p) d) (omega (arith, c.len-start.ensures))
    ∙ c.in_ok-resize.ensures.by_index.0 (s.start + k) d (omega (arith, c.len-start.ensures, lt, few, inside)) (let q = c.self.inside.watchers.ok in omega (arith, lt, few, inside, q))

pub returns-clause-rows : goal.returns-clause-rows
returns-clause-rows c =
    let xs = c.self.inside.watchers.items in
    let ss = c.self.inside.stretches.items in
    let s = c.index-old.result.now in
    ap (λ (n : ℕ). map (row_of c.copy_within.new.self.items) (set ss c.args.code record { start = n; len = s.len; room = c.max-room.result })) (start_is c)
    ∙ rows-moved xs ss c.self.invariant c.args.code s (at c) c.copy_within.new.self.items c.max-room.result (grown c) (before c) (fits c) (copied c)
    ∙ rows-are xs ss c.args.self.now c.self.view_is

-- there is room once the stretch is a longer one
roomy : (ys : List Watcher) (ss : List Stretch) (i : ℕ) (new : Stretch) → i < length ss → new.start + new.len ≤ length ys → new.len < new.room → HasRoom (data_of ys (set ss i new)) i
roomy ys ss i new lt inside free =
    let here : At (set ss i new) i new = (omega (arith, length-set ss i new), get_or-set_same ss i new new lt) in
    omega (arith, free, ap (λ (r : List Watcher). length r) (row_there ys (set ss i new) i new here), length-row ys new inside, room_there (set ss i new) i new here)

pub returns-clause-ok : goal.returns-clause-ok
returns-clause-ok c =
    let few = c.self.invariant.few c.args.code c.index-old.result.now (at c) in
    roomy c.copy_within.new.self.items c.self.inside.stretches.items c.args.code _ (at c).0
    (omega (arith, grown c, fits c, c.len-start.ensures)) (omega (arith, few, c.max-room.ensures))

pub returns-clause-rooms : goal.returns-clause-rooms
returns-clause-rooms c =
    let ss = c.self.inside.stretches.items in
    let s = c.index-old.result.now in
    let rooms : List ℕ = map (λ (r : Stretch). r.room) ss in
    let new : Stretch = record { start = c.len-start.result; len = s.len; room = c.max-room.result } in
    let room : c.max-room.result ≡ max (2 * get_or rooms c.args.code 0) 4 = c.max-room.ensures ∙ ap (λ (n : ℕ). max (2 * n) 4) (sym (room_there ss c.args.code s (at c))) in
    subst (λ (rs : List ℕ). map (λ (r : Stretch). r.room) (set ss c.args.code new) ≡ set rs c.args.code (max (2 * get_or rs c.args.code 0) 4)) (ap (λ (x : ListData). x.rooms) c.self.view_is)
    (rooms-set ss c.args.code new ∙ ap (λ (n : ℕ). set rooms c.args.code n) room)

pub invariant_of-self-2 : goal.invariant_of-self-2
invariant_of-self-2 c =
    let xs = c.self.inside.watchers.items in
    let ss = c.self.inside.stretches.items in
    let s = c.index-old.result.now in
    subst (λ (n : ℕ). AreLaid c.copy_within.new.self.items (set ss c.args.code record { start = n; len = s.len; room = c.max-room.result })) (sym (start_is c))
    (laid-moved xs ss c.self.invariant c.args.code s (at c) c.copy_within.new.self.items c.max-room.result (grown c) (before c) (fits c))
