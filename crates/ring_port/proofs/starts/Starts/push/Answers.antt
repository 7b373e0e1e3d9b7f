use Rattle.std.proofs.Common.{◌≡◌, ◌∙◌, ◌++◌, ◌∷◌, [], ℕ, List, ap}
use Rattle.sat_words.specs.Literal.{Literal}
use Rattle.ring_port.specs.PortState.{Holding}
use Rattle.ring_port.specs.Store.{StoreData}
use Rattle.ring_port.specs.PlainPort.{pairs_of, AreAllHeld}
use Rattle.ring_port.proofs.Beginnings.{all_held_same, all_held_more, pairs_more}
use Rattle.ring_port.proofs.starts.Starts.push.Goals as goal

pub invariant_of-self-2 : goal.invariant_of-self-2
invariant_of-self-2 c =
    let new : StoreData = c.make_start_room.new.self in
    let same = c.make_start_room.ensures.same in
    let ready : AreAllHeld new = all_held_same c.self.inside.store new c.self.invariant (ap (λ (s : StoreData). s.start) same ∙ c.make_room.ensures.start) (ap (λ (s : StoreData). s.held) same ∙ c.make_room.ensures.held)
    (ap (λ (s : StoreData). s.waiting) same ∙ c.make_room.ensures.waiting) (ap (λ (s : StoreData). s.end) same ∙ c.make_room.ensures.end) in
    all_held_more new c.push_start.new.self ready (c.args.number, c.args.lits.now) c.push_start.ensures.start c.push_start.ensures.held c.push_start.ensures.waiting c.push_start.ensures.end

pub returns : goal.returns
returns c =
    let new : StoreData = c.make_start_room.new.self in
    let same = c.make_start_room.ensures.same in
    let start : new.start ≡ c.self.inside.store.start = ap (λ (s : StoreData). s.start) same ∙ c.make_room.ensures.start in
    let ready : AreAllHeld new = all_held_same c.self.inside.store new c.self.invariant start (ap (λ (s : StoreData). s.held) same ∙ c.make_room.ensures.held)
    (ap (λ (s : StoreData). s.waiting) same ∙ c.make_room.ensures.waiting) (ap (λ (s : StoreData). s.end) same ∙ c.make_room.ensures.end) in
    pairs_more new c.push_start.new.self ready (c.args.number, c.args.lits.now) c.push_start.ensures.start
    ∙ ap (λ (hs : List Holding). pairs_of hs ++ (c.args.number, c.args.lits.now) ∷ []) start
    ∙ ap (λ (ss : List (ℕ × List Literal)). ss ++ (c.args.number, c.args.lits.now) ∷ []) c.self.view_is
