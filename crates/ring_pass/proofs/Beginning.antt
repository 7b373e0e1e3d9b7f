-- A ring that begins, and one that ends.
use Rattle.std.proofs.Common.{◌≡◌, ◌<◌, true, false, true≢false, List, [], ◌∷◌, map, drop, get_or, refl, sym, ap, subst, ◌∙◌, arith, Option, Some, None, IsSome}
use Rattle.std.specs.List.{All, list_any}
use Rattle.sat_words.specs.Literal.{Literal}
use Rattle.sat_words.specs.Clause.{has, distinct_lits, same_set}
use Rattle.sat_words.specs.declared.shared.Cref.{Cref}
use Rattle.rup_model.proofs.Lists.{In, map_In, In_Contains}
use Rattle.rup_model.proofs.ProgramOpening.{All_from_In}
use Rattle.atomic_table.specs.declared.shared.Seat.{Seat}
use Rattle.share_core.specs.declared.stored.ClauseAt.{ClauseAt}
use Rattle.share_core.specs.State.{times_at}
use Rattle.share_core.proofs.ClauseLists.{at_in}
use Rattle.share_rule.specs.declared.Shared.{Shared}
use Rattle.share_rule.specs.declared.view.GlueAt.{GlueAt}
use Rattle.share_rule.specs.declared.view.RingPart.{RingPart}
use Rattle.share_rule.specs.declared.view.View.{View}
use Rattle.share_rule.specs.FirstWords.{addresses}
use Rattle.share_rule.specs.Passes.{IsPassOf}
use Rattle.share_rule.specs.Views.{only}
use Rattle.ring_port.specs.Port.{is_usable}
use Rattle.ring_port.specs.PortState.{Holding, PortState, IsPort, HoldsStart, held_at}
use Rattle.ring_port.proofs.Holdings.{holding}
use Rattle.ring_pass.specs.RingState.{Own, port_of, home_of, holding_of, IsOwn}
use Rattle.ring_pass.proofs.RingPorts.{there_here}
use Rattle.ring_pass.specs.Refusals.{answer_noted}
use Rattle.std.specs.Option.{option_map}
use Rattle.rup_model.specs.Journal.{added}
use Rattle.share_core.specs.declared.part.Placed.{Placed}

-- nothing is kept yet
pub own_begun : (p : RingPart) (o : Own) → o.arrived ≡ [] → o.passed ≡ 0 → o.taken ≡ [] → o.ended ≡ false → o.refused ≡ None → p.refused ≡ None → p.core.making ≡ [] → p.core.wrote ≡ [] → IsOwn p o
own_begun p o none zero_is empty going fine quiet built idle = record {
  passed = let z = zero_is in omega arith;
  distinct = subst (λ (ls : List Literal). distinct_lits ls ≡ true) (sym none) refl;
  told = subst (λ (ls : List Literal). All (λ l. has p.core.seen l ≡ true) ls) (sym none) (λ k d lt. absurd (omega arith));
  taken = subst (λ (cs : List Cref). All (λ c. 0 < times_at c.address p.core.held) cs) (sym empty) (λ k d lt. absurd (omega arith));
  ended_is = λ e. absurd (true≢false (sym e ∙ going));
  refused_is = fine ∙ ap (option_map answer_noted) (sym quiet);
  faulty_is = λ e. absurd (true≢false (sym (ap is_usable fine) ∙ e));
  making = built;
  listed = λ l w. absurd (true≢false (sym w ∙ ap (λ (ws : List Placed). list_any (same_set (l ∷ [])) (added (map (λ (e : Placed). e.entry) ws))) idle));
}

-- if the start clauses are all that is held, each is found at its address
pub starts_held : (v : View) (o : Own) → IsPort (port_of v o) → (port_of v o).start ≡ (port_of v o).held → HoldsStart (port_of v o)
starts_held v o port same =
    let s : PortState = port_of v o in
    All_from_In (λ (h : Holding). held_at s h.address ≡ Some h) s.start (λ h i.
    let j : In h s.held = subst (In h) same i in
    let t = map_In (holding_of (only v).glues) (only v).core.held h j in
    let there : IsSome (held_at s h.address) = subst (λ (k : Holding). IsSome (held_at s k.address)) t.2 (there_here v o t.0.address (at_in (only v).core.held t.0 t.1)) in
    let k = holding s h.address there in
    k.3 ∙ ap (λ (x : Holding). Some x) (port.one k.0 h (In_Contains s.held k.0 k.1) (In_Contains s.held h j) k.2))

-- addresses of clauses, as the port has them
pub addresses_of : (gs : List GlueAt) (hs : List ClauseAt) → addresses hs ≡ map (λ (h : Holding). record { address = h.address }) (map (holding_of gs) hs)
addresses_of gs [] = refl
addresses_of gs (h ∷ hs) = ap (λ (cs : List Cref). record { address = h.address } ∷ cs) (addresses_of gs hs)

-- Names

heads : {X : Type 0} (x y : X) (xs ys : List X) → x ∷ xs ≡ y ∷ ys → (x ≡ y) × (xs ≡ ys)
heads {X} x y xs ys e = (ap (λ zs. get_or zs 0 x) e, ap tail_of e)
  where
    tail_of : List X → List X
    tail_of [] = []
    tail_of (z ∷ zs) = zs

-- what has the name of a table's pass is a pass of that table
pub home_pass : {B : Type 0} (t t' : Shared B) (p q : Seat (Option B) View) → IsPassOf t p → IsPassOf t' q → home_of q ≡ home_of p → IsPassOf t q
home_pass t t' p q a b e =
    let f0 = heads q.me.0.layout.rings p.me.0.layout.rings (drop 1 (home_of q)) (drop 1 (home_of p)) e in
    let f1 = heads q.me.0.layout.vars p.me.0.layout.vars (drop 2 (home_of q)) (drop 2 (home_of p)) f0.1 in
    let f2 = heads q.me.0.layout.words p.me.0.layout.words (drop 3 (home_of q)) (drop 3 (home_of p)) f1.1 in
    let f3 = heads q.me.0.layout.depth p.me.0.layout.depth (drop 4 (home_of q)) (drop 4 (home_of p)) f2.1 in
    let f4 = heads q.me.0.layout.conflicts p.me.0.layout.conflicts (drop 5 (home_of q)) (drop 5 (home_of p)) f3.1 in
    let f5 = heads q.table_id.words p.table_id.words (drop 6 (home_of q)) (drop 6 (home_of p)) f4.1 in
    let f6 = heads q.table_id.slots p.table_id.slots (drop 7 (home_of q)) (drop 7 (home_of p)) f5.1 in
    let f7 = heads q.table_id.views_name p.table_id.views_name (drop 8 (home_of q)) (drop 8 (home_of p)) f6.1 in
    let f8 = heads q.table_id.atom p.table_id.atom (drop 9 (home_of q)) (drop 9 (home_of p)) f7.1 in
    let f9 = heads q.table_id.block p.table_id.block (drop 10 (home_of q)) (drop 10 (home_of p)) f8.1 in
    let f10 = heads q.table_id.offset p.table_id.offset q.table_id.slot_names p.table_id.slot_names f9.1 in
    let id : q.table_id ≡ p.table_id = λ i. record { words = f5.0 i; slots = f6.0 i; views_name = f7.0 i; atom = f8.0 i; block = f9.0 i; offset = f10.0 i; slot_names = f10.1 i } in
    let lay : q.me.0.layout ≡ p.me.0.layout = λ i. record { rings = f0.0 i; vars = f1.0 i; words = f2.0 i; depth = f3.0 i; conflicts = f4.0 i } in
    (id ∙ a.0, b.1, lay ∙ a.2, b.3)
