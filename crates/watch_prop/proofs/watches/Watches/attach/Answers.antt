use Rattle.std.proofs.Common.{◌≡◌, ◌∷◌, ◌++◌, [], List, Option, Some, subst, sym, ap, ◌∙◌, length, arith}
use Rattle.std.specs.List.{filter_map}
use Rattle.std.proofs.lemmas.List.{length-append}
use Rattle.sat_words.specs.declared.shared.Cref.{Cref}
use Rattle.ring_port.specs.PortState.{lits_at}
use Rattle.ring_trail.specs.TrailData.{TrailData}
use Rattle.watch_prop.specs.declared.watch.Watch.{Watch}
use Rattle.watch_prop.specs.WatchData.{WatchData, Lits, clause_in, attached}
use Rattle.watch_prop.specs.Watched.{Watched, IsAttachable, IsPair}
use Rattle.watch_prop.proofs.Entries.{held_attachable}
use Rattle.watch_prop.proofs.SlotsLemmas.{clauses-push, HasFree-push}
use Rattle.watch_prop.proofs.Settling.{Watched-push}
use Rattle.watch_prop.proofs.watches.Watches.attach.Goals as goal

clauses_of_pushed : (v w : WatchData) (ws : List (Option Watch)) (s : Watch) → v ≡ w → ws ≡ v.slots ++ Some s ∷ [] → filter_map clause_in ws ≡ attached w ++ s.clause ∷ []
clauses_of_pushed v w ws s e q = ap (λ (xs : List (Option Watch)). filter_map clause_in xs) (q ∙ ap (λ (x : WatchData). x.slots ++ Some s ∷ []) e) ∙ clauses-push w.slots s

pub returns-clause-attached : goal.returns-clause-attached
returns-clause-attached g c =
    clauses_of_pushed record { vars = c.self.inside.vars; slots = c.self.inside.slots; lists = c.self.inside.lists.rows; rooms = c.self.inside.lists.rooms; size = c.self.inside.lists.size; settled = c.self.inside.settled } c.args.self.now c.push.new.self
    c.first_watch-watch.result c.self.view_is c.in_ok-push.ensures.ok
    ∙ ap (λ (d : Cref). attached c.args.self.now ++ d ∷ []) c.first_watch-watch.ensures.clause

pushed : (v w : WatchData) (ws : List (Option Watch)) (s : Watch) (h : Lits) (t : TrailData) → v ≡ w → ws ≡ v.slots ++ Some s ∷ [] → Watched w h t → IsAttachable w.vars (h s.clause.address) → IsPair (h s.clause.address) s → Watched record v { slots = ws } h t
pushed v w ws s h t e q k ok pair =
    subst (λ (xs : List (Option Watch)). Watched record v { slots = xs } h t) (sym q)
    (Watched-push v h t s (subst (λ (x : WatchData). Watched x h t) (sym e) k) (subst (λ (x : WatchData). IsAttachable x.vars (h s.clause.address)) (sym e) ok) pair)

pub returns-clause-watched : goal.returns-clause-watched
returns-clause-watched g c t k =
    let p = g.P.Port.state c.args.port.now in
    let s = c.first_watch-watch.result in
    let here = c.first_watch-watch.ensures.clause in
    let ok = held_attachable p c.args.c.address c.args.self.now.vars c.vars-vars.ensures.port c.requires.held c.requires.vars in
    pushed record { vars = c.self.inside.vars; slots = c.self.inside.slots; lists = c.self.inside.lists.rows; rooms = c.self.inside.lists.rooms; size = c.self.inside.lists.size; settled = c.self.inside.settled } c.args.self.now c.push.new.self s (lits_at p) t c.self.view_is c.in_ok-push.ensures.ok k
    (subst (λ (d : Cref). IsAttachable c.args.self.now.vars (lits_at p d.address)) (sym here) ok)
    (subst (λ (d : Cref). IsPair (lits_at p d.address) s) (sym here) c.first_watch-watch.ensures.pair)

pub invariant_of-self-2 : goal.invariant_of-self-2
invariant_of-self-2 g c =
    let i = c.self.invariant in
    let s = c.first_watch-watch.result in
    let n = length-append c.self.inside.slots (Some s ∷ []) in (
      i.0,
      i.1,
      HasFree-push c.self.inside.slots c.push.new.self s c.self.inside.free_slots c.in_ok-push.ensures.ok i.2,
      (let q = c.if-len-ge-MOST_SLOTS.false in omega (arith, q, c.len.ensures, n, ap (λ (ws : List (Option Watch)). length ws) c.in_ok-push.ensures.ok)),
    )
