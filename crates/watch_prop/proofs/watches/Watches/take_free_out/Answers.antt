use Rattle.std.proofs.Common.{arith, ◌^◌, ◌≡◌, ℕ, List, [], Option, Some, ap, refl, subst, sum, ◌∙◌, Contains}
use Rattle.std.specs.List.{filter, filter_map}
use Rattle.std.specs.Option.{is_some}
use Rattle.std.proofs.lemmas.List.Elements.{All-filter, All-contains_itself}
use Rattle.sat_words.specs.Literal.{Literal}
use Rattle.watch_prop.specs.declared.watch.Watch.{Watch}
use Rattle.watch_prop.specs.declared.watch.Watcher.{Watcher}
use Rattle.watch_prop.specs.WatchData.{WatchData, clause_in, watchers_at}
use Rattle.watch_prop.specs.Watched.{At}
use Rattle.watch_prop.specs.Detaching.{Compacted}
use Rattle.watch_prop.proofs.SlotsLemmas.{clauses-kept, HasFree-none, kept-within}
use Rattle.watch_prop.proofs.watches.Watches.take_free_out.Goals as goal

-- a slot that is kept was there before
kept : (ws : List (Option Watch)) (i : ℕ) (s : Watch) → At (filter is_some ws) i (Some s) → Contains ws (Some s)
kept ws i s at = subst (λ (o : Option Watch). Contains ws o) at.1 (All-filter is_some (Contains ws) ws (All-contains_itself ws) i (Some s) at.0)

compacted : (v w : WatchData) (ws : List (Option Watch)) (lists : List (List Watcher)) (rooms : List ℕ) (size : ℕ) → v ≡ w → ((l : Literal) → watchers_at lists l ≡ []) → size ≡ sum rooms → ws ≡ filter is_some v.slots → Compacted w record { vars = v.vars; slots = ws; lists = lists; rooms = rooms; size = size; settled = 0 }
compacted v w ws lists rooms size e none closed q = subst (λ (x : WatchData). Compacted x record { vars = v.vars; slots = ws; lists = lists; rooms = rooms; size = size; settled = 0 }) e record {
  vars = refl;
  settled = refl;
  empty = none;
  closed = closed;
  attached = ap (λ (xs : List (Option Watch)). filter_map clause_in xs) q ∙ clauses-kept v.slots is_some (λ s. refl);
  full = (let n = HasFree-none v.slots ws q in omega (arith, n));
  only = λ i s at. kept v.slots i s (subst (λ (xs : List (Option Watch)). At xs i (Some s)) q at);
}

pub returns : goal.returns
returns c = compacted record { vars = c.self.inside.vars; slots = c.self.inside.slots; lists = c.self.inside.lists.rows; rooms = c.self.inside.lists.rooms; size = c.self.inside.lists.size; settled = c.self.inside.settled } c.args.self.now c.keep_used.new.self c.close_up.new.self.rows c.close_up.new.self.rooms c.close_up.new.self.size c.self.view_is c.close_up.ensures.empty c.close_up.ensures.closed c.keep_used.ensures

pub invariant_of-self : goal.invariant_of-self
invariant_of-self c =
    let i = c.self.invariant in
    (i.0, c.close_up.ensures.len ∙ i.1, HasFree-none c.self.inside.slots c.keep_used.new.self c.keep_used.ensures, kept-within c.self.inside.slots c.keep_used.new.self (2 ^ 32) c.keep_used.ensures i.3)
