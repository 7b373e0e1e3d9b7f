-- Ports that are made, and passes that are left.
use Rattle.std.proofs.Common.{◌≡◌, ℕ, ◌+◌, ◌<◌, Bool, true, false, inl, inr, List, [], ◌∷◌, ◌++◌, length, length-append, map, refl, sym, ap, subst, ◌∙◌, arith, None, Option, get_or}
use Rattle.std.proofs.lemmas.Bool.{cases_Bool, true≢false}
use Rattle.atomic_table.specs.declared.shared.Seat.{Seat}
use Rattle.share_core.specs.declared.part.CoreOpening.{CoreOpening}
use Rattle.share_core.specs.declared.part.Placed.{Placed as PlacedEntry}
use Rattle.share_rule.specs.declared.Layout.{Layout}
use Rattle.share_rule.specs.declared.Shared.{Shared}
use Rattle.share_rule.specs.declared.view.View.{View}
use Rattle.share_rule.specs.declared.view.RingPart.{RingPart}
use Rattle.share_rule.specs.Passes.{IsPassOf}
use Rattle.share_rule.specs.Views.{no_part, only}
use Rattle.std.specs.Prelude.{slice_index_or, All}
use Rattle.ring_port.specs.Port.{is_usable}
use Rattle.ring_port.specs.PortState.{PortState}
use Rattle.ring_pass.specs.RingState.{begun_as, home_of}
use Rattle.portfolio_run.specs.declared.jobs.RingJob.{RingJob}
use Rattle.portfolio_run.specs.declared.plan.Plan.{Plan}
use Rattle.portfolio_run.specs.Jobs.{IsReady}
use Rattle.portfolio_run.specs.Ports.{IsMade, job_at, IsAt}
use Rattle.portfolio_run.specs.Seats.{IsSameTable, IsBegun, HasIdle, IsSettled}
use Rattle.portfolio_run.proofs.Each.{EachFrom, each_of, index_of, each_by, each_last, each_both}
use Rattle.share_rule.specs.Steps.{new_part}

-- the port is made, and ready to run
pub record IsPlaced (v : View) (home : List ℕ) (plan : Plan) (ring : ℕ) (one : RingJob PortState) : Type 0 where
  pub made : IsMade v home plan ring one
  pub ready : IsReady one.port one.job

-- the first rings have their ports; of those after them the passes are left, some put aside and some not yet met
pub record Placed {B : Type 0} (t : Shared B) (v : View) (home : List ℕ) (plan : Plan) (made : List (RingJob PortState)) (rest more : List (Seat (Option B) View)) : Type 0 where
  pub ports : EachFrom (IsPlaced v home plan) 0 made
  pub aside : EachFrom (IsBegun t v) (length made) rest
  pub behind : EachFrom (IsBegun t v) (length made + length rest) more

-- names of one table
pub home_same : {B : Type 0} (t : Shared B) (p q : Seat (Option B) View) → IsPassOf t p → IsPassOf t q → home_of q ≡ home_of p
home_same t p q a b =
    let id : q.table_id ≡ p.table_id = b.0 ∙ sym a.0 in
    let lay : q.me.0.layout ≡ p.me.0.layout = b.2 ∙ sym a.2 in
    λ i. (lay i).rings ∷ (lay i).vars ∷ (lay i).words ∷ (lay i).depth ∷ (lay i).conflicts ∷ (id i).words ∷ (id i).slots ∷ (id i).views_name ∷ (id i).atom ∷ (id i).block ∷ (id i).offset ∷ (id i).slot_names

-- what is made over the pass is made over the table
pub made_of : (u v : View) (home home' : List ℕ) (plan : Plan) (ring : ℕ) (one : RingJob PortState) → IsSameTable v u → u.stop ≡ None → home' ≡ home → IsMade u home' plan ring one → IsMade v home plan ring one
made_of u v home home' plan ring one same unstopped named m = record {
  port = m.port ∙ (λ i. begun_as (record v { stop = None; looks = 0; layout = same.layout i; opening = same.opening i }) ring (named i));
  job = m.job ∙ (λ i. job_at (record v { layout = same.layout i; opening = same.opening i }) plan ring);
}

-- a pass knows how many rings its table has
pub rings_there : {B : Type 0} (t : Shared B) (p : Seat (Option B) View) → IsPassOf t p → p.me.0.opening.rings ≡ t.layout.rings
rings_there t p pass = ap (λ (o : CoreOpening). o.rings) pass.3.opening ∙ sym pass.3.standing.rings ∙ ap (λ (l : Layout). l.rings) pass.2

pub not_true : (b : Bool) → (b ≡ true → ⊥) → b ≡ false
not_true b h = elim (cases_Bool b) as (λ _. b ≡ false) [ inl q ↦ absurd (h q) | inr q ↦ q ]

-- a ring that has only its grant is settled
pub new_settled : (o : CoreOpening) (ring : ℕ) (x : RingPart) → x ≡ new_part o ring → IsSettled x
new_settled o ring x is = subst IsSettled (sym is) (refl, λ l w. absurd (true≢false (sym w)))

-- a pass that is begun has its ring, which has written nothing
pub has_idle : {B : Type 0} (t : Shared B) (v : View) (ring : ℕ) (p : Seat (Option B) View) → IsBegun t v ring p → HasIdle t ring p
has_idle t v ring p b =
    let is = ap (λ (ps : List RingPart). slice_index_or ps 0 no_part) b.ring_is in
    record {
      has = record {
        pass = b.pass;
        one = b.ring_is ∙ (λ i. sym is i ∷ []);
        ring_is = ap (λ (x : RingPart). x.core.ring) is;
        free = ap (λ (x : RingPart). x.turn) is;
        settled = new_settled v.opening ring (only p.me.0) is;
      };
      idle = ap (λ (x : RingPart). x.core.wrote) is;
      calm = λ one. ap (λ (x : RingPart). x.failed) is;
    }

-- a port that shows no entry has none
pub none_written : (ps : List PlacedEntry) → map (λ (e : PlacedEntry). e.entry) ps ≡ [] → ps ≡ []
none_written [] e = refl
none_written (x ∷ ps) e = absurd (cons_none (x.entry) (map (λ (y : PlacedEntry). y.entry) ps) e)
  where
    cons_none : {A : Type 0} (y : A) (ys : List A) → y ∷ ys ≡ [] → ⊥
    cons_none y ys q = let n : length (y ∷ ys) ≡ 0 = ap length q in omega arith

-- nothing is made yet
pub placed_none : {B : Type 0} (t : Shared B) (v : View) (home : List ℕ) (plan : Plan) (made : List (RingJob PortState)) (rest more passes : List (Seat (Option B) View)) → made ≡ [] → rest ≡ [] → more ≡ passes → ((i : ℕ) (d : Seat (Option B) View) → i < length passes → IsBegun t v i (get_or passes i d)) → Placed t v home plan made rest more
placed_none t v home plan made rest more passes no_made no_rest is begun =
    let a : length made ≡ 0 = ap length no_made in
    let b : length rest ≡ 0 = ap length no_rest in
    record {
      ports = subst (EachFrom (IsPlaced v home plan) 0) (sym no_made) tt;
      aside = subst (EachFrom (IsBegun t v) (length made)) (sym no_rest) tt;
      behind = subst (λ (n : ℕ). EachFrom (IsBegun t v) n more) (let e : 0 ≡ length made + length rest = omega arith in e) (subst (EachFrom (IsBegun t v) 0) (sym is) (each_of (IsBegun t v) passes begun));
    }

-- the next pass, if none is put aside
pub placed_next : {B : Type 0} (t : Shared B) (v : View) (home : List ℕ) (plan : Plan) (ring : ℕ) (made : List (RingJob PortState)) (rest more more' : List (Seat (Option B) View)) (p : Seat (Option B) View) → Placed t v home plan made rest more → more ≡ p ∷ more' → length rest ≡ 0 → ring ≡ length made → IsBegun t v ring p
placed_next t v home plan ring made rest more more' p at is none count = subst (λ (n : ℕ). IsBegun t v n p) (let e : length made + length rest ≡ ring = omega arith in e) (subst (EachFrom (IsBegun t v) (length made + length rest)) is at.behind).0

-- its port
pub placed_made : {B : Type 0} (t : Shared B) (first p : Seat (Option B) View) (plan : Plan) (ring n : ℕ) (one : RingJob PortState) → IsPassOf t first → IsBegun t first.me.0 ring p → ring ≡ n → IsMade p.me.0 (home_of p) plan ring one → IsReady one.port one.job → IsPlaced first.me.0 (home_of first) plan n one
placed_made t first p plan ring n one pass begun count m ready = record {
  made = subst (λ (k : ℕ). IsMade first.me.0 (home_of first) plan k one) count (made_of p.me.0 first.me.0 (home_of first) (home_of p) plan ring one begun.same begun.unstopped (home_same t first p pass begun.pass.0) m);
  ready = ready;
}

-- one more port
pub placed_port : {B : Type 0} (t : Shared B) (v : View) (home : List ℕ) (plan : Plan) (made made' : List (RingJob PortState)) (rest more more' : List (Seat (Option B) View)) (p : Seat (Option B) View) (one : RingJob PortState)
    → Placed t v home plan made rest more → more ≡ p ∷ more' → rest ≡ [] → made' ≡ made ++ one ∷ [] → IsPlaced v home plan (length made) one → Placed t v home plan made' rest more'
placed_port t v home plan made made' rest more more' p one at is none now placed =
    let long : length made' ≡ length made + 1 = ap length now ∙ length-append made (one ∷ []) in
    let zero_is : length rest ≡ 0 = ap length none in
    record {
      ports = subst (EachFrom (IsPlaced v home plan) 0) (sym now) (each_last (IsPlaced v home plan) 0 (length made) made one (omega arith) at.ports placed);
      aside = subst (EachFrom (IsBegun t v) (length made')) (sym none) tt;
      behind = subst (λ (n : ℕ). EachFrom (IsBegun t v) n more') (let e : length made + length rest + 1 ≡ length made' + length rest = omega arith in e) (subst (EachFrom (IsBegun t v) (length made + length rest)) is at.behind).1;
    }

-- one more pass aside
pub placed_pass : {B : Type 0} (t : Shared B) (v : View) (home : List ℕ) (plan : Plan) (made : List (RingJob PortState)) (rest rest' more more' : List (Seat (Option B) View)) (p q : Seat (Option B) View)
    → Placed t v home plan made rest more → more ≡ p ∷ more' → rest' ≡ rest ++ q ∷ [] → q ≡ p → Placed t v home plan made rest' more'
placed_pass {B} t v home plan made rest rest' more more' p q at is now same =
    let h = subst (EachFrom (IsBegun t v) (length made + length rest)) is at.behind in
    let long : length rest' ≡ length rest + 1 = ap length now ∙ length-append rest (q ∷ []) in
    record {
      ports = at.ports;
      aside = subst (EachFrom (IsBegun t v) (length made)) (sym now) (each_last (IsBegun t v) (length made) (length made + length rest) rest q (omega arith) at.aside (subst (λ (x : Seat (Option B) View). IsBegun t v (length made + length rest) x) (sym same) h.0));
      behind = subst (λ (n : ℕ). EachFrom (IsBegun t v) n more') (let e : length made + length rest + 1 ≡ length made + length rest' = omega arith in e) h.1;
    }

-- in the end

pub made_all : (v : View) (home : List ℕ) (plan : Plan) (made : List (RingJob PortState)) → EachFrom (IsPlaced v home plan) 0 made → (i : ℕ) (d : RingJob PortState) → i < length made → IsMade v home plan i (get_or made i d)
made_all v home plan made at = index_of (IsMade v home plan) made (each_by (IsPlaced v home plan) (IsMade v home plan) 0 made (λ n x p. p.made) at)

pub ready_all : (v : View) (home : List ℕ) (plan : Plan) (made : List (RingJob PortState)) → EachFrom (IsPlaced v home plan) 0 made → All (λ (r : RingJob PortState). IsReady r.port r.job) made
ready_all v home plan made at = λ i d lt. index_of (λ (n : ℕ) (r : RingJob PortState). IsReady r.port r.job) made (each_by (IsPlaced v home plan) (λ (n : ℕ) (r : RingJob PortState). IsReady r.port r.job) 0 made (λ n x p. p.ready) at) i d lt

pub at_all : (v : View) (home : List ℕ) (plan : Plan) (made : List (RingJob PortState)) → EachFrom (IsPlaced v home plan) 0 made → (i : ℕ) (d : RingJob PortState) → i < length made → IsAt home i (get_or made i d).port
at_all v home plan made at = index_of (λ (n : ℕ) (r : RingJob PortState). IsAt home n r.port) made (each_by (IsPlaced v home plan) (λ (n : ℕ) (r : RingJob PortState). IsAt home n r.port) 0 made (λ n x p. record { home_is = ap (λ (s : PortState). s.home) p.made.port; ring_is = ap (λ (s : PortState). s.ring) p.made.port; idle = ap (λ (s : PortState). s.mine) p.made.port; usable = ap (λ (s : PortState). is_usable s.refused) p.made.port }) at)

-- those that are given back, and those that were not met
pub rings_all : {B : Type 0} (t : Shared B) (v : View) (n : ℕ) (all all' rest : List (Seat (Option B) View)) → length all ≡ n → all' ≡ all ++ rest → ((i : ℕ) (d : Seat (Option B) View) → i < length all → HasIdle t i (get_or all i d)) → EachFrom (IsBegun t v) n rest → (i : ℕ) (d : Seat (Option B) View) → i < length all' → HasIdle t i (get_or all' i d)
rings_all {B} t v n all all' rest many is have begun =
    index_of (HasIdle t) all' (subst (EachFrom (HasIdle t) 0) (sym is) (each_both (HasIdle t) 0 n all rest (omega arith) (each_of (HasIdle t) all have) (each_by (IsBegun t v) (HasIdle t) n rest (λ m p b. has_idle t v m p b) begun)))
