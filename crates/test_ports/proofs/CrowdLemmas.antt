-- What the port of three rings holds.
use Rattle.std.proofs.Common.{◌≡◌, ◌∙◌, ℕ, ◌+◌, ◌-◌, ◌^◌, ◌<◌, ◌==◌, cond, Bool, true, false, List, [], ◌∷◌, ◌++◌, map, length, take, drop, get_or, refl, sym, ap, subst, inl, inr, arith, Some, None, IsSome, IfSome}
use Rattle.std.specs.List.{find}
use Rattle.std.specs.declared.option.Option.{Option}
use Rattle.std.proofs.Math.Seq.{take-length}
use Rattle.std.proofs.lemmas.List.{take_more, take-append-drop, get_or-map, length-map, take-map, map-append}
use Rattle.std.proofs.lemmas.List.Elements.{All-take, All-cons, All-nil}
use Rattle.std.proofs.lemmas.Bool.{eq-eqb, false≢true}
use Rattle.sat_words.specs.declared.shared.Cref.{Cref}
use Rattle.sat_words.specs.declared.shared.Stop.{Stop}
use Rattle.rup_model.proofs.Lists.{In, In_append_left, In_append_right, In_Contains, Contains_In, In_get_or}
use Rattle.ring_port.specs.declared.stops.PortStop.{PortStop}
use Rattle.ring_port.specs.PortState.{PortState, Holding, IsPort, IsKept, IsStop, held_at, one_more, HoldsStart}
use Rattle.ring_port.specs.Port.{KeepsHeld}
use Rattle.ring_port.specs.Exchange.{TookClause}
use Rattle.ring_port.proofs.Holdings.{All_In}
use Rattle.ring_port.proofs.PlainLemmas.{kept_pushed}
use Rattle.test_ports.specs.Crowd.{Asked, asked, all_left, crowd_of, front, IsLast, slot_of, looks_before}
use Rattle.test_ports.specs.declared.crowd.Poll.{Poll}
use Rattle.test_ports.specs.declared.crowd.Tickets.{Tickets}

pub held_same : (s u : PortState) (a : ℕ) → u.held ≡ s.held → held_at u a ≡ held_at s a
unfolding held_at
held_same s u a e = ap (λ (hs : List Holding). held_at (record s { held = hs }) a) e

-- The last clause, and those before it

front_push : (hs : List Holding) (d : Holding) → 0 < length hs → hs ≡ front hs ++ get_or hs (length hs - 1) d ∷ []
front_push hs d some =
    let e : length hs ≡ length hs - 1 + 1 = omega arith in
    sym (take-length hs) ∙ ap (λ (n : ℕ). take n hs) e ∙ take_more hs (length hs - 1) d (omega arith)

in_front : (hs : List Holding) (h : Holding) → In h (front hs) → In h hs
in_front hs h among = subst (λ (ks : List Holding). In h ks) (take-append-drop (length hs - 1) hs) (In_append_left (front hs) (drop (length hs - 1) hs) h among)

abbrev pub address_of : Holding → Cref
address_of h = record { address = h.address }

abbrev pub none : Holding
none = record { address = 0; number = 0; glue = 0; lits = [] }

-- if the addresses of what is held are known, so is the last one
pub is_last : (s : PortState) (c : Cref) (rs : List Cref) (n : ℕ) → n ≡ length rs → s.held ≡ s.start → rs ≡ map address_of s.start → 0 < n → Some c ≡ Some (get_or rs (n - 1) (address_of none)) → IsLast s c.address
is_last s c rs n n_is held_is rs_is some last =
    let rs_held : rs ≡ map address_of s.held = rs_is ∙ ap (map address_of) (sym held_is) in
    let many : n ≡ length s.held = n_is ∙ ap length rs_held ∙ length-map s.held address_of in
    let at : c ≡ address_of (get_or s.held (length s.held - 1) none) =
    cc last ∙ ap (λ (xs : List Cref). get_or xs (n - 1) (address_of none)) rs_held ∙ ap (λ (m : ℕ). get_or (map address_of s.held) (m - 1) (address_of none)) many
    ∙ get_or-map address_of s.held (length s.held - 1) none (address_of none) (omega arith) in
    record { clause = get_or s.held (length s.held - 1) none; there = front_push s.held none (omega arith); address = sym (ap (λ (r : Cref). r.address) at) }

-- the addresses of the others
pub start_front : (s : PortState) (rs fs : List Cref) (n : ℕ) → n ≡ length rs → rs ≡ map address_of s.start → fs ≡ take (n - 1) rs → fs ≡ map address_of (front s.start)
start_front s rs fs n n_is rs_is fs_is =
    fs_is ∙ ap (λ (m : ℕ). take (m - 1) rs) n_is ∙ ap (λ (xs : List Cref). take (length xs - 1) xs) rs_is ∙ ap (λ (n : ℕ). take (n - 1) (map address_of s.start)) (length-map s.start address_of) ∙ take-map address_of (length s.start - 1) s.start

-- Looking up

-- what is among the clauses is found at its address
among_found : (hs : List Holding) (h : Holding) → In h hs → IsSome (find (λ (k : Holding). k.address == h.address) hs)
among_found [] h among = absurd among
among_found (k ∷ ks) h among = at (k.address == h.address) refl among (among_found ks h)
  where
    at : (b : Bool) → (k.address == h.address) ≡ b → In h (k ∷ ks) → (In h ks → IsSome (find (λ (x : Holding). x.address == h.address) ks)) → IsSome (find (λ (x : Holding). x.address == h.address) (k ∷ ks))
    at true e x rest = subst (λ (b : Bool). IsSome (cond b (Some k) (find (λ (y : Holding). y.address == h.address) ks))) (sym e) refl
    at false e (inl same) rest = absurd (cc (eq-eqb k.address h.address (ap (λ (x : Holding). x.address) same)))
    at false e (inr x) rest = subst (λ (b : Bool). IsSome (cond b (Some k) (find (λ (y : Holding). y.address == h.address) ks))) (sym e) (rest x)

pub held_found : (s : PortState) (h : Holding) → In h s.held → IsSome (held_at s h.address)
unfolding held_at
held_found s h among = among_found s.held h among

-- what it holds is what the port in memory holds there
pub crowd_held : (s : PortState) (l : ℕ) (taken : Option Cref) (stop : Option Stop) (looks : ℕ) (refused : Option PortStop) (polled : Asked) (a : ℕ) → IsLast s l
    → IsSome (held_at (crowd_of s taken stop looks refused polled) a) → held_at (crowd_of s taken stop looks refused polled) a ≡ held_at s a
crowd_held s l None stop looks refused polled a last some = sym (kept_pushed (crowd_of s None stop looks refused polled) s last.clause last.there a some)
crowd_held s l (Some c) stop looks refused polled a last some = held_same s (crowd_of s (Some c) stop looks refused polled) a refl

pub held_here : (s : PortState) (l : ℕ) (taken : Option Cref) (stop : Option Stop) (looks : ℕ) (refused : Option PortStop) (polled : Asked) (a : ℕ) (u : PortState) → crowd_of s taken stop looks refused polled ≡ u → IsLast s l
    → IsSome (held_at u a) → held_at u a ≡ held_at s a
held_here s l taken stop looks refused polled a u e last some =
    let back : IsSome (held_at (crowd_of s taken stop looks refused polled) a) = subst (λ (v : PortState). IsSome (held_at v a)) (sym e) some in
    ap (λ (v : PortState). held_at v a) (sym e) ∙ crowd_held s l taken stop looks refused polled a last back

-- How it begins

pub crowd_holds : (s : PortState) (l limit : ℕ) → IsLast s l → s.held ≡ s.start → HoldsStart s → HoldsStart (crowd_of s None None 0 None (asked 0 [] 0 (all_left limit)))
crowd_holds s l limit last held_is h k d lt =
    let x = get_or (front s.start) k d in
    let there : held_at s x.address ≡ Some x = All-take (λ (y : Holding). held_at s y.address ≡ Some y) (length s.start - 1) s.start h k d lt in
    let among : In x (front s.held) = subst (λ (hs : List Holding). In x (front hs)) (sym held_is) (In_get_or (front s.start) k d lt) in
    sym (kept_pushed (crowd_of s None None 0 None (asked 0 [] 0 (all_left limit))) s last.clause last.there x.address (held_found (crowd_of s None None 0 None (asked 0 [] 0 (all_left limit))) x among)) ∙ there

pub crowd_begins : (s : PortState) (limit : ℕ) → limit < 2 ^ 64 → IsPort s → IsPort (crowd_of s None None 0 None (asked 0 [] 0 (all_left limit)))
crowd_begins s limit fits p = record {
  held = All-take (IsKept s.vars) (length s.held - 1) s.held p.held;
  one = λ h k x y e. p.one h k (In_Contains s.held h (in_front s.held h (Contains_In (front s.held) h x))) (In_Contains s.held k (in_front s.held k (Contains_In (front s.held) k y))) e;
  waiting = λ k d lt. absurd (omega arith);
  apart = λ k d lt. absurd (omega arith);
  once = tt;
  taken = λ k d lt. absurd (omega arith);
  given = λ k d lt. absurd (omega arith);
  start = All-take (IsKept s.vars) (length s.start - 1) s.start p.start;
  seen = λ k d lt. absurd (omega arith);
  opening = λ k d lt. absurd (omega arith);
  stop = tt;
  ring = omega arith;
  deep = omega arith;
  few = fits;
  named = λ hinted. absurd (false≢true hinted);
}

-- What stays if nothing is taken

pub crowd_goes_on : (s : PortState) (taken : Option Cref) (stop other : Option Stop) (looks more : ℕ) (refused told : Option PortStop) (polled polled_more : Asked) → polled_more.tickets.limit ≡ polled.tickets.limit → IsPort (crowd_of s taken stop looks refused polled) → IfSome other (IsStop 3)
    → IsPort (crowd_of s taken other more told polled_more)
crowd_goes_on s taken stop other looks more refused told polled polled_more same p is_stop = record {
  held = p.held;
  one = p.one;
  waiting = p.waiting;
  apart = λ k d lt. absurd (omega arith);
  once = tt;
  taken = λ k d lt. subst (λ (o : Option Holding). IsSome o) (sym (held_same (crowd_of s taken stop looks refused polled) (crowd_of s taken other more told polled_more) _ refl)) (p.taken k d lt);
  given = p.given;
  start = p.start;
  seen = p.seen;
  opening = p.opening;
  stop = is_stop;
  ring = p.ring;
  deep = p.deep;
  few = subst (λ (n : ℕ). n < 2 ^ 64) (sym same) p.few;
  named = λ hinted. absurd (false≢true hinted);
}

-- Polls

-- one poll more
abbrev pub asked_again : ℕ → ℕ → ℕ → Asked → Asked
asked_again from class place q = record { polled = one_more q.polled; polls = q.polls ++ record { ring = from; class = class; place = place } ∷ []; polls_after = q.polls_after ++ q.caught_up ∷ []; caught_up = q.caught_up; tickets = q.tickets }

pub asked_more : (n k m : ℕ) (ps qs : List Poll) (from class place : ℕ) (ti : Tickets) → m ≡ one_more n → qs ≡ ps ++ record { from = from; class = class; place = place; caught_up = k } ∷ [] → asked m qs k ti ≡ asked_again from class place (asked n ps k ti)
asked_more n k m ps qs from class place ti more is =
    let x : Poll = record { from = from; class = class; place = place; caught_up = k } in
    (λ i. asked (more i) (is i) k ti) ∙ (λ i. record { polled = one_more n; polls = map-append slot_of ps (x ∷ []) i; polls_after = map-append looks_before ps (x ∷ []) i; caught_up = k; tickets = ti })

-- How the last clause is taken

among_last : (s : PortState) (l : ℕ) (last : IsLast s l) → In last.clause s.held
among_last s l last = subst (λ (hs : List Holding). In last.clause hs) (sym last.there) (In_append_right (front s.held) (last.clause ∷ []) last.clause (inl refl))

module _ (s : PortState) (c : Cref) (last : IsLast s c.address) (port : IsPort s) (stop : Option Stop) (looks : ℕ) (refused : Option PortStop) (polled : Asked) where
  pub took : (from class place : ℕ) (n : Asked) → n ≡ asked_again from class place polled → TookClause (crowd_of s None stop looks refused polled) (crowd_of s (Some c) stop looks refused n) from class place c
  took from class place n e = record {
    clause = last.clause;
    address = last.address;
    kept = All_In (IsKept s.vars) s.held last.clause port.held (among_last s c.address last);
    state = λ i. record (crowd_of s (Some c) stop looks refused (e i)) { held = last.there i };
  }

  pub port_taken : (n : Asked) → n.tickets.limit ≡ polled.tickets.limit → IsPort (crowd_of s None stop looks refused polled) → IsPort (crowd_of s (Some c) stop looks refused n)
  port_taken n same old = record {
    held = port.held;
    one = port.one;
    waiting = old.waiting;
    apart = λ k d lt. absurd (omega arith);
    once = tt;
    taken = All-cons (λ (a : ℕ). IsSome (held_at (crowd_of s (Some c) stop looks refused n) a)) c.address []
        (subst (λ (a : ℕ). IsSome (held_at (crowd_of s (Some c) stop looks refused n) a)) last.address (held_found (crowd_of s (Some c) stop looks refused n) last.clause (among_last s c.address last)))
        (All-nil (λ (a : ℕ). IsSome (held_at (crowd_of s (Some c) stop looks refused n) a)));
    given = old.given;
    start = old.start;
    seen = old.seen;
    opening = old.opening;
    stop = old.stop;
    ring = old.ring;
    deep = old.deep;
    few = subst (λ (k : ℕ). k < 2 ^ 64) (sym same) old.few;
    named = λ hinted. absurd (false≢true hinted);
  }

  pub keeps_held : (n : Asked) → KeepsHeld (crowd_of s None stop looks refused polled) (crowd_of s (Some c) stop looks refused n)
  keeps_held n = kept_pushed (crowd_of s None stop looks refused polled) (crowd_of s (Some c) stop looks refused n) last.clause last.there
