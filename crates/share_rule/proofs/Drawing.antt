-- Drawing a ticket keeps the rule.
use Rattle.std.proofs.Common.{◌≡◌, ℕ, ◌+◌, ◌%◌, ◌^◌, ◌<◌, ◌≤◌, Bool, true, false, List, length, set, length-set, get_or-set_other, get_or-set_same, refl, sym, ap, ◌∙◌, subst, inr, arith, Option}
use Rattle.std.specs.Prelude.{slice_index}
use mathlib.Core.Option.{some}
use mathlib.Core.Option as maybe
use lib.ListN.{get_elem?}
use Rattle.atomic_table.specs.Table.{State as Table, Me, keeps, step, Allows}
use Rattle.rup_model.specs.declared.journal.Entry.{Entry}
use Rattle.rup_model.specs.Basics.{put}
use Rattle.rup_model.proofs.Sums.{put_here, put_else}
use Rattle.share_core.specs.declared.event.Event.TheVariants.{Draw}
use Rattle.share_core.specs.declared.part.CoreOpening.{CoreOpening}
use Rattle.share_core.specs.declared.part.Part.{Part}
use Rattle.share_core.specs.State.{State}
use Rattle.share_core.specs.Events.{after, drew_part}
use Rattle.share_core.specs.Sound.{Sound}
use Rattle.share_core.proofs.Leaving.{left_sound, left_one}
use Rattle.share_core.proofs.Tickets.{few_drawn}
use Rattle.share_rule.specs.declared.view.BookOrigin.{BookOrigin}
use Rattle.share_rule.specs.declared.Layout.{Layout}
use Rattle.share_rule.specs.declared.rule.Key.{Key}
use Rattle.share_rule.specs.declared.view.RingPart.{RingPart}
use Rattle.share_rule.specs.declared.view.View.{View}
use Rattle.share_rule.specs.Layout.{grant_at, unit_at, number_at, slot_at, ticket_at}
use Rattle.share_rule.specs.Views.{only, is_ready}
use Rattle.share_rule.specs.Steps.{on_first}
use Rattle.share_rule.specs.Tickets.{MayDraw, draw_part, after_draw}
use Rattle.share_rule.specs.TicketsTold.{did_draw}
use Rattle.share_rule.specs.Seen.{Stands, IsPart}
use Rattle.share_rule.specs.Shown.{Words, Shown, Shows, IsOut, ring_of}
use Rattle.share_rule.proofs.Parts.{is_open, standing_of}
use Rattle.share_rule.proofs.Words.{spells_else, unit_kept}
use Rattle.share_rule.proofs.Moves.{one_ring, frame_of, given_same, stops_same, moved}
use Rattle.share_rule.proofs.Steps.{told}

-- one ticket more is drawn
ticket_words : (l : Layout) (c : State) (glue : ℕ → ℕ) (ws : List ℕ) (r : ℕ) (p : Part) → Stands l c → Words l c glue ws
    → Words l (record c { part = put c.part r p; drawn = c.drawn + 1 }) glue (set ws (ticket_at l) (c.drawn + 1))
ticket_words l c glue ws r p st w =
    let few = st.few in
    let wide = w.wide in
    let at : ℕ = ticket_at l in
    let n : ℕ = c.drawn + 1 in
    let in_ws : at < length ws = omega arith in
    record {
      wide = length-set ws at n ∙ w.wide;
      turn_is = get_or-set_other ws at 0 n 0 (λ e. omega arith) ∙ w.turn_is;
      stop_is = get_or-set_other ws at 1 n 0 (λ e. omega arith) ∙ w.stop_is;
      listed_is = get_or-set_other ws at 2 n 0 (λ e. omega arith) ∙ w.listed_is;
      grant_is = λ i it. get_or-set_other ws at (grant_at i) n 0 (λ e. omega arith) ∙ w.grant_is i it;
      unit_is = λ k kt. get_or-set_other ws at (unit_at l k) n 0 (λ e. omega arith) ∙ w.unit_is k kt;
      slot_is = λ k kt. get_or-set_other ws at (slot_at l k) n 0 (λ e. omega arith) ∙ w.slot_is k kt;
      count_is = λ b y e o. let q = (st.inside b y e).1 in get_or-set_other ws at b n 0 (λ z. omega arith) ∙ w.count_is b y e o;
      cell_is = λ b y e o. let q = (st.inside b y e).1 in spells_else ws at n b y.number (glue y.number) y.lits (λ i some it z. omega arith) (w.cell_is b y e o);
      ticket_is = get_or-set_same ws at n 0 in_ws;
      number_is = λ k kt. get_or-set_other ws at (number_at l k) n 0 (λ e. omega arith) ∙ w.number_is k kt;
    }

-- what rings stored stays
ticket_out : (l : Layout) (c d : State) (ws : List ℕ) (n : ℕ) (p : RingPart) → Stands l c → ((a : ℕ) → d.cell a ≡ c.cell a) → d.turn ≡ c.turn → d.units ≡ c.units → IsOut l c ws p → IsOut l d (set ws (ticket_at l) n) p
ticket_out l c d ws n p st same turn units z = (
  record {
    words = λ v m e. let b = z.0.inside v m e in let hi = b.5 in let at = (st.inside b.0 b.1 b.2).1 in get_or-set_other ws (ticket_at l) v n 0 (λ q. omega arith) ∙ z.0.words v m e;
    inside = λ v m e. let b = z.0.inside v m e in (b.0, b.1, same b.0 ∙ b.2, b.3, b.4, b.5);
  },
  unit_kept l c d ws (ticket_at l) n p turn units (λ k lt. ((λ e. omega arith), (λ e. omega arith))) z.1,
)

-- the number drawn never runs over
one_drawn : (n drawn limit rings : ℕ) → n ≡ drawn → drawn ≤ limit + rings → limit ≤ 2 ^ 63 → rings ≤ 16 → (n + 1) % 2 ^ 64 ≡ drawn + 1
one_drawn n drawn limit rings e most limited few = omega arith

module _ {S : Type 0} (stands : S → BookOrigin → Layout → CoreOpening → List Entry → Bool → Type 0) (k : Key) where
  pub draw_next : (s : Table (Option S) View) (h : Shows stands k.layout s) (id : ℕ) (v : View) → get_elem? s.views id ≡ some v → is_ready v.stage ≡ true → MayDraw v
      → (n : Shows stands k.layout (record { words = set s.words (ticket_at v.layout) ((slice_index s.words (ticket_at v.layout) + 1) % 2 ^ 64); homes = s.homes; views = set s.views id (after_draw (slice_index s.words (ticket_at v.layout)) v) })) × (n.core ≡ after h.core (Draw (ring_of (only v))))
      × (slice_index s.words (ticket_at v.layout) ≡ h.core.drawn) × ((only v).core.found ≤ h.core.drawn)
  draw_next s h id v at ready may =
      let l : Layout = k.layout in
      let c : State = h.core in
      let p : RingPart = only v in
      let r : ℕ = ring_of p in
      let f = h.each id v at in
      let mine = one_ring l c h.glue h.owner id v f may.one in
      let part : IsPart l c h.glue p = mine.0 in
      let shown = f.told ready in
      let st : Stands l c = standing_of stands l s h in
      let sound : Sound c = left_sound c.opening c h.left in
      let w : ℕ = ticket_at v.layout in
      let word : w ≡ ticket_at l = ap ticket_at shown.0 in
      let n : ℕ = slice_index s.words w in
      let n_is : n ≡ c.drawn = ap (slice_index s.words) word ∙ h.words.ticket_is in
      let m : ℕ = (n + 1) % 2 ^ 64 in
      let m_is : m ≡ c.drawn + 1 = one_drawn n c.drawn c.opening.limit c.opening.rings n_is (few_drawn c.opening c.drawn c.part sound.tickets) h.left.opens.limited h.left.opens.few_rings in
      let limit_is : v.opening.limit ≡ c.opening.limit = ap (λ (o : CoreOpening). o.limit) shown.1 in
      let none : (c.part r).ticket ≡ false = subst (λ (q : Part). q.ticket ≡ false) part.part may.none in
      let few : (c.part r).found ≤ c.opening.limit = subst (λ (y : Part × ℕ). y.0.found ≤ y.1) (λ i. (part.part i, limit_is i)) may.found in
      let found : p.core.found ≤ c.drawn = subst (λ (q : Part). q.found ≤ c.drawn) (sym part.part) (sound.tickets.found r) in
      let q' : Part = drew_part c.opening.limit c.drawn (c.part r) in
      let d : State = after c (Draw r) in
      let q : RingPart = draw_part v.opening.limit n p in
      let new : drew_part v.opening.limit n p.core ≡ q' = (λ i. drew_part (limit_is i) (n_is i) (part.part i)) in
      let out : (y : RingPart) → IsOut l c s.words y → IsOut l d (set s.words w m) y =
      λ y z. subst (λ (u : ℕ × ℕ). IsOut l d (set s.words u.0 u.1) y) (λ i. (sym word i, sym m_is i)) (ticket_out l c d s.words (c.drawn + 1) y st (λ _. refl) refl refl z) in
      let t = moved stands l s h d h.glue id v (after_draw n v) q (set s.words w m) s.homes at
      (left_one c.opening c (Draw r) h.left (part.ring, none, few))
      (record { rings = h.places.rings; depth = h.places.depth; limit = h.places.limit; small = h.places.small; words = h.places.words; only = h.places.only; tiled = h.places.tiled; vars = h.places.vars; starts = h.places.starts; entries = h.places.entries; units = h.places.units; few = h.places.few; first = h.places.first })
      (subst (λ (u : ℕ × ℕ). Words l d h.glue (set s.words u.0 u.1)) (λ i. (sym word i, sym m_is i)) (ticket_words l c h.glue s.words r q' st h.words))
      (frame_of r c d h.glue (record { opening = refl; journal = refl; turn = refl; units = refl; stop = refl; slots = λ _. refl; clauses = λ _. refl }) (λ _ _. refl) (put_else c.part r q')) (λ _. refl) h.home
      may.one refl (ap (on_first (draw_part v.opening.limit n)) may.one) refl refl refl refl refl
      (stops_same c.stop v (after_draw n v) q may.one (ap (on_first (draw_part v.opening.limit n)) may.one) refl refl f.stops)
      (record { ring = part.ring; part = new ∙ sym (put_here c.part r q'); glues = part.glues; made_glues = part.made_glues; turn = part.turn; listed = part.listed; whole = part.whole; refused = part.refused; set = part.set; ended_is = part.ended_is; given = given_same c d r p.gave refl (λ _. refl) (λ _. refl) part.given })
      (λ y _ z. out y z)
      (let own = out p (h.stored id v 0 p at (ap (λ ps. get_elem? ps 0) may.one)) in (own.0, own.1)) in
      (t.0, t.1, n_is, found)

  pub draws : (slots id : ℕ) (me : Me (Option S) View) → is_ready me.0.stage ≡ true → MayDraw me.0
      → Allows (Shown stands k) slots id me (ticket_at me.0.layout) (λ n. (n + 1) % 2 ^ 64) (did_draw (step slots (ticket_at me.0.layout) 1 0 maybe.none) me)
  draws slots id me ready may s shown wide at small =
      let h : Shows stands k.layout s = is_open stands k s id me.0 shown at ready in
      let v : View = me.0 in
      let w : ℕ = ticket_at v.layout in
      let n : ℕ = slice_index s.words w in
      let next = draw_next s h id v at ready may in
      let found : (only v).core.found ≤ n = subst (λ (y : ℕ). (only v).core.found ≤ y) (sym next.2) next.3 in
      (after_draw n v, keeps, tt, inr next.0, ((refl, refl, told stands k s (set s.words w ((n + 1) % 2 ^ 64)) id v (after_draw n v) at ready next.0), found))
