-- One literal's turn, and one after another.
use Rattle.std.proofs.Common.{◌≡◌, ◌∙◌, ℕ, suc, ◌+◌, ◌<◌, ◌≤◌, ◌^◌, ◌-◌, false, List, [], ◌++◌, sym, refl, ap, subst, arith, inl, inr, ◌⊎◌, ⊎_elim, Contains, append-nil, append_assoc}
use Rattle.std.proofs.lemmas.Bool.{or_cases}
use Rattle.sat_words.specs.Literal.{Literal, opposite, IsOn, literal_of}
use Rattle.sat_words.specs.Clause.{has}
use Rattle.rup_model.proofs.Lists.{has_In}
use Rattle.drat_text.specs.declared.stop.LineStop.{LineStop}
use Rattle.simp_base.specs.WorkState.{WorkState, IsWork, known}
use Rattle.simp_base.specs.Calls.{Widened, next_literal}
use Rattle.simp_base.specs.Log.{Grows}
use Rattle.simp_base.specs.Lifted.{Lifted}
use Rattle.simp_base.proofs.Known.{on_alive}
use Rattle.model_stack.proofs.Walk.{lifts_along}
use Rattle.simp_base.proofs.Widening.{continues_grows, grows_along, work_wider, on_wider}
use Rattle.simp_add.specs.Common.{mentions}
use Rattle.simp_add.specs.Rule.{IsPartner, HasNoPartner, IsOver, nth_literal}
use Rattle.simp_add.specs.Shared.{AreShared}
use Rattle.simp_add.specs.Stages.{Stops, IsReplaceable, Done, Stepped, HasNoVariable, Passing}
use Rattle.simp_add.specs.Ends.{Shortened}
use Rattle.simp_add.proofs.Finding.{refuted}
use Rattle.simp_add.proofs.Growing.{goes_self, goes_along, continues_self, stopped_after}

abbrev lifted_self : (w : WorkState) → Lifted w w
lifted_self w = record { fixes = []; stack = sym (append-nil w.stack); lifts = λ m h. h }

abbrev lifted_along : (a b c : WorkState) → Lifted a b → Lifted b c → Lifted a c
lifted_along a b c f g = record {
  fixes = f.fixes ++ g.fixes;
  stack = g.stack ∙ ap (λ s. s ++ g.fixes) f.stack ∙ append_assoc a.stack f.fixes g.fixes;
  lifts = lifts_along (known a) (known b) (known c) f.fixes g.fixes f.lifts g.lifts;
}

grows_self : (w : WorkState) → Grows [] w w
grows_self w = continues_grows [] w w (continues_self w)

pub stepped_none : (w : WorkState) (l : Literal) → w.ended ≡ false → w.output.spent ≡ false → IsWork w → HasNoPartner w l → Stepped w w l
stepped_none w l going unspent kept none = record {
  on = goes_self w going unspent kept;
  entries = [];
  log = grows_self w;
  turn = inl (record { none = none; same = refl; quiet = refl });
  lifted = lifted_self w;
  unmended = refl;
  fewer = omega arith;
}

-- no clause has the next variable
pub next_free : (w : WorkState) → IsWork w → (n : ℕ) (c : List Literal) → Contains w.clauses (n, c) → mentions (next_literal w) c ≡ false
next_free w kept n c h = refuted _ (λ e. elim (or_cases (has c (next_literal w)) (has c (opposite (next_literal w))) e) as (λ _. ⊥) [
  | inl a ↦ (let on = on_alive w kept n c h (next_literal w) (has_In c (next_literal w) a) in let hi = on.high in omega arith)
  | inr b ↦ (let on = on_alive w kept n c h (opposite (next_literal w)) (has_In c (opposite (next_literal w)) b) in let hi = on.high in omega arith)
])

pub replaceable : (old mid : WorkState) (x l k : Literal) (firsts gone : List ℕ) → IsWork old → IsOn old.vars l → IsPartner old l k → AreShared old l k firsts gone → Widened old mid x → IsReplaceable mid x l k firsts gone
replaceable old mid x l k firsts gone kept on partner shared wide =
    subst (λ (y : Literal). IsReplaceable mid y l k firsts gone) (sym wide.literal)
    (subst (λ (m : WorkState). IsReplaceable m (next_literal old) l k firsts gone) (sym wide.state) (record {
      work = work_wider old (old.vars + 1) (omega arith) kept;
      new = record { low = omega arith; high = omega arith };
      above = (let low = kept.unheld in omega arith);
      free = next_free old kept;
      first = on_wider old.vars (old.vars + 1) (omega arith) l on;
      partner = record { after = partner.after; enough = partner.enough; most = partner.most; least = partner.least };
      shared = record { sets = shared.sets; counts = shared.counts; every = shared.every };
    }))

pub stepped_done : (old mid new : WorkState) (x l k : Literal) → IsPartner old l k → Widened old mid x → Grows [] old mid → Done mid new x l k → Stepped old new l
stepped_done old mid new x l k partner wide log h =
    by mid wide.state log (subst (λ (y : Literal). Done mid new y l k) wide.literal h)
  where
    at : Grows [] old (record old { vars = old.vars + 1 }) → Done (record old { vars = old.vars + 1 }) new (next_literal old) l k → Stepped old new l
    at g d = record {
      on = record { going = d.on.going; unspent = d.on.unspent; work = d.on.work; quiet = d.on.quiet; units = d.on.units; stack = d.on.stack };
      entries = d.entries;
      log = grows_along [] d.entries old (record old { vars = old.vars + 1 }) new g (continues_grows d.entries (record old { vars = old.vars + 1 }) new d.log);
      turn = inr (
        k,
        partner,
        record {
          room = wide.below;
          vars = d.vars;
          exchanged = (let e = d.exchanged in record { gone = e.gone; are = e.are; once = e.once; every = e.every; clauses = e.clauses; fewer = e.fewer });
        },
      );
      lifted = record { fixes = d.lifted.fixes; stack = d.lifted.stack; lifts = d.lifted.lifts };
      unmended = d.unmended;
      fewer = (let lt = d.exchanged.fewer in omega arith);
    }

    by : (m : WorkState) → m ≡ record old { vars = old.vars + 1 } → Grows [] old m → Done m new (next_literal old) l k → Stepped old new l
    by m e g d = at (subst (λ (v : WorkState). Grows [] old v) e g) (subst (λ (v : WorkState). Done v new (next_literal old) l k) e d)

-- All turns

pub passing_none : (w : WorkState) → w.ended ≡ false → w.output.spent ≡ false → IsWork w → Passing w w 0
passing_none w going unspent kept = record {
  on = goes_self w going unspent kept;
  entries = [];
  ran = (refl, refl);
  log = grows_self w;
  lifted = lifted_self w;
  unmended = refl;
  fewer = omega arith;
}

pub passing_next : (start now new : WorkState) (n : ℕ) → Passing start now n → Stepped now new (nth_literal n) → Passing start new (suc n)
passing_next start now new n p s = record {
  on = goes_along start now new p.on s.on;
  entries = p.entries ++ s.entries;
  ran = (now, p.entries, s.entries, refl, p.ran, s.turn);
  log = grows_along p.entries s.entries start now new p.log s.log;
  lifted = lifted_along start now new p.lifted s.lifted;
  unmended = (λ i. p.unmended i ++ s.unmended i);
  fewer = (let a = p.fewer in let b = s.fewer in omega arith);
}

pub stopped_passing : (start now new : WorkState) (n : ℕ) (stop : LineStop) → Passing start now n → Stops now new stop → Stops start new stop
stopped_passing start now new n stop p h = stopped_after start now new stop p.on.quiet (p.entries, p.log) h

pub shortened : (start now : WorkState) (n : ℕ) → Passing start now n → IsOver n now → Shortened start now
shortened start now n p over = record {
  turns = n;
  entries = p.entries;
  ran = p.ran;
  over = over;
  log = p.log;
  lifted = p.lifted;
  unmended = p.unmended;
  units = p.on.units;
  fewer = p.fewer;
  going = p.on.going;
  unspent = p.on.unspent;
  quiet = p.on.quiet;
}

-- by code

nth_at : (code : ℕ) → 2 ≤ code → nth_literal (code - 2) ≡ literal_of code
nth_at code le = ap literal_of (let e : (code - 2) + 2 ≡ code = omega arith in e)

pub over_at : (w : WorkState) (code vars : ℕ) → 2 ≤ code → vars ≡ w.vars → (vars < (literal_of code).var) ⊎ (2 ^ 30 < (literal_of code).var) → IsOver (code - 2) w
over_at w code vars le e h =
    let same_lit = nth_at code le in
    ⊎_elim
    (λ (q : vars < (literal_of code).var). inl (subst (λ (v : ℕ). v < (nth_literal (code - 2)).var) e (subst (λ (y : Literal). vars < y.var) (sym same_lit) q)))
    (λ (q : 2 ^ 30 < (literal_of code).var). inr (inl (subst (λ (y : Literal). 2 ^ 30 < y.var) (sym same_lit) q)))
    h

pub passing_at : (start now new : WorkState) (code : ℕ) (l : Literal) → 2 ≤ code → l ≡ literal_of code → Passing start now (code - 2) → Stepped now new l → Passing start new (code + 1 - 2)
passing_at start now new code l le is p s =
    subst (λ (n : ℕ). Passing start new n) (let e : suc (code - 2) ≡ code + 1 - 2 = omega arith in e)
    (passing_next start now new (code - 2) p (subst (λ (y : Literal). Stepped now new y) (is ∙ sym (nth_at code le)) s))

pub without_variable : (start now new : WorkState) (code : ℕ) (l : Literal) → 2 ≤ code → l ≡ literal_of code → Passing start now (code - 2) → HasNoVariable now new l → Shortened start new
without_variable start now new code l le is p h =
    subst (λ (v : WorkState). Shortened start v) (sym h.same)
    (shortened start now (code - 2) p (inr (inr (h.partner, subst (λ (y : Literal). IsPartner now y h.partner) (is ∙ sym (nth_at code le)) h.is, h.last))))
