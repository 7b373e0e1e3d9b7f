-- A turn is taken and given back.
use Rattle.io_edge.specs.declared.edge.Sink.{Ghosts}
use Rattle.std.proofs.Common.{◌≡◌, ◌∙◌, ℕ, ◌+◌, Bool, true, List, [], ◌∷◌, refl, sym, ap, subst, None}
use Rattle.std.specs.Prelude.{slice_index_or}
use Rattle.std.specs.declared.option.Option.{Option}
use Rattle.rup_model.specs.declared.journal.Entry.{Entry}
use Rattle.share_rule.specs.declared.note.Note.{Note}
use Rattle.share_rule.specs.declared.view.RingPart.{RingPart}
use Rattle.share_rule.specs.declared.view.View.{View}
use Rattle.share_rule.specs.Books.{StandsFor}
use Rattle.share_rule.specs.Views.{only, no_part}
use Rattle.share_rule.specs.Steps.{on_first}
use Rattle.share_rule.specs.Turns.{IsFree, MayWrite, written_of, journal_in, take_part, after_take, after_miss}
use Rattle.log_book.specs.declared.book.Book.{Book}
use Rattle.log_book.specs.declared.turn.Turn.{Turn}
use Rattle.log_book.specs.Books.{account_of, IsLogOf}
use Rattle.log_book.specs.Turns.{IsTurn, HasBook, HasTaken, HasMissed}

pub missed : (v w : View) (free new found : ℕ) → w ≡ after_miss free new found v → HasMissed v w
missed v w free new found e = record { origin = ap (λ (u : View). u.origin) e; parts = ap (λ (u : View). u.parts) e; rights = ap (λ (u : View). u.rights) e; stop = ap (λ (u : View). u.stop) e; looks = ap (λ (u : View). u.looks) e; layout = ap (λ (u : View). u.layout) e; opening = ap (λ (u : View). u.opening) e }

pub missed_none : (v : View) → HasMissed v v
missed_none v = record { origin = refl; parts = refl; rights = refl; stop = refl; looks = refl; layout = refl; opening = refl }

pub missed_both : (u v w : View) → HasMissed u v → HasMissed v w → HasMissed u w
missed_both u v w a b = record { origin = b.origin ∙ a.origin; parts = b.parts ∙ a.parts; rights = b.rights ∙ a.rights; stop = b.stop ∙ a.stop; looks = b.looks ∙ a.looks; layout = b.layout ∙ a.layout; opening = b.opening ∙ a.opening }

pub free_still : (v w : View) → HasMissed v w → IsFree v → (only w ≡ only v) × IsFree w
free_still v w m h =
    let is : only w ≡ only v = ap (λ ps. slice_index_or ps 0 no_part) m.parts in
    (is, (m.parts ∙ h.0 ∙ (λ i. sym is i ∷ []), ap (λ (p : RingPart). p.turn) is ∙ h.1))

module _ {S : Type 0} {d : Ghosts S} (written flushed target : S → Option (List ℕ)) (faults : S → ℕ) where
  pub has_book : (v w : View) (b : Book S d) (J : List Entry) (fault : Bool) (free new : ℕ) → w ≡ after_take free new J fault v → new ≡ free + (only v).core.ring + 1 → StandsFor account_of (IsLogOf written flushed target faults) b v.origin v.layout v.opening J fault
      → ((only v).failed ≡ true → fault ≡ true) → (v.opening.rings ≡ 1 → fault ≡ true → (only v).failed ≡ true) → HasBook written flushed target faults v w b
  has_book v w b J fault free new e new_is h still alone = record {
    journal = J;
    free = free;
    view = e ∙ (λ i. after_take free (new_is i) J (sym h.faulty i) v);
    stands = subst (StandsFor account_of (IsLogOf written flushed target faults) b v.origin v.layout v.opening J) (sym h.faulty) h;
    still = λ q. h.faulty ∙ still q;
    alone = λ one q. alone one (sym h.faulty ∙ q);
  }

  -- nothing is written yet
  pub has_taken : (v w : View) (t : Turn S d) → v.parts ≡ only v ∷ [] → HasBook written flushed target faults v w t.book → t.noted.items ≡ [] → t.refused ≡ None → HasTaken written flushed target faults v w t
  has_taken v w t one b noted refused = record { book = b; noted = noted; refused = refused; turn = subst (λ (u : View). IsTurn written flushed target faults u t) (sym b.view) turn }
    where
      turn : IsTurn written flushed target faults (after_take b.free (b.free + (only v).core.ring + 1) b.journal t.book.log.lines.spent v) t
      turn =
          let u : View = after_take b.free (b.free + (only v).core.ring + 1) b.journal t.book.log.lines.spent v in
          let parts : u.parts ≡ take_part b.journal t.book.log.lines.spent (only v) ∷ [] = ap (on_first (take_part b.journal t.book.log.lines.spent)) one in
          let is : only u ≡ take_part b.journal t.book.log.lines.spent (only v) = ap (λ ps. slice_index_or ps 0 no_part) parts in
          let journal : (written_of u t.noted.items).journal ≡ b.journal = ap (λ (ns : List Note). (written_of u ns).journal) noted ∙ ap (λ (p : RingPart). journal_in p.turn) is in
          record {
            writing = (parts ∙ (λ i. sym is i ∷ []), (record { journal = b.journal }, ap (λ (p : RingPart). p.turn) is));
            may = subst (λ (ns : List Note). MayWrite u ns) (sym noted) tt;
            refused = (subst (λ x. Rattle.std.specs.Prelude.IfSome x (λ z. Rattle.share_rule.specs.Seen.IsRefused u.layout u.opening (written_of u t.noted.items).journal t.book.log.lines.spent z)) (sym refused) tt, λ e. sym (ap (λ (p : RingPart). p.failed) is) ∙ e);
            stands = subst (λ (K : List Entry). StandsFor account_of (IsLogOf written flushed target faults) t.book v.origin v.layout v.opening K t.book.log.lines.spent) (sym journal) b.stands;
          }
