-- A book that takes holes keeps its log.
use Rattle.std.proofs.Common.{◌≡◌, ◌∙◌, suc, List, false, sym, ap}
use Rattle.std.specs.Prelude.{is_some}
use Rattle.sat_words.specs.Literal.{Literal}
use Rattle.clause_cell.specs.declared.holes.Hole.{Hole}
use Rattle.rup_model.specs.declared.journal.Entry.{Entry}
use Rattle.share_rule.specs.declared.Layout.{Layout}
use Rattle.share_rule.specs.declared.view.BookOrigin.{BookOrigin}
use Rattle.share_rule.specs.Books.{Account, HasLog}

pub log_kept : {B : Type 0} (account : B → Account) (written : B → BookOrigin → Layout → List (List Literal) → List Entry → Type 0) (b b' : B) (hs : List Hole) (w : BookOrigin) (l : Layout) (F : List (List Literal)) (J : List Entry)
    → HasLog account written b w l F J → account b' ≡ record (account b) { ended = false; holes = hs } → ((w : BookOrigin) (l : Layout) (F : List (List Literal)) (J : List Entry) → written b w l F J → written b' w l F J) → HasLog account written b' w l F J
log_kept account written b b' hs w l F J h is more = record {
  entries = ap (λ (a : Account). a.entries) is ∙ h.entries;
  last = ap (λ (a : Account). suc a.last) is ∙ h.last;
  keeps = ap (λ (a : Account). is_some a.kept) is ∙ h.keeps;
  kept = λ q ls e. h.kept (ap (λ (a : Account). a.broken) (sym is) ∙ q) ls (ap (λ (a : Account). a.kept) (sym is) ∙ e);
  sink = more w l F J h.sink;
}
