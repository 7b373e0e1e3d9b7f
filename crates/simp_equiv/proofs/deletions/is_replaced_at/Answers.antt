use Rattle.std.proofs.Common.{◌≡◌, ◌∙◌, ℕ, Bool, true, false, List, sym, ap}
use Rattle.std.specs.List.{Contains}
use Rattle.sat_words.specs.Literal.{Literal}
use Rattle.simp_base.specs.WorkState.{WorkState, IsWork}
use Rattle.simp_base.proofs.Removal.{same_number}
use Rattle.simp_equiv.specs.Tables.{stand_in}
use Rattle.simp_equiv.specs.Replacements.{is_replaced}
use Rattle.simp_equiv.specs.Rewritten.{IsReplacedAt}
use Rattle.simp_equiv.proofs.Adding.{all_stand}
use Rattle.simp_equiv.proofs.deletions.is_replaced_at.Goals as goal

told : (w : WorkState) (sin : Literal → Literal) (n : ℕ) (c : List Literal) → IsWork w → Contains w.clauses (n, c) → (b : Bool) → b ≡ is_replaced sin c → IsReplacedAt w sin n b
told w sin n c kept h true e = (c, h, sym e)
told w sin n c kept h false e = λ d i. ap (is_replaced sin) (same_number w.clauses kept.numbers n d c i h) ∙ sym e

pub is_replaced-requires : goal.is_replaced-requires
is_replaced-requires g c = all_stand c.args.work.now c.args.table.now c.in-Some.ensures.work c.requires c.args.number c.in-Some.clause.now c.in-Some.ensures.some

pub returns-in-Some : goal.returns-in-Some
returns-in-Some g c = told c.args.work.now (stand_in c.args.table.now) c.args.number c.in-Some.clause.now c.in-Some.ensures.work c.in-Some.ensures.some c.is_replaced.result c.is_replaced.ensures.is

pub returns-in-None : goal.returns-in-None
returns-in-None g c d h = absurd (c.in-None.ensures.none d h)
