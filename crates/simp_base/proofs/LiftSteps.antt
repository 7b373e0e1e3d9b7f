-- Steps that lift models.
use Rattle.std.proofs.Common.{[], ◌++◌, sym, ap, ◌∙◌, append_assoc, append-nil, subst}
use Rattle.model_stack.proofs.Walk.{lifts_along}
use Rattle.simp_base.specs.WorkState.{WorkState, known}
use Rattle.simp_base.specs.Log.{Stands, KeepsLog}
use Rattle.simp_base.specs.Lifted.{Lifted}

pub lifted_along : (a b c : WorkState) → Lifted a b → Lifted b c → Lifted a c
lifted_along a b c f g = record {
  fixes = f.fixes ++ g.fixes;
  stack = g.stack ∙ ap (λ s. s ++ g.fixes) f.stack ∙ append_assoc a.stack f.fixes g.fixes;
  lifts = lifts_along (known a) (known b) (known c) f.fixes g.fixes f.lifts g.lifts;
}

pub lifted_self : (a : WorkState) → Lifted a a
lifted_self a = record { fixes = []; stack = sym (append-nil a.stack); lifts = λ m h. h }

pub logs_along : (a b c : WorkState) → KeepsLog a b → KeepsLog b c → KeepsLog a c
logs_along a b c f g = (
  f.0 ++ g.0,
  record {
    vars = g.1.vars ∙ f.1.vars;
    format = g.1.format ∙ f.1.format;
    stands = λ o mine h. subst (λ es. Stands o es c) (append_assoc mine f.0 g.0) (g.1.stands o (mine ++ f.0) (f.1.stands o mine h));
  },
)
