-- Ways compose.
use Rattle.std.proofs.Common.{◌≡◌, List, [], ◌∷◌, ◌++◌, refl, sym, subst}
use Rattle.simp_equiv.specs.Graphs.{Walk, Reaches, Connected}

walk_append : {N : Type 0} (E : N → N → Type 0) (k l m : N) (js is : List N) → Walk E k js l → Walk E l is m → Walk E k (js ++ is) m
walk_append {N} E k l m [] is w v = subst (λ (x : N). Walk E x is m) (sym w) v
walk_append E k l m (j ∷ js) is w v = (w.0, walk_append E j l m js is w.1 v)

pub chain : {N : Type 0} (E : N → N → Type 0) (k l m : N) → Reaches E k l → Reaches E l m → Reaches E k m
chain E k l m r s = record { through = r.through ++ s.through; walk = walk_append E k l m r.through s.through r.walk s.walk }

pub stay : {N : Type 0} (E : N → N → Type 0) (k l : N) → k ≡ l → Reaches E k l
stay E k l e = record { through = []; walk = e }

pub along : {N : Type 0} (E : N → N → Type 0) (k l : N) → E k l → Reaches E k l
along E k l e = record { through = l ∷ []; walk = (e, refl) }

pub connected_self : {N : Type 0} (E : N → N → Type 0) (k : N) → Connected E k k
connected_self E k = record { there = stay E k k refl; back = stay E k k refl }

pub connected_chain : {N : Type 0} (E : N → N → Type 0) (k l m : N) → Connected E k l → Connected E l m → Connected E k m
connected_chain E k l m a b = record { there = chain E k l m a.there b.there; back = chain E m l k b.back a.back }

pub connected_back : {N : Type 0} (E : N → N → Type 0) (k l : N) → Connected E k l → Connected E l k
connected_back E k l a = record { there = a.back; back = a.there }
