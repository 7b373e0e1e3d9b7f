-- A chain of tests and one test more.
use Rattle.std.proofs.Common.{◌≡◌, Bool, true, false, ◌&&◌, sym, refl, true≢false}

pub one_more : (a f : Bool) → a ≡ true → f ≡ (a && f)
one_more true f h = refl
one_more false f h = absurd (true≢false (sym h))

pub two_more : (a b f : Bool) → (a && b) ≡ true → f ≡ (a && (b && f))
two_more true true f h = refl
two_more true false f h = absurd (true≢false (sym h))
two_more false b f h = absurd (true≢false (sym h))

pub two_fewer : (a b f : Bool) → (a && b) ≡ false → false ≡ (a && (b && f))
two_fewer true true f h = absurd (true≢false h)
two_fewer true false f h = refl
two_fewer false b f h = refl

pub four_more : (a b c d f : Bool) → (a && (b && (c && d))) ≡ true → f ≡ (a && (b && (c && (d && f))))
four_more true true true true f h = refl
four_more true true true false f h = absurd (true≢false (sym h))
four_more true true false d f h = absurd (true≢false (sym h))
four_more true false c d f h = absurd (true≢false (sym h))
four_more false b c d f h = absurd (true≢false (sym h))

pub four_fewer : (a b c d f : Bool) → (a && (b && (c && d))) ≡ false → false ≡ (a && (b && (c && (d && f))))
four_fewer true true true true f h = absurd (true≢false h)
four_fewer true true true false f h = refl
four_fewer true true false d f h = refl
four_fewer true false c d f h = refl
four_fewer false b c d f h = refl

pub five_more : (a b c d e f : Bool) → (a && (b && (c && (d && e)))) ≡ true → f ≡ (a && (b && (c && (d && (e && f)))))
five_more true true true true true f h = refl
five_more true true true true false f h = absurd (true≢false (sym h))
five_more true true true false e f h = absurd (true≢false (sym h))
five_more true true false d e f h = absurd (true≢false (sym h))
five_more true false c d e f h = absurd (true≢false (sym h))
five_more false b c d e f h = absurd (true≢false (sym h))

pub five_fewer : (a b c d e f : Bool) → (a && (b && (c && (d && e)))) ≡ false → false ≡ (a && (b && (c && (d && (e && f)))))
five_fewer true true true true true f h = absurd (true≢false h)
five_fewer true true true true false f h = refl
five_fewer true true true false e f h = refl
five_fewer true true false d e f h = refl
five_fewer true false c d e f h = refl
five_fewer false b c d e f h = refl
