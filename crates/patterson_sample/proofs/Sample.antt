-- The code's zeros and support, what the decoder computes from the syndrome, and the vector that it gives back.
use mathlib.Core.Path.{◌≡◌, refl, sym, ap, subst, fun_ext, ◌∙◌}
use mathlib.Core.Bool.{Bool, true, false}
use mathlib.Core.List.{[], ◌∷◌}
use mathlib.Core.Logic.{inl, inr}
use mathlib.Core.Option.{some}
use Prim.Native.Nat.{ℕ, zero, suc}
use native.Mathlib.Omega.{arith}
use Rattle.algebra.specs.Ring.{ring_of}
use Rattle.algebra.specs.Poly.{eval}
use Rattle.algebra.specs.Series.{ser}
use Rattle.patterson.specs.Points.{In}
use Rattle.patterson.specs.Polys.{Poly, Splits}
use Rattle.patterson.specs.Code.{GoppaCode}
use Rattle.patterson.specs.Columns.{columns_sum}
use Rattle.patterson.specs.Errors.{Decodes}
use Rattle.patterson.specs.Euclid.{EuclidState, CommonDivisor}
use Rattle.patterson.specs.Decoder.{Prepared, RootOf, Stopped, candidate, ZeroTest}
use Rattle.patterson.proofs.Polys.{poly_const, poly_zero, poly_wider}
use Rattle.patterson.proofs.Vectors.{false_not_true}
use Rattle.patterson.proofs.Theorems.{euclid_start, euclid_step, euclid_end, decoding}
use Rattle.patterson_sample.specs.Four.{Four, n0, n1, w1, w2, plus, times, four}
use Rattle.patterson_sample.specs.Sample.{goppa, zeros, support, syndrome, both, one, itself, next}
use Rattle.patterson_sample.proofs.Laws.{num, laws, perfect}

abbrev g : Four → Four
g = eval four goppa

abbrev s : Four → Four
s = eval four syndrome

abbrev none : Four → Four
none x = n0

by_cases : (φ ψ : Four → Four) → φ n0 ≡ ψ n0 → φ n1 ≡ ψ n1 → φ w1 ≡ ψ w1 → φ w2 ≡ ψ w2 → (y : Four) → φ y ≡ ψ y
by_cases φ ψ a b c d n0 = a
by_cases φ ψ a b c d n1 = b
by_cases φ ψ a b c d w1 = c
by_cases φ ψ a b c d w2 = d

apart_01 : n0 ≡ n1 → ⊥
apart_01 e = let z : ◌≡◌ {A = ℕ} 0 1 = ap num e in omega arith

apart_02 : n0 ≡ w1 → ⊥
apart_02 e = let z : ◌≡◌ {A = ℕ} 0 2 = ap num e in omega arith

apart_03 : n0 ≡ w2 → ⊥
apart_03 e = let z : ◌≡◌ {A = ℕ} 0 3 = ap num e in omega arith

apart_12 : n1 ≡ w1 → ⊥
apart_12 e = let z : ◌≡◌ {A = ℕ} 1 2 = ap num e in omega arith

apart_13 : n1 ≡ w2 → ⊥
apart_13 e = let z : ◌≡◌ {A = ℕ} 1 3 = ap num e in omega arith

apart_23 : w1 ≡ w2 → ⊥
apart_23 e = let z : ◌≡◌ {A = ℕ} 2 3 = ap num e in omega arith

splits : Splits four 2 g zeros
splits = record {
  differ = (λ m. elim m [ inl e ↦ apart_01 e | inr b ↦ b ], (λ m. m, tt));
  count = refl;
  zeros = g_zero;
  some = λ n. apart_01 (sym (n w1));
}
  where
    g_zero : (z : Four) → In z zeros → g z ≡ n0
    g_zero n0 m = refl
    g_zero n1 m = refl
    g_zero w1 (inl e) = absurd (apart_02 (sym e))
    g_zero w1 (inr (inl e)) = absurd (apart_12 (sym e))
    g_zero w1 (inr (inr b)) = absurd b
    g_zero w2 (inl e) = absurd (apart_03 (sym e))
    g_zero w2 (inr (inl e)) = absurd (apart_13 (sym e))
    g_zero w2 (inr (inr b)) = absurd b

support_apart : (β : Four) → In β zeros → In β support → ⊥
support_apart β (inl a) (inl b) = apart_02 (sym a ∙ b)
support_apart β (inl a) (inr (inl b)) = apart_03 (sym a ∙ b)
support_apart β (inr (inl a)) (inl b) = apart_12 (sym a ∙ b)
support_apart β (inr (inl a)) (inr (inl b)) = apart_13 (sym a ∙ b)
support_apart β (inl a) (inr (inr b)) = b
support_apart β (inr (inl a)) (inr (inr b)) = b
support_apart β (inr (inr a)) b = a

pub code : GoppaCode four 2 g zeros support
code = record { splits = splits; support = record { differ = (λ m. elim m [ inl e ↦ apart_23 e | inr b ↦ b ], (λ m. m, tt)); apart = support_apart } }

g_poly : Poly four 3 g
g_poly = record { coefs = goppa; short = omega arith; value = λ x. refl }

s_poly : Poly four 1 s
s_poly = record { coefs = syndrome; short = omega arith; value = λ x. refl }

one_poly : Poly four 1 one
one_poly = poly_const laws n1

itself_poly : Poly four 2 itself
itself_poly = record { coefs = n0 ∷ n1 ∷ []; short = omega arith; value = by_cases itself (eval four (n0 ∷ n1 ∷ [])) refl refl refl refl }

next_poly : Poly four 2 next
next_poly = record { coefs = n1 ∷ n1 ∷ []; short = omega arith; value = by_cases next (eval four (n1 ∷ n1 ∷ [])) refl refl refl refl }

-- s is 1 everywhere: the division of g by it leaves nothing, so the common divisor is 1
s_state : EuclidState four 2 g s 0 s none one g
s_state =
    euclid_step perfect 2 g s 2 g s none one (euclid_start perfect 2 g s g_poly (poly_wider laws 2 (omega arith) s_poly))
    0 g none g (omega arith) g_poly s_poly (poly_zero laws 0)
    (by_cases g (λ y. plus (times (g y) (s y)) n0) refl refl refl refl)
    (by_cases g (λ y. plus n0 (times (g y) n1)) refl refl refl refl)

-- v is X + 1, and so is its common divisor with g
v_state : EuclidState four 2 g next 1 next none one itself
v_state =
    euclid_step perfect 2 g next 2 g next none one (euclid_start perfect 2 g next g_poly next_poly)
    1 itself none itself (omega arith) itself_poly next_poly (poly_zero laws 1)
    (by_cases g (λ y. plus (times y (next y)) n0) refl refl refl refl)
    (by_cases itself (λ y. plus n0 (times y n1)) refl refl refl refl)

pub prepared : Prepared four 2 g s next zeros 0 1 one next one one itself
prepared = record {
  v_is = λ z m. by_cases next (λ y. plus n1 (times y (s y))) refl refl refl refl z;
  s_divisor = s_divisor;
  v_divisor = euclid_end perfect 2 g next zeros splits 1 next none one itself v_state (λ y. refl);
  s_rest = none;
  s_rest_poly = poly_zero laws 0;
  s_division = by_cases s (λ y. plus (times n1 n1) n0) refl refl refl refl;
  v_rest = none;
  v_rest_poly = poly_zero laws 1;
  v_division = by_cases next (λ y. plus (times n1 (next y)) n0) refl refl refl refl;
  g_rest = none;
  g_rest_poly = poly_zero laws 1;
  g_division = by_cases g (λ y. plus (times y (times n1 (next y))) n0) refl refl refl refl;
}
  where
    s_is : s ≡ one
    s_is = fun_ext (by_cases s one refl refl refl refl)

    s_divisor : CommonDivisor four 2 g s zeros 0 one
    s_divisor = subst (CommonDivisor four 2 g s zeros 0) s_is (euclid_end perfect 2 g s zeros splits 0 s none one g s_state (λ y. refl))

-- at 0, the only zero of g at which v is not zero, the root is 1
root : RootOf four s next zeros one next one one one
root n0 m a b = refl
root n1 m a b = absurd (b refl)
root w1 m a b = absurd (support_apart w1 m (inl refl))
root w2 m a b = absurd (support_apart w2 m (inr (inl refl)))

pub stopped : Stopped four 2 s next zeros 0 1 one next one one itself one one
stopped = record {
  y = one;
  root_of = root;
  n = 1;
  older = itself;
  old_factor = none;
  state = euclid_start perfect 1 itself one itself_poly one_poly;
  low = one_poly;
  high = omega arith;
}

-- the candidate is (X + 1)² + X = X² + X + 1, with the zeros w1 and w2
abbrev at_zeros : Four → Bool
at_zeros n0 = false
at_zeros n1 = false
at_zeros w1 = true
at_zeros w2 = true

test : ZeroTest four (candidate four one next one one) support at_zeros
test = (sound, complete)
  where
    sound : (x : Four) → In x support → at_zeros x ≡ true → candidate four one next one one x ≡ n0
    sound n0 m e = absurd (false_not_true e)
    sound n1 m e = absurd (false_not_true e)
    sound w1 m e = refl
    sound w2 m e = refl

    complete : (x : Four) → In x support → candidate four one next one one x ≡ n0 → at_zeros x ≡ true
    complete n0 m e = absurd (apart_01 (sym e))
    complete n1 m e = absurd (apart_01 (sym e))
    complete w1 m e = refl
    complete w2 m e = refl

sums : (j : ℕ) → ser (ring_of four) syndrome j ≡ ser (ring_of four) (columns_sum four goppa both support) j
sums zero = refl
sums (suc zero) = refl
sums (suc (suc j)) = refl

pub decoded : Decodes four goppa 2 syndrome support (some both)
decoded =
    (decoding perfect 2 (omega arith) goppa syndrome next zeros support code (omega arith) (omega arith) 0 1 one next one one itself one one prepared stopped at_zeros test).0
    (record { size = refl; weighs = refl; sums = sums })
