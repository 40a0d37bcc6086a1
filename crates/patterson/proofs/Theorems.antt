-- The parts of the decoding theorem.
use mathlib.Core.Path.{◌≡◌, refl, sym, ap, subst, ◌∙◌}
use mathlib.Core.Bool.{Bool, true, false}
use mathlib.Core.List.{List, ◌∷◌}
use mathlib.Core.Option.{none, some}
use mathlib.Core.Logic.{inl, inr}
use Prim.Native.Nat.{ℕ, suc, ◌≤◌, ◌<◌, ◌/◌}
use native.Mathlib.Omega.{arith}
use lib.ListN.{length}
use Rattle.algebra.specs.Field.{Ops, Laws}
use Rattle.algebra.specs.Poly.{eval}
use Rattle.patterson.specs.Points.{In}
use Rattle.patterson.specs.Polys.{Poly}
use Rattle.patterson.specs.Code.{Perfect, Support, GoppaCode}
use Rattle.patterson.specs.Syndrome.{ErrorPoints}
use Rattle.patterson.specs.Vectors.{chosen, marks}
use Rattle.patterson.specs.Errors.{ErrorVector, ErrorValues}
use Rattle.patterson.specs.Claims.{ColumnValue, SyndromeValue, SolvesKeyEquation, AnySolution, OneVector, ZeroSyndrome, EuclidStart, EuclidStep, EuclidEnd, EuclidInverse, HasRestZeros, Invertible, SquareRootValue, KeyRoot, Bounds, Complete, Sound, Refuses, ByCoefficients, Decoding, OutOfBounds}
use Rattle.patterson.proofs.Points.{in_or_not}
use Rattle.patterson.proofs.Polys.{few_zeros}
use Rattle.patterson.proofs.Vectors.{false_not_true, chosen_in, chosen_distinct, length_chosen, marked}
use Rattle.patterson.proofs.Columns.{column_inverse, columns_value, syndrome_from, syndrome_to}
use Rattle.patterson.proofs.Split.{even_part, odd_part, split_locator, split_polys}
use Rattle.patterson.proofs.KeyEquation.{key_equation}
use Rattle.patterson.proofs.Recovery.{zero_at_points, zero_only_at_points}
use Rattle.patterson.proofs.Unique.{unique}
use Rattle.patterson.proofs.Euclid.{start, step, divisor}
use Rattle.patterson.proofs.Inverse.{inverse_at, root_of}
use Rattle.patterson.proofs.SquareRoot.{root_value}
use Rattle.patterson.proofs.Elements.{nonzero_mul}
use Rattle.patterson.proofs.Prepare.{sorted, g2_some, s1_some, g12_zero, g12_splits}
use Rattle.patterson.proofs.Bounds.{few_s_zeros}
use Rattle.patterson.proofs.Complete.{rooms, complete}

-- the points of a vector
pub error_points : {A : Type 0} {f : Ops A} (t : ℕ) (s : A → A) (zs sup : List A) → Support zs sup → (e : List Bool) → ErrorValues f t s zs sup e → ErrorPoints f t s zs (chosen e sup)
error_points t s zs sup u e h = record {
  differ = chosen_distinct e sup u.differ;
  count = length_chosen e sup h.size ∙ h.weighs;
  apart = λ β a b. u.apart β a (chosen_in e sup β b);
  syndrome = h.syndrome;
}

-- a decided fact as a bit
abbrev bit : {P : Type 0} → Dec P → Bool
bit (yes p) = true
bit (no n) = false

bit_true : {P : Type 0} (d : Dec P) → P → bit d ≡ true
bit_true (yes p) q = refl
bit_true (no n) q = absurd (n q)

true_bit : {P : Type 0} (d : Dec P) → bit d ≡ true → P
true_bit (yes p) e = p
true_bit (no n) e = absurd (false_not_true e)

-- g has no zeros but its t, so none in the support
off_support : {A : Type 0} {f : Ops A} (k : Laws f) (t : ℕ) (g zs sup : List A) → GoppaCode f t (eval f g) zs sup → length g ≤ suc t → (α : A) → In α sup → eval f g α ≡ f.zero → ⊥
off_support {f = f} k t g zs sup c l α m e =
    let poly : Poly f (suc t) (eval f g) = record { coefs = g; short = l; value = λ x. refl } in
    let h : length (α ∷ zs) < suc t =
    few_zeros k poly c.splits.some (α ∷ zs) (λ i. c.support.apart α i m, c.splits.differ)
    (λ x i. elim i [ inl q ↦ ap (eval f g) q ∙ e | inr w ↦ c.splits.zeros x w ]) in
    omega (arith, h, c.splits.count)

module _ {A : Type 0} {f : Ops A} (q : Perfect f) where
  pub column_value : ColumnValue f
  column_value t g zs sup c l α β i m = column_inverse q.laws g α β (off_support q.laws t g zs sup c l α i) (c.splits.zeros β m)

  pub syndrome_value : SyndromeValue f
  syndrome_value t g zs sup c l e β m = columns_value q.laws g β (c.splits.zeros β m) e sup (off_support q.laws t g zs sup c l)

  pub key_solution : SolvesKeyEquation f
  key_solution t s zs es h = record {
    a = even_part q.roots es;
    b = odd_part q.roots es;
    a_poly = subst (λ n. Poly f (suc (n / 2)) (even_part q.roots es)) h.count (split_polys q.laws q.roots es).0;
    b_poly = subst (λ n. Poly f (suc n / 2) (odd_part q.roots es)) h.count (split_polys q.laws q.roots es).1;
    parts = split_locator q.laws q.roots es;
    solves = key_equation q.laws q.roots s zs es h.syndrome h.apart;
  }

  pub any_solution : AnySolution f
  any_solution t g s zs es sp h a b pa pb solves nonzero x = (
    zero_only_at_points q.laws q.same q.roots t s zs es sp.differ sp.count h a b pa pb solves nonzero x,
    zero_at_points q.laws q.same q.roots t s zs es sp.differ sp.count h a b pa pb solves x,
  )

  pub one_vector : OneVector f
  one_vector t g s zs sup c e d he hd =
      let u = c.support in
      let sp = c.splits in
      let same = unique q.laws q.same q.roots t s zs sp.differ sp.count (chosen e sup) (chosen d sup) (error_points t s zs sup u e he) (error_points t s zs sup u d hd) in
      let back = unique q.laws q.same q.roots t s zs sp.differ sp.count (chosen d sup) (chosen e sup) (error_points t s zs sup u d hd) (error_points t s zs sup u e he) in
      let m : A → Bool = λ x. bit (in_or_not q.same x (chosen e sup)) in
      sym (marked m e sup u.differ he.size (λ x i b. true_bit (in_or_not q.same x (chosen e sup)) b) (λ x i. bit_true (in_or_not q.same x (chosen e sup)) i))
      ∙ marked m d sup u.differ hd.size (λ x i b. back x (true_bit (in_or_not q.same x (chosen e sup)) b)) (λ x i. bit_true (in_or_not q.same x (chosen e sup)) (same x i))

  pub zero_syndrome : ZeroSyndrome f
  zero_syndrome t one g s zs sup c zero d hd =
      let sp = c.splits in
      let h : length zs < suc t / 2 =
      few_s_zeros q.laws q.same q.roots t s zs (chosen d sup) sp.differ sp.count (error_points t s zs sup c.support d hd) one zs sp.differ (λ x m. m) zero in
      omega (arith, h, sp.count)

  pub euclid_start : EuclidStart f
  euclid_start = start q.laws

  pub euclid_step : EuclidStep f
  euclid_step = step q.laws

  pub euclid_end : EuclidEnd f
  euclid_end = divisor q.laws

  pub euclid_inverse : EuclidInverse f
  euclid_inverse d p r zs sp nonzero n older newer old_factor factor st positive one =
      inverse_at q.laws q.same d p r zs sp nonzero n older newer old_factor factor st positive one (newer f.zero) refl

  pub rest_zeros : HasRestZeros f
  rest_zeros t g s v zs sp n1 n2 g1 g2 s1 v2 g12 h =
      let z = sorted q.laws q.same t g s v zs sp n1 n2 g1 g2 s1 v2 g12 h in
      record {
        points = z.third;
        splits = g12_splits q.laws q.same t g s v zs sp n1 n2 g1 g2 s1 v2 g12 h;
        within = z.third_in;
        s_nonzero = z.third_s;
        v_nonzero = z.third_v;
      }

  pub invertible : Invertible f
  invertible t g s v zs sp n1 n2 g1 g2 s1 v2 g12 h z m a b = (
    g12_zero q.laws q.same t g s v zs sp n1 n2 g1 g2 s1 v2 g12 h z m a b,
    nonzero_mul q.laws (g2_some q.laws q.same t g s v zs sp n1 n2 g1 g2 s1 v2 g12 h z m b) (s1_some q.laws q.same t g s v zs sp n1 n2 g1 g2 s1 v2 g12 h z m a),
  )

  pub square_root : SquareRootValue f
  square_root = root_value q.laws

  pub key_root : KeyRoot f
  key_root = root_of q.laws

  pub bounds : Bounds f
  bounds t two g s v zs sup c n1 n2 g1 g2 s1 v2 g12 h e he =
      rooms q.laws q.same t g s v zs c.splits n1 n2 g1 g2 s1 v2 g12 h q.roots (chosen e sup) (error_points t s zs sup c.support e he) two

  pub decoder_complete : Complete f
  decoder_complete t two g s v zs sup c n1 n2 g1 g2 s1 v2 g12 a b h p m test e he =
      let found =
      complete q.laws q.same t g s v zs c.splits n1 n2 g1 g2 s1 v2 g12 h p.y p.root_of p.n p.older a p.old_factor b p.state p.low p.high
      q.roots (chosen e sup) (error_points t s zs sup c.support e he) two in
      marked m e sup c.support.differ he.size
      (λ x i b. (found x).0 (test.0 x i b))
      (λ x i. test.1 x (chosen_in e sup x i) ((found x).1 i))

  pub decoder_sound : Sound f
  decoder_sound t g s zs sup c e h = (h, λ d hd. one_vector t g s zs sup c d e hd h)

  pub decoder_refuses : Refuses f
  decoder_refuses t two g s v zs sup c n1 n2 g1 g2 s1 v2 g12 a b h p m test n d hd =
      n (subst (ErrorValues f t s zs sup) (sym (decoder_complete t two g s v zs sup c n1 n2 g1 g2 s1 v2 g12 a b h p m test d hd)) hd)

  module _ (t : ℕ) (g s zs sup : List A) (c : GoppaCode f t (eval f g) zs sup) (lg : length g ≤ suc t) (ls : length s ≤ t) where
    pub values_of : (e : List Bool) → ErrorVector f g t s sup e → ErrorValues f t (eval f s) zs sup e
    values_of e h = record {
      size = h.size;
      weighs = h.weighs;
      syndrome = syndrome_from q.laws g zs sup c.splits.zeros (off_support q.laws t g zs sup c lg) s e h.sums;
    }

    pub vector_of : (e : List Bool) → ErrorValues f t (eval f s) zs sup e → ErrorVector f g t s sup e
    vector_of e h = record {
      size = h.size;
      weighs = h.weighs;
      sums = syndrome_to q.laws g zs sup c.splits.zeros (off_support q.laws t g zs sup c lg) t lg c.splits.differ c.splits.count s ls e h.syndrome;
    }

  pub by_coefficients : ByCoefficients f
  by_coefficients t g s zs sup c lg ls none h = λ d w. h d (values_of t g s zs sup c lg ls d w)
  by_coefficients t g s zs sup c lg ls (some e) h = (vector_of t g s zs sup c lg ls e h.0, λ d w. h.1 d (values_of t g s zs sup c lg ls d w))

  pub decoding : Decoding f
  decoding t two g s v zs sup c lg ls n1 n2 g1 g2 s1 v2 g12 a b h p m test =
      let w = marks m sup in (
        λ e. by_coefficients t g s zs sup c lg ls (some w) (decoder_sound t (eval f g) (eval f s) zs sup c w (values_of t g s zs sup c lg ls w e)),
        λ n.
            by_coefficients t g s zs sup c lg ls none
            (decoder_refuses t two (eval f g) (eval f s) v zs sup c n1 n2 g1 g2 s1 v2 g12 a b h p m test (λ e. n (vector_of t g s zs sup c lg ls w e))),
      )

  pub out_of_bounds : OutOfBounds f
  out_of_bounds t two g s v zs sup c lg ls n1 n2 g1 g2 s1 v2 g12 h n d e =
      n (bounds t two (eval f g) (eval f s) v zs sup c n1 n2 g1 g2 s1 v2 g12 h d (values_of t g s zs sup c lg ls d e))
