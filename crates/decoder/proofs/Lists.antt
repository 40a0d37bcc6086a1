-- A code by places is a Goppa code of its elements.
use Rattle.std.proofs.Common.{◌≡◌, ℕ, zero, suc, ◌+◌, ◌^◌, ◌<◌, ◌≤◌, List, [], ◌∷◌, map, length, get_or, drop, sym, refl, ap, ◌∙◌, subst, inl, inr, arith, length-drop, length-take, get_or-drop, get_or-take}
use Rattle.std.proofs.lemmas.List.{length-map}
use Rattle.algebra.specs.Field.{Ops, Places}
use Rattle.polys.specs.Values.{value}
use Rattle.polys.proofs.Places.{placed_all}
use Rattle.shuffles.specs.Orders.{Permutation}
use Rattle.goppa.specs.Codes.{support, zeros}
use Rattle.goppa.proofs.Support.{off_support}
use Rattle.patterson.specs.Points.{In, Distinct}
use Rattle.patterson.specs.Code.{GoppaCode}
use Rattle.decoder.specs.Codes.{Different, CodeOf, CodeOfList}

module _ {A : Type 0} where
  -- where a point of a list stands
  pub in_map : (h : ℕ → A) (l : List ℕ) (x : A) → In x (map h l) → (j : ℕ) × (j < length l) × (x ≡ h (get_or l j 0))
  in_map h [] x m = absurd m
  in_map h (y ∷ l) x m = elim m [
    | inl e ↦ (0, omega arith, e)
    | inr i ↦ let w = in_map h l x i in (suc w.0, omega (arith, w.1), w.2)
  ]

  pub map_in : (h : ℕ → A) (l : List ℕ) (j : ℕ) → j < length l → In (h (get_or l j 0)) (map h l)
  map_in h [] j l = absurd (omega arith)
  map_in h (y ∷ l) zero le = inl refl
  map_in h (y ∷ l) (suc j) le = inr (map_in h l j (omega arith))

  pub distinct_map : (h : ℕ → A) (l : List ℕ) → ((i j : ℕ) → i < length l → j < length l → h (get_or l i 0) ≡ h (get_or l j 0) → i ≡ j) → Distinct (map h l)
  distinct_map h [] d = tt
  distinct_map h (y ∷ l) d = (
    λ m. let w = in_map h l (h y) m in let e : 0 ≡ suc w.0 = d 0 (suc w.0) (omega arith) (omega (arith, w.1)) w.2 in omega arith,
    distinct_map h l (λ i j a b e. let u : suc i ≡ suc j = d (suc i) (suc j) (omega arith) (omega arith) e in omega arith),
  )

module _ {A : Type 0} {m : ℕ} (f : Ops A) (pl : Places A m) where
  pub different_points : (l : List ℕ) → Different m l → Distinct (map pl.at l)
  different_points l d =
      distinct_map pl.at l (λ i j a b e. d.once i j a b (sym (pl.num_at (get_or l i 0) (d.places i)) ∙ ap pl.num e ∙ pl.num_at (get_or l j 0) (d.places j)))

  pub goppa_code : (t : ℕ) (g support zeros : List ℕ) → 1 ≤ length support → CodeOf f pl t g support zeros → GoppaCode f t (value f pl g) (map pl.at zeros) (map pl.at support)
  goppa_code t g support zeros some c =
      let zero : (x : A) → In x (map pl.at zeros) → value f pl g x ≡ f.zero = λ x i.
      let w = in_map pl.at zeros x i in ap (value f pl g) w.2 ∙ c.zero w.0 (omega (arith, w.1, c.count)) in
      record {
        splits = record {
          differ = different_points zeros c.zeros_differ;
          count = length-map zeros pl.at ∙ c.count;
          zeros = zero;
          some = λ v. c.off 0 (omega arith) (v (pl.at (get_or support 0 0)));
        };
        support = record {
          differ = different_points support c.support_differ;
          apart = λ x a b. let w = in_map pl.at support x b in c.off w.0 w.1 (ap (value f pl g) (sym w.2) ∙ zero x a);
        };
      }

-- k entries from the n-th on
part_differs : (m n k : ℕ) (l : List ℕ) → Permutation (2 ^ m) l → n + k ≤ 2 ^ m → (q : List ℕ) → length q ≡ k → ((j : ℕ) → j < k → get_or q j 0 ≡ get_or l (n + j) 0) → Different m q
part_differs m n k l p le q long at = record {
  places = placed_all m q (λ j h. subst (λ (x : ℕ). x < 2 ^ m) (sym (at j (omega arith))) (p.below (n + j) (omega arith)));
  once = λ i j a b e.
      let same : n + i ≡ n + j = p.different (n + i) (n + j) (omega arith) (omega arith) (sym (at i (omega arith)) ∙ e ∙ at j (omega arith)) in
      omega arith;
}

pub code_of_list : {A : Type 0} {m : ℕ} (f : Ops A) (pl : Places A m) → CodeOfList f pl
code_of_list {m = m} f pl n t l g p le monic h =
    let whole : length l ≡ 2 ^ m = p.long in
    let ls : length (support n l) ≡ n = length-take n l ∙ omega arith in
    let lz : length (zeros n t l) ≡ t = length-take t (drop n l) ∙ omega (arith, length-drop n l) in
    record {
      monic = monic;
      count = lz;
      zeros_differ = part_differs m n t l p le (zeros n t l) lz (λ j b. get_or-take t (drop n l) j 0 b ∙ get_or-drop n l j 0);
      zero = λ j b. h.each j (omega arith);
      support_differ = part_differs m 0 n l p (omega arith) (support n l) ls (λ j b. let e : j ≡ 0 + j = omega arith in get_or-take n l j 0 b ∙ ap (λ (i : ℕ). get_or l i 0) e);
      off = λ j b. off_support f pl n t l g p le h j (omega arith);
    }
