-- What a step of the elimination has done, by the test of its outcome.
use Rattle.std.proofs.Common.{◌≡◌, ℕ, ◌*◌, ◌<◌, ◌≤◌, true, false, List, Ok, Err, Result, is_ok, refl}
use Rattle.std.proofs.lemmas.Bool.{both_ways}
use Rattle.bits.specs.Packed.{matrix}
use Rattle.bits.specs.Elimination.{Settled}
use Rattle.matrices.specs.Rows.{SettledOrNone}

module _ {E : Type 0} (w r k c : ℕ) (xs ys : List ℕ) where
  pub when_settled :
      (o : Result (Unit {0}) E) → SettledOrNone o w r k c xs ys → is_ok o ≡ true
      → ((p : ℕ) × ((k ≤ p) × (p < r) × (matrix w xs p c ≡ true))) × Settled r (8 * w) k c (matrix w xs) (matrix w ys)
  when_settled (Ok x) h e = h
  when_settled (Err x) h e = absurd (both_ways false refl e)

  pub when_none :
      (o : Result (Unit {0}) E) → SettledOrNone o w r k c xs ys → is_ok o ≡ false → (ys ≡ xs) × ((i : ℕ) → k ≤ i → i < r → matrix w xs i c ≡ false)
  when_none (Ok x) h e = absurd (both_ways true e refl)
  when_none (Err x) h e = h
