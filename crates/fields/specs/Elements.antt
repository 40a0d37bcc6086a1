-- The elements of the field of an arithmetic, numbered, and its operations.
use Rattle.std.specs.Prelude.{◌≡◌, ℕ, suc, ◌^◌, ◌<◌}
use Rattle.std.proofs.Common.{sym, ap, ap₂, ◌∙◌, refl}
use Rattle.std.proofs.lemmas.Nat.{pow_pos}
use mathlib.Core.HLevel.{is_prop→PathP}
use Rattle.std.proofs.Math.Bridge.{le_prop}
use Rattle.algebra.specs.Field.{Ops, Laws, Roots, Places}
use Rattle.algebra.specs.Numbers.{within, ops_from, NumLaws, NumRoots}
use Rattle.algebra.proofs.Numbers.{within_is, within_past, within_below, laws_from}
use Rattle.fields.specs.declared.arithmetic.Arithmetic.{Ghosts}
use Rattle.fields.specs.declared.element.Element.{Element}

module _ {X : Type 0} (g : Ghosts X) where
  -- the element at a place, and zero where the number is no place
  abbrev pub at : ℕ → Element X g
  at n = record { place = within (2 ^ g.BITS) n; arithmetic = record {}; below = within_below (2 ^ g.BITS) n (pow_pos g.BITS) }

  -- an element is known by its place
  pub same : (x y : Element X g) → x.place ≡ y.place → x ≡ y
  same x y e = λ i. record {
    place = e i;
    arithmetic = record {};
    below = is_prop→PathP (λ j. e j < 2 ^ g.BITS) (λ j. le_prop {n = suc (e j)} {m = 2 ^ g.BITS}) x.below y.below i;
  }

  pub is_at : (x : Element X g) (n : ℕ) → n < 2 ^ g.BITS → x.place ≡ n → x ≡ at n
  is_at x n h e = same x (at n) (e ∙ sym (within_is (2 ^ g.BITS) n h))

  abbrev pub places : Places (Element X g) g.BITS
  places = record {
    num = λ x. x.place;
    at = at;
    num_below = λ x. x.below;
    at_num = λ x. same (at x.place) x (within_is (2 ^ g.BITS) x.place x.below);
    num_at = within_is (2 ^ g.BITS);
    at_past = λ n h. same (at n) (at 0) (within_past (2 ^ g.BITS) n h ∙ sym (within_is (2 ^ g.BITS) 0 (pow_pos g.BITS)));
  }

  abbrev pub ops : Ops (Element X g)
  ops = ops_from places g.mul g.inv

  pub laws : NumLaws g.BITS g.mul g.inv → Laws ops
  laws k = laws_from places k

  pub squared : NumRoots g.BITS g.mul g.root → (x : Element X g) → ops.mul (at (g.root x.place)) (at (g.root x.place)) ≡ x
  squared k x =
      let r = k x.place x.below in
      let e : within (2 ^ g.BITS) (g.root x.place) ≡ g.root x.place = within_is (2 ^ g.BITS) (g.root x.place) r.0 in
      ap at (ap₂ g.mul e e ∙ r.1) ∙ sym (is_at x x.place x.below refl)

  pub roots : NumRoots g.BITS g.mul g.root → Roots ops
  roots k = record { root = λ x. at (g.root x.place); squared = squared k }
