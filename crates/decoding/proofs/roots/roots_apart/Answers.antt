use Rattle.std.proofs.Common.{◌≡◌, ℕ, ◌+◌, ◌*◌, length, ap, ◌∙◌, arith}
use Rattle.algebra.specs.Series.{Below}
use Rattle.polys.specs.Coefs.{coefs}
use Rattle.polys.proofs.Lists.{below_list}
use Rattle.patterson.proofs.Numbered.{same_from}
use Rattle.decoding.proofs.Squares.{value_parts, roots_below}
use Rattle.decoding.proofs.roots.roots_apart.Goals as goal

pub returns : goal.returns
returns g c =
    let k = g.met.F.Field.laws in
    let f = g.F.Field.ops in
    let pl = g.F.Field.places in
    let z = g.met.F.Field.origin in
    let p = c.args.p.now in
    let a = c.every_other_root.new.out in
    let b = c.every_other_root-2.new.out in
    let n = length p in
    let up : Below f n (coefs pl p) = below_list k pl z p in
    let plain : (j : ℕ) → 2 * j + 0 ≡ 2 * j = λ j. omega arith in
    let ha : (j : ℕ) → f.mul (coefs pl a j) (coefs pl a j) ≡ coefs pl p (2 * j) = λ j. c.every_other_root.ensures j ∙ ap (coefs pl p) (plain j) in
    let hb = c.every_other_root-2.ensures in
    record {
      even = ha;
      odd = hb;
      values = value_parts k pl z n p a b (λ j h. up j (omega arith))
          (roots_below k (same_from pl) n n 0 (coefs pl p) (coefs pl a) up c.every_other_root.ensures (omega arith))
          (roots_below k (same_from pl) n n 1 (coefs pl p) (coefs pl b) up hb (omega arith)) ha hb;
    }
