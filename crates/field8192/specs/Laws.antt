-- The laws of the field of 8,192.
use Rattle.std.specs.Prelude.{ℕ, ◌<◌}
use Rattle.std.proofs.Common.{lit<}
use Rattle.algebra.specs.Field.{Laws, Roots}
use Rattle.algebra.specs.Numbers.{NumLaws, NumRoots}
use Rattle.fields.specs.Elements.{laws, roots}
use Rattle.field8192.specs.Product.{mul8192, square8192, squares, inv8192, root8192}
use Rattle.field8192.specs.Model.{by_shifts, ops8192}
use Rattle.field8192.specs.Ring.{mul_right, mul_below, mul_comm, mul_assoc, mul_one}
use Rattle.field8192.specs.Powers.{inverse, root}

pub inv_below : (a : ℕ) → inv8192 a < 8192
unfolding inv8192 square8192
inv_below a = mul_below _ _

pub num_laws : NumLaws 13 mul8192 inv8192
num_laws = record {
  one_below = lit< tt;
  mul_below = λ a b ha hb. mul_below a b;
  inv_below = λ a h. inv_below a;
  mul_assoc = λ a b c ha hb hc. mul_assoc a b c;
  mul_comm = λ a b ha hb. mul_comm a b;
  mul_one = mul_one;
  mul_xor = λ a b c ha hb hc. mul_right a b c;
  mul_inv = λ a h p. inverse a p h;
}

root_below : (a : ℕ) → root8192 a < 8192
unfolding squares square8192
root_below a = mul_below _ _

pub num_roots : NumRoots 13 mul8192 root8192
num_roots a h = (root_below a, root a h)

pub laws8192 : Laws ops8192
laws8192 = laws by_shifts num_laws

pub roots8192 : Roots ops8192
roots8192 = roots by_shifts num_roots
