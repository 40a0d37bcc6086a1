-- The laws of the field of 64.
use Rattle.std.specs.Prelude.{◌≡◌, ℕ, ◌<◌}
use Rattle.std.proofs.Common.{lit<}
use Rattle.algebra.specs.Field.{Laws, Roots}
use Rattle.algebra.specs.Numbers.{NumLaws, NumRoots}
use Rattle.algebra.specs.Shifts.{times_z, times_bits}
use Rattle.algebra.proofs.Linear.{linear_zero}
use Rattle.algebra.proofs.Shifts.{times_left, times_right, times_below, comm, assoc, one}
use Rattle.fields.specs.Elements.{laws, roots}
use Rattle.field64.specs.Tables.{mul64, inv64, root64}
use Rattle.field64.specs.Model.{by_tables, ops64}
use Rattle.field64.specs.Tests.{inverse_rule, inverse_below, root_rule, root_below}

pub below64 : (a b : ℕ) → a < 64 → mul64 a b < 64
unfolding mul64
below64 a b ha = times_below 5 3 (lit< tt) 6 a b ha

pub zero_left : (b : ℕ) → mul64 0 b ≡ 0
unfolding mul64
zero_left b = linear_zero (λ a. mul64 a b) (times_left 5 3 6 b)

pub zero_right : (a : ℕ) → mul64 a 0 ≡ 0
unfolding mul64
zero_right a = linear_zero (mul64 a) (times_right 5 3 6 a)

pub num_laws : NumLaws 6 mul64 inv64
unfolding mul64 times_bits times_z
num_laws = record {
  one_below = lit< tt;
  mul_below = λ a b ha hb. below64 a b ha;
  inv_below = inverse_below;
  mul_assoc = assoc 5 3 6 tt;
  mul_comm = comm 5 3 6 tt;
  mul_one = one 5 3 6 tt;
  mul_xor = λ a b c ha hb hc. times_right 5 3 6 a b c;
  mul_inv = inverse_rule;
}

pub num_roots : NumRoots 6 mul64 root64
num_roots a h = (root_below a h, root_rule a h)

pub laws64 : Laws ops64
laws64 = laws by_tables num_laws

pub roots64 : Roots ops64
roots64 = roots by_tables num_roots
