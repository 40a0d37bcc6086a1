use Rattle.std.proofs.Common.{◌*◌, ◌≤◌, arith}
use lib.Bits.{bit_and, and_le_r}
use Rattle.std.proofs.lemmas.Nat.{mul-le}
use Rattle.field8192.proofs.Quick.{three}
use Rattle.field8192.proofs.shifts.carryless.Goals as goal

pub overflow_mul-result : goal.overflow_mul-result
overflow_mul-result c =
    let h : c.args.a * bit_and c.args.b 1 ≤ 8191 * 1 = mul-le c.args.a (bit_and c.args.b 1) 8191 1 (omega arith) (and_le_r c.args.b 1) in
    record { fits = omega arith }

pub overflow_mul-result-2 : goal.overflow_mul-result-2
overflow_mul-result-2 c =
    let h : c.args.a * bit_and c.args.b 2 ≤ 8191 * 2 = mul-le c.args.a (bit_and c.args.b 2) 8191 2 (omega arith) (and_le_r c.args.b 2) in
    record { fits = omega arith }

pub overflow_mul-result-3 : goal.overflow_mul-result-3
overflow_mul-result-3 c =
    let h : c.args.a * bit_and c.args.b 4 ≤ 8191 * 4 = mul-le c.args.a (bit_and c.args.b 4) 8191 4 (omega arith) (and_le_r c.args.b 4) in
    record { fits = omega arith }

pub returns : goal.returns
returns c = three c.args.a c.args.b
