use Rattle.std.proofs.Common.{◌≡◌, eqb, length, get_or, sym, ap, arith}
use Rattle.bits.proofs.Search.{found_same}
use Rattle.soundness.proofs.values.first_clash.Goals as goal

pub returns : goal.returns
returns g c =
    let n = length c.args.support.now in
    let e : length c.values_at.new.values ≡ n = omega arith in
    found_same n _ (λ j. eqb (get_or c.values_at.new.values j 0) 0) c.first_zero.result
    (λ j l. sym (ap (λ x. eqb x 0) (c.values_at.ensures.each j l))) (rw e at c.first_zero.ensures)
