-- The support of a code has none of its zeros.
use Rattle.std.proofs.Common.{◌≡◌, ℕ, ◌+◌, ◌<◌, get_or, drop, sym, ap, ◌∙◌, arith, length-take, get_or-drop, get_or-take}
use Rattle.algebra.specs.Field.{Ops, Places}
use Rattle.goppa.specs.Codes.{zeros, support, OffSupport}

pub off_support : {A : Type 0} {m : ℕ} (f : Ops A) (pl : Places A m) → OffSupport f pl
off_support {m = m} f pl n t l g p le h j lt e =
    let found = h.only (pl.at (get_or (support n l) j 0)) e in
    let i = found.0 in
    let few : i < t = omega (arith, found.1, length-take t (drop n l)) in
    let here : get_or (support n l) j 0 ≡ get_or l j 0 = get_or-take n l j 0 lt in
    let there : get_or (zeros n t l) i 0 ≡ get_or l (n + i) 0 = get_or-take t (drop n l) i 0 few ∙ get_or-drop n l i 0 in
    let same : get_or l j 0 ≡ get_or l (n + i) 0 =
    sym (pl.num_at (get_or l j 0) (p.below j (omega arith)))
    ∙ ap pl.num (ap pl.at (sym here) ∙ found.2 ∙ ap pl.at there)
    ∙ pl.num_at (get_or l (n + i) 0) (p.below (n + i) (omega arith))
    in
    let both : j ≡ n + i = p.different j (n + i) (omega arith) (omega arith) same in
    omega arith
