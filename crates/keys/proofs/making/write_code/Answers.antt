use Rattle.std.proofs.Common.{◌≡◌, ℕ, List, map, length, sym, ap, ◌∙◌, arith}
use Rattle.goppa.specs.Codes.{support, zeros}
use Rattle.goppa.specs.Zeros.{from_zeros}
use Rattle.keys.specs.Seeds.{support_of_seed, zeros_of, goppa_of}
use Rattle.keys.proofs.Goppa.{code_fits, support_length, zeros_length, goppa_is}
use Rattle.levels.proofs.Table.{lawful}
use Rattle.keys.proofs.making.write_code.Goals as goal

pub goppa_polynomial-requires : goal.goppa_polynomial-requires
unfolding zeros_of
goppa_polynomial-requires g c =
    let s = c.args.sizes.now in
    let m = g.F.Field.BITS in
    let le = code_fits m s (lawful c.args.sizes.now) (sym c.requires.field) in
    let ez : c.zeros_of.result.now ≡ zeros_of m s c.args.seed.now = c.zeros_of.ensures ∙ ap (zeros s.n s.t) c.code_of.ensures.after in
    omega (arith, ap length ez, zeros_length m s c.args.seed.now le)

pub returns : goal.returns
unfolding support_of_seed zeros_of
returns g c =
    let s = c.args.sizes.now in
    let m = g.F.Field.BITS in
    let f = g.F.Field.ops in
    let pl = g.F.Field.places in
    let seed = c.args.seed.now in
    let le = code_fits m s (lawful c.args.sizes.now) (sym c.requires.field) in
    let es : support s.n c.code_of.new.places ≡ support_of_seed m s seed = ap (support s.n) c.code_of.ensures.after in
    let ez : c.zeros_of.result.now ≡ zeros_of m s seed = c.zeros_of.ensures ∙ ap (zeros s.n s.t) c.code_of.ensures.after in
    let eg : c.goppa_polynomial.new.g ≡ goppa_of f pl s seed =
    goppa_is f pl s seed c.goppa_polynomial.new.g (omega arith) c.goppa_polynomial.ensures.written
    (c.goppa_polynomial.ensures.product ∙ ap (λ (l : List ℕ). from_zeros f (map pl.at l)) ez) in
    let long : length (support s.n c.code_of.new.places) ≡ s.n = ap length es ∙ support_length m s seed le in
    let same = c.support_of.ensures in
    record { support = same ∙ es; g = eg; long = (ap length same ∙ long, omega arith) }
