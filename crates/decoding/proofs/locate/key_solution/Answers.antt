use Rattle.std.proofs.Common.{ℕ, List, subst}
use Rattle.polys.specs.Values.{value}
use Rattle.patterson.specs.Euclid.{EuclidState}
use Rattle.decoding.proofs.States.{state_of}
use Rattle.decoding.proofs.locate.key_solution.Goals as goal

pub returns : goal.returns
returns g c =
    let k = g.met.F.Field.laws in
    let f = g.F.Field.ops in
    let pl = g.F.Field.places in
    let z = g.met.F.Field.origin in
    let n = c.args.n in
    let p = c.copy_from_slice.new.self in
    let q = c.copy_from_slice-2.new.self in
    let x = c.euclid.new in
    let got = c.euclid.ensures in
    let d = c.euclid.result in
    let v : List ℕ → g.row.F.Denot → g.row.F.Denot = value f pl in
    let st = state_of k pl z n d p q x.s x.r x.a x.b got.rule got.points in
    record {
      state =
          subst (λ (l : List ℕ). EuclidState f n (v l) (v c.args.y.now) d (v x.s) (v x.r) (v x.a) (v x.b)) c.copy_from_slice.ensures.after
          (subst (λ (l : List ℕ). EuclidState f n (v p) (v l) d (v x.s) (v x.r) (v x.a) (v x.b)) c.copy_from_slice-2.ensures.after st);
      low = (got.last.1, got.rule.short_b);
      high = (got.last.0, got.rule.within);
    }
