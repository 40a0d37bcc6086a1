use Rattle.polys.proofs.Lists.{coefs_at}
use Rattle.decoding.proofs.locate.square_at.Goals as goal

pub returns : goal.returns
returns g c = let e = coefs_at g.met.F.Field.laws g.F.Field.places c.args.p.now c.args.i in cc
