use Rattle.std.proofs.Common.{take, ap}
use Rattle.std.proofs.Math.Path.{fun_ext}
use Rattle.sha512.specs.Sha512.{initial}
use Rattle.sha512.specs.Takes.{goes_start}
use Rattle.sha512.proofs.chaining.ChainingBlockFunction128.begin.Goals as goal

pub returns : goal.returns
unfolding initial
returns c = fun_ext (λ xs. ap (take 32) (goes_start xs))
