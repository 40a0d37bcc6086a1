use Rattle.std.proofs.Common.{◌≡◌, take, fold}
use Rattle.sha3.specs.Keccak.{round, constants}
use Rattle.sha3.proofs.keccak.permute.Given as goal

abbrev pub invariant-loop-rc : goal.invariant-loop-rc
invariant-loop-rc l = l.a ≡ fold round l.initial.a (take l.rc-index constants)
