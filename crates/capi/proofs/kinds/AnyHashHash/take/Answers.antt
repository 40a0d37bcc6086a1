use Rattle.capi.proofs.kinds.AnyHashHash.take.Goals as goal

pub returns-in_ok-take-in-Sha3-clause-took : goal.returns-in_ok-take-in-Sha3-clause-took
returns-in_ok-take-in-Sha3-clause-took c = rw c.in-Sha3.is c.in_ok-take-in-Sha3.ensures.took

pub returns-in_ok-take-in-Sha2-clause-took : goal.returns-in_ok-take-in-Sha2-clause-took
returns-in_ok-take-in-Sha2-clause-took c = rw c.in-Sha2.is c.in_ok-take-in-Sha2.ensures.took
