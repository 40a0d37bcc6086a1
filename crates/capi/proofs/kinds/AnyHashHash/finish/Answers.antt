use Rattle.capi.proofs.kinds.AnyHashHash.finish.Goals as goal

pub returns-in-Sha3-clause-restarted : goal.returns-in-Sha3-clause-restarted
returns-in-Sha3-clause-restarted c =
    let h = c.finish.ensures.restarted in
    record { fresh = rw c.in-Sha3.is h.fresh; ruled = rw c.in-Sha3.is h.ruled; same = rw c.in-Sha3.is h.same; kept = rw c.in-Sha3.is h.kept }

pub returns-in-Sha2-clause-restarted : goal.returns-in-Sha2-clause-restarted
returns-in-Sha2-clause-restarted c =
    let h = c.finish-in-Sha2.ensures.restarted in
    record { fresh = rw c.in-Sha2.is h.fresh; ruled = rw c.in-Sha2.is h.ruled; same = rw c.in-Sha2.is h.same; kept = rw c.in-Sha2.is h.kept }
