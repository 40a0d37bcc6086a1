use Rattle.capi.proofs.kinds.AnyHashHash.start.Goals as goal

pub returns-in-Sha3 : goal.returns-in-Sha3
returns-in-Sha3 c =
    let h = c.start.ensures in
    record { fresh = rw c.in-Sha3.is h.fresh; ruled = rw c.in-Sha3.is h.ruled; same = rw c.in-Sha3.is h.same; kept = rw c.in-Sha3.is h.kept }

pub returns-in-Sha2 : goal.returns-in-Sha2
returns-in-Sha2 c =
    let h = c.start-in-Sha2.ensures in
    record { fresh = rw c.in-Sha2.is h.fresh; ruled = rw c.in-Sha2.is h.ruled; same = rw c.in-Sha2.is h.same; kept = rw c.in-Sha2.is h.kept }
