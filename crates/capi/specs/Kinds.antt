-- What one of the two hashes means.
use Rattle.std.specs.Prelude.{◌≡◌, ℕ, List, length}
use Rattle.sha3.specs.Sponge.{sha3_rule}
use Rattle.sha3.specs.Outcomes as sha3
use Rattle.sha512.specs.Sha512.{sha2_rule}
use Rattle.sha512.specs.Takes as sha512
use Rattle.capi.specs.declared.kinds.AnyHash.{AnyHash}
use Rattle.capi.specs.declared.kinds.AnyHash.TheVariants.{Sha3, Sha2}

abbrev pub rule_of_hash : AnyHash → List ℕ → List ℕ
rule_of_hash (Sha3 h) = sha3_rule
rule_of_hash (Sha2 h) = sha2_rule

pub hash_length : (s : AnyHash) (xs : List ℕ) → length (rule_of_hash s xs) ≡ 32
hash_length (Sha3 h) xs = sha3.rule_length xs
hash_length (Sha2 h) xs = sha512.rule_length xs
