-- What the C interface answers: refusals as numbers, and which hash a kind is.
use Rattle.std.specs.Prelude.{◌≡◌, ℕ, ◌-◌, ◌*◌, cond, List, [], ◌∷◌, ◌++◌, length, Ok, Err, Result, Option, Some, None, ◌==◌, nat_lt}
use Rattle.bits.specs.Packed.{vector, packed}
use Rattle.levels.specs.Faults.{report_of}
use Rattle.levels.specs.declared.faults.Fault.{Fault}
use Rattle.levels.specs.declared.faults.Layer.{Layer}
use Rattle.levels.specs.declared.faults.Layer.TheVariants as layer
use Rattle.levels.specs.declared.faults.Part.{Part}
use Rattle.levels.specs.declared.faults.Part.TheVariants as part
use Rattle.levels.specs.declared.Level.{Level}
use Rattle.levels.specs.Table.{sizes_of}
use Rattle.shuffles.specs.Orders.{order, perm, perm_inv, error_vector_of}
use Rattle.sealing.specs.Calls.{SealedAt}
use Rattle.sealing.specs.Tickets.{Rule}
use Rattle.keys.specs.Calls.{MadeAt}
use Rattle.sha3.specs.Sponge.{sha3_rule}
use Rattle.sha512.specs.Sha512.{sha2_rule}

abbrev pub code_of_layer : Layer → ℕ
code_of_layer layer.Call = 1
code_of_layer layer.Hatch = 2
code_of_layer layer.Hash = 3
code_of_layer layer.Key = 4
code_of_layer layer.Line = 5

abbrev pub code_of_part : Option Part → ℕ
code_of_part None = 0
code_of_part (Some part.Support) = 1
code_of_part (Some part.Coefficient) = 2
code_of_part (Some part.Clash) = 3
code_of_part (Some part.Zeros) = 4
code_of_part (Some part.Matrix) = 5
code_of_part (Some part.Rank) = 6

-- number, layer, part and place of an answer, all zero for an acceptance
abbrev pub told : Result (Unit {0}) Fault → List ℕ
told (Ok x) = 0 ∷ 0 ∷ 0 ∷ 0 ∷ []
told (Err f) = (report_of f).number ∷ code_of_layer (report_of f).layer ∷ code_of_part (report_of f).part ∷ (report_of f).place ∷ []

-- the number of an answer, 0 for an acceptance
abbrev pub number_of : Result (Unit {0}) Fault → ℕ
number_of (Ok x) = 0
number_of (Err f) = (report_of f).number

-- what a report holds afterwards: it is written only if it has four entries
abbrev pub report_after : List ℕ → Result (Unit {0}) Fault → List ℕ
report_after before answer = cond (length before == 4) (told answer) before

-- the rule of a kind of hash
abbrev pub rule_of : ℕ → List ℕ → List ℕ
rule_of kind = cond (kind == 0) sha3_rule sha2_rule

-- what an answered seal leaves: ticket and key of the seed's error vector, or both as they were
abbrev pub GivenBy : Result (Unit {0}) Fault → Result Level Fault → Rule → (public seed ticket ticketAfter key keyAfter : List ℕ) → Type 0
GivenBy (Ok x) level rule public seed ticket ticketAfter key keyAfter = SealedAt level rule public seed ticketAfter keyAfter
GivenBy (Err f) level rule public seed ticket ticketAfter key keyAfter = (ticketAfter ≡ ticket) × (keyAfter ≡ key)

-- what an answered make leaves: the pair of the first usable seed, or both keys as they were
abbrev pub MadeBy : Result (Unit {0}) Fault → Result Level Fault → (code seeds decoy public publicAfter secret secretAfter : List ℕ) → Type 0
MadeBy (Ok x) level code seeds decoy public publicAfter secret secretAfter = MadeAt level code seeds decoy publicAfter secretAfter
MadeBy (Err f) level code seeds decoy public publicAfter secret secretAfter = (publicAfter ≡ public) × (secretAfter ≡ secret)

-- 1 for no level, 3 for a wrong length of seed or vector, 4 for too few positions
abbrev pub error_vector_answer : Result Level Fault → (seed out : List ℕ) → ℕ → ℕ
error_vector_answer (Err f) seed out positions = 1
error_vector_answer (Ok l) seed out positions =
    cond (length seed == 32) (cond (length out == (sizes_of l).vector) (cond (nat_lt positions (sizes_of l).n) 4 0) 3) 3

-- the seed's error vector, or what was there
abbrev pub error_vector_after : Result Level Fault → (seed out : List ℕ) → ℕ → List ℕ
error_vector_after (Err f) seed out positions = out
error_vector_after (Ok l) seed out positions =
    cond (length seed == 32)
    (cond (length out == (sizes_of l).vector)
    (cond (nat_lt positions (sizes_of l).n) out (packed (length out) (error_vector_of (sizes_of l).n (sizes_of l).t seed)))
    out)
    out

-- 3 for a wrong length, of seed, output, a vector of 2^28 bytes or more, or positions
abbrev pub permute_answer : (seed v out : List ℕ) → ℕ → ℕ
permute_answer seed v out positions =
    cond (length seed == 32)
    (cond (length out == length v) (cond (nat_lt (length v) 268435456) (cond (nat_lt positions (8 * length v)) 3 0) 3) 3)
    3

-- Perm by the seed, or PermInv where the word `inverse` is not 0
abbrev pub permuted : ℕ → (seed v : List ℕ) → List ℕ
permuted inverse seed v =
    packed (length v)
    (cond (inverse == 0) (perm (order (8 * length v) seed) (vector v)) (perm_inv (order (8 * length v) seed) (vector v)))

-- what the output holds afterwards
abbrev pub permute_after : ℕ → (seed v out : List ℕ) → ℕ → List ℕ
permute_after inverse seed v out positions = cond (permute_answer seed v out positions == 0) (permuted inverse seed v) out

-- 3 for an output that has not 32 bytes, 5 for more bytes than the hash takes
abbrev pub hash_answer : ℕ → (first second out : List ℕ) → ℕ
hash_answer capacity first second out =
    cond (length out == 32)
    (cond (nat_lt capacity (length first)) 5 (cond (nat_lt (capacity - length first) (length second)) 5 0))
    3

-- the rule of the two lists, or what was there
abbrev pub hash_after : ℕ → Rule → (first second out : List ℕ) → List ℕ
hash_after capacity rule first second out =
    cond (hash_answer capacity first second out == 0) (rule (first ++ second)) out
