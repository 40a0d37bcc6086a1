-- What it means that a ticket seals a vector, for any hash rule and any matrix M.
use Rattle.std.specs.Prelude.{◌≡◌, ℕ, List, ◌++◌, codes}
use Rattle.levels.specs.declared.Sizes.{Sizes}
use Rattle.bits.specs.Vectors.{Vector, Matrix, times, systematic}
use Rattle.bits.specs.Packed.{packed}
use Rattle.shuffles.specs.Orders.{order, perm}

-- a hash rule
abbrev pub Rule : Type 0
Rule = List ℕ → List ℕ

-- the head of a ticket: its first 32 bytes, the rule of a label and the vector
unfoldable pub head_of : Sizes → Rule → Vector → List ℕ
head_of s rule e = rule (codes "PALOMAGG" ++ packed s.vector e)

-- its body, after the head: [I | M] times Perm of the vector by the head
unfoldable pub body_of : Sizes → Matrix → List ℕ → Vector → List ℕ
body_of s M head e = packed s.body (times s.n (systematic s.rows M) (perm (order s.n head) e))

unfoldable pub ticket_of : Sizes → Rule → Matrix → Vector → List ℕ
ticket_of s rule M e = head_of s rule e ++ body_of s M (head_of s rule e) e

-- the ticket seals the vector
abbrev pub Seals : Sizes → Rule → Matrix → Vector → List ℕ → Type 0
Seals s rule M e ticket = ticket ≡ ticket_of s rule M e

-- the key that a vector and a ticket give
unfoldable pub key_of : Sizes → Rule → Vector → List ℕ → List ℕ
key_of s rule e ticket = rule (codes "PALOMAHH" ++ (packed s.vector e ++ ticket))
