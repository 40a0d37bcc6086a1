-- The field of four elements, by tables.
use Rattle.algebra.specs.Field.{Ops}

-- zero, one, and two elements w1 and w2 with w1² = w2, w2² = w1 and w1 + w2 = 1
pub data Four : Type 0 where
  n0 n1 w1 w2 : Four

abbrev pub plus : Four → Four → Four
plus n0 y = y
plus n1 n0 = n1
plus n1 n1 = n0
plus n1 w1 = w2
plus n1 w2 = w1
plus w1 n0 = w1
plus w1 n1 = w2
plus w1 w1 = n0
plus w1 w2 = n1
plus w2 n0 = w2
plus w2 n1 = w1
plus w2 w1 = n1
plus w2 w2 = n0

abbrev pub times : Four → Four → Four
times n0 y = n0
times n1 y = y
times w1 n0 = n0
times w1 n1 = w1
times w1 w1 = w2
times w1 w2 = n1
times w2 n0 = n0
times w2 n1 = w2
times w2 w1 = n1
times w2 w2 = w1

abbrev pub inverse : Four → Four
inverse n0 = n0
inverse n1 = n1
inverse w1 = w2
inverse w2 = w1

abbrev pub four : Ops Four
four = record { zero = n0; one = n1; add = plus; mul = times; inv = inverse }
