-- The elements of the field of 8,192, numbered, and its operations.
use Rattle.std.specs.Prelude.{ℕ}
use Rattle.algebra.specs.Field.{Ops, Places}
use Rattle.fields.specs.declared.arithmetic.Arithmetic.{Ghosts}
use Rattle.fields.specs.declared.element.Element.{Element}
use Rattle.fields.specs.Elements.{at, places, ops}
use Rattle.field8192.specs.declared.shifts.Shifts.{Shifts}
use Rattle.field8192.specs.Product.{mul8192, inv8192, root8192}

abbrev pub by_shifts : Ghosts Shifts
by_shifts = record { BITS = 13; mul = mul8192; inv = inv8192; root = root8192 }

abbrev pub E8192 : Type 0
E8192 = Element Shifts by_shifts

-- the element at a place, and zero where the number is no place
abbrev pub at8192 : ℕ → E8192
at8192 = at by_shifts

abbrev pub places8192 : Places E8192 13
places8192 = places by_shifts

abbrev pub ops8192 : Ops E8192
ops8192 = ops by_shifts
