-- The elements of the field of 64, numbered, and its operations.
use Rattle.std.specs.Prelude.{ℕ}
use Rattle.algebra.specs.Field.{Ops, Places}
use Rattle.fields.specs.declared.arithmetic.Arithmetic.{Ghosts}
use Rattle.fields.specs.declared.element.Element.{Element}
use Rattle.fields.specs.Elements.{at, places, ops}
use Rattle.field64.specs.declared.tables.Tables.{Tables}
use Rattle.field64.specs.Tables.{mul64, inv64, root64}

abbrev pub by_tables : Ghosts Tables
by_tables = record { BITS = 6; mul = mul64; inv = inv64; root = root64 }

abbrev pub E64 : Type 0
E64 = Element Tables by_tables

-- the element at a place, and zero where the number is no place
abbrev pub at64 : ℕ → E64
at64 = at by_tables

abbrev pub places64 : Places E64 6
places64 = places by_tables

abbrev pub ops64 : Ops E64
ops64 = ops by_tables
