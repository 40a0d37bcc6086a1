-- The names of the levels.
use Rattle.std.specs.Prelude.{ℕ, cond, List, Ok, Err, codes, Result}
use Rattle.std.specs.Str.{bytes_eq}
use Rattle.levels.specs.declared.faults.Fault.{Fault}
use Rattle.levels.specs.declared.faults.Fault.TheVariants.{NoLevel}
use Rattle.levels.specs.declared.Level.{Level}
use Rattle.levels.specs.declared.Level.TheVariants.{Sample, Level128, Level192, Level256}

-- the level that a text names, or the fault that it names none
abbrev pub level_of : List ℕ → Result Level Fault
level_of s =
    cond (bytes_eq s (codes "sample")) (Ok Sample)
    (cond (bytes_eq s (codes "128")) (Ok Level128)
    (cond (bytes_eq s (codes "192")) (Ok Level192)
    (cond (bytes_eq s (codes "256")) (Ok Level256) (Err NoLevel))))
