-- The field of a level: 64 elements at the sample, 8,192 at the others.
use Rattle.levels.specs.declared.Level.{Level}
use Rattle.levels.specs.declared.Level.TheVariants.{Sample, Level128, Level192, Level256}
use Rattle.levels.specs.Table.{sizes_of}
use Rattle.algebra.specs.Field.{Ops, Places}
use Rattle.field64.specs.Model.{E64, ops64, places64}
use Rattle.field8192.specs.Model.{E8192, ops8192, places8192}

abbrev pub ElementOf : Level → Type 0
ElementOf Sample = E64
ElementOf Level128 = E8192
ElementOf Level192 = E8192
ElementOf Level256 = E8192

abbrev pub ops_of : (l : Level) → Ops (ElementOf l)
ops_of Sample = ops64
ops_of Level128 = ops8192
ops_of Level192 = ops8192
ops_of Level256 = ops8192

abbrev pub places_of : (l : Level) → Places (ElementOf l) (sizes_of l).m
places_of Sample = places64
places_of Level128 = places8192
places_of Level192 = places8192
places_of Level256 = places8192
