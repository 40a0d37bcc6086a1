-- The list of the faults: number, layer, part and place of each.
use Rattle.std.specs.Prelude.{ℕ, List, Option, Some, None, codes}
use Rattle.levels.specs.declared.faults.Fault.{Fault}
use Rattle.levels.specs.declared.faults.Fault.TheVariants.{NoLevel, NoKey, WrongLength, ShortWork, SmallCapacity, NoUsableSeed, Unsound, OutOfForm}
use Rattle.levels.specs.declared.faults.Defect.TheVariants as defect
use Rattle.levels.specs.declared.faults.Layer.{Layer}
use Rattle.levels.specs.declared.faults.Layer.TheVariants as layer
use Rattle.levels.specs.declared.faults.Part.{Part}
use Rattle.levels.specs.declared.faults.Part.TheVariants as part
use Rattle.levels.specs.declared.faults.Report.{Report}

abbrev pub reported : ℕ → Layer → Option Part → ℕ → Report
reported number layer part place = record { number = number; layer = layer; part = part; place = place }

abbrev pub report_of : Fault → Report
report_of NoLevel = reported 1 layer.Call None 0
report_of NoKey = reported 2 layer.Hatch None 0
report_of (WrongLength buffer) = reported 3 layer.Call None buffer
report_of (ShortWork slice) = reported 4 layer.Call None slice
report_of SmallCapacity = reported 5 layer.Hash None 0
report_of (NoUsableSeed tried) = reported 6 layer.Key None tried
report_of (Unsound (defect.Support at)) = reported 7 layer.Key (Some part.Support) at
report_of (Unsound (defect.Coefficient at)) = reported 7 layer.Key (Some part.Coefficient) at
report_of (Unsound (defect.Clash at)) = reported 7 layer.Key (Some part.Clash) at
report_of (Unsound (defect.Zeros found)) = reported 7 layer.Key (Some part.Zeros) found
report_of (Unsound (defect.Matrix row)) = reported 7 layer.Key (Some part.Matrix) row
report_of (Unsound (defect.Rank rank)) = reported 7 layer.Key (Some part.Rank) rank
report_of (OutOfForm line) = reported 8 layer.Line None line

-- the names as they are printed
abbrev pub layer_name : Layer → List ℕ
layer_name layer.Call = codes "call"
layer_name layer.Hatch = codes "hatch"
layer_name layer.Hash = codes "hash"
layer_name layer.Key = codes "key"
layer_name layer.Line = codes "line"

abbrev pub part_name : Part → List ℕ
part_name part.Support = codes "support"
part_name part.Coefficient = codes "coefficient"
part_name part.Clash = codes "clash"
part_name part.Zeros = codes "zeros"
part_name part.Matrix = codes "matrix"
part_name part.Rank = codes "rank"

abbrev pub name_of_part : Option Part → List ℕ
name_of_part None = codes "none"
name_of_part (Some part) = part_name part
