use Rattle.std.proofs.Common.{◌≡◌, ℕ, ◌*◌, List, [], ◌++◌, take, drop, ap, ap₂, ◌∙◌, arith}
use Rattle.std.proofs.lemmas.List.{drop_all, length-drop, append-nil}
use Rattle.sha512.specs.Blocks.{bytes_16}
use Rattle.sha512.proofs.padding.put_length.Goals as goal

pub returns : goal.returns
returns c =
    let past : drop 16 (drop 112 c.args.block.now) ≡ [] = drop_all 16 (drop 112 c.args.block.now) (simp length-drop (omega arith)) in
    ap (λ (x : List ℕ). take 112 c.args.block.now ++ x)
    (ap₂ (λ x y. x ++ y) (c.copy_from_slice.ensures.after ∙ c.to_be_bytes-bits.ensures ∙ bytes_16 (8 * c.args.n)) past ∙ append-nil _)
