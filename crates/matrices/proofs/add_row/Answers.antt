use Rattle.std.proofs.Common.{◌≡◌, ℕ, ◌+◌, ◌-◌, ◌*◌, ◌<◌, ◌≤◌, length, get_or, take, drop, bit_xor, ◌∙◌, ap₂, arith}
use Rattle.std.proofs.lemmas.List.{get_or-take, length-take-le}
use Rattle.matrices.proofs.Rows.{added_row, summed_part, summed_front, part_at}
use Rattle.matrices.proofs.Bytes.{row_before}
use Rattle.matrices.proofs.add_row.Goals as goal

pub returns-then-from-into : goal.returns-then-from-into
returns-then-from-into c =
    let w = c.args.width in
    let xs = c.args.m.now in
    let ys = c.add_bytes.new.into in
    let a = c.args.into * w in
    let b = c.args.from * w in
    let s = c.split_at_mut-front.ensures in
    let ba : b + w ≤ a = row_before w c.args.from c.args.into (omega arith) in
    let long : length ys ≡ w = omega (arith, length-take-le w c.split_at_mut-front.result.1.now (omega arith)) in
    let into : (k : ℕ) → k < w → get_or (take w c.split_at_mut-front.result.1.now) k 0 ≡ get_or xs (a + k) 0 =
    λ k l. rw s.back (part_at w a k xs l) in
    let from : (k : ℕ) → k < w → get_or (take (b + w - b) (drop b c.split_at_mut-front.result.0.now)) k 0 ≡ get_or xs (b + k) 0 =
    λ k l. rw s.front (part_at (b + w - b) b k (take a xs) (omega arith) ∙ get_or-take a xs (b + k) 0 (omega arith)) in
    added_row w c.args.from c.args.into xs _
    (rw (s.front, s.back)
    (summed_part w a b xs ys long (λ k l. c.add_bytes.ensures k (omega arith) ∙ ap₂ bit_xor (into k l) (from k l)) (omega arith)))

pub returns-else-from-into : goal.returns-else-from-into
returns-else-from-into c =
    let w = c.args.width in
    let xs = c.args.m.now in
    let ys = c.add_bytes-else-from-into.new.into in
    let a = c.args.into * w in
    let b = c.args.from * w in
    let s = c.split_at_mut-front-else-from-into.ensures in
    let other : c.args.into < c.args.from = omega arith in
    let ab : a + w ≤ b = row_before w c.args.into c.args.from other in
    let n : a + w - a ≡ w = omega arith in
    let into : (k : ℕ) → k < w → get_or (take (a + w - a) (drop a c.split_at_mut-front-else-from-into.result.0.now)) k 0 ≡ get_or xs (a + k) 0 =
    λ k l. rw s.front (part_at (a + w - a) a k (take b xs) (omega arith) ∙ get_or-take b xs (a + k) 0 (omega arith)) in
    let from : (k : ℕ) → k < w → get_or (take w c.split_at_mut-front-else-from-into.result.1.now) k 0 ≡ get_or xs (b + k) 0 =
    λ k l. rw s.back (part_at w b k xs l) in
    added_row w c.args.from c.args.into xs _
    (rw (n, s.front, s.back)
    (summed_front w a b xs ys (omega arith) (λ k l. c.add_bytes-else-from-into.ensures k (omega arith) ∙ ap₂ bit_xor (into k l) (from k l)) b ab (omega arith)))
