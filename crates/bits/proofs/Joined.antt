-- Two lists, written one after the other.
use Rattle.std.proofs.Common.{◌≡◌, ℕ, ◌-◌, List, [], ◌++◌, length, take, drop, arith}
use Rattle.std.proofs.lemmas.List.{take_at, drop_all, length-drop, append-nil}

-- n items at the front, and then a part to the end
pub two_copies :
    (n : ℕ) (x y rest : List ℕ) → length x ≡ n
    → take n (x ++ rest) ++ (y ++ drop (length (x ++ rest) - n) (drop n (x ++ rest))) ≡ x ++ y
two_copies n x y rest l =
    let e : drop (length (x ++ rest) - n) (drop n (x ++ rest)) ≡ [] =
    drop_all (length (x ++ rest) - n) (drop n (x ++ rest)) (simp length-drop (omega arith)) in
    rw (e, append-nil y, take_at x rest n l)
