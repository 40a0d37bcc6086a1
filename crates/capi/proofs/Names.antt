-- Bytes that are no text name no level.
use Rattle.std.proofs.Common.{◌≡◌, ℕ, Bool, true, false, List, Err, codes, IsUtf8, sym, refl, subst}
use Rattle.std.specs.Str.{bytes_eq}
use Rattle.std.proofs.lemmas.Slice.Eq.{bytes_eq-Decides}
use Rattle.levels.specs.Names.{level_of}
use Rattle.levels.specs.declared.faults.Fault.TheVariants.{NoLevel}

not_true : (b : Bool) → (b ≡ true → ⊥) → b ≡ false
not_true true h = absurd (h refl)
not_true false h = refl

-- bytes that are no text are not those of a text
other : (xs text : List ℕ) → (IsUtf8 xs → ⊥) → IsUtf8 text → bytes_eq xs text ≡ false
other xs text none some =
    not_true (bytes_eq xs text) (λ e. none (subst IsUtf8 (sym ((bytes_eq-Decides xs text).0 e)) some))

pub no_text : (xs : List ℕ) → (IsUtf8 xs → ⊥) → Err NoLevel ≡ level_of xs
unfolding lib.Utf8.encode
no_text xs none =
    let a : bytes_eq xs (codes "sample") ≡ false = other xs (codes "sample") none (codes "sample", (refl, refl)) in
    let b : bytes_eq xs (codes "128") ≡ false = other xs (codes "128") none (codes "128", (refl, refl)) in
    let d : bytes_eq xs (codes "192") ≡ false = other xs (codes "192") none (codes "192", (refl, refl)) in
    let e : bytes_eq xs (codes "256") ≡ false = other xs (codes "256") none (codes "256", (refl, refl)) in
    simp (a, b, d, e) refl
