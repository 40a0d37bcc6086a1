-- The keys of seeds are a pair: the public key is the one that seals to the secret key.
use Rattle.std.proofs.Common.{◌≡◌, ℕ, ◌+◌, ◌^◌, ◌<◌, ◌≤◌, List, length, sym, ap, ◌∙◌, subst}
use Rattle.levels.specs.declared.Sizes.{Sizes}
use Rattle.levels.specs.Table.{Lawful}
use Rattle.algebra.specs.Field.{Ops, Laws, Places}
use Rattle.bits.specs.Vectors.{Matrix}
use Rattle.bits.specs.Kernels.{Echelon}
use Rattle.bits.specs.Reduced.{reduced_of}
use Rattle.bits.proofs.Decision.{independent_found}
use Rattle.bits.proofs.ReducedOf.{reduced_is}
use Rattle.sealing.specs.Tickets.{Rule}
use Rattle.sealing.specs.Calls.{public_matrix, seed_vector, Sealed}
use Rattle.sealing.proofs.Tickets.{seals_matrix}
use Rattle.keys.specs.Secret.{mixed_in, key_matrix, public_key_of, SealsTo}
use Rattle.keys.specs.Sound.{Sound}
use Rattle.keys.specs.Seeds.{mixed_of, secret_key_of, Pair}
use Rattle.keys.proofs.Soundness.{mixed_read, made_sound}

module _ {A : Type 0} {m : ℕ} {f : Ops A} (k : Laws f) (pl : Places A m) (z : pl.at 0 ≡ f.zero) (s : Sizes) (code : List ℕ) (le : s.n + s.t ≤ 2 ^ m) (h : Lawful s) (mixing decoy : List ℕ) (a : length mixing ≡ 32) (b : length decoy ≡ 32) where
  module _ (public secret : List ℕ) (p : public ≡ public_key_of s (reduced_of s.rows (mixed_of f pl s code mixing))) (e : secret ≡ secret_key_of f pl s code mixing decoy) (form : Echelon s.rows s.k (mixed_of f pl s code mixing) (public_matrix s public)) where
    mixed_same : mixed_of f pl s code mixing ≡ mixed_in f pl s secret
    mixed_same = sym (ap (λ (key : List ℕ). mixed_in f pl s key) e ∙ mixed_read k pl z s code le h mixing decoy a b)

    matrix_same : (i j : ℕ) → i < s.rows → j < s.k → public_matrix s public i j ≡ key_matrix f pl s secret i j
    matrix_same i j l q =
        reduced_is s.rows s.k (mixed_of f pl s code mixing) (public_matrix s public) form i j l q
        ∙ ap (λ (B : Matrix). reduced_of s.rows B i j) mixed_same

    secret_sound : Sound f pl s secret
    secret_sound =
        subst (λ (key : List ℕ). Sound f pl s key) (sym e)
        (made_sound k pl z s code le h mixing decoy a b (independent_found s.rows (mixed_of f pl s code mixing) form.injective))

    seals_to_lem : (rule : Rule) (seed ticket key : List ℕ) → Sealed s rule public seed ticket key → SealsTo f pl s rule secret (seed_vector s seed) ticket
    seals_to_lem rule seed ticket key x =
        record {
          weighs = x.weighs;
          seals = seals_matrix s h (public_matrix s public) (key_matrix f pl s secret) matrix_same rule (seed_vector s seed) ticket x.seals;
        }

    pub pair : Pair f pl s code mixing decoy public secret
    pair =
        record {
          public_is = p;
          secret_is = e;
          echelon = form;
          sound = secret_sound;
          fits = p ∙ ap (λ (B : Matrix). public_key_of s (reduced_of s.rows B)) mixed_same;
          seals = seals_to_lem;
        }
