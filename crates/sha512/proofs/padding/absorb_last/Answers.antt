use Rattle.std.proofs.Common.{ℕ, ◌-◌, List, ◌++◌, length, take, replicate, sym, refl, ap, ◌∙◌, arith}
use Rattle.std.proofs.lemmas.List.{take-replicate}
use Rattle.sha512.specs.Sha512.{absorb}
use Rattle.sha512.specs.Blocks.{absorb_block, absorb_one, pad_one, pad_two}
use Rattle.sha512.proofs.padding.absorb_last.Goals as goal

pub returns-then-rest-lt112 : goal.returns-then-rest-lt112
returns-then-rest-lt112 c =
    c.compress_block.ensures
    ∙ sym (absorb_one c.args.h.now c.put_length.new.block c.put_length.array_long)
    ∙ ap (absorb c.args.h.now) (c.put_length.ensures
    ∙ pad_one c.args.rest.now c.closed-last.result (length c.args.rest.now) c.args.taken (111 - length c.args.rest.now) c.requires (omega arith) refl c.closed-last.ensures)

pub returns-else-rest-lt112 : goal.returns-else-rest-lt112
returns-else-rest-lt112 c =
    c.compress_block-else-rest-lt112-2.ensures
    ∙ sym (absorb_one c.compress_block-else-rest-lt112.new.h c.put_length-else-rest-lt112.new.block c.put_length-else-rest-lt112.array_long)
    ∙ ap (λ (x : List ℕ). absorb x c.put_length-else-rest-lt112.new.block) c.compress_block-else-rest-lt112.ensures
    ∙ sym (absorb_block c.args.h.now c.closed-last.result c.put_length-else-rest-lt112.new.block (omega arith))
    ∙ ap (absorb c.args.h.now) (ap (λ (x : List ℕ). c.closed-last.result ++ x) c.put_length-else-rest-lt112.ensures
    ∙ pad_two c.args.rest.now c.closed-last.result (take 112 (replicate 128 0)) (length c.args.rest.now) c.args.taken 112
    c.requires c.if-rest-lt112.false c.closed-last.ensures refl (take-replicate 112 128 0 (omega arith)))
