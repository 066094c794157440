-- `image_rows::read_numbers` meets its contract: k places are read after k turns. Assumes nothing.
use Rattle.std.proofs.Common.{◌+◌, T, length, refl, sym, ◌∙◌, subst, arith, add-one}
use Rattle.std.proofs.Math.Bool.{not}
use Rattle.std.specs.Float.{binary64}
use lib.Ieee.{nan_bits}
use Rattle.iterate.specs.Iterate.{first_by, all_at}
use Rattle.codec.specs.Words.{word_at, float_at}
use Rattle.image_rows.specs.Rows.{finite_pattern, finite_words}
use Rattle.image_rows.proofs.RowLaws.{word_is, no_nan_pattern}
use Rattle.image_rows.proofs.read_numbers.Goals as goal

pub loop-i-init : goal.loop-i-init
unfolding first_by
loop-i-init c = refl

pub float_from_bits-x : goal.float_from_bits-x
unfolding finite_words
float_from_bits-x c =
    let a = c.args in
    let i = c.loop-i.i in
    subst (λ n. T (not (nan_bits binary64 n))) (sym (c.word_from.ensures ∙ word_is a.s.now (a.at + i) (omega arith)))
    (no_nan_pattern _ (all_at (λ k. finite_pattern (word_at a.s.now (a.at + k))) (length a.out.now) i (omega arith) c.requires.1))

pub loop-i-preserved : goal.loop-i-preserved
unfolding first_by float_at
loop-i-preserved c =
    let i = c.loop-i.i in
    rw (add-one i, c.word_from.ensures ∙ word_is c.args.s.now (c.args.at + i) (omega arith), c.loop-i.invariant)
