-- `image_rows::write_numbers` meets its contract: k places are written after k turns. Assumes nothing.
use Rattle.std.proofs.Common.{◌+◌, length, get_or, ◌∙◌, refl, arith, add-one}
use Rattle.std.specs.Float.{nan}
use Rattle.std.specs.Float.Ieee.{eq}
use Rattle.iterate.specs.Iterate.{all_at}
use Rattle.codec.specs.Words.{put_float, put_places}
use Rattle.image_rows.specs.Rows.{no_nan_of}
use Rattle.image_rows.proofs.RowLaws.{put_is, no_nan}
use Rattle.image_rows.proofs.write_numbers.Goals as goal

pub loop-i-init : goal.loop-i-init
unfolding put_places
loop-i-init c = refl

pub float_to_bits-x : goal.float_to_bits-x
unfolding no_nan_of
float_to_bits-x c =
    let row = c.args.c.now in
    no_nan _ (all_at (λ k. eq (get_or row k nan) (get_or row k nan)) (length row) c.loop-i.i (omega arith) c.requires.1)

pub loop-i-preserved : goal.loop-i-preserved
unfolding put_places put_float
loop-i-preserved c =
    let l = c.loop-i in
    rw (add-one l.i, c.write_bytes.ensures ∙ put_is l.s (c.args.at + l.i) _ (omega arith), l.invariant)
