-- `decimal_spelling::Line::put_whole` meets its contract. Assumes nothing.
use Rattle.std.proofs.Common.{◌≡◌, suc, ◌-◌, true, false, sym, ◌∙◌, arith, zero-lt-suc}
use native.Mathlib.Nat.{one-le-pow}
use Rattle.decimal_spelling.specs.Spelling.{put_all, whole_text}
use Rattle.decimal_spelling.proofs.Turns.{whole_turn}
use Rattle.decimal_spelling.proofs.Line.put_whole.Goals as goal

pub nonzero_div-n : goal.nonzero_div-n
nonzero_div-n c = rw c.pow-power.ensures (one-le-pow (c.loop-k.k - 1) 10 (zero-lt-suc 9))

pub loop-k-preserved-then-power-n : goal.loop-k-preserved-then-power-n
loop-k-preserved-then-power-n c =
    let l : suc (c.loop-k.k - 1) ≡ c.loop-k.k = omega arith in
    rw (c.put.ensures, c.glyph_of.ensures, c.pow-power.ensures) (whole_turn c.loop-k.self c.args.n (c.loop-k.k - 1) true (sym (rw c.pow-power.ensures at c.if-power-n.true)) ∙ rw l c.loop-k.invariant)

pub loop-k-preserved : goal.loop-k-preserved
loop-k-preserved c =
    let l : suc (c.loop-k.k - 1) ≡ c.loop-k.k = omega arith in
    whole_turn c.loop-k.self c.args.n (c.loop-k.k - 1) false (sym (rw c.pow-power.ensures at c.if-power-n.false)) ∙ rw l c.loop-k.invariant

pub returns : goal.returns
unfolding whole_text put_all
returns c =
    let e : c.loop-k.k ≡ 0 = omega arith in rw e at c.loop-k.invariant
