-- `asinh` meets its contract. Assumes nothing.
use mathlib.Core.Path.{◌≡◌, sym, ap, ◌∙◌}
use mathlib.Core.Bool.{Bool, true, false, cond}
use lib.Ieee.{Float, neg, lt}
use Rattle.binary64.specs.Operators.{◌⊕◌, negative}
use Rattle.binary64.specs.Literals.{«0·0009765625»}
use Rattle.elementary.specs.Ln.{ln_of}
use Rattle.min_max.specs.MinMax.{abs_of}
use Rattle.elementary.specs.Asinh.{asinh_at, asinh_log, asinh_taylor, is_small, asinh_of}
use Rattle.elementary.specs.AsinhForms.{asinh_taylor_lem, asinh_log_lem}
use Rattle.elementary.proofs.asinh.Goals as goal

-- what the test of a = |x| says of x
tested : (x a : Float) (b : Bool) → a ≡ abs_of x → lt a «0·0009765625» ≡ b → is_small x ≡ b
tested x a b e h = ap (λ (z : Float). lt z «0·0009765625») (sym e) ∙ h

signed : (x r : Float) (b : Bool) → negative x ≡ b → is_small x ≡ false → r ≡ asinh_at (abs_of x) → cond b (neg r) r ≡ asinh_of x
unfolding asinh_log
signed x r b h n e = ap (λ (z : Float). cond b (neg z) z) e ∙ ap (λ (z : Bool). cond z (neg (asinh_at (abs_of x))) (asinh_at (abs_of x))) (sym h) ∙ sym (asinh_log_lem x n)

pub returns-then-a : goal.returns-then-a
unfolding asinh_taylor
returns-then-a c =
    sym (asinh_taylor_lem c.args.x (tested c.args.x c.abs-a.result true c.abs-a.ensures c.if-a.true))

pub returns-then-is_negative : goal.returns-then-is_negative
returns-then-is_negative c =
    signed c.args.x _ true (sym c.is_negative.ensures ∙ c.if-is_negative.true) (tested c.args.x c.abs-a.result false c.abs-a.ensures c.if-a.false)
    (c.ln-r.ensures ∙ ap (λ (r : Float). ln_of (c.abs-a.result ⊕ r)) c.sqrt.ensures.value ∙ ap asinh_at c.abs-a.ensures)

pub returns : goal.returns
returns c =
    signed c.args.x _ false (sym c.is_negative.ensures ∙ c.if-is_negative.false) (tested c.args.x c.abs-a.result false c.abs-a.ensures c.if-a.false)
    (c.ln-r.ensures ∙ ap (λ (r : Float). ln_of (c.abs-a.result ⊕ r)) c.sqrt.ensures.value ∙ ap asinh_at c.abs-a.ensures)
