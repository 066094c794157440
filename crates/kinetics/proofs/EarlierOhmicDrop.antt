-- The terminal voltage with the drop in the electrolyte times the sign of the current, as it was before charge rows had the ohmic rise: at a current whose sign is not negative it is
-- the terminal voltage. Assumes nothing.
use Rattle.std.specs.Prelude.{◌≡◌, Bool, false, cond, T, Float}
use Rattle.std.proofs.Common.{sym, ap, ◌∙◌}
use Rattle.std.specs.Float.{nan, binary64}
use Rattle.std.specs.Float.Ieee.{neg, is_nan, fits}
use Rattle.binary64.specs.Operators.{◌⊗◌, negative}
use Rattle.binary64.specs.Literals.{«1·0»}
use Rattle.binary64.specs.Representable.{times_one}
use Rattle.kinetics.specs.Kinetics.{terminal_voltage}
use Rattle.kinetics.specs.EarlierOhmicDrop.{signum_of, voltage_by_signum}

drop_kept : (v i : Float) → T (fits binary64 v) → is_nan i ≡ false → negative i ≡ false → v ⊗ signum_of i ≡ v
drop_kept v i f n h =
    ap (λ (b : Bool). v ⊗ cond b nan (cond (negative i) (neg «1·0») «1·0»)) n
    ∙ ap (λ (b : Bool). v ⊗ cond b (neg «1·0») «1·0») h
    ∙ times_one v f

pub voltage_kept : (u_neg u_pos eta_neg eta_pos v_ohm i : Float) → T (fits binary64 v_ohm) → is_nan i ≡ false → negative i ≡ false
    → terminal_voltage u_neg u_pos eta_neg eta_pos v_ohm ≡ voltage_by_signum u_neg u_pos eta_neg eta_pos v_ohm i
voltage_kept u_neg u_pos eta_neg eta_pos v_ohm i f n h = ap (terminal_voltage u_neg u_pos eta_neg eta_pos) (sym (drop_kept v_ohm i f n h))
