-- With sub-steps of at most 0.45 of the stability limit the centre could overshoot: the cathode of the ready cell of graphite and lithium iron phosphate, 11 nodes, 298.15 K. A step of 1.4 s had
-- one sub-step, with 6·D·t above h². Computed. Assumes nothing.
use Rattle.std.specs.Prelude.{ℕ, ◌≡◌, refl, Float}
use Rattle.std.specs.Float.Ieee.{is_nan, lt, mul, div, round, size, of_int, of_bits}
use Rattle.fraction.specs.Fraction.{Fraction, whole, nat, ◌*F◌, ◌<F◌}
use Rattle.fraction.proofs.Order.{lit<F}
use Rattle.binary64.specs.Operators.{◌⊘◌, f64, count}
use Rattle.binary64.specs.Value.{val}
use Rattle.binary64.specs.Literals.{«0·45»}
use Rattle.elementary.specs.Exp.{one}
use Rattle.min_max.specs.Count.{ceil_of}
use Rattle.electrode.specs.Sheet.{graphite_anode, lfp_cathode}
use Rattle.diffusion.specs.Exact.{Numbers, centre}
use Rattle.diffusion.proofs.CentreNode.{centre_passes}
use Rattle.particle.specs.Particle.{spacing, stable_step}
use Rattle.particle.specs.Calls.{fresh}
use Rattle.solver_step.specs.Plans.{quotient_by, sub_steps_of}
use Rattle.solver.specs.Step.{plan_of}
use Rattle.solver_laws.specs.EarlierSubSteps.{earlier_plan}
use Rattle.solver_laws.specs.Instance.{start, room, three, d_neg_of, d_pos_of, anode_diffusivity, cathode_diffusivity}

-- 1.4 s
abbrev interval : Float
interval = f64 0x3ff6_6666_6666_6666

-- the cathode's numbers in that step
abbrev pub earlier_numbers : Numbers
earlier_numbers =
    let p = earlier_plan start three interval room in
    record {
      n = 11;
      h = val (spacing start.cathode.params 11);
      D = val p.d_pos;
      M = val start.cathode.params.c_s_max;
      flux = val p.j_pos;
      t = val (interval ⊘ count (sub_steps_of p));
    }

quotient_is : quotient_by «0·45» graphite_anode 11 lfp_cathode 11 interval d_neg_of d_pos_of ≡ one
unfolding spacing stable_step graphite_anode lfp_cathode is_nan lt mul div round size of_int of_bits
quotient_is = refl

pub one_sub_step : sub_steps_of (earlier_plan start three interval room) ≡ 1
unfolding fresh ceil_of of_bits
one_sub_step = rw (anode_diffusivity, cathode_diffusivity, quotient_is)

record Above : Type 0 where
  spaced : nat 0 <F earlier_numbers.h
  unstable : earlier_numbers.h *F earlier_numbers.h <F nat 6 *F val d_pos_of *F val (interval ⊘ count 1)

above : Above
unfolding fresh spacing lfp_cathode val whole ◌*F◌ div round size of_int of_bits
above = record { spaced = lit<F tt; unstable = lit<F tt }

diffusivity_is : (earlier_plan start three interval room).d_pos ≡ d_pos_of
unfolding plan_of fresh
diffusivity_is = cathode_diffusivity

-- h² < 6·D·t
pub earlier_unstable : earlier_numbers.h *F earlier_numbers.h <F nat 6 *F earlier_numbers.D *F earlier_numbers.t
earlier_unstable = rw (diffusivity_is, one_sub_step) above.unstable

-- THE CENTRE OF THE EXACT SCHEME goes beyond where its neighbour stood, whatever the profile
pub centre_overshoots : (c : ℕ → Fraction) → c 0 <F c 1 → c 1 <F centre earlier_numbers c
centre_overshoots c l = centre_passes earlier_numbers c above.spaced l earlier_unstable
