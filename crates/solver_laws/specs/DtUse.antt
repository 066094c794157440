-- dt_use, by which an interval is divided: the least of the interval and of the electrodes' longest sub-steps, by any factor from 1 / 4 to 1. Assumes nothing.
use Rattle.std.specs.Prelude.{◌^◌, ◌≡◌, Bool, true, false, cond, ◌||◌, Float}
use Rattle.std.specs.Float.Ieee.{lt, is_nan, of_bits}
use Rattle.fraction.specs.Fraction.{Fraction, nat, ◌≤F◌, ◌<F◌}
use Rattle.fraction.proofs.Field.{≤F-trans}
use Rattle.fraction.proofs.Size.{size_pos}
use Rattle.binary64.specs.Range.{Within}
use Rattle.binary64.proofs.RangeOps.{literal}
use Rattle.binary64.proofs.RangeOps.{mul_between, div_between}
use Rattle.binary64.proofs.Bounds.{within_scaled}
use Rattle.binary64.proofs.OrderLaws.{positive-finite}
use Rattle.binary64.specs.Value.{val}
use Rattle.binary64.proofs.Value.{le_val}
use Rattle.binary64.specs.Literals.{«0·5»}
use Rattle.min_max.specs.MinMax.{min_of}
use Rattle.min_max.proofs.ChoiceLaws.{min_first, min_second}
use Rattle.particle.specs.Particle.{spacing, stable_step}
use Rattle.particle_laws.specs.Nodes.{number}
use Rattle.particle_laws.specs.Ranges.{spacing_range}
use Rattle.solver.specs.declared.SpmSolver.{SpmSolver}
use Rattle.solver_step.specs.Plans.{longest_by}
use Rattle.solver.specs.Step.{input_refusal, plan_of}
use Rattle.solver_laws.specs.Electrodes.{Electrode, particle_at, diffusivity_in, electrode_passes, cell_passed, interval_above, diffusivity_in_lem}

-- ---- the least of two that are above 0
module _ (a b : Float) (p : nat 0 <F val a) (q : nat 0 <F val b) where
  min_above : nat 0 <F val (min_of a b)
  min_above = go (is_nan a || lt b a)
    where
      go : (t : Bool) → nat 0 <F val (cond t b a)
      go true = q
      go false = p

  min_left : val (min_of a b) ≤F val a
  min_left = let f = positive-finite a p in le_val (min_of a b) a (positive-finite (min_of a b) min_above) f (min_first a b (number a f))

  min_right : val (min_of a b) ≤F val b
  min_right = let f = positive-finite b q in le_val (min_of a b) b (positive-finite (min_of a b) min_above) f (min_second a b (number b f))

-- what is at most both is at most the least
min_greatest : (x : Fraction) (a b : Float) → x ≤F val a → x ≤F val b → x ≤F val (min_of a b)
min_greatest x a b h k = go (is_nan a || lt b a)
  where
    go : (t : Bool) → x ≤F val (cond t b a)
    go true = k
    go false = h

-- ---- of a step, by a factor
abbrev pub longest_at : Float → SpmSolver → Float → Float → Float → Electrode → Float
longest_at f s i dt t e = longest_by f (particle_at e s).params (particle_at e s).n_nodes (diffusivity_in e (plan_of s i dt t))

abbrev pub used_by : Float → SpmSolver → Float → Float → Float → Float
used_by f s i dt t = min_of (min_of dt (longest_at f s i dt t Electrode.anode)) (longest_at f s i dt t Electrode.cathode)

pub record DtUse (f : Float) (s : SpmSolver) (i dt t : Float) : Type 0 where
  pub above : nat 0 <F val (used_by f s i dt t)
  pub short : val (used_by f s i dt t) ≤F val dt
  pub anode : val (used_by f s i dt t) ≤F val (longest_at f s i dt t Electrode.anode)
  pub cathode : val (used_by f s i dt t) ≤F val (longest_at f s i dt t Electrode.cathode)

pub half_range : Within «0·5» 1 2 1 2
unfolding of_bits
half_range = literal «0·5» 1 2 1 2 tt tt tt tt tt

module _ (s : SpmSolver) (i dt t : Float) (h : input_refusal s i dt t ≡ 0) where
  pub spaced : (e : Electrode) → Within (spacing (particle_at e s).params (particle_at e s).n_nodes) 1 (2 ^ 10) 1 (2 ^ 33)
  spaced e = spacing_range (particle_at e s) (electrode_passes s (cell_passed s i dt t h) e)

  -- dt_stable, from 2 ^ -86 to 2 ^ 92
  pub stable_range : (e : Electrode) → Within (stable_step (particle_at e s).params (particle_at e s).n_nodes (diffusivity_in e (plan_of s i dt t))) (2 ^ 92) 1 1 (2 ^ 86)
  unfolding stable_step
  stable_range e =
      let square = mul_between (mul_between half_range (spaced e) 1 (2 ^ 11) 1 (2 ^ 34) tt tt tt tt) (spaced e) 1 (2 ^ 21) 1 (2 ^ 67) tt tt tt tt in
      div_between square (diffusivity_in_lem s i dt t h e) (2 ^ 92) 1 1 (2 ^ 86) tt tt tt tt tt

  module _ (f : Float) (range : Within f 1 1 1 4) where
    pub longest_above : (e : Electrode) → nat 0 <F val (longest_at f s i dt t e)
    longest_above e = size_pos (within_scaled (mul_between (stable_range e) range (2 ^ 92) 1 1 (2 ^ 88) tt tt tt tt) 88 92 tt tt).size

    pub used_by_lem : DtUse f s i dt t
    used_by_lem =
        let p = interval_above s i dt t h in
        let a = longest_at f s i dt t Electrode.anode in
        let c = longest_at f s i dt t Electrode.cathode in
        let m = min_above dt a p (longest_above Electrode.anode) in
        let l = min_left (min_of dt a) c m (longest_above Electrode.cathode) in
        record {
          above = min_above (min_of dt a) c m (longest_above Electrode.cathode);
          short = ≤F-trans l (min_left dt a p (longest_above Electrode.anode));
          anode = ≤F-trans l (min_right dt a p (longest_above Electrode.anode));
          cathode = min_right (min_of dt a) c m (longest_above Electrode.cathode);
        }

pub used_longest : {f : Float} {s : SpmSolver} {i dt t : Float} → DtUse f s i dt t → (e : Electrode) → val (used_by f s i dt t) ≤F val (longest_at f s i dt t e)
used_longest d Electrode.anode = d.anode
used_longest d Electrode.cathode = d.cathode

-- what is at most the interval and both longest sub-steps is at most dt_use
pub used_greatest : (f : Float) (s : SpmSolver) (i dt t : Float) (x : Fraction) → x ≤F val dt → ((e : Electrode) → x ≤F val (longest_at f s i dt t e)) → x ≤F val (used_by f s i dt t)
used_greatest f s i dt t x h k =
    let a = longest_at f s i dt t Electrode.anode in
    min_greatest x (min_of dt a) (longest_at f s i dt t Electrode.cathode) (min_greatest x dt a h (k Electrode.anode)) (k Electrode.cathode)
