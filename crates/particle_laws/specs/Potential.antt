-- The open-circuit potential at any stoichiometry that is a number, an infinity too, is finite: 8 never comes from ocp_surface. Assumes nothing.
use Rattle.std.specs.Prelude.{ℕ, ◌*◌, ◌^◌, ◌≡◌, refl, false, T, leb, ltb, eqb, Float}
use Rattle.std.proofs.Common.{leb→le, ltb→lt}
use Rattle.std.specs.Float.Ieee.{le, neg, is_nan, of_bits}
use Rattle.std.specs.Float.Ieee.Positive.{num, den, positive}
use Rattle.std.specs.Float.Ieee.Scale.{finite}
use Rattle.binary64.specs.Operators.{◌⊕◌, ◌⊗◌, ◌⊘◌}
use Rattle.binary64.specs.Range.{Within, Sized, sized, most_wider}
use Rattle.binary64.proofs.RangeTests.{literal, tested_within}
use Rattle.binary64.proofs.RangeOps.{mul_most, div_most, add_most, add_alike, sub_most, sub_alike}
use Rattle.binary64.specs.Literals.{«0·0», «0·0019», «0·01», «0·0172», «0·029», «0·05», «0·08», «0·1», «0·12», «0·1387», «0·15», «0·17», «0·2», «0·2808», «0·4108», «0·4465», «0·5», «0·6», «0·7222», «0·7984», «0·85», «0·9», «0·92», «0·99», «1·2», «1·5», «3·414», «4·2», «30·0», «80·0»}
use Rattle.elementary.specs.Exp.{one, exp_of}
use Rattle.min_max.specs.MinMax.{clamp_of}
use Rattle.elementary.proofs.Constants.{at_1}
use Rattle.min_max.proofs.ChoiceLaws.{clamp_in}
use Rattle.elementary.proofs.ExpRange.{exp_20, exp_96}
use Rattle.elementary.proofs.PowRange.{powf_within}
use Rattle.refusal.specs.Answers.{outcome}
use Rattle.curves.specs.Curves.{graphite_curve, lfp_curve, nmc_curve, chemistry_curve}
use Rattle.electrode.specs.Curves.{open_circuit}
use Rattle.electrode.specs.declared.ElectrodeParams.{ElectrodeParams}
use Rattle.particle.specs.declared.ParticleDiffusion.{ParticleDiffusion}
use Rattle.particle.specs.Checks.{particle_refusal}
use Rattle.particle.specs.Particle.{surface_theta, surface_potential}
use Rattle.particle.specs.Calls.{ocp_surface}
use Rattle.particle_laws.specs.Ranges.{wider, either}
use Rattle.particle_laws.specs.Nodes.{number}
use Rattle.particle_laws.specs.Finite.{finite_outcome_lem, surface_theta_fine}

-- a literal of at most A / C
lit : (x : Float) (A C : ℕ) → T (ltb 0 C) → T (finite x) → T (leb (num x * C) (A * den x)) → Sized x A C
lit x A C c p t = record { over = ltb→lt 0 C c; fine = p; sign = refl; most = leb→le (num x * C) (A * den x) t }

-- a stoichiometry that is clamped between two positive limits
clamped : (x lo hi : Float) → is_nan x ≡ false → T (finite lo) → T (finite hi) → T (positive lo) → T (positive hi) → T (le lo hi) → Within (clamp_of x lo hi) (num hi) (den hi) (num lo) (den lo)
clamped x lo hi n a b p q o = let c = clamp_in x lo hi n (number lo a) (number hi b) o in tested_within lo (clamp_of x lo hi) hi p q c.low c.high

-- c / (1 + exp(k * y))
sigmoid : {c k y : Float} → Sized c 1 1 → Sized k 80 1 → Sized y 1 1 → Sized (c ⊘ (one ⊕ exp_of (k ⊗ y))) 1 1
sigmoid c k y = sized (div_most c (add_alike at_1 (exp_96 (mul_most k y 96 1 tt tt)) (2 ^ 147) 1 1 1 tt tt tt tt) 1 1 tt tt tt)

graphite_sized : {x : Float} → Within x 1 1 1 100 → Sized (graphite_curve x) (2 ^ 150) 1
unfolding graphite_curve neg of_bits
graphite_sized w =
    let v = wider w 1 1 1 128 tt tt tt tt in
    let root = powf_within v (lit «0·5» 4 1 tt tt tt) in
    let power = powf_within v (lit «1·5» 4 1 tt tt tt) in
    let steep = exp_96 (div_most (lit (neg «0·9») 29 32 tt tt tt) w 96 1 tt tt tt) in
    let flat = exp_20 (most_wider (sub_most (mul_most (lit «0·4465» 1 1 tt tt tt) w.0 1 1 tt tt) (lit «0·4108» 1 1 tt tt tt) 2 1 tt tt) 161 8 tt tt) in
    let a = add_most (lit «0·7222» 1 1 tt tt tt) (mul_most (lit «0·1387» 1 1 tt tt tt) w.0 1 1 tt tt) 2 1 tt tt in
    let b = add_most a (mul_most (lit «0·029» 1 1 tt tt tt) root.0 (2 ^ 33) 1 tt tt) (2 ^ 34) 1 tt tt in
    let c = sub_most b (div_most (lit «0·0172» 1 1 tt tt tt) w 100 1 tt tt tt) (2 ^ 35) 1 tt tt in
    let d = add_most c (div_most (lit «0·0019» 1 1 tt tt tt) power (2 ^ 34) 1 tt tt tt) (2 ^ 36) 1 tt tt in
    let e = add_most d (mul_most (lit «0·2808» 1 1 tt tt tt) steep.0 (2 ^ 146) 1 tt tt) (2 ^ 147) 1 tt tt in
    sub_most e (mul_most (lit «0·7984» 1 1 tt tt tt) flat.0 (2 ^ 30) 1 tt tt) (2 ^ 150) 1 tt tt

lfp_sized : (x0 : Float) → is_nan x0 ≡ false → Sized (lfp_curve x0) (2 ^ 150) 1
unfolding lfp_curve of_bits le
lfp_sized x0 n =
    let w = wider (clamped x0 «0·01» «0·99» n tt tt tt tt tt) 1 1 1 100 tt tt tt tt in
    let x2 = mul_most w.0 w.0 1 1 tt tt in
    let a = add_most (lit «3·414» 4 1 tt tt tt) (mul_most (lit «0·12» 1 1 tt tt tt) x2 1 1 tt tt) 5 1 tt tt in
    let b = sub_most a (mul_most (lit «0·17» 1 1 tt tt tt) (mul_most w.0 x2 1 1 tt tt) 1 1 tt tt) 6 1 tt tt in
    let c = add_most b (mul_most (lit «0·05» 1 1 tt tt tt) (mul_most x2 x2 1 1 tt tt) 1 1 tt tt) 7 1 tt tt in
    let low = literal «0·08» 1 1 0 1 tt tt tt tt tt in
    let high = literal «0·92» 1 1 0 1 tt tt tt tt tt in
    let eighty = lit «80·0» 80 1 tt tt tt in
    let d = sub_most c (sigmoid (lit «0·2» 1 1 tt tt tt) eighty (sub_alike w low 1 1 tt tt tt)) 8 1 tt tt in
    add_most d (sigmoid (lit «0·15» 1 1 tt tt tt) eighty (sub_alike high w 1 1 tt tt tt)) (2 ^ 150) 1 tt tt

nmc_sized : (x0 : Float) → is_nan x0 ≡ false → Sized (nmc_curve x0) (2 ^ 150) 1
unfolding nmc_curve of_bits le
nmc_sized x0 n =
    let w = wider (clamped x0 «0·1» «0·9» n tt tt tt tt tt) 1 1 1 100 tt tt tt tt in
    let x2 = mul_most w.0 w.0 1 1 tt tt in
    let a = sub_most (lit «4·2» 5 1 tt tt tt) (mul_most (lit «1·5» 2 1 tt tt tt) w.0 2 1 tt tt) 7 1 tt tt in
    let b = add_most a (mul_most (lit «1·2» 2 1 tt tt tt) x2 2 1 tt tt) 9 1 tt tt in
    let c = sub_most b (mul_most (lit «0·6» 1 1 tt tt tt) (mul_most w.0 x2 1 1 tt tt) 1 1 tt tt) 10 1 tt tt in
    let middle = literal «0·85» 1 1 0 1 tt tt tt tt tt in
    add_most c (sigmoid (lit «0·08» 1 1 tt tt tt) (lit «30·0» 80 1 tt tt tt) (sub_alike w middle 1 1 tt tt tt)) (2 ^ 150) 1 tt tt

-- ---- the curve of any sheet
pub open_circuit_sized : (s : ElectrodeParams) (theta : Float) → is_nan theta ≡ false → Sized (open_circuit s theta) (2 ^ 150) 1
unfolding open_circuit chemistry_curve of_bits le
open_circuit_sized s theta n =
    let x = clamp_of theta «0·01» «0·99» in
    let w = wider (clamped theta «0·01» «0·99» n tt tt tt tt tt) 1 1 1 100 tt tt tt tt in
    let m = number x w.0.fine in
    either (eqb s.electrode_type 1) (graphite_sized w) (either (eqb s.electrode_type 2) (lfp_sized x m) (either (eqb s.electrode_type 3) (nmc_sized x m) (lit «0·0» (2 ^ 150) 1 tt tt tt)))

pub ocp_surface_is : (p : ParticleDiffusion) → ocp_surface p ≡ outcome (particle_refusal p) (surface_potential p)
unfolding ocp_surface surface_potential
ocp_surface_is p = finite_outcome_lem (particle_refusal p) (surface_potential p) (λ e. (open_circuit_sized p.params (surface_theta p) (number (surface_theta p) (surface_theta_fine p e))).fine)
