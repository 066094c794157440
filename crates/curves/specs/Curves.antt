-- The open-circuit curves of the three chemistries. Definitions only.
use Rattle.std.specs.Prelude.{ℕ, cond, eqb, Float}
use Rattle.std.specs.Float.Ieee.{neg}
use Rattle.binary64.specs.Operators.{◌⊕◌, ◌⊖◌, ◌⊗◌, ◌⊘◌}
use Rattle.binary64.specs.Literals.{«0·0», «0·0001», «0·0019», «0·01», «0·0172», «0·029», «0·05», «0·08», «0·1», «0·12», «0·1387», «0·15», «0·17», «0·2», «0·2808», «0·4108», «0·4465», «0·5», «0·6», «0·7222», «0·7984», «0·85», «0·9», «0·92», «0·99», «1·2», «1·5», «2·0», «3·414», «4·2», «30·0», «80·0»}
use Rattle.elementary.specs.Exp.{one, exp_of}
use Rattle.min_max.specs.MinMax.{clamp_of}
use Rattle.elementary.specs.Power.{powf_of, square_of, cube_of, fourth_of}

-- 0.7222 + 0.1387 x + 0.029 x^0.5 - 0.0172 / x + 0.0019 / x^1.5 + 0.2808 exp(-0.9 / x) - 0.7984 exp(0.4465 x - 0.4108)
unfoldable pub graphite_curve : Float → Float
graphite_curve x =
    «0·7222» ⊕ «0·1387» ⊗ x ⊕ «0·029» ⊗ powf_of x «0·5» ⊖ «0·0172» ⊘ x
    ⊕ «0·0019» ⊘ powf_of x «1·5»
    ⊕ «0·2808» ⊗ exp_of (neg «0·9» ⊘ x)
    ⊖ «0·7984» ⊗ exp_of («0·4465» ⊗ x ⊖ «0·4108»)

-- 3.414 + 0.12 x^2 - 0.17 x^3 + 0.05 x^4
abbrev backbone : Float → Float
backbone x = «3·414» ⊕ «0·12» ⊗ square_of x ⊖ «0·17» ⊗ cube_of x ⊕ «0·05» ⊗ fourth_of x

-- the backbone - 0.20 / (1 + exp(80 (x - 0.08))) + 0.15 / (1 + exp(80 (0.92 - x))), x clamped to 0.01 to 0.99
unfoldable pub lfp_curve : Float → Float
lfp_curve x0 =
    let x = clamp_of x0 «0·01» «0·99» in
    backbone x
    ⊖ «0·2» ⊘ (one ⊕ exp_of («80·0» ⊗ (x ⊖ «0·08»)))
    ⊕ «0·15» ⊘ (one ⊕ exp_of («80·0» ⊗ («0·92» ⊖ x)))

-- 4.20 - 1.50 x + 1.20 x^2 - 0.60 x^3 + 0.08 / (1 + exp(30 (x - 0.85))), x clamped to 0.1 to 0.9
unfoldable pub nmc_curve : Float → Float
nmc_curve x0 =
    let x = clamp_of x0 «0·1» «0·9» in
    «4·2» ⊖ «1·5» ⊗ x ⊕ «1·2» ⊗ square_of x ⊖ «0·6» ⊗ cube_of x
    ⊕ «0·08» ⊘ (one ⊕ exp_of («30·0» ⊗ (x ⊖ «0·85»)))

-- the curve of the chemistry, 1 graphite, 2 LFP, 3 NMC, at a stoichiometry clamped to 0.01 to 0.99; a sheet that fits has one of the three
unfoldable pub chemistry_curve : ℕ → Float → Float
chemistry_curve chemistry theta =
    let x = clamp_of theta «0·01» «0·99» in
    cond (eqb chemistry 1) (graphite_curve x)
    (cond (eqb chemistry 2) (lfp_curve x)
    (cond (eqb chemistry 3) (nmc_curve x) «0·0»))

-- (ocp(t + 1e-4) - ocp(t - 1e-4)) / (2 * 1e-4), t clamped to 1e-4 to 1 - 1e-4
unfoldable pub chemistry_slope : ℕ → Float → Float
chemistry_slope chemistry theta =
    let t = clamp_of theta «0·0001» (one ⊖ «0·0001») in
    (chemistry_curve chemistry (t ⊕ «0·0001») ⊖ chemistry_curve chemistry (t ⊖ «0·0001»)) ⊘ («2·0» ⊗ «0·0001»)
