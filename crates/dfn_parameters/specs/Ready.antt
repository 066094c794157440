-- The two ready sets of parameters. Definitions only.
use Rattle.std.specs.Prelude.{List, [], ◌∷◌, Float}
use Rattle.std.specs.Float.Ieee.{neg}
use Rattle.dfn_parameters.specs.declared.DfnParams.{DfnParams}
use Rattle.binary64.specs.Literals.{«0·0», «5·9e-18», «1e-14», «2e-14», «3·9e-14», «2·6e-10», «1e-6», «3e-6», «8·5e-6», «1e-5», «1·25e-5», «2·5e-5», «8e-5», «8·8e-5», «0·1», «0·3», «0·38», «0·4», «0·5», «0·8», «1·0», «1·2», «1·5», «2·0», «3·45», «4·5», «298·15», «1200·0», «26390·0», «31833·0», «51218·0»}

-- two coefficients, the other places +0
abbrev line : Float → Float → List Float
line a b = a ∷ b ∷ «0·0» ∷ «0·0» ∷ «0·0» ∷ «0·0» ∷ «0·0» ∷ «0·0» ∷ «0·0» ∷ «0·0» ∷ «0·0» ∷ «0·0» ∷ «0·0» ∷ «0·0» ∷ «0·0» ∷ «0·0» ∷ []

-- what both have in common; the five arguments are the fields in which they differ
abbrev on_graphite : Float → Float → Float → Float → List Float → DfnParams
on_graphite dneg dpos cpos kpos upos = record {
  l_neg = «8·8e-5»;
  l_sep = «2·5e-5»;
  l_pos = «8e-5»;
  area = «1·0»;
  r_neg = «1·25e-5»;
  d_s_neg_ref = dneg;
  c_s_neg_max = «31833·0»;
  eps_neg = «0·3»;
  theta_neg_0 = «0·8»;
  k_neg = «1e-5»;
  r_pos = «8·5e-6»;
  d_s_pos_ref = dpos;
  c_s_pos_max = cpos;
  eps_pos = «0·3»;
  theta_pos_0 = «0·5»;
  k_pos = kpos;
  c_e0 = «1200·0»;
  d_e0 = «2·6e-10»;
  gamma_e = «0·5»;
  t_plus = «0·38»;
  kappa0 = «1·0»;
  eps_e_elec = «0·3»;
  eps_e_sep = «0·4»;
  brugg = «1·5»;
  temperature_k = «298·15»;
  ocv_neg_count = 2;
  ocv_neg_coeffs = line (neg «1·5») «1·2»;
  ocv_pos_count = 2;
  ocv_pos_coeffs = upos;
}

-- 3.9e-14, 1.0e-14, 51,218, 3e-6, -2.0 theta + 4.5
unfoldable pub nmc_graphite : DfnParams
nmc_graphite = on_graphite «3·9e-14» «1e-14» «51218·0» «3e-6» (line (neg «2·0») «4·5»)

-- 2.0e-14, 5.9e-18, 26,390, 1e-6, -0.1 theta + 3.45
unfoldable pub lfp_graphite : DfnParams
lfp_graphite = on_graphite «2e-14» «5·9e-18» «26390·0» «1e-6» (line (neg «0·1») «3·45»)
