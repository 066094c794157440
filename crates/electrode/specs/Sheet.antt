-- The electrode sheet: its ranges, the three ready ones, the diffusivity at a temperature and the interfacial area. Definitions only.
use Rattle.std.specs.Prelude.{ℕ, Bool, List, [], ◌∷◌, Float}
use Rattle.binary64.specs.Operators.{◌⊗◌, ◌⊘◌}
use Rattle.binary64.specs.Literals.{«0·0», «1e-20», «1e-16», «1e-14», «1·5e-14», «3·9e-14», «2e-11», «1e-8», «1e-7», «1e-6», «2·5e-6», «5e-6», «1·25e-5», «8e-5», «9e-5», «0·0001», «0·001», «0·01», «0·0626», «0·15», «0·2», «0·5», «0·55», «0·6», «0·8», «1·0», «3·0», «200·0», «298·15», «400·0», «10000·0», «20000·0», «22806·0», «25000·0», «31833·0», «35000·0», «49000·0», «100000·0», «131072·0»}
use Rattle.elementary.specs.Arrhenius.{arrhenius_of}
use Rattle.refusal.specs.Ranges.{Row, row, in_ranges, count_in_range}
use Rattle.electrode.specs.declared.ElectrodeParams.{ElectrodeParams}

-- the chemistry is 1 graphite, 2 LFP, 3 NMC
abbrev pub chemistry_fits : ℕ → Bool
chemistry_fits k = count_in_range k 1 3

-- each number with its closed range
abbrev pub sheet_rows : ElectrodeParams → List Row
sheet_rows p =
    row p.r_particle «1e-8» «0·001»
    ∷ row p.d_s_ref «1e-20» «1e-8»
    ∷ row p.c_s_max «1·0» «131072·0»
    ∷ row p.theta_init «0·0» «1·0»
    ∷ row p.thickness «1e-7» «0·01»
    ∷ row p.epsilon_s «0·01» «1·0»
    ∷ row p.area «1e-6» «10000·0»
    ∷ row p.e_a_ds «0·0» «100000·0»
    ∷ row p.k_bv «1e-16» «1·0»
    ∷ row p.t_ref «200·0» «400·0»
    ∷ []

abbrev pub sheet_fits : ElectrodeParams → Bool
sheet_fits p = in_ranges (chemistry_fits p.electrode_type) (sheet_rows p)

-- ---- the ready sheets
unfoldable pub graphite_anode : ElectrodeParams
graphite_anode = record {
  electrode_type = 1;
  r_particle = «1·25e-5»;
  d_s_ref = «3·9e-14»;
  c_s_max = «31833·0»;
  theta_init = «0·8»;
  thickness = «0·0001»;
  epsilon_s = «0·6»;
  area = «0·0626»;
  e_a_ds = «35000·0»;
  k_bv = «2e-11»;
  t_ref = «298·15»;
}

unfoldable pub lfp_cathode : ElectrodeParams
lfp_cathode = record {
  electrode_type = 2;
  r_particle = «2·5e-6»;
  d_s_ref = «1e-14»;
  c_s_max = «22806·0»;
  theta_init = «0·2»;
  thickness = «8e-5»;
  epsilon_s = «0·5»;
  area = «0·0626»;
  e_a_ds = «20000·0»;
  k_bv = «2e-11»;
  t_ref = «298·15»;
}

unfoldable pub nmc_cathode : ElectrodeParams
nmc_cathode = record {
  electrode_type = 3;
  r_particle = «5e-6»;
  d_s_ref = «1·5e-14»;
  c_s_max = «49000·0»;
  theta_init = «0·15»;
  thickness = «9e-5»;
  epsilon_s = «0·55»;
  area = «0·0626»;
  e_a_ds = «25000·0»;
  k_bv = «2e-11»;
  t_ref = «298·15»;
}

-- d_s_ref times the Arrhenius factor from t_ref
unfoldable pub diffusivity_at : ElectrodeParams → Float → Float
diffusivity_at p t = p.d_s_ref ⊗ arrhenius_of p.e_a_ds p.t_ref t

-- 3 * epsilon_s / r_particle
unfoldable pub specific_area : ElectrodeParams → Float
specific_area p = «3·0» ⊗ p.epsilon_s ⊘ p.r_particle
