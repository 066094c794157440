-- A sheet as its chemistry and its ten numbers, in the order of the record. Definitions, and one law: each way back. Assumes nothing.
use Rattle.std.specs.Prelude.{ℕ, ◌≡◌, refl, List, [], ◌∷◌, Float, get_or}
use Rattle.std.specs.Float.{nan}
use Rattle.electrode.specs.declared.ElectrodeParams.{ElectrodeParams}

abbrev pub sheet_numbers : ElectrodeParams → List Float
sheet_numbers p =
    p.r_particle ∷ p.d_s_ref ∷ p.c_s_max ∷ p.theta_init ∷ p.thickness ∷ p.epsilon_s ∷ p.area ∷ p.e_a_ds ∷ p.k_bv ∷ p.t_ref ∷ []

unfoldable pub sheet_of : ℕ → List Float → ElectrodeParams
sheet_of chemistry x = record {
  electrode_type = chemistry;
  r_particle = get_or x 0 nan;
  d_s_ref = get_or x 1 nan;
  c_s_max = get_or x 2 nan;
  theta_init = get_or x 3 nan;
  thickness = get_or x 4 nan;
  epsilon_s = get_or x 5 nan;
  area = get_or x 6 nan;
  e_a_ds = get_or x 7 nan;
  k_bv = get_or x 8 nan;
  t_ref = get_or x 9 nan;
}

pub numbers_back : (p : ElectrodeParams) → sheet_of p.electrode_type (sheet_numbers p) ≡ p
unfolding sheet_of
numbers_back p = refl
