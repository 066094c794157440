-- The ready sheets, electrolyte and Doyle-Fuller-Newman parameters are read back from the answers that they are written into. Assumes nothing.
use Rattle.std.specs.Prelude.{ℕ, ◌≤◌, ◌≡◌, refl, List, eqb, length}
use Rattle.std.proofs.Common.{arith, ne_eqb, le-leb}
use Rattle.std.proofs.Math.Dec.{lit≤}
use Rattle.std.specs.Float.Ieee.{fits, neg, of_bits}
use Rattle.std.proofs.lemmas.Bool.{lt-leb}
use Rattle.matrix_rows.specs.Loops.{either}
use Rattle.electrode.specs.Sheet.{graphite_anode, lfp_cathode, nmc_cathode}
use Rattle.electrolyte_parameters.specs.Params.{lipf6_ec_dmc}
use Rattle.dfn_parameters.specs.Ready.{nmc_graphite, lfp_graphite}
use Rattle.sheet_images.specs.Images.{sheet_at}
use Rattle.electrolyte_images.specs.Images.{electrolyte_params_at, electrolyte_params_numbers}
use Rattle.parameter_images.specs.Images.{params_at, params_numbers}
use Rattle.image_builds.specs.Builds.{ready_sheet, ready_params, ready_put}
use Rattle.image_laws.specs.Encodable.{EncodableRow, all_fit, closed_row}
use Rattle.image_laws.specs.CellImages.{EncodableSheet, sheet_read_back}
use Rattle.image_laws.specs.ElectrolyteImages.{electrolyte_params_read_back}
use Rattle.image_laws.specs.DfnImages.{EncodableParams, params_read_back}
use Rattle.image_laws.specs.CellBuilds.{graphite_encodable, lfp_encodable, nmc_encodable}
use Rattle.image_layout.specs.Layout.{sheet_bytes, electrolyte_params_bytes}

-- ---- the ready records
ready_sheet_lem : (call : ℕ) → EncodableSheet (ready_sheet call)
unfolding ready_sheet
ready_sheet_lem call =
    either EncodableSheet (eqb call 1) graphite_anode _ (record { chemistry = unfold graphite_anode in lit≤ tt; numbers = graphite_encodable })
    (either EncodableSheet (eqb call 2) lfp_cathode nmc_cathode (record { chemistry = unfold lfp_cathode in lit≤ tt; numbers = lfp_encodable })
    (record { chemistry = unfold nmc_cathode in lit≤ tt; numbers = nmc_encodable }))

pub sheet_ready : (call : ℕ) (a : List ℕ) → call ≤ 3 → sheet_bytes ≤ length a → sheet_at (ready_put call a) 0 ≡ ready_sheet call
unfolding ready_put
sheet_ready call a m l = rw (le-leb call 3 m) (sheet_read_back a 0 (ready_sheet call) l (ready_sheet_lem call))

electrolyte_params_row : EncodableRow (electrolyte_params_numbers lipf6_ec_dmc)
unfolding lipf6_ec_dmc all_fit fits of_bits
electrolyte_params_row = closed_row (electrolyte_params_numbers lipf6_ec_dmc) tt

pub electrolyte_params_ready : (a : List ℕ) → electrolyte_params_bytes ≤ length a → electrolyte_params_at (ready_put 4 a) ≡ lipf6_ec_dmc
unfolding ready_put
electrolyte_params_ready a l = electrolyte_params_read_back a lipf6_ec_dmc l electrolyte_params_row

-- Doyle-Fuller-Newman parameters
nmc_params : EncodableParams nmc_graphite
unfolding nmc_graphite params_numbers all_fit fits neg of_bits
nmc_params = record {
  numbers = closed_row (params_numbers nmc_graphite) tt;
  neg = lit≤ tt;
  neg_long = refl;
  neg_places = closed_row nmc_graphite.ocv_neg_coeffs tt;
  pos = lit≤ tt;
  pos_long = refl;
  pos_places = closed_row nmc_graphite.ocv_pos_coeffs tt;
}

lfp_params : EncodableParams lfp_graphite
unfolding lfp_graphite params_numbers all_fit fits neg of_bits
lfp_params = record {
  numbers = closed_row (params_numbers lfp_graphite) tt;
  neg = lit≤ tt;
  neg_long = refl;
  neg_places = closed_row lfp_graphite.ocv_neg_coeffs tt;
  pos = lit≤ tt;
  pos_long = refl;
  pos_places = closed_row lfp_graphite.ocv_pos_coeffs tt;
}

ready_params_lem : (call : ℕ) → EncodableParams (ready_params call)
unfolding ready_params
ready_params_lem call = either EncodableParams (eqb call 5) nmc_graphite lfp_graphite nmc_params lfp_params

pub params_ready : (call : ℕ) (a : List ℕ) → 5 ≤ call → 472 ≤ length a → params_at (ready_put call a) ≡ ready_params call
unfolding ready_put
params_ready call a m l =
    rw (lt-leb call 3 (omega (arith, m)), ne_eqb call 4 (λ (e : call ≡ 4). omega (arith, m, e))) (params_read_back a (ready_params call) (ready_params_lem call) l)
