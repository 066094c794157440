-- What a step of an electrolyte or of a Doyle-Fuller-Newman cell returns, and what it leaves in its answer. Definitions only.
use Rattle.std.specs.Prelude.{ℕ, List, Float}
use Rattle.image_rows.specs.Written.{written}
use Rattle.electrolyte.specs.Answers.{ElectrolyteAnswer}
use Rattle.electrolyte.specs.Calls as E
use Rattle.dfn_parameters.specs.declared.DfnParams.{DfnParams}
use Rattle.dfn_parameters.specs.declared.DfnConfig.{DfnConfig}
use Rattle.dfn.specs.declared.DfnStep.{DfnStep}
use Rattle.dfn.specs.Answers.{DfnStepAnswer}
use Rattle.dfn.specs.Step as D
use Rattle.electrolyte_images.specs.Images.{electrolyte_at, put_electrolyte}
use Rattle.dfn_images.specs.Images.{cell_at, put_cell_places, put_last, put_cell, put_report}

-- ---- an electrolyte

abbrev electrolyte_step : List ℕ → Float → Float → Float → Float → ElectrolyteAnswer
electrolyte_step s j_neg j_pos dt t = E.stepped (electrolyte_at s) j_neg j_pos dt t

unfoldable pub electrolyte_return : List ℕ → Float → Float → Float → Float → ℕ
electrolyte_return s j_neg j_pos dt t = (electrolyte_step s j_neg j_pos dt t).refusal

unfoldable pub electrolyte_after : List ℕ → Float → Float → Float → Float → List ℕ → List ℕ
electrolyte_after s j_neg j_pos dt t a =
    written (electrolyte_return s j_neg j_pos dt t) (put_electrolyte a (electrolyte_step s j_neg j_pos dt t).state) a

-- ---- a Doyle-Fuller-Newman cell

abbrev dfn_step : List ℕ → Float → Float → DfnStepAnswer
dfn_step s i dt = D.stepped (cell_at s) i dt

unfoldable pub dfn_return : List ℕ → Float → Float → ℕ
dfn_return s i dt = (dfn_step s i dt).refusal

unfoldable pub dfn_after : List ℕ → Float → Float → List ℕ → List ℕ
dfn_after s i dt a = written (dfn_return s i dt) (put_report (put_cell a (dfn_step s i dt).cell) (dfn_step s i dt).report) a

-- the same image by the cell's parts and its profiles
abbrev pub put_stepped : List ℕ → DfnParams → DfnConfig → List Float → List Float → List Float → DfnStep → List ℕ
put_stepped a p g neg pos c_e_of r =
    put_report
    (put_last (put_cell_places a p g neg pos c_e_of) r.time_s r.voltage r.current r.theta_neg r.theta_pos)
    r
