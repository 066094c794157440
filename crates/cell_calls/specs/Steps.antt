-- What a step of a particle or of a single-particle cell returns, and what it leaves in its answer. Definitions only.
use Rattle.std.specs.Prelude.{ℕ, List, Float}
use Rattle.codec.specs.Words.{put_float}
use Rattle.image_rows.specs.Written.{written}
use Rattle.particle.specs.Answers.{ParticleAnswer}
use Rattle.particle.specs.Particle.{particle_of}
use Rattle.particle.specs.Calls as P
use Rattle.solver_step.specs.declared.SpmParts.{SpmParts}
use Rattle.solver_step.specs.declared.report.SpmState.{SpmState}
use Rattle.solver.specs.Answers.{SpmStepAnswer}
use Rattle.solver.specs.Step as S
use Rattle.cell_images.specs.Images.{cell_at, put_cell, put_report}
use Rattle.sheet_images.specs.Images.{particle_at, put_particle, put_config}
use Rattle.image_layout.specs.Layout.{cell_anode, cell_cathode, cell_clock}

-- ---- a particle

abbrev particle_step : List ℕ → Float → Float → Float → ParticleAnswer
particle_step s j dt t = P.stepped (particle_at s 0) j dt t

unfoldable pub particle_return : List ℕ → Float → Float → Float → ℕ
particle_return s j dt t = (particle_step s j dt t).refusal

unfoldable pub particle_after : List ℕ → Float → Float → Float → List ℕ → List ℕ
particle_after s j dt t a = written (particle_return s j dt t) (put_particle a 0 (particle_step s j dt t).particle) a

-- ---- a single-particle cell

abbrev cell_step : List ℕ → Float → Float → Float → SpmStepAnswer
cell_step s i dt t = S.stepped (cell_at s) i dt t

unfoldable pub cell_return : List ℕ → Float → Float → Float → ℕ
cell_return s i dt t = (cell_step s i dt t).refusal

unfoldable pub cell_after : List ℕ → Float → Float → Float → List ℕ → List ℕ
cell_after s i dt t a =
    written (cell_return s i dt t)
    (put_report (put_cell a (cell_step s i dt t).solver) (cell_step s i dt t).state (cell_step s i dt t).sub_steps)
    a

-- the same image by the cell's parts, its profiles and its clock
abbrev pub put_stepped : List ℕ → SpmParts → List Float → List Float → Float → SpmState → ℕ → List ℕ
put_stepped a q c_neg c_pos time state sub_steps_value =
    put_report
    (put_float
    (put_particle (put_particle (put_config a q.config) cell_anode (particle_of q.neg q.n_neg c_neg)) cell_cathode (particle_of q.pos q.n_pos c_pos))
    cell_clock
    time)
    state
    sub_steps_value
