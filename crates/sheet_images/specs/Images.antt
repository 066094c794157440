-- The images of a sheet (11 words), a particle (76) and a single-particle cell's configuration (6).
use Rattle.std.specs.Prelude.{ℕ, ◌+◌, List, [], ◌∷◌}
use Rattle.codec.specs.Words.{word_at, put_word, float_at, places_at, put_row}
use Rattle.electrode.specs.declared.ElectrodeParams.{ElectrodeParams}
use Rattle.electrode.specs.Numbers.{sheet_of, sheet_numbers}
use Rattle.particle.specs.declared.ParticleDiffusion.{ParticleDiffusion}
use Rattle.kinetics.specs.declared.SpmConfig.{SpmConfig}
use Rattle.image_layout.specs.Layout.{particle_nodes, particle_profile}

-- ---- a sheet from word `at` on: the chemistry, then the ten numbers

unfoldable pub sheet_at : List ℕ → ℕ → ElectrodeParams
sheet_at s at = sheet_of (word_at s at) (places_at 10 s (at + 1))

unfoldable pub put_sheet : List ℕ → ℕ → ElectrodeParams → List ℕ
put_sheet s at p = put_row (put_word s at p.electrode_type) (at + 1) (sheet_numbers p)

-- ---- a particle: the sheet, the count of nodes, 64 places

unfoldable pub particle_at : List ℕ → ℕ → ParticleDiffusion
particle_at s at = record {
  params = sheet_at s at;
  n_nodes = word_at s (at + particle_nodes);
  c_s = places_at 64 s (at + particle_profile);
}

unfoldable pub put_particle : List ℕ → ℕ → ParticleDiffusion → List ℕ
put_particle s at p = put_row (put_word (put_sheet s at p.params) (at + particle_nodes) p.n_nodes) (at + particle_profile) p.c_s

-- ---- a configuration in the first six words

unfoldable pub config_at : List ℕ → SpmConfig
config_at s = record {
  n_nodes = word_at s 0;
  v_min = float_at s 1;
  v_max = float_at s 2;
  faraday = float_at s 3;
  r_gas = float_at s 4;
  r_electrolyte_ohm_m2 = float_at s 5;
}

unfoldable pub put_config : List ℕ → SpmConfig → List ℕ
put_config s c =
    put_row (put_word s 0 c.n_nodes) 1 (c.v_min ∷ c.v_max ∷ c.faraday ∷ c.r_gas ∷ c.r_electrolyte_ohm_m2 ∷ [])
