-- A worked instance of theorems 2 and 3 of calls from C, every premise met. The configuration's image, and the cell that `pj_build` 8 makes of it (graphite_lfp, 11 nodes): the list of
-- `solver_laws/specs/Instance`, 60 s and then 1 s at 3 A, with refused calls and an answer a byte short among them. For the ranking the same cell at 3,600 s, and 4 A, an answer a byte long among them. Answers are zeros.
-- Assumes nothing.
use Rattle.std.specs.Prelude.{ℕ, ◌+◌, ◌-◌, ◌≡◌, List, [], ◌∷◌, length, replicate}
use Rattle.std.proofs.Common.{ap, ◌∙◌, le_refl, lit≤}
use Rattle.std.proofs.lemmas.List.{length-replicate}
use Rattle.elementary.specs.Exp.{one}
use Rattle.electrode.specs.Sheet.{graphite_anode, lfp_cathode}
use Rattle.kinetics.specs.declared.SpmConfig.{SpmConfig}
use Rattle.solver.specs.Cell as S
use Rattle.solver_laws.specs.Demand as SD
use Rattle.solver_laws.specs.Instance.{config, start, later, start_is, minute, three, four, draw, no_current, too_long}
use Rattle.sheet_images.specs.Images.{config_at, put_config}
use Rattle.cell_images.specs.Images.{cell_at, put_cell}
use Rattle.image_builds.specs.Builds.{cell_built, build_length}
use Rattle.boundary.specs.Calls as B
use Rattle.image_laws.specs.Encodable.{[]ᵉ, ◌∷ᵉ◌, literal}
use Rattle.image_laws.specs.CellImages.{EncodableSheet, EncodableConfig, EncodableCell, writes_config, config_read_back, writes_cell, cell_read_back}
use Rattle.image_laws.specs.CellBuilds.{cell_build_return, cell_return_lem, fresh_encodable, graphite_encodable, lfp_encodable}
use Rattle.image_laws.specs.AnswerLengths.{cell_build_length}
use Rattle.image_laws.specs.ReadBack.{cell_build_read_back}
use Rattle.boundary_laws.specs.CallLists.{CCall}
use Rattle.image_layout.specs.Layout.{cell_bytes, cell_step_bytes}

abbrev pub zeros : ℕ → List ℕ
zeros n = replicate n 0

pub zeros_length : (n : ℕ) → length (zeros n) ≡ n
zeros_length n = length-replicate {A = ℕ} n 0

-- ---- the images
-- the configuration's, 48 bytes
unfoldable pub config_image : List ℕ
config_image = put_config (zeros 48) config

-- what `pj_build` 8 leaves in an answer of zeros
unfoldable pub image : List ℕ
image = B.build_after 8 config_image (zeros cell_bytes)

-- the same cell at 3,600 s
unfoldable pub later_image : List ℕ
later_image = put_cell (zeros cell_bytes) later

-- ---- the calls
abbrev pub step : SD.Call → CCall SD.Call
step q = record { call = q; answer = zeros cell_step_bytes }

-- refused with 3, refused with 10, accepted, refused with 7, accepted, refused with 3
abbrev pub calls : List (CCall SD.Call)
calls =
    step no_current ∷ record { call = draw three minute; answer = zeros (cell_step_bytes - 1) } ∷ step (draw three minute) ∷ step too_long ∷ step (draw three one)
    ∷ step no_current ∷ []

-- accepted, refused with 3, refused with 7, refused with 10, accepted
abbrev pub stronger_calls : List (CCall SD.Call)
stronger_calls = step (draw four minute) ∷ step no_current ∷ step too_long ∷ record { call = draw four one; answer = zeros (cell_step_bytes + 1) } ∷ step (draw four one) ∷ []

-- ---- the build is accepted, and its cell is the one that `graphite_lfp` gives
config_encodable : EncodableConfig config
config_encodable = record { nodes = lit≤ tt; numbers = literal _ ∷ᵉ literal _ ∷ᵉ literal _ ∷ᵉ literal _ ∷ᵉ literal _ ∷ᵉ []ᵉ }

config_is : config_at config_image ≡ config
unfolding config_image
config_is = config_read_back (zeros 48) config (rw (zeros_length 48) (le_refl 48)) config_encodable

pub config_length : length config_image ≡ 48
unfolding config_image
config_length = (writes_config (zeros 48) config).size ∙ zeros_length 48

pub build_accepted : (cell_built 8 config_image).refusal ≡ 0
unfolding cell_built
build_accepted = ap (λ (c : SpmConfig). (S.ready c lfp_cathode).refusal) config_is ∙ start_is.0

pub build_is : (cell_built 8 config_image).solver ≡ start
unfolding cell_built
build_is = ap (λ (c : SpmConfig). (S.ready c lfp_cathode).solver) config_is ∙ start_is.1

pub build_returns : B.build_return 8 config_image (length (zeros cell_bytes)) ≡ 0
unfolding build_length B.after_lengths
build_returns =
    cell_build_return 8 config_image (zeros cell_bytes) (lit≤ tt) (lit≤ tt)
    ∙ rw config_length (cell_return_lem 8 config_image (zeros cell_bytes) (lit≤ tt) (lit≤ tt) ∙ build_accepted)

pub image_length : length image ≡ cell_bytes
unfolding image
image_length = cell_build_length 8 config_image (zeros cell_bytes) (lit≤ tt) (lit≤ tt) build_returns

pub image_cell : cell_at image ≡ start
unfolding image
image_cell = cell_build_read_back 8 config_image (zeros cell_bytes) (lit≤ tt) (lit≤ tt) build_returns ∙ build_is

-- ---- the later cell's image
sheets_encodable : EncodableSheet graphite_anode × EncodableSheet lfp_cathode
unfolding graphite_anode lfp_cathode
sheets_encodable = (record { chemistry = lit≤ tt; numbers = graphite_encodable }, record { chemistry = lit≤ tt; numbers = lfp_encodable })

later_encodable : EncodableCell later
later_encodable = record {
  config = config_encodable;
  anode = fresh_encodable graphite_anode 11 sheets_encodable.0 (lit≤ tt);
  cathode = fresh_encodable lfp_cathode 11 sheets_encodable.1 (lit≤ tt);
  clock = literal _;
}

pub later_length : length later_image ≡ cell_bytes
unfolding later_image
later_length = (writes_cell (zeros cell_bytes) later later_encodable).size ∙ zeros_length cell_bytes

pub later_cell : cell_at later_image ≡ later
unfolding later_image
later_cell = cell_read_back (zeros cell_bytes) later later_encodable (rw (zeros_length cell_bytes) (le_refl cell_bytes))
