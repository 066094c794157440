-- A worked instance of theorem 2 of a list that mixes builds, steps, runs, replays and cycles, every premise met: from an image of zeros, a build with an answer a byte short, a build of
-- graphite_lfp, the steps of `Instance`, and among them a run without room for a row, a replay of a text without a line and a cycle of phases without a kind. Assumes nothing.
use Rattle.std.specs.Prelude.{◌-◌, ◌≡◌, refl, List, [], ◌∷◌}
use Rattle.std.proofs.Common.{inl, inr, arith, lit≤}
use Rattle.elementary.specs.Exp.{one}
use Rattle.iterate.specs.Iterate.{all_below}
use Rattle.runs.specs.Lowest.{room_of}
use Rattle.solver.specs.declared.SpmSolver.{SpmSolver}
use Rattle.solver_laws.specs.Demand as SD
use Rattle.solver_laws.specs.ReplayCalls.{calls_of}
use Rattle.solver_laws.proofs.ReplayLists.{rows_bytes}
use Rattle.solver_laws.specs.CycleCalls.{made_by}
use Rattle.solver_laws.specs.Instance.{minute, three, draw, no_current, too_long, discharge}
use Rattle.discharge_run.specs.declared.RunSettings.{RunSettings}
use Rattle.discharge_run.specs.Discharge.{discharged}
use Rattle.cycle_run.specs.Cycle.{cycle_settings}
use Rattle.codec.specs.Words.{bytes_at, word_at}
use Rattle.cell_calls.specs.Phases.{kinds_fit}
use Rattle.cell_calls.specs.Runs.{cycled_from}
use Rattle.image_laws.specs.CellRuns.{rows_most}
use Rattle.image_builds.specs.Builds.{cell_built}
use Rattle.boundary_laws.specs.CallLists.{CCall}
use Rattle.boundary_laws.specs.BuildLists.{CellBuild}
use Rattle.boundary_laws.specs.RunLists.{CellRun}
use Rattle.boundary_laws.specs.ReplayLists.{CellReplay, replay}
use Rattle.boundary_laws.specs.CycleLists.{CellCycle}
use Rattle.boundary_laws.specs.MixedLists.{CellCall}
use Rattle.boundary_laws.specs.MixedDemand.{turns_of, lines_of, phases_of, since_build}
use Rattle.boundary_laws.specs.Instance.{zeros, config_image, build_accepted}
use Rattle.image_layout.specs.Layout.{cell_bytes, cell_run_bytes, cell_step_bytes, phases_bytes}

-- ---- the calls
abbrev graphite_lfp : CellBuild
graphite_lfp = record { call = 8; least = lit≤ tt; most = lit≤ tt; image = config_image }

-- no place for a row
abbrev no_room : CellRun
no_room = record { current = (draw three one).current; dt = (draw three one).dt; temp = (draw three one).temp; limit = one; places = room_of 0 0 }

-- no line
abbrev no_lines : CellReplay
no_lines = record { text = []; temp = (draw three one).temp; places = 8 }

-- eight phases of kind 0
abbrev no_kinds : CellCycle
no_kinds = record { phases = zeros phases_bytes; settings = cycle_settings 1 1 1 (draw three one).dt (draw three one).temp; places = 8 }

abbrev step : SD.Call → CCall CellCall
step q = record { call = inr (inl q); answer = zeros cell_step_bytes }

abbrev pub mixed_calls : List (CCall CellCall)
mixed_calls =
    record { call = inl graphite_lfp; answer = zeros (cell_bytes - 1) } ∷ record { call = inl graphite_lfp; answer = zeros cell_bytes } ∷ step no_current ∷ step (draw three minute)
    ∷ record { call = inr (inr (inl no_room)); answer = zeros cell_run_bytes } ∷ step too_long ∷ record { call = inr (inr (inr (inl no_lines))); answer = zeros cell_run_bytes }
    ∷ record { call = inr (inr (inr (inr no_kinds))); answer = zeros cell_run_bytes } ∷ step (draw three one) ∷ step no_current ∷ []

abbrev pub mixed_formed : List CellCall
mixed_formed =
    inl graphite_lfp ∷ inr (inl no_current) ∷ inr (inl (draw three minute)) ∷ inr (inr (inl no_room)) ∷ inr (inl too_long) ∷ inr (inr (inr (inl no_lines)))
    ∷ inr (inr (inr (inr no_kinds))) ∷ inr (inl (draw three one)) ∷ inr (inl no_current) ∷ []

-- a run without room makes no step
no_rows : (w : RunSettings) (c : SpmSolver) → (discharged w c (room_of 0 0)).rows ≡ 0
no_rows w c = let m = rows_most w c (room_of 0 0) in omega (arith, m)

no_turns : (c : SpmSolver) → turns_of c no_room ≡ []
no_turns c = rw (no_rows _ c)

-- nor does a text without a line
no_calls : (c : SpmSolver) → lines_of c no_lines ≡ []
unfolding calls_of
no_calls c =
    let n : (replay c no_lines).rows ≡ 0 = (let m = rows_bytes [] no_lines.temp c 8 in omega (arith, m)) in
    rw n

-- nor do phases without a kind
no_phases : (c : SpmSolver) → phases_of c no_kinds ≡ []
unfolding cycled_from kinds_fit all_below word_at bytes_at made_by
no_phases c = refl

pub since_build_lem : (c : SpmSolver) → since_build (record { start = c; steps = [] }) mixed_formed ≡ record { start = (cell_built 8 config_image).solver; steps = discharge }
unfolding since_build
since_build_lem c = rw (build_accepted, no_turns, no_calls, no_phases)
