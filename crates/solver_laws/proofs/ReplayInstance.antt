-- A worked instance of theorem 2 for a replay: the cell of `Instance` and a text of three lines, 60 s and then 1 s at 3 A, and one in lower case, which is refused with 11. Computed.
-- Assumes nothing.
use Rattle.std.specs.Prelude.{ℕ, zero, suc, ◌<◌, ◌≡◌, refl, false, true, List, [], ◌∷◌, ◌++◌, T, Float, replicate}
use Rattle.std.proofs.Common.{sym, ap, ◌∙◌, subst, arith}
use Rattle.std.specs.Float.Ieee.Bits.{is_true}
use Rattle.fraction.specs.Fraction.{nat, pow2, ◌-F◌, ◌*F◌, ◌/F◌, ◌within◌}
use Rattle.binary64.specs.Value.{val}
use Rattle.elementary.specs.Exp.{one}
use Rattle.iterate.specs.Iterate.{all_below}
use Rattle.refusal.specs.Numbers.{first_refusal, refusal_unless}
use Rattle.refusal.specs.Ranges.{temperature_fits}
use Rattle.runs.specs.Endings.{Ended, by_refusal}
use Rattle.diffusion.specs.Premises.{FluxBound}
use Rattle.particle.specs.Particle.{place_of}
use Rattle.solver.specs.Cell.{grid_fits, cell_fits, cell_valid}
use Rattle.replay_run.specs.Answers.{LoadLine}
use Rattle.replay_run.specs.Lines.{digit_of, number_at, line_from, line_at}
use Rattle.replay_run.specs.Replay.{replay_refusal, replayed}
use Rattle.solver_laws.specs.Electrodes.{Electrode, particle_at, nodes_are, grid_passed, current_range}
use Rattle.solver_laws.specs.Demand.{Call, cell_after, K, numbers_at, exact_place}
use Rattle.solver_laws.specs.ReplayCalls.{call_at, calls_of, cutoff_after, line_refusal, ended_after}
use Rattle.solver_laws.proofs.ReplayLists.{replay_line, replay_ends, replay_refused}
use Rattle.solver_laws.specs.ReplayDemand.{LineFluxBounds}
use Rattle.solver_laws.proofs.ReplayDemand.{replay_near}
use Rattle.solver_laws.specs.Instance.{start, start_passes, start_made, room, room_fits, minute, three, draw, minute_split, draw_accepted, currents_fit, small, clocks}
use Rattle.solver_laws.proofs.Instance.{draw_bound}

-- ---- the text
abbrev zeros : ℕ → List ℕ
zeros k = replicate k 48

-- a tab, 3 A as 4008000000000000, a line feed
abbrev rest : List ℕ
rest = 9 ∷ 52 ∷ 48 ∷ 48 ∷ 56 ∷ zeros 12 ++ 10 ∷ []

-- 60 s as 404E000000000000, 1 s as 3FF0000000000000, and as 3ff0000000000000
abbrev pub text : List ℕ
text = 52 ∷ 48 ∷ 52 ∷ 69 ∷ zeros 12 ++ rest ++ 51 ∷ 70 ∷ 70 ∷ zeros 13 ++ rest ++ 51 ∷ 102 ∷ 102 ∷ zeros 13 ++ rest

record Lines : Type 0 where
  first : line_at text 0 ≡ record { well_formed = true; dt = minute; current_a = three }
  second : line_at text 1 ≡ record { well_formed = true; dt = one; current_a = three }
  third : (line_at text 2).well_formed ≡ false

lines : Lines
unfolding line_at line_from number_at digit_of all_below
lines = record { first = refl; second = refl; third = refl }

first_call : call_at text room 0 ≡ draw three minute
first_call = ap (λ (w : LoadLine). record { current = w.current_a; dt = w.dt; temp = room }) lines.first

second_call : call_at text room 1 ≡ draw three one
second_call = ap (λ (w : LoadLine). record { current = w.current_a; dt = w.dt; temp = room }) lines.second

-- ---- nothing refuses the whole replay, with room for three rows
pub text_passes : replay_refusal text start room 24 ≡ 0
unfolding replay_refusal first_refusal refusal_unless
text_passes = rw (is_true (grid_fits start) (grid_passed start start_passes), is_true (cell_fits start) (cell_valid start start_passes), is_true (temperature_fits room) room_fits)

abbrev rows : ℕ
rows = (replayed text room start 24).rows

-- the first line is taken
first_accepted : line_refusal text room start 0 ≡ 0
unfolding calls_of cell_after
first_accepted = rw lines.first (draw_accepted start start_made three minute 64 minute_split currents_fit.0 clocks.0.0)

pub some_row : rows ≡ 0 → ⊥
unfolding ended_after cutoff_after
some_row z =
    let e : (replayed text room start 24).ended ≡ record { ending = by_refusal; refusal = 0 } = replay_ends text room start 24 text_passes ∙ rw (z, first_accepted) in
    replay_refused text room start 24 (ap (λ (x : Ended). x.ending) e) (ap (λ (x : Ended). x.refusal) e)

-- the third is not
lower_case : 2 < rows → ⊥
lower_case m = subst T (sym (replay_line text room start 24 2 m).form ∙ lines.third) tt

-- ---- both lines keep 2·h·∣flux∣ ≤ D·M
bounded : (e : Electrode) (q : Call) (dt : Float) → q ≡ draw three dt → FluxBound (numbers_at e start q)
bounded e q dt h = subst (λ (x : Call). FluxBound (numbers_at e start x)) (sym h) (draw_bound e three dt (current_range three currents_fit.0) small.0)

pub text_bounds : (e : Electrode) → LineFluxBounds e text room start 24
text_bounds e zero m = bounded e (call_at text room 0) minute first_call
text_bounds e (suc zero) m = bounded e (call_at text room 1) one second_call
text_bounds e (suc (suc j)) m = absurd (lower_case (omega (arith, m)))

-- THEOREM 2 for the cell that the replay leaves
pub text_near : (e : Electrode) (i : ℕ) → i < 11
    → val (place_of (particle_at e (replayed text room start 24).solver) i) -F exact_place e start (calls_of text room rows) i
    within nat (K start (calls_of text room rows)) *F val (particle_at e start).params.c_s_max /F pow2 49
text_near e i l = replay_near e text room start 24 start_passes (text_bounds e) i (rw (nodes_are start start_passes e) l)
