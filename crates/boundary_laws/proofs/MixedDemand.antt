-- THEOREM 2 OF LISTS THAT MIX BUILDS, STEPS, RUNS, REPLAYS AND CYCLES: the cell of the last image is the cell of the last accepted build (or of the first image) after a list of
-- steps, those of the runs, replays and cycles among them, and every node is within K·M / 2 ^ 49 of the exact one. Assumes nothing.
use Rattle.std.specs.Prelude.{ℕ, ◌<◌, ◌≡◌, refl, Bool, true, false, cond, List, [], ◌∷◌, ◌++◌, eqb, length}
use Rattle.std.proofs.Common.{sym, ap, ◌∙◌, inl, inr}
use Rattle.fraction.specs.Fraction.{nat, pow2, ◌-F◌, ◌*F◌, ◌/F◌, ◌within◌}
use Rattle.discharge_run.specs.Discharge as DR
use Rattle.solver.specs.declared.SpmSolver.{SpmSolver}
use Rattle.solver.specs.Cell.{cell_refusal}
use Rattle.solver_laws.specs.Electrodes.{Electrode, nodes_are}
use Rattle.solver_laws.specs.Demand as SD
use Rattle.solver_laws.proofs.Demand.{solver_near}
use Rattle.solver_laws.specs.AcceptedLists.{after_append}
use Rattle.solver_laws.proofs.RunLists.{run_is_list}
use Rattle.solver_laws.proofs.ReplayLists.{replay_is_list}
use Rattle.cell_images.specs.Images.{cell_at}
use Rattle.image_builds.specs.Builds.{cell_built}
use Rattle.image_laws.specs.CellRuns.{image_cycle_is_list}
use Rattle.boundary_laws.specs.CallLists.{CCall, image_after, well_formed_of, record_after}
use Rattle.boundary_laws.specs.MixedLists.{CellRows, cell_rows, CellCall, cell_calls}
use Rattle.boundary_laws.proofs.MixedLists.{cell_calls_simulate}
use Rattle.boundary_laws.specs.Nodes.{node_at, most_at, node_below}
use Rattle.boundary_laws.proofs.Nodes.{cell_nodes}
use Rattle.image_layout.specs.Layout.{cell_bytes}
use Rattle.boundary_laws.specs.MixedDemand.{SinceBuild, cell_of, rows_of, since_build, since_build_in}

rows_are : (c : SpmSolver) (r : CellRows) → cell_rows.next c r ≡ SD.cell_after c (rows_of c r)
rows_are c (inl q) = run_is_list (DR.run_settings q.current q.dt q.temp q.limit) c q.places
rows_are c (inr (inl q)) = replay_is_list q.text q.temp c q.places
rows_are c (inr (inr q)) = image_cycle_is_list q.phases q.settings c q.places

-- ---- a list of calls is that list of steps
one_build : (t : Bool) (qs : List CellCall) (a b : SpmSolver) (x y : SinceBuild) → record_after cell_calls a qs ≡ cell_of x → record_after cell_calls b qs ≡ cell_of y
    → record_after cell_calls (cond t a b) qs ≡ cell_of (cond t x y)
one_build true qs a b x y p q = p
one_build false qs a b x y p q = q

since_is : (qs : List CellCall) (z : SinceBuild) → record_after cell_calls (cell_of z) qs ≡ cell_of (since_build z qs)
unfolding record_after since_build SD.cell_after
since_is [] z = refl
since_is (inl b ∷ qs) z =
    let new : SinceBuild = record { start = (cell_built b.call b.image).solver; steps = [] } in
    one_build (eqb (cell_built b.call b.image).refusal 0) qs (cell_built b.call b.image).solver (cell_of z) (since_build new qs) (since_build z qs) (since_is qs new) (since_is qs z)
since_is (inr (inl q) ∷ qs) z =
    ap (λ (c : SpmSolver). record_after cell_calls c qs) (sym (after_append z.steps (q ∷ []) z.start)) ∙ since_is qs (record { start = z.start; steps = z.steps ++ q ∷ [] })
since_is (inr (inr r) ∷ qs) z =
    ap (λ (c : SpmSolver). record_after cell_calls c qs) (rows_are (cell_of z) r ∙ sym (after_append z.steps (rows_of (cell_of z) r) z.start))
    ∙ since_is qs (record { start = z.start; steps = z.steps ++ rows_of (cell_of z) r })

-- THE CELL OF THE LAST IMAGE is the cell of the last accepted build after the steps since then
pub mixed_images_are : (s : List ℕ) (qs : List (CCall CellCall)) → length s ≡ cell_bytes → cell_at (image_after cell_calls s qs) ≡ cell_of (since_build_in s qs)
unfolding SD.cell_after
mixed_images_are s qs l = (cell_calls_simulate qs s l).reads ∙ since_is (well_formed_of cell_calls qs) (record { start = cell_at s; steps = [] })

-- THEOREM 2. Where the accepted steps since the last build keep 2·h·∣flux∣ ≤ D·M at e, every node of e in the last image is within K·M / 2 ^ 49 of the exact
-- one, K their sub-steps.
pub mixed_images_near : (e : Electrode) (s : List ℕ) (qs : List (CCall CellCall)) → length s ≡ cell_bytes → cell_refusal (since_build_in s qs).start ≡ 0
    → SD.FluxBoundAt e (since_build_in s qs).start (since_build_in s qs).steps → (i : ℕ) → i < (since_build_in s qs).start.config.n_nodes
    → node_at e (image_after cell_calls s qs) i -F SD.exact_place e (since_build_in s qs).start (since_build_in s qs).steps i
    within nat (SD.K (since_build_in s qs).start (since_build_in s qs).steps) *F most_at e (since_build_in s qs).start /F pow2 49
mixed_images_near e s qs l h bs i m =
    let z = since_build_in s qs in
    rw (← cell_nodes e (image_after cell_calls s qs) (cell_of z) (mixed_images_are s qs l) i (node_below z.start h i m))
    (solver_near e z.start z.steps h bs i (rw (nodes_are z.start h e) m))
