-- ON THE ROWS AND THE SUMMARY THAT A RUN FROM C LEFT, whether it was refused or not, `pj_first_below` answers what a full read from the first row gives, for every count up to the run's
-- and every finite voltage. Assumes nothing.
use Rattle.std.specs.Prelude.{ℕ, ◌≤◌, ◌≡◌, List, T, length, Float}
use borrow.Author.Tests.{eq-eqb}
use Rattle.refusal.specs.Ranges.{finite}
use Rattle.discharge_run.specs.Discharge.{run_settings}
use Rattle.row_search.specs.Search.{of_discharge, of_galvanostatic}
use Rattle.row_search_laws.specs.Discharge as D
use Rattle.row_search_laws.specs.Galvanostatic as G
use Rattle.cell_images.specs.Images.{cell_at}
use Rattle.dfn_images.specs.Images as I
use Rattle.cell_calls.specs.Runs as CR
use Rattle.dfn_calls.specs.Runs as PR
use Rattle.boundary.specs.Runs as BR
use Rattle.image_laws.specs.Searches.{FullReadBack, full_read_back}
use Rattle.image_layout.specs.Layout.{cell_bytes, cell_run_bytes, dfn_bytes, dfn_run_bytes, found_bytes}

-- a run whose image and answer have their lengths; n is the length of its answer
module _ (s : List ℕ) (i dt t limit : Float) (rows₀ lowest₀ : List Float) (n : ℕ) (l : length s ≡ cell_bytes) (m : n ≡ cell_run_bytes) where
  pub discharge_first_below : (k : ℕ) (v : Float) (a : List ℕ) → k ≤ D.count (run_settings i dt t limit) (cell_at s) rows₀ lowest₀ → T (finite v) → length a ≡ found_bytes
      → FullReadBack of_discharge (BR.discharge_rows s i dt t limit rows₀ lowest₀ n) (BR.discharge_lowest s i dt t limit rows₀ lowest₀ n) k v a
  unfolding BR.discharge_rows BR.discharge_lowest CR.discharge_rows CR.discharge_lowest
  discharge_first_below k v a h f z =
      rw (eq-eqb (length s) cell_bytes l, eq-eqb n cell_run_bytes m) (full_read_back of_discharge _ _ k v a z (D.discharge_searched (run_settings i dt t limit) (cell_at s) rows₀ lowest₀ k v h f))

module _ (s : List ℕ) (i dt limit : Float) (rows₀ lowest₀ : List Float) (n : ℕ) (l : length s ≡ dfn_bytes) (m : n ≡ dfn_run_bytes) where
  pub galvanostatic_first_below : (k : ℕ) (v : Float) (a : List ℕ) → k ≤ G.count (I.cell_at s) i dt limit rows₀ lowest₀ → T (finite v) → length a ≡ found_bytes
      → FullReadBack of_galvanostatic (BR.galvanostatic_rows s i dt limit rows₀ lowest₀ n) (BR.galvanostatic_lowest s i dt limit rows₀ lowest₀ n) k v a
  unfolding BR.galvanostatic_rows BR.galvanostatic_lowest PR.galvanostatic_rows PR.galvanostatic_lowest
  galvanostatic_first_below k v a h f z =
      rw (eq-eqb (length s) dfn_bytes l, eq-eqb n dfn_run_bytes m) (full_read_back of_galvanostatic _ _ k v a z (G.galvanostatic_searched (I.cell_at s) i dt limit rows₀ lowest₀ k v h f))
