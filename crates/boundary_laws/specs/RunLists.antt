-- Runs of C, `pj_simulate_discharge` and `pj_run_galvanostatic`: one that returns 0 or has written a row hands on the cell after its finished rows. Assumes nothing.
use Rattle.std.specs.Prelude.{ℕ, ◌≡◌, refl, Bool, true, false, not, ◌&&◌, ◌||◌, List, T, eqb, length, take, Float}
use Rattle.std.proofs.Common.{subst, eq-eqb, eqb-true, lit≤, length-take-le}
use Rattle.binary64.specs.Operators.{f64}
use Rattle.runs.specs.RunAnswers.{writes_answer}
use Rattle.runs.specs.Lowest.{Room}
use Rattle.solver.specs.declared.SpmSolver.{SpmSolver}
use Rattle.dfn.specs.declared.DfnSolver.{DfnSolver}
use Rattle.discharge_run.specs.Discharge as DR
use Rattle.galvanostatic_run.specs.Galvanostatic as GR
use Rattle.cell_images.specs.Images.{cell_at}
use Rattle.dfn_images.specs.Images as I
use Rattle.dfn_calls.specs.Runs as PR
use Rattle.boundary.specs.Calls as B
use Rattle.boundary.specs.Runs as BR
use Rattle.image_laws.specs.DfnRuns.{dfn_run_idle}
use Rattle.image_laws.specs.AnswerLengths.{galvanostatic_length}
use Rattle.image_laws.specs.ReadBack.{galvanostatic_read_back}
use Rattle.boundary_laws.specs.CallLists.{Calls, Implements, writes_on_implements}
use Rattle.image_layout.specs.Layout.{cell_bytes, cell_run_bytes, dfn_bytes, dfn_run_bytes}

-- ---- runs: the rows and the summary that are lent count only by their numbers of places
pub record CellRun : Type 0 where
  pub current : Float
  pub dt : Float
  pub temp : Float
  pub limit : Float
  pub places : Room

pub record DfnRun : Type 0 where
  pub bits : ℕ
  pub dt : Float
  pub limit : Float
  pub places : Room

-- what a run gives
abbrev pub discharge : SpmSolver → CellRun → DR.RunOutcome
discharge c q = DR.discharged (DR.run_settings q.current q.dt q.temp q.limit) c q.places

abbrev pub galvanostatic : DfnSolver → DfnRun → GR.RunOutcome
galvanostatic d q = GR.galvanostatic d (f64 q.bits) q.dt q.limit q.places

abbrev pub cell_runs : Calls cell_bytes cell_at CellRun
cell_runs = record {
  formed = λ q a. eqb (length a) cell_run_bytes;
  returned = λ s q a. BR.discharge_return s q.current q.dt q.temp q.limit q.places (length a);
  left = λ s q a. BR.discharge_after s q.current q.dt q.temp q.limit q.places a;
  handed = λ s q a. B.lengths (length s) cell_bytes (length a) cell_run_bytes && writes_answer (discharge (cell_at s) q).ended.refusal (discharge (cell_at s) q).rows;
  refusal = λ c q. (discharge c q).ended.refusal;
  next = λ c q. (discharge c q).solver;
}

abbrev pub dfn_runs : Calls dfn_bytes I.cell_at DfnRun
dfn_runs = record {
  formed = λ q a. eqb (length a) dfn_run_bytes;
  returned = λ s q a. BR.galvanostatic_return s (f64 q.bits) q.dt q.limit q.places (length a);
  left = λ s q a. BR.galvanostatic_after s (f64 q.bits) q.dt q.limit q.places a;
  handed = λ s q a. B.lengths (length s) dfn_bytes (length a) dfn_run_bytes && writes_answer (galvanostatic (I.cell_at s) q).ended.refusal (galvanostatic (I.cell_at s) q).rows;
  refusal = λ d q. (galvanostatic d q).ended.refusal;
  next = λ d q. (galvanostatic d q).cell;
}

-- ---- each run implements its definition
-- whether a run writes its answer
abbrev pub run_writes : DR.RunOutcome → Bool
run_writes r = writes_answer r.ended.refusal r.rows

abbrev dfn_run_writes : GR.RunOutcome → Bool
dfn_run_writes r = writes_answer r.ended.refusal r.rows

-- an answer that is not written is that of a run without a row
pub no_row : (refusal rows : ℕ) → writes_answer refusal rows ≡ false → rows ≡ 0
no_row refusal rows h = go (eqb refusal 0) (eqb rows 0) refl h
  where
    go : (x y : Bool) → eqb rows 0 ≡ y → x || not y ≡ false → rows ≡ 0
    go false true e h = eqb-true rows 0 e
    go false false e h = absurd (subst T h tt)
    go true y e h = absurd (subst T h tt)

module _ (s : List ℕ) (q : DfnRun) (a : List ℕ) (l : length s ≡ dfn_bytes) where
  dfn_run_returned : dfn_runs.returned s q a ≡ B.after_lengths (dfn_runs.formed q a) (dfn_runs.refusal (I.cell_at s) q)
  unfolding BR.galvanostatic_return PR.galvanostatic_return
  dfn_run_returned = rw (eq-eqb (length s) dfn_bytes l)

  dfn_run_handed : dfn_runs.handed s q a ≡ dfn_runs.formed q a && dfn_run_writes (galvanostatic (I.cell_at s) q)
  dfn_run_handed = rw (eq-eqb (length s) dfn_bytes l)

  module _ (e : dfn_runs.formed q a ≡ true) (h : dfn_run_writes (galvanostatic (I.cell_at s) q) ≡ true) where
    dfn_run_reads : I.cell_at (take dfn_bytes (dfn_runs.left s q a)) ≡ dfn_runs.next (I.cell_at s) q
    dfn_run_reads = (galvanostatic_read_back s q.bits q.dt q.limit q.places a l (eqb-true (length a) dfn_run_bytes e) (rw h tt)).cell

    dfn_run_fills : length (take dfn_bytes (dfn_runs.left s q a)) ≡ dfn_bytes
    dfn_run_fills =
        let n = galvanostatic_length s q.bits q.dt q.limit q.places a l (eqb-true (length a) dfn_run_bytes e) (rw h tt) in
        length-take-le dfn_bytes (dfn_runs.left s q a) (rw n (lit≤ tt))

dfn_run_keeps : (d : DfnSolver) (q : DfnRun) → dfn_run_writes (galvanostatic d q) ≡ false → dfn_runs.next d q ≡ d
dfn_run_keeps d q h = dfn_run_idle d (f64 q.bits) q.dt q.limit q.places (no_row (galvanostatic d q).ended.refusal (galvanostatic d q).rows h)

pub dfn_runs_implement : Implements dfn_runs
dfn_runs_implement =
    writes_on_implements dfn_runs (λ d q. dfn_run_writes (galvanostatic d q))
    (record { returned_is = dfn_run_returned; handed_is = dfn_run_handed; written_reads = dfn_run_reads; written_fills = dfn_run_fills; unwritten_keeps = dfn_run_keeps })
