-- `pj_replay` implements its definition; a text that is too long is refused whatever the lengths. Assumes nothing.
use Rattle.std.specs.Prelude.{ℕ, ◌≡◌, Bool, ◌&&◌, List, T, length, take}
use Rattle.std.proofs.Math.Path.{refl}
use Rattle.std.proofs.Common.{sym, ap, ◌∙◌, subst, lit≤, length-take-le}
use Rattle.std.proofs.Math.Bool.{true, false}
use borrow.Author.Tests.{eq-eqb, eqb-true}
use Rattle.refusal.specs.Numbers as N
use Rattle.solver.specs.declared.SpmSolver.{SpmSolver}
use Rattle.discharge_run.specs.Discharge.{RunOutcome, refused_run}
use Rattle.replay_run.specs.Replay as R
use Rattle.cell_images.specs.Images.{cell_at}
use Rattle.cell_calls.specs.Runs as CR
use Rattle.boundary.specs.Calls as B
use Rattle.boundary.specs.Runs as BR
use Rattle.image_laws.specs.CellRuns.{replay_idle}
use Rattle.image_laws.specs.AnswerLengths.{replay_length}
use Rattle.image_laws.specs.ReadBack.{replay_read_back}
use Rattle.boundary_laws.specs.CallLists.{Implements, writes_on_implements}
use Rattle.boundary_laws.specs.RunLists.{run_writes, no_row}
use Rattle.image_layout.specs.Layout.{cell_bytes, cell_run_bytes}
use Rattle.boundary_laws.specs.ReplayLists.{CellReplay, cell_replays, replay}

-- ---- a replay implements its definition
-- a text that is too long
long_text : (c : SpmSolver) (q : CellReplay) → R.text_fits q.text ≡ false → replay c q ≡ refused_run N.file c
unfolding R.replayed R.replay_refusal N.first_refusal N.refusal_unless
long_text c q f = rw f

module _ (s : List ℕ) (q : CellReplay) (a : List ℕ) (l : length s ≡ cell_bytes) where
  replay_returned : cell_replays.returned s q a ≡ B.after_lengths (cell_replays.formed q a) (cell_replays.refusal (cell_at s) q)
  unfolding BR.replay_return CR.replay_return B.after_lengths
  replay_returned = go (R.text_fits q.text) refl
    where
      go : (b : Bool) → R.text_fits q.text ≡ b → cell_replays.returned s q a ≡ B.after_lengths (cell_replays.formed q a) (cell_replays.refusal (cell_at s) q)
      go true f = rw (f, eq-eqb (length s) cell_bytes l)
      go false f = rw f (sym (ap (λ (r : RunOutcome). r.ended.refusal) (long_text (cell_at s) q f)))

  replay_handed : cell_replays.handed s q a ≡ cell_replays.formed q a && run_writes (replay (cell_at s) q)
  replay_handed = go (R.text_fits q.text) refl
    where
      go : (b : Bool) → R.text_fits q.text ≡ b → cell_replays.handed s q a ≡ cell_replays.formed q a && run_writes (replay (cell_at s) q)
      go true f = rw (f, eq-eqb (length s) cell_bytes l)
      go false f = rw f (sym (ap run_writes (long_text (cell_at s) q f)))

  module _ (e : cell_replays.formed q a ≡ true) (h : run_writes (replay (cell_at s) q) ≡ true) where
    -- an answer that is written is that of a text that is not too long, so it has its length
    answer_long : length a ≡ cell_run_bytes
    answer_long = go (R.text_fits q.text) refl
      where
        go : (b : Bool) → R.text_fits q.text ≡ b → length a ≡ cell_run_bytes
        go true f = eqb-true (length a) cell_run_bytes (rw f at e)
        go false f = absurd (subst T (sym h ∙ ap run_writes (long_text (cell_at s) q f)) tt)

    replay_reads : cell_at (take cell_bytes (cell_replays.left s q a)) ≡ cell_replays.next (cell_at s) q
    replay_reads = (replay_read_back s q.text q.temp q.places a l answer_long (rw h tt)).cell

    replay_fills : length (take cell_bytes (cell_replays.left s q a)) ≡ cell_bytes
    replay_fills =
        let n = replay_length s q.text q.temp q.places a l answer_long (rw h tt) in
        length-take-le cell_bytes (cell_replays.left s q a) (rw n (lit≤ tt))

replay_keeps : (c : SpmSolver) (q : CellReplay) → run_writes (replay c q) ≡ false → cell_replays.next c q ≡ c
replay_keeps c q h = replay_idle q.text q.temp c q.places (no_row (replay c q).ended.refusal (replay c q).rows h)

pub cell_replays_implement : Implements cell_replays
cell_replays_implement =
    writes_on_implements cell_replays (λ c q. run_writes (replay c q))
    (record { returned_is = replay_returned; handed_is = replay_handed; written_reads = replay_reads; written_fills = replay_fills; unwritten_keeps = replay_keeps })
