-- `cycle_run::next_position` meets its contract: the phase goes on, or the next one begins. Assumes nothing.
use mathlib.Core.Path.{◌≡◌, sym, ◌∙◌}
use mathlib.Core.Bool.{true, false}
use Rattle.binary64.specs.Operators.{◌⊕◌}
use Rattle.cycle_run.specs.Phases.{phase_at, phase_over}
use Rattle.cycle_run.specs.Counters.{next_position}
use Rattle.cycle_run.proofs.next_position.Goals as goal

pub returns-then-phase_over : goal.returns-then-phase_over
unfolding next_position
returns-then-phase_over c =
    let a = c.args in
    let ended : phase_over (phase_at a.phases a.q.place) a.cutoff (a.q.clock ⊕ a.g.dt) ≡ true = sym c.phase_over.ensures ∙ c.if-phase_over.true in
    rw ended c.moved_on.ensures

pub returns : goal.returns
unfolding next_position
returns c =
    let a = c.args in
    let goes_on : phase_over (phase_at a.phases a.q.place) a.cutoff (a.q.clock ⊕ a.g.dt) ≡ false = sym c.phase_over.ensures ∙ c.if-phase_over.false in
    rw goes_on
