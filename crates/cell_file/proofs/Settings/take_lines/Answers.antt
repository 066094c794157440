-- `cell_file::Settings::take_lines` meets its contract. Assumes nothing.
use Rattle.std.proofs.Common.{Err, refl, arith, ◌∙◌}
use Rattle.cell_file.specs.Settings.{faulted}
use Rattle.cell_file.specs.Answers.{settings_of, settings_answered}
use Rattle.cell_file.proofs.Lines.{is_fault, line-turn, line-fault, line-last, rest_shorter}
use Rattle.cell_file.proofs.Settings.take_lines.Goals as goal

pub returns-in-Err : goal.returns-in-Err
unfolding faulted
returns-in-Err c =
    line-fault (settings_of c.loop-first.self) (settings_answered (Err c.at_fault.result)) c.loop-first.line c.loop-first.rest.now c.in-Some.first.now c.in-Some.ensures.1
    (c.at_fault.ensures ∙ c.in-Err.ensures) (is_fault c.at_fault.result.fault)
    ∙ c.loop-first.invariant.1

pub loop-first-preserved : goal.loop-first-preserved
loop-first-preserved c =
    let h = c.in-Some.ensures in (
      omega (arith, rest_shorter c.loop-first.rest.now c.in-Some.others.now _ h.0 h.2),
      line-turn (settings_of c.loop-first.self) (settings_of c.take_in.new.self) c.loop-first.line c.loop-first.rest.now c.in-Some.first.now c.in-Some.others.now h.0 h.1 h.2 c.in_default-take_in.ensures
          ∙ c.loop-first.invariant.1,
    )

pub returns : goal.returns
returns c =
    line-last (settings_of c.loop-first.self) (settings_answered c.take_line.result) c.loop-first.line c.loop-first.rest.now c.loop-first.rest.now c.in_default.ensures refl c.take_line.ensures
    ∙ c.loop-first.invariant.1
