-- `setting_table::names::place_among` meets its contract. Assumes nothing.
use Rattle.std.proofs.Common.{◌≡◌, ◌-◌, ◌<◌, unwrap_or, IfSome}
use Rattle.setting_table.specs.Names.{none, place_by}
use Rattle.setting_table.proofs.names.place_among.Given as goal

abbrev pub invariant-loop-index : goal.invariant-loop-index
invariant-loop-index l = (unwrap_or l.found none ≡ place_by (l.index - l.base) l.base l.s) × IfSome l.found (λ k. k < none)
