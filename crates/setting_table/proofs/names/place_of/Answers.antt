-- `setting_table::names::place_of` meets its contract. Assumes nothing.
use Rattle.setting_table.specs.Names.{bytes_of}
use Rattle.setting_table.proofs.Ways.{place_anode, place-cathode, place_run}
use Rattle.setting_table.proofs.names.place_of.Goals as goal

pub returns-in-Some-clause-place : goal.returns-in-Some-clause-place
unfolding bytes_of
returns-in-Some-clause-place c =
    let h = c.in-Some.ensures.cases in
    place_anode c.args.s.now _ h.0 (rw h.1 at c.place_among.ensures.place)

pub returns-in-Some-strip_prefix-clause-place : goal.returns-in-Some-strip_prefix-clause-place
unfolding bytes_of
returns-in-Some-strip_prefix-clause-place c =
    let h = c.in-Some-strip_prefix.ensures.cases in
    place-cathode c.args.s.now _ c.in_default.ensures.cases h.0 (rw h.1 at c.place_among-in-Some-strip_prefix.ensures.place)

pub returns-clause-place : goal.returns-clause-place
unfolding bytes_of
returns-clause-place c =
    place_run c.args.s.now _ c.in_default.ensures.cases c.in_default-strip_prefix.ensures.cases c.place_among-2.ensures.place
