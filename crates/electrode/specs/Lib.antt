-- The electrode sheet, from docs/REFERENCE.md and electrode.rs.
--
-- Sheet: the record's ranges, the three ready sheets, the diffusivity at a temperature, the interfacial area.
-- Numbers: the sheet as its chemistry and ten numbers.
-- EarlierSheet: with a reference temperature of 298.15 K, what it was before there was one.
-- Curves: the open-circuit potential of the chemistry, and its slope.
-- Calls: what each public call says, refusals included.
pub mod Sheet
pub mod Numbers
pub mod EarlierSheet
pub mod Curves
pub mod Calls
