-- Cells: a step of a Doyle-Fuller-Newman cell, on its parts, over plain values.
pub mod Cells
