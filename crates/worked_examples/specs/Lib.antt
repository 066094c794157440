-- The worked examples as one theorem: `worked_examples`, in BenchCells, a list in the paper's order from the definitions that the contracts cite.
pub mod WorkedExamples
