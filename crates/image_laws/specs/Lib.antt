-- Images: what a call from C writes into its answer is read back from it.
--
-- WHERE TO START
--   ReadBack   for each call that returns 0: the record, the report, the ending, the number or the solution in its answer is the one that the call's definition gives. Steps
--              (`particle-step-read-back`, `cell-step-read-back`, `electrolyte-step-read-back`, `dfn-step-read-back`, with their reports), runs (`discharge-read-back`,
--              `replay-read-back`, `cycle-read-back`, `galvanostatic-read-back`), builds (`..-build-read-back`, `ready-..-read-back`), `number-read-back`; in proofs/ReadBack
--              the report of a DFN step, `dfn_report_read_back`, and `solution_read_back`
--   Searches   what a search from C writes: `search-read-back`
--   Layout     the law that they go by: a record that can be encoded is read back from an answer with room for it, and from its first bytes alone
--
-- WHAT THEY STAND ON
--   Words      a word that is written is read, no other word is touched, the first bytes hold the first words
--   Rows       which words are written (`Writes`) and which stay (`SameWords`);  a row of numbers is read back
--   Encodable  rows of numbers of binary64
--   CellImages, ElectrolyteImages, DfnImages, Reports   each record is read back from its image, where it can be encoded
--   CellEncodable, DfnEncodable   what the checks let pass of an image can be encoded, and what a step makes of it
--   CellSteps, ElectrolyteSteps, DfnSteps, CellRuns, DfnRuns, CellBuilds, DfnBuilds, ReadyRecords, Numbers, Dense   what each call answers can be encoded
--   In proofs/   Reports, DfnSteps: the report of a DFN step is read back (`dfn_report_row_read_back`, `dfn_report_answer`);  Dense: a solution can be encoded (`solved_encodable`)
--   Turns      a run of k turns writes at most k rows
--   Accepted   what it means that a call returns 0;  AnswerLengths: an answer keeps its length
pub mod Accepted
pub mod Words
pub mod Encodable
pub mod Rows
pub mod Layout
pub mod CellImages
pub mod Reports
pub mod ElectrolyteImages
pub mod DfnImages
pub mod CellEncodable
pub mod CellSteps
pub mod Turns
pub mod CellRuns
pub mod CellBuilds
pub mod ElectrolyteSteps
pub mod DfnEncodable
pub mod DfnSteps
pub mod DfnRuns
pub mod DfnBuilds
pub mod ReadyRecords
pub mod Numbers
pub mod Dense
pub mod Searches
pub mod AnswerLengths
pub mod ReadBack
