-- The first row of a run under a chosen voltage, by the lowest voltage of each group of 64 rows.
--
-- Search: what the search answers, whatever rows and summary hold, and the full read. Definitions only.
-- FirstWhere: the first place at which a test holds, and a loop that looks for it.
-- GroupSearch: a loop over groups of which some are passed over.
-- LowestRow: the lowest of finite voltages is a row's, none is under it, and of equals it is the first.
-- FullRead: on rows and their summary the search is the full read.
pub mod Search
pub mod FirstWhere
pub mod GroupSearch
pub mod LowestRow
pub mod FullRead
