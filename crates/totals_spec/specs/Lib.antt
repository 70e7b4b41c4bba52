-- What is so of a tape's report: what it is, and what each call answers.
-- Read Whole beside document 02, L1: `report_of` is the report of a whole tape. Adding says what the calls of the crates `ledger` and `totals`
-- answer, Rows how a report is written, Sessions how a tape is handed over in chunks and what is asked of its report, and Examples holds worked
-- tapes.
pub mod Whole
pub mod Adding
pub mod Rows
pub mod Sessions
pub mod Examples
