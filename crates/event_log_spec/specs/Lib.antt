-- What must be believed of this library: the addressed reader's event log, and what each call does.
-- Read Limits, Log, Appending, Doing and Answering beside document 02, L3, and 000, 'Команды работы с памятью событий'; Lots and Sessions as what
-- is told of a log over many calls from their inputs alone; Examples as the paper's cases worked out.
-- An entry of the log is what the papers call an event: here an event is what a receiver tells. The contents of frames are those of `link_spec`,
-- images those of `wire_spec`, and what a reply says is that of `request_spec`.
pub mod Limits
pub mod Log
pub mod Appending
pub mod Doing
pub mod Answering
pub mod Lots
pub mod Sessions
pub mod Examples
