-- The log's record: a ring of bodies, the place of the oldest held entry, how many are held, how many of these wait, and the next identifier.
-- 02, L3; 000, 'Команды работы с памятью событий: общие принципы'. Assumes nothing.
use Rattle.std.specs.Prelude.{ℕ, ◌+◌, ◌-◌, ◌*◌, ◌%◌, ◌≤◌, ◌<◌, Bool, ◌||◌, List, ◌++◌, ltb, leb, take, drop, replicate}
use Rattle.request_spec.specs.Header.{low_first}
use Rattle.event_log_spec.specs.declared.log.Log.{Log}
use Rattle.event_log_spec.specs.Limits.{most_held, body_length, ring_length, identifiers}

-- nothing held, and identifier 0 first
abbrev pub empty_log : Log
empty_log = record { bodies = replicate ring_length 0; start = 0; held = 0; waiting = 0; next = 0 }

-- ---- the ring

-- the place of the entry than which so many held ones are older
abbrev pub place_of : Log → ℕ → ℕ
place_of log older = (log.start + older) % most_held

-- where the body at a place begins
abbrev pub body_start : ℕ → ℕ
body_start place = body_length * place

-- the 8 bytes at a place
unfoldable pub body_at : List ℕ → ℕ → List ℕ
body_at bodies place = take body_length (drop (body_start place) bodies)

-- ---- the oldest waiting entry

-- the waiting entries are a tail of the held ones: these are deleted, and older
abbrev pub deleted : Log → ℕ
deleted log = log.held - log.waiting

-- the identifier that is so many, at most 128, before the next one
unfoldable pub identifier_before : ℕ → ℕ → ℕ
identifier_before next count = (next + (identifiers - count)) % identifiers

-- its identifier, low byte first, and its 8 bytes
abbrev pub oldest_waiting : Log → List ℕ
oldest_waiting log = low_first (identifier_before log.next log.waiting) ++ body_at log.bodies (place_of log (deleted log))

-- ---- bad records

-- 4 BadState: held over 128, waiting over held, or a start outside the log
abbrev pub bad_numbers : ℕ → ℕ → ℕ → Bool
bad_numbers start held waiting = ltb most_held held || (ltb held waiting || leb most_held start)

abbrev pub bad_log : Log → Bool
bad_log log = bad_numbers log.start log.held log.waiting

-- the same as rows, in the paper's numbers. `Laws.Log` proves that these are the bad records, and that there are no others
pub data BadLog (log : Log) : Type 0 where
  held_over : 128 < log.held → BadLog log
  waiting_over : log.held < log.waiting → BadLog log
  start_outside : 128 ≤ log.start → BadLog log
