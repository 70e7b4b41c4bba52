-- A reply's frame fits the room that the log asks for, and the addressed line's writer writes it.
-- Assumes nothing.
use mathlib.Core.Path.{◌≡◌, ◌∙◌}
use mathlib.Core.List.{List}
use Prim.Native.Nat.{ℕ, ◌≤◌}
use native.Mathlib.Omega.{arith}
use lib.ListN.{length, drop, length-append, length-take}
use Rattle.request_spec.specs.Header.{low_first}
use Rattle.wire_spec.specs.Image.{image}
use Rattle.wire_spec.specs.Writing.{After, putting}
use Rattle.wire_spec.proofs.Laws.Image.{room-for-any}
use Rattle.link_spec.specs.Limits.{most_data}
use Rattle.link_spec.specs.Frame.{addressed_content}
use Rattle.link_spec.specs.Writers.{addressed_written}
use Rattle.link_spec.proofs.Laws.Frame.{length-addressed}
use Rattle.link_spec.proofs.Laws.Writers.{addressed-writes}
use Rattle.request_spec.specs.Replies.{Reply, command_in, data_in}
use Rattle.event_log_spec.specs.declared.log.Log.{Log}
use Rattle.event_log_spec.specs.declared.log.Doing.{Doing}
use Rattle.event_log_spec.specs.declared.log.Doing.TheVariants.{Read, Delete, Restore, Clear, Nack}
use Rattle.event_log_spec.specs.Limits.{body_length, room}
use Rattle.event_log_spec.specs.Log.{body_start, body_at, identifier_before, place_of, deleted, oldest_waiting}
use Rattle.event_log_spec.specs.Doing.{reply_of}
use Rattle.event_log_spec.specs.Answering.{reply_content}

-- a body has 8 bytes at most, an entry 12
length-entry : (log : Log) → length (oldest_waiting log) ≤ 12
unfolding body_at
length-entry log =
    let place = place_of log (deleted log) in
    omega (
      arith,
      length-append (low_first (identifier_before log.next log.waiting)) (body_at log.bodies place),
      length-take body_length (drop (body_start place) log.bodies),
    )

pub reply-fits : (log : Log) (d : Doing) → length (data_in (reply_of log d)) ≤ most_data
reply-fits log Read = omega (arith, length-entry log)
reply-fits log Delete = omega arith
reply-fits log Restore = omega arith
reply-fits log Clear = omega arith
reply-fits log (Nack n) = omega arith

-- no frame with data within the limit is longer than the room
addressed-room : (address identifier command : ℕ) («data» : List ℕ) → length «data» ≤ most_data
    → length (image (addressed_content address identifier command «data»)) ≤ room
addressed-room address identifier command «data» fits =
    room-for-any (addressed_content address identifier command «data») (omega (arith, length-addressed address identifier command «data»))

pub reply-written : (identifier code : ℕ) (reply : Reply) (out : List ℕ) → length (data_in reply) ≤ most_data → room ≤ length out
    → addressed_written 0x00 identifier (command_in code reply) (data_in reply) out ≡ putting (reply_content identifier code reply) out
reply-written identifier code reply out fits enough =
    addressed-writes 0x00 identifier (command_in code reply) (data_in reply) out (omega arith) fits
    (omega (arith, addressed-room 0x00 identifier (command_in code reply) (data_in reply) fits))

-- so what the writer answered for the reply to what the log does is that reply
pub reply-put : {x : After} (log : Log) (d : Doing) (identifier code : ℕ) (out : List ℕ)
    → x ≡ addressed_written 0x00 identifier (command_in code (reply_of log d)) (data_in (reply_of log d)) out
    → room ≤ length out
    → x ≡ putting (reply_content identifier code (reply_of log d)) out
reply-put log d identifier code out wrote enough = wrote ∙ reply-written identifier code (reply_of log d) out (reply-fits log d) enough
