-- A whole exchange: what a reader sends is heard by the link as the frame that it meant, and the master reads in it what was meant.
-- Assumes nothing.
use mathlib.Core.Path.{◌≡◌, refl, sym, ap, subst, subst⁻¹, ◌∙◌}
use mathlib.Core.Bool.{Bool}
use mathlib.Core.List.{List, ◌++◌, Memᴰ}
use Prim.Native.Nat.{ℕ, ◌+◌, ◌≤◌}
use native.Mathlib.Omega.{arith}
use lib.ListN.{length}
use Rattle.std.specs.Prelude.{Ok}
use Rattle.link_spec.specs.declared.station.Station.TheVariants.{Point}
use Rattle.link_spec.specs.declared.receiver.Receiver.{Receiver}
use Rattle.link_spec.specs.Limits.{most_data}
use Rattle.link_spec.specs.Events.{FRAME}
use Rattle.link_spec.specs.Hearing.{Told, told_at, IsFresh, Hearing}
use Rattle.link_spec.proofs.Laws.Listed.{point-image-listed}
use Rattle.request_spec.specs.declared.command.Command.{Command}
use Rattle.request_spec.specs.Acceptance.{acceptance, Accepts}
use Rattle.request_spec.specs.Replies.{Reply, NACK, sign, identifier_of, command_of, data_of, command_in, data_in, front_of}
use Rattle.request_spec.specs.Reading.{has_read, reply_read}
use Rattle.request_spec.proofs.Laws.Acceptance.{accepts, accepted}
use Rattle.request_spec.proofs.Laws.Reading.{reads-nack}
use Rattle.reader_spec.specs.declared.reader.Reader.{Reader}
use Rattle.reader_spec.specs.Replies.{reply_image, reply_to}
use Rattle.reader_spec.specs.Sessions.{History, Call, bytes_sent, ReaderSession}
use Rattle.reader_spec.proofs.Laws.Executing.{reply-fits}
use Rattle.reader_spec.proofs.Laws.Sessions.{session-agrees}
use Rattle.demands.specs.Exchanging.{Asks, RequestExecuted, HeardAndRead}
use Rattle.demands.proofs.Laws.Mastering.{master-reads}

-- the image of a reply that fits a frame, put anywhere into any stream, is heard there
module _ (identifier code : ℕ) (reply : Reply) (fits : length (data_in reply) ≤ most_data) where
  pub reply-heard : (before rest : List ℕ) {m : Receiver} {all : List Told} → IsFresh Point m
      → Hearing (before ++ (reply_image identifier code reply ++ rest)) m 0 all
      → Memᴰ (told_at (length before + length (reply_image identifier code reply)) FRAME (front_of identifier code reply)) all
  reply-heard before rest = point-image-listed identifier (command_in code reply) (data_in reply) before rest fits

heard-and-read : (identifier code : ℕ) («data» bytes before rest : List ℕ) (reply : Reply) {m : Receiver} {all : List Told}
    → length (data_in reply) ≤ most_data
    → bytes ≡ reply_image identifier code reply
    → reply_read identifier code «data» (front_of identifier code reply) ≡ has_read reply
    → IsFresh Point m
    → Hearing (before ++ (bytes ++ rest)) m 0 all
    → HeardAndRead identifier code «data» before all bytes reply
heard-and-read identifier code «data» bytes before rest reply {m} {all} fits image reads fr hearing =
    record {
      heard = subst⁻¹ (λ (l : List ℕ). Memᴰ (told_at (length before + length l) FRAME (front_of identifier code reply)) all) image
          (reply-heard identifier code reply fits before rest fr
          (subst (λ (l : List ℕ). Hearing (before ++ (l ++ rest)) m 0 all) image hearing));
      reads = reads;
    }

-- the reply to a request that was executed
pub exchange : {alone : Bool} {s : Reader} {held : List ℕ} {h : History} → ReaderSession alone s held h
    → (c : Call alone h s held) (identifier code : ℕ) («data» before rest : List ℕ) {command : Command} {m : Receiver} {all : List Told}
    → Asks c identifier code «data»
    → RequestExecuted c command
    → IsFresh Point m
    → Hearing (before ++ (bytes_sent c ++ rest)) m 0 all
    → HeardAndRead identifier code «data» before all (bytes_sent c) (reply_to h.value command c.input.header c.input.antenna)
exchange {h = h} se c identifier code «data» before rest {command} asks x fr hearing =
    let sized = (session-agrees se).sized in
    let i = c.input in
    let asked : acceptance code «data» ≡ Ok command =
    ap (λ (l : List ℕ). acceptance (command_of l) (data_of l)) (sym asks.content) ∙ x.asked in
    heard-and-read identifier code «data» _ before rest (reply_to h.value command i.header i.antenna)
    (reply-fits h.value sized i.header i.antenna command c.whole asks.well.0)
    (x.sends
    ∙ ap (λ (l : List ℕ). reply_image (identifier_of l) (command_of l) (reply_to h.value command i.header i.antenna)) asks.content)
    (master-reads h.value sized identifier i.header i.antenna c.whole (accepts code «data» asked)) fr hearing

-- a NACK, sent, heard, and read, wherever the master's request was acceptable and the identifier is its own
pub nack-exchange : (n identifier code : ℕ) («data» before rest : List ℕ) {command : Command} {m : Receiver} {all : List Told} → 1 ≤ n
    → n ≤ 6
    → Accepts code «data» command
    → IsFresh Point m
    → Hearing (before ++ (reply_image identifier sign (NACK n) ++ rest)) m 0 all
    → HeardAndRead identifier code «data» before all (reply_image identifier sign (NACK n)) (NACK n)
nack-exchange n identifier code «data» before rest {command} least most row fr hearing =
    heard-and-read identifier code «data» (reply_image identifier sign (NACK n)) before rest (NACK n) (omega arith) refl
    (reads-nack identifier code «data» command (accepted row) n least most) fr hearing
