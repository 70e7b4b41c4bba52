-- A log over many calls: what is told agrees with its record, no call is refused with 4, and a FRAME is answered by what the log does.
-- Assumes nothing.
use mathlib.Core.Path.{◌≡◌, sym, ap, subst⁻¹, ◌∙◌}
use mathlib.Core.Bool.{true, false}
use mathlib.Core.List.{List, []}
use Prim.Native.Nat.{ℕ, ◌≤◌}
use lib.ListN.{length, take, drop}
use lib.Seq.{take-append_seam}
use Rattle.std.specs.Prelude.{Ok}
use Rattle.wire_spec.specs.Image.{image}
use Rattle.wire_spec.specs.Writing.{After, after, putting}
use Rattle.link_spec.specs.Events.{FRAME}
use Rattle.event_log_spec.specs.declared.log.Log.{Log}
use Rattle.event_log_spec.specs.Limits.{room}
use Rattle.event_log_spec.specs.Log.{bad_log}
use Rattle.event_log_spec.specs.Appending.{with_entry}
use Rattle.event_log_spec.specs.Doing.{doing, reply_of}
use Rattle.event_log_spec.specs.Answering.{identifier_in, code_in, data_after, is_front, reply_content, Answering}
use Rattle.event_log_spec.specs.Sessions.{Act, History, made, given, told_after, history_of, Append, Call, Done, bytes_sent, LogSession, begins, appends, answers}
use Rattle.event_log_spec.proofs.Laws.Log.{no_row}
use Rattle.event_log_spec.proofs.Laws.Appending.{appends-to}
use Rattle.event_log_spec.proofs.Laws.Answering.{stays-silent, does-what}
use Rattle.event_log_spec.proofs.Laws.Unique.{same-appended}
use Rattle.event_log_spec.proofs.Laws.Agreeing.{Agrees, agrees-empty, agrees-made}
use Rattle.event_log_spec.proofs.Laws.Giving.{good_none, agrees-given}

-- a log that agrees with what is told is good
pub agrees-good : {h : History} {log : Log} → Agrees h log → bad_log log ≡ false
agrees-good {log} a = no_row log (good_none a.good)

-- what an entry's call answers: no refusal, and the log with it
pub append-is : {log : Log} (a : Append log) → bad_log log ≡ false → (a.result ≡ Ok tt) × (a.left ≡ with_entry log a.body)
append-is {log} a good = same-appended log a.body a.says (sym (appends-to log a.body good))

pub session-agrees : {acts : List Act} {log : Log} → LogSession acts log → Agrees (history_of acts) log
unfolding history_of
session-agrees (begins is) = subst⁻¹ (Agrees (history_of [])) is agrees-empty
session-agrees (appends {acts} se a) =
    let agrees = session-agrees se in
    subst⁻¹ (Agrees (told_after (made a.body) (history_of acts))) (append-is a (agrees-good agrees)).1 (agrees-made agrees a.body a.whole)
session-agrees (answers {acts} se c) =
    subst⁻¹ (Agrees (told_after (given c.input c.out) (history_of acts))) (ap (λ (x : Answering). x.log) c.says)
    (agrees-given (session-agrees se) c.input c.out)

pub session-good : {acts : List Act} {log : Log} → LogSession acts log → bad_log log ≡ false
session-good se = agrees-good (session-agrees se)

-- ---- what a call answers

module _ {log : Log} (c : Call log) (good : bad_log log ≡ false) (enough : room ≤ length c.out) where
  -- to another event than a FRAME nothing
  pub other-silent : (c.input.event ≡ FRAME → ⊥) → Done c × (bytes_sent c ≡ [])
  other-silent other =
      let is = c.says ∙ stays-silent log c.input c.out good enough other in
      (ap (λ (x : Answering). x.after.tally.refusal) is, ap (λ (x : Answering). take x.after.tally.count c.out_left) is)

  -- to a FRAME the image of the reply to what the log does, in front of what was there
  pub frame-answered : c.input.event ≡ FRAME → is_front c.input.content ≡ true
      → let content = c.input.content in
      after c.result c.out_left
      ≡ putting (reply_content (identifier_in content) (code_in content) (reply_of log (doing (code_in content) (data_after content) log.waiting))) c.out
  frame-answered is fit = ap (λ (x : Answering). x.after) (c.says ∙ does-what log c.input c.out good enough is fit)

-- what was put to the front of the out buffer is what is sent
pub put-sent : {log : Log} (c : Call log) (content : List ℕ) → after c.result c.out_left ≡ putting content c.out
    → Done c × (bytes_sent c ≡ image content)
put-sent c content is = (
  ap (λ (x : After). x.tally.refusal) is,
  ap (λ (x : After). take x.tally.count x.out) is ∙ take-append_seam (image content) (drop (length (image content)) c.out),
)
