-- What was executed is repeated: after any calls that execute nothing, a frame with its identifier and command changes nothing and sends the
-- bytes that were sent when it was executed.
-- Assumes nothing.
use mathlib.Core.Path.{◌≡◌, refl, sym, ap, ◌∙◌}
use mathlib.Core.Bool.{true, false}
use mathlib.Core.List.{List}
use mathlib.Core.Option.{Option, some}
use Prim.Native.Nat.{ℕ}
use lib.ListN.{length, take}
use lib.Seq.{take-append_seam}
use borrow.Author.Tests.{eq-eqb}
use Rattle.ground.specs.Laying.{onto}
use Rattle.request_spec.specs.declared.parameter.Parameter.{Parameter}
use Rattle.request_spec.specs.Replies.{identifier_of, command_of}
use Rattle.reader_spec.specs.declared.reader.Asking.TheVariants.{Right}
use Rattle.reader_spec.specs.declared.reader.Reader.{Reader}
use Rattle.reader_spec.specs.State.{state_of}
use Rattle.reader_spec.specs.Asking.{asking}
use Rattle.reader_spec.specs.Replies.{reply_image, reply_to}
use Rattle.reader_spec.specs.Answering.{Answered, reply_bytes}
use Rattle.reader_spec.specs.Sessions.{Execution, image_of, History, repeats_last, next_history, is_executed, remembers, Call, reader_after, Done, ReaderSession, Idle}
use Rattle.reader_spec.specs.Promises.{Repeated}
use Rattle.reader_spec.proofs.Laws.Sessions.{session-agrees, session-on, is-frame, is-new, is-accepted, served-asked, call-executed, executed-sends, repeat-stored, loose-call}
use Rattle.reader_spec.proofs.Laws.Idle.{idle-keeps}

module _ {s : Reader} {held : List ℕ} {h : History} (se : ReaderSession false s held h) (first : Call false h s held) (done : Done first)
    (does : is_executed h first.input ≡ true) where
  abbrev i : History
  i = next_history h first.input

  pub executed-repeats : {t : Reader} {kept : List ℕ} → Idle true i (reader_after first) first.left.store t kept
      → (again : Call true i t kept)
      → Done again
      → asking again.input.event ≡ Right
      → identifier_of again.input.content ≡ identifier_of first.input.content
      → command_of again.input.content ≡ command_of first.input.content
      → Repeated first again
  executed-repeats {t} {kept} idle again done' asks same-identifier same-command =
      let (command, asked) = is-accepted se first done does in
      let e : Execution = record {
        identifier = identifier_of first.input.content;
        code = command_of first.input.content;
        reply = reply_to h.value command first.input.header first.input.antenna;
      } in
      let on = session-on se first done in
      let same = idle-keeps on idle in
      let last : i.last ≡ some e = rw (is-frame se first done does, is-new se first done does, served-asked se first done does ∙ asked) refl in
      let repeats : repeats_last i again.input ≡ true =
      rw (last, same-identifier, same-command, eq-eqb e.identifier e.identifier refl, eq-eqb e.code e.code refl) refl in
      let recalls = repeat-stored same.session (loose-call again) done' asks repeats in
      let executes = call-executed se first done does asked in
      let bytes = reply_bytes (state_of s) first.input first.lent command in
      let image : bytes ≡ image_of e =
      ap (λ (v : Parameter → List ℕ). reply_image e.identifier e.code (reply_to v command first.input.header first.input.antenna))
      (session-agrees se).values in
      let stands : take (length (image_of e)) first.left.store ≡ image_of e =
      ap (take (length (image_of e))) (ap (λ (a : Answered). a.left.store) executes ∙ ap (λ (l : List ℕ). onto l first.lent.store) image)
      ∙ take-append_seam (image_of e) _ in
      record {
        state = recalls.state ∙ same.state;
        buffers = recalls.buffers;
        sends = recalls.sends ∙ again.kept ∙ same.store refl
            ∙ ap (λ (l : Option Execution). take (remembers l) first.left.store) last
            ∙ stands
            ∙ sym (executed-sends se first done does asked);
      }
