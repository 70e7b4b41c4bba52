-- What a call of the reader puts together.
-- Assumes nothing.
use mathlib.Core.Path.{◌≡◌, ap, ◌∙◌}
use mathlib.Core.Bool.{true, and-eq-true_iff}
use mathlib.Core.List.{List, ◌∷◌}
use mathlib.Core.Option.{some}
use Prim.Native.Nat.{ℕ, ◌≤◌}
use lib.ListN.{length, take}
use borrow.Author.Tests.{leb-true}
use Rattle.std.specs.Prelude.{Some, None, Result, Ok}
use Rattle.ground.specs.declared.refusal.Refusal.{Refusal}
use Rattle.ground.specs.Laying.{onto}
use Rattle.wire_spec.specs.Image.{image}
use Rattle.wire_spec.specs.Writing.{After}
use Rattle.link_spec.specs.Events.{FRAME}
use Rattle.request_spec.specs.declared.command.Command.{Command}
use Rattle.request_spec.specs.declared.command.Fault.{Fault}
use Rattle.request_spec.specs.Replies.{identifier_of, command_of, data_of}
use Rattle.reader_spec.specs.declared.reader.Buffer.TheVariants.{Out}
use Rattle.reader_spec.specs.declared.reader.Parameters.{Parameters}
use Rattle.reader_spec.specs.declared.reader.Reader.{Reader}
use Rattle.reader_spec.specs.declared.reader.Answer.{Answer}
use Rattle.reader_spec.specs.Limits.{least_front}
use Rattle.reader_spec.specs.Speeds.{served}
use Rattle.reader_spec.specs.Parameters.{value_of, done_to}
use Rattle.reader_spec.specs.Replies.{reply_content, reply_to}
use Rattle.reader_spec.specs.State.{State, state_with, state_of, last_of, find}
use Rattle.reader_spec.specs.Sending.{OUT, Buffers, buffers_of}
use Rattle.reader_spec.specs.Answering.{Input, input_of, answer_says, sending, executed, judged, framed, is_front}
use Rattle.reader_spec.proofs.Laws.Answering.{framed-by}
use Rattle.reader.specs.Replies.{Fills}
use Rattle.reader.proofs.Laws.Replies.{puts-front}

-- a frame that repeats nothing, by what this reader makes of it: steps 4 to 6
pub framed-new : {a : Result Command Fault} (s : State) (i : Input) (lent : Buffers) → find s.last (identifier_of i.content) (command_of i.content) ≡ None
    → served s.fast (command_of i.content) (data_of i.content) ≡ a
    → framed s i lent ≡ judged s i lent a
framed-new s i lent found asked = framed-by s i lent found ∙ ap (judged s i lent) asked

-- a frame put to out, and nothing else
pub put-answers : {r : Result Answer Refusal} {n : ℕ} {out' : List ℕ} (reader : Reader) (content store out : List ℕ)
    → r ≡ Ok (record { reader = reader; buffer = Out; length = n })
    → Fills n out' content out
    → answer_says reader r (buffers_of store out')
    ≡ sending (state_of reader) OUT (length (image content)) (buffers_of store (onto (image content) out))
put-answers {out' = out'} reader content store out told put =
    ap (λ (r : Result Answer Refusal). answer_says reader r (buffers_of store out')) told
    ∙ ap (λ (a : After). sending (state_of reader) OUT a.tally.count (buffers_of store a.out)) put.0

-- a reply put to out, copied to the store and remembered
module _ (reader : Reader) (identifier code : ℕ) («data» header antenna store out : List ℕ) (command : Command) where
  pub execute-answers : {r : Result Answer Refusal} {ps : Parameters} {n : ℕ} {store' out' : List ℕ}
      → r ≡ Ok
      (record {
        reader =
            record {
              parameters = ps;
              fast = reader.fast;
              memory = Some (record { identifier = identifier; command = code; length = n });
            };
        buffer = Out;
        length = n;
      })
      → ps ≡ done_to reader.parameters command «data»
      → store' ≡ onto (take n out') store
      → Fills n out' (reply_content identifier code (reply_to (value_of reader.parameters) command header antenna)) out
      → answer_says reader r (buffers_of store' out')
      ≡ executed (state_of reader) (input_of FRAME (identifier ∷ code ∷ «data») header antenna) (buffers_of store out) command
  execute-answers {r} {ps} {n} {store'} {out'} told done kept put =
      let content = reply_content identifier code (reply_to (value_of reader.parameters) command header antenna) in
      let ps' = done_to reader.parameters command «data» in
      ap (λ (r : Result Answer Refusal). answer_says reader r (buffers_of store' out')) told
      ∙ ap (λ (qs : Parameters). sending (state_with qs reader.fast (some (last_of identifier code n))) OUT n (buffers_of store' out')) done
      ∙ ap (λ (l : List ℕ). sending (state_with ps' reader.fast (some (last_of identifier code n))) OUT n (buffers_of l out'))
      (kept ∙ ap (λ (l : List ℕ). onto l store) (puts-front content out put))
      ∙ ap (λ (a : After). sending (state_with ps' reader.fast (some (last_of identifier code a.tally.count))) OUT a.tally.count
      (buffers_of (onto (image content) store) a.out)) put.0

-- a FRAME or CHECK that is not refused has an identifier and a command
pub front-least : (content : List ℕ) → is_front content ≡ true → least_front ≤ length content
front-least content front = leb-true least_front (length content) ((and-eq-true_iff _ _).0 front).0
