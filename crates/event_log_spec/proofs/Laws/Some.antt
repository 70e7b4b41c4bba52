-- Every call has a result that its statement allows, so a session can be continued by any call, and there is one of every sequence of acts.
-- Assumes nothing.
use mathlib.Core.Path.{◌≡◌, refl}
use mathlib.Core.List.{List, [], ◌∷◌}
use Prim.Native.Nat.{ℕ}
use lib.Dec.{ltb}
use lib.ListN.{length}
use Rattle.std.specs.Prelude.{Result, Ok, Err}
use Rattle.ground.specs.declared.refusal.Refusal.{Refusal}
use Rattle.ground.specs.declared.refusal.Refusal.TheVariants.{NoRoom, BadState as BAD, BadRequest}
use Rattle.ground.proofs.Laws.Choice.{cond-elim}
use Rattle.event_log_spec.specs.declared.log.Log.{Log}
use Rattle.event_log_spec.specs.Limits.{body_length, room}
use Rattle.event_log_spec.specs.Log.{empty_log, bad_log}
use Rattle.event_log_spec.specs.Appending.{Appending, appending, appended_to}
use Rattle.event_log_spec.specs.Answering.{Input, is_frame, is_front, Answering, answering, framed, answered_to}
use Rattle.event_log_spec.specs.Sessions.{Act, made, given, Append, Call, LogSession, begins, appends, answers, Whole}

-- a result that says this
record AppendResult (x : Appending) : Type 0 where
  result : Result (Unit {0}) Refusal
  left : Log
  says : appending result left ≡ x

append-result : (log : Log) (body : List ℕ) → AppendResult (appended_to log body)
unfolding appended_to
append-result log body =
    cond-elim AppendResult (bad_log log) (λ bad. record { result = Err BAD; left = log; says = refl }) (λ good. record { result = Ok tt; left = _; says = refl })

pub append-some : {log : Log} (body : List ℕ) → length body ≡ body_length → (a : Append log) × (a.body ≡ body)
append-some {log} body whole =
    let r = append-result log body in
    (record { body = body; result = r.result; left = r.left; whole = whole; says = r.says }, refl)

record CallResult (x : Answering) : Type 0 where
  result : Result ℕ Refusal
  says : answering result x.log x.after.out ≡ x

call-result : (log : Log) (i : Input) (out : List ℕ) → CallResult (answered_to log i out)
unfolding answered_to framed
call-result log i out =
    cond-elim CallResult (bad_log log) (λ bad. record { result = Err BAD; says = refl })
    (λ good. cond-elim CallResult (ltb (length out) room) (λ few. record { result = Err NoRoom; says = refl })
    (λ enough. cond-elim CallResult (is_frame i.event)
    (λ is. cond-elim CallResult (is_front i.content) (λ fit. record { result = Ok (framed log i out).after.tally.count; says = refl })
    (λ bad. record { result = Err BadRequest; says = refl }))
    (λ other. record { result = Ok 0; says = refl })))

pub call-some : {log : Log} (i : Input) (out : List ℕ) → (c : Call log) × (c.input ≡ i) × (c.out ≡ out)
call-some {log} i out =
    let r = call-result log i out in
    let x = answered_to log i out in
    (record { input = i; out = out; result = r.result; left = x.log; out_left = x.after.out; says = r.says }, refl, refl)

-- ---- a session of every sequence of acts

pub data AllWhole : List Act → Type 0 where
  none : AllWhole []
  one : {act : Act} {earlier : List Act} → Whole act → AllWhole earlier → AllWhole (act ∷ earlier)

pub session-some : (acts : List Act) → AllWhole acts → (log : Log) × LogSession acts log
unfolding append-some call-some
session-some [] none = (empty_log, begins refl)
session-some (made body ∷ earlier) (one whole more) =
    let (log, se) = session-some earlier more in
    let (a, is) = append-some {log = log} body whole in
    (a.left, appends se a)
session-some (given i out ∷ earlier) (one whole more) =
    let (log, se) = session-some earlier more in
    let (c, is, lent) = call-some {log = log} i out in
    (c.left, answers se c)
