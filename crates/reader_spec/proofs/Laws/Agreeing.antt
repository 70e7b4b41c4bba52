-- A reader's state agrees with what its calls told, and each call keeps it so and sends what is due.
-- Assumes nothing.
use mathlib.Core.Path.{◌≡◌, refl, sym, ap, subst, subst⁻¹, ◌∙◌}
use mathlib.Core.Bool.{Bool, true, false, cond, ◌&&◌, or-true, true≢false, and-eq-true_iff}
use mathlib.Core.List.{List, []}
use mathlib.Core.Option.{Option, none, some, map}
use Prim.Native.Nat.{ℕ, ◌≤◌}
use native.Mathlib.Omega.{arith}
use lib.Dec.{eqb}
use lib.ListN.{length, take}
use lib.Seq.{take-append_seam}
use borrow.Author.Tests.{eqb-true, le-ltb}
use Rattle.std.specs.Prelude.{Some, None, Result, Ok, Err}
use Rattle.ground.specs.Laying.{onto}
use Rattle.ground.proofs.Laws.Choice.{by-test}
use Rattle.link_spec.specs.Limits.{most_data}
use Rattle.request_spec.specs.declared.parameter.Parameter.{Parameter}
use Rattle.request_spec.specs.declared.parameter.Parameter.TheVariants.{Speed, Settings, Cell}
use Rattle.request_spec.specs.declared.command.Command.{Command}
use Rattle.request_spec.specs.declared.command.Fault.{Fault}
use Rattle.request_spec.specs.Limits.{header_length}
use Rattle.request_spec.specs.Parameters.{length_of}
use Rattle.request_spec.specs.Acceptance.{nack_of, FitsCommand}
use Rattle.request_spec.specs.Replies.{NACK, sign, data_in, identifier_of, command_of, data_of, wrong_check}
use Rattle.reader_spec.specs.declared.reader.Asking.{Asking}
use Rattle.reader_spec.specs.declared.reader.Asking.TheVariants.{Nothing, Wrong, Right}
use Rattle.reader_spec.specs.Limits.{room}
use Rattle.reader_spec.specs.Speeds.{has_speed, serves, served}
use Rattle.reader_spec.specs.Parameters.{fresh_parameters, value_of, after_power}
use Rattle.reader_spec.specs.State.{Last, last_of, State, state_with, fresh_state, find, too_far, bad_state}
use Rattle.reader_spec.specs.Replies.{reply_image, reply_to}
use Rattle.reader_spec.specs.Sending.{OUT, STORE, Buffers, sent}
use Rattle.reader_spec.specs.Answering.{Input, Answered, LentWell, sending, nacked, executed, judged, recalled, framed, stepped}
use Rattle.reader_spec.specs.Sessions.{Execution, image_of, History, fresh_values, begun, powered_value, forgetting, repeats, is_frame, repeats_last, asks_for, served_of, judged_history, next_history_as, judged_reply, bytes_of, due_as, StoreKept}
use Rattle.reader_spec.proofs.Laws.Speeds.{powered-has, served-was, served-fits}
use Rattle.reader_spec.proofs.Laws.Parameters.{value-powered, powered-sized}
use Rattle.reader_spec.proofs.Laws.Replies.{point-room}
use Rattle.reader_spec.proofs.Laws.Answering.{framed-by}
use Rattle.reader_spec.proofs.Laws.Sending.{sent-none, sent-out, sent-store}
use Rattle.reader_spec.proofs.Laws.Executing.{done-values, done-speed, done-sized, reply-fits}

-- the memory that belongs to a last command
abbrev pub memory_of : Option Execution → Option Last
memory_of none = none
memory_of (some e) = some (last_of e.identifier e.code (length (image_of e)))

-- its reply fits a frame
abbrev pub Fits : Option Execution → Type 0
Fits none = Unit {0}
Fits (some e) = length (data_in e.reply) ≤ most_data

-- and stands in the store, where nobody else writes to it
abbrev InStore : Bool → List ℕ → Option Execution → Type 0
InStore false held last = Unit {0}
InStore true held none = Unit {0}
InStore true held (some e) = take (length (image_of e)) held ≡ image_of e

pub record Agrees (alone : Bool) (s : State) (held : List ℕ) (h : History) : Type 0 where
  pub values : value_of s.parameters ≡ h.value
  pub sized : (p : Parameter) → length (h.value p) ≡ length_of p
  pub fast : s.fast ≡ h.fast
  pub speed : has_speed s.fast s.parameters.speed ≡ true
  pub memory : s.last ≡ memory_of h.last
  pub fits : Fits h.last
  pub stored : InStore alone held h.last

none-stored : (alone : Bool) (held : List ℕ) → InStore alone held none
none-stored true held = tt
none-stored false held = tt

-- ---- a fresh reader, and that such a state is good

pub agrees-fresh : (alone : Bool) (store : List ℕ) (fast : Bool) → Agrees alone (fresh_state fast) store (begun fast)
agrees-fresh alone store fast =
    record {
      values = λ i p. first p i;
      sized = sized;
      fast = refl;
      speed = or-true fast;
      memory = refl;
      fits = tt;
      stored = none-stored alone store;
    }
  where
    first : (p : Parameter) → value_of fresh_parameters p ≡ fresh_values p
    first Speed = refl
    first Settings = refl
    first Cell = refl

    sized : (p : Parameter) → length (fresh_values p) ≡ length_of p
    sized Speed = refl
    sized Settings = refl
    sized Cell = refl

pub agrees-powered : {alone : Bool} {s : State} {held : List ℕ} {h : History} → Agrees alone s held h
    → Agrees alone (state_with (after_power s.parameters) s.fast none) held (forgetting h)
agrees-powered {alone} {s} {held} {h} a =
    record {
      values = λ i p. of p i;
      sized = λ p. powered-sized p (h.value p) (a.sized p);
      fast = a.fast;
      speed = powered-has s.fast s.parameters.speed a.speed;
      memory = refl;
      fits = tt;
      stored = none-stored alone held;
    }
  where
    of : (p : Parameter) → value_of (after_power s.parameters) p ≡ powered_value p (h.value p)
    of p = value-powered s.parameters p ∙ ap (λ (v : Parameter → List ℕ). powered_value p (v p)) a.values

pub image-room : (e : Execution) → length (data_in e.reply) ≤ most_data → length (image_of e) ≤ room
image-room e fits = point-room e.identifier _ (data_in e.reply) fits

pub agrees-good : {alone : Bool} {s : State} {held : List ℕ} {h : History} → Agrees alone s held h → bad_state s ≡ false
agrees-good {s} {h} a = rw (a.speed, a.memory) (of h.last a.fits)
  where
    of : (last : Option Execution) → Fits last → too_far (memory_of last) ≡ false
    of none fits = refl
    of (some e) fits = le-ltb room (length (image_of e)) (image-room e fits)

-- the store that a call is lent is as good as the one held: what is remembered of it is the same
pub agrees-lent : (alone : Bool) {s : State} {held store : List ℕ} {h : History} → Agrees alone s held h → StoreKept alone h held store
    → Agrees alone s store h
agrees-lent alone {held = held} {store = store} {h = h} a same =
    record {
      values = a.values;
      sized = a.sized;
      fast = a.fast;
      speed = a.speed;
      memory = a.memory;
      fits = a.fits;
      stored = of alone h.last same a.stored;
    }
  where
    of : (alone : Bool) (last : Option Execution) → StoreKept alone (record { value = h.value; fast = h.fast; last = last }) held store
        → InStore alone held last
        → InStore alone store last
    of false last same kept = tt
    of true none same kept = tt
    of true (some e) same kept = same ∙ kept

-- a reply copied to the front of the store stands there
stored-onto : (alone : Bool) (e : Execution) (store : List ℕ) → InStore alone (onto (image_of e) store) (some e)
stored-onto false e store = tt
stored-onto true e store = take-append_seam (image_of e) _

-- ---- step 3, by what is told

abbrev pub recalled_as : State → Buffers → Option Execution → Answered
recalled_as s lent none = sending s OUT 0 lent
recalled_as s lent (some e) = sending s STORE (length (image_of e)) lent

module _ (s : State) (i : Input) (lent : Buffers) where
  pub framed-told : (h : History) → s.last ≡ memory_of h.last → s.fast ≡ h.fast
      → framed s i lent ≡ cond (repeats_last h i) (recalled_as s lent h.last) (judged s i lent (served_of h i))
  framed-told h remembered same =
      framed-by s i lent (ap (λ (m : Option Last). find m (identifier_of i.content) (command_of i.content)) remembered) ∙ of h.last
      ∙ ap (λ (fast : Bool). cond (repeats_last h i) (recalled_as s lent h.last) (judged_by fast)) same
    where
      judged_by : Bool → Answered
      judged_by fast = judged s i lent (served fast (command_of i.content) (data_of i.content))

      of : (l : Option Execution) → recalled s i lent (find (memory_of l) (identifier_of i.content) (command_of i.content))
          ≡ cond (repeats l (identifier_of i.content) (command_of i.content)) (recalled_as s lent l) (judged_by s.fast)
      of none = refl
      of (some e) =
          by-test
          (λ (t : Bool). recalled s i lent (cond t (Some (length (image_of e))) None)
          ≡ cond t (recalled_as s lent (some e)) (judged_by s.fast))
          (repeats (some e) (identifier_of i.content) (command_of i.content)) (λ _. refl) (λ _. refl)

-- ---- one call that is not refused: the state agrees with what is told next, and what is sent is due

pub record StepAgrees (alone : Bool) (h : History) (bytes : List ℕ) (again : Bool) (a : Answered) : Type 0 where
  pub none : a.refusal ≡ 0
  pub agrees : Agrees alone a.state a.left.store h
  pub sends : (again ≡ true → alone ≡ true) → sent a.buffer a.length a.left ≡ bytes

module _ (alone : Bool) (s : State) (i : Input) (lent : Buffers) (whole : length i.header ≡ header_length) (well : LentWell i lent) where
  none-agrees : {h : History} → Agrees alone s lent.store h → StepAgrees alone h [] false (sending s OUT 0 lent)
  none-agrees a = record { none = refl; agrees = a; sends = λ _. sent-none lent }

  nack-agrees : {h : History} (identifier n : ℕ) → Agrees alone s lent.store h
      → StepAgrees alone h (reply_image identifier sign (NACK n)) false (nacked s identifier n lent)
  nack-agrees identifier n a =
      record { none = refl; agrees = a; sends = λ _. sent-out (reply_image identifier sign (NACK n)) lent.store lent.out }

  module _ (last : Option Execution) where
    -- what was told before, in the state's own words
    abbrev known : History
    known = record { value = value_of s.parameters; fast = s.fast; last = last }

    -- steps 4 to 6
    executed-agrees : (command : Command) → FitsCommand command (data_of i.content) → serves s.fast command (data_of i.content) ≡ true
        → Agrees alone s lent.store known
        → StepAgrees alone (judged_history known i (Ok command))
        (bytes_of i.content (some (reply_to (value_of s.parameters) command i.header i.antenna))) false
        (executed s i lent command)
    executed-agrees command carried able a =
        let value = value_of s.parameters in
        let reply = reply_to value command i.header i.antenna in
        let e : Execution = record { identifier = identifier_of i.content; code = command_of i.content; reply = reply } in
        record {
          none = refl;
          agrees = record {
            values = done-values s.parameters (data_of i.content) command carried;
            sized = done-sized value a.sized (data_of i.content) command carried;
            fast = refl;
            speed = done-speed s.parameters (data_of i.content) s.fast command able a.speed;
            memory = refl;
            fits = reply-fits value a.sized i.header i.antenna command whole well.0;
            stored = stored-onto alone e lent.store;
          };
          sends = λ _. sent-out (image_of e) (onto (image_of e) lent.store) lent.out;
        }

    judged-agrees : (k : Result Command Fault) → served s.fast (command_of i.content) (data_of i.content) ≡ k
        → Agrees alone s lent.store known
        → StepAgrees alone (judged_history known i k) (bytes_of i.content (some (judged_reply known i k))) false (judged s i lent k)
    judged-agrees (Err fault) asked a = nack-agrees (identifier_of i.content) (nack_of fault) a
    judged-agrees (Ok command) asked a =
        executed-agrees command (served-fits s.fast (command_of i.content) (data_of i.content) asked)
        (served-was s.fast (data_of i.content) (asks_for i) asked).1 a

  recalled-agrees : (value : Parameter → List ℕ) (fast : Bool) (last : Option Execution)
      → repeats last (identifier_of i.content) (command_of i.content) ≡ true
      → Agrees alone s lent.store (record { value = value; fast = fast; last = last })
      → StepAgrees alone (record { value = value; fast = fast; last = last })
      (bytes_of i.content (map (λ (e : Execution). e.reply) last)) true (recalled_as s lent last)
  recalled-agrees value fast none same a = absurd (true≢false (sym same))
  recalled-agrees value fast (some e) same a =
      let (j, k) = (and-eq-true_iff (eqb e.identifier (identifier_of i.content)) (eqb e.code (command_of i.content))).0 same in
      let own = eqb-true e.identifier (identifier_of i.content) j in
      let asked = eqb-true e.code (command_of i.content) k in
      let within : length (image_of e) ≤ length lent.store = omega (arith, image-room e a.fits, well.1) in
      record {
        none = refl;
        agrees = a;
        sends = λ single. sent-store (length (image_of e)) lent within
            ∙ in-store (single refl) a.stored
            ∙ ap (λ (n : ℕ). reply_image n e.code e.reply) own
            ∙ ap (λ (n : ℕ). reply_image (identifier_of i.content) n e.reply) asked;
      }
    where
      in-store : alone ≡ true → InStore alone lent.store (some e) → take (length (image_of e)) lent.store ≡ image_of e
      in-store single kept = subst (λ (b : Bool). InStore b lent.store (some e)) single kept

  frame-agrees : (h : History) → Agrees alone s lent.store h
      → StepAgrees alone (next_history_as h i Right) (bytes_of i.content (due_as h i Right)) (repeats_last h i) (framed s i lent)
  frame-agrees h a =
      let k = served_of h i in
      subst⁻¹ (StepAgrees alone (next_history_as h i Right) (bytes_of i.content (due_as h i Right)) (repeats_last h i))
      (framed-told s i lent h a.memory a.fast)
      (by-test
      (λ (t : Bool). StepAgrees alone (cond t h (judged_history h i k))
      (bytes_of i.content (cond t (map (λ (e : Execution). e.reply) h.last) (some (judged_reply h i k)))) t
      (cond t (recalled_as s lent h.last) (judged s i lent k)))
      (repeats_last h i)
      (λ same. recalled-agrees h.value h.fast h.last same a)
      (λ _. subst P told (judged-agrees h.last (served_of (known h.last) i) refl (subst⁻¹ (Agrees alone s lent.store) told a))))
    where
      told : known h.last ≡ h
      told = λ j. record { value = a.values j; fast = a.fast j; last = h.last }

      P : History → Type 0
      P g =
          StepAgrees alone (judged_history g i (served_of g i)) (bytes_of i.content (some (judged_reply g i (served_of g i)))) false
          (judged s i lent (served_of g i))

  -- each step
  pub step-agrees : (asked : Asking) (h : History) → Agrees alone s lent.store h
      → StepAgrees alone (next_history_as h i asked) (bytes_of i.content (due_as h i asked)) (is_frame asked && repeats_last h i) (stepped s i lent asked)
  step-agrees Nothing h a = none-agrees a
  step-agrees Wrong h a = nack-agrees (identifier_of i.content) wrong_check a
  step-agrees Right h a = frame-agrees h a
