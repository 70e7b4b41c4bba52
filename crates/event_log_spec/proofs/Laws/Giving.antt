-- What is told after a call that answers an event agrees with the log that it leaves, and the oldest waiting entry is the one that is told.
-- Assumes nothing.
use mathlib.Core.Path.{◌≡◌, refl, sym, ap, ap₂, ◌∙◌}
use mathlib.Core.Bool.{Bool, false, and-false}
use mathlib.Core.List.{List, [], ◌++◌}
use mathlib.Core.Option.{none, some}
use Prim.Native.Nat.{ℕ, suc, ◌+◌, ◌-◌, ◌%◌, ◌≤◌}
use native.Mathlib.Omega.{arith}
use lib.Dec.{eqb}
use lib.ListN.{length, drop_of_length-le}
use borrow.Author.Tests.{eqb-true, eqb-false, eq-eqb, ne_eqb, lt-leb, le-leb}
use Rattle.request_spec.specs.Header.{low_first}
use Rattle.ground.proofs.Laws.Choice.{by-test, between-true}
use Rattle.ground.proofs.Laws.Lists.{drop-none}
use Rattle.link_spec.specs.Events.{FRAME}
use Rattle.event_log_spec.specs.declared.log.Log.{Log}
use Rattle.event_log_spec.specs.declared.log.Doing.{Doing}
use Rattle.event_log_spec.specs.Limits.{identifiers, least_front, most_front}
use Rattle.event_log_spec.specs.Log.{BadLog, held_over, waiting_over, start_outside, identifier_before, oldest_waiting}
use Rattle.event_log_spec.specs.Doing.{doing, delete, restore, clear, DoingTable, unknown, with_data, none_to_read, none_to_delete, reads, deletes, restores, clears, waiting_after}
use Rattle.event_log_spec.specs.Answering.{Input, code_in, data_after, is_frame, Answering, with_waiting, answered_to, short, long, LogTable, state, no_room, request, others, frame}
use Rattle.event_log_spec.specs.Lots.{Lot, one_deleted, all_restored, all_cleared, first_waiting}
use Rattle.event_log_spec.specs.Sessions.{History, history_with, given, is_command, lots_after, told_after, entry_of}
use Rattle.event_log_spec.proofs.Laws.Log.{Good}
use Rattle.event_log_spec.proofs.Laws.Doing.{doing-by-table, no_code}
use Rattle.event_log_spec.proofs.Laws.Answering.{none-unfit, no-frame, answers-by-table}
use Rattle.event_log_spec.proofs.Laws.Lots.{lots_of, first-none, first_some, one-deleted, none-deleted, all-restored, all-cleared}
use Rattle.event_log_spec.proofs.Laws.Agreeing.{Agrees}

-- a good log meets no row of the bad ones
pub good_none : {log : Log} → Good log → BadLog log → ⊥
good_none good (held_over over) = omega (arith, good.held)
good_none good (waiting_over over) = omega (arith, good.waiting)
good_none good (start_outside out) = omega (arith, good.start)

module _ {h : History} {log : Log} (a : Agrees h log) where
  abbrev deleted_now : ℕ
  deleted_now = log.held - log.waiting

  -- ---- the oldest waiting entry

  pub none_first : log.waiting ≡ 0 → first_waiting h.lots ≡ none
  none_first empty = ap first_waiting (a.lots ∙ (λ i. lots_of a.dropped deleted_now (empty i))) ∙ first-none a.dropped deleted_now

  pub some_first : (log.waiting ≡ 0 → ⊥) → first_waiting h.lots ≡ some (a.dropped + deleted_now)
  some_first any =
      let one : log.waiting ≡ suc (log.waiting - 1) = omega (arith, any) in
      ap first_waiting (a.lots ∙ (λ i. lots_of a.dropped deleted_now (one i))) ∙ first_some a.dropped deleted_now (log.waiting - 1)

  -- its identifier is its number modulo 2^32, and its body the one that it was made with
  pub oldest-is : (log.waiting ≡ 0 → ⊥) → oldest_waiting log ≡ entry_of h (a.dropped + deleted_now)
  unfolding identifier_before
  oldest-is any =
      let waits = a.good.waiting in
      let holds = a.good.held in
      let counts = a.count in
      let before : ((a.dropped + log.held) % identifiers + (identifiers - log.waiting)) % identifiers ≡ (a.dropped + deleted_now) % identifiers = omega arith in
      ap₂ (λ (identifier : ℕ) (body : List ℕ). low_first identifier ++ body)
      (ap (λ (next : ℕ). (next + (identifiers - log.waiting)) % identifiers) (a.next ∙ ap (λ (n : ℕ). n % identifiers) counts) ∙ before)
      (a.bodies deleted_now (omega (arith, any)))

  -- ---- what a command does

  -- nothing but how many wait is another
  waits-so : (waiting : ℕ) {lots : List Lot} → waiting ≤ log.held → lots ≡ lots_of a.dropped (log.held - waiting) waiting
      → Agrees (history_with h.bodies lots) (with_waiting log waiting)
  waits-so waiting few lots =
      record {
        good = record { held = a.good.held; waiting = few; start = a.good.start };
        dropped = a.dropped;
        full = a.full;
        lots = lots;
        count = a.count;
        next = a.next;
        ring = a.ring;
        bodies = a.bodies;
      }

  abbrev Leaves : ℕ → Doing → Type 0
  Leaves code d = (waiting_after log.held log.waiting d ≤ log.held) × (lots_after code h.lots ≡ lots_of a.dropped (log.held - waiting_after log.held log.waiting d) (waiting_after log.held log.waiting d))

  commanded : {code waiting : ℕ} {d : Doing} → DoingTable code [] waiting d → log.waiting ≡ waiting → Leaves code d
  unfolding lots_after
  commanded (unknown never) is = (a.good.waiting, rw (no_code 0x11 delete never, no_code 0x12 restore never, no_code 0x13 clear never) a.lots)
  commanded (with_data known present) is = absurd (present refl)
  commanded none_to_read is = (a.good.waiting, a.lots)
  commanded (reads any) is = (a.good.waiting, a.lots)
  commanded none_to_delete is = (
    a.good.waiting,
    ap one_deleted (a.lots ∙ (λ i. lots_of a.dropped (log.held - is i) (is i)))
        ∙ none-deleted a.dropped (log.held - 0)
        ∙ sym (λ i. lots_of a.dropped (log.held - is i) (is i)),
  )
  commanded (deletes any) is =
      let waits = a.good.waiting in
      let one : log.waiting ≡ suc (log.waiting - 1) = omega (arith, any, is) in
      let more : suc deleted_now ≡ log.held - (log.waiting - 1) = omega (arith, any, is, waits) in (
        omega arith,
        ap one_deleted (a.lots ∙ (λ i. lots_of a.dropped deleted_now (one i)))
            ∙ one-deleted a.dropped deleted_now (log.waiting - 1)
            ∙ (λ i. lots_of a.dropped (more i) (log.waiting - 1)),
      )
  commanded restores is =
      let waits = a.good.waiting in
      let left : 0 ≡ log.held - log.held = omega arith in
      let all : deleted_now + log.waiting ≡ log.held = omega arith in (
        omega arith,
        ap all_restored a.lots ∙ all-restored a.dropped deleted_now log.waiting ∙ (λ i. lots_of a.dropped (left i) (all i)),
      )
  commanded clears is =
      let waits = a.good.waiting in
      let all : deleted_now + log.waiting ≡ log.held - 0 = omega arith in (
        omega arith,
        ap all_cleared a.lots ∙ all-cleared a.dropped deleted_now log.waiting ∙ (λ i. lots_of a.dropped (all i) 0),
      )

  -- a request with data is a NACK, and changes nothing
  data-idle : {code waiting : ℕ} {«data» : List ℕ} {d : Doing} → DoingTable code «data» waiting d → («data» ≡ [] → ⊥) → waiting_after log.held log.waiting d ≡ log.waiting
  data-idle (unknown never) present = refl
  data-idle (with_data known there) present = refl
  data-idle none_to_read present = absurd (present refl)
  data-idle none_to_delete present = absurd (present refl)
  data-idle (reads waits) present = absurd (present refl)
  data-idle (deletes waits) present = absurd (present refl)
  data-idle restores present = absurd (present refl)
  data-idle clears present = absurd (present refl)

  -- ---- after a call, by the row that it is answered by

  module _ (i : Input) (out : List ℕ) where
    abbrev Told : Log → Type 0
    Told = Agrees (told_after (given i out) h)

    -- no command: the same is told, of a log that waits as before
    no-command : is_command i out ≡ false → (waiting : ℕ) → waiting ≡ log.waiting → Told (with_waiting log waiting)
    unfolding told_after
    no-command not waiting same =
        rw not (waits-so waiting (omega (arith, a.good.waiting)) (a.lots ∙ sym (λ j. lots_of a.dropped (log.held - same j) (same j))))

    -- a content that is not of three bytes
    other_length : (length i.content ≡ 3 → ⊥) → is_command i out ≡ false
    other_length other = rw (ne_eqb (length i.content) 3 other) (and-false (is_frame i.event))

    -- a command: what it does is told
    commands-agree : i.event ≡ FRAME → length i.content ≡ 3 → 130 ≤ length out → (d : Doing) → d ≡ doing (code_in i.content) [] log.waiting
        → Told (with_waiting log (waiting_after log.held log.waiting d))
    unfolding told_after
    commands-agree is three enough d same =
        let row : DoingTable (code_in i.content) [] log.waiting d = rw same (doing-by-table (code_in i.content) [] log.waiting) in
        let (few, lots) = commanded row refl in
        rw (is, eq-eqb (length i.content) 3 three, le-leb 130 (length out) enough) (waits-so (waiting_after log.held log.waiting d) few lots)

    agrees-row : {x : Answering} → LogTable log i out x → Told x.log
    agrees-row (state bad) = absurd (good_none a.good bad)
    agrees-row (no_room good few) =
        no-command (rw (lt-leb 130 (length out) few, and-false (eqb (length i.content) 3)) (and-false (is_frame i.event))) log.waiting refl
    agrees-row (request good enough is (short few)) = no-command (other_length (λ e. omega arith)) log.waiting refl
    agrees-row (request good enough is (long many)) = no-command (other_length (λ e. omega arith)) log.waiting refl
    agrees-row (others good enough other) = no-command (rw (no-frame i.event other)) log.waiting refl
    agrees-row (frame good enough is fit) =
        by-test (λ (t : Bool). eqb (length i.content) 3 ≡ t → Told (with_waiting log (waiting_after log.held log.waiting done))) (eqb (length i.content) 3)
        (λ _ t. bare (eqb-true (length i.content) 3 t))
        (λ _ f. let more = eqb-false (length i.content) 3 f in
        no-command (other_length more) (waiting_after log.held log.waiting done) (data-idle (doing-by-table (code_in i.content) (data_after i.content) log.waiting) (some_after more)))
        refl
      where
        done : Doing
        done = doing (code_in i.content) (data_after i.content) log.waiting

        some_after : (length i.content ≡ 3 → ⊥) → data_after i.content ≡ [] → ⊥
        some_after more empty =
            let least = (between-true least_front most_front (length i.content) (none-unfit i.content fit)).0 in
            more (omega (arith, least, drop-none i.content 3 empty))

        bare : length i.content ≡ 3 → Told (with_waiting log (waiting_after log.held log.waiting done))
        bare three =
            let few : length i.content ≤ 3 = omega arith in
            commands-agree is three enough done
            (ap (λ («data» : List ℕ). doing (code_in i.content) «data» log.waiting) (drop_of_length-le i.content few))

  pub agrees-given : (i : Input) (out : List ℕ) → Agrees (told_after (given i out) h) (answered_to log i out).log
  agrees-given i out = agrees-row i out (answers-by-table log i out)
