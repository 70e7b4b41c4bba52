-- What a request makes the log do, by its code, its data, and how many entries wait. 02, L3: unknown code NACK 2, data present NACK 3, then NACK 4;
-- read and delete on no waiting event answer NACK 4; 12 and 13 always ACK. 000, commands 10 to 13. Assumes nothing.
use Rattle.std.specs.Prelude.{ℕ, ◌-◌, ◌≡◌, cond, List, [], eqb, length}
use Rattle.request_spec.specs.Replies.{Reply, ACK, NACK, DATA}
use Rattle.event_log_spec.specs.declared.log.Log.{Log}
use Rattle.event_log_spec.specs.declared.log.Doing.{Doing}
use Rattle.event_log_spec.specs.declared.log.Doing.TheVariants.{Read, Delete, Restore, Clear, Nack}
use Rattle.event_log_spec.specs.Log.{oldest_waiting}

-- no command has data
abbrev pub unless_data : List ℕ → Doing → Doing
unless_data «data» d = cond (eqb (length «data») 0) d (Nack 3)

-- what needs a waiting entry
abbrev pub unless_none : ℕ → Doing → Doing
unless_none waiting d = cond (eqb waiting 0) (Nack 4) d

unfoldable pub doing : ℕ → List ℕ → ℕ → Doing
doing code «data» waiting =
    cond (eqb code 0x10) (unless_data «data» (unless_none waiting Read))
    (cond (eqb code 0x11) (unless_data «data» (unless_none waiting Delete))
    (cond (eqb code 0x12) (unless_data «data» Restore)
    (cond (eqb code 0x13) (unless_data «data» Clear) (Nack 2))))

-- the codes that the log knows
pub data Known : ℕ → Type 0 where
  read : Known 0x10
  delete : Known 0x11
  restore : Known 0x12
  clear : Known 0x13

-- the same as a table. `Laws.Doing` proves that `doing` answers by it, and that it leaves it no other answer
pub data DoingTable : ℕ → List ℕ → ℕ → Doing → Type 0 where
  unknown : {code : ℕ} {«data» : List ℕ} {waiting : ℕ} → (Known code → ⊥) → DoingTable code «data» waiting (Nack 2)
  with_data : {code : ℕ} {«data» : List ℕ} {waiting : ℕ} → Known code → («data» ≡ [] → ⊥) → DoingTable code «data» waiting (Nack 3)
  none_to_read : DoingTable 0x10 [] 0 (Nack 4)
  none_to_delete : DoingTable 0x11 [] 0 (Nack 4)
  reads : {waiting : ℕ} → (waiting ≡ 0 → ⊥) → DoingTable 0x10 [] waiting Read
  deletes : {waiting : ℕ} → (waiting ≡ 0 → ⊥) → DoingTable 0x11 [] waiting Delete
  restores : {waiting : ℕ} → DoingTable 0x12 [] waiting Restore
  clears : {waiting : ℕ} → DoingTable 0x13 [] waiting Clear

-- how many entries wait then: of those held, delete takes one from the waiting, restore makes all wait, and 13 takes all from them
abbrev pub waiting_after : ℕ → ℕ → Doing → ℕ
waiting_after held waiting Read = waiting
waiting_after held waiting Delete = waiting - 1
waiting_after held waiting Restore = held
waiting_after held waiting Clear = 0
waiting_after held waiting (Nack n) = waiting

-- the reply: to a read 12 bytes
abbrev pub reply_of : Log → Doing → Reply
reply_of log Read = DATA (oldest_waiting log)
reply_of log Delete = ACK
reply_of log Restore = ACK
reply_of log Clear = ACK
reply_of log (Nack n) = NACK n
