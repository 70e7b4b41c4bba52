-- What the theorems on sessions promise, demand 2 of a point reader: of calls that execute nothing, of a repeat, of a power-on, and of a
-- parameter that nobody writes. 01, The point reader, 'State' and steps 3 to 6; 02, L2. Assumes nothing.
use Rattle.std.specs.Prelude.{ℕ, ◌≡◌, Bool, true, false, List, take}
use Rattle.request_spec.specs.declared.parameter.Parameter.{Parameter}
use Rattle.reader_spec.specs.declared.reader.Reader.{Reader}
use Rattle.reader_spec.specs.State.{State, state_of}
use Rattle.reader_spec.specs.Sending.{Buffers}
use Rattle.reader_spec.specs.Answering.{Answered}
use Rattle.reader_spec.specs.Sessions.{History, remembers, Call, reader_after, bytes_sent, ReaderSession, left_of}

-- after calls that execute nothing the reader's state is the same, what is remembered of the store too if nobody else wrote to it, and the
-- same is told
pub record Same (alone : Bool) (h : History) (s : Reader) (held : List ℕ) (t : Reader) (kept : List ℕ) : Type 0 where
  pub session : ReaderSession false t kept h
  pub state : state_of t ≡ state_of s
  pub store : alone ≡ true → take (remembers h.last) kept ≡ take (remembers h.last) held

-- a call's answer has the state, and left the store, as they were before
pub record Unchanged (s : State) (lent : Buffers) (a : Answered) : Type 0 where
  pub state : a.state ≡ s
  pub store : a.left.store ≡ lent.store

-- a repeat changes no state and no byte of a buffer, and sends what the remembered bytes of the store hold at that moment
pub record Recalls {alone : Bool} {h : History} {s : Reader} {held : List ℕ} (c : Call alone h s held) : Type 0 where
  pub state : state_of (reader_after c) ≡ state_of s
  pub buffers : c.left ≡ c.lent
  pub sends : bytes_sent c ≡ take (remembers h.last) c.lent.store

-- a call that repeats another: it changes no state and no byte of a buffer, and sends what was sent when the command was executed
pub record Repeated {a b : Bool} {h k : History} {s t : Reader} {held kept : List ℕ} (first : Call a h s held) (again : Call b k t kept)
    : Type 0 where
  pub state : state_of (reader_after again) ≡ state_of (reader_after first)
  pub buffers : again.left ≡ again.lent
  pub sends : bytes_sent again ≡ bytes_sent first

-- after calls and power-ons that execute no write of a parameter its value is the same, but for a speed above 7 after a power-on
pub record KeptValue (alone : Bool) (p : Parameter) (h : History) (t : Reader) (kept : List ℕ) (k : History) (with_power : Bool) : Type 0 where
  pub session : ReaderSession alone t kept k
  pub value : k.value p ≡ left_of with_power p (h.value p)
