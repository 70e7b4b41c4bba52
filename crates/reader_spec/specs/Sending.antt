-- The two lent buffers, and the part of one of them that goes to the wire.
-- 01, The point reader, the last paragraph before 'Master's side'. Assumes nothing.
use Rattle.std.specs.Prelude.{ℕ, cond, List, [], ltb, length, take}
use Rattle.reader_spec.specs.declared.reader.Buffer.{Buffer}
use Rattle.reader_spec.specs.declared.reader.Buffer.TheVariants.{Out, Store}

-- the contents of both
pub record Buffers : Type 0 where
  pub store : List ℕ
  pub out : List ℕ

abbrev pub buffers_of : List ℕ → List ℕ → Buffers
buffers_of store out = record { store = store; out = out }

-- which of them is meant
pub data BufferName : Type 0 where
  OUT STORE : BufferName

abbrev pub buffer_named : Buffer → BufferName
buffer_named Out = OUT
buffer_named Store = STORE

-- the store on a repeat, the out buffer otherwise
abbrev pub chosen : BufferName → Buffers → List ℕ
chosen OUT lent = lent.out
chosen STORE lent = lent.store

-- the front part of the chosen one, empty where the length is beyond it
abbrev pub front_part : ℕ → List ℕ → List ℕ
front_part count bytes = cond (ltb (length bytes) count) [] (take count bytes)

unfoldable pub sent : BufferName → ℕ → Buffers → List ℕ
sent buffer count lent = front_part count (chosen buffer lent)
