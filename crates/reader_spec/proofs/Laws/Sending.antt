-- The two buffers by their names, and the part of one that is sent.
-- Assumes nothing.
use mathlib.Core.Path.{◌≡◌, refl}
use mathlib.Core.List.{List, [], ◌++◌}
use mathlib.Mathlib.Logic.Function.Defs.{LeftInverse-Injective}
use Prim.Native.Nat.{ℕ, ◌≤◌}
use native.Mathlib.Omega.{arith}
use lib.ListN.{length, take, drop, length-append}
use lib.Seq.{take-append_seam}
use borrow.Author.Tests.{le-ltb}
use Rattle.ground.specs.Laying.{onto}
use Rattle.reader_spec.specs.declared.reader.Buffer.{Buffer}
use Rattle.reader_spec.specs.declared.reader.Buffer.TheVariants.{Out, Store}
use Rattle.reader_spec.specs.Sending.{BufferName, OUT, STORE, buffer_named, Buffers, buffers_of, sent}

-- the buffer with this name
abbrev pub buffer_with : BufferName → Buffer
buffer_with OUT = Out
buffer_with STORE = Store

pub buffer-back : (name : BufferName) → buffer_named (buffer_with name) ≡ name
buffer-back OUT = refl
buffer-back STORE = refl

-- so a buffer is known by its name
pub buffer-injective : (a b : Buffer) → buffer_named a ≡ buffer_named b → a ≡ b
buffer-injective = LeftInverse-Injective buffer_with buffer_named back
  where
    back : (b : Buffer) → buffer_with (buffer_named b) ≡ b
    back Out = refl
    back Store = refl

-- nothing of out is nothing
pub sent-none : (lent : Buffers) → sent OUT 0 lent ≡ []
unfolding sent
sent-none lent = rw (le-ltb (length lent.out) 0 (omega arith))

-- bytes put to the front of out are what is sent of it
pub sent-out : (bytes store out : List ℕ) → sent OUT (length bytes) (buffers_of store (onto bytes out)) ≡ bytes
unfolding sent
sent-out bytes store out =
    let rest = drop (length bytes) out in
    let long : length bytes ≤ length (bytes ++ rest) = simp length-append (omega arith) in
    rw (le-ltb (length (bytes ++ rest)) (length bytes) long) (take-append_seam bytes rest)

-- of the store its front is sent
pub sent-store : (n : ℕ) (lent : Buffers) → n ≤ length lent.store → sent STORE n lent ≡ take n lent.store
unfolding sent
sent-store n lent within = rw (le-ltb (length lent.store) n within)
