-- The device header laid out: its name, then its numbers.
-- Assumes nothing.
use mathlib.Core.Path.{◌≡◌, sym, ap, ap₂, ◌∙◌}
use mathlib.Core.List.{List, [], ◌∷◌, ◌++◌, append_assoc}
use Prim.Native.Nat.{ℕ, ◌+◌, ◌*◌, ◌^◌, ◌≤◌, ◌<◌}
use native.Mathlib.Omega.{arith}
use lib.ListN.{length, drop, set, length-append}
use Rattle.std.proofs.lemmas.Nat.{from_le_bytes-to_le_bytes_4}
use Rattle.ground.specs.Laying.{laid}
use Rattle.ground.proofs.Laws.Laying.{laid-after, laid-front, laid-whole, set_after, set-two}
use Rattle.request_spec.specs.Limits.{header_length, name_length}
use Rattle.request_spec.specs.Header.{low_first, header}

pub set-four : (l : List ℕ) (at a b c d : ℕ) → at + 4 ≤ length l
    → set (set (set (set l at a) (at + 1) b) (at + 2) c) (at + 3) d ≡ laid l at (a ∷ b ∷ c ∷ d ∷ [])
set-four l at a b c d h =
    ap (λ (m : List ℕ). set (set m (at + 2) c) (at + 3) d) (set-two l at a b (omega arith))
    ∙ ap (λ (m : List ℕ). set m (at + 3) d) (set_after l at (a ∷ b ∷ []) c (omega arith))
    ∙ set_after l at (a ∷ b ∷ c ∷ []) d (omega arith)

-- what is laid after what stands in front stands there
pub laid-at-end : {m m' : List ℕ} (l x y : List ℕ) (at : ℕ) → m ≡ laid l 0 x → length x ≡ at → m' ≡ laid m at y → m' ≡ laid l 0 (x ++ y)
laid-at-end l x y at stood here lays = lays ∙ ap₂ (λ (m : List ℕ) (n : ℕ). laid m n y) stood (sym here) ∙ laid-after l x y

-- a name and five numbers, one after the other, are the header
pub header-laid : {a b c d e f : List ℕ} (bytes name : List ℕ) (kind version protocol serial flags : ℕ) → length name ≡ name_length
    → length bytes ≡ header_length
    → a ≡ name ++ drop name_length bytes
    → b ≡ laid a name_length (low_first kind)
    → c ≡ laid b 24 (low_first version)
    → d ≡ laid c 28 (low_first protocol)
    → e ≡ laid d 32 (low_first serial)
    → f ≡ laid e 36 (low_first flags)
    → f ≡ header name kind version protocol serial flags
unfolding header
header-laid {a} bytes name kind version protocol serial flags long sized named first second third fourth fifth =
    let with_kind = name ++ low_first kind in
    let with_version = with_kind ++ low_first version in
    let with_protocol = with_version ++ low_first protocol in
    let with_serial = with_protocol ++ low_first serial in
    let whole = with_serial ++ low_first flags in
    let k : length with_kind ≡ 24 = simp length-append (omega arith) in
    let v : length with_version ≡ 28 = simp length-append (omega arith) in
    let p : length with_protocol ≡ 32 = simp length-append (omega arith) in
    let s : length with_serial ≡ 36 = simp length-append (omega arith) in
    let f : length whole ≡ 40 = simp length-append (omega arith) in
    let front : a ≡ laid bytes 0 name = named ∙ ap (λ (n : ℕ). name ++ drop n bytes) (sym long) ∙ sym (laid-front bytes name) in
    laid-at-end bytes with_serial (low_first flags) 36
    (laid-at-end bytes with_protocol (low_first serial) 32 (laid-at-end bytes with_version (low_first protocol) 28
    (laid-at-end bytes with_kind (low_first version) 24
    (laid-at-end bytes name (low_first kind) name_length front long first) k second) v third)
    p fourth) s fifth
    ∙ laid-whole bytes whole (omega arith)
    ∙ simp append_assoc

-- it has 40 bytes
pub length-header : (name : List ℕ) (kind version protocol serial flags : ℕ) → length name ≡ name_length
    → length (header name kind version protocol serial flags) ≡ header_length
unfolding header
length-header name kind version protocol serial flags long = simp length-append (omega arith)

-- and a number of 32 bits comes back from its four bytes, each worth 256 times the one before it
abbrev number : List ℕ → ℕ
number [] = 0
number (b ∷ more) = b + 0x100 * number more

pub low-first-back : (n : ℕ) → n < 2 ^ 32 → number (low_first n) ≡ n
low-first-back n fits = omega (arith, from_le_bytes-to_le_bytes_4 n fits)
