-- A row is its head and what follows it; how long these are.
-- Assumes nothing.
use mathlib.Core.Path.{◌≡◌, refl, sym, ap, ◌∙◌}
use mathlib.Core.List.{List, [], ◌∷◌, ◌++◌, append_assoc}
use Prim.Native.Nat.{ℕ, ◌+◌, ◌*◌, ◌/◌, ◌≤◌, ◌<◌}
use native.Mathlib.Omega.{arith}
use lib.ListN.{length, length-append}
use Rattle.link_spec.specs.Events.{Name}
use Rattle.text.specs.Ascii.{ascii}
use Rattle.text.specs.Hex.{pairs}
use Rattle.text.proofs.Laws.Decimal.{length-decimal}
use Rattle.text.proofs.Laws.Hex.{length_pairs}
use Rattle.tape_spec.specs.declared.tape.Line.{Line}
use Rattle.tape_spec.specs.Limits.{most_records}
use Rattle.tape_spec.specs.Rows.{row, name_of}
use Rattle.tape_spec.proofs.Laws.Rows.{length-letter, length-name}
use Rattle.rows.specs.Heads.{most_head, head_of}

pub head-within : (n : ℕ) (line : Line) (event : Name) → n ≤ most_records → length (head_of n line event) ≤ most_head
head-within n line event few =
    let d = length-decimal n few in
    let l = length-letter line in
    let e = length-name event in
    simp length-append (omega arith)

-- the content that a row shows, and its end
abbrev pub tail : List ℕ → List ℕ
tail content = pairs content ++ ascii "\n"

pub row_is : (n : ℕ) (line : Line) (event : Name) (content : List ℕ)
    → head_of n line event ++ tail content ≡ row n line (name_of event) content
unfolding row
row_is n line event content = simp append_assoc

-- two letters at least, and three for each byte
pub data Tail (content : List ℕ) : Type 0 where
  none : length content ≡ 0 → length (tail content) ≡ 2 → Tail content
  some : 0 < length content → length (tail content) ≡ 3 * length content → Tail content

pub length-tail : (content : List ℕ) → Tail content
unfolding ascii pairs
length-tail [] = none refl refl
length-tail (b ∷ bs) = let e = length_pairs (b ∷ bs) (omega arith) in some (omega arith) (simp length-append (omega arith))

pub length-row : (n : ℕ) (line : Line) (event : Name) (content : List ℕ)
    → length (row n line (name_of event) content) ≡ length (head_of n line event) + length (tail content)
length-row n line event content =
    ap length (sym (row_is n line event content)) ∙ length-append (head_of n line event) (tail content)

-- a tail has room just where there are two places, and three for each byte
pub tail-fits : (content : List ℕ) (space : ℕ) → 2 ≤ space → length content ≤ space / 3 → length (tail content) ≤ space
tail-fits content space two three = go (length-tail content)
  where
    go : Tail content → length (tail content) ≤ space
    go (none e t) = omega arith
    go (some e t) = omega arith

pub tail-over : (content : List ℕ) (space : ℕ) → space / 3 < length content → space < length (tail content)
tail-over content space over = go (length-tail content)
  where
    go : Tail content → space < length (tail content)
    go (none e t) = absurd (omega arith)
    go (some e t) = omega arith

pub tail-some : (content : List ℕ) → 2 ≤ length (tail content)
tail-some content = go (length-tail content)
  where
    go : Tail content → 2 ≤ length (tail content)
    go (none e t) = omega arith
    go (some e t) = omega arith
