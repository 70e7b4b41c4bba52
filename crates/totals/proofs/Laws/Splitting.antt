-- How a part of a tape is split: what is left of it, after the bytes so far, gives what all of it gives.
-- Assumes nothing.
use mathlib.Core.Path.{◌≡◌, sym, ap, ap₂, ◌∙◌}
use mathlib.Core.Bool.{true}
use mathlib.Core.List.{List, [], ◌∷◌, ◌++◌, append_assoc, append-nil}
use Prim.Native.Nat.{ℕ, suc, ◌+◌, ◌*◌, ◌-◌, ◌≤◌, ◌<◌}
use native.Mathlib.Nat.{add-zero}
use native.Mathlib.Numerals.{add-one}
use native.Mathlib.Omega.{arith}
use borrow.Author.Tests.{eq-eqb, ne_eqb}
use lib.ListN.{length, take, drop, set, get_or, length-set, drop_of_length-le}
use lib.Seq.{take-suc-set}
use Rattle.ground.proofs.Laws.Lists.{drop-next}
use Rattle.tape_spec.specs.declared.tape.Line.{Line}
use Rattle.tape_spec.specs.declared.tape.Line.TheVariants.{Point, Addressed}
use Rattle.tape_spec.specs.declared.tape.Next.{Next}
use Rattle.tape_spec.specs.declared.tape.Next.TheVariants.{Kind, Body}
use Rattle.tape_spec.specs.Limits.{most_records}
use Rattle.tape_spec.specs.Whole.{heard_on, kind_of, kind}
use Rattle.tape_spec.specs.Frames.{byte_on, bytes_on}
use Rattle.tape_spec.specs.Taping.{after_kind, is_over}
use Rattle.tape_spec.proofs.Laws.Whole.{kind-known}
use Rattle.totals_spec.specs.Adding.{Chunk, chunk_of}
use Rattle.totals_spec.proofs.Laws.Chunks.{no_record}
use Rattle.totals.specs.Splitting.{Pieces, pieces, parted_in, split_on}

-- ---- what follows a kind

after-known : (line : Line) (n : ℕ) → n < most_records → after_kind n (kind_of line) ≡ Body line
unfolding after_kind
after-known line n few = rw (ne_eqb n most_records (λ e. absurd (omega arith)), kind-known line)

-- nothing further is read after the last permitted record, nor after an unknown kind
pub over-full : (n k : ℕ) → n ≡ most_records → is_over (after_kind n k) ≡ true
unfolding after_kind
over-full n k full = rw (eq-eqb n most_records full)

pub over-unknown : (n k : ℕ) → n < most_records → (k ≡ kind_of Point → ⊥) → (k ≡ kind_of Addressed → ⊥) → is_over (after_kind n k) ≡ true
unfolding after_kind kind
over-unknown n k few point addressed =
    rw (ne_eqb n most_records (λ e. absurd (omega arith)), ne_eqb k (kind_of Point) point, ne_eqb k (kind_of Addressed) addressed)

-- ---- a part's bytes

-- no record
splits-none : (n : ℕ) (next : Next) (l p a : List ℕ) → chunk_of n next l ≡ no_record next → split_on n next l p a ≡ pieces n next p a
unfolding bytes_on
splits-none n next l p a none =
    ap (λ (c : Chunk). pieces (n + length c.records) c.next (p ++ bytes_on Point c.records) (a ++ bytes_on Addressed c.records)) none
    ∙ (λ i. pieces (add-zero n i) next (append-nil p i) (append-nil a i))

-- where nothing is left there is none
pub none_left : (n : ℕ) (next : Next) (l : List ℕ) (k : ℕ) → length l ≤ k → chunk_of n next (drop k l) ≡ no_record next
unfolding chunk_of
none_left n next l k over = ap (chunk_of n next) (drop_of_length-le l over)

-- so a call that found none heard no byte
pub none-heard : (n : ℕ) (next : Next) (l point addressed : List ℕ) → chunk_of n next l ≡ no_record next
    → parted_in (record { records = n; next = next; point = 0; addressed = 0 }) point addressed ≡ split_on n next l [] []
none-heard n next l point addressed none = sym (splits-none n next l [] [] none)

-- a body
splits-body : (line : Line) (n b : ℕ) (l p a : List ℕ)
    → split_on (n + 1) Kind l (p ++ byte_on Point (heard_on line b)) (a ++ byte_on Addressed (heard_on line b)) ≡ split_on n (Body line) (b ∷ l) p a
unfolding chunk_of bytes_on
splits-body line n b l p a =
    let c = chunk_of (n + 1) Kind l in
    let r = heard_on line b in
    let far : n + 1 + length c.records ≡ n + suc (length c.records) = omega arith in
    λ i. pieces (far i) c.next (append_assoc p (byte_on Point r) (bytes_on Point c.records) i)
    (append_assoc a (byte_on Addressed r) (bytes_on Addressed c.records) i)

-- a part that begins with one
pub after-body : (line : Line) (n b : ℕ) (rest : List ℕ) {part : List ℕ} {next : Next} {p a : List ℕ} → part ≡ b ∷ rest → next ≡ Body line
    → p ≡ byte_on Point (heard_on line b) → a ≡ byte_on Addressed (heard_on line b)
    → split_on (n + 1) Kind rest p a ≡ split_on n next part [] []
after-body line n b rest begins told p a =
    (λ i. split_on (n + 1) Kind rest (p i) (a i))
    ∙ splits-body line n b rest [] []
    ∙ ap₂ (λ (x : Next) (l : List ℕ). split_on n x l [] []) (sym told) (sym begins)

-- a record
splits-record : (line : Line) (n b : ℕ) (l p a : List ℕ) → n < most_records
    → split_on (n + 1) Kind l (p ++ byte_on Point (heard_on line b)) (a ++ byte_on Addressed (heard_on line b))
    ≡ split_on n Kind (kind_of line ∷ b ∷ l) p a
unfolding chunk_of
splits-record line n b l p a few =
    splits-body line n b l p a ∙ ap (λ (x : Next). split_on n x (b ∷ l) p a) (sym (after-known line n few))

-- ---- record by record

-- a byte more at the front
take_more : (l : List ℕ) (i b : ℕ) → i < length l → take (i + 1) (set l i b) ≡ take i l ++ (b ∷ [])
take_more l i b fits = rw (add-one i) (take-suc-set l i b fits)

module _ (records : ℕ) (rest : List ℕ) (all : Pieces) where
  -- after so many records of the rest, with these bytes at the front of either buffer, which have room for what is left
  pub record Splits (count on_point : ℕ) (point : List ℕ) (on_addressed : ℕ) (addressed : List ℕ) : Type 0 where
    pub point_room : 2 * on_point + (length rest - 2 * count) ≤ 2 * length point + 1
    pub addressed_room : 2 * on_addressed + (length rest - 2 * count) ≤ 2 * length addressed + 1
    pub same : split_on (records + count) Kind (drop (2 * count) rest) (take on_point point) (take on_addressed addressed) ≡ all

  module _ {count on_point : ℕ} {point : List ℕ} {on_addressed : ℕ} {addressed : List ℕ}
      (splits : Splits count on_point point on_addressed addressed) where
    -- the bytes of either line
    abbrev split : ℕ → Next → List ℕ → Pieces
    split n next l = split_on n next l (take on_point point) (take on_addressed addressed)

    -- nothing is left
    pub at-end : length rest ≤ 2 * count → pieces (records + count) Kind (take on_point point) (take on_addressed addressed) ≡ all
    at-end over =
        sym (splits-none (records + count) Kind (drop (2 * count) rest) (take on_point point) (take on_addressed addressed)
        (none_left (records + count) Kind rest (2 * count) over))
        ∙ splits.same

    -- a kind is left, after which either nothing stands or nothing is read
    pub at-kind : 2 * count < length rest
        → let next = after_kind (records + count) (get_or rest (2 * count) 0) in
        chunk_of (records + count) next (drop (2 * count + 1) rest) ≡ no_record next
        → pieces (records + count) next (take on_point point) (take on_addressed addressed) ≡ all
    unfolding chunk_of
    at-kind more none =
        let next = after_kind (records + count) (get_or rest (2 * count) 0) in
        sym (splits-none (records + count) next (drop (2 * count + 1) rest) (take on_point point) (take on_addressed addressed) none)
        ∙ ap (split (records + count) Kind) (sym (drop-next rest (2 * count) more))
        ∙ splits.same

    -- a record more
    module _ (line : Line) (more : 2 * count + 1 < length rest) (few : records + count < most_records)
        (known : get_or rest (2 * count) 0 ≡ kind_of line) where
      abbrev body : ℕ
      body = get_or rest (2 * count + 1) 0

      record-more : {p a : List ℕ} → p ≡ take on_point point ++ byte_on Point (heard_on line body)
          → a ≡ take on_addressed addressed ++ byte_on Addressed (heard_on line body)
          → split_on (records + (count + 1)) Kind (drop (2 * (count + 1)) rest) p a ≡ all
      record-more p a =
          let l = drop (2 * count + 1 + 1) rest in
          let one : records + (count + 1) ≡ records + count + 1 = omega arith in
          let two : 2 * (count + 1) ≡ 2 * count + 1 + 1 = omega arith in
          (λ i. split_on (one i) Kind (drop (two i) rest) (p i) (a i))
          ∙ splits-record line (records + count) body l (take on_point point) (take on_addressed addressed) few
          ∙ ap₂ (λ (k : ℕ) (x : List ℕ). split (records + count) Kind (k ∷ x)) (sym known) (sym (drop-next rest (2 * count + 1) more))
          ∙ ap (split (records + count) Kind) (sym (drop-next rest (2 * count) (omega arith)))
          ∙ splits.same

    -- a byte more on either line
    module _ (more : 2 * count + 1 < length rest) (few : records + count < most_records) where
      pub point-more : get_or rest (2 * count) 0 ≡ kind_of Point
          → Splits (count + 1) (on_point + 1) (set point on_point (get_or rest (2 * count + 1) 0)) on_addressed addressed
      point-more known =
          let b = get_or rest (2 * count + 1) 0 in
          record {
            point_room = simp length-set (omega arith);
            addressed_room = omega arith;
            same =
                record-more Point more few known (take_more point on_point b (omega arith)) (sym (append-nil (take on_addressed addressed)));
          }

      pub addressed-more : get_or rest (2 * count) 0 ≡ kind_of Addressed
          → Splits (count + 1) on_point point (on_addressed + 1) (set addressed on_addressed (get_or rest (2 * count + 1) 0))
      addressed-more known =
          let b = get_or rest (2 * count + 1) 0 in
          record {
            point_room = omega arith;
            addressed_room = simp length-set (omega arith);
            same =
                record-more Addressed more few known (sym (append-nil (take on_point point))) (take_more addressed on_addressed b (omega arith));
          }
