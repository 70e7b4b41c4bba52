-- The writers answer by the refusal table, and write the image of every frame that no row of it names.
-- Assumes nothing.
use mathlib.Core.Path.{◌≡◌, refl, sym, ◌∙◌}
use mathlib.Core.Bool.{Bool, true, false, true≢false, false≢true, not-eq-not}
use mathlib.Core.List.{List}
use mathlib.Core.Logic.{◌↔◌}
use Prim.Native.Nat.{ℕ, ◌≤◌, ◌<◌}
use native.Mathlib.Omega.{arith}
use lib.Dec.{ltb}
use lib.ListN.{length}
use borrow.Author.Tests.{ltb-true, ltb-false, lt-ltb, le-ltb}
use Rattle.ground.specs.declared.refusal.Refusal.TheVariants.{NoRoom, TooLong, BadAddress}
use Rattle.ground.specs.Refusals.{Keeps}
use Rattle.ground.proofs.Laws.Choice.{cond-elim}
use Rattle.wire_spec.specs.Image.{image}
use Rattle.wire_spec.specs.Writing.{After, not_written, putting, image_written}
use Rattle.wire_spec.proofs.Laws.Stuffing.{plain-is}
use Rattle.wire_spec.proofs.Laws.Writing.{written-short, written-whole, written_keeps as image-keeps}
use Rattle.link_spec.specs.Limits.{most_data}
use Rattle.link_spec.specs.Address.{is_never}
use Rattle.link_spec.specs.Frame.{point_content, addressed_content}
use Rattle.link_spec.specs.Writers.{written_unless, point_written, addressed_written, WriterTable, too_long, bad_address, no_room, frame, PointTable, AddressedTable}
use Rattle.link_spec.proofs.Laws.Address.{never-is}

module _ (never : Bool) («data» content out : List ℕ) where
  -- ---- when: each row, and the frame where no row applies

  pub refuses-length : most_data < length «data» → written_unless never «data» content out ≡ not_written TooLong out
  unfolding written_unless
  refuses-length long = rw (lt-ltb most_data (length «data») long)

  pub refuses-address : length «data» ≤ most_data → never ≡ true → written_unless never «data» content out ≡ not_written BadAddress out
  unfolding written_unless
  refuses-address fits bad = rw (le-ltb most_data (length «data») fits, bad)

  pub goes_on : length «data» ≤ most_data → never ≡ false → written_unless never «data» content out ≡ image_written content out
  unfolding written_unless
  goes_on fits good = rw (le-ltb most_data (length «data») fits, good)

  pub refuses-room : length «data» ≤ most_data → never ≡ false → length out < length (image content)
      → written_unless never «data» content out ≡ not_written NoRoom out
  refuses-room fits good short = goes_on fits good ∙ written-short content out short

  pub writes : length «data» ≤ most_data → never ≡ false → length (image content) ≤ length out
      → written_unless never «data» content out ≡ putting content out
  writes fits good room = goes_on fits good ∙ written-whole content out room

  -- a refused call leaves the buffer as before
  written_keeps : Keeps (written_unless never «data» content out).tally.refusal out (written_unless never «data» content out).out
  unfolding written_unless
  written_keeps =
      cond-elim P (ltb most_data (length «data»)) (λ t refused. refl)
      (λ f. cond-elim P never (λ t refused. refl) (λ g. image-keeps content out))
    where
      P : After → Type 0
      P a = Keeps a.tally.refusal out a.out

-- ---- and only then: of the answer that was given, the row's conditions hold

module _ {Refused : Type 0} (never : Bool) (is : (never ≡ true) ↔ Refused) («data» content out : List ℕ) where
  pub by-table : WriterTable Refused «data» content out (written_unless never «data» content out)
  unfolding written_unless image_written
  by-table =
      cond-elim P (ltb most_data (length «data»)) (λ t. too_long (ltb-true most_data (length «data») t))
      (λ f. let fits = ltb-false most_data (length «data») f in
      cond-elim P never (λ bad. bad_address fits (is.0 bad))
      (λ good. let none : Refused → ⊥ = λ r. true≢false (sym (is.1 r) ∙ good) in
      cond-elim P (ltb (length out) (length (image content)))
      (λ t. no_room fits none (ltb-true (length out) (length (image content)) t))
      (λ g. frame fits none (ltb-false (length out) (length (image content)) g))))
    where
      P : After → Type 0
      P = WriterTable Refused «data» content out

  -- so the table has one answer for each input
  good-is : (Refused → ⊥) → never ≡ false
  good-is none = (not-eq-not {b = false}).0 (λ bad. none (is.0 bad))

  pub table-only : {w : After} → WriterTable Refused «data» content out w → w ≡ written_unless never «data» content out
  table-only (too_long long) = sym (refuses-length never «data» content out long)
  table-only (bad_address fits bad) = sym (refuses-address never «data» content out fits (is.1 bad))
  table-only (no_room fits good short) = sym (refuses-room never «data» content out fits (good-is good) short)
  table-only (frame fits good room) = sym (writes never «data» content out fits (good-is good) room)

-- ---- the same of each writer

no_address : (false ≡ true) ↔ ⊥
no_address = (λ e. false≢true e, λ none. absurd none)

module _ (identifier command : ℕ) («data» out : List ℕ) where
  pub point-by-table : PointTable identifier command «data» out (point_written identifier command «data» out)
  unfolding point_written
  point-by-table = by-table false no_address «data» (point_content identifier command «data») out

  pub point-only : {w : After} → PointTable identifier command «data» out w → w ≡ point_written identifier command «data» out
  unfolding point_written
  point-only = table-only false no_address «data» (point_content identifier command «data») out

  pub point-keeps : Keeps (point_written identifier command «data» out).tally.refusal out (point_written identifier command «data» out).out
  unfolding point_written
  point-keeps = written_keeps false «data» (point_content identifier command «data») out

  -- data within the limit leaves only the room to be refused
  pub point-goes-on : length «data» ≤ most_data
      → point_written identifier command «data» out ≡ image_written (point_content identifier command «data») out
  unfolding point_written
  point-goes-on fits = goes_on false «data» (point_content identifier command «data») out fits refl

  pub point-writes : length «data» ≤ most_data → length (image (point_content identifier command «data»)) ≤ length out
      → point_written identifier command «data» out ≡ putting (point_content identifier command «data») out
  unfolding point_written
  point-writes fits room = writes false «data» (point_content identifier command «data») out fits refl room

module _ (address identifier command : ℕ) («data» out : List ℕ) where
  pub addressed-by-table : AddressedTable address identifier command «data» out (addressed_written address identifier command «data» out)
  unfolding addressed_written
  addressed-by-table = by-table (is_never address) (never-is address) «data» (addressed_content address identifier command «data») out

  pub addressed-only : {w : After} → AddressedTable address identifier command «data» out w
      → w ≡ addressed_written address identifier command «data» out
  unfolding addressed_written
  addressed-only = table-only (is_never address) (never-is address) «data» (addressed_content address identifier command «data») out

  pub addressed-keeps : Keeps (addressed_written address identifier command «data» out).tally.refusal out
      (addressed_written address identifier command «data» out).out
  unfolding addressed_written
  addressed-keeps = written_keeps (is_never address) «data» (addressed_content address identifier command «data») out

  -- the writer writes for any address 00..FC
  pub addressed-writes : address ≤ 0xFC
      → length «data» ≤ most_data
      → length (image (addressed_content address identifier command «data»)) ≤ length out
      → addressed_written address identifier command «data» out ≡ putting (addressed_content address identifier command «data») out
  unfolding addressed_written
  addressed-writes known fits room =
      writes (is_never address) «data» (addressed_content address identifier command «data») out fits (plain-is address (omega arith)) room
