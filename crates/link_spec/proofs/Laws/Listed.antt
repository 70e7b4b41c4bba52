-- What crew and desk ask of a listing: every frame that a writer wrote is listed wherever it stands, and every listed frame is byte for
-- byte the image of what its content says.
-- Assumes nothing.
use mathlib.Core.Path.{◌≡◌, refl, sym, ap, subst, subst⁻¹, ◌∙◌}
use mathlib.Core.Bool.{Bool, true, false}
use mathlib.Core.List.{List, [], ◌∷◌, ◌++◌, Memᴰ}
use mathlib.Core.Logic.Iff
use Prim.Native.Nat.{ℕ, ◌+◌, ◌≤◌}
use native.Mathlib.Omega.{arith}
use lib.ListN.{length, take, drop}
use lib.Seq.{take-append_seam}
use Rattle.std.specs.Prelude.{Result}
use Rattle.ground.specs.declared.refusal.Refusal.{Refusal}
use Rattle.ground.specs.Refusals.{tally}
use Rattle.checks.specs.declared.kind.Check.TheVariants.{Fcs, Sum}
use Rattle.checks.specs.Check.{with_check}
use Rattle.checks.proofs.Laws.Check.{length-with_check}
use Rattle.wire_spec.specs.Limits.{most_content}
use Rattle.wire_spec.specs.Image.{image}
use Rattle.wire_spec.specs.Writing.{After, after}
use Rattle.link_spec.specs.declared.station.Station.{Station}
use Rattle.link_spec.specs.declared.station.Station.TheVariants.{Point, Addressed}
use Rattle.link_spec.specs.declared.receiver.Receiver.{Receiver}
use Rattle.link_spec.specs.Limits.{least_content, most_data}
use Rattle.link_spec.specs.Address.{is_never, takes}
use Rattle.link_spec.specs.Station.{checked, has_address, AddressTaken}
use Rattle.link_spec.specs.Frame.{point_content, addressed_content}
use Rattle.link_spec.specs.Writers.{written_unless, point_written, addressed_written, WriterTable, too_long, bad_address, no_room, frame}
use Rattle.link_spec.specs.Events.{FRAME}
use Rattle.link_spec.specs.Hearing.{Told, told_at, IsFresh, Hearing}
use Rattle.link_spec.specs.Fields.{Fields, on_point, on_addressed, IsImage}
use Rattle.link_spec.proofs.Laws.Address.{takes-lt}
use Rattle.link_spec.proofs.Laws.Frame.{length-point, length-addressed}
use Rattle.link_spec.proofs.Laws.Writers.{by-table, point-writes, addressed-writes}
use Rattle.link_spec.proofs.Laws.Fresh.{fresh-begins}
use Rattle.link_spec.proofs.Laws.Demand.{hearing-lists}

-- ---- what the crew asks

-- what a writer that refused nothing has written
record Wrote («data» content : List ℕ) (w : After) : Type 0 where
  fits : length «data» ≤ most_data
  bytes : take w.tally.count w.out ≡ image content
  counts : w.tally.count ≡ length (image content)

table-wrote : {Refused : Type 0} {«data» content out : List ℕ} {w : After} → WriterTable Refused «data» content out w → w.tally.refusal ≡ 0
    → Wrote «data» content w
table-wrote (too_long long) none = absurd (omega arith)
table-wrote (bad_address fits bad) none = absurd (omega arith)
table-wrote (no_room fits good short) none = absurd (omega arith)
table-wrote {content} {out} (frame fits good room) none =
    record { fits = fits; bytes = take-append_seam (image content) (drop (length (image content)) out); counts = refl }

wrote : (never : Bool) («data» content out : List ℕ) (r : Result ℕ Refusal) {out' : List ℕ} → after r out' ≡ written_unless never «data» content out
    → (tally r).refusal ≡ 0
    → Wrote «data» content (after r out')
wrote never «data» content out r says none =
    subst⁻¹ (Wrote «data» content) says
    (table-wrote (by-table never Iff.rfl «data» content out) (sym (ap (λ (a : After). a.tally.refusal) says) ∙ none))

-- the image of a content with its check, put anywhere into any stream, is listed there
image-listed : (station : Station) (front «data» before rest : List ℕ) → length (checked station front) ≡ least_content + length «data»
    → length «data» ≤ most_data
    → AddressTaken station (checked station front)
    → {s : Receiver} {all : List Told}
    → IsFresh station s
    → let bytes = image (checked station front) in
    Hearing (before ++ (bytes ++ rest)) s 0 all
    → Memᴰ (told_at (length before + length bytes) FRAME front) all
image-listed station front «data» before rest long fits taken fr h =
    (hearing-lists fr h).each (length before + length (image (checked station front))) front
    (record { before = before; after = rest; split = refl; ends = refl; least = omega arith; most = omega arith; address = taken })

-- the same of each line's frames, whoever wrote them
pub point-image-listed : (identifier command : ℕ) («data» before rest : List ℕ) {s : Receiver} {all : List Told}
    → length «data» ≤ most_data
    → IsFresh Point s
    → let bytes = image (point_content identifier command «data») in
    Hearing (before ++ (bytes ++ rest)) s 0 all
    → Memᴰ (told_at (length before + length bytes) FRAME (identifier ∷ command ∷ «data»)) all
unfolding point_content
point-image-listed identifier command «data» before rest fits =
    image-listed Point (identifier ∷ command ∷ «data») «data» before rest (length-point identifier command «data») fits tt

pub addressed-image-listed : (own address identifier command : ℕ) («data» before rest : List ℕ) {s : Receiver} {all : List Told}
    → length «data» ≤ most_data
    → takes own address ≡ true
    → IsFresh (Addressed own) s
    → let bytes = image (addressed_content address identifier command «data») in
    Hearing (before ++ (bytes ++ rest)) s 0 all
    → Memᴰ (told_at (length before + length bytes) FRAME (address ∷ identifier ∷ command ∷ «data»)) all
unfolding addressed_content with_check
addressed-image-listed own address identifier command «data» before rest fits taken =
    image-listed (Addressed own) (address ∷ identifier ∷ command ∷ «data») «data» before rest
    (length-addressed address identifier command «data») fits taken

-- so every image that a writer wrote, put anywhere into any stream, is listed there with what was written
wrote-listed : {«data» content : List ℕ} {w : After} (front before rest : List ℕ) {s : Receiver} {all : List Told}
    → Wrote «data» content w
    → (length «data» ≤ most_data → Hearing (before ++ (image content ++ rest)) s 0 all
    → Memᴰ (told_at (length before + length (image content)) FRAME front) all)
    → Hearing (before ++ (take w.tally.count w.out ++ rest)) s 0 all
    → Memᴰ (told_at (length before + w.tally.count) FRAME front) all
wrote-listed front before rest {s} {all} w listed h =
    rw w.counts (listed w.fits (subst (λ (l : List ℕ). Hearing (before ++ (l ++ rest)) s 0 all) w.bytes h))

pub point-listed : (r : Result ℕ Refusal) (identifier command : ℕ) («data» out out' before rest : List ℕ) {s : Receiver} {all : List Told}
    → after r out' ≡ point_written identifier command «data» out
    → (tally r).refusal ≡ 0
    → IsFresh Point s
    → Hearing (before ++ (take (tally r).count out' ++ rest)) s 0 all
    → Memᴰ (told_at (length before + (tally r).count) FRAME (identifier ∷ command ∷ «data»)) all
unfolding point_written
point-listed r identifier command «data» out out' before rest says none fr =
    wrote-listed (identifier ∷ command ∷ «data») before rest (wrote false «data» (point_content identifier command «data») out r says none)
    (λ fits. point-image-listed identifier command «data» before rest fits fr)

pub addressed-listed : (r : Result ℕ Refusal) (own address identifier command : ℕ)
    («data» out out' before rest : List ℕ) {s : Receiver} {all : List Told}
    → after r out' ≡ addressed_written address identifier command «data» out
    → (tally r).refusal ≡ 0
    → takes own address ≡ true
    → IsFresh (Addressed own) s
    → Hearing (before ++ (take (tally r).count out' ++ rest)) s 0 all
    → Memᴰ (told_at (length before + (tally r).count) FRAME (address ∷ identifier ∷ command ∷ «data»)) all
unfolding addressed_written
addressed-listed r own address identifier command «data» out out' before rest says none taken fr =
    wrote-listed (address ∷ identifier ∷ command ∷ «data») before rest
    (wrote (is_never address) «data» (addressed_content address identifier command «data») out r says none)
    (λ fits. addressed-image-listed own address identifier command «data» before rest fits taken fr)

-- ---- what the desk asks

-- a content of 4 to 64 bytes has all that its line's frames have, and the writer writes it
fields : (station : Station) → has_address station ≡ true → (front : List ℕ) → least_content ≤ length (checked station front)
    → length (checked station front) ≤ most_content → AddressTaken station (checked station front)
    → Fields station front (checked station front)
unfolding with_check point_content addressed_content
fields Point good [] least most taken = absurd (omega (arith, length-with_check Fcs []))
fields Point good (a ∷ []) least most taken = absurd (omega (arith, length-with_check Fcs (a ∷ [])))
fields Point good (identifier ∷ command ∷ «data») least most taken =
    on_point identifier command «data»
    (λ out room. point-writes identifier command «data» out (omega (arith, length-point identifier command «data»)) room)
fields (Addressed own) good [] least most taken = absurd (omega (arith, length-with_check Sum []))
fields (Addressed own) good (a ∷ []) least most taken = absurd (omega (arith, length-with_check Sum (a ∷ [])))
fields (Addressed own) good (a ∷ b ∷ []) least most taken = absurd (omega (arith, length-with_check Sum (a ∷ b ∷ [])))
fields (Addressed own) good (address ∷ identifier ∷ command ∷ «data») least most taken =
    on_addressed address identifier command «data» taken
    (λ out room. addressed-writes address identifier command «data» out (omega (arith, takes-lt own address good taken))
    (omega (arith, length-addressed address identifier command «data»)) room)

-- every listed frame is the image that the writer writes of what it lists, byte for byte
pub listed-image : {station : Station} {s : Receiver} {stream : List ℕ} {all : List Told} → IsFresh station s → Hearing stream s 0 all
    → (place : ℕ) (front : List ℕ) → Memᴰ (told_at place FRAME front) all → IsImage station stream place front
listed-image {station} fr h place front m =
    let s = (hearing-lists fr h).only place front m in
    record { stands = s; fields = fields station (fresh-begins fr).good front s.least s.most s.address }
