-- What becomes of each entry made: it waits, it is deleted but held, or it is dropped. 02, L3: a log holds the last 128 events made; delete removes one
-- from the waiting and 13 removes all, never from the held; restore makes all held ones wait; a new event in a full log drops the oldest.
-- Assumes nothing.
use Rattle.std.specs.Prelude.{ℕ, suc, cond, List, [], ◌∷◌, ◌++◌, map, leb, length, get_or}
use Rattle.std.proofs.Math.Option
use Rattle.std.proofs.Math.Option.{Option, none, some}
use Rattle.event_log_spec.specs.Limits.{most_held}

pub data Lot : Type 0 where
  WAITING DELETED DROPPED : Lot

-- The lots of all entries made, the first one first, so that an entry's number is its place: this one's.
abbrev pub lot_of : List Lot → ℕ → Lot
lot_of lots n = get_or lots n DROPPED

-- ---- a new entry

-- an entry is dropped as soon as 128 are newer
unfoldable pub outdated : List Lot → List Lot
outdated [] = []
outdated (lot ∷ newer) = cond (leb most_held (length newer)) DROPPED lot ∷ outdated newer

-- a new one waits
abbrev pub one_new : List Lot → List Lot
one_new lots = outdated (lots ++ (WAITING ∷ []))

-- ---- the commands

-- the oldest waiting one is deleted, if any waits
unfoldable pub one_deleted : List Lot → List Lot
one_deleted [] = []
one_deleted (WAITING ∷ newer) = DELETED ∷ newer
one_deleted (DELETED ∷ newer) = DELETED ∷ one_deleted newer
one_deleted (DROPPED ∷ newer) = DROPPED ∷ one_deleted newer

-- all that are held wait
abbrev pub restored : Lot → Lot
restored WAITING = WAITING
restored DELETED = WAITING
restored DROPPED = DROPPED

-- none waits
abbrev pub cleared : Lot → Lot
cleared WAITING = DELETED
cleared DELETED = DELETED
cleared DROPPED = DROPPED

abbrev pub all_restored : List Lot → List Lot
all_restored = map restored

abbrev pub all_cleared : List Lot → List Lot
all_cleared = map cleared

-- ---- the oldest waiting one

-- its number, if any waits
unfoldable pub first_waiting : List Lot → Option ℕ
first_waiting [] = none
first_waiting (WAITING ∷ newer) = some 0
first_waiting (DELETED ∷ newer) = Option.map suc (first_waiting newer)
first_waiting (DROPPED ∷ newer) = Option.map suc (first_waiting newer)
