-- The lots of all entries made: first the dropped, then the deleted, then the waiting, whatever happens.
-- Assumes nothing.
use mathlib.Core.Path.{◌≡◌, refl, sym, ap, ap₂, ◌∙◌}
use mathlib.Core.Bool.{Bool, cond}
use mathlib.Core.List.{List, [], ◌∷◌, ◌++◌, map, append_assoc, append-nil}
use mathlib.Core.Option
use mathlib.Core.Option.{Option, none, some}
use Prim.Native.Nat.{ℕ, zero, suc, ◌+◌, ◌≤◌, ◌<◌}
use native.Mathlib.Numerals.{add-one}
use native.Mathlib.Omega.{arith}
use lib.Dec.{leb}
use lib.ListN.{length, replicate, length-append, length-replicate, get_or-replicate, replicate-append-replicate, get_or-append}
use lib.Seq.{get_or-append-add}
use borrow.Author.Tests.{le-leb, lt-leb}
use Rattle.ground.proofs.Laws.Choice.{by-test}
use Rattle.event_log_spec.specs.Limits.{most_held}
use Rattle.event_log_spec.specs.Lots.{Lot, WAITING, DELETED, DROPPED, lot_of, outdated, one_new, one_deleted, restored, cleared, all_restored, all_cleared, first_waiting}

-- so many of each
abbrev pub lots_of : ℕ → ℕ → ℕ → List Lot
lots_of dropped deleted waiting = replicate dropped DROPPED ++ (replicate deleted DELETED ++ replicate waiting WAITING)

pub length-lots : (a b c : ℕ) → length (lots_of a b c) ≡ a + (b + c)
length-lots a b c = simp (length-append, length-replicate)

-- ---- each one's lot

module _ (a b c : ℕ) where
  lot-after : (n : ℕ) → lot_of (lots_of a b c) (a + n) ≡ lot_of (replicate b DELETED ++ replicate c WAITING) n
  lot-after n =
      rw (ap (λ (k : ℕ). k + n) (sym (length-replicate a DROPPED))) (get_or-append-add (replicate a DROPPED) (replicate b DELETED ++ replicate c WAITING) n DROPPED)

  pub dropped-lot : (n : ℕ) → n < a → lot_of (lots_of a b c) n ≡ DROPPED
  dropped-lot n early =
      get_or-append (replicate a DROPPED) (replicate b DELETED ++ replicate c WAITING) DROPPED n (rw (length-replicate a DROPPED) early)
      ∙ get_or-replicate a n DROPPED DROPPED early

  pub deleted-lot : (n : ℕ) → n < b → lot_of (lots_of a b c) (a + n) ≡ DELETED
  deleted-lot n early =
      lot-after n
      ∙ get_or-append (replicate b DELETED) (replicate c WAITING) DROPPED n (rw (length-replicate b DELETED) early)
      ∙ get_or-replicate b n DELETED DROPPED early

  pub waiting-lot : (n : ℕ) → n < c → lot_of (lots_of a b c) (a + (b + n)) ≡ WAITING
  waiting-lot n early =
      lot-after (b + n)
      ∙ rw (ap (λ (k : ℕ). k + n) (sym (length-replicate b DELETED))) (get_or-append-add (replicate b DELETED) (replicate c WAITING) n DROPPED)
      ∙ get_or-replicate c n WAITING DROPPED early

-- ---- the oldest waiting one

pub first-none : (a b : ℕ) → first_waiting (lots_of a b 0) ≡ none
unfolding first_waiting
first-none zero zero = refl
first-none zero (suc b) = ap (Option.map suc) (first-none zero b)
first-none (suc a) b = ap (Option.map suc) (first-none a b)

pub first_some : (a b c : ℕ) → first_waiting (lots_of a b (suc c)) ≡ some (a + b)
unfolding first_waiting
first_some zero zero c = refl
first_some zero (suc b) c = ap (Option.map suc) (first_some zero b c) ∙ ap some (omega arith)
first_some (suc a) b c = ap (Option.map suc) (first_some a b c) ∙ ap some (omega arith)

-- ---- the commands

pub one-deleted : (a b c : ℕ) → one_deleted (lots_of a b (suc c)) ≡ lots_of a (suc b) c
unfolding one_deleted
one-deleted zero zero c = refl
one-deleted zero (suc b) c = ap (λ (l : List Lot). DELETED ∷ l) (one-deleted zero b c)
one-deleted (suc a) b c = ap (λ (l : List Lot). DROPPED ∷ l) (one-deleted a b c)

pub none-deleted : (a b : ℕ) → one_deleted (lots_of a b 0) ≡ lots_of a b 0
unfolding one_deleted
none-deleted zero zero = refl
none-deleted zero (suc b) = ap (λ (l : List Lot). DELETED ∷ l) (none-deleted zero b)
none-deleted (suc a) b = ap (λ (l : List Lot). DROPPED ∷ l) (none-deleted a b)

map-lots : (f : Lot → Lot) (a b c : ℕ) → map f (lots_of a b c) ≡ replicate a (f DROPPED) ++ (replicate b (f DELETED) ++ replicate c (f WAITING))
map-lots f zero zero zero = refl
map-lots f zero zero (suc c) = ap (λ (l : List Lot). f WAITING ∷ l) (map-lots f zero zero c)
map-lots f zero (suc b) c = ap (λ (l : List Lot). f DELETED ∷ l) (map-lots f zero b c)
map-lots f (suc a) b c = ap (λ (l : List Lot). f DROPPED ∷ l) (map-lots f a b c)

pub all-restored : (a b c : ℕ) → all_restored (lots_of a b c) ≡ lots_of a 0 (b + c)
all-restored a b c = map-lots restored a b c ∙ ap (λ (l : List Lot). replicate a DROPPED ++ l) (replicate-append-replicate b c WAITING)

pub all-cleared : (a b c : ℕ) → all_cleared (lots_of a b c) ≡ lots_of a (b + c) 0
all-cleared a b c =
    map-lots cleared a b c
    ∙ ap (λ (l : List Lot). replicate a DROPPED ++ l) (replicate-append-replicate b c DELETED ∙ sym (append-nil (replicate (b + c) DELETED)))

-- ---- a new entry

-- what is dropped stays so; of the last 128 none is dropped; the one before them is
dropped-stay : (a : ℕ) (lots : List Lot) → outdated (replicate a DROPPED ++ lots) ≡ replicate a DROPPED ++ outdated lots
unfolding outdated
dropped-stay zero lots = refl
dropped-stay (suc a) lots =
    ap₂ (λ (lot : Lot) (l : List Lot). lot ∷ l)
    (by-test (λ (t : Bool). cond t DROPPED DROPPED ≡ DROPPED) (leb most_held (length (replicate a DROPPED ++ lots))) (λ _. refl) (λ _. refl))
    (dropped-stay a lots)

young-stay : (lots : List Lot) → length lots ≤ most_held → outdated lots ≡ lots
unfolding outdated
young-stay [] few = refl
young-stay (lot ∷ newer) few =
    ap₂ (λ (l : Lot) (ls : List Lot). l ∷ ls) (rw (lt-leb most_held (length newer) few)) (young-stay newer (omega arith))

oldest-drops : (lot : Lot) (newer : List Lot) → length newer ≡ most_held → outdated (lot ∷ newer) ≡ DROPPED ∷ newer
unfolding outdated
oldest-drops lot newer full =
    ap₂ (λ (l : Lot) (ls : List Lot). l ∷ ls) (rw (le-leb most_held (length newer) (omega arith))) (young-stay newer (omega arith))

-- it stands last
stands-last : (a b c : ℕ) → lots_of a b c ++ (WAITING ∷ []) ≡ lots_of a b (suc c)
stands-last a b c =
    append_assoc (replicate a DROPPED) (replicate b DELETED ++ replicate c WAITING) (WAITING ∷ [])
    ∙ ap (λ (l : List Lot). replicate a DROPPED ++ l) (append_assoc (replicate b DELETED) (replicate c WAITING) (WAITING ∷ []))
    ∙ ap (λ (l : List Lot). replicate a DROPPED ++ (replicate b DELETED ++ l)) (replicate-append-replicate c 1 WAITING ∙ rw (add-one c))

-- one more is dropped
one-dropped : (a : ℕ) (lots : List Lot) → replicate a DROPPED ++ (DROPPED ∷ lots) ≡ replicate (suc a) DROPPED ++ lots
one-dropped zero lots = refl
one-dropped (suc a) lots = ap (λ (l : List Lot). DROPPED ∷ l) (one-dropped a lots)

-- a log that is not full holds one more; a full one drops the oldest, a deleted one if there is any
pub holds_more : (a b c : ℕ) → b + c < most_held → one_new (lots_of a b c) ≡ lots_of a b (suc c)
holds_more a b c few =
    ap outdated (stands-last a b c)
    ∙ dropped-stay a (replicate b DELETED ++ replicate (suc c) WAITING)
    ∙ ap (λ (l : List Lot). replicate a DROPPED ++ l)
    (young-stay (replicate b DELETED ++ replicate (suc c) WAITING) (omega (arith, length-lots 0 b (suc c))))

pub drops-deleted : (a b c : ℕ) → suc b + c ≡ most_held → one_new (lots_of a (suc b) c) ≡ lots_of (suc a) b (suc c)
drops-deleted a b c full =
    ap outdated (stands-last a (suc b) c)
    ∙ dropped-stay a (replicate (suc b) DELETED ++ replicate (suc c) WAITING)
    ∙ ap (λ (l : List Lot). replicate a DROPPED ++ l)
    (oldest-drops DELETED (replicate b DELETED ++ replicate (suc c) WAITING) (omega (arith, length-lots 0 b (suc c))))
    ∙ one-dropped a (replicate b DELETED ++ replicate (suc c) WAITING)

pub drops-waiting : (a c : ℕ) → c ≡ most_held → one_new (lots_of a 0 c) ≡ lots_of (suc a) 0 c
drops-waiting a c full =
    ap outdated (stands-last a 0 c)
    ∙ dropped-stay a (replicate (suc c) WAITING)
    ∙ ap (λ (l : List Lot). replicate a DROPPED ++ l) (oldest-drops WAITING (replicate c WAITING) (omega (arith, length-replicate c WAITING)))
    ∙ one-dropped a (replicate c WAITING)
