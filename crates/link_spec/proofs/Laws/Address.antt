-- Each byte is just one of the four kinds of address, and what follows for stations: computed for all bytes by one test.
-- Assumes nothing.
use mathlib.Core.Bool.{Bool, true, false, cond, not, ◌&&◌, ◌||◌, beq, and-true, not-eq-not}
use mathlib.Core.Path.{◌≡◌, refl, sym, ◌∙◌}
use mathlib.Core.Logic.{◌↔◌}
use Prim.Native.Nat.{ℕ, ◌+◌, ◌≤◌, ◌<◌}
use native.Mathlib.Decide.{dec_le}
use native.Mathlib.Omega.{arith}
use lib.Dec.{eqb, leb}
use lib.ListN.{replicate, get_or-replicate}
use borrow.Author.Tests.{eqb-true, le-leb, not-false}
use Rattle.ground.proofs.Laws.Choice.{cond-elim, or_elim, between-true, no-case}
use Rattle.ground.proofs.Laws.Table.{lists, entry}
use Rattle.wire_spec.specs.Stuffing.{special}
use Rattle.wire_spec.proofs.Laws.Stuffing.{plain-is, special-is}
use Rattle.link_spec.specs.Address.{is_master, is_broadcast, is_own, is_never, is_station, takes, Never, NoStation, broadcast, never}

-- what the test finds of every byte holds of each
each-byte : (f : ℕ → ℕ) → lists f 0 (replicate 0x100 1) ≡ true → (a : ℕ) → a < 0x100 → f a ≡ 1
each-byte f test a h = sym (entry f {table = replicate 0x100 1} a h (record { test = test })) ∙ get_or-replicate 0x100 a 1 0 h

abbrev pub kinds : ℕ → ℕ
kinds a = cond (is_master a) 1 0 + cond (is_broadcast a) 1 0 + cond (is_own a) 1 0 + cond (is_never a) 1 0

pub one-kind : (a : ℕ) → a < 0x100 → kinds a ≡ 1
one-kind = each-byte kinds refl

-- two tests agree
beq_same : (s t : Bool) → ◌≡◌ {A = ℕ} (cond (beq s t) 1 0) 1 → s ≡ t
beq_same true true e = refl
beq_same true false e = no-case e
beq_same false true e = no-case e
beq_same false false e = refl

-- and so do they at each byte, if they do at all of them
same_tests : (s t : ℕ → Bool) → lists (λ (b : ℕ). cond (beq (s b) (t b)) 1 0) 0 (replicate 0x100 1) ≡ true
    → (a : ℕ) → a < 0x100 → s a ≡ t a
same_tests s t test a h = beq_same (s a) (t a) (each-byte (λ (b : ℕ). cond (beq (s b) (t b)) 1 0) test a h)

-- what a station may have: all but broadcast and what is never an address
pub station-is : (a : ℕ) → a < 0x100 → is_station a ≡ not (is_broadcast a) && leb a 0xFC
station-is = same_tests (λ (a : ℕ). is_station a) (λ (a : ℕ). not (is_broadcast a) && leb a 0xFC) refl

-- a station takes no byte that stuffing changes
own-lt : (a : ℕ) → is_own a ≡ true → a < 0xFD
own-lt a =
    or_elim (leb 0x01 a && leb a 0x7E) (leb 0x80 a && leb a 0xFC)
    (λ t. omega (arith, between-true 0x01 0x7E a t)) (λ t. omega (arith, between-true 0x80 0xFC a t))

station-lt : (own : ℕ) → is_station own ≡ true → own < 0xFD
station-lt own = or_elim (is_master own) (is_own own) (λ t. omega (arith, eqb-true own 0x00 t)) (own-lt own)

pub takes-lt : (own a : ℕ) → is_station own ≡ true → takes own a ≡ true → a < 0xFD
unfolding takes
takes-lt own a good =
    cond-elim (λ (t : Bool). t ≡ true → a < 0xFD) (is_master own) (λ m e. omega (arith, eqb-true a 0x00 e))
    (λ m. or_elim (eqb a own) (is_broadcast a) (λ e. omega (arith, eqb-true a own e, station-lt own good))
    (λ e. omega (arith, eqb-true a 0x7F e)))

pub takes-plain : (own a : ℕ) → is_station own ≡ true → takes own a ≡ true → special a ≡ false
takes-plain own a good taken = plain-is a (takes-lt own a good taken)

-- ---- what is refused, in numbers

pub never-is : (a : ℕ) → (is_never a ≡ true) ↔ Never a
never-is a = (
  or_elim (eqb a 0xFD || eqb a 0xFE) (eqb a 0xFF)
      (or_elim (eqb a 0xFD) (eqb a 0xFE) (λ t. one 0xFD (omega arith) (omega arith) t) (λ t. one 0xFE (omega arith) (omega arith) t))
      (λ t. one 0xFF (omega arith) (omega arith) t),
  λ n. special-is a n.0 (omega (arith, n.1)),
)
  where
    one : (x : ℕ) → 0xFD ≤ x → x ≤ 0xFF → eqb a x ≡ true → Never a
    one x least most t = rw (eqb-true a x t) (least, most)

pub no-station-is : (own : ℕ) → (is_station own ≡ false) ↔ NoStation own
no-station-is own = (λ none. of none (dec_le 0xFD own), back)
  where
    of : is_station own ≡ false → Dec (0xFD ≤ own) → NoStation own
    of none (yes least) = never least
    of none (no few) =
        let other : not (is_broadcast own) ≡ false =
        rw (le-leb own 0xFC (omega arith), and-true) at (sym (station-is own (omega arith)) ∙ none) in
        rw (eqb-true own 0x7F (not-false (is_broadcast own) other)) broadcast

    back : {a : ℕ} → NoStation a → is_station a ≡ false
    back broadcast = refl
    back {a} (never least) = (not-eq-not {b = false}).0 (λ (t : is_station a ≡ true). omega (arith, station-lt a t))
