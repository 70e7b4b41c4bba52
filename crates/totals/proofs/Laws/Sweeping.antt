-- Runs of bytes: outside a frame all but FD, inside one those that stand for themselves.
-- Assumes nothing.
use mathlib.Core.Path.{◌≡◌, refl, sym, ap, subst, ◌∙◌}
use mathlib.Core.Bool.{false}
use mathlib.Core.List.{List, [], ◌∷◌}
use Prim.Native.Nat.{ℕ, suc, ◌+◌, ◌-◌, ◌≤◌, ◌<◌}
use native.Mathlib.Nat.{add-zero, add_assoc}
use native.Mathlib.Numerals.{add-one}
use native.Mathlib.Omega.{arith}
use lib.ListN.{length, take, drop, get_or, set, length-set}
use lib.Seq.{take-suc-set}
use Rattle.ground.proofs.Laws.Lists.{drop-next}
use Rattle.wire_spec.specs.Limits.{most_content}
use Rattle.wire_spec.specs.Stuffing.{specials}
use Rattle.wire_spec.specs.Image.{start}
use Rattle.wire_spec.proofs.Laws.Stuffing.{plain-is, specials-append, specials-plain}
use Rattle.link_spec.specs.declared.station.Station.{Station}
use Rattle.link_spec.specs.declared.receiver.Phase.TheVariants.{Inside}
use Rattle.link_spec.specs.declared.receiver.Receiver.{Receiver}
use Rattle.link_spec.specs.declared.receiver.Turn.{Turn}
use Rattle.link_spec.specs.declared.receiver.Turn.TheVariants.{Keep}
use Rattle.link_spec.specs.Rules.{Later, on_point, after_first, ByRule, plain}
use Rattle.link_spec.specs.Receiving.{receiver_of, turn_at, moved, has_event, bad_receiver}
use Rattle.link_spec.proofs.Laws.Turning.{rule-only, outside-rests}
use Rattle.link_spec.proofs.Laws.Fit.{fit-good}
use Rattle.totals_spec.specs.Whole.{sums_of}
use Rattle.totals_spec.specs.Adding.{account, with_bytes, after_bytes}
use Rattle.totals_spec.proofs.Laws.Turns.{quiet-turn}
use Rattle.totals.specs.Sweeping.{Passes, Skipped, Kept}

-- ---- over some bytes

-- over none
pub passes_none : (s : Receiver) (l : List ℕ) → Passes s l 0 s l
passes_none s l =
    record {
      same = λ sums. ap (λ (h : ℕ). after_bytes (account s (sums_of sums.frames h sums.inside sums.reserved)) l)
          (sym (add-zero sums.heard));
    }

-- and then over others
pub passes_then : {s r q : Receiver} {l m n : List ℕ} {k j : ℕ} → Passes s l k r m → Passes r m j q n → Passes s l (k + j) q n
passes_then {q = q} {n = n} {k = k} {j = j} a b =
    record {
      same = λ sums. a.same sums
          ∙ b.same (with_bytes k sums)
          ∙ ap (λ (h : ℕ). after_bytes (account q (sums_of sums.frames h sums.inside sums.reserved)) n) (add_assoc sums.heard k j);
    }

-- over one byte, where it has no event
pub passes-byte : (s : Receiver) (piece : List ℕ) (at : ℕ) {t : Turn} → bad_receiver s ≡ false → at < length piece → t ≡ turn_at s (get_or piece at 0)
    → has_event t ≡ false
    → Passes s (drop at piece) 1 (moved s t) (drop (at + 1) piece)
passes-byte s piece at good more is quiet =
    record {
      same = λ sums. ap (after_bytes (account s sums)) (drop-next piece at more)
          ∙ quiet-turn s sums (get_or piece at 0) (drop (at + 1) piece) good is quiet;
    }

-- ---- outside a frame

pub skip-none : (piece : List ℕ) (from : ℕ) → from ≤ length piece → Skipped piece from from
skip-none piece from h =
    let none : 0 ≡ from - from = omega arith in
    record {
      least = omega arith;
      most = h;
      passes = λ s out good. subst (λ (k : ℕ). Passes s (drop from piece) k s (drop from piece)) none (passes_none s (drop from piece));
    }

pub skip-more : {piece : List ℕ} {from at : ℕ} → Skipped piece from at → at < length piece → (get_or piece at 0 ≡ start → ⊥)
    → Skipped piece from (at + 1)
unfolding moved
skip-more {piece} {from} {at} k more other =
    let far : at - from + 1 ≡ at + 1 - from = omega (arith, k.least) in
    record {
      least = omega (arith, k.least);
      most = omega arith;
      passes = λ s out good. subst (λ (n : ℕ). Passes s (drop from piece) n s (drop (at + 1) piece)) far
          (passes_then (k.passes s out good) (passes-byte s piece at good more (outside-rests s.station s.phase s.count (get_or piece at 0) out other) refl));
    }

-- ---- inside a frame

pub keep-none : (station : Station) (content : List ℕ) (count : ℕ) (piece : List ℕ) (from : ℕ) → length content ≡ most_content → count ≤ most_content
    → from ≤ length piece
    → Kept station content count piece from count content
keep-none station content count piece from sized within part =
    let none : 0 ≡ count - count = omega arith in
    let here : from ≡ from + (count - count) = omega arith in
    let s = receiver_of station Inside count content in
    record {
      least = omega arith;
      most = within;
      part = omega arith;
      sized = sized;
      plain = refl;
      passes = λ good. subst (λ (j : ℕ). Passes s (drop from piece) (count - count) s (drop j piece)) here
          (subst (λ (k : ℕ). Passes s (drop from piece) k s (drop from piece)) none (passes_none s (drop from piece)));
    }

-- the byte after one that is not the address is not the address
pub later-next : {station : Station} {n : ℕ} → Later station n → Later station (suc n)
later-next on_point = on_point
later-next after_first = after_first

-- one byte more that stands for itself
pub keep-more : {station : Station} {content : List ℕ} {count : ℕ} {piece : List ℕ} {from kept : ℕ} {now : List ℕ}
    → Kept station content count piece from kept now
    → Later station kept
    → kept < most_content
    → let at = from + (kept - count) in
    at < length piece → get_or piece at 0 < start
    → Kept station content count piece from (kept + 1) (set now kept (get_or piece at 0))
unfolding moved specials
keep-more {station} {content} {count} {piece} {from} {kept} {now} k later room more low =
    let at = from + (kept - count) in
    let b = get_or piece at 0 in
    let s = receiver_of station Inside kept now in
    let far : kept - count + 1 ≡ kept + 1 - count = omega (arith, k.least) in
    let there : at + 1 ≡ from + (kept + 1 - count) = omega (arith, k.least) in
    let rule : ByRule station kept b Inside (Keep b) = plain later (plain-is b low) room in
    record {
      least = omega (arith, k.least);
      most = omega arith;
      part = omega (arith, k.least);
      sized = length-set now kept b ∙ k.sized;
      plain =
          ap specials (ap (λ (n : ℕ). take n (set now kept b)) (add-one kept) ∙ take-suc-set now kept b (omega (arith, k.sized)))
          ∙ specials-append (take kept now) (b ∷ [])
          ∙ ap (λ (n : ℕ). specials (take kept now) + n) (specials-plain b [] low)
          ∙ add-zero (specials (take kept now))
          ∙ k.plain;
      passes = λ good. subst (λ (j : ℕ). Passes (receiver_of station Inside count content) (drop from piece) (kept + 1 - count)
          (receiver_of station Inside (kept + 1) (set now kept b)) (drop j piece)) there
          (subst (λ (n : ℕ). Passes (receiver_of station Inside count content) (drop from piece) n
          (receiver_of station Inside (kept + 1) (set now kept b)) (drop (at + 1) piece)) far
          (passes_then (k.passes good)
          (passes-byte s piece at (fit-good {station = station} {s = s} good (record { on = refl; sized = k.sized; within = k.most })) more (rule-only rule) refl)));
    }
