-- What is told of a log from the calls' inputs agrees with its record.
-- Assumes nothing.
use mathlib.Core.Path.{◌≡◌, refl, sym, ap, ◌∙◌}
use mathlib.Core.Bool.{Bool}
use mathlib.Core.List.{List, [], ◌∷◌, ◌++◌}
use mathlib.Core.Logic.{◌⊎◌, inl, inr, ⊎_elim}
use Prim.Native.Nat.{ℕ, suc, ◌+◌, ◌-◌, ◌%◌, ◌≤◌, ◌<◌}
use native.Mathlib.Omega.{arith}
use lib.Dec.{eqb, ltb}
use lib.ListN.{length, get_or, length-append, length-replicate, get_or-append}
use lib.Seq.{get_or_at}
use borrow.Author.Tests.{ltb-true, ltb-false, eqb-true, eqb-false, eq-eqb, ne_eqb}
use Rattle.ground.proofs.Laws.Choice.{by-test}
use Rattle.ground.proofs.Laws.Laying.{length-laid}
use Rattle.event_log_spec.specs.declared.log.Log.{Log}
use Rattle.event_log_spec.specs.Limits.{most_held, body_length, ring_length, identifiers}
use Rattle.event_log_spec.specs.Log.{empty_log, place_of, body_start, body_at}
use Rattle.event_log_spec.specs.Appending.{one_more, with_entry}
use Rattle.event_log_spec.specs.Lots.{one_new}
use Rattle.event_log_spec.specs.Sessions.{History, history_with, made, told_after, history_of}
use Rattle.event_log_spec.proofs.Laws.Log.{Good}
use Rattle.event_log_spec.proofs.Laws.Lots.{lots_of, holds_more, drops-deleted, drops-waiting}
use Rattle.event_log_spec.proofs.Laws.Ring.{place-moved, place_same, places-differ, place-within, body-laid, body-other}

-- The record holds the last entries made, of which the last wait; if any are dropped it is full.
pub record Agrees (h : History) (log : Log) : Type 0 where
  pub good : Good log
  pub dropped : ℕ
  pub full : (dropped ≡ 0) ⊎ (log.held ≡ most_held)
  pub lots : h.lots ≡ lots_of dropped (log.held - log.waiting) log.waiting
  pub count : length h.bodies ≡ dropped + log.held
  pub next : log.next ≡ length h.bodies % identifiers
  pub ring : length log.bodies ≡ ring_length
  pub bodies : (k : ℕ) → k < log.held → body_at log.bodies (place_of log k) ≡ get_or h.bodies (dropped + k) []

-- ---- an empty log

pub agrees-empty : Agrees (history_of []) empty_log
unfolding history_of
agrees-empty =
    record {
      good = record { held = omega arith; waiting = omega arith; start = omega arith };
      dropped = 0;
      full = inl refl;
      lots = refl;
      count = refl;
      next = refl;
      ring = length-replicate {A = ℕ} ring_length 0;
      bodies = λ k less. absurd (omega arith);
    }

-- ---- a new entry

-- one more, of those that the log holds and of those that wait
not-all : (n : ℕ) → n < most_held → one_more n ≡ n + 1
not-all n few = rw (ne_eqb n most_held (λ e. omega arith))

all_held : (n : ℕ) → n ≡ most_held → one_more n ≡ most_held
all_held n all = rw (eq-eqb n most_held all)

same-lots : {a b d e v w : ℕ} → a ≡ b → d ≡ e → v ≡ w → lots_of a d v ≡ lots_of b e w
same-lots p q r = λ i. lots_of (p i) (q i) (r i)

module _ {h : History} {log : Log} (a : Agrees h log) (body : List ℕ) (whole : length body ≡ body_length) where
  abbrev place : ℕ
  place = place_of log log.held

  abbrev n : ℕ
  n = length h.bodies

  -- The ring's start moves on by one in a full log, and by none in another. What is the same in both:
  record Moves (moved : ℕ) : Type 0 where
    start : (with_entry log body).start ≡ (log.start + moved) % most_held
    held : (with_entry log body).held + moved ≡ log.held + 1
    near : log.held < moved + most_held
    full : (a.dropped + moved ≡ 0) ⊎ ((with_entry log body).held ≡ most_held)
    waiting : (with_entry log body).waiting ≤ (with_entry log body).held
    lots : one_new h.lots ≡ lots_of (a.dropped + moved) ((with_entry log body).held - (with_entry log body).waiting) (with_entry log body).waiting

  -- the body of each held entry is that of one of the last made
  entry_at : {moved : ℕ} → Moves moved → (k : ℕ) → k < (with_entry log body).held
      → body_at (with_entry log body).bodies (place_of (with_entry log body) k) ≡ get_or (h.bodies ++ (body ∷ [])) (a.dropped + moved + k) []
  entry_at {moved} m k less =
      ap (λ (s : ℕ). body_at (with_entry log body).bodies ((s + k) % most_held)) m.start
      ∙ ap (body_at (with_entry log body).bodies) (place-moved log.start moved k)
      ∙ by-test (λ (t : Bool). eqb (k + moved) log.held ≡ t → Same) (eqb (k + moved) log.held) (λ _ t. newest (eqb-true (k + moved) log.held t))
      (λ _ f. older (eqb-false (k + moved) log.held f)) refl
    where
      Same : Type 0
      Same = body_at (with_entry log body).bodies ((log.start + (k + moved)) % most_held) ≡ get_or (h.bodies ++ (body ∷ [])) (a.dropped + moved + k) []

      newest : k + moved ≡ log.held → Same
      newest is =
          ap (λ (j : ℕ). body_at (with_entry log body).bodies ((log.start + j) % most_held)) is
          ∙ body-laid log.bodies body place (place-within (log.start + log.held)) a.ring whole
          ∙ sym (get_or_at h.bodies body [] [] (a.dropped + moved + k) (omega (arith, a.count)))

      older : (k + moved ≡ log.held → ⊥) → Same
      older not =
          let j = k + moved in
          let early : j < log.held = omega (arith, not, less, m.held) in
          let near : log.held < j + most_held = omega (arith, m.near) in
          body-other log.bodies body place ((log.start + j) % most_held) (place-within (log.start + log.held)) a.ring whole
          (places-differ log.start j log.held early near)
          ∙ a.bodies j early
          ∙ ap (λ (i : ℕ). get_or h.bodies i []) (omega arith)
          ∙ sym (get_or-append h.bodies (body ∷ []) [] (a.dropped + moved + k) (omega (arith, a.count)))

  moves-agree : {moved : ℕ} → Moves moved → Agrees (history_with (h.bodies ++ (body ∷ [])) (one_new h.lots)) (with_entry log body)
  moves-agree {moved} m =
      let long : length (h.bodies ++ (body ∷ [])) ≡ n + 1 = length-append h.bodies (body ∷ []) in
      record {
        good =
            record {
              held = omega (arith, m.held, m.near);
              waiting = m.waiting;
              start = rw m.start (place-within (log.start + moved));
            };
        dropped = a.dropped + moved;
        full = m.full;
        lots = m.lots;
        count = omega (arith, long, a.count, m.held);
        next = ap (λ (k : ℕ). (k + 1) % identifiers) a.next ∙ omega (arith, long);
        ring = length-laid log.bodies (body_start place) body (omega (arith, a.ring, whole, place-within (log.start + log.held))) ∙ a.ring;
        bodies = entry_at m;
      }

  -- a log that is not full
  one-held : log.held < most_held → Moves 0
  one-held few =
      let held = not-all log.held few in
      let waits = not-all log.waiting (omega (arith, a.good.waiting)) in
      let none : a.dropped ≡ a.dropped + 0 = omega arith in
      let deleted : log.held - log.waiting ≡ one_more log.held - one_more log.waiting = omega (arith, held, waits) in
      let waiting : suc log.waiting ≡ one_more log.waiting = omega (arith, waits) in
      record {
        start = rw (ne_eqb log.held most_held (λ e. omega arith)) (place_same log.start a.good.start);
        held = omega (arith, held);
        near = few;
        full = ⊎_elim (λ none. inl (omega (arith, none))) (λ full. absurd (omega (arith, full))) a.full;
        waiting = omega (arith, held, waits, a.good.waiting);
        lots =
            ap one_new a.lots
            ∙ holds_more a.dropped (log.held - log.waiting) log.waiting (omega (arith, a.good.waiting))
            ∙ same-lots none deleted waiting;
      }

  -- a full one
  one-dropped : log.held ≡ most_held → (waits : ℕ) → one_more log.waiting ≡ waits → waits ≤ most_held
      → one_new h.lots ≡ lots_of (suc a.dropped) (most_held - waits) waits
      → Moves 1
  one-dropped full waits waiting most lots =
      let held = all_held log.held full in
      let one : suc a.dropped ≡ a.dropped + 1 = omega arith in
      let deleted : most_held - waits ≡ one_more log.held - one_more log.waiting = omega (arith, held, waiting) in
      record {
        start = rw (eq-eqb log.held most_held full);
        held = omega (arith, held);
        near = omega arith;
        full = inr held;
        waiting = omega (arith, held, waiting);
        lots = lots ∙ same-lots one deleted (sym waiting);
      }

  -- of which all wait, so that a waiting one is dropped
  all-wait : log.held ≡ most_held → log.waiting ≡ most_held → Moves 1
  all-wait full all =
      let none : log.held - log.waiting ≡ 0 = omega arith in
      one-dropped full most_held (all_held log.waiting all) (omega arith)
      (ap one_new (a.lots ∙ (λ i. lots_of a.dropped (none i) (all i))) ∙ drops-waiting a.dropped most_held refl)

  -- or not, so that a deleted one is
  some-deleted : log.held ≡ most_held → log.waiting < most_held → Moves 1
  some-deleted full some =
      let others : ℕ = most_held - suc log.waiting in
      let one : log.held - log.waiting ≡ suc others = omega arith in
      one-dropped full (suc log.waiting) (not-all log.waiting some ∙ omega arith) some
      (ap one_new (a.lots ∙ (λ i. lots_of a.dropped (one i) log.waiting)) ∙ drops-deleted a.dropped others log.waiting (omega arith))

  -- so what is told with the new entry agrees with the log that holds it
  pub agrees-made : Agrees (told_after (made body) h) (with_entry log body)
  unfolding told_after
  agrees-made =
      by-test (λ (t : Bool). ltb log.held most_held ≡ t → Told) (ltb log.held most_held) (λ _ t. moves-agree (one-held (ltb-true log.held most_held t)))
      (λ _ f. let full : log.held ≡ most_held = omega (arith, ltb-false log.held most_held f, a.good.held) in
      by-test (λ (t : Bool). ltb log.waiting most_held ≡ t → Told) (ltb log.waiting most_held)
      (λ _ t. moves-agree (some-deleted full (ltb-true log.waiting most_held t)))
      (λ _ g. moves-agree (all-wait full (omega (arith, ltb-false log.waiting most_held g, a.good.waiting, a.good.held)))) refl) refl
    where
      Told : Type 0
      Told = Agrees (history_with (h.bodies ++ (body ∷ [])) (one_new h.lots)) (with_entry log body)
