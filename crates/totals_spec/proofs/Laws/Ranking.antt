-- Both lines in their ranks: each line once, heard never rises, the point line first when equal.
-- Assumes nothing.
use mathlib.Core.Path.{◌≡◌, refl, sym}
use Prim.Native.Nat.{ℕ, ◌≤◌}
use native.Mathlib.Omega.{arith}
use borrow.Author.Tests.{ltb-true, ltb-false}
use lib.Dec.{ltb}
use Rattle.ground.proofs.Laws.Choice.{cond-elim}
use Rattle.tape_spec.specs.declared.tape.Line.TheVariants.{Point, Addressed}
use Rattle.tape_spec.specs.declared.tape.Ending.{Ending}
use Rattle.totals_spec.specs.declared.totals.Sums.{Sums}
use Rattle.totals_spec.specs.Whole.{line_report, Reported, ranked}
use Rattle.totals_spec.specs.Sessions.{part_of, point_first, addressed_first, Ranked}

module _ (point addressed : Sums) (ending : Ending) (records : ℕ) where
  abbrev report : Reported
  report = ranked point addressed ending records

  -- what holds of both orders, where they are given, holds of the report
  by_rank : (P : Reported → Type 0)
      → (point.heard ≤ addressed.heard → (point.heard ≡ addressed.heard → ⊥)
      → P (record { refusal = 0; first = line_report Addressed addressed; second = line_report Point point; ending = ending; records = records }))
      → (addressed.heard ≤ point.heard
      → P (record { refusal = 0; first = line_report Point point; second = line_report Addressed addressed; ending = ending; records = records }))
      → P report
  unfolding ranked
  by_rank P louder other =
      cond-elim P (ltb point.heard addressed.heard)
      (λ t. let lt = ltb-true point.heard addressed.heard t in louder (omega arith) (λ e. absurd (omega arith)))
      (λ f. other (ltb-false point.heard addressed.heard f))

  pub ranks : Ranked report
  ranks =
      by_rank Ranked (λ less apart. record { lines = addressed_first; falls = less; ties = λ e. absurd (apart (sym e)) })
      (λ less. record { lines = point_first; falls = less; ties = λ e. refl })

  -- each line's part is made of its sums
  pub ranked-point : part_of Point report ≡ line_report Point point
  ranked-point = by_rank (λ (r : Reported). part_of Point r ≡ line_report Point point) (λ less apart. refl) (λ less. refl)

  pub ranked-addressed : part_of Addressed report ≡ line_report Addressed addressed
  ranked-addressed = by_rank (λ (r : Reported). part_of Addressed r ≡ line_report Addressed addressed) (λ less apart. refl) (λ less. refl)

  -- the rest of it
  pub ranked-rest : (report.refusal ≡ 0) × (report.ending ≡ ending) × (report.records ≡ records)
  ranked-rest =
      by_rank (λ (r : Reported). (r.refusal ≡ 0) × (r.ending ≡ ending) × (r.records ≡ records)) (λ less apart. (refl, refl, refl))
      (λ less. (refl, refl, refl))
