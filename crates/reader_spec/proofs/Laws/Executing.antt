-- What a command that is executed does to the parameters, and that its reply fits a frame.
-- Assumes nothing.
use mathlib.Core.Path.{◌≡◌, refl}
use mathlib.Core.Bool.{Bool, true}
use mathlib.Core.List.{List}
use Prim.Native.Nat.{ℕ, ◌≤◌}
use native.Mathlib.Omega.{arith}
use lib.Dec.{eqb}
use lib.ListN.{length, drop}
use Rattle.ground.proofs.Laws.Choice.{cond-elim}
use Rattle.link_spec.specs.Limits.{most_data}
use Rattle.request_spec.specs.declared.parameter.Parameter.{Parameter}
use Rattle.request_spec.specs.declared.parameter.Parameter.TheVariants.{Speed, Settings, Cell}
use Rattle.request_spec.specs.declared.command.Command.{Command}
use Rattle.request_spec.specs.Limits.{most_antenna, header_length}
use Rattle.request_spec.specs.Parameters.{parameter_code, length_of}
use Rattle.request_spec.specs.Cards.{is_code}
use Rattle.request_spec.specs.Acceptance.{FitsCommand}
use Rattle.request_spec.specs.Replies.{Reply, data_in}
use Rattle.request_spec.proofs.Laws.Parameters.{value-sizes, value-length, length_of-most, same_code}
use Rattle.reader_spec.specs.declared.reader.Parameters.{Parameters}
use Rattle.reader_spec.specs.Speeds.{has_speed, serves}
use Rattle.reader_spec.specs.Parameters.{value_of, done_to}
use Rattle.reader_spec.specs.Replies.{reply_to}
use Rattle.reader_spec.specs.Sessions.{values_after}
use Rattle.reader_spec.proofs.Laws.Parameters.{value_written}

module _ (ps : Parameters) («data» : List ℕ) where
  pub done-values : (command : Command) → FitsCommand command «data»
      → value_of (done_to ps command «data») ≡ values_after (value_of ps) command «data»
  done-values Command.Header carried = refl
  done-values (Command.Write p) carried =
      let whole = value-sizes p (drop 1 «data») carried.1 in
      λ i q. value_written ps p (drop 1 «data») whole q i
  done-values (Command.Read p) carried = refl
  done-values (Command.Card card) carried = refl

  -- the speed is one that the reader has
  pub done-speed : (fast : Bool) (command : Command) → serves fast command «data» ≡ true → has_speed fast ps.speed ≡ true
      → has_speed fast (done_to ps command «data»).speed ≡ true
  done-speed fast Command.Header able good = good
  done-speed fast (Command.Write Speed) able good = able
  done-speed fast (Command.Write Settings) able good = good
  done-speed fast (Command.Write Cell) able good = good
  done-speed fast (Command.Read p) able good = good
  done-speed fast (Command.Card card) able good = good

module _ (value : Parameter → List ℕ) (sized : (p : Parameter) → length (value p) ≡ length_of p) where
  pub done-sized : («data» : List ℕ) (command : Command) → FitsCommand command «data» → (q : Parameter)
      → length (values_after value command «data» q) ≡ length_of q
  done-sized «data» Command.Header carried q = sized q
  done-sized «data» (Command.Write p) carried q =
      cond-elim (λ (l : List ℕ). length l ≡ length_of q) (eqb (parameter_code p) (parameter_code q))
      (λ e. value-length (drop 1 «data») (same_code p q e) carried.1) (λ _. sized q)
  done-sized «data» (Command.Read p) carried q = sized q
  done-sized «data» (Command.Card card) carried q = sized q

  -- each reply fits a frame
  pub reply-fits : (header antenna : List ℕ) (command : Command) → length header ≡ header_length → length antenna ≤ most_antenna
      → length (data_in (reply_to value command header antenna)) ≤ most_data
  unfolding reply_to
  reply-fits header antenna Command.Header whole few = omega arith
  reply-fits header antenna (Command.Write p) whole few = omega arith
  reply-fits header antenna (Command.Read p) whole few = omega (arith, sized p, length_of-most p)
  reply-fits header antenna (Command.Card card) whole few =
      cond-elim (λ (r : Reply). length (data_in r) ≤ most_data) (is_code card (length antenna)) (λ _. omega arith) (λ _. omega arith)
