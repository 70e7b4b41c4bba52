-- The master's rows: when each refuses, and what is read where none does.
-- Assumes nothing.
use mathlib.Core.Path.{◌≡◌, refl, sym, subst⁻¹, ◌∙◌}
use mathlib.Core.Bool.{true, false, cond, true≢false, false≢true, not-eq-not}
use mathlib.Core.List.{List, [], ◌∷◌}
use Prim.Native.Nat.{ℕ, ◌≤◌}
use native.Mathlib.Decide.{ℕ_discrete}
use native.Mathlib.Omega.{arith}
use lib.Dec.{eqb}
use lib.ListN.{length}
use borrow.Author.Tests.{eqb-true, eqb-false, eq-eqb, ne_eqb}
use Rattle.std.specs.Prelude.{Result, Ok, Err}
use Rattle.ground.specs.declared.refusal.Refusal.TheVariants.{BadRequest, WrongId, WrongCommand, WrongReason}
use Rattle.ground.proofs.Laws.Choice.{cond-elim, between-true, between_is, no-case}
use Rattle.request_spec.specs.declared.parameter.Parameter.TheVariants.{Speed, Settings, Cell}
use Rattle.request_spec.specs.declared.command.Command.{Command}
use Rattle.request_spec.specs.declared.command.Fault.{Fault}
use Rattle.request_spec.specs.Acceptance.{acceptance, Accepts, header, write, read, marin, hid, motorola}
use Rattle.request_spec.specs.Replies.{ACK, NACK, DATA, sign, ack_byte, identifier_of, command_of, data_of, front_of}
use Rattle.request_spec.specs.Reading.{Understood, not_read, has_read, is_due, wrong_id, is_sign, sign_read, data_read, read_as, read_by, reply_read, is_write, is_nack, reason_read, Due, for_header, for_speed, for_settings, for_cell, for_marin, for_hid, for_motorola, ByReply, empty, other_identifier, no_command, other_command, echo, data_length, sign_length, other_reason, ack_for_data, ack, nack, bytes, MasterTable, bad_request, acceptable}
use Rattle.request_spec.proofs.Laws.Acceptance.{accepts, accepted}

module _ (identifier code : ℕ) (reply : List ℕ) (asks : Command) where
  -- row 6
  pub refuses-empty : length reply ≡ 0 → read_as identifier code reply asks ≡ not_read WrongId
  unfolding read_as
  refuses-empty none = simp none

  pub refuses-identifier : (length reply ≡ 0 → ⊥) → (identifier_of reply ≡ identifier → ⊥)
      → read_as identifier code reply asks ≡ not_read WrongId
  unfolding read_as
  refuses-identifier some other = rw (ne_eqb (length reply) 0 some, ne_eqb (identifier_of reply) identifier other)

  module _ (some : length reply ≡ 0 → ⊥) (own : identifier_of reply ≡ identifier) where
    id-own : wrong_id identifier reply ≡ false
    id-own = rw (ne_eqb (length reply) 0 some, eq-eqb (identifier_of reply) identifier own)

    -- row 7
    pub refuses-absent : length reply ≡ 1 → read_as identifier code reply asks ≡ not_read WrongCommand
    unfolding read_as
    refuses-absent one = rw (id-own, eq-eqb (length reply) 1 one)

    module _ (more : length reply ≡ 1 → ⊥) where
      command-there : eqb (length reply) 1 ≡ false
      command-there = ne_eqb (length reply) 1 more

      pub reads-sign : command_of reply ≡ sign → read_as identifier code reply asks ≡ sign_read asks (data_of reply)
      unfolding read_as
      reads-sign mark = rw (id-own, command-there, eq-eqb (command_of reply) sign mark)

      module _ (plain : command_of reply ≡ sign → ⊥) where
        no_sign : is_sign reply ≡ false
        no_sign = ne_eqb (command_of reply) sign plain

        pub refuses-command : (command_of reply ≡ code → ⊥) → read_as identifier code reply asks ≡ not_read WrongCommand
        unfolding read_as
        refuses-command other = rw (id-own, command-there, no_sign, ne_eqb (command_of reply) code other)

        pub refuses-echo : command_of reply ≡ code → code ≡ 0x01 → read_as identifier code reply asks ≡ not_read WrongCommand
        unfolding read_as
        refuses-echo same echoed = rw (id-own, command-there, no_sign, eq-eqb (command_of reply) code same, eq-eqb code 0x01 echoed)

        pub reads-data : command_of reply ≡ code → (code ≡ 0x01 → ⊥) → read_as identifier code reply asks ≡ data_read asks (data_of reply)
        unfolding read_as
        reads-data same other = rw (id-own, command-there, no_sign, eq-eqb (command_of reply) code same, ne_eqb code 0x01 other)

-- the same of a reply put together
module _ (identifier code : ℕ) (asks : Command) where
  identifier-refused : (b : ℕ) (more : List ℕ) → (b ≡ identifier → ⊥) → read_as identifier code (b ∷ more) asks ≡ not_read WrongId
  identifier-refused b more other = refuses-identifier identifier code (b ∷ more) asks (λ e. absurd (omega (arith, e))) other

  absent-refused : read_as identifier code (identifier ∷ []) asks ≡ not_read WrongCommand
  absent-refused = refuses-absent identifier code (identifier ∷ []) asks (λ e. absurd (omega (arith, e))) refl refl

  module _ («data» : List ℕ) where
    sign-read : read_as identifier code (identifier ∷ sign ∷ «data») asks ≡ sign_read asks «data»
    sign-read =
        reads-sign identifier code (identifier ∷ sign ∷ «data») asks (λ e. absurd (omega (arith, e))) refl (λ e. absurd (omega (arith, e))) refl

    command-refused : (b : ℕ) → (b ≡ sign → ⊥) → (b ≡ code → ⊥)
        → read_as identifier code (identifier ∷ b ∷ «data») asks ≡ not_read WrongCommand
    command-refused b plain other =
        refuses-command identifier code (identifier ∷ b ∷ «data») asks (λ e. absurd (omega (arith, e))) refl (λ e. absurd (omega (arith, e)))
        plain other

    module _ (plain : eqb code sign ≡ false) where
      echo-refused : code ≡ 0x01 → read_as identifier code (identifier ∷ code ∷ «data») asks ≡ not_read WrongCommand
      echo-refused echoed =
          refuses-echo identifier code (identifier ∷ code ∷ «data») asks (λ e. absurd (omega (arith, e))) refl (λ e. absurd (omega (arith, e)))
          (eqb-false code sign plain) refl echoed

      data-read : eqb code 0x01 ≡ false → read_as identifier code (identifier ∷ code ∷ «data») asks ≡ data_read asks «data»
      data-read other =
          reads-data identifier code (identifier ∷ code ∷ «data») asks (λ e. absurd (omega (arith, e))) refl (λ e. absurd (omega (arith, e)))
          (eqb-false code sign plain) refl (eqb-false code 0x01 other)

  -- a NACK is read as its number, an ACK as one where a write was asked for, and data of a length that is due as that data
  nack-read : (n : ℕ) → 1 ≤ n → n ≤ 6 → read_as identifier code (front_of identifier code (NACK n)) asks ≡ has_read (NACK n)
  unfolding sign_read reason_read
  nack-read n least most = sign-read (n ∷ []) ∙ rw (ne_eqb n ack_byte (λ e. absurd (omega (arith, e))), between_is 1 6 n least most)

  ack-read : is_write asks ≡ true → read_as identifier code (front_of identifier code ACK) asks ≡ has_read ACK
  unfolding sign_read reason_read
  ack-read written = sign-read (ack_byte ∷ []) ∙ rw written

  due-read : (due : List ℕ) → eqb code sign ≡ false → eqb code 0x01 ≡ false → is_due asks (length due) ≡ true
      → read_as identifier code (front_of identifier code (DATA due)) asks ≡ has_read (DATA due)
  unfolding data_read
  due-read due plain other sized = data-read due plain other ∙ rw sized

-- so is the reply to a request that a reader accepts
module _ (identifier code : ℕ) («data» : List ℕ) (command : Command) (asked : acceptance code «data» ≡ Ok command) where
  reads_as : (reply : List ℕ) → reply_read identifier code «data» reply ≡ read_as identifier code reply command
  unfolding reply_read
  reads_as reply = rw asked

  pub reads-nack : (n : ℕ) → 1 ≤ n → n ≤ 6 → reply_read identifier code «data» (front_of identifier code (NACK n)) ≡ has_read (NACK n)
  reads-nack n least most = reads_as (front_of identifier code (NACK n)) ∙ nack-read identifier code command n least most

  pub reads-ack : is_write command ≡ true → reply_read identifier code «data» (front_of identifier code ACK) ≡ has_read ACK
  reads-ack written = reads_as (front_of identifier code ACK) ∙ ack-read identifier code command written

  pub reads-due : (due : List ℕ) → eqb code sign ≡ false → eqb code 0x01 ≡ false → is_due command (length due) ≡ true
      → reply_read identifier code «data» (front_of identifier code (DATA due)) ≡ has_read (DATA due)
  reads-due due plain other sized = reads_as (front_of identifier code (DATA due)) ∙ due-read identifier code command due plain other sized

-- ---- the rows: only then, and when

-- 01 writes, and no code is 2A
code_is : {code : ℕ} {«data» : List ℕ} {command : Command} → Accepts code «data» command
    → (is_write command ≡ eqb code 0x01) × (eqb code sign ≡ false)
code_is header = (refl, refl)
code_is (write p value fits) = (refl, refl)
code_is (read p) = (refl, refl)
code_is marin = (refl, refl)
code_is hid = (refl, refl)
code_is motorola = (refl, refl)

-- data is due of the lengths of the table, and of no other
of_length : {code : ℕ} {«data» : List ℕ} {m : ℕ} (n : ℕ) → Due code «data» m → eqb n m ≡ true → Due code «data» n
of_length {code} {«data»} {m} n due is = subst⁻¹ (Due code «data») (eqb-true n m is) due

due-only : {code : ℕ} {«data» : List ℕ} {command : Command} (n : ℕ) → Accepts code «data» command → is_due command n ≡ true → Due code «data» n
due-only n header is = of_length n for_header is
due-only n (write p value fits) is = absurd (false≢true is)
due-only n (read Speed) is = of_length n for_speed is
due-only n (read Settings) is = of_length n for_settings is
due-only n (read Cell) is = of_length n for_cell is
due-only n marin is = let (least, most) = between-true 1 8 n is in for_marin least most
due-only n hid is = let (least, most) = between-true 1 8 n is in for_hid least most
due-only n motorola is = of_length n for_motorola is

due-is : {code : ℕ} {«data» : List ℕ} {command : Command} {n : ℕ} → Accepts code «data» command → Due code «data» n
    → (is_due command n ≡ true) × (eqb code 0x01 ≡ false)
due-is header for_header = (refl, refl)
due-is (write p value _) due = elim due [ ]
due-is (read Speed) for_speed = (refl, refl)
due-is (read Settings) for_settings = (refl, refl)
due-is (read Cell) for_cell = (refl, refl)
due-is {n} marin (for_marin least most) = (between_is 1 8 n least most, refl)
due-is {n} hid (for_hid least most) = (between_is 1 8 n least most, refl)
due-is motorola for_motorola = (refl, refl)

module _ (identifier code : ℕ) («data» : List ℕ) where
  abbrev Row : List ℕ → Understood → Type 0
  Row = ByReply identifier code «data»

  module _ {command : Command} (asked : Accepts code «data» command) where
    by-ack : Row (identifier ∷ sign ∷ ack_byte ∷ []) (cond (is_write command) (has_read ACK) (not_read WrongReason))
    by-ack =
        rw (code_is asked).0
        (cond-elim (Row (identifier ∷ sign ∷ ack_byte ∷ [])) (eqb code 0x01) (λ is. ack (eqb-true code 0x01 is))
        (λ not. ack_for_data (eqb-false code 0x01 not)))

    by_sign : (data' : List ℕ) → Row (identifier ∷ sign ∷ data') (sign_read command data')
    unfolding sign_read reason_read
    by_sign [] = sign_length {bytes = []} (λ e. absurd (omega (arith, e)))
    by_sign (b ∷ []) =
        cond-elim P (eqb b ack_byte) (λ is. rw (eqb-true b ack_byte is) by-ack)
        (λ not. cond-elim P (is_nack b) (λ some. let (least, most) = between-true 1 6 b some in nack least most)
        (λ none. other_reason (eqb-false b ack_byte not) (λ least most. true≢false (sym (between_is 1 6 b least most) ∙ none))))
      where
        P : Understood → Type 0
        P = Row (identifier ∷ sign ∷ b ∷ [])
    by_sign (b ∷ c ∷ more) =
        let two : length (b ∷ c ∷ more) ≡ 1 → ⊥ = λ e. absurd (omega (arith, e)) in
        rw (ne_eqb (length (b ∷ c ∷ more)) 1 two) (sign_length two)

    by-data : (data' : List ℕ) → (code ≡ 0x01 → ⊥) → Row (identifier ∷ code ∷ data') (data_read command data')
    unfolding data_read
    by-data data' other =
        cond-elim (Row (identifier ∷ code ∷ data')) (is_due command (length data')) (λ is. bytes (due-only (length data') asked is))
        (λ not. data_length other (λ due. true≢false (sym (due-is asked due).0 ∙ not)))

    by-command : (b : ℕ) (data' : List ℕ) → Row (identifier ∷ b ∷ data') (read_as identifier code (identifier ∷ b ∷ data') command)
    by-command b data' = of (ℕ_discrete b sign) (ℕ_discrete b code) (ℕ_discrete code 0x01)
      where
        of : Dec (b ≡ sign) → Dec (b ≡ code) → Dec (code ≡ 0x01)
            → Row (identifier ∷ b ∷ data') (read_as identifier code (identifier ∷ b ∷ data') command)
        of (yes mark) same echoed = rw (mark, sign-read identifier code command data') (by_sign data')
        of (no plain) (no other) echoed = rw (command-refused identifier code command data' b plain other) (other_command plain other)
        of (no plain) (yes same) (yes echoed) =
            rw (same, echo-refused identifier code command data' (code_is asked).1 echoed) (echo echoed)
        of (no plain) (yes same) (no other) =
            rw (same, data-read identifier code command data' (code_is asked).1 (ne_eqb code 0x01 other)) (by-data data' other)

    by-reply : (reply : List ℕ) → Row reply (read_as identifier code reply command)
    by-reply [] = rw (refuses-empty identifier code [] command refl) empty
    by-reply (b ∷ more) = of more (ℕ_discrete b identifier)
      where
        of : (more : List ℕ) → Dec (b ≡ identifier) → Row (b ∷ more) (read_as identifier code (b ∷ more) command)
        of [] (yes own) = rw (own, absent-refused identifier code command) no_command
        of (c ∷ data') (yes own) = rw own (by-command c data')
        of more (no other) = rw (identifier-refused identifier code command b more other) (other_identifier other)

    reply-only : {reply : List ℕ} {answer : Understood} → Row reply answer → answer ≡ read_as identifier code reply command
    unfolding sign_read reason_read data_read
    reply-only empty = sym (refuses-empty identifier code [] command refl)
    reply-only (other_identifier {b} {more} other) = sym (identifier-refused identifier code command b more other)
    reply-only no_command = sym (absent-refused identifier code command)
    reply-only (other_command {b} {more} plain other) = sym (command-refused identifier code command more b plain other)
    reply-only (echo {more} echoed) = sym (echo-refused identifier code command more (code_is asked).1 echoed)
    reply-only (data_length {bytes} other none) =
        rw (
          data-read identifier code command bytes (code_is asked).1 (ne_eqb code 0x01 other),
          (not-eq-not {b = false}).0 (λ (is : is_due command (length bytes) ≡ true). none (due-only (length bytes) asked is)),
        )
    reply-only (sign_length {bytes} other) = rw (sign-read identifier code command bytes, ne_eqb (length bytes) 1 other)
    reply-only (other_reason {b} other none) =
        rw (
          sign-read identifier code command (b ∷ []),
          ne_eqb b ack_byte other,
          (not-eq-not {b = false}).0 (λ (is : is_nack b ≡ true). let (least, most) = between-true 1 6 b is in none least most),
        )
    reply-only (ack_for_data other) = rw (sign-read identifier code command (ack_byte ∷ []), (code_is asked).0, ne_eqb code 0x01 other)
    reply-only (ack is) = sym (ack-read identifier code command ((code_is asked).0 ∙ eq-eqb code 0x01 is))
    reply-only (nack {n} least most) = sym (nack-read identifier code command n least most)
    reply-only (bytes {bytes} due) =
        let (sized, other) = due-is asked due in
        sym (due-read identifier code command bytes (code_is asked).1 other sized)

  module _ (reply : List ℕ) where
    pub by-table : MasterTable identifier code «data» reply (reply_read identifier code «data» reply)
    unfolding reply_read
    by-table = of (acceptance code «data») refl
      where
        of : (k : Result Command Fault) → acceptance code «data» ≡ k → MasterTable identifier code «data» reply (read_by identifier code reply k)
        of (Err fault) asked = bad_request (λ command row. no-case (cc (accepted row)))
        of (Ok command) asked = let row = accepts code «data» asked in acceptable row (by-reply row reply)

    pub table-only : {answer : Understood} → MasterTable identifier code «data» reply answer → answer ≡ reply_read identifier code «data» reply
    unfolding reply_read
    table-only (bad_request none) = of (acceptance code «data») refl
      where
        of : (k : Result Command Fault) → acceptance code «data» ≡ k → not_read BadRequest ≡ read_by identifier code reply k
        of (Err fault) asked = refl
        of (Ok command) asked = absurd (none command (accepts code «data» asked))
    table-only (acceptable row why) = rw (accepted row) (reply-only row why)
