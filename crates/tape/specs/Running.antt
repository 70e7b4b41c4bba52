-- Records in a row on one line, heard together. It serves contracts of private functions. Assumes nothing.
use Rattle.std.specs.Prelude.{ℕ, ◌+◌, ◌*◌, ◌-◌, ◌≤◌, ◌≡◌, cond, List, [], ◌∷◌, ◌++◌, ltb, length, take}
use Rattle.ground.specs.Laying.{laid}
use Rattle.link_spec.specs.declared.receiver.Receiver.{Receiver}
use Rattle.link_spec.specs.Receiving.{received}
use Rattle.tape_spec.specs.declared.tape.Line.{Line}
use Rattle.tape_spec.specs.Limits.{least_room, most_records}
use Rattle.tape_spec.specs.Rows.{heard_row}
use Rattle.tape_spec.specs.Whole.{kind_of}
use Rattle.tape.specs.declared.run.Ran.{Ran}

-- whole records of one kind, with these bodies
unfoldable pub laced : ℕ → List ℕ → List ℕ
laced kind [] = []
laced kind (b ∷ bs) = kind ∷ b ∷ laced kind bs

-- a body and whole records of one kind after it
abbrev pub linked : ℕ → List ℕ → List ℕ
linked kind [] = []
linked kind (b ∷ bs) = b ∷ laced kind bs

-- the bodies at a chunk's front, `limit` at most
pub record Gathered (kind limit : ℕ) (chunk bodies : List ℕ) : Type 0 where
  pub some : 1 ≤ length bodies
  pub within : length bodies ≤ limit
  pub front : take (2 * length bodies - 1) chunk ≡ linked kind bodies

-- the receiver after bodies, how many were heard, and the text of their events
pub record Run : Type 0 where
  pub receiver : Receiver
  pub count : ℕ
  pub text : List ℕ

-- none was heard
abbrev pub resting : Receiver → Run
resting s = record { receiver = s; count = 0; text = [] }

-- one by one, after n records, while there is room for the longest row
unfoldable pub running : ℕ → Line → ℕ → Receiver → List ℕ → Run
running room line n s [] = resting s
running room line n s (b ∷ bs) =
    let said = received s (b ∷ []) in
    let text = heard_row n line said in
    let more = running (room - length text) line (n + 1) said.receiver bs in
    cond (ltb room least_room) (resting s)
    (record { receiver = more.receiver; count = 1 + more.count; text = text ++ more.text })

-- a call's result, and the contents of the lent buffer as it returns
pub record Left : Type 0 where
  pub receiver : Receiver
  pub count : ℕ
  pub end : ℕ
  pub out : List ℕ

abbrev pub left : Ran → List ℕ → Left
left r out = record { receiver = r.receiver; count = r.count; end = r.end; out = out }

abbrev pub run_left : Run → List ℕ → ℕ → Left
run_left w out at = record { receiver = w.receiver; count = w.count; end = at + length w.text; out = laid out at w.text }

-- the bodies at a chunk's front were heard, after this many records
pub record RunHeard (line : Line) (s : Receiver) (records : ℕ) (chunk out : List ℕ) (at : ℕ) (after : Left) : Type 0 where
  pub bodies : List ℕ
  pub gathered : Gathered (kind_of line) (most_records - records) chunk bodies
  pub ran : after ≡ run_left (running (length out - at) line records s bodies) out at
