-- What one byte means to a receiver, rule by rule.
-- 01, How the receiver moves; the numbers are those of its rules; 000 and 001, 'Рекомендации по разбору кадра'. Assumes nothing.
use Rattle.std.specs.Prelude.{ℕ, ◌-◌, cond, eqb, ltb, leb}
use Rattle.wire_spec.specs.Limits.{most_content}
use Rattle.wire_spec.specs.Image.{start, stop}
use Rattle.link_spec.specs.declared.event.Event.TheVariants.{Long, Pair, Addr}
use Rattle.link_spec.specs.declared.station.Station.{Station}
use Rattle.link_spec.specs.declared.station.Station.TheVariants.{Point, Addressed}
use Rattle.link_spec.specs.declared.receiver.Phase.{Phase}
use Rattle.link_spec.specs.declared.receiver.Phase.TheVariants.{Outside, Inside, Pending}
use Rattle.link_spec.specs.declared.receiver.Turn.{Turn}
use Rattle.link_spec.specs.declared.receiver.Turn.TheVariants.{Rest, Begin, Wait, Keep, Stop, Tell}
use Rattle.link_spec.specs.Address.{takes}

-- 4. a content byte that would be the 65th: LONG, at its last wire byte
unfoldable pub kept : ℕ → ℕ → Turn
kept count b = cond (ltb count most_content) (Keep b) (Tell Long)

-- 3. FF waits for its partner; every other byte stands for itself
unfoldable pub plain : ℕ → ℕ → Turn
plain count b = cond (eqb b 0xFF) Wait (kept count b)

-- 3. 00, 01, 02 give FF, FE, FD; another byte, FE included: PAIR, at that byte
unfoldable pub partner : ℕ → ℕ → Turn
partner count p = cond (leb p 0x02) (kept count (0xFF - p)) (Tell Pair)

-- 2. on the addressed line the first byte after FD, before which there is no content byte, is the raw address, if neither FD nor FE; if
-- this station does not take it, FF included: ADDR, at that byte
unfoldable pub content_byte : Station → ℕ → ℕ → Turn
content_byte Point count b = plain count b
content_byte (Addressed own) count b = cond (eqb count 0) (cond (takes own b) (kept count b) (Tell Addr)) (plain count b)

-- 1. FE ends the frame, unless it directly follows a pending FF
unfoldable pub inside : Station → ℕ → ℕ → Turn
inside station count b = cond (eqb b stop) Stop (content_byte station count b)

-- outside a frame everything but FD is ignored; after an FF a byte is its partner
unfoldable pub within : Station → Phase → ℕ → ℕ → Turn
within station Outside count b = Rest
within station Inside count b = inside station count b
within station Pending count b = partner count b

-- FD begins a frame from every state, also after FF and inside a frame
unfoldable pub turn : Station → Phase → ℕ → ℕ → Turn
turn station phase count b = cond (eqb b start) Begin (within station phase count b)
