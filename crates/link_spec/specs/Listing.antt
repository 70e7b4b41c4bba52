-- Demand 3: which frames a hearing of a stream has to tell. README has the rule that crew and desk signed: a frame counts when its
-- complete wire image stands in the stream, and otherwise it does not. `Stands` and `Lists` are built from images, checks and addresses
-- alone. 01, How much each call must say, names the demand. Assumes nothing.
use Rattle.std.specs.Prelude.{ℕ, ◌+◌, ◌≤◌, ◌<◌, ◌≡◌, length}
use mathlib.Core.List.{List, [], ◌∷◌, ◌++◌, Memᴰ}
use Rattle.wire_spec.specs.Limits.{most_content}
use Rattle.wire_spec.specs.Image.{image}
use Rattle.link_spec.specs.declared.station.Station.{Station}
use Rattle.link_spec.specs.Limits.{least_content}
use Rattle.link_spec.specs.Station.{checked, AddressTaken}
use Rattle.link_spec.specs.Events.{FRAME}
use Rattle.link_spec.specs.Hearing.{Told, told_at}

-- The complete wire image of a content stands in the stream and ends at this place. The content is this front with its check after it;
-- it has 4 to 64 bytes, and on the addressed line its address is one that this station takes.
pub record Stands (station : Station) (stream : List ℕ) (place : ℕ) (front : List ℕ) : Type 0 where
  pub before : List ℕ
  pub after : List ℕ
  pub split : stream ≡ before ++ (image (checked station front) ++ after)
  pub ends : place ≡ length before + length (image (checked station front))
  pub least : least_content ≤ length (checked station front)
  pub most : length (checked station front) ≤ most_content
  pub address : AddressTaken station (checked station front)

-- places strictly rise, and are after this one
abbrev pub PlacesRise : ℕ → List Told → Type 0
PlacesRise before [] = Unit {0}
PlacesRise before (t ∷ ts) = (before < t.place) × PlacesRise t.place ts

-- the FRAMEs told are exactly those that stand in the stream, each once, in stream order
pub record Lists (station : Station) (stream : List ℕ) (all : List Told) : Type 0 where
  pub rise : PlacesRise 0 all
  pub each : (place : ℕ) (front : List ℕ) → Stands station stream place front → Memᴰ (told_at place FRAME front) all
  pub only : (place : ℕ) (front : List ℕ) → Memᴰ (told_at place FRAME front) all → Stands station stream place front
