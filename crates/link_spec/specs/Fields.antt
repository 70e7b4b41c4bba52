-- What a listed frame says, and that it is byte for byte the image that the line's writer writes of it: what the desk may ask of demand 3.
-- 01, How much each call must say, names the demand; Layout of a frame, the table and the last paragraph. Assumes nothing.
use Rattle.std.specs.Prelude.{ℕ, ◌≤◌, ◌≡◌, true, List, ◌∷◌, length}
use Rattle.wire_spec.specs.Image.{image}
use Rattle.wire_spec.specs.Writing.{After, putting}
use Rattle.link_spec.specs.declared.station.Station.{Station}
use Rattle.link_spec.specs.declared.station.Station.TheVariants.{Point, Addressed}
use Rattle.link_spec.specs.Address.{takes}
use Rattle.link_spec.specs.Station.{checked}
use Rattle.link_spec.specs.Frame.{point_content, addressed_content}
use Rattle.link_spec.specs.Writers.{point_written, addressed_written}
use Rattle.link_spec.specs.Listing.{Stands}

-- where there is room, this writer writes the image of this content
abbrev pub Writes : (List ℕ → After) → List ℕ → Type 0
Writes writer content = (out : List ℕ) → length (image content) ≤ length out → writer out ≡ putting content out

-- What a front lists, and the content with its check that belongs to it: identifier, command and data, on the addressed line with an
-- address before them that this station takes. The line's writer, asked to write these, writes the image of that content.
pub data Fields : Station → List ℕ → List ℕ → Type 0 where
  on_point : (identifier command : ℕ) («data» : List ℕ)
      → Writes (point_written identifier command «data») (point_content identifier command «data»)
      → Fields Point (identifier ∷ command ∷ «data») (point_content identifier command «data»)
  on_addressed : {own : ℕ} (address identifier command : ℕ) («data» : List ℕ)
      → takes own address ≡ true
      → Writes (addressed_written address identifier command «data») (addressed_content address identifier command «data»)
      → Fields (Addressed own) (address ∷ identifier ∷ command ∷ «data») (addressed_content address identifier command «data»)

-- what stands in the stream is the image that the writer writes of what the front lists
pub record IsImage (station : Station) (stream : List ℕ) (place : ℕ) (front : List ℕ) : Type 0 where
  pub stands : Stands station stream place front
  pub fields : Fields station front (checked station front)
