-- What a station's frames have: which check, and on the addressed line an address that it takes.
-- 01, The two lines; Layout of a frame, the table and 'Addresses'. Assumes nothing.
use Rattle.std.specs.Prelude.{ℕ, ◌≡◌, Bool, true, List, [], ◌∷◌}
use Rattle.checks.specs.declared.kind.Check.{Check}
use Rattle.checks.specs.declared.kind.Check.TheVariants.{Fcs, Sum}
use Rattle.checks.specs.Check.{with_check}
use Rattle.link_spec.specs.declared.station.Station.{Station}
use Rattle.link_spec.specs.declared.station.Station.TheVariants.{Point, Addressed}
use Rattle.link_spec.specs.Address.{is_station, takes}

-- the point line's frames have an FCS, the addressed line's a sum
abbrev pub check_on : Station → Check
check_on Point = Fcs
check_on (Addressed own) = Sum

-- what stands before the check, with the line's check after it: a content
abbrev pub checked : Station → List ℕ → List ℕ
checked station front = with_check (check_on station) front

-- on the addressed line, whether a station may have this address
abbrev pub has_address : Station → Bool
has_address Point = true
has_address (Addressed own) = is_station own

-- on the addressed line a content begins with an address, and this station takes it; on the point line there is none, nor in a content
-- with no byte yet
abbrev pub AddressTaken : Station → List ℕ → Type 0
AddressTaken Point content = Unit {0}
AddressTaken (Addressed own) [] = Unit {0}
AddressTaken (Addressed own) (address ∷ more) = takes own address ≡ true
