-- `run`: both counts that it proves follow from the statements of writer and receiver, computed on the paper's first frame.
use Rattle.std.proofs.Common.{◌≡◌, [], ap, ap₂, ◌∙◌, take, replicate}
use Rattle.checks.specs.Fcs.{shift_step, shift_steps, byte_step, run, residue, fcs, fcs_bytes}
use Rattle.checks.specs.Check.{check_of, with_check, front, came, alike, is_right}
use Rattle.wire_spec.specs.Stuffing.{stuffed, stuffing}
use Rattle.wire_spec.specs.Image.{image}
use Rattle.wire_spec.specs.Writing.{After, image_written}
use Rattle.link_spec.specs.declared.receiver.Receiver.{Receiver}
use Rattle.link_spec.specs.declared.station.Station.TheVariants.{Point}
use Rattle.link_spec.specs.Frame.{point_content}
use Rattle.link_spec.specs.Writers.{written_unless, point_written}
use Rattle.link_spec.specs.Events.{verdict, length_told}
use Rattle.link_spec.specs.Turning.{kept, plain, content_byte, inside, within, turn}
use Rattle.link_spec.specs.Receiving.{fresh_receiver, Said, moved, outcome, heard, received}
use Rattle.example.proofs.run.Goals as goal

-- what the writer leaves of the request for the device header
written : After
written = point_written 0x00 0x00 [] (replicate 8 0)

counts : {a : After} → a ≡ written → a.tally.count ≡ 6
unfolding written stuffed stuffing image shift_step shift_steps byte_step run residue fcs fcs_bytes check_of with_check point_content image_written
    written_unless point_written
counts says = ap (λ (l : After). l.tally.count) says

-- what the receiver says of the six bytes that were written
said : Said
said = received (fresh_receiver Point) (take 6 written.out)

hears : {a : After} {r : Receiver} {s : Said} → a ≡ written → r ≡ fresh_receiver Point → s ≡ received r (take a.tally.count a.out) → s ≡ said
unfolding said
hears wrote fresh says = says ∙ ap₂ received fresh (ap₂ take (counts wrote) (ap (λ (a : After). a.out) wrote))

carries : {s : Said} → s ≡ said → s.length ≡ 2
unfolding written said stuffed stuffing image shift_step shift_steps byte_step run residue fcs fcs_bytes check_of with_check point_content image_written
    written_unless point_written front came alike is_right kept plain content_byte inside within turn verdict moved outcome heard received
carries says = ap (λ (s : Said). s.length) says

pub prove-unreachable-requires : goal.prove-unreachable-requires
unfolding written
prove-unreachable-requires c = c.if-prove.true (counts (rw c.in_ok-count.was at c.write_point.ensures))

pub prove-unreachable-requires-2 : goal.prove-unreachable-requires-2
unfolding written
prove-unreachable-requires-2 c =
    let two : length_told c.in_ok-heard.heard.told ≡ 2 =
    carries (hears (rw c.in_ok-count.was at c.write_point.ensures) c.fresh_point.ensures (rw c.in_ok-heard.was at c.receive.ensures)) in
    c.if-prove-2.true (rw c.in-Some.is at two)
