-- The three demands hold.
-- Assumes nothing.
use mathlib.Core.Path.{sym}
use Rattle.ground.proofs.Laws.Laying.{put_refused, put-placed, put_keeps}
use Rattle.wire_spec.proofs.Laws.Unstuffing.{unstuffing-stuffing}
use Rattle.wire_spec.proofs.Laws.Writing.{length-refused, length-answered, written-short, written-whole, written_keeps}
use Rattle.link_spec.specs.declared.station.Station.TheVariants.{Point, Addressed}
use Rattle.link_spec.specs.Receiving.{fresh_receiver}
use Rattle.link_spec.proofs.Laws.Frame.{point-residue}
use Rattle.link_spec.proofs.Laws.Writers.{point-by-table, point-only, point-writes, addressed-by-table, addressed-only, addressed-writes, point-keeps, addressed-keeps}
use Rattle.link_spec.proofs.Laws.Receiving as receiving
use Rattle.link_spec.proofs.Laws.Receiving.{received-keeps}
use Rattle.link_spec.proofs.Laws.Fresh.{refuses-new, new-only, fresh-point, fresh-station}
use Rattle.link_spec.proofs.Laws.Hearing.{hearing-some}
use Rattle.link_spec.proofs.Laws.Demand.{hearing-lists, cuts-free}
use Rattle.link_spec.proofs.Laws.Listed.{point-listed, addressed-listed}
use Rattle.request_spec.specs.Requesting.{frame}
use Rattle.request_spec.proofs.Laws.Requesting as requesting
use Rattle.request_spec.proofs.Laws.Requesting.{request-keeps, request-heard}
use Rattle.request_spec.proofs.Laws.Reading as reading
use Rattle.reader_spec.specs.State.{fresh_state}
use Rattle.reader_spec.proofs.Laws.State.{reader_with}
use Rattle.reader_spec.proofs.Laws.Answering as answering
use Rattle.reader_spec.proofs.Laws.Answering.{answered-keeps, power-by-table, power-only, powered-keeps}
use Rattle.reader_spec.proofs.Laws.Sessions.{power-fine, session-sends, repeat-stored, fresh-session}
use Rattle.reader_spec.proofs.Laws.Some.{call-some, call-fine}
use Rattle.reader_spec.proofs.Laws.Idle.{call-keeps}
use Rattle.reader_spec.proofs.Laws.Repeats.{executed-repeats}
use Rattle.reader_spec.proofs.Laws.Values.{written_read}
use Rattle.tape_spec.specs.Whole.{parts, entries, fresh_receivers}
use Rattle.tape_spec.proofs.Laws.Taping.{refuses-state, refuses-room, lists-chunk, listed-keeps}
use Rattle.tape_spec.proofs.Laws.Sessions.{listing-is, listing-shows, listing-some}
use Rattle.totals_spec.proofs.Laws.Adding.{add-refused, adds, added-keeps, report-bad, report-long, reports}
use Rattle.demands.specs.Refusing.{RefusesByTable, RefusedChangesNothing}
use Rattle.demands.specs.Demands.{Demand1, Demand2, Demand3}
use Rattle.demands.proofs.Laws.Refusing.{put-stops, length-counts, image-counts, point-counts, addressed-counts, request-counts, new-refused, received-silent, received-unrefused, reply-meaningless, listed-counts, reported-zeros}
use Rattle.demands.proofs.Laws.Exchange.{exchange, nack-exchange}
use Rattle.demands.proofs.Laws.Requests.{request-executed, speed-nacked, code-nacked, data-nacked, check-answered, other-silent}
use Rattle.demands.proofs.Laws.Going.{receiver-goes-on, tape-goes-on}

refuses-by-table : RefusesByTable
refuses-by-table =
    record {
      puts = λ bytes out at. (put_refused bytes out at, put-placed bytes out at);
      asks_length = λ content. (length-refused content, length-answered content);
      writes_image = λ content out. (written-short content out, written-whole content out);
      point = λ identifier command «data» out. record { row = point-by-table identifier command «data» out; only = point-only identifier command «data» out };
      addressed = λ address identifier command «data» out. record {
        row = addressed-by-table address identifier command «data» out;
        only = addressed-only address identifier command «data» out;
      };
      station = λ own. record { row = refuses-new own; only = new-only };
      receiver = λ s piece. record { row = receiving.by-table s piece; only = receiving.table-only s piece };
      receives = received-unrefused;
      request = λ identifier code «data» out. record {
        row = requesting.by-table identifier code «data» out;
        only = requesting.table-only identifier code «data» out;
      };
      reader = λ s i lent. record { row = answering.by-table s i lent; only = answering.table-only s i lent };
      power = λ s. record { row = power-by-table s; only = power-only };
      master = λ identifier code «data» reply. record {
        row = reading.by-table identifier code «data» reply;
        only = reading.table-only identifier code «data» reply;
      };
      tape = λ t chunk out. (refuses-state t chunk out, refuses-room t chunk out, lists-chunk t chunk out);
      adds = λ t chunk. (add-refused t chunk, adds t chunk);
      reports = λ t. (report-bad t, report-long t, reports t);
    }

refused-changes-nothing : RefusedChangesNothing
refused-changes-nothing =
    record {
      puts = λ bytes out at. (put_keeps bytes out at, put-stops bytes out at);
      asks_length = length-counts;
      writes_image = λ content out. (written_keeps content out, image-counts content out);
      point = λ identifier command «data» out. (point-keeps identifier command «data» out, point-counts identifier command «data» out);
      addressed = λ address identifier command «data» out. (
        addressed-keeps address identifier command «data» out,
        addressed-counts address identifier command «data» out,
      );
      station = new-refused;
      receiver = λ s piece. let silent = received-silent s piece in (received-keeps s piece, silent.0, silent.1, silent.2);
      request = λ identifier code «data» out. (request-keeps identifier code «data» out, request-counts identifier code «data» out);
      reader = answered-keeps;
      power = powered-keeps;
      master = reply-meaningless;
      tape = λ t chunk out. let k = listed-keeps t chunk out in let n = listed-counts t chunk out in (k.0, k.1, n.0, n.1);
      adds = added-keeps;
      reports = reported-zeros;
    }

pub demand-1 : Demand1
demand-1 = record { refuses = refuses-by-table; keeps = refused-changes-nothing }

pub demand-2 : Demand2
demand-2 =
    record {
      point_writes = point-writes;
      addressed_writes = addressed-writes;
      request_writes = λ identifier code «data» out asked room. sym (requesting.table-only identifier code «data» out (frame asked room));
      point_heard = point-listed;
      addressed_heard = addressed-listed;
      request_heard = request-heard;
      check = point-residue;
      stuffed = unstuffing-stuffing;
      answers = λ se c. record {
        sends = session-sends se c;
        recalls = repeat-stored se c;
        fine = call-fine se c;
        executes = λ identifier code «data» asks row few. request-executed se c identifier code «data» asks row few;
        nacks_speed = λ identifier code «data» asks slow write. speed-nacked se c identifier code «data» asks slow write;
        nacks_code = λ identifier code «data» asks none. code-nacked se c identifier code «data» asks none;
        nacks_data = λ identifier code «data» other asks row none. data-nacked se c identifier code «data» asks other row none;
        nacks_check = check-answered se c;
        silent = other-silent se c;
        keeps = call-keeps se c;
        read = exchange se c;
      };
      begins = λ alone fast store. (reader_with (fresh_state fast), fresh-session store fast);
      goes_on = call-some;
      powers = power-fine;
      nack_read = nack-exchange;
      values = written_read;
      repeats = λ se first done does idle again. executed-repeats se first done does idle again;
    }

pub demand-3 : Demand3
demand-3 =
    record {
      lists = hearing-lists;
      cuts = cuts-free;
      goes_on = receiver-goes-on;
      point = (fresh_receiver Point, fresh-point);
      station = λ own good. (fresh_receiver (Addressed own), fresh-station own good);
      some = hearing-some;
      tape = λ {bytes} l. let shows = listing-shows l in (entries 0 fresh_receivers (parts 0 bytes).records, shows.0, shows.1);
      tape_cuts = listing-is;
      tape_goes_on = tape-goes-on;
      tape_some = listing-some;
    }
