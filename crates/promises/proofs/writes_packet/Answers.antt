use Rattle.std.proofs.Common.{arith}
use Rattle.units.proofs.Numbers.{bytes_known}
use Rattle.promises.proofs.writes_packet.Goals as goal

-- The writer answers as promised, on contents of its types.
pub returns : goal.returns
returns c =
    let t = c.hold_types.ensures in record {
      write_packet = (c.write_packet.ensures.value, c.write_packet.ensures.out_after);
      typed = record {
        channel = t.0;
        version = t.1;
        sequence = t.2;
        flags = t.3;
        kind = t.4;
        rtc = t.5;
        time = t.6;
        body = bytes_known _ (λ i. omega (arith, c.type_inv.body i));
      };
    }
