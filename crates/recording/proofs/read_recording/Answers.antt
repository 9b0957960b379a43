use Rattle.recording.proofs.Readings.{recording_outside}
use Rattle.recording.proofs.read_recording.Goals as goal

pub read_packets-requires : goal.read_packets-requires
read_packets-requires c = c.in-Ok.ensures.inside.0

pub returns-in-Err : goal.returns-in-Err
returns-in-Err c = let no = c.in-Err.ensures.outside in recording_outside _ _ _ _ _ no.0 no.1
