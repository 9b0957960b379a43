use Rattle.listing.proofs.Counting.{listed_count, room_count}
use Rattle.listing.proofs.message_count.Goals as goal

pub returns-in-Ok : goal.returns-in-Ok
returns-in-Ok c = λ p accepts. listed_count _ _ _ _ _ _ _ c.list_messages.ensures.value p accepts _ c.in-Ok.is

pub returns-in-Err : goal.returns-in-Err
returns-in-Err c = λ p accepts. room_count _ _ _ _ _ _ _ c.list_messages.ensures.value p accepts _ c.in-Err.is
