use Rattle.promises.proofs.opens_body.Goals as goal

-- Opening answers as promised.
pub returns : goal.returns
returns c = (c.«open».ensures.value, c.«open».ensures.buf_after)
