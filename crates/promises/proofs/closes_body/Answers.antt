use Rattle.promises.proofs.closes_body.Goals as goal

-- Closing answers as promised.
pub returns : goal.returns
returns c = (c.close.ensures.value, c.close.ensures.buf_after)
