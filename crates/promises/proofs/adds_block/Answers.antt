use Rattle.promises.proofs.adds_block.Goals as goal

-- Adding answers as promised, on numbers of its types.
pub returns : goal.returns
returns c = record { add = (c.add.ensures.value, c.add.ensures.buf_after); time_bound = (c.ranges.time.fits, c.ranges.upper.fits) }
