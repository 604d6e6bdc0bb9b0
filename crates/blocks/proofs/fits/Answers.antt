-- Whether a block fits: lists and marks first, so that what is subtracted then is there.
use Rattle.blocks.proofs.Fitting.{block-judged, block_refused}
use Rattle.blocks.proofs.fits.Goals as goal

pub returns-then-room-c : goal.returns-then-room-c
returns-then-room-c c = let a = c.args in block-judged a.m a.marked a.at a.room a.progress a.octets c.if-room-c.true

pub returns : goal.returns
returns c = let a = c.args in block_refused a.m a.marked a.at a.room a.progress a.octets c.if-room-c.false
