-- The padding stands in the block from the start, and v is copied before it.
use Rattle.std.proofs.Common.{◌∙◌, arith}
use Rattle.standard.specs.Strings.{bytes_of}
use Rattle.standard.specs.Hash.{padding, zeros}
use Rattle.copies.proofs.Pasted.{pasted}
use Rattle.drbg_hmac.proofs.hmac.last_block.Goals as goal

pub returns : goal.returns
unfolding padding zeros bytes_of
returns c = c.copy.ensures ∙ pasted _ c.args.v.now 0 32 (omega arith)
