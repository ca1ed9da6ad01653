use Rattle.std.proofs.Common.{div-one}
use Rattle.block.specs.Bytes.{bytes_of}
use Rattle.frame.specs.Form.{head_of}
use Rattle.frame.proofs.sealing.Content.head.Goals as goal

pub returns : goal.returns
unfolding head_of bytes_of
returns c =
    simp (
      c.from.ensures,
      c.copy_from_slice.ensures.after,
      c.copy_from_slice-2.ensures.after,
      c.copy_from_slice-3.ensures.after,
      c.copy_from_slice-4.ensures.after,
      c.copy_from_slice-5.ensures.after,
      c.to_be_bytes.ensures,
      c.to_be_bytes-2.ensures,
      c.to_be_bytes-3.ensures,
      c.to_be_bytes-4.ensures,
      c.to_be_bytes-5.ensures,
      div-one,
    )
