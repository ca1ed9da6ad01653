use Rattle.std.proofs.Common.{◌∙◌, arith}
use Rattle.mode.specs.Pairs.{maps}
use Rattle.frame.proofs.Framing.{framed}
use Rattle.frame.proofs.sealing.Content.write.Goals as goal

pub returns : goal.returns
returns g c m e =
    record {
      mode = c.args.self.now.mode;
      mode_is = e;
      clear_short = c.args.self.now.clear_short;
      message_short = c.args.self.now.message_short;
      length_is = omega arith;
      room = omega arith;
      out_is =
          framed (maps g.C.Cipher g.M.Masking c.args.pair.now) c.args.self.now.mode c.args.self.now.sender c.args.self.now.number
          c.args.self.now.clear.now c.args.self.now.message.now c.args.out.now c.copy_from_slice.new.self c.copy_from_slice-2.new.self c.seal_behind.new.buf c.store.new.bytes c.load-nonce.result
          c.in_ok-tag.tag (omega arith) (c.copy_from_slice.ensures.after ∙ c.head.ensures) c.copy_from_slice-2.ensures.after c.load-nonce.ensures c.in_ok-tag.ensures c.store.ensures;
    }
