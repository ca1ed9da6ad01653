use Rattle.std.proofs.Common.{rules}
use Rattle.block.specs.BytesLaws.{bytes_from}
use Rattle.mode.specs.Pairs.{maps}
use Rattle.mode.proofs.Whole.{sealed}
use Rattle.mode.proofs.pair.Keyed.seal.Goals as goal

pub returns : goal.returns
returns g c =
    sealed (maps g.C.Cipher g.M.Masking c.args.self.now.pair.now) c.args.mode c.args.nonce c.args.header.now c.args.message.now c.cipher_body-body.new.out c.cipher_body-body.result
    c.args.self.now.delta_one c.message_tag.result c.header_tag.result
    (bytes_from c.args.message.now (λ i. search rules)) c.cipher_body-body.ensures c.args.self.now.one c.message_tag.ensures c.header_tag.ensures
