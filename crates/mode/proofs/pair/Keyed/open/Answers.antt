use Rattle.std.proofs.Common.{subst, rules}
use Rattle.block.specs.BytesLaws.{bytes_from}
use Rattle.mode.specs.declared.value.Mode.{Mode}
use Rattle.mode.specs.Pairs.{maps, lawful}
use Rattle.mode.specs.Body.{BodyDone}
use Rattle.mode.proofs.Whole.{opened, only}
use Rattle.mode.proofs.pair.Keyed.open.Goals as goal

pub returns : goal.returns
returns g c =
    let w = maps g.C.Cipher g.M.Masking c.args.self.now.pair.now in
    let laws = lawful g.C.Cipher g.M.Masking c.args.self.now.pair.now in
    let P : Mode → Type 0 = λ m. BodyDone (maps g.C.Cipher g.M.Masking c.args.self.now.pair.now) m c.args.nonce c.args.sealed.now c.cipher_body-body.new.out c.cipher_body-body.result in
    let h = bytes_from c.args.sealed.now (λ i. search rules) in
    let t = subst P c.other.ensures c.cipher_body-body.ensures in
    record {
      seals =
          opened w laws c.args.mode c.args.nonce (search rules) c.args.header.now c.args.sealed.now c.cipher_body-body.new.out c.cipher_body-body.result
          c.args.self.now.delta_one c.message_tag.result c.header_tag.result h t c.args.self.now.one c.message_tag.ensures c.header_tag.ensures;
      only =
          only w laws c.args.mode c.args.nonce (search rules) c.args.header.now c.args.sealed.now c.cipher_body-body.new.out c.cipher_body-body.result
          c.args.self.now.delta_one c.message_tag.result c.header_tag.result h t c.args.self.now.one c.message_tag.ensures c.header_tag.ensures;
    }
