use Rattle.std.proofs.Common.{rules}
use Rattle.block.specs.BytesLaws.{bytes_from}
use Rattle.mode.specs.Pairs.{maps}
use Rattle.frame.proofs.Framing.{seals_frame}
use Rattle.frame.proofs.sealing.seal.Goals as goal

pub returns-clause-seals : goal.returns-clause-seals
returns-clause-seals g c =
    seals_frame (maps g.C.Cipher g.M.Masking c.args.pair.now)
    record { cipher = g.C.Cipher.laws c.args.pair.now.cipher; masking = g.M.Masking.laws c.args.pair.now.masking } c.args.sender c.args.number c.args.mode c.args.clear.now c.args.message.now
    c.args.out.now c.write.new.out (search rules) (bytes_from c.args.clear.now (λ i. search rules)) (bytes_from c.args.message.now (λ i. search rules)) c.write.result (search rules)
