use Rattle.mode.specs.Pairs.{maps, lawful}
use Rattle.mode.specs.Stands.{stands}
use Rattle.mode.proofs.pair.Pair.new.Goals as goal

pub returns-clause-stands : goal.returns-clause-stands
returns-clause-stands g c =
    stands (maps g.C.Cipher g.M.Masking record { cipher = c.args.cipher; masking = c.args.masking })
    (lawful g.C.Cipher g.M.Masking record { cipher = c.args.cipher; masking = c.args.masking })
