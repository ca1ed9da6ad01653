use Rattle.mode.specs.Pairs.{maps}
use Rattle.frame.proofs.Opening.{frame_opens}
use Rattle.frame.proofs.sealing.open.Goals as goal

pub returns : goal.returns
returns g c =
    frame_opens (maps g.C.Cipher g.M.Masking c.args.pair.now) c.args.frame.now c.in_ok-parts.field-0 c.in_ok-parts.ensures
    c.args.out.now c.open.new.out c.open.result c.open.ensures
