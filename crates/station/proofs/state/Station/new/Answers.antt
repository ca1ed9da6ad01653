use Rattle.std.proofs.Common.{rules}
use Rattle.mode.specs.Pairs.{maps, lawful}
use Rattle.station.proofs.Places.{kept}
use Rattle.station.proofs.state.Station.new.Goals as goal

pub returns-clause-lasts : goal.returns-clause-lasts
returns-clause-lasts g c =
    kept (maps g.C.Cipher g.M.Masking) c.args.pair c.args.own c.args.peer c.args.start c.args.floor _
    (lawful g.C.Cipher g.M.Masking c.args.pair) (search rules)
